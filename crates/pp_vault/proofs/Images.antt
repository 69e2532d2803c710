-- Images that stay, leave their frame, and come into it.
use Rattle.std.proofs.Common.{◌≡◌, ◌≢◌, ◌∙◌, ◌⊎◌, ℕ, ◌<◌, Bool, true, false, Option, Some, None, List, length}
use Rattle.std.proofs.Common.{not, refl, sym, ap, subst, inl, inr, arith}
use Rattle.std.specs.Prelude.{slice_set, unwrap_or, ◌==◌, if◌then◌else◌}
use Rattle.std.specs.Option.{is_some}
use Rattle.std.proofs.lemmas.Bool.{false≢true}
use Rattle.std.proofs.lemmas.Bool.Decides.{nat_tests}
use Rattle.std.proofs.lemmas.List.{get_or-set_same, get_or-set_other, length-set}
use Rattle.pp_model.specs.Pool.{State}
use Rattle.pp_model.specs.Ready.{Standing, ready_at, is_away_at, ImageGoes, ImageComes, Keeps}
use Rattle.pp_model.proofs.Requests.{same, other, which}
use Rattle.pp_device.specs.Image.{head_of}
use Rattle.pp_vault.specs.StandsFor.{image_in, ReadyAreRight, ImagesFit}

abbrev Images : Type 0
Images = List (Option (List ℕ))

-- ---- tests

not_not : (b : Bool) → not (not b) ≡ b
not_not true = refl
not_not false = refl

same_test : (g f : ℕ) → g ≡ f → (g == f) ≡ true
same_test g f e = grind (arith, nat_tests)

other_test : (g f : ℕ) → g ≢ f → (g == f) ≡ false
other_test g f d = grind (arith, nat_tests)

-- ---- one frame

pub in_here : (xs : Images) (f : ℕ) (x : Option (List ℕ)) → f < length xs → image_in (slice_set xs f x) f ≡ x
in_here xs f x lt = get_or-set_same xs f x None lt

pub in_there : (xs : Images) (f g : ℕ) (x : Option (List ℕ)) → g ≢ f → image_in (slice_set xs f x) g ≡ image_in xs g
in_there xs f g x d = get_or-set_other xs f g x None d

-- A frame of another name, or the same.
here_or_there : (xs : Images) (f g : ℕ) (x : Option (List ℕ)) → f < length xs
    → ((g ≡ f) × (image_in (slice_set xs f x) g ≡ x)) ⊎ ((g ≢ f) × (image_in (slice_set xs f x) g ≡ image_in xs g))
here_or_there xs f g x lt =
    elim (which g f) [
      | same d e ↦ inl (d, ap (image_in (slice_set xs f x)) d ∙ in_here xs f x lt)
      | other d e ↦ inr (d, in_there xs f g x d)
    ]

none_some : {b : List ℕ} → ◌≡◌ {A = Option (List ℕ)} None (Some b) → ⊥
none_some {b} e = false≢true (ap is_some e)

some_is : {a b : List ℕ} → ◌≡◌ {A = Option (List ℕ)} (Some a) (Some b) → a ≡ b
some_is {a} {b} e = ap (λ o. unwrap_or o a) e

-- Whether an image is there, after one went from a frame or came into it.
moved : (xs : Images) (s t : State) (f : ℕ) (x : Option (List ℕ)) → f < length xs
    → ((g : ℕ) → g < length xs → is_some (image_in xs g) ≡ not (is_away_at s g))
    → ((g : ℕ) → is_away_at t g ≡ (if g == f then not (is_some x) else is_away_at s g))
    → (g : ℕ) → g < length (slice_set xs f x) → is_some (image_in (slice_set xs f x) g) ≡ not (is_away_at t g)
moved xs s t f x low there now g lt =
    elim (here_or_there xs f g x low) [
      | inl here ↦
          ap is_some here.1 ∙ sym (not_not (is_some x))
          ∙ ap not (sym (now g ∙ ap (λ b. if b then not (is_some x) else is_away_at s g) (same_test g f here.0)))
      | inr away ↦
          ap is_some away.1 ∙ there g (subst (λ m. g < m) (length-set xs f x) lt)
          ∙ ap not (sym (now g ∙ ap (λ b. if b then not (is_some x) else is_away_at s g) (other_test g f away.0)))
    ]

module _ (n : ℕ) (xs : Images) (spare : Option (List ℕ)) (s t : State) (fit : ImagesFit n xs spare s)
    (frames : t.settings.layout.frames ≡ s.settings.layout.frames) where
  -- ---- nothing moves

  pub fit_stays : Keeps s t → (t.flush ≡ None → s.flush ≡ None) → ImagesFit n xs spare t
  fit_stays keeps flush =
      record {
        wide = fit.wide;
        frames = fit.frames ∙ sym frames;
        long = fit.long;
        there = λ g lt. fit.there g lt ∙ ap not (sym (keeps.away g));
        right = λ p x e. fit.right p x (sym (keeps.ready p) ∙ e);
        spare_there = λ e. fit.spare_there (flush e);
        spare_long = fit.spare_long;
      }

  -- ---- an image leaves its frame

  module _ (f : ℕ) (low : f < length xs) where
    out_long : (g : ℕ) (b : List ℕ) → image_in (slice_set xs f None) g ≡ Some b → length b ≡ n
    out_long g b e =
        elim (here_or_there xs f g None low) [
          | inl here ↦ absurd (none_some (sym here.1 ∙ e))
          | inr away ↦ fit.long g b (sym away.1 ∙ e)
        ]

    -- Pages that are ready stand in other frames.
    out_right : ((p : ℕ) (x : Standing) → ready_at t p ≡ Some x → (ready_at s p ≡ Some x) × (x.frame ≢ f))
        → ReadyAreRight (slice_set xs f None) t
    out_right before p x e =
        let was = before p x e in
        let right = fit.right p x was.0 in
        record {
          image = right.image;
          there = in_there xs f x.frame None was.1 ∙ right.there;
          head = right.head;
        }

    pub fit_out : ImageGoes s t f
        → ((p : ℕ) (x : Standing) → ready_at t p ≡ Some x → (ready_at s p ≡ Some x) × (x.frame ≢ f))
        → (t.flush ≡ None → s.flush ≡ None) → ImagesFit n (slice_set xs f None) spare t
    fit_out goes before flush =
        record {
          wide = fit.wide;
          frames = length-set xs f None ∙ fit.frames ∙ sym frames;
          long = out_long;
          there = moved xs s t f None low fit.there goes.now;
          right = out_right before;
          spare_there = λ e. fit.spare_there (flush e);
          spare_long = fit.spare_long;
        }

    -- ---- an image comes into its frame

    module _ (b : List ℕ) (long : length b ≡ n) (comes : ImageComes s t f) where
      in_long : (g : ℕ) (a : List ℕ) → image_in (slice_set xs f (Some b)) g ≡ Some a → length a ≡ n
      in_long g a e =
          elim (here_or_there xs f g (Some b) low) [
            | inl here ↦ subst (λ x. length x ≡ n) (some_is (sym here.1 ∙ e)) long
            | inr away ↦ fit.long g a (sym away.1 ∙ e)
          ]

      -- A page that is ready stands in another frame as before, or in this one, and the image names it.
      pub fit_in : ((p : ℕ) (x : Standing) → ready_at t p ≡ Some x
          → ((ready_at s p ≡ Some x) × (x.frame ≢ f)) ⊎ ((x.frame ≡ f) × (head_of b ≡ (p, x.mark))))
          → (t.flush ≡ None → s.flush ≡ None) → ImagesFit n (slice_set xs f (Some b)) spare t
      fit_in before flush =
          record {
            wide = fit.wide;
            frames = length-set xs f (Some b) ∙ fit.frames ∙ sym frames;
            long = in_long;
            there = moved xs s t f (Some b) low fit.there comes.now;
            right = right;
            spare_there = λ e. fit.spare_there (flush e);
            spare_long = fit.spare_long;
          }
        where
          right : ReadyAreRight (slice_set xs f (Some b)) t
          right p x e =
              elim (before p x e) [
                | inl was ↦
                    let is = fit.right p x was.0 in
                    record {
                      image = is.image;
                      there = in_there xs f x.frame (Some b) was.1 ∙ is.there;
                      head = is.head;
                    }
                | inr now ↦
                    record {
                      image = b;
                      there = ap (image_in (slice_set xs f (Some b))) now.0 ∙ in_here xs f (Some b) low;
                      head = now.1;
                    }
              ]
