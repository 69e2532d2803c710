-- Which frames have their image away, from what is known page by page.
use Rattle.std.proofs.Common.{◌≡◌, ◌≢◌, ◌∙◌, ℕ, ◌<◌, Bool, true, false, eqb, cond, Option, Some, None, length}
use Rattle.std.proofs.Common.{get_or, refl, sym, ap, inl, inr, arith}
use Rattle.std.specs.List.{range_with_len}
use Rattle.std.proofs.lemmas.Bool.{false≢true, cases_lt, eqb-true}
use Rattle.std.proofs.lemmas.Bool.Decides.{nat_tests}
use Rattle.std.proofs.lemmas.List.{get_or_past}
use Rattle.std.proofs.lemmas.List.Folds.{Any-from_list_any, list_any_at}
use Rattle.std.proofs.lemmas.List.FromFn.{length-range_with_len, get_or-range_with_len}
use Rattle.pp_model.specs.Pool.{Note, State, untouched, frame_of}
use Rattle.pp_model.specs.Ready.{is_away, frame_if, away_from, is_frame, is_away_at, AwayStay, ImageGoes, ImageComes}

-- ---- tests

same_bool : (a b : Bool) → (a ≡ true → b ≡ true) → (b ≡ true → a ≡ true) → a ≡ b
same_bool true b there back = sym (there refl)
same_bool false true there back = back refl
same_bool false false there back = refl

is_itself : (k : ℕ) → is_frame k (Some k) ≡ true
is_itself k = grind (arith, nat_tests)

it_is : (k : ℕ) (o : Option ℕ) → is_frame k o ≡ true → o ≡ Some k
it_is k None e = absurd (false≢true e)
it_is k (Some f) e = ap Some (eqb-true f k e)

-- A page whose image is away has a frame.
pub away_placed : (away : Bool) (o : Option ℕ) (f : ℕ) → frame_if away o ≡ Some f → o ≡ Some f
away_placed true o f e = e
away_placed false o f e = cc

away_low : (s : State) (q f : ℕ) → away_from s q ≡ Some f → q < length s.notes
away_low s q f e =
    elim (cases_lt q (length s.notes)) [
      | inl lt ↦ lt
      | inr le ↦
          let none : frame_of s q ≡ None = ap (λ (x : Note). x.frame) (get_or_past s.notes q untouched le) in
          let no_frame : ◌≡◌ {A = Option ℕ} None (Some f) =
          sym none ∙ away_placed (is_away s q) (frame_of s q) f e in
          absurd (cc)
    ]

-- ---- a frame and its page

pub away_at : (s : State) (f q : ℕ) → away_from s q ≡ Some f → is_away_at s f ≡ true
away_at s f q e =
    let n = length s.notes in
    let low = away_low s q f e in
    let found : get_or (range_with_len 0 n) q 0 ≡ q =
    get_or-range_with_len 0 n q 0 low ∙ omega arith in
    list_any_at (λ page. is_frame f (away_from s page)) (range_with_len 0 n) q 0
    (omega (arith, low, length-range_with_len 0 n))
    (ap (λ p. is_frame f (away_from s p)) found ∙ ap (is_frame f) e ∙ is_itself f)

pub away_page : (s : State) (f : ℕ) → is_away_at s f ≡ true → (q : ℕ) × (away_from s q ≡ Some f)
away_page s f e =
    let any = Any-from_list_any (λ page. is_frame f (away_from s page)) (range_with_len 0 (length s.notes)) e in
    (any.1, it_is f (away_from s any.1) any.4)

-- ---- from pages to frames

pub all_stay : (s t : State) → ((q : ℕ) → away_from t q ≡ away_from s q) → AwayStay s t
all_stay s t e f =
    same_bool (is_away_at t f) (is_away_at s f)
    (λ is. let p = away_page t f is in away_at s f p.0 (sym (e p.0) ∙ p.1))
    (λ is. let p = away_page s f is in away_at t f p.0 (e p.0 ∙ p.1))

pub not_true : (b : Bool) → (b ≡ true → ⊥) → b ≡ false
not_true true isnt = absurd (isnt refl)
not_true false isnt = refl

another : (p q k f : ℕ) (o : ℕ → Option ℕ) → o p ≡ Some k → o q ≡ Some f → f ≢ k → q ≢ p
another p q k f o e g ne same =
    let both : ◌≡◌ {A = Option ℕ} (Some k) (Some f) = sym e ∙ ap o (sym same) ∙ g in
    let one : k ≡ f = cc in
    ne (sym one)

placeless : (p q f : ℕ) (o : ℕ → Option ℕ) → o p ≡ None → o q ≡ Some f → q ≢ p
placeless p q f o e g same =
    let no_frame : ◌≡◌ {A = Option ℕ} None (Some f) = sym e ∙ ap o (sym same) ∙ g in absurd (cc)

-- The image of one page goes away from its frame, which was nobody's; or it comes back to it, which is nobody else's.
module _ (s t : State) (p k : ℕ) (others : (q : ℕ) → q ≢ p → away_from t q ≡ away_from s q) where
  pub image_goes : away_from s p ≡ None → away_from t p ≡ Some k → ((q : ℕ) → away_from s q ≡ Some k → ⊥)
      → ImageGoes s t k
  image_goes before after nobody = record {
    was = not_true (is_away_at s k) (λ is. let q = away_page s k is in nobody q.0 q.1);
    now = λ f. go f (eqb f k) refl;
  }
    where
      go : (f : ℕ) (b : Bool) → eqb f k ≡ b → is_away_at t f ≡ cond b true (is_away_at s f)
      go f true e = ap (is_away_at t) (eqb-true f k e) ∙ away_at t k p after
      go f false e =
          let ne : f ≢ k = grind (arith, nat_tests) in
          same_bool (is_away_at t f) (is_away_at s f)
          (λ is.
          let q = away_page t f is in
          away_at s f q.0 (sym (others q.0 (another p q.0 k f (away_from t) after q.1 ne)) ∙ q.1))
          (λ is.
          let q = away_page s f is in
          away_at t f q.0 (others q.0 (placeless p q.0 f (away_from s) before q.1) ∙ q.1))

  pub image_comes : away_from s p ≡ Some k → away_from t p ≡ None → ((q : ℕ) → away_from s q ≡ Some k → q ≡ p)
      → ImageComes s t k
  image_comes before after alone = record {
    was = away_at s k p before;
    now = λ f. go f (eqb f k) refl;
  }
    where
      go : (f : ℕ) (b : Bool) → eqb f k ≡ b → is_away_at t f ≡ cond b false (is_away_at s f)
      go f true e =
          not_true (is_away_at t f) (λ is.
          let q = away_page t f is in
          let ne = placeless p q.0 f (away_from t) after q.1 in
          ne (alone q.0 (sym (others q.0 ne) ∙ q.1 ∙ ap Some (eqb-true f k e))))
      go f false e =
          let ne : f ≢ k = grind (arith, nat_tests) in
          same_bool (is_away_at t f) (is_away_at s f)
          (λ is.
          let q = away_page t f is in
          away_at s f q.0 (sym (others q.0 (placeless p q.0 f (away_from t) after q.1)) ∙ q.1))
          (λ is.
          let q = away_page s f is in
          away_at t f q.0 (others q.0 (another p q.0 k f (away_from s) before q.1 ne) ∙ q.1))
