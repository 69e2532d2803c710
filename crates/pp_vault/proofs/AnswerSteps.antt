-- The answer of a device: what the core's step did, and what becomes of the images.
use Rattle.std.proofs.Common.{◌≡◌, ◌∙◌, ℕ, Bool, true, not, Option, Some, None, List, length}
use Rattle.std.proofs.Common.{refl, sym, ap, subst, arith}
use Rattle.std.specs.Prelude.{unwrap_or, ◌==◌, if◌then◌else◌}
use Rattle.std.proofs.lemmas.Bool.{false≢true}
use Rattle.std.proofs.lemmas.Bool.Decides.{nat_tests}
use Rattle.pp_model.specs.declared.moves.Move.TheVariants.{FlushDone}
use Rattle.pp_model.specs.declared.reply.Reply.{Reply}
use Rattle.pp_model.specs.declared.reply.Reply.TheVariants.{Flushed}
use Rattle.pp_model.specs.Pool.{State}
use Rattle.pp_model.specs.Moves.{reply_of, next_of}
use Rattle.pp_model.specs.Ready.{Keeps, is_still}
use Rattle.pp_model.proofs.Alone.{settings_stay}
use Rattle.pp_model.proofs.ReadyLaws.{still_keeps}
use Rattle.pp_vault.specs.Parts.{Parts}
use Rattle.pp_vault.specs.StandsFor.{ImagesFit, StandsFor}
use Rattle.pp_vault.specs.Calls.{asks, stranger}
use Rattle.pp_vault.specs.Steps.{Stepped}
use Rattle.pp_vault.specs.Answers.{is_of_flush, is_flush_out, flushed_call, IsFlushed}
use Rattle.pp_core.specs.Queries.{flushed_page}
use Rattle.pp_vault.proofs.Done.{does}

-- ---- a flush

long_of : (page n : ℕ) (b : List ℕ) (o : Option ℕ) → is_of_flush page (length b == n) o ≡ true → length b ≡ n
long_of page n b None e = absurd (false≢true e)
long_of page n b (Some p) e = grind (arith, nat_tests)

some_is : {a b : List ℕ} → ◌≡◌ {A = Option (List ℕ)} (Some a) (Some b) → a ≡ b
some_is {a} {b} e = ap (λ o. unwrap_or o a) e

-- Nothing moves but the buffer, which comes back.
spare_comes : (n : ℕ) (xs : List (Option (List ℕ))) (spare : Option (List ℕ)) (s t : State) → ImagesFit n xs spare s
    → t.settings.layout.frames ≡ s.settings.layout.frames → Keeps s t → (b : List ℕ) → length b ≡ n
    → ImagesFit n xs (Some b) t
spare_comes n xs spare s t fit frames keeps b long =
    record {
      wide = fit.wide;
      frames = fit.frames ∙ sym frames;
      long = fit.long;
      there = λ g lt. fit.there g lt ∙ ap not (sym (keeps.away g));
      right = λ p x e. fit.right p x (sym (keeps.ready p) ∙ e);
      spare_there = λ e. refl;
      spare_long = λ a e. subst (λ x. length x ≡ n) (some_is e) long;
    }

module _ (old mid : Parts) (page : ℕ) (image : List ℕ) (ok clean : Bool) (r : Reply)
    (did : Stepped old mid (FlushDone ok) r) (is : r ≡ Flushed clean)
    (out : (s : State) → StandsFor old s → is_flush_out old.page_bytes page image s ≡ true) where
  answer : (s : State) → StandsFor old s → reply_of s (FlushDone ok) ≡ Flushed clean
  answer s st = sym (did.moves.replies s st.core) ∙ is

  calls : (s : State) → StandsFor old s → flushed_call old.page_bytes page image ok s ≡ asks (FlushDone ok)
  calls s st = ap (λ b. if b then asks (FlushDone ok) else stranger) (out s st)

  back_fits : (s : State) → StandsFor old s
      → ImagesFit mid.page_bytes mid.images (Some image) (next_of s (FlushDone ok))
  back_fits s st =
      subst (λ (p : Parts). ImagesFit p.page_bytes p.images (Some image) (next_of s (FlushDone ok))) (sym did.rest)
      (spare_comes old.page_bytes old.images old.spare s (next_of s (FlushDone ok)) st.images
      (ap (λ k. k.layout.frames) (settings_stay s (FlushDone ok)))
      (still_keeps s st.core.reached (FlushDone ok) (ap is_still (answer s st))) image
      (long_of page old.page_bytes image (flushed_page s) (out s st)))

  pub flush_is : IsFlushed old page image ok clean (record mid { spare = Some image })
  flush_is =
      record {
        does = does old (record mid { spare = Some image }) (flushed_call old.page_bytes page image ok) (FlushDone ok) r
            did.moves did.done (ap (λ (p : Parts). p.page_bytes) did.rest) calls
            back_fits;
        replies = answer;
        images = ap (λ (p : Parts). p.images) did.rest;
        spare = refl;
      }
