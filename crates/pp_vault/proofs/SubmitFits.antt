-- Hands that fit still do after a plan was taken in.
use Rattle.std.proofs.Common.{◌≡◌, ℕ, Option, Some, None, length, refl, ap}
use Rattle.pp_cert.specs.Accepted.{Acceptance}
use Rattle.pp_model.specs.declared.refusals.SubmitError.{SubmitError}
use Rattle.pp_model.specs.Pool.{State, known_mark}
use Rattle.pp_model.specs.Reached.{IsReached}
use Rattle.pp_model.specs.Submitting.{submit_error, submitted_unless, after_submit}
use Rattle.pp_core.specs.Queries.{flushed_page}
use Rattle.pp_core.proofs.AfterMoves.{after_moves}
use Rattle.pp_vault.specs.declared.hands.Hands.{Hands}
use Rattle.pp_vault.specs.Parts.{Parts}
use Rattle.pp_vault.specs.StandsFor.{IsKept}
use Rattle.pp_vault.specs.Submits.{TakesIn}
use Rattle.pp_vault.specs.Hands.{HandsFit}
use Rattle.pp_vault.proofs.AllStill.{SameAll, all_still_fit}

-- ---- what a plan that waits leaves

marks_left : (e : Option SubmitError) (s : State) (a : Acceptance) (page : ℕ)
    → known_mark (submitted_unless e s a) page ≡ known_mark s page
marks_left None s a page = refl
marks_left (Some error) s a page = refl

flush_left : (e : Option SubmitError) (s : State) (a : Acceptance)
    → flushed_page (submitted_unless e s a) ≡ flushed_page s
flush_left None s a = refl
flush_left (Some error) s a = refl

count_left : (e : Option SubmitError) (s : State) (a : Acceptance)
    → length (submitted_unless e s a).seats ≡ length s.seats
count_left None s a = refl
count_left (Some error) s a = refl

same_submitted : (s : State) (a : Acceptance) → IsReached s → SameAll s (after_submit s a)
same_submitted s a reached =
    record {
      each = λ v. record {
        stays = (after_moves s reached).plans a v;
        shared = λ slot page held. marks_left (submit_error s a) s a page;
        exclusive = λ slot page held. marks_left (submit_error s a) s a page;
        victim = λ slot page victim out. marks_left (submit_error s a) s a victim;
      };
      flush = flush_left (submit_error s a) s a;
      count = count_left (submit_error s a) s a;
    }

pub submits_still_fit : (old new : Parts) (a : Acceptance) (number : ℕ) → IsKept old → TakesIn old a number new
    → (hands : Hands) → HandsFit old hands → HandsFit new hands
submits_still_fit old new a number k takes =
    all_still_fit old new k.state (after_submit k.state a) k.stands (takes.stands k.state k.stands)
    (same_submitted k.state a k.stands.core.reached) (ap (λ (v : Parts). v.page_bytes) takes.rest)
