-- What the answer of a device does for the cue that asks it.
use Rattle.std.proofs.Common.{◌≡◌, ℕ, Bool, true, false, Option, Some, None, List, refl, sym, ap, subst, arith, rules}
use Rattle.std.specs.Prelude.{◌&&◌, ◌==◌, nat_eq, is_ok, is_some, if◌then◌else◌}
use Rattle.std.proofs.lemmas.Bool.{false≢true}
use Rattle.std.proofs.lemmas.Bool.Decides.{nat_tests}
use Rattle.pp_model.specs.declared.moves.Move.{Move}
use Rattle.pp_model.specs.declared.reply.Reply.{Reply}
use Rattle.pp_model.specs.Pool.{State}
use Rattle.pp_core.specs.Queries.{errand_of}
use Rattle.pp_vault.specs.declared.tokens.Duty.{Duty}
use Rattle.pp_vault.specs.declared.tokens.Duty.TheVariants as duty
use Rattle.pp_vault.specs.declared.tokens.Returned.{Returned}
use Rattle.pp_vault.specs.declared.tokens.Session.{Session}
use Rattle.pp_vault.specs.declared.guards.PinGuard.{PinGuard}
use Rattle.pp_vault.specs.declared.guards.BundleGuard.{BundleGuard}
use Rattle.pp_vault.specs.declared.guards.Guard.{Guard}
use Rattle.pp_vault.specs.declared.answering.Answered.{Answered}
use Rattle.pp_vault.specs.declared.answering.Answered.TheVariants.{Got, Opened, Joined, Away, Lost, Flushed}
use Rattle.pp_vault.specs.Parts.{Parts}
use Rattle.pp_vault.specs.StandsFor.{IsKept}
use Rattle.pp_vault.specs.Duties.{duty_worker}
use Rattle.pp_vault.specs.Calls.{asks, stranger, refusal_of}
use Rattle.pp_vault.specs.Events.{Does, Tells}
use Rattle.pp_vault.specs.Answers.{is_of_read, duty_call, answer_call, DutyEnds, AnswerComesTo}
use Rattle.pp_vault.specs.Fits.{is_gathered}
use Rattle.pp_vault.specs.Holding.{is_free}
use Rattle.pp_script.specs.declared.cue.Cue.TheVariants as cue
use Rattle.pp_play.specs.Doing.{IsDone, ErrandHasPlace}
use Rattle.pp_play.proofs.Asked.{same, read_done, write_done, flushed_done}
use Rattle.pp_play.proofs.Room.{room_free}

-- ---- what is done

-- Whatever came of the answer, its call is done.
pub duty_does : (old new : Parts) (d : Duty) (image : List ℕ) (ok : Bool) (out : Answered)
    → DutyEnds old d image ok out new → Does old (duty_call old.page_bytes d image ok) new
duty_does old new (duty.Read w slot page) image ok (Got x g) ends = ends.0
duty_does old new (duty.Read w slot page) image ok (Opened x g) ends = ends.0
duty_does old new (duty.Read w slot page) image ok (Joined x) ends = ends.0
duty_does old new (duty.Read w slot page) image ok (Lost leaver) ends = ends.0
duty_does old new (duty.Write w slot page victim) image ok (Away errand) ends = ends.1
duty_does old new (duty.Write w slot page victim) image ok (Lost leaver) ends = ends.1
duty_does old new (duty.Flush page) image ok (Flushed clean) ends = ends.does
duty_does old new d image ok out ends = absurd ends

duty_done : (old new : Parts) (kept : IsKept old) (w : ℕ) (d : Duty) (image : List ℕ) (ok : Bool) {done : Move × Reply}
    → duty_worker d ≡ Some w → Does old (duty_call old.page_bytes d image ok) new
    → Tells old (duty_call old.page_bytes d image ok) done → IsDone old (cue.Device w) done new
duty_done old new kept w (duty.Read v slot page) image ok of does tells =
    read_done old new kept v w (same v w of) old.page_bytes slot page image ok does tells
duty_done old new kept w (duty.Write v slot page victim) image ok of does tells =
    write_done old new kept v w (same v w of) old.page_bytes slot page victim image ok does tells
duty_done old new kept w (duty.Flush page) image ok of does tells = absurd (false≢true (ap is_some of))

module _ (old new : Parts) (kept : IsKept old) (returned : Returned) (out : Answered) {done : Move × Reply}
    (comes : AnswerComesTo old returned out new) (tells : Tells old (answer_call old.page_bytes returned) done) where
  does : Does old (answer_call old.page_bytes returned) new
  does = duty_does old new returned.duty returned.image (is_ok returned.answer) out comes

  -- An answer to a worker's errand.
  pub answer_done : (w : ℕ) → duty_worker returned.duty ≡ Some w → IsDone old (cue.Device w) done new
  answer_done w of = duty_done old new kept w returned.duty returned.image (is_ok returned.answer) of does tells

over_done : (old new : Parts) (kept : IsKept old) (d : Duty) (image : List ℕ) (ok clean : Bool) {done : Move × Reply}
    → DutyEnds old d image ok (Flushed clean) new → Tells old (duty_call old.page_bytes d image ok) done
    → IsDone old cue.FlushDevice done new
over_done old new kept (duty.Read v slot page) image ok clean ends tells = absurd ends
over_done old new kept (duty.Write v slot page victim) image ok clean ends tells = absurd ends
over_done old new kept (duty.Flush page) image ok clean ends tells =
    flushed_done old new old.page_bytes page image ok kept ends.does tells

-- An answer to a flush.
pub flush_over : (old new : Parts) (kept : IsKept old) (returned : Returned) (clean : Bool) {done : Move × Reply}
    → AnswerComesTo old returned (Flushed clean) new → Tells old (answer_call old.page_bytes returned) done
    → IsDone old cue.FlushDevice done new
flush_over old new kept returned clean comes tells =
    over_done old new kept returned.duty returned.image (is_ok returned.answer) clean comes tells

-- ---- the place of the page that came

module _ (s : State) (m : Move) (slot page : ℕ) (long : Bool) where
  same_slot : (k p : ℕ) (t : Bool) → nat_eq k slot ≡ t
      → refusal_of s (if (t && (p == page)) && long then asks m else stranger) ≡ None → k ≡ slot
  same_slot k p true is e = grind (arith, nat_tests)
  same_slot k p false is e = absurd (search rules)

  -- A read that isn't refused is out, for its slot.
  out_for : (o : Option (ℕ × ℕ × Option ℕ))
      → refusal_of s (if is_of_read slot page long o then asks m else stranger) ≡ None
      → (p : ℕ) × (o ≡ Some (slot, p, None))
  out_for None e = absurd (search rules)
  out_for (Some (k, p, Some v)) e = absurd (search rules)
  out_for (Some (k, p, None)) e =
      (p, ap (λ n. Some (n, p, None)) (same_slot k p (nat_eq k slot) refl e))

module _ (old new : Parts) (kept : IsKept old) (w : ℕ) (image : List ℕ) (ok : Bool)
    (places : List (Option Guard)) (has : ErrandHasPlace old w places) where
  -- A slot that has room and is no bundle has a free place.
  free_there : (v slot p k : ℕ) → v ≡ w → errand_of kept.state v ≡ Some (slot, p, None)
      → is_gathered kept.state v slot ≡ false → k ≡ slot → is_free places k ≡ true
  free_there v slot p k of out none at =
      let mine : errand_of kept.state w ≡ Some (slot, p, None) =
      subst (λ u. errand_of kept.state u ≡ Some (slot, p, None)) of out in
      let plain : is_gathered kept.state w slot ≡ false = subst (λ u. is_gathered kept.state u slot ≡ false) of none in
      subst (λ n. is_free places n ≡ true) (sym at)
      (room_free kept.state w places slot plain (has kept.state kept.stands slot p None mine))

  pub got_free : (d : Duty) (x : Session) (g : PinGuard) → duty_worker d ≡ Some w
      → DutyEnds old d image ok (Got x g) new → is_free places g.slot ≡ true
  got_free (duty.Read v slot page) x g of ends =
      let out = out_for kept.state _ slot page _ (errand_of kept.state v) (ends.0.allowed kept.state kept.stands) in
      free_there v slot out.0 g.slot (same v w of) out.1 (ends.1.was kept.state kept.stands).no_bundle ends.1.of_slot
  got_free (duty.Write v slot page victim) x g of ends = absurd ends
  got_free (duty.Flush page) x g of ends = absurd ends

  pub opened_free : (d : Duty) (x : Session) (g : BundleGuard) → duty_worker d ≡ Some w
      → DutyEnds old d image ok (Opened x g) new → is_free places g.slot ≡ true
  opened_free (duty.Read v slot page) x g of ends =
      let out = out_for kept.state _ slot page _ (errand_of kept.state v) (ends.0.allowed kept.state kept.stands) in
      free_there v slot out.0 g.slot (same v w of) out.1 (ends.1.was kept.state kept.stands).no_bundle ends.1.of_slot
  opened_free (duty.Write v slot page victim) x g of ends = absurd ends
  opened_free (duty.Flush page) x g of ends = absurd ends
