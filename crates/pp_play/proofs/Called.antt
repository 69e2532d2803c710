-- How often a device is called.
use Rattle.std.proofs.Common.{◌≡◌, ◌≢◌, ◌∙◌, ℕ, ◌+◌, ◌≤◌, Bool, true, false, Some, None, List, [], ◌∷◌, ◌++◌}
use Rattle.std.proofs.Common.{length, drop, nat_eq, inl, inr, refl, sym, ap, subst, arith, add_assoc, zero-add, add-zero}
use Rattle.std.specs.Prelude.{if◌then◌else◌, slice_set, nat_lt, unwrap_or}
use Rattle.std.proofs.lemmas.Bool.{false≢true}
use Rattle.std.proofs.lemmas.Bool.Decides.{nat_tests}
use Rattle.std.proofs.lemmas.List.{drop-append-le, get_or-set_same, get_or-set_other, length-set}
use Rattle.pp_model.specs.declared.moves.Move.{Move}
use Rattle.pp_model.specs.declared.reply.Reply.{Reply}
use Rattle.pp_model.specs.Pool.{State}
use Rattle.pp_vault.specs.declared.stage.Hand.{Hand}
use Rattle.pp_vault.specs.declared.hands.Hands.{Hands}
use Rattle.pp_vault.specs.Parts.{Parts}
use Rattle.pp_vault.specs.StandsFor.{IsKept}
use Rattle.pp_vault.specs.Holding.{placed}
use Rattle.pp_script.specs.declared.cue.Cue.{Cue}
use Rattle.pp_script.specs.declared.cue.Cue.TheVariants.{Take, Fix, Device, Unfix, Latch, Unlatch, Choose, Unwind, Finish}
use Rattle.pp_script.specs.declared.cue.Cue.TheVariants.{Flush, FlushDevice, Write, Look}
use Rattle.pp_play.specs.declared.line.Line.{Line}
use Rattle.pp_play.specs.declared.line.Line.TheVariants.{Did, Refused, Wrote, Looked, NoLatch}
use Rattle.pp_play.specs.Plays.{IsMoveOf, Tells, ComesTo}
use Rattle.pp_play.specs.Doing.{IsDone}
use Rattle.pp_play.specs.Calling.{is_answer, tells_answer, answers, is_back, is_flush_back, NoneBack, IsCalled}
use Rattle.pp_play.proofs.AllHands.{past}

-- ---- lines that tell of no answer

-- Whether the cue is for a device.
abbrev pub asks_device : Cue → Bool
asks_device (Device w) = true
asks_device FlushDevice = true
asks_device _ = false

pub no_answer : (s t : State) (cue : Cue) (line : Line) → asks_device cue ≡ false → Tells s cue line t
    → tells_answer line ≡ false
no_answer s t cue (Refused asked why) e h = refl
no_answer s t cue Wrote e h = refl
no_answer s t cue (Looked byte) e h = refl
no_answer s t cue NoLatch e h = refl
no_answer s t (Take w) (Did m r) e h = ap is_answer h.0
no_answer s t (Fix w page) (Did m r) e h = ap is_answer h.0
no_answer s t (Device w) (Did m r) e h = absurd (false≢true (sym e))
no_answer s t (Unfix w) (Did m r) e h = ap is_answer h.0
no_answer s t (Latch w) (Did m r) e h = ap is_answer h.0
no_answer s t (Unlatch w) (Did m r) e h = ap is_answer h.0
no_answer s t (Choose w branch) (Did m r) e h = ap is_answer h.0
no_answer s t (Unwind w slot) (Did m r) e h = ap is_answer h.0
no_answer s t (Finish w) (Did m r) e h = ap is_answer h.0
no_answer s t (Flush page) (Did m r) e h = ap is_answer h.0
no_answer s t FlushDevice (Did m r) e h = absurd (false≢true (sym e))
no_answer s t (Write w slot byte) (Did m r) e h = absurd h.0
no_answer s t (Look w slot) (Did m r) e h = absurd h.0

module _ {D : Type 0} (calls : D → ℕ) where
  pub not_called : (b : Bool) (device : D) → b ≡ false → IsCalled calls b device device
  not_called b device e = subst (λ x. IsCalled calls x device device) (sym e) refl

  pub called_once : (b : Bool) (old new : D) → b ≡ true → calls new ≡ calls old + 1 → IsCalled calls b old new
  called_once b old new e h = subst (λ x. IsCalled calls x old new) (sym e) h

  -- No cue but one for a device makes a call.
  pub quiet : (old new : Parts) → IsKept old → (cue : Cue) (line : Line) (device : D) → asks_device cue ≡ false
      → ComesTo old cue line new → IsCalled calls (tells_answer line) device device
  quiet old new kept cue line device e comes =
      let came = comes kept.state kept.stands in
      not_called (tells_answer line) device (no_answer kept.state came.0 cue line e came.1)

  counted : (b : Bool) (old new : D) → IsCalled calls b old new → calls new ≡ calls old + (if b then 1 else 0)
  counted true old new h = h
  counted false old new h = ap calls h ∙ sym (add-zero (calls old))

-- ---- lines that tell of one

device_answer : (w : ℕ) (m : Move) → IsMoveOf (Device w) m → is_answer m ≡ true
device_answer w m (inl asked) = ap is_answer asked.1
device_answer w m (inr asked) = ap is_answer asked.1

module _ (old new : Parts) (line : Line) {told : Move × Reply} (tells : line ≡ Did told.0 told.1) where
  pub device_told : (w : ℕ) → IsDone old (Device w) told new → tells_answer line ≡ true
  device_told w done = ap tells_answer tells ∙ device_answer w told.0 done.asked

  pub flush_told : IsDone old FlushDevice told new → tells_answer line ≡ true
  flush_told done = ap tells_answer tells ∙ ap is_answer done.asked.1

-- ---- how many lines do

answers-append : (xs ys : List Line) → answers (xs ++ ys) ≡ answers xs + answers ys
answers-append [] ys = sym (zero-add (answers ys))
answers-append (line ∷ xs) ys =
    let one : ℕ = if tells_answer line then 1 else 0 in
    ap (λ n. one + n) (answers-append xs ys) ∙ sym (add_assoc one (answers xs) (answers ys))

-- One cue more.
pub calls_on : {D : Type 0} (calls : D → ℕ) (first old new : D) (before : ℕ) (now : List Line) (line : Line)
    → before ≤ length now → calls old ≡ calls first + answers (drop before now)
    → IsCalled calls (tells_answer line) old new
    → calls new ≡ calls first + answers (drop before (now ++ line ∷ []))
calls_on calls first old new before now line le so_far called =
    let one : ℕ = if tells_answer line then 1 else 0 in
    let more = counted calls (tells_answer line) old new called in
    let split : answers (drop before (now ++ line ∷ [])) ≡ answers (drop before now) + (one + 0) =
    ap answers (drop-append-le before now (line ∷ []) le) ∙ answers-append (drop before now) (line ∷ []) in
    omega (arith, more, so_far, split)

-- ---- hands in which no token is back

-- One hand was out, and came back.
module _ (hands after : Hands) (w : ℕ) (hand left : Hand) (there : placed hands.workers w ≡ Some hand)
    (none : NoneBack hands) (forth : is_back left.stage ≡ false)
    (joined : after.workers ≡ slice_set (slice_set hands.workers w None) w (Some left))
    (flushing : after.flushing ≡ hands.flushing) where
  mine : placed after.workers w ≡ Some left
  mine =
      let low = past hands.workers w hand (nat_lt w (length hands.workers)) refl there in
      ap (λ ws. placed ws w) joined
      ∙ get_or-set_same (slice_set hands.workers w None) w (Some left) None
      (omega (arith, low, length-set hands.workers w None))

  other : (v : ℕ) → v ≢ w → placed after.workers v ≡ placed hands.workers v
  other v apart =
      ap (λ ws. placed ws v) joined
      ∙ get_or-set_other (slice_set hands.workers w None) w v (Some left) None apart
      ∙ get_or-set_other hands.workers w v None None apart

  by_worker : (v : ℕ) (b : Bool) → nat_eq v w ≡ b → (its : Hand) → placed after.workers v ≡ Some its
      → is_back its.stage ≡ false
  by_worker v true e its at =
      let same : w ≡ v = grind (arith, nat_tests) in
      let is : left ≡ its =
      ap (λ o. unwrap_or o left) (sym mine ∙ ap (placed after.workers) same ∙ at) in
      ap (λ (h : Hand). is_back h.stage) (sym is) ∙ forth
  by_worker v false e its at =
      let apart : v ≢ w = grind (arith, nat_tests) in
      none.workers v its (sym (other v apart) ∙ at)

  pub none_after : NoneBack after
  none_after =
      record {
        workers = λ v its at. by_worker v (nat_eq v w) refl its at;
        flushing = ap is_flush_back flushing ∙ none.flushing;
      }

-- The hands of workers are as they were, and the flusher's token isn't back.
pub none_of_workers : (hands after : Hands) → NoneBack hands → after.workers ≡ hands.workers
    → is_flush_back after.flushing ≡ false → NoneBack after
none_of_workers hands after none same flushing =
    record {
      workers = λ v its at. none.workers v its (ap (λ ws. placed ws v) (sym same) ∙ at);
      flushing = flushing;
    }
