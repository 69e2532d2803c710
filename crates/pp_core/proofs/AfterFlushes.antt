-- What is flushed after a move.
use Rattle.std.proofs.Common.{◌≡◌, ◌∙◌, ◌<◌, ℕ, Bool, true, false, cond, Option, Some, None, refl, ap}
use Rattle.std.proofs.Common.{subst, arith}
use Rattle.std.specs.Prelude.{option_map, nat_lt, ◌&&◌}
use Rattle.std.proofs.lemmas.Bool.Decides.{nat_tests}
use Rattle.pp_cert.specs.declared.note.Held.{Held}
use Rattle.pp_cert.specs.declared.note.Held.TheVariants.{Free, S, X}
use Rattle.pp_arc.specs.FourLists.{is_cached}
use Rattle.pp_frames.specs.Marks.{is_exclusive, Shared, Exclusive}
use Rattle.pp_model.specs.declared.moves.Move.{Move}
use Rattle.pp_model.specs.declared.moves.Move.TheVariants as move
use Rattle.pp_model.specs.declared.reply.Reply.TheVariants as reply
use Rattle.pp_model.specs.Pool.{Stage, acting, writing, reading, leaving, Running, Flush, State, mark_at}
use Rattle.pp_model.specs.Pool.{is_dirty, known_mark}
use Rattle.pp_model.specs.Holders.{page_in, held_in, readers_of, writers_of, is_exclusive as is_held_exclusive}
use Rattle.pp_model.specs.Outcome.{Outcome, released}
use Rattle.pp_model.specs.Answers.{write_where}
use Rattle.pp_model.specs.Flushing.{flush_begun}
use Rattle.pp_model.specs.Moves.{seat_of, next_of}
use Rattle.pp_model.specs.WorkerParts.{worker_of}
use Rattle.pp_model.specs.Reached.{IsReached}
use Rattle.pp_model.proofs.Changes.{IsAt, CanFlush}
use Rattle.pp_model.proofs.Framed.{some_of, loads_one, changed_unloaded}
use Rattle.pp_model.proofs.KnownMarks.{loaded_is_known}
use Rattle.pp_model.proofs.MarkChanges.{held_counts}
use Rattle.pp_model.proofs.Totals.{loads_of, latched_on, writers_are}
use Rattle.pp_core.specs.Queries.{flushed_page, errand_in, errand_by}
use Rattle.pp_core.specs.AfterMoves.{IsFlushing, FlushBegins, FlushEnds, WorkersLeaveFlush}
use Rattle.pp_core.proofs.MoveWays.{OfRefusals, of_take, of_fix, of_write, of_read, of_unfix, of_latch, of_unlatch}
use Rattle.pp_core.proofs.MoveWays.{of_choose, of_unwind, of_finish, of_flush, of_flushed}
use Rattle.pp_core.proofs.AfterSeats.{some_same, holds_so}
use Rattle.pp_core.proofs.AfterFixes.{Told, no_refusal}
use Rattle.pp_core.proofs.AfterOthers.{counts_once}

-- The flush is as it was.
abbrev Leaves : State → Outcome → Type 0
Leaves s o = o.state.flush ≡ s.flush

released_flush : (s : State) (k : Held) (p : ℕ) → (released s k p).flush ≡ s.flush
released_flush s Free p = refl
released_flush s S p = refl
released_flush s X p = refl

module _ (s : State) where
  refusals_leave : OfRefusals s (Leaves s)
  refusals_leave = record { delay = λ d. refl; fault = λ c. refl }

  written_leaves : (w : ℕ) (ok : Bool) (r : Running) (k p u : ℕ) → Leaves s (write_where s w r k p u ok)
  written_leaves w true r k p u = refl
  written_leaves w false r k p u = refl

  leaves_it : (m : Move) (w : ℕ) → worker_of m ≡ Some w → (next_of s m).flush ≡ s.flush
  leaves_it (move.Take v) w is = of_take s (Leaves s) refusals_leave v (λ a idle. refl)
  leaves_it (move.Fix v page) w is =
      of_fix s (Leaves s) refusals_leave v page (record {
        hits = λ r k j l asks found. refl;
        fills = λ r k j l asks. refl;
        evicts = λ r k j u l asks. refl;
        sends = λ r k j u l asks. refl;
      })
  leaves_it (move.WriteDone v ok) w is =
      of_write s (Leaves s) refusals_leave v ok (λ r k p u at. written_leaves v ok r k p u)
  leaves_it (move.ReadDone v came) w is =
      of_read s (Leaves s) refusals_leave v came
      (record { loads = λ r k p stamp at image good. refl; fails = λ r k p failure at. refl })
  leaves_it (move.Unfix v) w is = of_unfix s (Leaves s) refusals_leave v (λ r k asking. refl) (λ r k asking. refl)
  leaves_it (move.Latch v) w is = of_latch s (Leaves s) refusals_leave v (λ r k m asking. refl)
  leaves_it (move.Unlatch v) w is =
      of_unlatch s (Leaves s) refusals_leave v (λ r k asking. released_flush s (held_in r k) (page_in r k))
  leaves_it (move.Choose v i) w is = of_choose s (Leaves s) refusals_leave v i (λ r n asking lt. refl)
  leaves_it (move.Unwind v slot) w is =
      of_unwind s (Leaves s) refusals_leave v slot (λ r given x at found. released_flush s x.held x.page)
  leaves_it (move.Finish v) w is =
      of_finish s (Leaves s) refusals_leave v
      (record { ends = λ r asking. refl; leaves = λ r given at empty. refl })
  leaves_it (move.FlushBegin page) w is = cc
  leaves_it (move.FlushDone ok) w is = cc

  pub workers_leave_flush : WorkersLeaveFlush s
  workers_leave_flush m w is = ap (λ (o : Option Flush). option_map (λ (f : Flush). f.page) o) (leaves_it m w is)

  same_flushing : (a b : ℕ) → reply.Flushing a ≡ reply.Flushing b → a ≡ b
  same_flushing a b e = cc

  pub flush_ends : FlushEnds s
  flush_ends ok clean =
      of_flushed s (Told (reply.Flushed clean) (λ t. flushed_page t ≡ None))
      (no_refusal s _ _ (λ d e. cc) (λ c e. cc)) ok
      (record { cleans = λ f is e. refl; drops = λ f is e. refl })

-- ---- a flush that begins

and_both : (a b : Bool) → (a && b) ≡ true → (a ≡ true) × (b ≡ true)
and_both true b e = (refl, e)
and_both false b e = cc

-- Where a page isn't latched X it has no writer.
no_writers : (readers writers : ℕ) (b : Bool) → nat_lt 0 writers ≡ b
    → is_exclusive (cond b Exclusive (Shared readers)) ≡ false → writers ≡ 0
no_writers readers writers true e f = cc
no_writers readers writers false e f = grind (arith, nat_tests)

-- An errand that is out for a page loads it.
loads_in : (s : State) (w slot page : ℕ) (victim : Option ℕ) (r : Running) (g : Stage) → IsAt s w r g
    → errand_in g ≡ Some (slot, page, victim) → 0 < loads_of s page
loads_in s w slot page victim r acting at told = cc
loads_in s w slot page victim r (writing k p v) at told =
    subst (λ x. 0 < loads_of s x.1) (some_same (k, p, Some v) (slot, page, victim) told)
    (loads_one s w r (writing k p v) p at refl)
loads_in s w slot page victim r (reading k p) at told =
    subst (λ x. 0 < loads_of s x.1) (some_same (k, p, None) (slot, page, victim) told)
    (loads_one s w r (reading k p) p at refl)
loads_in s w slot page victim r (leaving given) at told = cc

loads_by : (s : State) (w slot page : ℕ) (victim : Option ℕ) (o : Option (Option Running)) → seat_of s w ≡ o
    → errand_by o ≡ Some (slot, page, victim) → 0 < loads_of s page
loads_by s w slot page victim None e told = cc
loads_by s w slot page victim (Some None) e told = cc
loads_by s w slot page victim (Some (Some r)) e told =
    loads_in s w slot page victim r r.stage (record { seat = e; stage = refl }) told

module _ (s : State) (h : IsReached s) where
  begun : (page mark : ℕ) → CanFlush s page → mark_at s page ≡ mark → IsFlushing s (flush_begun s page) page mark
  begun page mark can is =
      let changed = and_both (is_cached s.lists page) (is_dirty s page) can.changed in
      let away = changed_unloaded s h page changed.1 changed.0 in
      let known = some_of (known_mark s page) (loaded_is_known s h page changed.0 away) in
      let none = no_writers (readers_of s page) (writers_of s page) (nat_lt 0 (writers_of s page)) refl can.unwritten in
      record {
        flushed = refl;
        marked = known ∙ ap Some is;
        unloaded = λ w slot victim told. absurd (omega
            (arith, away, loads_by s w slot page victim (seat_of s w) refl told));
        unwritten = λ w slot told. let a = holds_so s w slot page X told in
            absurd (omega (
              arith,
              none,
              writers_are s page,
              held_counts s w a.by slot a.holding (latched_on is_held_exclusive page) a.seat a.found,
              counts_once is_held_exclusive page a.holding a.page_is (ap is_held_exclusive a.held_is),
            ));
      }

  pub flush_begins : FlushBegins s
  flush_begins page mark =
      of_flush s (Told (reply.Flushing mark) (λ t. IsFlushing s t page mark))
      (no_refusal s _ _ (λ d e. cc) (λ c e. cc)) page
      (λ can e. begun page mark can (same_flushing s (mark_at s page) mark e))
