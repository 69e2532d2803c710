-- What holds of every state that the parts stand for.
use Rattle.std.proofs.Common.{◌≡◌, ◌+◌, ◌≤◌, Bool, true, false, cond, sym, ap, subst, arith}
use Rattle.std.specs.Prelude.{not}
use Rattle.pp_model.specs.declared.moves.Move.{Move}
use Rattle.pp_model.specs.declared.reply.Reply.{Reply}
use Rattle.pp_model.specs.Pool.{State}
use Rattle.pp_model.specs.Budget.{bound}
use Rattle.pp_model.specs.Moves.{is_refusal, reply_of, next_of}
use Rattle.pp_model.specs.Reached.{IsReached}
use Rattle.pp_model.proofs.Accounts.{plans_are_accounted}
use Rattle.pp_model.proofs.BoundLaws.{bound_falls}
use Rattle.pp_model.proofs.Changes.{refused_by}
use Rattle.pp_model.proofs.FlushAlone.{one_errand}
use Rattle.pp_model.proofs.LatchLaws.{in_order, latches_agree}
use Rattle.pp_model.proofs.Room.{room}
use Rattle.pp_model.proofs.Stuck.{none_stuck, flush_holds_alone, within_peaks}
use Rattle.pp_model.proofs.ToldMarks.{marks_are_the_journals, marks_follow}
use Rattle.pp_model.proofs.Turns.{next_while_under_way, next_is_open}
use Rattle.pp_core.specs.Parts.{Parts}
use Rattle.pp_core.specs.StandsFor.{IsKept, Moves}
use Rattle.pp_core.specs.Headline.{Headline, HeadlineHolds}

-- Of every reached state the headline holds.
pub headline_of : (s : State) → IsReached s → Headline s
headline_of s h = record {
  none_finds_all_fixed = none_stuck s h;
  flush_holds_an_untaken_page = flush_holds_alone s h;
  latches_in_order = in_order s h;
  latches_agree = latches_agree s h;
  within_its_peak = within_peaks s h;
  peaks_fit_the_frames = room s h;
  one_errand_a_page = one_errand s h;
  plans_are_accounted = plans_are_accounted s h;
  known_marks_are_the_journals = marks_are_the_journals s h;
  known_marks_follow = marks_follow s h;
  someone_moves_next = next_while_under_way s h;
  next_turn_is_open = next_is_open s h;
  bound_falls = bound_falls s h;
}

pub headline_holds : (f : Parts) → HeadlineHolds f
headline_holds f = λ s st. headline_of s st.reached

-- After a move the parts stand for some state too.
pub kept_after : (f g : Parts) (m : Move) (reply : Reply) → IsKept f → Moves f m reply g → IsKept g
kept_after f g m reply k moves = record {
  state = next_of k.state m;
  stands = moves.stands k.state k.stands;
}

-- ---- the bound

falls_by : (s : State) (m : Move) (b : Bool) → IsReached s → is_refusal (reply_of s m) ≡ b
    → bound (next_of s m) + cond b 0 1 ≤ bound s
falls_by s m true h e =
    let same = ap bound (refused_by s m (ap not e)) in
    omega (arith, same)
falls_by s m false h e = bound_falls s h m (ap not e)

-- A move that is done lowers the bound that the core keeps by 1 at least, and one that is refused doesn't raise it.
pub budget_falls : (f g : Parts) (m : Move) (reply : Reply) → IsKept f → Moves f m reply g
    → g.budget + cond (is_refusal reply) 0 1 ≤ f.budget
budget_falls f g m reply k moves =
    let s = k.state in
    let st = k.stands in
    let same : is_refusal (reply_of s m) ≡ is_refusal reply = ap is_refusal (sym (moves.replies s st)) in
    omega (arith, falls_by s m (is_refusal reply) st.reached same, st.budget, (moves.stands s st).budget)

-- The same of a core with these parts inside.
pub budget_of_inside : {f h : Parts} → h ≡ f → IsKept h → (g : Parts) (m : Move) (reply : Reply) → Moves h m reply g
    → g.budget + cond (is_refusal reply) 0 1 ≤ f.budget
budget_of_inside {f} e k g m reply moves =
    budget_falls f g m reply (subst IsKept e k) (subst (λ (x : Parts). Moves x m reply g) e moves)
