-- What is left to show of Table::load: the worker acts, and then the page goes into its slot.
use Rattle.std.proofs.Common.{◌≡◌, ◌-◌, ℕ, false, sym, subst, ap, ◌∙◌}
use Rattle.std.specs.Prelude.{option_map, option_and_then, unwrap_or, slice_set, Some}
use Rattle.pp_frames.specs.Marks.{with_stamp}
use Rattle.pp_plan.specs.declared.action.Ask.{Ask}
use Rattle.pp_plan.specs.declared.action.Ask.TheVariants as ask
use Rattle.pp_model.specs.Fixing.{fixes}
use Rattle.pp_core.specs.declared.seat.Phase.TheVariants.{Acting}
use Rattle.pp_core.specs.declared.seat.Seat.{Seat}
use Rattle.pp_core.specs.Parts.{Parts, parts_of}
use Rattle.pp_core.specs.Effects.{IsIn, CanAct, Acted, at_phase, ask_in, stacks_after}
use Rattle.pp_core.proofs.ActTies.{acted_then}
use Rattle.pp_core.proofs.table.Table.load.Goals as goal

-- What a seat asks is what the core asks of its worker.
asks_in : (f : Parts) (w : ℕ) (x : Seat) (k : Ask) → IsIn f w x → k ≡ x.ask → k ≡ ask_in f w
asks_in f w x k is_in e =
    e ∙ sym (ap (λ o. unwrap_or (option_map (λ (y : Seat). y.ask) (option_and_then (λ z. z) o)) ask.End) is_in)

pub put_in-requires-clause-can : goal.put_in-requires-clause-can
put_in-requires-clause-can c =
    let f = parts_of c.args.self.now in
    let w = c.args.worker in
    let x = c.requires.seat in
    let told = asks_in f w x c.next_ask-ask.result c.requires.is_in (c.next_ask-ask.ensures x c.requires.is_in) in
    subst (λ (z : Parts). CanAct z w (fixes c.next_ask-ask.result c.args.slot c.args.page))
    (sym (c.set_phase.ensures x c.requires.is_in))
    (subst (λ (k : Ask). CanAct (at_phase f w x Acting) w (fixes k c.args.slot c.args.page)) (sym told) c.requires.can)

pub returns : goal.returns
returns c =
    let f = parts_of c.args.self.now in
    let g = parts_of c.put_in.new.self in
    let w = c.args.worker in
    let x = c.requires.seat in
    let told = asks_in f w x c.next_ask-ask.result c.requires.is_in (c.next_ask-ask.ensures x c.requires.is_in) in
    let acts = subst (λ (z : Parts). Acted z g w (fixes c.next_ask-ask.result c.args.slot c.args.page))
    (c.set_phase.ensures x c.requires.is_in) c.put_in.ensures.acted in
    let acted = subst (λ (k : Ask). Acted f g w (fixes k c.args.slot c.args.page)) told
    (acted_then f g w x (fixes c.next_ask-ask.result c.args.slot c.args.page) c.requires.is_in acts) in
    let base : g ≡ record f {
      seats = g.seats;
      bundles = stacks_after w (fixes (ask_in f w) c.args.slot c.args.page) f.bundles;
    } =
    c.put_in.ensures.rest
    ∙ ap (λ (p : Parts). record p {
      seats = g.seats;
      bundles = stacks_after w (fixes c.next_ask-ask.result c.args.slot c.args.page) p.bundles;
    }) (c.set_phase.ensures x c.requires.is_in)
    ∙ ap (λ (k : Ask). record f {
      seats = g.seats;
      bundles = stacks_after w (fixes k c.args.slot c.args.page) f.bundles;
    }) told
    in
    record {
      acted = record {
        seat = acted.seat;
        accepted = acted.accepted;
        runs = acted.runs;
        after = acted.after;
        did = acted.did;
        seats = acted.seats;
      };
      rest =
          (λ i. record g {
            marks = c.set_stamp.ensures.exact i;
            in_flight = c.remove.ensures i;
            budget = g.budget - 1;
          })
          ∙ ap (λ (p : Parts). record p {
            marks = with_stamp p.marks c.args.page (Some c.args.stamp);
            in_flight = slice_set p.in_flight c.args.page false;
            budget = p.budget - 1;
          }) base;
    }
