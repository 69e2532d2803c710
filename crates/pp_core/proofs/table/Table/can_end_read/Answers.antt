use Rattle.std.proofs.Common.{◌≡◌, ◌∙◌, Some, subst, sym, ap, arith}
use Rattle.pp_plan.specs.declared.action.Action.TheVariants as action
use Rattle.pp_plan.specs.declared.action.Ask.TheVariants as ask
use Rattle.pp_cert.specs.declared.note.Held.TheVariants.{S}
use Rattle.pp_model.specs.Pool.{State}
use Rattle.pp_core.specs.Parts.{parts_of}
use Rattle.pp_core.specs.StandsFor.{StandsFor}
use Rattle.pp_core.specs.Queries.{ask_holding}
use Rattle.pp_core.specs.Reading.{asks_unlatch, can_end_read}
use Rattle.pp_core.proofs.HoldingTies.{asks_so}
use Rattle.pp_core.proofs.ReadTies.{asks_behind, can_unlatch, asked_unlatch, unlatched_so, not_ended}
use Rattle.pp_core.proofs.ReadTies.{no_unlatch, other_unlatch, holding_so}
use Rattle.pp_core.proofs.table.Table.can_end_read.Goals as goal

pub returns-in-None : goal.returns-in-None
returns-in-None c s st =
    not_ended s c.args.worker c.args.slot c.args.page
    (ap (asks_unlatch c.args.slot)
    (holding_so (parts_of c.args.self.now) c.args.worker c.args.slot c.args.page c.ask_holding.result c.ask_holding.ensures s st
    ∙ c.in-None.is))

pub returns-in_default : goal.returns-in_default
returns-in_default c s st =
    not_ended s c.args.worker c.args.slot c.args.page
    (ap (asks_unlatch c.args.slot)
    (holding_so (parts_of c.args.self.now) c.args.worker c.args.slot c.args.page c.ask_holding.result c.ask_holding.ensures s st
    ∙ c.in-Some.is)
    ∙ no_unlatch c.args.slot c.in-Some.ask c.in_default.not-Unlatch)

pub returns-then-slot-from : goal.returns-then-slot-from
returns-then-slot-from c s st =
    not_ended s c.args.worker c.args.slot c.args.page
    (ap (asks_unlatch c.args.slot)
    (holding_so (parts_of c.args.self.now) c.args.worker c.args.slot c.args.page c.ask_holding.result c.ask_holding.ensures s st
    ∙ c.in-Some.is ∙ ap (λ x. Some x) c.in-Unlatch.is)
    ∙ other_unlatch c.args.slot c.in-Unlatch.own (λ (e : c.args.slot ≡ c.in-Unlatch.own). omega arith))

pub ask_after-next-requires : goal.ask_after-next-requires
ask_after-next-requires c =
    let f = parts_of c.args.self.now in
    let w = c.args.worker in
    let own = c.in-Unlatch.own in
    let same : c.args.slot ≡ own = omega arith in
    let told = λ (s : State) (st : StandsFor f s).
    ap (λ n. ask_holding s w n c.args.page S) (sym same)
    ∙ holding_so f w c.args.slot c.args.page c.ask_holding.result c.ask_holding.ensures s st
    ∙ c.in-Some.is ∙ ap (λ x. Some x) c.in-Unlatch.is in
    can_unlatch f w own c.args.page told (asks_so f w own c.args.page S (ask.Unlatch own) told) c.requires

pub returns : goal.returns
returns c s st =
    let f = parts_of c.args.self.now in
    let w = c.args.worker in
    let page = c.args.page in
    let own = c.in-Unlatch.own in
    let next = c.ask_after-next.result in
    let same : c.args.slot ≡ own = omega arith in
    let told = λ (s : State) (st : StandsFor f s).
    ap (λ n. ask_holding s w n page S) (sym same)
    ∙ holding_so f w c.args.slot page c.ask_holding.result c.ask_holding.ensures s st
    ∙ c.in-Some.is ∙ ap (λ x. Some x) c.in-Unlatch.is in
    let asks = asks_so f w own page S (ask.Unlatch own) told in
    subst (λ n. c.is_unfix.result ≡ can_end_read s w n page) (sym same)
    (unlatched_so f w own page told asks c.requires next
    (λ (t : State) (at : StandsFor f t). asks_behind f w (action.Unlatch own) next c.ask_after-next.ensures t (asks t at).0 at
    (asked_unlatch f w own page told asks c.requires t at)) c.is_unfix.result c.is_unfix.ensures s st)
