use Rattle.std.proofs.Common.{◌≡◌, ◌∙◌, true, false, Some, subst, sym, ap, refl, rules, arith}
use Rattle.pp_plan.specs.declared.action.Action.TheVariants as action
use Rattle.pp_plan.specs.declared.action.Ask.TheVariants as ask
use Rattle.pp_plan.specs.declared.mode.Mode.TheVariants as mode
use Rattle.pp_cursor.specs.Asked.{region_has}
use Rattle.pp_model.specs.declared.reply.Reply.TheVariants.{NotNow, OffPlan}
use Rattle.pp_model.specs.declared.refusals.Delay.TheVariants.{InFlight}
use Rattle.pp_model.specs.declared.refusals.Cause.TheVariants.{NotAsked}
use Rattle.pp_core.specs.Parts.{parts_of}
use Rattle.pp_core.specs.StandsFor.{Asks}
use Rattle.pp_core.specs.Effects.{is_flying}
use Rattle.pp_core.specs.Reading.{AsksBehind, CanRead, asks_fix, asks_share, can_read}
use Rattle.pp_core.proofs.FixMoves as fixing
use Rattle.pp_core.proofs.QueryTies.{none_told}
use Rattle.pp_core.proofs.ReadAsks.{share_asked}
use Rattle.pp_core.proofs.ReadTies.{missed, unasked, can_fix, unread, kept_off, same_ask}
use Rattle.pp_core.proofs.table.Table.region_to_read.Goals as goal

pub returns-then-not-has_page-clause-cant : goal.returns-then-not-has_page-clause-cant
returns-then-not-has_page-clause-cant c s st =
    let f = parts_of c.args.self.now in
    let w = c.args.worker in
    let page = c.args.page in
    let slot = c.args.slot in
    let own = c.in-Fix.own in
    let region = c.in-Fix.region in
    let asks = subst (Asks f w) c.in-Fix.is c.in-Ok.ensures.asks in
    let hasnt : region_has f.layout region page ≡ false = search rules in
    missed f w slot page (OffPlan NotAsked) refl
    (fixing.fix_elsewhere f w page own region (ask.Fix own region) refl asks hasnt) s st

pub returns-then-is_flying-clause-cant : goal.returns-then-is_flying-clause-cant
returns-then-is_flying-clause-cant c s st =
    let f = parts_of c.args.self.now in
    let w = c.args.worker in
    let page = c.args.page in
    let slot = c.args.slot in
    let own = c.in-Fix.own in
    let region = c.in-Fix.region in
    let asks = subst (Asks f w) c.in-Fix.is c.in-Ok.ensures.asks in
    let has : region_has f.layout region page ≡ true = search rules in
    let flies : is_flying f page ≡ true = search rules in
    missed f w slot page (NotNow InFlight) refl
    (fixing.fix_flying f w page own region (ask.Fix own region) refl asks has flies) s st

pub ask_after-next-requires : goal.ask_after-next-requires
ask_after-next-requires c =
    let f = parts_of c.args.self.now in
    let w = c.args.worker in
    let page = c.args.page in
    let slot = c.args.slot in
    let own = c.in-Fix.own in
    let region = c.in-Fix.region in
    let asks = subst (Asks f w) c.in-Fix.is c.in-Ok.ensures.asks in
    let has : region_has f.layout region page ≡ true = search rules in
    let free : is_flying f page ≡ false = search rules in
    can_fix f w page own region asks has free c.requires

pub returns-then-not-is_share-clause-cant : goal.returns-then-not-is_share-clause-cant
returns-then-not-is_share-clause-cant c s st =
    let f = parts_of c.args.self.now in
    let w = c.args.worker in
    let page = c.args.page in
    let slot = c.args.slot in
    let own = c.in-Fix.own in
    let region = c.in-Fix.region in
    let asks = subst (Asks f w) c.in-Fix.is c.in-Ok.ensures.asks in
    let same : slot ≡ own = omega arith in
    let has : region_has f.layout region page ≡ true = search rules in
    let free : is_flying f page ≡ false = search rules in
    let next = c.ask_after-next.result in
    let no : asks_share own (Some next) ≡ false = search rules in
    subst (λ n. false ≡ can_read s w n page) (sym same)
    (unread f w page own region asks has free c.requires next c.ask_after-next.ensures no s st)

pub returns-then-not-can_grant-clause-cant : goal.returns-then-not-can_grant-clause-cant
returns-then-not-can_grant-clause-cant c s st =
    let f = parts_of c.args.self.now in
    let w = c.args.worker in
    let page = c.args.page in
    let slot = c.args.slot in
    let own = c.in-Fix.own in
    let region = c.in-Fix.region in
    let asks = subst (Asks f w) c.in-Fix.is c.in-Ok.ensures.asks in
    let same : slot ≡ own = omega arith in
    let has : region_has f.layout region page ≡ true = search rules in
    let free : is_flying f page ≡ false = search rules in
    let next = c.ask_after-next.result in
    let yes : asks_share own (Some next) ≡ true = search rules in
    subst (λ n. false ≡ can_read s w n page) (sym same)
    (kept_off f w page own region asks has free c.requires next c.ask_after-next.ensures yes
    (sym c.if-not-can_grant.true ∙ c.can_grant.ensures.value) s st)

pub returns-clause-can : goal.returns-clause-can
returns-clause-can c =
    let f = parts_of c.args.self.now in
    let w = c.args.worker in
    let page = c.args.page in
    let slot = c.args.slot in
    let own = c.in-Fix.own in
    let region = c.in-Fix.region in
    let asks = subst (Asks f w) c.in-Fix.is c.in-Ok.ensures.asks in
    let same : slot ≡ own = omega arith in
    let has : region_has f.layout region page ≡ true = search rules in
    let free : is_flying f page ≡ false = search rules in
    let next = c.ask_after-next.result in
    let yes : asks_share own (Some next) ≡ true = search rules in
    let shares = same_ask next (ask.Latch own mode.S) (share_asked own (Some next) yes) in
    subst (λ n. CanRead f w n page region) (sym same) (record {
      asks = asks;
      has = has;
      free = free;
      behind = subst (AsksBehind f w (action.Fix own page)) shares c.ask_after-next.ensures;
      goes = sym c.if-not-can_grant.false ∙ c.can_grant.ensures.value;
    })

pub returns-in-Err-clause-cant : goal.returns-in-Err-clause-cant
returns-in-Err-clause-cant c s st =
    unasked s c.args.worker c.args.slot c.args.page
    (ap (asks_fix c.args.slot)
    (sym (none_told (parts_of c.args.self.now) s c.args.worker c.in-Err.field-0 st c.in-Err.ensures.cause)))
