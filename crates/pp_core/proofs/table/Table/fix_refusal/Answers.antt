use Rattle.std.proofs.Common.{◌≡◌, ◌∙◌, true, false, sym, refl, rules}
use Rattle.pp_cursor.specs.Asked.{region_has}
use Rattle.pp_arc.specs.Figure.{request, is_all_busy}
use Rattle.pp_model.specs.declared.moves.Move.TheVariants as move
use Rattle.pp_model.specs.declared.reply.Reply.TheVariants.{NotNow, OffPlan}
use Rattle.pp_model.specs.declared.refusals.Delay.TheVariants.{InFlight, FlushHolds}
use Rattle.pp_model.specs.declared.refusals.Cause.TheVariants.{NotAsked}
use Rattle.pp_core.specs.Parts.{parts_of}
use Rattle.pp_core.specs.Effects.{is_flying, is_busy}
use Rattle.pp_core.proofs.FixMoves as fixes
use Rattle.pp_core.proofs.RefusalTies.{refused_so, fix_possible, busy_answer}
use Rattle.pp_core.proofs.table.Table.fix_refusal.Goals as goal

pub returns-then-not-has_page : goal.returns-then-not-has_page
returns-then-not-has_page c =
    let f = parts_of c.args.self.now in
    let w = c.args.worker in
    let page = c.args.page in
    let asks = c.in-Ok.ensures.asks in
    let wants = c.in-Ok.ask in
    let slot = c.in-Some.field-0-0 in
    let region = c.in-Some.region in
    let into = sym c.wanted.ensures ∙ c.in-Some.is in
    let has : region_has f.layout region page ≡ false = search rules in
    refused_so f (move.Fix w page) (OffPlan NotAsked) refl
    (fixes.fix_elsewhere f w page slot region wants into asks has)

pub returns-then-is_flying : goal.returns-then-is_flying
returns-then-is_flying c =
    let f = parts_of c.args.self.now in
    let w = c.args.worker in
    let page = c.args.page in
    let asks = c.in-Ok.ensures.asks in
    let wants = c.in-Ok.ask in
    let slot = c.in-Some.field-0-0 in
    let region = c.in-Some.region in
    let into = sym c.wanted.ensures ∙ c.in-Some.is in
    let has : region_has f.layout region page ≡ true = search rules in
    let flies : is_flying f page ≡ true = search rules in
    refused_so f (move.Fix w page) (NotNow InFlight) refl
    (fixes.fix_flying f w page slot region wants into asks has flies)

pub returns-then-is_held_up : goal.returns-then-is_held_up
returns-then-is_held_up c =
    let f = parts_of c.args.self.now in
    let w = c.args.worker in
    let page = c.args.page in
    let asks = c.in-Ok.ensures.asks in
    let wants = c.in-Ok.ask in
    let slot = c.in-Some.field-0-0 in
    let region = c.in-Some.region in
    let into = sym c.wanted.ensures ∙ c.in-Some.is in
    let has : region_has f.layout region page ≡ true = search rules in
    let free : is_flying f page ≡ false = search rules in
    let held : is_all_busy (request f.lists page (is_busy f)).0 ≡ true = search rules in
    refused_so f (move.Fix w page) (NotNow FlushHolds) refl
    (fixes.held_up f w page slot region wants into asks has free (request f.lists page (is_busy f)).0 refl
    (busy_answer (request f.lists page (is_busy f)).0 held))

pub returns : goal.returns
returns c =
    let f = parts_of c.args.self.now in
    let w = c.args.worker in
    let page = c.args.page in
    let asks = c.in-Ok.ensures.asks in
    let wants = c.in-Ok.ask in
    let slot = c.in-Some.field-0-0 in
    let region = c.in-Some.region in
    let into = sym c.wanted.ensures ∙ c.in-Some.is in
    let has : region_has f.layout region page ≡ true = search rules in
    let free : is_flying f page ≡ false = search rules in
    let room : is_all_busy (request f.lists page (is_busy f)).0 ≡ false = search rules in
    fix_possible f w page slot region wants into asks has free room

pub returns-in_default : goal.returns-in_default
returns-in_default c =
    refused_so (parts_of c.args.self.now) (move.Fix c.args.worker c.args.page) (OffPlan NotAsked) refl
    (fixes.fix_unasked (parts_of c.args.self.now) c.args.worker c.args.page c.in-Ok.ask c.in-Ok.ensures.asks
    (sym c.wanted.ensures ∙ c.in_default.is))
