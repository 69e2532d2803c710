use Rattle.std.proofs.Common.{◌∙◌, subst, sym, arith}
use Rattle.pp_model.specs.declared.moves.Move.TheVariants as move
use Rattle.pp_model.specs.declared.reply.Reply.{Reply}
use Rattle.pp_core.specs.Parts.{parts_of}
use Rattle.pp_core.specs.StandsFor.{Moves}
use Rattle.pp_core.proofs.ReadTies.{read_few, read_low, not_read, is_read, can_hit_there, hits_there}
use Rattle.pp_core.proofs.ReadMoves.{read_moves, read_acts, read_kept_between, latch_asks, page_fixed}
use Rattle.pp_core.proofs.Standing.{kept_after}
use Rattle.pp_core.proofs.table.Table.fix_and_share.Goals as goal

pub touch-requires : goal.touch-requires
touch-requires c =
    read_low (parts_of c.args.self.now) c.args.worker c.args.slot c.args.page c.in-Some.region c.requires
    c.in-Some.ensures.can

pub returns-then-not-touch-clause-exact : goal.returns-then-not-touch-clause-exact
returns-then-not-touch-clause-exact c s st =
    not_read (parts_of c.args.self.now) c.args.worker c.args.slot c.args.page c.in-Some.region c.requires
    c.in-Some.ensures.can (sym c.touch.ensures.cached ∙ c.if-not-touch.true) s st

pub overflow_cast-own : goal.overflow_cast-own
overflow_cast-own c =
    let few = read_few (parts_of c.args.self.now) c.args.worker c.args.slot c.args.page c.in-Some.region c.requires
    c.in-Some.ensures.can in
    omega (arith, few)

pub hit-requires : goal.hit-requires
hit-requires c =
    can_hit_there (parts_of c.args.self.now) c.args.worker c.args.slot c.args.page c.in-Some.region c.requires
    c.in-Some.ensures.can (parts_of c.touch.new.self) (c.touch.ensures.answer c.if-not-touch.false)
    (c.touch.ensures.parts c.if-not-touch.false)

pub unreachable-requires : goal.unreachable-requires
unreachable-requires c = c.in_default.not-Hit _ _ c.hit.ensures.reply

pub latch_held-latched-requires : goal.latch_held-latched-requires
latch_held-latched-requires c =
    let f = parts_of c.args.self.now in
    let w = c.args.worker in
    let slot = c.args.slot in
    let page = c.args.page in
    let can = c.in-Some.ensures.can in
    let reads = is_read f w slot page c.in-Some.region c.requires can (sym c.touch.ensures.cached ∙ c.if-not-touch.false) in
    let g = parts_of c.hit.new.self in
    let first = subst (λ (r : Reply). Moves f (move.Fix w page) r g) c.in-Hit.is
    (hits_there f w slot page c.in-Some.region c.requires can (parts_of c.touch.new.self)
    (c.touch.ensures.answer c.if-not-touch.false) (c.touch.ensures.parts c.if-not-touch.false) g c.hit.result
    c.hit.ensures.spent c.hit.ensures.reply) in
    record {
      kept = read_kept_between f c.requires w slot page (λ s st. sym (reads s st)) g c.in-Hit.frame c.in-Hit.mark first;
      asks = latch_asks f c.requires w slot page (λ s st. sym (reads s st)) g c.in-Hit.frame c.in-Hit.mark first;
      page = page_fixed f c.requires w slot page (λ s st. sym (reads s st)) g c.in-Hit.frame c.in-Hit.mark first;
    }

pub asked-requires : goal.asked-requires
asked-requires c =
    let f = parts_of c.args.self.now in
    let w = c.args.worker in
    let slot = c.args.slot in
    let page = c.args.page in
    let can = c.in-Some.ensures.can in
    let reads = is_read f w slot page c.in-Some.region c.requires can (sym c.touch.ensures.cached ∙ c.if-not-touch.false) in
    let g = parts_of c.hit.new.self in
    let first = subst (λ (r : Reply). Moves f (move.Fix w page) r g) c.in-Hit.is
    (hits_there f w slot page c.in-Some.region c.requires can (parts_of c.touch.new.self)
    (c.touch.ensures.answer c.if-not-touch.false) (c.touch.ensures.parts c.if-not-touch.false) g c.hit.result
    c.hit.ensures.spent c.hit.ensures.reply) in
    kept_after g (parts_of c.latch_held-latched.new.self) (move.Latch w) c.latch_held-latched.result
    (read_kept_between f c.requires w slot page (λ s st. sym (reads s st)) g c.in-Hit.frame c.in-Hit.mark first)
    c.latch_held-latched.ensures.moves

pub unreachable-requires-in-Err : goal.unreachable-requires-in-Err
unreachable-requires-in-Err c =
    let f = parts_of c.args.self.now in
    let w = c.args.worker in
    let slot = c.args.slot in
    let page = c.args.page in
    let can = c.in-Some.ensures.can in
    let reads = is_read f w slot page c.in-Some.region c.requires can (sym c.touch.ensures.cached ∙ c.if-not-touch.false) in
    let g = parts_of c.hit.new.self in
    let first = subst (λ (r : Reply). Moves f (move.Fix w page) r g) c.in-Hit.is
    (hits_there f w slot page c.in-Some.region c.requires can (parts_of c.touch.new.self)
    (c.touch.ensures.answer c.if-not-touch.false) (c.touch.ensures.parts c.if-not-touch.false) g c.hit.result
    c.hit.ensures.spent c.hit.ensures.reply) in
    read_acts f c.requires w slot page (λ s st. sym (reads s st)) g c.in-Hit.frame c.in-Hit.mark first
    (parts_of c.latch_held-latched.new.self) c.latch_held-latched.result c.latch_held-latched.ensures.moves
    c.in-Err.field-0 c.in-Err.ensures.cause

pub returns-clause-exact : goal.returns-clause-exact
returns-clause-exact c s st =
    is_read (parts_of c.args.self.now) c.args.worker c.args.slot c.args.page c.in-Some.region c.requires
    c.in-Some.ensures.can (sym c.touch.ensures.cached ∙ c.if-not-touch.false) s st

pub returns-clause-moves : goal.returns-clause-moves
returns-clause-moves c =
    let f = parts_of c.args.self.now in
    let w = c.args.worker in
    let slot = c.args.slot in
    let page = c.args.page in
    let can = c.in-Some.ensures.can in
    let reads = is_read f w slot page c.in-Some.region c.requires can (sym c.touch.ensures.cached ∙ c.if-not-touch.false) in
    let g = parts_of c.hit.new.self in
    let first = subst (λ (r : Reply). Moves f (move.Fix w page) r g) c.in-Hit.is
    (hits_there f w slot page c.in-Some.region c.requires can (parts_of c.touch.new.self)
    (c.touch.ensures.answer c.if-not-touch.false) (c.touch.ensures.parts c.if-not-touch.false) g c.hit.result
    c.hit.ensures.spent c.hit.ensures.reply) in
    read_moves f c.requires w slot page (λ s st. sym (reads s st)) g c.in-Hit.frame c.in-Hit.mark first
    (parts_of c.latch_held-latched.new.self) c.latch_held-latched.result c.latch_held-latched.ensures.moves
