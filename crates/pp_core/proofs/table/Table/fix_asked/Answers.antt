use Rattle.std.proofs.Common.{◌≡◌, ◌∙◌, ◌<◌, true, false, subst, sym, refl, rules}
use Rattle.pp_cursor.specs.Asked.{region_has}
use Rattle.pp_arc.specs.declared.answer.Answer.TheVariants as answer
use Rattle.pp_arc.specs.FourLists.{is_cached}
use Rattle.pp_arc.specs.Figure.{request}
use Rattle.pp_frames.specs.Marks.{is_dirty}
use Rattle.pp_model.specs.Fixing.{fixes}
use Rattle.pp_model.specs.declared.moves.Move.TheVariants as move
use Rattle.pp_model.specs.declared.reply.Reply.TheVariants.{Hit, MustRead, MustWrite, NotNow}
use Rattle.pp_model.specs.declared.refusals.Delay.TheVariants.{FlushHolds}
use Rattle.pp_core.specs.declared.seat.Seat.{Seat}
use Rattle.pp_core.specs.Parts.{Parts, parts_of}
use Rattle.pp_core.specs.StandsFor.{Moves}
use Rattle.pp_core.specs.Effects.{IsIn, Spent, is_busy, is_flying, pinned, frame_at, mark_at}
use Rattle.pp_core.specs.Fixing.{CanHit, CanFill, CanEvict, CanSend, free_frame, filled, evicted, sent}
use Rattle.pp_core.proofs.FixMoves as step
use Rattle.pp_core.proofs.table.Table.fix_asked.Goals as goal

pub returns-then-not-has_page-clause-moves : goal.returns-then-not-has_page-clause-moves
returns-then-not-has_page-clause-moves c =
    let f = parts_of c.args.self.now in
    let w = c.args.worker in
    let page = c.args.page in
    let slot = c.in-Some.slot in
    let region = c.in-Some.region in
    let asks = c.requires.asks in
    let wants = c.args.ask in
    let into = sym c.wanted.ensures ∙ c.in-Some.is in
    let hasnt : region_has f.layout region page ≡ false = search rules in
    step.fix_elsewhere f w page slot region wants into asks hasnt

pub returns-then-is_flying-clause-moves : goal.returns-then-is_flying-clause-moves
returns-then-is_flying-clause-moves c =
    let f = parts_of c.args.self.now in
    let w = c.args.worker in
    let page = c.args.page in
    let slot = c.in-Some.slot in
    let region = c.in-Some.region in
    let asks = c.requires.asks in
    let wants = c.args.ask in
    let into = sym c.wanted.ensures ∙ c.in-Some.is in
    let has : region_has f.layout region page ≡ true = search rules in
    let flies : is_flying f page ≡ true = search rules in
    step.fix_flying f w page slot region wants into asks has flies

pub touch-requires : goal.touch-requires
touch-requires c =
    let f = parts_of c.args.self.now in
    let w = c.args.worker in
    let page = c.args.page in
    let slot = c.in-Some.slot in
    let region = c.in-Some.region in
    let asks = c.requires.asks in
    let wants = c.args.ask in
    let into = sym c.wanted.ensures ∙ c.in-Some.is in
    let has : region_has f.layout region page ≡ true = search rules in
    step.request_low f w page slot region wants into asks has c.requires.kept

pub request-requires : goal.request-requires
request-requires c =
    let f = parts_of c.args.self.now in
    let w = c.args.worker in
    let page = c.args.page in
    let slot = c.in-Some.slot in
    let region = c.in-Some.region in
    let asks = c.requires.asks in
    let wants = c.args.ask in
    let into = sym c.wanted.ensures ∙ c.in-Some.is in
    let has : region_has f.layout region page ≡ true = search rules in
    let same = c.touch.ensures.unchanged c.if-touch.false in
    subst (λ (z : Parts). page < z.lists.pages) (sym same)
    (step.request_low f w page slot region wants into asks has c.requires.kept)

pub hit-requires : goal.hit-requires
hit-requires c =
    let f = parts_of c.args.self.now in
    let w = c.args.worker in
    let page = c.args.page in
    let slot = c.in-Some.slot in
    let region = c.in-Some.region in
    let asks = c.requires.asks in
    let wants = c.args.ask in
    let into = sym c.wanted.ensures ∙ c.in-Some.is in
    let has : region_has f.layout region page ≡ true = search rules in
    let free : is_flying f page ≡ false = search rules in
    let is = sym (c.touch.ensures.answer c.if-touch.true) in
    let parts = c.touch.ensures.parts c.if-touch.true in
    subst (λ (z : Parts). CanHit z w wants slot page) (sym parts)
    (step.can_hit f w page slot region wants into asks has free answer.Hit is c.requires.kept refl)

pub unreachable-requires : goal.unreachable-requires
unreachable-requires c =
    let page = c.args.page in
    let same = c.touch.ensures.unchanged c.if-touch.false in
    let there : is_cached (parts_of c.args.self.now).lists page ≡ true =
    subst (λ (z : Parts). is_cached z.lists page ≡ true) same (c.request.ensures.hit c.in-Hit.is) in
    cc

pub fill-requires : goal.fill-requires
fill-requires c =
    let f = parts_of c.args.self.now in
    let w = c.args.worker in
    let page = c.args.page in
    let slot = c.in-Some.slot in
    let region = c.in-Some.region in
    let asks = c.requires.asks in
    let wants = c.args.ask in
    let into = sym c.wanted.ensures ∙ c.in-Some.is in
    let has : region_has f.layout region page ≡ true = search rules in
    let free : is_flying f page ≡ false = search rules in
    let a = c.request.result in
    let same = c.touch.ensures.unchanged c.if-touch.false in
    let is = subst (λ (z : Parts). a ≡ (request z.lists page (is_busy z)).0) same c.request.ensures.answer in
    let h = parts_of c.request.new.self in
    let parts = subst (λ (z : Parts). h ≡ record z { lists = (request z.lists page (is_busy z)).1 }) same
    c.request.ensures.parts in
    subst (λ (z : Parts). CanFill z w page) (sym parts)
    (step.can_fill f w page slot region wants into asks has free a is c.requires.kept c.in-Free.is)

pub send-requires : goal.send-requires
send-requires c =
    let f = parts_of c.args.self.now in
    let w = c.args.worker in
    let page = c.args.page in
    let slot = c.in-Some.slot in
    let region = c.in-Some.region in
    let asks = c.requires.asks in
    let wants = c.args.ask in
    let into = sym c.wanted.ensures ∙ c.in-Some.is in
    let has : region_has f.layout region page ≡ true = search rules in
    let free : is_flying f page ≡ false = search rules in
    let a = c.request.result in
    let same = c.touch.ensures.unchanged c.if-touch.false in
    let is = subst (λ (z : Parts). a ≡ (request z.lists page (is_busy z)).0) same c.request.ensures.answer in
    let h = parts_of c.request.new.self in
    let parts = subst (λ (z : Parts). h ≡ record z { lists = (request z.lists page (is_busy z)).1 }) same
    c.request.ensures.parts in
    subst (λ (z : Parts). CanSend z w page c.in-Evict.victim) (sym parts)
    (step.can_send f w page slot region wants into asks has free a is c.in-Evict.victim c.in-Evict.is c.requires.kept)

pub evict-requires : goal.evict-requires
evict-requires c =
    let f = parts_of c.args.self.now in
    let w = c.args.worker in
    let page = c.args.page in
    let slot = c.in-Some.slot in
    let region = c.in-Some.region in
    let asks = c.requires.asks in
    let wants = c.args.ask in
    let into = sym c.wanted.ensures ∙ c.in-Some.is in
    let has : region_has f.layout region page ≡ true = search rules in
    let free : is_flying f page ≡ false = search rules in
    let a = c.request.result in
    let same = c.touch.ensures.unchanged c.if-touch.false in
    let is = subst (λ (z : Parts). a ≡ (request z.lists page (is_busy z)).0) same c.request.ensures.answer in
    let h = parts_of c.request.new.self in
    let parts = subst (λ (z : Parts). h ≡ record z { lists = (request z.lists page (is_busy z)).1 }) same
    c.request.ensures.parts in
    subst (λ (z : Parts). CanEvict z w page c.in-Evict.victim) (sym parts)
    (step.can_evict f w page slot region wants into asks has free a is c.in-Evict.victim c.in-Evict.is c.requires.kept)

pub returns-then-touch-clause-moves : goal.returns-then-touch-clause-moves
returns-then-touch-clause-moves c =
    let f = parts_of c.args.self.now in
    let w = c.args.worker in
    let page = c.args.page in
    let slot = c.in-Some.slot in
    let region = c.in-Some.region in
    let asks = c.requires.asks in
    let wants = c.args.ask in
    let into = sym c.wanted.ensures ∙ c.in-Some.is in
    let has : region_has f.layout region page ≡ true = search rules in
    let free : is_flying f page ≡ false = search rules in
    let is = sym (c.touch.ensures.answer c.if-touch.true) in
    let parts = c.touch.ensures.parts c.if-touch.true in
    let g = parts_of c.hit.new.self in
    let spent = subst (λ (z : Parts). Spent z g w (fixes wants slot page)
    (pinned z.marks page)) parts c.hit.ensures.spent in
    let tells = subst (λ (z : Parts). c.hit.result ≡ Hit (frame_at z.marks page) (mark_at z.marks page)) parts
    c.hit.ensures.reply in
    step.hit_moves f w page slot region wants into asks has free answer.Hit is g c.hit.result refl spent tells

pub returns-in-Free-clause-moves : goal.returns-in-Free-clause-moves
returns-in-Free-clause-moves c =
    let f = parts_of c.args.self.now in
    let w = c.args.worker in
    let page = c.args.page in
    let slot = c.in-Some.slot in
    let region = c.in-Some.region in
    let asks = c.requires.asks in
    let wants = c.args.ask in
    let into = sym c.wanted.ensures ∙ c.in-Some.is in
    let has : region_has f.layout region page ≡ true = search rules in
    let free : is_flying f page ≡ false = search rules in
    let a = c.request.result in
    let same = c.touch.ensures.unchanged c.if-touch.false in
    let is = subst (λ (z : Parts). a ≡ (request z.lists page (is_busy z)).0) same c.request.ensures.answer in
    let h = parts_of c.request.new.self in
    let parts = subst (λ (z : Parts). h ≡ record z { lists = (request z.lists page (is_busy z)).1 }) same
    c.request.ensures.parts in
    let g = parts_of c.fill.new.self in
    let fills = subst (λ (z : Parts). (x : Seat) → IsIn z w x → g
    ≡ filled z w x slot page) parts c.fill.ensures.parts in
    let tells = subst (λ (z : Parts). c.fill.result ≡ MustRead (free_frame z.marks)) parts c.fill.ensures.reply in
    step.fill_moves f w page slot region wants into asks has free a is g c.fill.result c.in-Free.is fills tells

pub returns-then-is_dirty-clause-moves : goal.returns-then-is_dirty-clause-moves
returns-then-is_dirty-clause-moves c =
    let f = parts_of c.args.self.now in
    let w = c.args.worker in
    let page = c.args.page in
    let slot = c.in-Some.slot in
    let region = c.in-Some.region in
    let asks = c.requires.asks in
    let wants = c.args.ask in
    let into = sym c.wanted.ensures ∙ c.in-Some.is in
    let has : region_has f.layout region page ≡ true = search rules in
    let free : is_flying f page ≡ false = search rules in
    let a = c.request.result in
    let same = c.touch.ensures.unchanged c.if-touch.false in
    let is = subst (λ (z : Parts). a ≡ (request z.lists page (is_busy z)).0) same c.request.ensures.answer in
    let h = parts_of c.request.new.self in
    let parts = subst (λ (z : Parts). h ≡ record z { lists = (request z.lists page (is_busy z)).1 }) same
    c.request.ensures.parts in
    let v = c.in-Evict.victim in
    let g = parts_of c.send.new.self in
    let changed = subst (λ (z : Parts). is_dirty z.marks v ≡ true) parts (sym c.is_dirty.ensures.value
    ∙ c.if-is_dirty.true) in
    let sends = subst (λ (z : Parts). (x : Seat) → IsIn z w x → g
    ≡ sent z w x slot page v) parts c.send.ensures.parts in
    let tells = subst (λ (z : Parts). c.send.result ≡ MustWrite (frame_at z.marks v) v) parts c.send.ensures.reply in
    step.send_moves f w page slot region wants into asks has free a is v c.in-Evict.is g c.send.result changed sends tells

pub returns-else-is_dirty-clause-moves : goal.returns-else-is_dirty-clause-moves
returns-else-is_dirty-clause-moves c =
    let f = parts_of c.args.self.now in
    let w = c.args.worker in
    let page = c.args.page in
    let slot = c.in-Some.slot in
    let region = c.in-Some.region in
    let asks = c.requires.asks in
    let wants = c.args.ask in
    let into = sym c.wanted.ensures ∙ c.in-Some.is in
    let has : region_has f.layout region page ≡ true = search rules in
    let free : is_flying f page ≡ false = search rules in
    let a = c.request.result in
    let same = c.touch.ensures.unchanged c.if-touch.false in
    let is = subst (λ (z : Parts). a ≡ (request z.lists page (is_busy z)).0) same c.request.ensures.answer in
    let h = parts_of c.request.new.self in
    let parts = subst (λ (z : Parts). h ≡ record z { lists = (request z.lists page (is_busy z)).1 }) same
    c.request.ensures.parts in
    let v = c.in-Evict.victim in
    let g = parts_of c.evict.new.self in
    let clean = subst (λ (z : Parts). is_dirty z.marks v ≡ false) parts (sym c.is_dirty.ensures.value
    ∙ c.if-is_dirty.false) in
    let evicts = subst (λ (z : Parts). (x : Seat) → IsIn z w x → g ≡ evicted z w x slot page v) parts
    c.evict.ensures.parts in
    let tells = subst (λ (z : Parts). c.evict.result ≡ MustRead (frame_at z.marks v)) parts c.evict.ensures.reply in
    step.evict_moves f w page slot region wants into asks has free a is v c.in-Evict.is g c.evict.result clean evicts tells

pub returns-in-AllBusy-clause-moves : goal.returns-in-AllBusy-clause-moves
returns-in-AllBusy-clause-moves c =
    let f = parts_of c.args.self.now in
    let w = c.args.worker in
    let page = c.args.page in
    let slot = c.in-Some.slot in
    let region = c.in-Some.region in
    let asks = c.requires.asks in
    let wants = c.args.ask in
    let into = sym c.wanted.ensures ∙ c.in-Some.is in
    let has : region_has f.layout region page ≡ true = search rules in
    let free : is_flying f page ≡ false = search rules in
    let a = c.request.result in
    let same = c.touch.ensures.unchanged c.if-touch.false in
    let is = subst (λ (z : Parts). a ≡ (request z.lists page (is_busy z)).0) same c.request.ensures.answer in
    let h = parts_of c.request.new.self in
    let parts = subst (λ (z : Parts). h ≡ record z { lists = (request z.lists page (is_busy z)).1 }) same
    c.request.ensures.parts in
    subst (λ (z : Parts). Moves f (move.Fix w page) (NotNow FlushHolds) z)
    (sym (parts ∙ step.lists_stay f w page slot region wants into asks has free a is c.in-AllBusy.is))
    (step.held_up f w page slot region wants into asks has free a is c.in-AllBusy.is)

pub returns-in-AllBusy-clause-refusal : goal.returns-in-AllBusy-clause-refusal
returns-in-AllBusy-clause-refusal c is_refused =
    let f = parts_of c.args.self.now in
    let w = c.args.worker in
    let page = c.args.page in
    let slot = c.in-Some.slot in
    let region = c.in-Some.region in
    let asks = c.requires.asks in
    let wants = c.args.ask in
    let into = sym c.wanted.ensures ∙ c.in-Some.is in
    let has : region_has f.layout region page ≡ true = search rules in
    let free : is_flying f page ≡ false = search rules in
    let a = c.request.result in
    let same = c.touch.ensures.unchanged c.if-touch.false in
    let is = subst (λ (z : Parts). a ≡ (request z.lists page (is_busy z)).0) same c.request.ensures.answer in
    let h = parts_of c.request.new.self in
    let parts = subst (λ (z : Parts). h ≡ record z { lists = (request z.lists page (is_busy z)).1 }) same
    c.request.ensures.parts in
    parts ∙ step.lists_stay f w page slot region wants into asks has free a is c.in-AllBusy.is

pub returns-in_default : goal.returns-in_default
returns-in_default c = record {
  moves = step.fix_unasked (parts_of c.args.self.now) c.args.worker c.args.page c.args.ask c.requires.asks
      (sym c.wanted.ensures ∙ c.in_default.is);
  refusal = λ is. refl;
}
