-- What is left to show of Table::bring_back: what a worker that leaves keeps, and what the search knows.
use Rattle.std.proofs.Common.{◌≡◌, ◌∙◌, ℕ, ◌<◌, Bool, true, List, length, ap, sym, subst, arith}
use Rattle.std.specs.Prelude.{Some, slice_set, false}
use Rattle.pp_arc.specs.FourLists.{FourLists}
use Rattle.pp_arc.specs.Figure.{bring_back}
use Rattle.pp_frames.specs.Marks.{PageMap, marks_of, frame_of, pins_of, with_frame}
use Rattle.pp_core.specs.Parts.{Parts, parts_of}
use Rattle.pp_core.specs.Busy.{is_busy_in, page_of}
use Rattle.pp_core.specs.Effects.{frame_at, displaced}
use Rattle.pp_core.specs.Answering.{lost}
use Rattle.pp_core.proofs.KnowsTies.{busy_by_pins, pins_kept}
use Rattle.pp_core.proofs.table.Table.bring_back.Goals as goal

pub place-requires-clause-free : goal.place-requires-clause-free
place-requires-clause-free c =
    let r = c.requires in
    let e = c.lose.ensures r.lose.seat r.lose.accepted r.lose.runs in
    let same : c.lose.new.self.marks ≡ c.args.self.now.marks = ap (λ (p : Parts). p.marks) e in
    let is : c.frame_at-frame.result ≡ frame_at c.args.self.now.marks c.args.page =
    c.frame_at-frame.ensures ∙ ap (λ (m : PageMap). frame_at m c.args.page) same in
    c.displace.ensures.freed c.frame_at-frame.result
    (ap (λ (m : PageMap). frame_of m c.args.page) same ∙ sym r.placed ∙ ap (λ (n : ℕ). Some n) (sym is))

pub place-requires-clause-unpinned : goal.place-requires-clause-unpinned
place-requires-clause-unpinned c =
    let r = c.requires in
    let e = c.lose.ensures r.lose.seat r.lose.accepted r.lose.runs in
    ap (λ (p : Parts). pins_of p.marks c.args.victim) c.displace.ensures.parts
    ∙ ap (λ (p : Parts). pins_of (displaced p.marks c.args.page) c.args.victim) e
    ∙ r.victim_unpinned

pub bring_back-requires-clause-below : goal.bring_back-requires-clause-below
bring_back-requires-clause-below c =
    let r = c.requires in
    let e = c.lose.ensures r.lose.seat r.lose.accepted r.lose.runs in
    subst (λ (l : FourLists). c.args.victim < l.pages)
    (sym (ap (λ (p : Parts). p.lists) c.displace.ensures.parts ∙ ap (λ (p : Parts). p.lists) e)) r.below

pub remove-requires : goal.remove-requires
remove-requires c =
    let r = c.requires in
    let e = c.lose.ensures r.lose.seat r.lose.accepted r.lose.runs in
    let low : c.args.page < length c.displace.new.self.in_flight = subst (λ (l : List Bool). c.args.page < length l)
    (sym (ap (λ (p : Parts). p.in_flight) c.displace.ensures.parts ∙ ap (λ (p : Parts). p.in_flight) e)) r.flight in
    omega (arith, low)

pub returns : goal.returns
returns c = λ x a runs.
    let f = parts_of c.args.self.now in
    let v = c.args.victim in
    let page = c.args.page in
    let e = c.lose.ensures x a runs in
    let is : c.frame_at-frame.result ≡ frame_at f.marks page =
    c.frame_at-frame.ensures ∙ ap (λ (p : Parts). frame_at p.marks page) e in
    let base : parts_of c.displace.new.self ≡ record (lost f c.args.worker x a 32) { marks = displaced f.marks page } =
    c.displace.ensures.parts ∙ ap (λ (p : Parts). record p { marks = displaced p.marks page }) e in
    (λ i. record (parts_of c.displace.new.self) {
      lists = c.bring_back.ensures.lists i;
      marks = c.place.ensures.exact i;
      in_flight = (c.remove-2.ensures ∙ ap (λ l. slice_set l v false) c.remove.ensures) i;
    })
    ∙ ap (λ (p : Parts). record p {
      lists = bring_back p.lists page v;
      marks = with_frame p.marks v (Some c.frame_at-frame.result);
      in_flight = slice_set (slice_set p.in_flight page false) v false;
    }) base
    ∙ ap (λ (n : ℕ). record (lost f c.args.worker x a 32) {
      lists = bring_back f.lists page v;
      marks = with_frame (displaced f.marks page) v (Some n);
      in_flight = slice_set (slice_set f.in_flight page false) v false;
    }) is

pub invariant_of-self-clause-knows : goal.invariant_of-self-clause-knows
invariant_of-self-clause-knows c =
    let m = c.displace.new.self.marks in
    let f = page_of c.displace.new.self.flush in
    let frame = c.frame_at-frame.result in
    c.bring_back.ensures.knows (is_busy_in m f) (is_busy_in c.place.new.self f) c.displace.new.self.knows
    (λ y nx nv b. subst (λ (w : PageMap). is_busy_in w f y ≡ true) (sym c.place.ensures.exact)
    (busy_by_pins m (with_frame m c.args.victim (Some frame)) f y
    (pins_kept m c.args.victim (record (marks_of m c.args.victim) { frame = Some frame }) y (omega arith)) b))
