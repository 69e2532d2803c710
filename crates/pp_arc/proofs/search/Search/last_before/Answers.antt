-- What is left to show of Search::last_before: the mark stays at a busy page, and each page behind it is busy.
use Rattle.std.proofs.Common.{◌≡◌, ◌+◌, ◌-◌, ◌<◌, true, ℕ, ◌∷◌, length, arith, ap, sym, subst, ◌∙◌}
use Rattle.std.specs.Prelude.{Some, None, is_some}
use Rattle.pp_arc.specs.Pages.{contains, behind}
use Rattle.pp_arc.specs.FourLists.{list_of, place}
use Rattle.pp_arc.specs.Search.{SearchMarks, KnowsBusy, NoneFreed, mark_of, number_of}
use Rattle.pp_arc.proofs.SearchLemmas.{mark_at, place_of, found_ahead, found_none, room_for, KnowsBusy-pass, mark_of-passed}
use Rattle.pp_arc.proofs.SearchLemmas.{busy_mark, none_passed}
use Rattle.pp_arc.proofs.SearchLemmas.{clash}
use Rattle.pp_arc.proofs.BehindLemmas.{length-behind}
use Rattle.pp_arc.proofs.search.Search.last_before.Goals as goal

pub before-requires : goal.before-requires
before-requires g c =
    let e : place (g.L.Lists.lists c.args.links.now) c.loop-page.mark ≡ Some c.args.list =
    place_of (g.L.Lists.lists c.args.links.now) c.args.list c.loop-page.mark (c.requires.once c.loop-page.mark)
    c.requires.cached
    (mark_at (g.L.Lists.lists c.args.links.now) c.args.list c.loop-page.mark c.loop-page.self (g.B.Busy.busy
    c.args.busy.now)
    c.requires.cached c.loop-page.invariant.mark c.loop-page.invariant.knows).stands in
    ap is_some e

pub returns-then-not-is_busy-clause-last : goal.returns-then-not-is_busy-clause-last
returns-then-not-is_busy-clause-last g c =
    let e : place (g.L.Lists.lists c.args.links.now) c.loop-page.mark ≡ Some c.args.list =
    place_of (g.L.Lists.lists c.args.links.now) c.args.list c.loop-page.mark (c.requires.once c.loop-page.mark)
    c.requires.cached
    (mark_at (g.L.Lists.lists c.args.links.now) c.args.list c.loop-page.mark c.loop-page.self (g.B.Busy.busy
    c.args.busy.now)
    c.requires.cached c.loop-page.invariant.mark c.loop-page.invariant.knows).stands in
    let r : (contains (list_of (g.L.Lists.lists c.args.links.now) c.args.list) c.in-Some.page ≡ true)
    × (behind (list_of (g.L.Lists.lists c.args.links.now) c.args.list) c.in-Some.page
    ≡ c.loop-page.mark ∷ behind (list_of (g.L.Lists.lists c.args.links.now) c.args.list) c.loop-page.mark) =
    c.before-in-loop-page.ensures.some c.args.list c.in-Some.page e c.in-Some.is in
    sym (found_ahead (g.L.Lists.lists c.args.links.now) c.args.list c.loop-page.mark c.in-Some.page c.loop-page.self
    (g.B.Busy.busy c.args.busy.now) c.requires.cached c.loop-page.invariant.mark c.loop-page.invariant.none r.0 r.1
    (sym c.is_busy.ensures ∙ c.if-not-is_busy.true) c.loop-page.invariant.knows)

pub returns-then-not-is_busy-clause-mark : goal.returns-then-not-is_busy-clause-mark
returns-then-not-is_busy-clause-mark g c = λ e.
    let same : c.loop-page.mark ≡ c.in-Some.page = cc (e, c.loop-page.invariant.mark) in
    clash (ap (g.B.Busy.busy c.args.busy.now) (sym same) ∙ busy_mark (g.L.Lists.lists c.args.links.now) c.args.list
    c.loop-page.mark
    c.loop-page.self (g.B.Busy.busy c.args.busy.now) c.requires.cached c.loop-page.invariant.mark
    c.loop-page.invariant.none c.loop-page.invariant.knows)
    (sym c.is_busy.ensures ∙ c.if-not-is_busy.true)

pub pass-requires-clause-below : goal.pass-requires-clause-below
pass-requires-clause-below g c =
    let e : place (g.L.Lists.lists c.args.links.now) c.loop-page.mark ≡ Some c.args.list =
    place_of (g.L.Lists.lists c.args.links.now) c.args.list c.loop-page.mark (c.requires.once c.loop-page.mark)
    c.requires.cached
    (mark_at (g.L.Lists.lists c.args.links.now) c.args.list c.loop-page.mark c.loop-page.self (g.B.Busy.busy
    c.args.busy.now)
    c.requires.cached c.loop-page.invariant.mark c.loop-page.invariant.knows).stands in
    room_for (g.L.Lists.lists c.args.links.now) c.args.list c.in-Some.page c.loop-page.self (g.B.Busy.busy
    c.args.busy.now)
    c.requires.below (c.before-in-loop-page.ensures.some c.args.list c.in-Some.page e c.in-Some.is).0
    c.loop-page.invariant.knows

pub loop-page-smaller : goal.loop-page-smaller
loop-page-smaller g c =
    let e : place (g.L.Lists.lists c.args.links.now) c.loop-page.mark ≡ Some c.args.list =
    place_of (g.L.Lists.lists c.args.links.now) c.args.list c.loop-page.mark (c.requires.once c.loop-page.mark)
    c.requires.cached
    (mark_at (g.L.Lists.lists c.args.links.now) c.args.list c.loop-page.mark c.loop-page.self (g.B.Busy.busy
    c.args.busy.now)
    c.requires.cached c.loop-page.invariant.mark c.loop-page.invariant.knows).stands in
    let r : (contains (list_of (g.L.Lists.lists c.args.links.now) c.args.list) c.in-Some.page ≡ true)
    × (behind (list_of (g.L.Lists.lists c.args.links.now) c.args.list) c.in-Some.page
    ≡ c.loop-page.mark ∷ behind (list_of (g.L.Lists.lists c.args.links.now) c.args.list) c.loop-page.mark) =
    c.before-in-loop-page.ensures.some c.args.list c.in-Some.page e c.in-Some.is in
    omega (
      arith,
      ap (length {A = ℕ}) r.1,
      length-behind (list_of (g.L.Lists.lists c.args.links.now) c.args.list)
          c.in-Some.page,
    )

pub loop-page-preserved : goal.loop-page-preserved
loop-page-preserved g c =
    let e : place (g.L.Lists.lists c.args.links.now) c.loop-page.mark ≡ Some c.args.list =
    place_of (g.L.Lists.lists c.args.links.now) c.args.list c.loop-page.mark (c.requires.once c.loop-page.mark)
    c.requires.cached
    (mark_at (g.L.Lists.lists c.args.links.now) c.args.list c.loop-page.mark c.loop-page.self (g.B.Busy.busy
    c.args.busy.now)
    c.requires.cached c.loop-page.invariant.mark c.loop-page.invariant.knows).stands in
    let r : (contains (list_of (g.L.Lists.lists c.args.links.now) c.args.list) c.in-Some.page ≡ true)
    × (behind (list_of (g.L.Lists.lists c.args.links.now) c.args.list) c.in-Some.page
    ≡ c.loop-page.mark ∷ behind (list_of (g.L.Lists.lists c.args.links.now) c.args.list) c.loop-page.mark) =
    c.before-in-loop-page.ensures.some c.args.list c.in-Some.page e c.in-Some.is in
    let some : 0 < c.number-number.result - 1 = omega arith in
    let one : c.number-number.result - 1 + 1 ≡ number_of c.loop-page.self c.loop-page.mark = omega
    (arith, c.number-number.ensures) in
    record {
      knows = subst (λ (w : SearchMarks). KnowsBusy (g.L.Lists.lists c.args.links.now) w (g.B.Busy.busy
          c.args.busy.now))
          (sym (c.pass.ensures.exact c.if-not-pass.false))
          (KnowsBusy-pass (g.L.Lists.lists c.args.links.now) c.args.list c.loop-page.mark c.in-Some.page
          (c.number-number.result - 1) c.loop-page.self (g.B.Busy.busy c.args.busy.now) c.requires.once c.requires.below
          c.requires.cached c.loop-page.invariant.mark c.loop-page.invariant.none
          (sym c.is_busy.ensures ∙ c.if-not-is_busy.false) r.0 r.1 some one c.loop-page.invariant.knows);
      mark = ap (λ (w : SearchMarks). mark_of w c.args.list) (c.pass.ensures.exact c.if-not-pass.false)
          ∙ mark_of-passed c.loop-page.self c.args.list c.in-Some.page (c.number-number.result - 1);
      none = subst (λ (w : SearchMarks). NoneFreed w c.args.list) (sym (c.pass.ensures.exact c.if-not-pass.false))
          (none_passed c.loop-page.self c.args.list c.in-Some.page (c.number-number.result - 1)
          c.loop-page.invariant.none);
    }

pub returns-clause-last : goal.returns-clause-last
returns-clause-last g c =
    let e : place (g.L.Lists.lists c.args.links.now) c.loop-page.mark ≡ Some c.args.list =
    place_of (g.L.Lists.lists c.args.links.now) c.args.list c.loop-page.mark (c.requires.once c.loop-page.mark)
    c.requires.cached
    (mark_at (g.L.Lists.lists c.args.links.now) c.args.list c.loop-page.mark c.loop-page.self (g.B.Busy.busy
    c.args.busy.now)
    c.requires.cached c.loop-page.invariant.mark c.loop-page.invariant.knows).stands in
    let none : c.before-in-loop-page.result ≡ None = cc in
    sym (found_none (g.L.Lists.lists c.args.links.now) c.args.list c.loop-page.mark c.loop-page.self (g.B.Busy.busy
    c.args.busy.now)
    c.requires.cached c.loop-page.invariant.mark c.loop-page.invariant.none
    (c.before-in-loop-page.ensures.none c.args.list e none) c.loop-page.invariant.knows)
