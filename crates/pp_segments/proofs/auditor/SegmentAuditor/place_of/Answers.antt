use Rattle.std.proofs.Common.{◌≡◌, ◌∙◌, ◌<◌, ◌≤◌, None, length, get_or, ap, arith, rules}
use Rattle.pp_segments.proofs.Passing.{place_here, place_past}
use Rattle.pp_segments.proofs.auditor.SegmentAuditor.place_of.Goals as goal

pub returns-in_err-place : goal.returns-in_err-place
returns-in_err-place c = λ prepared p at.
    let items = c.args.self.now.places.items in
    let past : length items ≤ c.args.name =
    omega (arith, c.in_err-place.ensures.lookup.3, ap length c.deref.ensures.value) in
    let empty : c.from_residual.result ≡ None = search rules in
    empty ∙ place_past items prepared c.args.name at.places past

pub returns : goal.returns
returns c = λ prepared p at.
    let items = c.args.self.now.places.items in
    let low : c.args.name < length items =
    omega (arith, c.in_ok-place.ensures.lookup.3.0, ap length c.deref.ensures.value) in
    place_here items prepared c.args.name 0 c.in_ok-place.place.now at.places low
    (c.in_ok-place.ensures.lookup.3.1 0 ∙ ap (λ l. get_or l c.args.name 0) c.deref.ensures.value)
