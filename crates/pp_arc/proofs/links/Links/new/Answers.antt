-- What is left to show of Links::new.
use Rattle.std.proofs.Common.{◌≡◌, ◌+◌, length, arith}
use Rattle.pp_arc.proofs.FreshLemmas.{IsSound-fresh}
use Rattle.pp_arc.proofs.links.Links.new.Goals as goal

pub invariant_of-result : goal.invariant_of-result
invariant_of-result c =
    let size : length c.in_ok-records.records.items ≡ c.args.pages + 4 = omega
    (arith, c.in_ok-records.ensures.len, c.in_ok-records.records.ok.0) in
    rw (c.head.ensures, c.head-2.ensures, c.head-3.ensures, c.head-4.ensures)
    (IsSound-fresh c.args.pages c.in_ok-records.records.items (c.in_ok-records.ensures.items_if_clones_equal (λ y e. e))
    size c.requires.fits)
