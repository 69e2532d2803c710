-- What is left to show of Directory::request_by_place: what each case of the figure asks of the lists.
use Rattle.std.proofs.Common.{◌≡◌, arith}
use Rattle.std.specs.Prelude.{Some, None}
use Rattle.pp_arc.specs.declared.list.List.TheVariants.{B1, B2}
use Rattle.pp_arc.specs.FourLists.{place}
use Rattle.pp_arc.proofs.StepLemmas.{StandsIn, StandsIn-place}
use Rattle.pp_arc.proofs.directory.Directory.request_by_place.Goals as goal

pub request_remembered-requires-clause-remembered : goal.request_remembered-requires-clause-remembered
request_remembered-requires-clause-remembered g c =
    let e : place c.args.self.now c.args.page ≡ Some B1 = cc in
    let h : StandsIn (Some B1) c.args.self.now c.args.page = rw e at (StandsIn-place c.args.self.now c.args.page) in
    omega (arith, h.1)

pub request_remembered-requires-in-Some-B2-clause-remembered :
    goal.request_remembered-requires-in-Some-B2-clause-remembered
request_remembered-requires-in-Some-B2-clause-remembered g c =
    let e : place c.args.self.now c.args.page ≡ Some B2 = cc in
    let h : StandsIn (Some B2) c.args.self.now c.args.page = rw e at (StandsIn-place c.args.self.now c.args.page) in
    omega (arith, h.1)

pub request_new-requires-clause-absent : goal.request_new-requires-clause-absent
request_new-requires-clause-absent g c =
    let e : place c.args.self.now c.args.page ≡ None = cc in
    let h : StandsIn None c.args.self.now c.args.page = rw e at (StandsIn-place c.args.self.now c.args.page) in
    h.1

pub returns-in-Some-T1-clause-knows : goal.returns-in-Some-T1-clause-knows
returns-in-Some-T1-clause-knows g c = c.hit.ensures.knows (g.B.Busy.busy c.args.busy.now) c.requires.knows
