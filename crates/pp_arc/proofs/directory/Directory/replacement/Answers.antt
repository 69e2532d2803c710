-- What is left to show of Directory::replacement: a victim is cached.
use Rattle.std.proofs.Common.{◌≡◌}
use Rattle.std.specs.Prelude.{Some}
use Rattle.pp_arc.specs.FourLists.{FourLists}
use Rattle.pp_arc.specs.Figure.{victim}
use Rattle.pp_arc.proofs.VictimLemmas.{is_cached-victim}
use Rattle.pp_arc.proofs.directory.Directory.replacement.Goals as goal

pub returns-in-Some-clause-victim_is_cached : goal.returns-in-Some-clause-victim_is_cached
returns-in-Some-clause-victim_is_cached g c = λ v e.
    let s : FourLists = record c.args.self.now { target = c.args.target } in
    let found : victim s c.args.in_b2 (g.B.Busy.busy c.args.busy.now) ≡ Some v = cc in
    is_cached-victim s c.args.in_b2 (g.B.Busy.busy c.args.busy.now) v found
