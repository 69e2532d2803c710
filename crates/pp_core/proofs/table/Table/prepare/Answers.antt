use Rattle.std.proofs.Common.{rules}
use Rattle.std.specs.Prelude.{◌≡◌, is_none, true, length}
use Rattle.pp_core.specs.Parts.{parts_of}
use Rattle.pp_core.proofs.SubmitTies.{prepares}
use Rattle.pp_core.proofs.table.Table.prepare.Goals as goal

pub returns-clause-ok : goal.returns-clause-ok
returns-clause-ok c =
    let f = parts_of c.args.self.now in
    let none : is_none c.prepare_fault.result ≡ true = search rules in
    let last : c.len-place.result ≡ length f.plans = search rules in
    let kept = c.prepare_fault.ensures.none none in
    prepares f (parts_of c.keep.new.self) c.args.accepted c.len-place.result kept.0 kept.1 kept.2 c.keep.ensures last
