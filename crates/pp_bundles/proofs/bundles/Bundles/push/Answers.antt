-- What is left to show of Bundles::push.
use Rattle.pp_bundles.proofs.PlaceLemmas.{pushed_by}
use Rattle.pp_bundles.proofs.bundles.Bundles.push.Goals as goal

pub returns-clause-exact : goal.returns-clause-exact
returns-clause-exact c =
    pushed_by c.self.inside.stacks c.move_record.new.self c.args.self.now c.args.place c.stack_of.result c.args.page
    c.self.view_is c.stack_of.ensures c.move_record.ensures c.requires.place c.requires.free c.self.invariant.some
