-- What the check leaves to show of Marks::dirty_from.
use Rattle.std.proofs.Common.{◌≡◌, rules}
use Rattle.pp_frames.specs.Marks.{dirty_from}
use Rattle.pp_frames.proofs.Whole.{no_dirty, none_dirty, least_onward, least_around, none_onward}
use Rattle.pp_frames.proofs.marks.Marks.dirty_from.Goals as goal

pub returns-clause-none : goal.returns-clause-none
returns-clause-none c =
    let exact : c.or_else.result ≡ dirty_from c.args.self.now c.args.from = search rules in (
      no_dirty c.args.self.now c.args.from c.or_else.result exact,
      none_dirty c.args.self.now c.args.from c.or_else.result exact,
    )

pub returns-clause-least : goal.returns-clause-least
returns-clause-least c =
    let exact : c.or_else.result ≡ dirty_from c.args.self.now c.args.from = search rules in
    least_onward c.args.self.now c.args.from c.or_else.result exact

pub returns-clause-wrapped : goal.returns-clause-wrapped
returns-clause-wrapped c =
    let exact : c.or_else.result ≡ dirty_from c.args.self.now c.args.from = search rules in
    least_around c.args.self.now c.args.from c.or_else.result exact

pub returns-clause-none_onward : goal.returns-clause-none_onward
returns-clause-none_onward c =
    let exact : c.or_else.result ≡ dirty_from c.args.self.now c.args.from = search rules in
    none_onward c.args.self.now c.args.from c.or_else.result exact
