use Rattle.std.proofs.Common.{rules}
use Rattle.pp_core.specs.Parts.{parts_of}
use Rattle.pp_core.proofs.TakeMoves.{not_idle, is_idle, nothing_waits, no_room, can_begin, take_moves, runs_few}
use Rattle.pp_core.proofs.table.Table.take.Goals as goal

pub returns-then-is_some-clause-moves : goal.returns-then-is_some-clause-moves
returns-then-is_some-clause-moves c =
    not_idle (parts_of c.args.self.now) c.args.worker c.in-Some.phase (search rules) (search rules)

pub returns-in_default-waiting_peak-clause-moves : goal.returns-in_default-waiting_peak-clause-moves
returns-in_default-waiting_peak-clause-moves c =
    let f = parts_of c.args.self.now in
    let idle = is_idle f c.args.worker c.in-Some.phase (search rules) (search rules) in
    nothing_waits f c.args.worker idle (search rules)

pub has_room-requires : goal.has_room-requires
has_room-requires c = runs_few (parts_of c.args.self.now) c.requires

pub returns-then-not-has_room-clause-moves : goal.returns-then-not-has_room-clause-moves
returns-then-not-has_room-clause-moves c =
    let f = parts_of c.args.self.now in
    let idle = is_idle f c.args.worker c.in-Some.phase (search rules) (search rules) in
    no_room f c.args.worker idle c.in-Some-waiting_peak.peak (search rules) (search rules)

pub begin_plan-requires : goal.begin_plan-requires
begin_plan-requires c =
    let f = parts_of c.args.self.now in
    let idle = is_idle f c.args.worker c.in-Some.phase (search rules) (search rules) in
    can_begin f c.args.worker idle c.in-Some-waiting_peak.peak (search rules) c.requires (search rules)

pub returns-clause-moves : goal.returns-clause-moves
returns-clause-moves c =
    let f = parts_of c.args.self.now in
    let idle = is_idle f c.args.worker c.in-Some.phase (search rules) (search rules) in
    take_moves f c.args.worker idle c.in-Some-waiting_peak.peak (search rules) (parts_of c.begin_plan.new.self)
    (search rules) c.begin_plan.ensures
