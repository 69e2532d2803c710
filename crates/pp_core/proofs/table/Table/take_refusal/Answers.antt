use Rattle.std.proofs.Common.{refl, rules}
use Rattle.pp_model.specs.declared.moves.Move.TheVariants as move
use Rattle.pp_model.specs.declared.reply.Reply.TheVariants.{NotNow, OffPlan}
use Rattle.pp_model.specs.declared.refusals.Delay.TheVariants.{NothingWaiting, NoRoom}
use Rattle.pp_model.specs.declared.refusals.Cause.TheVariants.{NotIdle}
use Rattle.pp_core.specs.Parts.{parts_of}
use Rattle.pp_core.proofs.TakeMoves.{not_idle, is_idle, nothing_waits, no_room, runs_few}
use Rattle.pp_core.proofs.RefusalTies.{refused_so, take_possible}
use Rattle.pp_core.proofs.table.Table.take_refusal.Goals as goal

pub returns-then-is_some : goal.returns-then-is_some
returns-then-is_some c =
    let f = parts_of c.args.self.now in
    refused_so f (move.Take c.args.worker) (OffPlan NotIdle) refl
    (not_idle f c.args.worker c.in-Some.phase (search rules) (search rules))

pub returns-in_default-waiting_peak : goal.returns-in_default-waiting_peak
returns-in_default-waiting_peak c =
    let f = parts_of c.args.self.now in
    let idle = is_idle f c.args.worker c.in-Some.phase (search rules) (search rules) in
    refused_so f (move.Take c.args.worker) (NotNow NothingWaiting) refl
    (nothing_waits f c.args.worker idle (search rules))

pub has_room-requires : goal.has_room-requires
has_room-requires c = runs_few (parts_of c.args.self.now) c.requires

pub returns-then-not-has_room : goal.returns-then-not-has_room
returns-then-not-has_room c =
    let f = parts_of c.args.self.now in
    let idle = is_idle f c.args.worker c.in-Some.phase (search rules) (search rules) in
    refused_so f (move.Take c.args.worker) (NotNow NoRoom) refl
    (no_room f c.args.worker idle c.in-Some-waiting_peak.peak (search rules) (search rules))

pub returns : goal.returns
returns c =
    let f = parts_of c.args.self.now in
    let idle = is_idle f c.args.worker c.in-Some.phase (search rules) (search rules) in
    take_possible f c.args.worker idle c.in-Some-waiting_peak.peak (search rules) (search rules)
