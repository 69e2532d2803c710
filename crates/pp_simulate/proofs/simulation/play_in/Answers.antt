use Rattle.std.proofs.Common.{◌≡◌, string_bytes, rules, subst, ◌∙◌}
use Rattle.pp_model.specs.Pool.{opening}
use Rattle.pp_core.specs.Opening.{kept_of}
use Rattle.pp_device.specs.Disk.{DiskReads, DiskWrites}
use Rattle.pp_device.specs.Troubled.{TroubledReads, TroubledWrites}
use Rattle.pp_play.specs.Following.{PlaysOverDevice}
use Rattle.pp_simulate.specs.Simulating.{device_for, IsSimulateError}
use Rattle.pp_simulate.proofs.Simulated.{simulated}
use Rattle.pp_simulate.proofs.Submits.{handed_on}
use Rattle.pp_simulate.proofs.simulation.play_in.Goals as goal

pub returns-clause-ok : goal.returns-clause-ok
returns-clause-ok c =
    let settings = c.args.settings.now in
    let script = c.args.script in
    let device = device_for settings script in
    let made : c.new-device.result ≡ device = search rules in
    simulated settings c.args.plans.items script (string_bytes c.in_ok-transcript.field-0) c.take_all_in.new.vault
    c.play.new.vault c.args.hands.now c.play.new.hands c.play.new.device c.deref.result.now c.new-lines.result.items c.play.new.lines.items
    c.contents_are_kept.ensures.empty (c.in_ok-take_all_in.ensures.ok (opening (kept_of settings)) c.requires.opens)
    (c.in_ok-take_all_in.ensures.fit c.args.hands.now c.requires.fit) (c.in_ok-take_all_in.ensures.length ∙ c.requires.length) c.new-lines.ensures.items
    (c.deref.ensures.value ∙ c.into_parts-cues.ensures.cues)
    (subst
    (λ d. PlaysOverDevice (TroubledReads DiskReads) (TroubledWrites DiskWrites) c.take_all_in.new.vault c.args.hands.now d
    c.deref.result.now c.new-lines.result.items c.play.new.lines.items c.play.new.vault c.play.new.hands c.play.new.device) made
    c.in_ok-play.ensures.follows) (search rules)

pub returns-in_err-take_all_in-clause-err : goal.returns-in_err-take_all_in-clause-err
returns-in_err-take_all_in-clause-err c =
    let opened = opening (kept_of c.args.settings.now) in
    handed_on (IsSimulateError opened c.args.plans.items) c.from_residual.result c.in_err-take_all_in.field-0.0
    c.from_residual.ensures.1 (c.in_err-take_all_in.ensures.err opened c.requires.opens)
