use Rattle.pp_callers.proofs.Bytes.{on_ok, keeps}
use Rattle.pp_callers.proofs.script.play_in_memory.Goals as goal

pub returns : goal.returns
returns c =
    record {
      bytes =
          on_ok c.play.result
          (keeps c.args.vault.now c.args.hands.now c.args.device.now c.args.cues.now c.args.lines.now.items
          c.play.new.lines.items c.play.new.vault c.play.new.hands c.play.new.device c.solo_devices_are_honest.ensures
          c.contents_are_kept.ensures.empty) c.play.ensures.honest;
    }
