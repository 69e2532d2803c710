use Rattle.std.proofs.Common.{◌≡◌, ◌≤◌, ◌+◌, ◌-◌, length, drop, take}
use Rattle.std.specs.Vec.{vec_len, vec_capacity}
use Rattle.pp_play.proofs.Runs.{Goes}
use Rattle.pp_play.proofs.Scripts.{PlayedTo}
use Rattle.pp_play.proofs.Answered.{AnsweredTo}
use Rattle.pp_play.proofs.OverScripts.{OverTo}
use Rattle.pp_play.proofs.playing.play.Given as goal
use Rattle.pp_vault.specs.Hands.{HandsFit}
use Rattle.pp_play.specs.Calling.{answers, NoneBack}

abbrev pub invariant-loop-cue : goal.invariant-loop-cue
invariant-loop-cue g l = record {
  room : vec_len l.lines + (length l.cues - l.cue-index) ≤ vec_capacity l.lines;
  count : length l.lines.items ≡ length l.fn.lines.items + l.cue-index;
  behind : take (length l.fn.lines.items) l.lines.items ≡ l.fn.lines.items;
  goes : Goes l.fn.vault l.cues l.fn.lines.items l.vault (drop l.cue-index l.cues) l.lines.items;
  answered :
      AnsweredTo l.fn.vault l.fn.hands l.cues l.fn.lines.items l.vault l.hands (drop l.cue-index l.cues) l.lines.items;
  plays :
      PlayedTo l.fn.vault l.fn.hands l.cues l.fn.lines.items l.vault l.hands (drop l.cue-index l.cues) l.lines.items;
  over :
      OverTo g.D.Device.read_gives g.D.Device.write_leaves l.fn.vault l.fn.hands l.fn.device l.cues l.fn.lines.items
      l.vault l.hands l.device (drop l.cue-index l.cues) l.lines.items;
  calls :
      HandsFit l.fn.vault l.fn.hands → NoneBack l.fn.hands
      → g.D.Device.calls l.device
      ≡ g.D.Device.calls l.fn.device + answers (drop (length l.fn.lines.items) l.lines.items);
  back : HandsFit l.fn.vault l.fn.hands → NoneBack l.fn.hands → NoneBack l.hands;
}
