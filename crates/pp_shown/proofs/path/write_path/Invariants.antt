use Rattle.std.proofs.Common.{◌≡◌, ◌≤◌, length}
use Rattle.std.specs.Fmt.{HasWritten, IsPlainFormatter}
use Rattle.std.specs.List.{flat_map}
use Rattle.pp_shown.specs.Shown.{most_shown, shown_char}
use Rattle.pp_shown.proofs.path.write_path.Given as goal

abbrev pub invariant-loop-character : goal.invariant-loop-character
invariant-loop-character g l = (l.count ≡ length l.yielded) × (l.count ≤ most_shown)
    × (IsPlainFormatter l.initial.f
    → HasWritten g.W.Write.write_str_gives l.initial.f (flat_map shown_char l.yielded) l.f)
