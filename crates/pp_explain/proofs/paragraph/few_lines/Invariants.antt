use Rattle.std.proofs.Common.{◌≡◌, ◌++◌, drop}
use Rattle.pp_explain.specs.Paragraphs.{few_lines}
use Rattle.pp_explain.proofs.paragraph.few_lines.Given as goal

abbrev pub invariant-loop-byte : goal.invariant-loop-byte
invariant-loop-byte l = l.bytes.items ++ few_lines l.feeds (drop l.byte-index l.text) ≡ few_lines 4 l.text
