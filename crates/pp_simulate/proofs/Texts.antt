-- The text as it grows, line by line.
use Rattle.std.proofs.Common.{◌≡◌, ℕ, suc, ◌+◌, ◌-◌, ◌<◌, List, [], ◌++◌, length, get_or, drop, refl, sym, ap, ◌∙◌}
use Rattle.std.proofs.Common.{arith, append_assoc}
use Rattle.std.proofs.Math.Seq.{drop-cons}
use Rattle.pp_play.specs.declared.line.Line.{Line}
use Rattle.pp_script.specs.declared.cue.Cue.{Cue}
use Rattle.pp_simulate.specs.Lines.{queued_line, queued_lines, cue_line, cue_lines}

-- The whole text is what stands there, then what is added, then what is left.
pub grown : (whole text added after left : List ℕ) → after ≡ text ++ added → whole ≡ text ++ (added ++ left)
    → whole ≡ after ++ left
grown whole text added after left is now =
    now ∙ sym (append_assoc text added left) ∙ ap (λ xs. xs ++ left) (sym is)

pub queued_step : (number count : ℕ) → number < count
    → queued_lines number (count - number) ≡ queued_line number ++ queued_lines (number + 1) (count - (number + 1))
queued_step number count below =
    let e : count - number ≡ suc (count - (number + 1)) = omega arith in rw e refl

pub queued_end : (count : ℕ) → queued_lines count (count - count) ≡ []
queued_end count = let e : count - count ≡ 0 = omega arith in rw e refl

pub cues_step : (cues : List Cue) (lines : List Line) (number : ℕ) (cue : Cue) (line : Line) → number < length cues
    → length lines ≡ length cues
    → cue_lines (drop number cues) (drop number lines)
    ≡ cue_line (get_or cues number cue) (get_or lines number line)
    ++ cue_lines (drop (number + 1) cues) (drop (number + 1) lines)
cues_step cues lines number cue line below same =
    let other : number < length lines = omega (arith, same) in
    let next : suc number ≡ number + 1 = omega arith in
    rw (drop-cons cues number cue below, drop-cons lines number line other)
    (ap (λ k. cue_line (get_or cues number cue) (get_or lines number line)
    ++ cue_lines (drop k cues) (drop k lines)) next)
