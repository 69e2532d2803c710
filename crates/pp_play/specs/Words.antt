-- The words that are printed of a cue and its line, as in `fix 0 16 = mustread 1`.
use Rattle.std.specs.Prelude.{ℕ, List, ◌++◌, codes}
use Rattle.std.specs.Fmt.{decimal}
use Rattle.pp_model.specs.declared.event.Event.TheVariants.{Step}
use Rattle.pp_report.specs.Lines.{line_of, line_words}
use Rattle.pp_vault.specs.Words.{refusal_words}
use Rattle.pp_script.specs.declared.cue.Cue.{Cue}
use Rattle.pp_script.specs.Cues.{cue_text}
use Rattle.pp_play.specs.declared.line.Line.{Line}
use Rattle.pp_play.specs.declared.line.Line.TheVariants.{Did, Refused, Wrote, Looked, NoLatch}

-- What a cue asked, an equals sign, and what it came to.
abbrev pub equation : (asked came : List ℕ) → List ℕ
equation asked came = asked ++ codes " = " ++ came

-- A move that was done is printed as a journal has it, and all else as the script spells the cue.
abbrev pub printed_words : Cue → Line → List ℕ
printed_words cue (Did move reply) = line_words (line_of (Step move reply))
printed_words cue (Refused asked why) = equation (cue_text asked) (refusal_words why)
printed_words cue Wrote = equation (cue_text cue) (codes "ok")
printed_words cue (Looked byte) = equation (cue_text cue) (decimal byte)
printed_words cue NoLatch = equation (cue_text cue) (codes "offplan nolatch")
