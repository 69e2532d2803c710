-- What a command with plain words asks for.
use Rattle.std.proofs.Common.{◌≡◌, Bool, false, true, List, [], ◌∷◌, Option, ap, codes, if◌then◌else◌, refl, ◌∙◌}
use Rattle.std.specs.Fmt.{decimal}
use Rattle.clap.specs.Walk.{Text}
use Rattle.pp_words.specs.CommandLine.{Asked, asked, asked_in_parts, asked_plainly, file_words, front_words}
use Rattle.pp_words.specs.CommandLine.{wants_segments, PlainWordsAreThePaths}
use Rattle.pp_words.proofs.Dashes.{plain_audit}
use Rattle.pp_words.proofs.PlainAnnotateFormat.{annotates, formats, plain_paths}
use Rattle.pp_words.proofs.PlainCheck.{plain_check}
use Rattle.pp_words.proofs.PlainRun.{plain_run}
use Rattle.pp_words.proofs.PlainSegments.{plain_segments}
use Rattle.pp_words.proofs.PlainSimulateAuditDraw.{plays, audits, draws, plain_plans}

-- what words ask for that want no audit of segments
plainly : (words : List Text) (wanted : Option Asked) → wants_segments words ≡ false → asked_plainly words ≡ wanted
    → asked words ≡ wanted
plainly words wanted other is =
    ap (λ (b : Bool). if b then asked_in_parts (front_words words) (file_words words) else asked_plainly words) other
    ∙ is

pub plain_words : PlainWordsAreThePaths
plain_words = record {
  check = λ name a b c p q r. plainly (name ∷ codes "check" ∷ a ∷ b ∷ c ∷ []) _ refl (plain_check name a b c p q r);
  annotate = λ name a b p q.
      plainly (name ∷ codes "annotate" ∷ a ∷ b ∷ []) _ refl (plain_paths annotates name a b p q);
  simulate = λ name a b c rest p q r plain.
      plainly (name ∷ codes "simulate" ∷ a ∷ b ∷ c ∷ rest) _ refl (plain_plans plays name a b c rest p q r plain);
  format = λ name a b p q. plainly (name ∷ codes "format" ∷ a ∷ b ∷ []) _ refl (plain_paths formats name a b p q);
  run = λ name a b c seed rest fits p q r plain.
      plainly (name ∷ codes "run" ∷ a ∷ b ∷ decimal seed ∷ c ∷ rest) _ refl
      (plain_run name a b c seed rest fits p q r plain);
  audit = λ name a b c rest p q r plain.
      plainly (name ∷ codes "audit" ∷ a ∷ b ∷ c ∷ rest) _ (plain_audit name a b c rest p q r plain)
      (plain_plans audits name a b c rest p q r plain);
  segments_ended = plain_segments true;
  segments = plain_segments false;
  draw = λ name a b c rest p q r plain.
      plainly (name ∷ codes "draw" ∷ a ∷ b ∷ c ∷ rest) _ refl (plain_plans draws name a b c rest p q r plain);
}
