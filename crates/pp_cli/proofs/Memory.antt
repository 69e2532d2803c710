-- What words may come to that ask for anything: want of memory; and that ask for nothing.
use Rattle.std.proofs.Common.{◌≡◌, ℕ, true, Option, Some, None, IsSome, List, refl, inl, inr, rules}
use Rattle.pp_judge.specs.Answers.{misused, out_of_memory}
use Rattle.pp_words.specs.CommandLine.{Asked, Text}
use Rattle.pp_words.specs.Faults.{IsMistaken}
use Rattle.pp_words.specs.Texts.{IsShownText, is_ended}
use Rattle.pp_cli.specs.Runs.{ComesOfAsked}

pub memory_comes : (command : Option Asked) (words : List Text) → ComesOfAsked command words out_of_memory
memory_comes None words = tt
memory_comes (Some (Asked.check settings plan certificate)) words = inr (tt, inl tt)
memory_comes (Some (Asked.annotate None settings plan)) words = inr (tt, inl tt)
memory_comes (Some (Asked.annotate (Some path) settings plan)) words = inl (path, path, refl, tt)
memory_comes (Some (Asked.simulate settings script plans)) words = inr (tt, inl tt)
memory_comes (Some (Asked.format settings device)) words = inl (device, device, refl, tt)
memory_comes (Some (Asked.run journal trace settings device seed plans)) words = inl (device, device, inl refl, tt)
memory_comes (Some (Asked.audit lives settings journal plans)) words = inr (tt, inl tt)
memory_comes (Some (Asked.segments ended settings plans files)) words = inr (tt, inl tt)
memory_comes (Some (Asked.draw None settings journal plans)) words = inr ((tt, tt), inl tt)
memory_comes (Some (Asked.draw (Some path) settings journal plans)) words = inl (path, path, refl, tt)

-- A mistake in words that ask for nothing is told as it is.
pub misused_comes : (command : Option Asked) (words : List Text) (text : List ℕ) → (IsSome command → ⊥) → IsMistaken words
    → (is_ended text ≡ true) × IsShownText text → ComesOfAsked command words (misused text)
misused_comes None words text none mistaken said = (mistaken, said.0, said.1)
misused_comes (Some command) words text none mistaken said = absurd (none (search rules))
