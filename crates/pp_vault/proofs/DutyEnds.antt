-- The answer of a device that ends a duty is done.
use Rattle.std.proofs.Common.{Bool, List, ℕ}
use Rattle.pp_vault.specs.declared.tokens.Duty.{Duty}
use Rattle.pp_vault.specs.declared.tokens.Duty.TheVariants.{Read, Write, Flush}
use Rattle.pp_vault.specs.declared.answering.Answered.{Answered}
use Rattle.pp_vault.specs.declared.answering.Answered.TheVariants as answered
use Rattle.pp_vault.specs.Parts.{Parts}
use Rattle.pp_vault.specs.Events.{Does}
use Rattle.pp_vault.specs.Answers.{duty_call, DutyEnds}

pub ends_done : (old new : Parts) (duty : Duty) (image : List ℕ) (ok : Bool) (out : Answered)
    → DutyEnds old duty image ok out new → Does old (duty_call old.page_bytes duty image ok) new
ends_done old new (Read w slot page) image ok (answered.Got session guard) h = h.0
ends_done old new (Read w slot page) image ok (answered.Opened session guard) h = h.0
ends_done old new (Read w slot page) image ok (answered.Joined session) h = h.0
ends_done old new (Read w slot page) image ok (answered.Lost leaver) h = h.0
ends_done old new (Write w slot page victim) image ok (answered.Away errand) h = h.1
ends_done old new (Write w slot page victim) image ok (answered.Lost leaver) h = h.1
ends_done old new (Flush page) image ok (answered.Flushed clean) h = h.does
ends_done old new (Read w slot page) image ok (answered.Away errand) h = absurd h
ends_done old new (Read w slot page) image ok (answered.Flushed clean) h = absurd h
ends_done old new (Write w slot page victim) image ok (answered.Got session guard) h = absurd h
ends_done old new (Write w slot page victim) image ok (answered.Opened session guard) h = absurd h
ends_done old new (Write w slot page victim) image ok (answered.Joined session) h = absurd h
ends_done old new (Write w slot page victim) image ok (answered.Flushed clean) h = absurd h
ends_done old new (Flush page) image ok (answered.Got session guard) h = absurd h
ends_done old new (Flush page) image ok (answered.Opened session guard) h = absurd h
ends_done old new (Flush page) image ok (answered.Joined session) h = absurd h
ends_done old new (Flush page) image ok (answered.Away errand) h = absurd h
ends_done old new (Flush page) image ok (answered.Lost leaver) h = absurd h
