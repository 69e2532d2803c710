-- What a run of a ledger leaves, and that its texts are accepted.
use Rattle.std.specs.Prelude.{◌≡◌, Bool, true, None, Ok, List, [], ◌∷◌, ◌++◌, length, map}
use Rattle.pp_settings.specs.Settings.{Configuration}
use Rattle.pp_cert.specs.Accepted.{Acceptance}
use Rattle.pp_model.specs.Pool.{State, opening}
use Rattle.pp_model.specs.Turns.{next_turn}
use Rattle.pp_model.specs.Segments.{segments_end}
use Rattle.pp_core.specs.Opening.{kept_of}
use Rattle.pp_vault.specs.StandsFor.{StandsFor}
use Rattle.pp_ledger.specs.Segments.{Segment}
use Rattle.pp_ledger.specs.Ledgers.{Parts}
use Rattle.pp_ledger.specs.Taken.{Taken, AreTaken, segments_of, plans_at_end}
use Rattle.pp_segments.specs.Auditing.{told_count, begin_fault, auditing}
use Rattle.pp_segments.specs.Audits.{IsAuditedSegments}
use Rattle.pp_served.specs.Texts.{text_words, count_lines}

-- ---- what was taken out

-- The ledgers as they were when their segments were taken out.
abbrev pub ledgers_of : List Taken → List Parts
ledgers_of xs = map (λ x. x.ledger) xs

-- The segments of these ledgers.
abbrev pub segments_in : List Parts → List Segment
segments_in ls = map (λ l. l.segment) ls

-- The state to which all segments lead, from the opening state of the settings on.
abbrev pub end_of : Configuration → List Taken → State
end_of c xs = segments_end (opening (kept_of c)) (segments_of xs)

-- The segments of these ledgers and of the present one were taken out one after the other, and lead to a state for
-- which the present vault stands. An audit under these settings can prepare the present plans.
pub record IsTaken (c : Configuration) (before : List Parts) (now : Parts) : Type 0 where
  pub taken : List Taken
  pub ledgers : ledgers_of taken ≡ before ++ now ∷ []
  pub are_taken : AreTaken (opening (kept_of c)) 0 [] taken
  pub stands : StandsFor now.vault (end_of c taken)
  pub plans : plans_at_end [] taken ≡ now.vault.core.plans
  pub begins : begin_fault c now.vault.core.plans ≡ None

-- Nothing is left to do in the ledger, where that is wanted.
abbrev pub RestsSo : (ended : Bool) → Parts → Type 0
RestsSo ended l = ended ≡ true → (s : State) → StandsFor l.vault s → next_turn s ≡ None

-- ---- what is accepted

-- The texts of the segments, one behind the other, are accepted under these settings, with these prepared plans.
pub record AreAccepted (c : Configuration) (prepared : List Acceptance) (ended : Bool)
    (gs : List Segment) : Type 0 where
  -- they are those of a true journal, and have a head for each segment and a line for each event
  pub texts :
      IsAuditedSegments c prepared ended (map text_words gs) (told_count (count_lines gs)) (told_count (length gs))
  -- so the verdict is how many lines and segments there are
  pub verdict :
      auditing c prepared ended (map text_words gs) ≡ Ok (told_count (count_lines gs), told_count (length gs))
