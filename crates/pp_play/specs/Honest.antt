-- A script over a device that keeps every byte.
use Rattle.std.specs.Prelude.{◌≡◌, ◌++◌, ℕ, Bool, true, Option, None, Some, List, [], ◌∷◌}
use Rattle.pp_model.specs.declared.reply.Reply.{Reply}
use Rattle.pp_model.specs.Pool.{State}
use Rattle.pp_device.specs.Answers.{Answer}
use Rattle.pp_device.specs.Honest.{IsHonest}
use Rattle.pp_vault.specs.declared.tokens.Errand.{Errand}
use Rattle.pp_vault.specs.declared.hands.Hands.{Hands}
use Rattle.pp_vault.specs.Carrying.{CarriesOut}
use Rattle.pp_contents.specs.Content.{content}
use Rattle.pp_contents.specs.Agreeing.{Agrees}
use Rattle.pp_vault.specs.Hands.{HandsFit}
use Rattle.pp_vault.specs.Parts.{Parts}
use Rattle.pp_vault.specs.StandsFor.{StandsFor}
use Rattle.pp_script.specs.declared.cue.Cue.{Cue}
use Rattle.pp_play.specs.declared.line.Line.{Line}
use Rattle.pp_play.specs.declared.line.Line.TheVariants.{Did}
use Rattle.pp_play.specs.Plays.{Tells}
use Rattle.pp_play.specs.Exact.{Plays}
use Rattle.pp_play.specs.Following.{errand_for, answer_move, CueFollows, ShowsFirst, FlusherFollows}

-- The errand, if there is one, is carried out by one call of the device, and exactly what it answered is the move that is
-- done. Without one the device is as it was.
abbrev pub IsAsked : {D : Type 0} → (D → ℕ → List ℕ → Answer → List ℕ → D → Type 0)
    → (D → ℕ → List ℕ → Answer → D → Type 0) → Option Errand → D → Line → D → Type 0
IsAsked reads writes None d line e = e ≡ d
IsAsked reads writes (Some errand) d line e =
    (given : List ℕ) × (answer : Answer) × (reply : Reply)
    × CarriesOut reads writes errand.duty d errand.image answer given e
    × (line ≡ Did (answer_move errand.duty given answer) reply)

module _ {D : Type 0} (are : D → Bool) (reads : D → ℕ → List ℕ → Answer → List ℕ → D → Type 0)
    (writes : D → ℕ → List ℕ → Answer → D → Type 0) (kept : D → ℕ → List ℕ) where
  -- A cue is played over a device that keeps every byte. A write that is done sets the byte at the front of the content of
  -- its slot's page, and nothing else changes a content, whatever is read, written back or flushed.
  pub record PlaysHonestly (v : Parts) (s : State) (hands : Hands) (d : D) (cue : Cue) (line : Line) (next : Parts)
      (t : State) (left : Hands) (e : D) : Type 0 where
    pub plays : Plays v hands cue line next left
    pub tells : Tells s cue line t
    pub stands : StandsFor next t
    pub asked : IsAsked reads writes (errand_for hands cue) d line e
    pub contents : CueFollows s cue line (content v s hands (kept d)) (content next t left (kept e))
    pub shown : ShowsFirst s cue line (content v s hands (kept d))
    pub flusher : FlusherFollows v s hands cue line left
    pub length : next.page_bytes ≡ v.page_bytes
    pub agrees : Agrees next t left (kept e)
    pub honest : are e ≡ true

  -- Each cue in its turn, a line for each. Between two of them there are a vault in a state, hands and a device.
  abbrev pub AllHonestly : Parts → State → Hands → D → List Cue → List Line → (next : Parts) → (t : State)
      → (left : Hands) → D → Type 0
  AllHonestly v s hands d [] [] next t left e = (next ≡ v) × (t ≡ s) × (left ≡ hands) × (e ≡ d)
  AllHonestly v s hands d [] (line ∷ lines) next t left e = ⊥
  AllHonestly v s hands d (cue ∷ cues) [] next t left e = ⊥
  AllHonestly v s hands d (cue ∷ cues) (line ∷ lines) next t left e =
      (mid : Parts) × (there : State) × (held : Hands) × (device : D)
      × PlaysHonestly v s hands d cue line mid there held device
      × AllHonestly mid there held device cues lines next t left e

-- A script is so played from every state that the vault stands for, over every device that keeps every byte, where the
-- vault, hands that fit it, and the device agree. Its lines come behind those that were there.
abbrev pub IsHonestPlay : {D : Type 0} → (D → ℕ → List ℕ → Answer → List ℕ → D → Type 0)
    → (D → ℕ → List ℕ → Answer → D → Type 0) → Parts → Hands → D → List Cue → (before now : List Line) → (new : Parts)
    → (left : Hands) → D → Type 0
IsHonestPlay {D = D} reads writes old hands d cues before now new left e =
    (are : D → Bool) (kept : D → ℕ → List ℕ) → IsHonest are reads writes kept → are d ≡ true → HandsFit old hands
    → (s : State) → StandsFor old s → Agrees old s hands (kept d)
    → (lines : List Line) × (t : State) × (now ≡ before ++ lines)
    × AllHonestly are reads writes kept old s hands d cues lines new t left e × StandsFor new t
    × Agrees new t left (kept e) × (are e ≡ true)
