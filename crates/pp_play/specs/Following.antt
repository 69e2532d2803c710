-- A script over any device: what it is asked at each cue, and what the pages hold.
use Rattle.std.specs.Prelude.{◌≡◌, ◌++◌, ℕ, Option, None, Some, List, [], ◌∷◌, is_ok}
use Rattle.std.specs.Prelude.{slice_get, slice_set}
use Rattle.pp_cert.specs.declared.note.Held.{Held}
use Rattle.pp_cert.specs.declared.note.Held.TheVariants.{X}
use Rattle.pp_model.specs.declared.moves.Move.{Move}
use Rattle.pp_model.specs.declared.moves.Move.TheVariants.{WriteDone, ReadDone, FlushDone}
use Rattle.pp_model.specs.declared.reply.Reply.{Reply}
use Rattle.pp_model.specs.Pool.{State}
use Rattle.pp_core.specs.Queries.{held_of}
use Rattle.pp_device.specs.Answers.{Answer}
use Rattle.pp_device.specs.Image.{head_of}
use Rattle.pp_vault.specs.declared.tokens.Duty.{Duty}
use Rattle.pp_vault.specs.declared.tokens.Duty.TheVariants as duty
use Rattle.pp_vault.specs.declared.tokens.Errand.{Errand}
use Rattle.pp_vault.specs.declared.stage.Stage.{Stage}
use Rattle.pp_vault.specs.declared.stage.Stage.TheVariants.{Out}
use Rattle.pp_vault.specs.declared.stage.Hand.{Hand}
use Rattle.pp_vault.specs.declared.hands.Flushing.{Flushing}
use Rattle.pp_vault.specs.declared.hands.Flushing.TheVariants as flushing
use Rattle.pp_vault.specs.declared.hands.Hands.{Hands}
use Rattle.pp_vault.specs.Answers.{came_of}
use Rattle.pp_vault.specs.Carrying.{CarriesOut}
use Rattle.pp_vault.specs.Flushes.{IsImageOf}
use Rattle.pp_contents.specs.Told.{told_after}
use Rattle.pp_contents.specs.Content.{content, ContentsStay, ContentIsSet}
use Rattle.pp_contents.specs.ContentLaws.{AnswerFollows}
use Rattle.pp_contents.specs.Agreeing.{Agrees}
use Rattle.pp_vault.specs.Hands.{HandsFit}
use Rattle.pp_vault.specs.Holding.{placed}
use Rattle.pp_vault.specs.Parts.{Parts}
use Rattle.pp_vault.specs.StandsFor.{StandsFor}
use Rattle.pp_script.specs.declared.cue.Cue.{Cue}
use Rattle.pp_script.specs.declared.cue.Cue.TheVariants.{Device, Flush, FlushDevice, Write, Look}
use Rattle.pp_play.specs.declared.line.Line.{Line}
use Rattle.pp_play.specs.declared.line.Line.TheVariants.{Did, Wrote, Looked}
use Rattle.pp_play.specs.Plays.{Tells}
use Rattle.pp_play.specs.Exact.{Plays}

-- ---- what the device is asked

-- The errand that is still to be carried out, in a worker's hand, or with the flusher.
abbrev pub errand_at : Stage → Option Errand
errand_at (Out errand) = Some errand
errand_at _ = None

abbrev pub errand_in : Option Hand → Option Errand
errand_in None = None
errand_in (Some hand) = errand_at hand.stage

abbrev pub flush_errand : Option Flushing → Option Errand
flush_errand (Some (flushing.Out errand)) = Some errand
flush_errand _ = None

-- The errand that a cue has carried out; none where it is no cue of a device, or no errand is out.
abbrev pub errand_for : Hands → Cue → Option Errand
errand_for hands (Device w) = errand_in (placed hands.workers w)
errand_for hands FlushDevice = flush_errand hands.flushing
errand_for hands cue = None

-- The move by which the core is told that a device answered so: whether a writing was done, and the head of what a
-- reading gave, or that it failed.
abbrev pub answer_move : Duty → (given : List ℕ) → Answer → Move
answer_move (duty.Read w slot page) given answer = ReadDone w (came_of (is_ok answer) (head_of given))
answer_move (duty.Write w slot page victim) given answer = WriteDone w (is_ok answer)
answer_move (duty.Flush page) given answer = FlushDone (is_ok answer)

-- ---- what the pages hold

-- A write that is done sets the byte at the front of the content of its slot's page, which is latched X. Every other cue
-- that asks no device keeps all contents.
abbrev pub CueFollows : State → Cue → Line → (content next : ℕ → List ℕ) → Type 0
CueFollows s (Write w slot byte) Wrote content next =
    (page : ℕ) × (held_of s w slot ≡ Some (page, X))
    × ContentIsSet page (slice_set (content page) 0 byte) content next
CueFollows s cue line content next = ContentsStay content next

-- A look that is done shows the first byte of the content of its slot's page.
abbrev pub ShowsFirst : State → Cue → Line → (content : ℕ → List ℕ) → Type 0
ShowsFirst s (Look w slot) (Looked byte) content =
    (page : ℕ) × (held : Held) × (held_of s w slot ≡ Some (page, held)) × (slice_get (content page) 0 ≡ Some byte)
ShowsFirst s cue line content = Unit {0}

-- ---- the flusher

-- What a cue does with the flusher's errand. A flush that begins gives it the image in the frame of its page, to be written;
-- one that is over takes the errand away. Every other cue leaves it, and so does a cue that isn't done.
abbrev pub FlusherFollows : Parts → State → Hands → Cue → Line → (left : Hands) → Type 0
FlusherFollows v s hands (Flush page) (Did m reply) left =
    (errand : Errand) × (left.flushing ≡ Some (flushing.Out errand)) × (errand.duty ≡ duty.Flush page)
    × IsImageOf v s page errand.image
FlusherFollows v s hands FlushDevice (Did m reply) left = left.flushing ≡ None
FlusherFollows v s hands cue line left = left.flushing ≡ hands.flushing

-- ---- scripts

-- What a cue does with a device, with what that told of each page, and with the contents. The errand, if there is one, is
-- carried out by one call of the device; exactly what it answered is the move that is done, and the contents follow that
-- answer. Without an errand the device is as it was, and the contents follow the cue.
abbrev pub Follows : {D : Type 0} → (D → ℕ → List ℕ → Answer → List ℕ → D → Type 0)
    → (D → ℕ → List ℕ → Answer → D → Type 0) → Option Errand → State → Cue → Line → (d e : D) → (told now : ℕ → List ℕ)
    → (content next : ℕ → List ℕ) → Type 0
Follows reads writes None s cue line d e told now content next =
    (e ≡ d) × (now ≡ told) × CueFollows s cue line content next
Follows reads writes (Some errand) s cue line d e told now content next =
    (given : List ℕ) × (answer : Answer) × (reply : Reply)
    × CarriesOut reads writes errand.duty d errand.image answer given e
    × (line ≡ Did (answer_move errand.duty given answer) reply)
    × (now ≡ told_after told errand.duty answer given) × AnswerFollows errand.duty answer given content next

module _ {D : Type 0} (reads : D → ℕ → List ℕ → Answer → List ℕ → D → Type 0)
    (writes : D → ℕ → List ℕ → Answer → D → Type 0) where
  -- A cue is played over the device, from a state of the vault, with hands that fit it and with what the device told, to
  -- what they are then.
  pub record PlaysOver (v : Parts) (s : State) (hands : Hands) (d : D) (told : ℕ → List ℕ) (cue : Cue) (line : Line)
      (next : Parts) (t : State) (left : Hands) (e : D) (now : ℕ → List ℕ) : Type 0 where
    pub plays : Plays v hands cue line next left
    pub tells : Tells s cue line t
    pub stands : StandsFor next t
    pub follows : Follows reads writes (errand_for hands cue) s cue line d e told now (content v s hands told)
        (content next t left now)
    pub shown : ShowsFirst s cue line (content v s hands told)
    pub flusher : FlusherFollows v s hands cue line left
    pub length : next.page_bytes ≡ v.page_bytes
    pub agrees : Agrees next t left now

  -- Each cue in its turn, a line for each.
  abbrev pub AllOver : Parts → State → Hands → D → (told : ℕ → List ℕ) → List Cue → List Line → (next : Parts)
      → (t : State) → (left : Hands) → D → (now : ℕ → List ℕ) → Type 0
  AllOver v s hands d told [] [] next t left e now =
      (next ≡ v) × (t ≡ s) × (left ≡ hands) × (e ≡ d) × (now ≡ told)
  AllOver v s hands d told [] (line ∷ lines) next t left e now = ⊥
  AllOver v s hands d told (cue ∷ cues) [] next t left e now = ⊥
  AllOver v s hands d told (cue ∷ cues) (line ∷ lines) next t left e now =
      (mid : Parts) × (there : State) × (held : Hands) × (device : D) × (tells : ℕ → List ℕ)
      × PlaysOver v s hands d told cue line mid there held device tells
      × AllOver mid there held device tells cues lines next t left e now

-- A script is so played from every state that the vault stands for, where the hands fit, and with all that a device may
-- have told before that agrees with them. Its lines come behind those that were there.
abbrev pub PlaysOverDevice : {D : Type 0} → (D → ℕ → List ℕ → Answer → List ℕ → D → Type 0)
    → (D → ℕ → List ℕ → Answer → D → Type 0) → Parts → Hands → D → List Cue → (before now : List Line) → (new : Parts)
    → (left : Hands) → D → Type 0
PlaysOverDevice reads writes old hands d cues before now new left e =
    HandsFit old hands → (s : State) → StandsFor old s → (told : ℕ → List ℕ) → Agrees old s hands told
    → (lines : List Line) × (t : State) × (tells : ℕ → List ℕ) × (now ≡ before ++ lines)
    × AllOver reads writes old s hands d told cues lines new t left e tells × StandsFor new t
    × Agrees new t left tells
