-- What a request is answered, and what it does to the vault.
use Rattle.std.specs.Prelude.{◌≡◌, ℕ, Bool, true, false, Option, None, Some}
use Rattle.pp_model.specs.declared.moves.Move.{Move}
use Rattle.pp_model.specs.declared.reply.Reply.{Reply}
use Rattle.pp_vault.specs.declared.fixing.Fixed.TheVariants as fixed
use Rattle.pp_vault.specs.declared.answering.Answered.TheVariants as answered
use Rattle.pp_vault.specs.declared.tokens.Chair.{Chair}
use Rattle.pp_vault.specs.declared.tokens.Session.{Session}
use Rattle.pp_vault.specs.declared.tokens.Errand.{Errand}
use Rattle.pp_vault.specs.declared.refusal.Refusal.{Refusal}
use Rattle.pp_vault.specs.Parts.{Parts}
use Rattle.pp_vault.specs.Events.{Refuses, Does, Tells}
use Rattle.pp_vault.specs.Tokens.{SessionFits, HoldsNothing, ErrandFits}
use Rattle.pp_vault.specs.ImageMoves.{ImagesStay}
use Rattle.pp_vault.specs.Fixes.{FixAnswers}
use Rattle.pp_vault.specs.Answers.{AnswerComesTo}
use Rattle.pp_vault.specs.Uses.{Unfixes, Scatters, LatchesShared, LatchesExclusive, UnlatchesShared, UnlatchesExclusive}
use Rattle.pp_vault.specs.Leaves.{GivesBack}
use Rattle.pp_vault.specs.Flushes.{CopiesOut, CopiesNext}
use Rattle.pp_pool.specs.declared.request.Request.{Request}
use Rattle.pp_pool.specs.declared.request.Request.TheVariants as request
use Rattle.pp_pool.specs.declared.response.BookAnswer.{BookAnswer}
use Rattle.pp_pool.specs.declared.response.BookAnswer.TheVariants.{Acts, Idle, Leaves, Pinned, Shared, Exclusive, Away}
use Rattle.pp_pool.specs.declared.response.BookAnswer.TheVariants.{Opened, Joined, Flushed, No}
use Rattle.pp_pool.specs.Requests.{call_of}

-- The request is done; worker w acts, and no image has moved.
pub record GoesOn (old : Parts) (asked : Request) (w : ℕ) (session : Session) (new : Parts) : Type 0 where
  pub does : Does old (call_of old asked) new
  pub acts : SessionFits new w session
  pub images : ImagesStay old new

-- The request is done; worker w, which held nothing, is idle, and no image has moved.
pub record Rests (old : Parts) (asked : Request) (w : ℕ) (chair : Chair) (new : Parts) : Type 0 where
  pub does : Does old (call_of old asked) new
  pub of : chair ≡ record { worker = w }
  pub nothing_held : HoldsNothing old w
  pub images : ImagesStay old new

-- The flush of the page has begun: the errand has a copy of the page's image.
pub record Flushes (old : Parts) (page : ℕ) (errand : Errand) (new : Parts) : Type 0 where
  pub does : Does old (call_of old (request.Flush page)) new
  pub out : ErrandFits new errand
  pub copies : CopiesOut old new page errand

-- So has the flush of the page that the search from this number finds.
pub record FlushesNext (old : Parts) (number : ℕ) (errand : Errand) (new : Parts) : Type 0 where
  pub does : Does old (call_of old (request.FlushNext number)) new
  pub out : ErrandFits new errand
  pub copies : CopiesNext old new number errand

-- The request is refused so: it comes back with its tokens, and nothing has changed.
pub record Declines (old : Parts) (asked back : Request) (refusal : Refusal) (new : Parts) : Type 0 where
  pub same : back ≡ asked
  pub refuses : Refuses old (call_of old asked) refusal
  pub unchanged : new ≡ old

-- What a request is answered and does, as the vault's calls say it; no answer of another kind comes.
abbrev pub ComesTo : (old : Parts) → Request → BookAnswer → (new : Parts) → Type 0
ComesTo old asked (No back refusal) new = Declines old asked back refusal new
ComesTo old (request.Take chair) (Acts x) new = GoesOn old (request.Take chair) chair.worker x new
ComesTo old (request.Fix x page) (Pinned y g) new = FixAnswers old x page (fixed.Got y g) new
ComesTo old (request.Fix x page) (Opened y g) new = FixAnswers old x page (fixed.Opened y g) new
ComesTo old (request.Fix x page) (Joined y) new = FixAnswers old x page (fixed.Joined y) new
ComesTo old (request.Fix x page) (Away errand) new = FixAnswers old x page (fixed.Away errand) new
ComesTo old (request.Join x page) (Joined y) new = FixAnswers old x page (fixed.Joined y) new
ComesTo old (request.Join x page) (Away errand) new = FixAnswers old x page (fixed.Away errand) new
ComesTo old (request.Unfix x g) (Acts y) new = Unfixes old x g new y
ComesTo old (request.Scatter x g) (Acts y) new = Scatters old x g new y
ComesTo old (request.LatchShared x g) (Shared y h) new = LatchesShared old x g new y h
ComesTo old (request.LatchExclusive x g) (Exclusive y h) new = LatchesExclusive old x g new y h
ComesTo old (request.UnlatchShared x g) (Pinned y h) new = UnlatchesShared old x g new y h
ComesTo old (request.UnlatchExclusive x g) (Pinned y h) new = UnlatchesExclusive old x g new y h
ComesTo old (request.Choose x branch) (Acts y) new = GoesOn old (request.Choose x branch) x.worker y new
ComesTo old (request.Finish x) (Idle chair) new = Rests old (request.Finish x) x.worker chair new
ComesTo old (request.End x) (Idle chair) new = Rests old (request.End x) x.worker chair new
ComesTo old (request.GiveBack x g) (Leaves y) new = GivesBack old x g new y
ComesTo old (request.Answer returned) (Pinned y g) new = AnswerComesTo old returned (answered.Got y g) new
ComesTo old (request.Answer returned) (Opened y g) new = AnswerComesTo old returned (answered.Opened y g) new
ComesTo old (request.Answer returned) (Joined y) new = AnswerComesTo old returned (answered.Joined y) new
ComesTo old (request.Answer returned) (Away errand) new = AnswerComesTo old returned (answered.Away errand) new
ComesTo old (request.Answer returned) (Leaves x) new = AnswerComesTo old returned (answered.Lost x) new
ComesTo old (request.Answer returned) (Flushed clean) new = AnswerComesTo old returned (answered.Flushed clean) new
ComesTo old (request.AnswerJoin returned) (Joined y) new = AnswerComesTo old returned (answered.Joined y) new
ComesTo old (request.AnswerJoin returned) (Away errand) new = AnswerComesTo old returned (answered.Away errand) new
ComesTo old (request.AnswerJoin returned) (Leaves x) new = AnswerComesTo old returned (answered.Lost x) new
ComesTo old (request.Flush page) (Away errand) new = Flushes old page errand new
ComesTo old (request.FlushNext number) (Away errand) new = FlushesNext old number errand new
ComesTo old asked out new = ⊥

-- Whether the answer is a refusal.
abbrev pub is_no : BookAnswer → Bool
is_no (No back refusal) = true
is_no _ = false

-- Where the answer is no refusal, the request's call is done.
abbrev pub DoesUnless : (old : Parts) → Request → BookAnswer → (new : Parts) → Type 0
DoesUnless old asked out new = is_no out ≡ false → Does old (call_of old asked) new

-- What is told beside the answer: nothing where it is a refusal, and else the call's move and its reply.
abbrev pub TellsOf : (old : Parts) → Request → BookAnswer → Option (Move × Reply) → Type 0
TellsOf old asked out None = is_no out ≡ true
TellsOf old asked out (Some done) = Tells old (call_of old asked) done
