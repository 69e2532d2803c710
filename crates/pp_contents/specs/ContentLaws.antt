-- What each call of a vault, and each answer of a device, whatever it is, leaves of the contents of pages.
use Rattle.std.specs.Prelude.{◌≡◌, ℕ, Bool, false, None, Some, Ok, List, slice_set}
use Rattle.pp_model.specs.declared.moves.Move.{Move}
use Rattle.pp_model.specs.declared.reply.Reply.{Reply}
use Rattle.pp_cert.specs.Accepted.{Acceptance}
use Rattle.pp_model.specs.Pool.{State}
use Rattle.pp_model.specs.Moves.{next_of}
use Rattle.pp_model.specs.Submitting.{after_submit}
use Rattle.pp_model.specs.Renewing.{renewed}
use Rattle.pp_arc.specs.FourLists.{is_cached}
use Rattle.pp_core.specs.Queries.{errand_of}
use Rattle.pp_device.specs.Answers.{Answer}
use Rattle.pp_device.specs.Image.{body_of}
use Rattle.pp_vault.specs.declared.tokens.Duty.{Duty}
use Rattle.pp_vault.specs.declared.tokens.Duty.TheVariants.{Read, Write, Flush}
use Rattle.pp_vault.specs.declared.tokens.Errand.{Errand}
use Rattle.pp_vault.specs.declared.tokens.Returned.{Returned}
use Rattle.pp_vault.specs.declared.guards.Guard.TheVariants as guard
use Rattle.pp_vault.specs.declared.guards.ReadGuard.{ReadGuard}
use Rattle.pp_vault.specs.declared.guards.WriteGuard.{WriteGuard}
use Rattle.pp_vault.specs.declared.answering.Answered.TheVariants.{Flushed}
use Rattle.pp_vault.specs.declared.stage.Stage.TheVariants.{Out, Back}
use Rattle.pp_vault.specs.declared.stage.Hand.{Hand}
use Rattle.pp_vault.specs.declared.hands.Flushing.TheVariants as flushing
use Rattle.pp_vault.specs.declared.hands.Hands.{Hands}
use Rattle.pp_vault.specs.Parts.{Parts}
use Rattle.pp_vault.specs.StandsFor.{StandsFor}
use Rattle.pp_vault.specs.Events.{Does, Tells}
use Rattle.pp_vault.specs.Submits.{TakesIn}
use Rattle.pp_vault.specs.Renewals.{Renews}
use Rattle.pp_vault.specs.Flushes.{flush_call, IsImageOf, CopiesOut}
use Rattle.pp_vault.specs.Answers.{answer_call, AnswerComesTo}
use Rattle.pp_contents.specs.Told.{told_after}
use Rattle.pp_vault.specs.Holding.{placed}
use Rattle.pp_vault.specs.Hands.{HandsFitState}
use Rattle.pp_contents.specs.HandMoves.{HandMoves, call_in}
use Rattle.pp_contents.specs.Content.{content, ContentsStay, ContentIsSet}
use Rattle.pp_contents.specs.Agreeing.{Agrees}

-- ---- words

-- A vault in a state that it stands for, and hands that fit it.
pub record Held (v : Parts) (s : State) (hands : Hands) : Type 0 where
  pub stands : StandsFor v s
  pub fit : HandsFitState v.page_bytes s hands

-- Worker w's hand was taken out, and this one put into its place.
pub record HandsBack (hands : Hands) (w : ℕ) (left : Hand) (after : Hands) : Type 0 where
  pub workers : after.workers ≡ slice_set (slice_set hands.workers w None) w (Some left)
  pub flushing : after.flushing ≡ hands.flushing

-- The contents are the same, and all agree with the device still.
pub record KeepsContents (old : Parts) (s : State) (hands : Hands) (told : ℕ → List ℕ) (new : Parts) (t : State)
    (after : Hands) (now : ℕ → List ℕ) : Type 0 where
  pub stay : ContentsStay (content old s hands told) (content new t after now)
  pub agrees : Agrees new t after now

-- The errand was carried out so.
abbrev pub returned_of : Errand → (given : List ℕ) → Answer → Returned
returned_of errand given answer = record { duty = errand.duty; image = given; answer = answer }

-- ---- calls that ask no device

-- A worker's call that is done keeps all contents.
abbrev pub CallsKeepContents : Type 0
CallsKeepContents =
    (old new : Parts) (s : State) (hands after : Hands) (told : ℕ → List ℕ) (w : ℕ) (hand left : Hand) (m : Move)
    (reply : Reply) → Held old s hands → placed hands.workers w ≡ Some hand → (moves : HandMoves old hand new left)
    → HandsBack hands w left after → Tells old (call_in old hand new left moves) (m, reply)
    → Held new (next_of s m) after
    → Agrees old s hands told → KeepsContents old s hands told new (next_of s m) after told

-- So does a flush that begins.
abbrev pub FlushesKeepContents : Type 0
FlushesKeepContents =
    (old new : Parts) (s : State) (hands after : Hands) (told : ℕ → List ℕ) (page : ℕ) (errand : Errand) (m : Move)
    (reply : Reply) → Held old s hands → hands.flushing ≡ None → Does old (flush_call page) new
    → CopiesOut old new page errand → after ≡ record hands { flushing = Some (flushing.Out errand) }
    → Tells old (flush_call page) (m, reply) → Held new (next_of s m) after → Agrees old s hands told
    → KeepsContents old s hands told new (next_of s m) after told

-- And a plan that is taken in.
abbrev pub SubmitsKeepContents : Type 0
SubmitsKeepContents =
    (old new : Parts) (s : State) (hands : Hands) (told : ℕ → List ℕ) (a : Acceptance) (number : ℕ)
    → Held old s hands → TakesIn old a number new → Agrees old s hands told
    → KeepsContents old s hands told new (after_submit s a) hands told

-- And a renewal: the next life begins with all contents.
abbrev pub RenewalsKeepContents : Type 0
RenewalsKeepContents =
    (old new : Parts) (s : State) (hands : Hands) (told : ℕ → List ℕ) → Held old s hands → Renews old new
    → Agrees old s hands told → KeepsContents old s hands told new (renewed s) hands told

-- A writer that changes its image sets the content of its page, and no other.
pub record SetsContent (v : Parts) (s : State) (hands : Hands) (told : ℕ → List ℕ) (page : ℕ) (now : List ℕ)
    (after : Hands) : Type 0 where
  pub sets : ContentIsSet page now (content v s hands told) (content v s after told)
  pub agrees : Agrees v s after told

abbrev pub WritersSetContents : Type 0
WritersSetContents =
    (v : Parts) (s : State) (hands after : Hands) (told : ℕ → List ℕ) (w slot : ℕ) (hand : Hand) (g : WriteGuard)
    (image : List ℕ) → Held v s hands → placed hands.workers w ≡ Some hand
    → placed hand.guards slot ≡ Some (guard.Write g)
    → after ≡ record hands {
      workers = slice_set hands.workers w (Some (record hand {
        guards = slice_set hand.guards slot (Some (guard.Write (record g { image = image })));
      }));
    }
    → Held v s after → Agrees v s hands told
    → SetsContent v s hands told g.page (body_of image) after

-- ---- answers of a device

-- A reading that the device answers Ok sets the content of its page to the body that came, also where the vault then takes
-- it for a misread. No other answer changes a content.
abbrev pub AnswerFollows : Duty → Answer → (given : List ℕ) → (content next : ℕ → List ℕ) → Type 0
AnswerFollows (Read w slot page) (Ok done) given content next = ContentIsSet page (body_of given) content next
AnswerFollows duty answer given content next = ContentsStay content next

-- An errand that writes comes back with its image.
abbrev pub GivesBackImage : Duty → (image given : List ℕ) → Type 0
GivesBackImage (Read w slot page) image given = Unit {0}
GivesBackImage (Write w slot page victim) image given = given ≡ image
GivesBackImage (Flush page) image given = given ≡ image

-- An errand of a worker is carried out, and its answer goes to the vault.
abbrev pub AnswersSetContents : Type 0
AnswersSetContents =
    (old new : Parts) (s : State) (hands after : Hands) (told : ℕ → List ℕ) (w : ℕ) (hand left : Hand) (errand : Errand)
    (given : List ℕ) (answer : Answer) (m : Move) (reply : Reply) → Held old s hands
    → placed hands.workers w ≡ Some hand → hand.stage ≡ Out errand → GivesBackImage errand.duty errand.image given
    → (moves : HandMoves old (record hand { stage = Back (returned_of errand given answer) }) new left)
    → HandsBack hands w left after
    → Tells old (call_in old (record hand { stage = Back (returned_of errand given answer) }) new left moves) (m, reply)
    → Held new (next_of s m) after
    → Agrees old s hands told
    → AnswerFollows errand.duty answer given (content old s hands told)
    (content new (next_of s m) after (told_after told errand.duty answer given))
    × Agrees new (next_of s m) after (told_after told errand.duty answer given)

-- A flush that was carried out, likewise: all contents are kept.
abbrev pub FlushAnswersKeepContents : Type 0
FlushAnswersKeepContents =
    (old new : Parts) (s : State) (hands after : Hands) (told : ℕ → List ℕ) (errand : Errand) (given : List ℕ)
    (answer : Answer) (clean : Bool) (m : Move) (reply : Reply) → Held old s hands
    → hands.flushing ≡ Some (flushing.Out errand) → GivesBackImage errand.duty errand.image given
    → AnswerComesTo old (returned_of errand given answer) (Flushed clean) new
    → after ≡ record hands { flushing = None }
    → Tells old (answer_call old.page_bytes (returned_of errand given answer)) (m, reply)
    → Held new (next_of s m) after
    → Agrees old s hands told
    → KeepsContents old s hands told new (next_of s m) after (told_after told errand.duty answer given)

-- ---- what guards show

-- The image of a guard that has a page latched X, and the one in the frame of a page that a guard has latched S, have the
-- content of the page.
abbrev pub ContentsAreSeen : Type 0
ContentsAreSeen =
    (v : Parts) (s : State) (hands : Hands) (told : ℕ → List ℕ) (w slot : ℕ) (hand : Hand) → Held v s hands
    → placed hands.workers w ≡ Some hand
    → ((g : WriteGuard) → placed hand.guards slot ≡ Some (guard.Write g)
    → content v s hands told g.page ≡ body_of g.image)
    × ((g : ReadGuard) (image : List ℕ) → placed hand.guards slot ≡ Some (guard.Read g)
    → IsImageOf v s g.page image → content v s hands told g.page ≡ body_of image)

-- ---- where they agree

-- Where no worker holds or loads a page, nothing is cached and no flush is in flight, they agree with any device.
abbrev pub EmptyAgree : Type 0
EmptyAgree =
    (v : Parts) (s : State) (hands : Hands) (told : ℕ → List ℕ) → Held v s hands
    → ((w : ℕ) → errand_of s w ≡ None) → ((page : ℕ) → is_cached s.lists page ≡ false) → s.flush ≡ None
    → Agrees v s hands told

-- ---- what a device reads

-- A page that is being read for a worker has the content that the device told.
abbrev pub LoadedAreTold : Type 0
LoadedAreTold =
    (v : Parts) (s : State) (hands : Hands) (told : ℕ → List ℕ) (w slot page : ℕ) → Held v s hands
    → errand_of s w ≡ Some (slot, page, None) → content v s hands told page ≡ body_of (told page)
