-- A plan that a hall submits and has taken in one step gets the number that it waited under.
use Rattle.std.proofs.Common.{◌≡◌, ◌∙◌, ◌++◌, ◌<◌, ◌≤◌, ℕ, zero, suc, Bool, true, false, inl, inr, Option, Some, None, List, [], ◌∷◌, length, drop}
use Rattle.std.proofs.Common.{refl, sym, ap, subst, arith, length-append, length-drop}
use Rattle.std.specs.Prelude.{not, if◌then◌else◌, slice_get, option_map}
use Rattle.std.specs.Option.{is_some}
use Rattle.std.proofs.lemmas.Bool.{false≢true}
use Rattle.pp_cert.specs.Accepted.{Acceptance}
use Rattle.pp_model.specs.declared.moves.Move.{Move}
use Rattle.pp_model.specs.declared.moves.Move.TheVariants.{Take}
use Rattle.pp_model.specs.declared.reply.Reply.{Reply}
use Rattle.pp_model.specs.declared.reply.Reply.TheVariants.{Taken}
use Rattle.pp_model.specs.declared.event.Event.{Event}
use Rattle.pp_model.specs.declared.event.Event.TheVariants.{Step}
use Rattle.pp_model.specs.Pool.{State, Running, waiting}
use Rattle.pp_model.specs.Taking.{take_by, take_where, has_room}
use Rattle.pp_model.specs.Moves.{is_refusal}
use Rattle.pp_model.specs.Submitting.{submitted, submitted_unless, after_submit}
use Rattle.pp_vault.specs.declared.tokens.Chair.{Chair}
use Rattle.pp_vault.specs.Headline.{Holds}
use Rattle.pp_vault.specs.Calls.{asks, stranger}
use Rattle.pp_vault.specs.Fits.{take_call}
use Rattle.pp_pool.specs.declared.request.Request.{Request}
use Rattle.pp_pool.specs.declared.request.Request.TheVariants as request
use Rattle.pp_pool.specs.declared.response.Response.{Response}
use Rattle.pp_pool.specs.Performing.{is_no}
use Rattle.pp_pool.specs.Replies.{Replies}
use Rattle.pp_pool.specs.Requests.{event_of}
use Rattle.pp_core.specs.Queries.{is_idle}
use Rattle.pp_hall.specs.Seatings as seatings
use Rattle.pp_hall.specs.Seatings.{IsSeating, TakesPlan, NoPlanWaits}
use Rattle.pp_hall.specs.declared.told.Told.{Told}
use Rattle.pp_hall.specs.Halls.{Parts, IsHall}
use Rattle.pp_hall.specs.Calls.{TakeIs, Performs}
use Rattle.pp_buffer_pool.specs.Sites.{TakesAtOnce, GivesTake, GivesCall, IsGiven}
use Rattle.pp_buffer_pool.proofs.Requests.{is_take}

none_is_some : (e : Option Event) → e ≡ None → is_some e ≡ true → ⊥
none_is_some e is some = false≢true (sym (ap is_some is) ∙ some)

-- The event of a take that was done.
pub record IsTake (s : State) (w : ℕ) (next : Option Acceptance) (e : Option Event) : Type 0 where
  pub event : e ≡ Some (Step (Take w) (Taken s.taken))
  pub waits : is_some next ≡ true

module _ (s : State) (w : ℕ) (e : Option Event) (some : is_some e ≡ true) where
  take_room : (a : Acceptance) (room : Bool)
      → e ≡ option_map (λ (t : Move × Reply). Step t.0 t.1) (if not (is_refusal (take_where s w a room).reply) then Some (Take w, (take_where s w a room).reply) else None)
      → IsTake s w (Some a) e
  take_room a true h = record { event = h; waits = refl }
  take_room a false h = absurd (none_is_some e h some)

  take_seat : (seat : Option (Option Running)) (next : Option Acceptance)
      → e ≡ option_map (λ (t : Move × Reply). Step t.0 t.1) (if not (is_refusal (take_by s w seat next).reply) then Some (Take w, (take_by s w seat next).reply) else None)
      → IsTake s w next e
  take_seat None next h = absurd (none_is_some e h some)
  take_seat (Some (Some r)) next h = absurd (none_is_some e h some)
  take_seat (Some None) None h = absurd (none_is_some e h some)
  take_seat (Some None) (Some a) h = take_room a (has_room s a) h

  take_idle : (idle : Bool) → e ≡ event_of s (if idle then asks (Take w) else stranger) → IsTake s w (slice_get s.plans s.taken) e
  take_idle true h = take_seat (slice_get s.seats w) (slice_get s.plans s.taken) h
  take_idle false h = absurd (none_is_some e h some)

  take_event : e ≡ event_of s (take_call w s) → IsTake s w (slice_get s.plans s.taken) e
  take_event h = take_idle (is_idle s w) h

get_within : {A : Type 0} (xs : List A) (n : ℕ) → is_some (slice_get xs n) ≡ true → n < length xs
get_within [] n h = absurd (false≢true h)
get_within (x ∷ xs) zero h = omega arith
get_within (x ∷ xs) (suc n) h = omega (arith, get_within xs n h)

none_left : {A : Type 0} (xs : List A) (n : ℕ) → drop n xs ≡ [] → length xs ≤ n
none_left xs n h = omega (arith, sym (length-drop n xs) ∙ ap length h)

-- The plan that was submitted is the one that is taken, where none waited before.
number_is : (s t : State) (a : Acceptance) (number : ℕ) → t ≡ submitted s a → waiting s ≡ [] → number ≡ length s.plans
    → is_some (slice_get t.plans t.taken) ≡ true → t.taken ≡ number
number_is s t a number is none numbered some =
    let within : is_some (slice_get (s.plans ++ a ∷ []) s.taken) ≡ true =
    subst (λ (x : State). is_some (slice_get x.plans x.taken) ≡ true) is some in
    let taken : t.taken ≡ s.taken = ap (λ (x : State). x.taken) is in
    omega (arith, get_within (s.plans ++ a ∷ []) s.taken within, length-append s.plans (a ∷ []), none_left s.plans s.taken none, numbered, taken)

pub takes_at_once : (x : seatings.Parts) (chair : Chair) (place : ℕ) (response : Response) (y : seatings.Parts) → IsSeating x
    → Holds x.vault → NoPlanWaits x.vault → Replies (request.Take chair) response → TakesPlan x chair place response y
    → (number : ℕ) × TakesAtOnce place number chair response
takes_at_once x chair place response y seat holds straight fits t =
    let s = seat.state in
    let takes = t.submits.takes in
    let is : after_submit s t.plan ≡ submitted s t.plan =
    ap (λ o. submitted_unless o s t.plan) (takes.allowed s seat.stands) in
    let some : is_some response.event ≡ true = fits.done ∙ ap (λ a. not (is_no a)) t.acts in
    let event = t.answers.event (after_submit s t.plan) (takes.stands s seat.stands) in
    let take = take_event (after_submit s t.plan) chair.worker response.event some event in
    let number = number_is s (after_submit s t.plan) t.plan t.number is seat.straight (takes.numbered s seat.stands) take.waits in (
      t.number,
      record {
        before = x.vault;
        waits = t.between;
        after = y.vault;
        holds = holds;
        straight = straight;
        plan = t.plan;
        submits = t.submits;
        takes = t.answers;
        event = take.event ∙ ap (λ n. Some (Step (Take chair.worker) (Taken n))) number;
      },
    )

-- What a hall answers to the take of a prepared plan is what the site of a call gives.
pub take_given : (old : Parts) (chair : Chair) (place : ℕ) (response : Response) (told : Told) (new : Parts) (refused : Bool)
    → IsHall old → Holds old.seating.vault → NoPlanWaits old.seating.vault → Replies (request.Take chair) response
    → TakeIs refused old chair place response told new
    → GivesTake (Some place) chair response
take_given old chair place response told new false hall holds straight fits h =
    (fits, inl (takes_at_once old.seating chair place response h.seating hall.seating holds straight fits h.takes))
take_given old chair place response told new true hall holds straight fits h = (fits, inr h.back.0)

-- What fits a take.
pub take_fits : (plan : Option ℕ) (chair : Chair) (response : Response) → GivesTake plan chair response
    → Replies (request.Take chair) response
take_fits (Some place) chair response h = h.0
take_fits None chair response h =
    subst (λ (r : Response). Replies (request.Take chair) r) (sym h)
    (record { done = refl; event = tt; tokens = refl; slot = tt })

-- What a hall performs is given.
pub performed : (old : Parts) (asked : Request) (response : Response) (told : Told) (new : Parts) → Holds old.seating.vault
    → Replies asked response → Performs old asked response told new → IsGiven asked response
performed old asked response told new holds fits h =
    (fits, (old.seating.vault, h.seating.vault, holds, h.performs.answers))

-- All but a take is given by the site of a call as a hall's vault gives it.
pub other_given : (plan : Option ℕ) (asked : Request) (response : Response) → is_take asked ≡ false → IsGiven asked response
    → GivesCall plan asked response plan
other_given plan (request.Take chair) response other h = absurd (false≢true (sym other))
other_given plan (request.Fix x page) response other h = (h, refl)
other_given plan (request.Join x page) response other h = (h, refl)
other_given plan (request.Unfix x g) response other h = (h, refl)
other_given plan (request.Scatter x g) response other h = (h, refl)
other_given plan (request.LatchShared x g) response other h = (h, refl)
other_given plan (request.LatchExclusive x g) response other h = (h, refl)
other_given plan (request.UnlatchShared x g) response other h = (h, refl)
other_given plan (request.UnlatchExclusive x g) response other h = (h, refl)
other_given plan (request.Choose x branch) response other h = (h, refl)
other_given plan (request.Finish x) response other h = (h, refl)
other_given plan (request.End x) response other h = (h, refl)
other_given plan (request.GiveBack x g) response other h = (h, refl)
other_given plan (request.Answer returned) response other h = (h, refl)
other_given plan (request.AnswerJoin returned) response other h = (h, refl)
other_given plan (request.Flush page) response other h = (h, refl)
other_given plan (request.FlushNext number) response other h = (h, refl)

-- The same of a site whose plan stays.
pub given_other : (plan : Option ℕ) (asked : Request) (response : Response) (after : Option ℕ) → is_take asked ≡ false
    → IsGiven asked response → after ≡ plan → GivesCall plan asked response after
given_other plan asked response after other given same =
    subst (λ p. GivesCall plan asked response p) (sym same) (other_given plan asked response other given)

-- What no chair takes is no take.
pub not_take : (asked : Request) → ((chair : Chair) → asked ≡ request.Take chair → ⊥) → is_take asked ≡ false
not_take (request.Take chair) none = absurd (none chair refl)
not_take _ none = refl
