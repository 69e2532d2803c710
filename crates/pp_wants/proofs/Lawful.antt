-- The laws of wake-ups.
use Rattle.std.proofs.Common.{◌≡◌, ℕ, Bool, true, false, not, ◌&&◌, None, Some, List, set, refl, ap, sym, ◌∙◌}
use Rattle.std.proofs.Common.{subst, inl, inr}
use Rattle.std.specs.Prelude.{Option, if◌then◌else◌}
use Rattle.std.specs.Option.{is_none}
use Rattle.std.proofs.lemmas.Bool.{both_ways}
use Rattle.std.proofs.lemmas.Option.{none-some, same_Some}
use Rattle.pp_model.specs.declared.moves.Move.{Move}
use Rattle.pp_model.specs.declared.moves.Move.TheVariants as move
use Rattle.pp_model.specs.declared.reply.Reply.{Reply}
use Rattle.pp_model.specs.declared.reply.Reply.TheVariants as reply
use Rattle.pp_model.specs.declared.refusals.Delay.{Delay}
use Rattle.pp_model.specs.declared.refusals.Delay.TheVariants.{NoRoom}
use Rattle.pp_model.specs.declared.refusals.Cause.{Cause}
use Rattle.pp_model.specs.declared.refusals.Cause.TheVariants.{NotAsked}
use Rattle.pp_model.specs.Pool.{State, frame_of}
use Rattle.pp_model.specs.Moves.{reply_of, is_refusal, is_possible}
use Rattle.pp_vault.specs.declared.refusal.Refusal.{Refusal}
use Rattle.pp_vault.specs.declared.refusal.Refusal.TheVariants.{NotNow, OffPlan, Stranger}
use Rattle.pp_vault.specs.Calls.{Call, stranger, asks, refusal_in, refusal_of}
use Rattle.pp_cert.specs.declared.note.Held.TheVariants.{Free}
use Rattle.pp_plan.specs.declared.mode.Mode.TheVariants as mode
use Rattle.pp_core.specs.Queries.{ask_of, is_idle}
use Rattle.pp_vault.specs.Fits.{guard_call, names_slot, fix_slot, fix_call, fits_both, asks_latch}
use Rattle.pp_vault.specs.Holding.{placed}
use Rattle.pp_pool.specs.declared.request.Request.{Request}
use Rattle.pp_pool.specs.declared.request.Request.TheVariants as request
use Rattle.pp_pool.specs.Requests.{can_join, bundle_asked}
use Rattle.pp_pool.specs.Replies.{IsMoveOf}
use Rattle.pp_wants.specs.declared.want.Want.{Want}
use Rattle.pp_wants.specs.declared.want.Want.TheVariants.{Take, Fix, Latch}
use Rattle.pp_wants.specs.declared.sleepers.Sleeper.{Sleeper}
use Rattle.pp_wants.specs.Wants.{asked}
use Rattle.pp_wants.specs.Sleepers.{untold, is_told}
use Rattle.pp_wants.specs.WakeUps.{lacks_room, may_go, is_alike, IsOnItsWay, SleepsRightly}
use Rattle.pp_wants.specs.Laws.{LetsTheSameGo, NoneLostWhereNobodyWaits, LostByStatesAlone, SleepingLosesNone}
use Rattle.pp_wants.specs.Laws.{RisingLosesNone, IsWaitedFor, RefusedRequestsWait}
use Rattle.pp_wants.proofs.Places.{told_there, same_untold, away, put_or_there}
use Rattle.pp_wants.proofs.Settling.{none_lost}

-- ---- nobody

pub nobody : NoneLostWhereNobodyWaits
nobody = λ v sleepers none. none_lost v sleepers none

-- ---- by states alone

alike_same : (s t : State) → LetsTheSameGo s t → (want other : Want) → is_alike t want other ≡ is_alike s want other
alike_same s t same (Fix page) (Fix other) =
    ap (λ f. is_none f && is_none (frame_of t other)) (same.frames page)
    ∙ ap (λ f. is_none (frame_of s page) && is_none f) (same.frames other)
alike_same s t same Take Take = refl
alike_same s t same Take (Fix other) = refl
alike_same s t same Take (Latch other mode) = refl
alike_same s t same (Fix page) Take = refl
alike_same s t same (Fix page) (Latch other mode) = refl
alike_same s t same (Latch page exclusive) Take = refl
alike_same s t same (Latch page exclusive) (Fix other) = refl
alike_same s t same (Latch page exclusive) (Latch other mode) = refl

way_same : (s t : State) (xs : List (Option Sleeper)) (want : Want) → LetsTheSameGo s t → IsOnItsWay s xs want
    → IsOnItsWay t xs want
way_same s t xs want same x =
    record {
      other = x.other;
      awaited = x.awaited;
      there = x.there;
      alike = alike_same s t same want x.awaited ∙ x.alike;
    }

rightly_same : (s t : State) (xs : List (Option Sleeper)) (w : ℕ) → LetsTheSameGo s t → SleepsRightly s xs w
    → SleepsRightly t xs w
rightly_same s t xs w same right = λ want there. elim (right want there) [
  | inl refused ↦ inl (same.moves w want ∙ refused)
  | inr way ↦ inr (way_same s t xs want same way)
]

pub by_states : LostByStatesAlone
by_states = λ old new xs same safe t stands w.
    let alike = same t stands in
    rightly_same alike.0 t xs w alike.1.1 (safe alike.0 alike.1.0 w)

-- ---- one falls asleep, or rises

module _ (s : State) (xs : List (Option Sleeper)) (worker : ℕ) (p : Option Sleeper)
    (was : is_told (placed xs worker) ≡ false) where
  -- it was nobody that was told
  way_besides : (want : Want) → IsOnItsWay s xs want → IsOnItsWay s (set xs worker p) want
  way_besides want x =
      record {
        other = x.other;
        awaited = x.awaited;
        there =
            away xs worker p x.other
            (λ is. both_ways (is_told (placed xs worker)) was
            (ap (λ k. is_told (placed xs k)) (sym is) ∙ told_there (placed xs x.other) x.awaited x.there))
            ∙ x.there;
        alike = x.alike;
      }

  rightly_besides : (w : ℕ) → SleepsRightly s xs w
      → ((want : Want) → w ≡ worker → p ≡ Some (untold want) → may_go s w want ≡ false)
      → SleepsRightly s (set xs worker p) w
  rightly_besides w right put = λ want there. elim (put_or_there xs worker p w (untold want) there) [
    | inl both ↦ inl (put want both.0 both.1)
    | inr before ↦ elim (right want before) [
      | inl refused ↦ inl refused
      | inr way ↦ inr (way_besides want way)
    ]
  ]

refused_there : (s : State) (worker w : ℕ) (want other : Want) → may_go s worker want ≡ false → w ≡ worker
    → ◌≡◌ {A = Option Sleeper} (Some (untold want)) (Some (untold other)) → may_go s w other ≡ false
refused_there s worker w want other refused is same =
    ap (λ k. may_go s k other) is ∙ ap (λ x. may_go s worker x) (sym (same_untold want other same)) ∙ refused

pub sleeping : SleepingLosesNone
sleeping = λ v xs worker want was refused safe s stands w.
    rightly_besides s xs worker (Some (untold want)) was w (safe s stands w)
    (λ other is same. refused_there s worker w want other (refused s stands) is same)

pub rising : RisingLosesNone
rising = λ v xs worker was safe s stands w.
    rightly_besides s xs worker None was w (safe s stands w)
    (λ other is same. absurd (none-some (untold other) same))

-- ---- what a request waits for

refusing : (r : Reply) (why : Refusal) → refusal_in r ≡ Some why → is_refusal r ≡ true
refusing (reply.NotNow delay) why e = refl
refusing (reply.OffPlan cause) why e = refl
refusing _ why e = absurd (none-some why e)

refused_move : (s : State) (m : Move) (why : Refusal) → refusal_in (reply_of s m) ≡ Some why → is_possible s m ≡ false
refused_move s m why e = ap not (refusing (reply_of s m) why e)

stranger_now : (delay : Delay) → ◌≡◌ {A = Option Refusal} (Some Stranger) (Some (NotNow delay)) → ⊥
stranger_now delay e = cc

unasked_now : (cause : Cause) (delay : Delay)
    → ◌≡◌ {A = Option Refusal} (Some (OffPlan cause)) (Some (NotNow delay)) → ⊥
unasked_now cause delay e = cc

-- what is refused for now isn't refused before it is a move
fitting : (s : State) (b : Bool) (call : Call) (delay : Delay)
    → refusal_of s (if b then call else stranger) ≡ Some (NotNow delay) → refusal_of s call ≡ Some (NotNow delay)
fitting s true call delay e = e
fitting s false call delay e = absurd (stranger_now delay e)

guarded : (s : State) (fits asked : Bool) (call : Call) (delay : Delay)
    → refusal_of s (guard_call fits asked call) ≡ Some (NotNow delay) → refusal_of s call ≡ Some (NotNow delay)
guarded s true true call delay e = e
guarded s true false call delay e = absurd (unasked_now NotAsked delay e)
guarded s false asked call delay e = absurd (stranger_now delay e)

waits : (s : State) (request : Request) (worker : ℕ) (there want : Want)
    → ◌≡◌ {A = Option Want} (Some there) (Some want) → IsMoveOf request (asked there worker)
    → may_go s worker there ≡ false → IsWaitedFor s request want
waits s request worker there want is asks_it refused =
    subst (λ (w : Want). IsWaitedFor s request w) (same_Some there want is)
    (record { worker = worker; asks = asks_it; refused = refused })

pub refused_waits : RefusedRequestsWait
refused_waits v s (request.Take chair) want NoRoom is e =
    let now : refusal_of s (asks (move.Take chair.worker)) ≡ Some (NotNow NoRoom)
    = fitting s (is_idle s chair.worker) (asks (move.Take chair.worker)) NoRoom e in
    waits s (request.Take chair) chair.worker Take want is refl (ap (λ r. not (lacks_room r)) now)
refused_waits v s (request.Take chair) want _ is e = absurd (none-some want is)
refused_waits v s (request.Fix x page) want delay is e =
    waits s (request.Fix x page) x.worker (Fix page) want is refl
    (refused_move s (move.Fix x.worker page) (NotNow delay)
    (fitting s (names_slot (fix_slot x.ask) (ask_of s x.worker)) (asks (move.Fix x.worker page)) delay e))
refused_waits v s (request.Join x page) want delay is e =
    waits s (request.Join x page) x.worker (Fix page) want is refl
    (refused_move s (move.Fix x.worker page) (NotNow delay)
    (fitting s (names_slot (fix_slot x.ask) (ask_of s x.worker)) (asks (move.Fix x.worker page)) delay
    (fitting s (can_join s (bundle_asked x.worker x.ask)) (fix_call x.worker (fix_slot x.ask) page s) delay e)))
refused_waits v s (request.LatchShared x g) want delay is e =
    waits s (request.LatchShared x g) x.worker (Latch g.page false) want is refl
    (refused_move s (move.Latch x.worker) (NotNow delay)
    (guarded s (fits_both s x.worker g.worker g.slot g.page Free) (asks_latch g.slot mode.S (ask_of s x.worker))
    (asks (move.Latch x.worker)) delay e))
refused_waits v s (request.LatchExclusive x g) want delay is e =
    waits s (request.LatchExclusive x g) x.worker (Latch g.page true) want is refl
    (refused_move s (move.Latch x.worker) (NotNow delay)
    (guarded s (fits_both s x.worker g.worker g.slot g.page Free) (asks_latch g.slot mode.X (ask_of s x.worker))
    (asks (move.Latch x.worker)) delay e))
refused_waits v s _ want delay is e = absurd (none-some want is)
