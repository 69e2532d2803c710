-- A page that joins a bundle.
use Rattle.std.proofs.Common.{◌≡◌, ◌∙◌, ℕ, Bool, true, false, Option, Some, List, refl, sym, ap, subst}
use Rattle.std.specs.Prelude.{if◌then◌else◌, is_ok}
use Rattle.std.proofs.lemmas.Bool.{false≢true}
use Rattle.pp_plan.specs.declared.action.Ask.{Ask}
use Rattle.pp_plan.specs.declared.action.Ask.TheVariants as ask
use Rattle.pp_model.specs.declared.moves.Move.{Move}
use Rattle.pp_model.specs.declared.reply.Reply.{Reply}
use Rattle.pp_model.specs.Pool.{State}
use Rattle.pp_vault.specs.declared.refusal.Refusal.{Refusal}
use Rattle.pp_vault.specs.declared.refusal.Refusal.TheVariants.{Stranger}
use Rattle.pp_vault.specs.declared.answering.Answered.{Answered}
use Rattle.pp_vault.specs.declared.answering.Answered.TheVariants as answered
use Rattle.pp_vault.specs.declared.fixing.Fixed.{Fixed}
use Rattle.pp_vault.specs.declared.fixing.Fixed.TheVariants as fixed
use Rattle.pp_vault.specs.declared.tokens.Duty.{Duty}
use Rattle.pp_vault.specs.declared.tokens.Duty.TheVariants.{Read, Write, Flush}
use Rattle.pp_vault.specs.declared.tokens.Errand.{Errand}
use Rattle.pp_vault.specs.declared.tokens.Leaver.{Leaver}
use Rattle.pp_vault.specs.declared.tokens.Returned.{Returned}
use Rattle.pp_vault.specs.declared.tokens.Session.{Session}
use Rattle.pp_vault.specs.Parts.{Parts}
use Rattle.pp_vault.specs.StandsFor.{StandsFor, IsKept}
use Rattle.pp_vault.specs.Fits.{IsEmpty, fix_slot}
use Rattle.pp_vault.specs.Fixes.{FixAnswers}
use Rattle.pp_vault.specs.Answers.{DutyEnds, AnswerComesTo}
use Rattle.pp_vault.specs.Calls.{Call, stranger, refusal_of, after_call, told}
use Rattle.pp_vault.specs.Events.{Refuses, Does, Tells}
use Rattle.pp_pool.specs.declared.request.Request.TheVariants as request
use Rattle.pp_pool.specs.declared.response.BookAnswer.{BookAnswer}
use Rattle.pp_pool.specs.Requests.{call_of, bundle_asked, bundle_served, can_join, join_call}
use Rattle.pp_pool.specs.Performing.{DoesUnless}

-- ---- the call

-- The bundle holds a page in each state that the parts stand for, or in none of them.
abbrev CanJoin : Parts → Option (ℕ × ℕ) → (can : Bool) → Type 0
CanJoin v bundle can = (s : State) → StandsFor v s → can ≡ can_join s bundle

module _ (old : Parts) (bundle : Option (ℕ × ℕ)) (call : State → Call) where
  abbrev joined : State → Call
  joined s = join_call s bundle (call s)

  -- Where it holds one, the call is that of the page alone.
  joins : (new : Parts) (can : Bool) → CanJoin old bundle can → can ≡ true → Does old call new → Does old joined new
  joins new can same is d =
      record {
        allowed = λ s st.
            ap (λ b. refusal_of s (if b then call s else stranger)) (sym (same s st) ∙ is) ∙ d.allowed s st;
        stands = λ s st.
            subst (λ b. StandsFor new (after_call s (if b then call s else stranger))) (sym is ∙ same s st) (d.stands s st);
        page_bytes = d.page_bytes;
        plans = d.plans;
      }

  tells : (done : Move × Reply) (can : Bool) → CanJoin old bundle can → can ≡ true → Tells old call done
      → Tells old joined done
  tells did can same is t s st =
      ap (λ b. told s (if b then call s else stranger)) (sym (same s st) ∙ is) ∙ t s st

  refuses : (why : Refusal) (can : Bool) → CanJoin old bundle can → can ≡ true → Refuses old call why
      → Refuses old joined why
  refuses why can same is r s st =
      ap (λ b. refusal_of s (if b then call s else stranger)) (sym (same s st) ∙ is) ∙ r s st

  -- Where it holds none, the tokens don't fit.
  strange : (can : Bool) → CanJoin old bundle can → can ≡ false → Refuses old joined Stranger
  strange can same is s st = ap (λ b. refusal_of s (if b then call s else stranger)) (sym (same s st) ∙ is)

-- ---- a gather

-- A slot that held nothing is no bundle that holds a page.
bare_slot : (s : State) (w slot : ℕ) (a : Ask) → slot ≡ fix_slot a → true ≡ can_join s (bundle_asked w a)
    → IsEmpty s w slot → ⊥
bare_slot s w slot (ask.Gather k region) e can bare = cc
bare_slot s w slot _ e can bare = absurd (false≢true (sym can))

module _ (old : Parts) (x : Session) (page : ℕ) (can : Bool) (same : CanJoin old (bundle_asked x.worker x.ask) can) where
  pub fix_joins : (new : Parts) (out : BookAnswer) → can ≡ true → DoesUnless old (request.Fix x page) out new
      → DoesUnless old (request.Join x page) out new
  fix_joins new out is does done =
      joins old (bundle_asked x.worker x.ask) (call_of old (request.Fix x page)) new can same is (does done)

  pub fix_tells : (done : Move × Reply) → can ≡ true → Tells old (call_of old (request.Fix x page)) done
      → Tells old (call_of old (request.Join x page)) done
  fix_tells did is t =
      tells old (bundle_asked x.worker x.ask) (call_of old (request.Fix x page)) did can same is t

  pub fix_refused : (why : Refusal) → can ≡ true → Refuses old (call_of old (request.Fix x page)) why
      → Refuses old (call_of old (request.Join x page)) why
  fix_refused why is r =
      refuses old (bundle_asked x.worker x.ask) (call_of old (request.Fix x page)) why can same is r

  pub join_strange : can ≡ false → Refuses old (call_of old (request.Join x page)) Stranger
  join_strange is = strange old (bundle_asked x.worker x.ask) (call_of old (request.Fix x page)) can same is

  -- No guard comes.
  pub fix_gives : (new : Parts) → can ≡ true → IsKept old → (out : Fixed) → FixAnswers old x page out new
      → ((y : Session) → out ≡ fixed.Joined y → ⊥) → ((errand : Errand) → out ≡ fixed.Away errand → ⊥) → ⊥
  fix_gives new is k (fixed.Got y g) h joined away =
      bare_slot k.state x.worker g.slot x.ask h.2 (sym is ∙ same k.state k.stands) (h.1.was k.state k.stands)
  fix_gives new is k (fixed.Opened y g) h joined away =
      bare_slot k.state x.worker g.slot x.ask h.2 (sym is ∙ same k.state k.stands) (h.1.was k.state k.stands)
  fix_gives new is k (fixed.Joined y) h joined away = joined y refl
  fix_gives new is k (fixed.Away errand) h joined away = away errand refl

-- ---- what a device has done for one

module _ (old new : Parts) (image : List ℕ) (ok can : Bool) (is : can ≡ true) (k : IsKept old) where
  bare_bundle : (w slot : ℕ) → CanJoin old (Some (w, slot)) can
      → ((s : State) → StandsFor old s → IsEmpty s w slot) → ⊥
  bare_bundle w slot same was =
      false≢true (sym (was k.state k.stands).no_bundle ∙ sym (same k.state k.stands) ∙ is)

  -- No guard comes, and no flush is over.
  duty_gives : (d : Duty) → CanJoin old (bundle_served d) can → (out : Answered) → DutyEnds old d image ok out new
      → ((y : Session) → out ≡ answered.Joined y → ⊥) → ((errand : Errand) → out ≡ answered.Away errand → ⊥)
      → ((x : Leaver) → out ≡ answered.Lost x → ⊥) → ⊥
  duty_gives (Read w slot page) same (answered.Got y g) h joined away lost = bare_bundle w slot same h.1.was
  duty_gives (Read w slot page) same (answered.Opened y g) h joined away lost = bare_bundle w slot same h.1.was
  duty_gives (Read w slot page) same (answered.Flushed clean) h joined away lost = h
  duty_gives (Write w slot page victim) same (answered.Got y g) h joined away lost = h
  duty_gives (Write w slot page victim) same (answered.Opened y g) h joined away lost = h
  duty_gives (Write w slot page victim) same (answered.Flushed clean) h joined away lost = h
  duty_gives (Flush page) same out h joined away lost = false≢true (sym (same k.state k.stands) ∙ is)
  duty_gives d same (answered.Joined y) h joined away lost = joined y refl
  duty_gives d same (answered.Away errand) h joined away lost = away errand refl
  duty_gives d same (answered.Lost x) h joined away lost = lost x refl

module _ (old : Parts) (returned : Returned) (can : Bool) (same : CanJoin old (bundle_served returned.duty) can) where
  pub answer_joins : (new : Parts) → can ≡ true → Does old (call_of old (request.Answer returned)) new
      → Does old (call_of old (request.AnswerJoin returned)) new
  answer_joins new is does =
      joins old (bundle_served returned.duty) (call_of old (request.Answer returned)) new can same is does

  pub answer_tells : (done : Move × Reply) → can ≡ true → Tells old (call_of old (request.Answer returned)) done
      → Tells old (call_of old (request.AnswerJoin returned)) done
  answer_tells did is t =
      tells old (bundle_served returned.duty) (call_of old (request.Answer returned)) did can same is t

  pub answer_refused : (why : Refusal) → can ≡ true → Refuses old (call_of old (request.Answer returned)) why
      → Refuses old (call_of old (request.AnswerJoin returned)) why
  answer_refused why is r =
      refuses old (bundle_served returned.duty) (call_of old (request.Answer returned)) why can same is r

  pub answer_strange : can ≡ false → Refuses old (call_of old (request.AnswerJoin returned)) Stranger
  answer_strange is = strange old (bundle_served returned.duty) (call_of old (request.Answer returned)) can same is

  pub answer_gives : (new : Parts) → can ≡ true → IsKept old → (out : Answered)
      → AnswerComesTo old returned out new → ((y : Session) → out ≡ answered.Joined y → ⊥)
      → ((errand : Errand) → out ≡ answered.Away errand → ⊥) → ((x : Leaver) → out ≡ answered.Lost x → ⊥) → ⊥
  answer_gives new is k = duty_gives old new returned.image (is_ok returned.answer) can is k returned.duty same
