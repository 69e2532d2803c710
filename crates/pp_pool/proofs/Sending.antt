-- For which slot an errand is.
use Rattle.std.proofs.Common.{◌≡◌, ◌∙◌, ℕ, Bool, true, false, Option, Some, None, refl, sym, ap, subst}
use Rattle.std.specs.Prelude.{option_and_then, ◌==◌, if◌then◌else◌}
use Rattle.pp_plan.specs.declared.action.Ask.{Ask}
use Rattle.pp_plan.specs.declared.action.Ask.TheVariants as ask
use Rattle.pp_model.specs.declared.moves.Move.{Move}
use Rattle.pp_model.specs.declared.moves.Move.TheVariants.{Fix}
use Rattle.pp_model.specs.declared.reply.Reply.{Reply}
use Rattle.pp_model.specs.declared.reply.Reply.TheVariants.{MustRead, MustWrite}
use Rattle.pp_model.specs.Pool.{State}
use Rattle.pp_model.specs.Moves.{reply_of, next_of, is_refusal}
use Rattle.pp_core.specs.Queries.{ask_of, errand_of}
use Rattle.pp_core.specs.AfterMoves.{AfterMoves, wanted_of}
use Rattle.pp_core.specs.Fixing.{wanted}
use Rattle.pp_core.proofs.AfterMoves.{after_moves}
use Rattle.pp_vault.specs.declared.tokens.Duty.{Duty}
use Rattle.pp_vault.specs.declared.tokens.Duty.TheVariants.{Read, Write, Flush}
use Rattle.pp_vault.specs.declared.tokens.Errand.{Errand}
use Rattle.pp_vault.specs.declared.tokens.Session.{Session}
use Rattle.pp_vault.specs.declared.fixing.Fixed.TheVariants as fixed
use Rattle.pp_vault.specs.Parts as vault
use Rattle.pp_vault.specs.StandsFor.{StandsFor}
use Rattle.pp_vault.specs.Calls.{stranger, asks, refusal_of, after_call}
use Rattle.pp_vault.specs.Duties.{duty_slot}
use Rattle.pp_vault.specs.Fits.{fix_slot, names_slot}
use Rattle.pp_vault.specs.Fixes.{IsSent, FixAnswers}
use Rattle.pp_vault.specs.Tokens.{IsOut}
use Rattle.pp_vault.proofs.FitTests.{nat_is}
use Rattle.pp_pool.specs.declared.request.Request.{Request}
use Rattle.pp_pool.specs.declared.request.Request.TheVariants as request
use Rattle.pp_pool.specs.declared.response.BookAnswer.{BookAnswer}
use Rattle.pp_pool.specs.declared.response.BookAnswer.TheVariants.{Acts, Idle, Leaves, Pinned, Shared, Exclusive, Away}
use Rattle.pp_pool.specs.declared.response.BookAnswer.TheVariants.{Opened, Joined, Flushed, No}
use Rattle.pp_pool.specs.Performing.{ComesTo}
use Rattle.pp_pool.specs.Replies.{TokensFit, slot_for, SlotFits}
use Rattle.pp_pool.proofs.Tokens.{away_slot, no_slot}

-- A call that isn't refused has a token that fits.
names_by : (s : State) (m : Move) (fits : Bool) → refusal_of s (if fits then asks m else stranger) ≡ None
    → fits ≡ true
names_by s m true e = refl
names_by s m false e = cc

none_wanted : {f : ℕ × ℕ} → ◌≡◌ {A = Option (ℕ × ℕ)} None (Some f) → ⊥
none_wanted e = cc

-- The slot for which a page is wanted. (0 where none is.)
abbrev slot_wanted : Option (ℕ × ℕ) → ℕ
slot_wanted None = 0
slot_wanted (Some f) = f.0

-- The slot that the session tells is the one for which the plan asks a page.
told_slot : (told slot region : ℕ) (a : Ask) → wanted a ≡ Some (slot, region) → (told == fix_slot a) ≡ true → slot ≡ told
told_slot told slot region (ask.Fix k r) e names = sym (ap slot_wanted e) ∙ sym (nat_is told k names)
told_slot told slot region (ask.Gather k r) e names = sym (ap slot_wanted e) ∙ sym (nat_is told k names)
told_slot told slot region (ask.Unfix k) e names = absurd (none_wanted e)
told_slot told slot region (ask.Latch k m) e names = absurd (none_wanted e)
told_slot told slot region (ask.Unlatch k) e names = absurd (none_wanted e)
told_slot told slot region (ask.Scatter k) e names = absurd (none_wanted e)
told_slot told slot region (ask.Choose count) e names = absurd (none_wanted e)
told_slot told slot region ask.End e names = absurd (none_wanted e)

same_slot : (told slot region : ℕ) (o : Option Ask) → option_and_then wanted o ≡ Some (slot, region)
    → names_slot told o ≡ true → slot ≡ told
same_slot told slot region None e names = absurd (none_wanted e)
same_slot told slot region (Some a) e names = told_slot told slot region a e names

-- The slot of an errand that is out. (0 where none is.)
abbrev slot_out : Option (ℕ × ℕ × Option ℕ) → ℕ
slot_out None = 0
slot_out (Some errand) = errand.0

same_errand : (a b c d : ℕ) (u v : Option ℕ)
    → ◌≡◌ {A = Option (ℕ × ℕ × Option ℕ)} (Some (a, b, u)) (Some (c, d, v)) → a ≡ c
same_errand a b c d u v e = ap slot_out e

module _ (old new : vault.Parts) (x : Session) (page : ℕ) (errand : Errand) (s : State) (st : StandsFor old s)
    (h : FixAnswers old x page (fixed.Away errand) new) where
  abbrev next : State
  next = next_of s (Fix x.worker page)

  names : names_slot (fix_slot x.ask) (ask_of s x.worker) ≡ true
  names = names_by s (Fix x.worker page) (names_slot (fix_slot x.ask) (ask_of s x.worker)) (h.0.allowed s st)

  stands : StandsFor new next
  stands =
      subst (λ b. StandsFor new (after_call s (if b then asks (Fix x.worker page) else stranger))) names
      (h.0.stands s st)

  laws : AfterMoves s
  laws = after_moves s st.core.reached

  -- The worker's plan asks a page into the slot that the session tells, by a fix or by a gather.
  asked : (r : Reply) → reply_of s (Fix x.worker page) ≡ r → is_refusal r ≡ false
      → (region : ℕ) × (wanted_of s x.worker ≡ Some (fix_slot x.ask, region))
  asked r replied done =
      let f = laws.found (Fix x.worker page) (ap is_refusal replied ∙ done) in
      let same : f.0 ≡ fix_slot x.ask = same_slot (fix_slot x.ask) f.0 f.1 (ask_of s x.worker) f.2 names in
      (f.1, f.2 ∙ ap (λ n. Some (n, f.1)) same)

  by_duty : (d : Duty) → IsSent old new x.worker page errand.image d → IsOut next d
      → duty_slot d ≡ Some (fix_slot x.ask)
  by_duty (Read v slot p) sent out =
      let told = sent.2 s st in
      let now = asked (MustRead told.0) told.1 refl in
      let here = (laws.sent x.worker page (fix_slot x.ask) now.0 told.0 told.1 now.1).errand in
      let mine = subst (λ u. errand_of next u ≡ Some (slot, p, None)) sent.0 out in
      ap Some (same_errand slot p (fix_slot x.ask) page None None (sym mine ∙ here))
  by_duty (Write v slot p victim) sent out =
      let told = sent.2 s st in
      let now = asked (MustWrite told.0 victim) told.1 refl in
      let here = (laws.sent_victim x.worker page (fix_slot x.ask) now.0 told.0 victim told.1 now.1).errand in
      let mine = subst (λ u. errand_of next u ≡ Some (slot, p, Some victim)) sent.0 out in
      ap Some (same_errand slot p (fix_slot x.ask) page (Some victim) (Some victim) (sym mine ∙ here))
  by_duty (Flush p) sent out = absurd sent

  fix_slot_is : duty_slot errand.duty ≡ Some (fix_slot x.ask)
  fix_slot_is = by_duty errand.duty h.1 (h.2.out next stands)

-- An errand that comes of a request is for the request's slot.
module _ (old new : vault.Parts) (s : State) (st : StandsFor old s) where
  away : (asked : Request) (errand : Errand) → ComesTo old asked (Away errand) new → TokensFit asked (Away errand)
      → duty_slot errand.duty ≡ slot_for asked
  away (request.Fix x page) errand h fit = fix_slot_is old new x page errand s st h
  away (request.Join x page) errand h fit = fix_slot_is old new x page errand s st h
  away (request.Answer returned) errand h fit = away_slot old new returned.image _ returned.duty errand h
  away (request.AnswerJoin returned) errand h fit = away_slot old new returned.image _ returned.duty errand h
  away (request.Flush page) errand h fit = no_slot errand.duty fit
  away (request.FlushNext number) errand h fit = no_slot errand.duty fit
  away (request.Take chair) errand h fit = absurd fit
  away (request.Unfix x g) errand h fit = absurd fit
  away (request.Scatter x g) errand h fit = absurd fit
  away (request.LatchShared x g) errand h fit = absurd fit
  away (request.LatchExclusive x g) errand h fit = absurd fit
  away (request.UnlatchShared x g) errand h fit = absurd fit
  away (request.UnlatchExclusive x g) errand h fit = absurd fit
  away (request.Choose x branch) errand h fit = absurd fit
  away (request.Finish x) errand h fit = absurd fit
  away (request.End x) errand h fit = absurd fit
  away (request.GiveBack x g) errand h fit = absurd fit

  pub slot_fits : (asked : Request) (out : BookAnswer) → ComesTo old asked out new → TokensFit asked out
      → SlotFits asked out
  slot_fits asked (Away errand) h fit = away asked errand h fit
  slot_fits asked (Acts x) h fit = tt
  slot_fits asked (Idle chair) h fit = tt
  slot_fits asked (Leaves x) h fit = tt
  slot_fits asked (Pinned x g) h fit = tt
  slot_fits asked (Opened x g) h fit = tt
  slot_fits asked (Joined x) h fit = tt
  slot_fits asked (Shared x g) h fit = tt
  slot_fits asked (Exclusive x g) h fit = tt
  slot_fits asked (Flushed clean) h fit = tt
  slot_fits asked (No back why) h fit = tt
