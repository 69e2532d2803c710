-- A site whose full segments are handed on.
use Rattle.std.proofs.Common.{◌≡◌, ◌∙◌, ℕ, Bool, true, false, not, None, refl, sym, subst}
use Rattle.std.proofs.lemmas.Bool.{false≢true}
use Rattle.std.specs.Prelude.{Result, Ok, Err, IfOk, IfErr, OnErr}
use Rattle.pp_cert.specs.Accepted.{Acceptance}
use Rattle.pp_model.specs.declared.refusals.Delay.TheVariants.{NoRoom}
use Rattle.pp_model.specs.Pool.{State}
use Rattle.pp_core.specs.Submits.{PreparedFails}
use Rattle.pp_vault.specs.declared.refusal.Refusal.TheVariants.{NotNow}
use Rattle.pp_pool.specs.declared.request.Request.{Request}
use Rattle.pp_pool.specs.declared.response.BookAnswer.TheVariants.{No}
use Rattle.pp_pool.specs.declared.response.Response.{Response}
use Rattle.pp_pool.specs.Replies.{Replies}
use Rattle.pp_ledger.specs.declared.error.LedgerError.{LedgerError}
use Rattle.pp_ledger.specs.declared.error.LedgerError.TheVariants.{SegmentFull, Refused}
use Rattle.pp_ledger.specs.Segments.{Segment}
use Rattle.pp_ledger.specs.Ledgers.{Parts, IsSegment}
use Rattle.pp_ledger.specs.Calls.{TakesPrepared, SubmitFails, Performs, going_on}
use Rattle.pp_ledger.specs.Sites.{SiteParts, HandsOn, MakesRoom, Gives, Submits, RefusesSubmit, can_hand_on}
use Rattle.pp_ledger.specs.Sites.{is_stuck}

-- A request that comes back fits what was asked.
pub declined_fits : (asked : Request) → Replies asked (record { event = None; answer = No asked (NotNow NoRoom) })
declined_fits asked = record { done = refl; event = tt; tokens = refl; slot = tt }

module _ {S : Type 0} (keeps : S → Segment → Segment → S → Type 0) where
  -- The sink was handed what was taken out.
  pub hands_on : (x y : SiteParts S) (l : Parts) (full next : Segment) (after : S)
      → can_hand_on x ≡ true → full ≡ x.ledger.segment → l ≡ going_on x.ledger x.spare → ((o s : State) → IsSegment x.ledger o s → IsSegment l s s)
      → keeps x.sink full next after → y ≡ record { ledger = l; spare = next; sink = after } → HandsOn keeps x y
  hands_on x y l full next after can is goes chain given e =
      subst (HandsOn keeps x) (sym e) (record {
        can = can;
        ledger = goes;
        handed = subst (λ g. keeps x.sink g next after) is given;
        segment = chain;
      })

  -- ---- a request

  pub declines : (x y : SiteParts S) (asked : Request) (response : Response) (made : Bool) → made ≡ not (is_stuck x)
      → made ≡ false → (made ≡ false → y ≡ x) → response ≡ record { event = None; answer = No asked (NotNow NoRoom) }
      → Gives keeps (is_stuck x) x asked response y
  declines x y asked response made exact isnt same told = by (is_stuck x) exact
    where
      by : (stuck : Bool) → made ≡ not stuck → Gives keeps stuck x asked response y
      by true e = record { told = told; unchanged = same isnt }
      by false e = absurd (false≢true (sym isnt ∙ e))

  pub serves : (x between y : SiteParts S) (asked : Request) (response : Response) (made : Bool)
      → made ≡ not (is_stuck x) → made ≡ true → MakesRoom keeps x between
      → Performs between.ledger asked response y.ledger → y ≡ record between { ledger = y.ledger }
      → Gives keeps (is_stuck x) x asked response y
  serves x between y asked response made exact is room performs rest = by (is_stuck x) exact
    where
      by : (stuck : Bool) → made ≡ not stuck → Gives keeps stuck x asked response y
      by true e = absurd (false≢true (sym e ∙ is))
      by false e = record { between = between; makes_room = room; performs = performs; rest = rest }

  -- ---- a prepared plan

  module _ (x between y : SiteParts S) (place : ℕ) (room : MakesRoom keeps x between)
      (rest : y ≡ record between { ledger = y.ledger }) where
    pub submits_by : (r : Result ℕ LedgerError)
        → IfOk r (λ id. (a : Acceptance) × TakesPrepared between.ledger place id a y.ledger)
        → IfOk r (λ id. Submits keeps x place id y)
    submits_by (Ok id) t =
        record { between = between; plan = t.0; makes_room = room; takes = t.1; rest = rest }
    submits_by (Err e) t = tt

    as_before : y.ledger ≡ between.ledger → between ≡ y
    as_before same = sym (rest ∙ (λ i. record between { ledger = same i }))

    pub refuses_by : (r : Result ℕ LedgerError) → IfErr r (SubmitFails between.ledger place)
        → OnErr r (y.ledger ≡ between.ledger) → IfErr r (λ e. RefusesSubmit keeps x place e y)
    refuses_by (Ok id) t same = tt
    refuses_by (Err SegmentFull) t same = absurd (false≢true (sym room.room ∙ t))
    refuses_by (Err (Refused e)) t same =
        subst (λ (b : SiteParts S). MakesRoom keeps x b × PreparedFails b.ledger.vault.core place e) (as_before same)
        (room, t.1)
