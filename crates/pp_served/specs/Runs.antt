-- Runs of a ledger: whatever may be called, from its beginning on.
use Rattle.std.specs.Prelude.{◌≡◌, ◌≢◌, ℕ, true, List, [], ◌∷◌}
use Rattle.pp_settings.specs.declared.span.Span.TheVariants.{Bounded}
use Rattle.pp_settings.specs.Settings.{Configuration}
use Rattle.pp_cert.specs.Accepted.{Acceptance}
use Rattle.pp_model.specs.Pool.{opening}
use Rattle.pp_core.specs.Opening.{kept_of}
use Rattle.pp_pool.specs.declared.request.Request.{Request}
use Rattle.pp_pool.specs.declared.response.Response.{Response}
use Rattle.pp_ledger.specs.Segments.{Segment, empty_segment}
use Rattle.pp_ledger.specs.Ledgers.{Parts, IsSegment}
use Rattle.pp_ledger.specs.Calls.{Prepares, TakesPrepared, Performs, can_go_on, going_on}

-- ---- calls

-- A call that a ledger answered: it prepared a plan at this place, took in the one at this place under this number, or
-- performed a request. A call that it refused changed nothing, and is none.
pub data Call : Type 0 where
  prepare : (plan : Acceptance) (place : ℕ) → Call
  submit : (plan : Acceptance) (place number : ℕ) → Call
  perform : (asked : Request) (response : Response) → Call

-- The call leads from the one ledger to the other, as the contract of the call has it.
abbrev pub Leads : Parts → Call → Parts → Type 0
Leads l (prepare plan place) m = Prepares l plan place m
Leads l (submit plan place number) m = TakesPrepared l place number plan m
Leads l (perform asked response) m = Performs l asked response m

-- These calls lead from the one ledger to the other, each from where the one before it led.
abbrev pub LeadAll : Parts → List Call → Parts → Type 0
LeadAll l [] m = m ≡ l
LeadAll l (call ∷ calls) m = (next : Parts) × Leads l call next × LeadAll next calls m

-- ---- segments

-- Calls lead from the one ledger to the other, and no segment is taken out between them.
abbrev pub IsServed : Parts → Parts → Type 0
IsServed l m = (calls : List Call) × LeadAll l calls m

-- A ledger's run: calls lead to the first of these ledgers, whose segment is then taken out, and so on to each next
-- one, and from the last to the ledger as it is now.
abbrev pub IsRun : Parts → (before : List Parts) → (now : Parts) → Type 0
IsRun l [] now = IsServed l now
IsRun l (x ∷ xs) now = IsServed l x × (empty : Segment) × (can_go_on x empty ≡ true) × IsRun (going_on x empty) xs now

-- ---- its beginning

-- A ledger as `Ledger::new` makes it with these settings: nothing was called yet.
pub record IsNew (c : Configuration) (l : Parts) : Type 0 where
  pub endless : c.span ≢ Bounded
  pub room : ℕ
  pub segment : l.segment ≡ empty_segment room
  pub begins : IsSegment l (opening (kept_of c)) (opening (kept_of c))
  pub none_kept : l.vault.core.plans ≡ []
