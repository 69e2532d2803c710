-- The move that a done call of a vault was, and what it found and was answered.
use Rattle.std.proofs.Common.{◌≡◌, ℕ, Bool, true, false, not, Option, Some, None, refl, sym, ap, subst}
use Rattle.std.specs.Prelude.{if◌then◌else◌, ◌&&◌, ◌==◌, IsTrue}
use Rattle.std.proofs.lemmas.Bool.{false≢true}
use Rattle.pp_cert.specs.declared.note.Held.{Held}
use Rattle.pp_model.specs.declared.moves.Move.{Move}
use Rattle.pp_model.specs.declared.reply.Reply.{Reply}
use Rattle.pp_model.specs.Pool.{State}
use Rattle.pp_model.specs.Moves.{reply_of, next_of, is_refusal, is_possible}
use Rattle.pp_model.specs.Ready.{Keeps, is_still}
use Rattle.pp_model.specs.Reached.{IsReached}
use Rattle.pp_model.proofs.ReadyLaws.{still_keeps}
use Rattle.pp_core.specs.Queries.{held_of, is_leaving}
use Rattle.pp_vault.specs.Calls.{Call, stranger, refused, asks, told}
use Rattle.pp_vault.specs.Fits.{guard_call, leaver_fits, is_held_so}
use Rattle.pp_vault.proofs.FitTests.{none_some, some_some, both_hold, slot_held}

-- The call is this move, which isn't refused.
pub record IsDone (s : State) (c : Call) (m : Move) : Type 0 where
  pub is : c ≡ asks m
  pub done : is_refusal (reply_of s m) ≡ false

not_true : (b : Bool) → not b ≡ true → b ≡ false
not_true true e = absurd (false≢true e)
not_true false e = refl

-- What is told is the move that the call asks.
pub told_done : (s : State) (c : Call) (m : Move) (reply : Reply) → told s c ≡ Some (m, reply) → IsDone s c m
told_done s stranger m reply e = absurd (none_some e)
told_done s (refused why) m reply e = absurd (none_some e)
told_done s (asks k) m reply e = go (is_possible s k) refl e
  where
    go : (b : Bool) → is_possible s k ≡ b
        → if◌then◌else◌ {A = Option (Move × Reply)} b (Some (k, reply_of s k)) None ≡ Some (m, reply) → IsDone s (asks k) m
    go true is f =
        let both : ◌≡◌ {A = Move × Reply} (k, reply_of s k) (m, reply) =
        some_some {A = Move × Reply} (m, reply) (k, reply_of s k) (m, reply) f in
        let same : k ≡ m = ap (λ (p : Move × Reply). p.0) both in
        record {
          is = ap (λ n. asks n) same;
          done = subst (λ n. is_refusal (reply_of s n) ≡ false) same (not_true (is_refusal (reply_of s k)) is);
        }
    go false is f = absurd (none_some f)

-- ---- which move it was

asks_same : (k m : Move) → asks k ≡ asks m → k ≡ m
asks_same k m e = cc

pub if_asks : (b : Bool) (k m : Move) → (if b then asks k else stranger) ≡ asks m → (b ≡ true) × (k ≡ m)
if_asks true k m e = (refl, asks_same k m e)
if_asks false k m e = absurd (stranger_asks e)
  where
    stranger_asks : stranger ≡ asks m → ⊥
    stranger_asks f = cc

pub guard_is : (fits asked : Bool) (k m : Move) → guard_call fits asked (asks k) ≡ asks m
    → (fits ≡ true) × (asked ≡ true) × (k ≡ m)
guard_is true true k m e = (refl, refl, asks_same k m e)
guard_is true false k m e = absurd (cc)
guard_is false asked k m e = absurd (cc)

-- A worker that leaves holds the slot of a guard that fits.
pub leaver_held : (s : State) (w of slot page : ℕ) (held : Held) (long : Bool)
    → (leaver_fits s w of slot page held && long) ≡ true → held_of s w slot ≡ Some (page, held)
leaver_held s w of slot page held long e =
    slot_held s w slot page held
    (both_hold (is_leaving s w && (of == w)) (is_held_so s w slot page held)
    (both_hold (leaver_fits s w of slot page held) long e).0).1

-- A move after which all is as before.
pub still_move : (s : State) (k : Move) → IsReached s → is_still (reply_of s k) ≡ true → Keeps s (next_of s k)
still_move s k reached still = still_keeps s reached k (subst (λ b. IsTrue b) (sym still) refl)
