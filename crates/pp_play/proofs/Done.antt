-- Calls of the vault that are done, and calls that are refused.
use Rattle.std.proofs.Common.{◌≡◌, Bool, true, false, Option, Some, None, refl, sym, ap, subst, rules}
use Rattle.std.specs.Prelude.{is_some, unwrap_or, if◌then◌else◌}
use Rattle.std.proofs.lemmas.Bool.{false≢true}
use Rattle.pp_model.specs.declared.moves.Move.{Move}
use Rattle.pp_model.specs.declared.reply.Reply.{Reply}
use Rattle.pp_model.specs.Pool.{State}
use Rattle.pp_model.specs.Moves.{reply_of, next_of, is_possible}
use Rattle.pp_vault.specs.declared.refusal.Refusal.{Refusal}
use Rattle.pp_vault.specs.Parts.{Parts}
use Rattle.pp_vault.specs.StandsFor.{StandsFor, IsKept}
use Rattle.pp_vault.specs.Calls.{Call, stranger, refused, asks, refusal_in, refusal_of, after_call, told}
use Rattle.pp_vault.specs.Events.{Does}
use Rattle.pp_vault.specs.Events as event
use Rattle.pp_vault.specs.Fits.{guard_call}
use Rattle.pp_script.specs.declared.cue.Cue.{Cue}
use Rattle.pp_play.specs.declared.line.Line.{Line}
use Rattle.pp_play.specs.declared.line.Line.TheVariants.{Did, Refused}
use Rattle.pp_play.specs.Plays.{IsMoveOf, Tells, ComesTo}
use Rattle.pp_play.specs.Doing.{IsDone}

-- ---- refused

-- Where nothing has changed, the states are as before.
pub refused_so : (old new : Parts) (cue : Cue) (why : Refusal) → new ≡ old → ComesTo old cue (Refused cue why) new
refused_so old new cue why is s st = (s, (refl, refl), subst (λ v. StandsFor v s) (sym is) st)

-- ---- done

-- Where a call is a move, it is one that the cue asks.
abbrev pub CallAsks : Cue → Call → Type 0
CallAsks cue stranger = Unit {0}
CallAsks cue (refused why) = Unit {0}
CallAsks cue (asks m) = IsMoveOf cue m

-- What a done call of this kind does.
record Doing (s : State) (cue : Cue) (done : Move × Reply) (new : Parts) : Type 0 where
  pub of : IsMoveOf cue done.0
  pub replies : reply_of s done.0 ≡ done.1
  pub allowed : refusal_in done.1 ≡ None
  pub stands : StandsFor new (next_of s done.0)

-- What is told is the move and its reply.
pub told_so : (b : Bool) (own done : Move × Reply)
    → ◌≡◌ {A = Option (Move × Reply)} (if b then Some own else None) (Some done) → own ≡ done
told_so true own done e = ap (λ (o : Option (Move × Reply)). unwrap_or o own) e
told_so false own done e = absurd (false≢true (ap is_some e))

by_call : (s : State) (cue : Cue) (done : Move × Reply) (new : Parts) (c : Call) → CallAsks cue c
    → refusal_of s c ≡ None → StandsFor new (after_call s c) → told s c ≡ Some done → Doing s cue done new
by_call s cue done new stranger of allowed stands tells = absurd (search rules)
by_call s cue done new (refused why) of allowed stands tells = absurd (search rules)
by_call s cue done new (asks m) of allowed stands tells =
    subst (λ d. Doing s cue d new) (told_so (is_possible s m) (m, reply_of s m) done tells)
    (record { of = of; replies = refl; allowed = allowed; stands = stands })

module _ (old new : Parts) (call : State → Call) (cue : Cue) (does : Does old call new)
    (asks_it : (s : State) → CallAsks cue (call s)) (done : Move × Reply) (tells : event.Tells old call done) where
  doing : (s : State) → StandsFor old s → Doing s cue done new
  doing s st = by_call s cue done new (call s) (asks_it s) (does.allowed s st) (does.stands s st) (tells s st)

  pub is_done : IsKept old → IsDone old cue done new
  is_done kept =
      let here = doing kept.state kept.stands in
      record {
        asked = here.of;
        allowed = here.allowed;
        replies = λ s st. (doing s st).replies;
        stands = λ s st. (doing s st).stands;
      }

-- The line of what is done.
pub done_comes : (old new : Parts) (cue : Cue) (line : Line) {done : Move × Reply} → IsDone old cue done new
    → line ≡ Did done.0 done.1 → ComesTo old cue line new
done_comes old new cue line {done} d is s st =
    subst (λ l. (t : State) × Tells s cue l t × StandsFor new t) (sym is)
    (next_of s done.0, (d.asked, d.replies s st, d.allowed, refl), d.stands s st)

-- ---- the moves that calls are

pub asks_if : (b : Bool) (cue : Cue) (m : Move) → IsMoveOf cue m → CallAsks cue (if b then asks m else stranger)
asks_if true cue m of = of
asks_if false cue m of = tt

pub asks_guard : (a b : Bool) (cue : Cue) (m : Move) → IsMoveOf cue m → CallAsks cue (guard_call a b (asks m))
asks_guard false b cue m of = tt
asks_guard true false cue m of = tt
asks_guard true true cue m of = of
