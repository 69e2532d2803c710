-- What a book notes of calls that are done, and of calls that are refused.
use Rattle.std.proofs.Common.{◌≡◌, true, false, Option, Some, None, refl, sym, ap, subst, if◌then◌else◌, not}
use Rattle.std.proofs.lemmas.Bool.{false≢true}
use Rattle.pp_model.specs.declared.moves.Move.{Move}
use Rattle.pp_model.specs.declared.reply.Reply.{Reply}
use Rattle.pp_model.specs.declared.reply.Reply.TheVariants as reply
use Rattle.pp_model.specs.Pool.{State}
use Rattle.pp_model.specs.Moves.{reply_of, is_possible, is_refusal}
use Rattle.pp_model.proofs.Changes.{refused_by}
use Rattle.pp_vault.specs.declared.refusal.Refusal.{Refusal}
use Rattle.pp_vault.specs.Parts.{Parts}
use Rattle.pp_vault.specs.StandsFor.{StandsFor}
use Rattle.pp_vault.specs.Calls.{Call, stranger, refused, asks, refusal_in, refusal_of, after_call, told}
use Rattle.pp_vault.specs.Events.{Refuses}
use Rattle.pp_pool.specs.declared.request.Request.{Request}
use Rattle.pp_pool.specs.declared.response.BookAnswer.{BookAnswer}
use Rattle.pp_pool.specs.declared.response.BookAnswer.TheVariants.{Acts, Idle, Leaves, Pinned, Shared, Exclusive, Away}
use Rattle.pp_pool.specs.declared.response.BookAnswer.TheVariants.{Opened, Joined, Flushed, No}
use Rattle.pp_pool.specs.Requests.{call_of}
use Rattle.pp_pool.specs.Performing.{ComesTo, DoesUnless, TellsOf}

-- Done or refused, the call leads to the state after it, and this is told of it.
pub record IsNoted (old : Parts) (call : State → Call) (done : Option (Move × Reply)) (new : Parts) : Type 0 where
  pub stands : (s : State) → StandsFor old s → StandsFor new (after_call s (call s))
  pub is_told : (s : State) → StandsFor old s → told s (call s) ≡ done

-- A reply that refuses tells why.
refuses_by : (r : Reply) (why : Refusal) → refusal_in r ≡ Some why → is_refusal r ≡ true
refuses_by (reply.NotNow delay) why e = refl
refuses_by (reply.OffPlan cause) why e = refl
refuses_by (reply.Taken plan) why e = cc
refuses_by (reply.Hit frame mark) why e = cc
refuses_by (reply.MustRead frame) why e = cc
refuses_by (reply.MustWrite frame victim) why e = cc
refuses_by (reply.Failed failure) why e = cc
refuses_by (reply.Loaded mark) why e = cc
refuses_by reply.Did why e = cc
refuses_by (reply.Latched mark) why e = cc
refuses_by (reply.Unlatched mark) why e = cc
refuses_by (reply.Finished ending) why e = cc
refuses_by (reply.Flushing mark) why e = cc
refuses_by (reply.Flushed clean) why e = cc

-- A refused call leaves the state, and tells nothing.
pub refused_call : (s : State) (call : Call) (why : Refusal) → refusal_of s call ≡ Some why
    → (after_call s call ≡ s) × (told s call ≡ None)
refused_call s stranger why e = (refl, refl)
refused_call s (refused other) why e = (refl, refl)
refused_call s (asks m) why e =
    let never : is_possible s m ≡ false = ap not (refuses_by (reply_of s m) why e) in
    (refused_by s m never, ap (λ b. if b then Some (m, reply_of s m) else None) never)

-- A refused call leaves the parts, which stand for the state still.
left_stands : (old new : Parts) (call : State → Call) (why : Refusal) → Refuses old call why → new ≡ old
    → (s : State) → StandsFor old s → StandsFor new (after_call s (call s))
left_stands old new call why refuses same s st =
    subst (λ (v : Parts). StandsFor v (after_call s (call s))) (sym same)
    (subst (StandsFor old) (sym (refused_call s (call s) why (refuses s st)).0) st)

stands_by : (old new : Parts) (asked : Request) (out : BookAnswer) → ComesTo old asked out new → DoesUnless old asked out new
    → (s : State) → StandsFor old s → StandsFor new (after_call s (call_of old asked s))
stands_by old new asked (No back why) h d = left_stands old new (call_of old asked) why h.refuses h.unchanged
stands_by old new asked (Acts x) h d = (d refl).stands
stands_by old new asked (Idle chair) h d = (d refl).stands
stands_by old new asked (Leaves x) h d = (d refl).stands
stands_by old new asked (Pinned x g) h d = (d refl).stands
stands_by old new asked (Opened x g) h d = (d refl).stands
stands_by old new asked (Joined x) h d = (d refl).stands
stands_by old new asked (Shared x g) h d = (d refl).stands
stands_by old new asked (Exclusive x g) h d = (d refl).stands
stands_by old new asked (Away errand) h d = (d refl).stands
stands_by old new asked (Flushed clean) h d = (d refl).stands

told_by : (old new : Parts) (asked : Request) (out : BookAnswer) (did : Option (Move × Reply)) → ComesTo old asked out new
    → TellsOf old asked out did → (s : State) → StandsFor old s → told s (call_of old asked s) ≡ did
told_by old new asked out (Some did) h tells s st = tells s st
told_by old new asked (No back why) None h tells s st = (refused_call s (call_of old asked s) why (h.refuses s st)).1
told_by old new asked (Acts x) None h tells s st = absurd (false≢true tells)
told_by old new asked (Idle chair) None h tells s st = absurd (false≢true tells)
told_by old new asked (Leaves x) None h tells s st = absurd (false≢true tells)
told_by old new asked (Pinned x g) None h tells s st = absurd (false≢true tells)
told_by old new asked (Opened x g) None h tells s st = absurd (false≢true tells)
told_by old new asked (Joined x) None h tells s st = absurd (false≢true tells)
told_by old new asked (Shared x g) None h tells s st = absurd (false≢true tells)
told_by old new asked (Exclusive x g) None h tells s st = absurd (false≢true tells)
told_by old new asked (Away errand) None h tells s st = absurd (false≢true tells)
told_by old new asked (Flushed clean) None h tells s st = absurd (false≢true tells)

pub noted : (old new : Parts) (asked : Request) (out : BookAnswer) (did : Option (Move × Reply)) → ComesTo old asked out new
    → DoesUnless old asked out new → TellsOf old asked out did → IsNoted old (call_of old asked) did new
noted old new asked out did h d tells =
    record { stands = stands_by old new asked out h d; is_told = told_by old new asked out did h tells }

-- A refusal has nothing to be done.
pub refused_does : (old new : Parts) (asked back : Request) (why : Refusal) → DoesUnless old asked (No back why) new
refused_does old new asked back why e = absurd (false≢true (sym e))
