-- What holds of every vault.
use Rattle.std.proofs.Common.{◌≡◌, Option, Some, None, Result, Ok, Err, refl, sym, subst}
use Rattle.std.specs.Prelude.{IfOk, OnErr, IsSome}
use Rattle.std.proofs.lemmas.Bool.{false≢true}
use Rattle.pp_model.specs.Pool.{State}
use Rattle.pp_model.specs.Ready.{Standing, StandsIn, ready_at}
use Rattle.pp_model.proofs.ReadyLaws.{ready_are_cached, ready_stand}
use Rattle.pp_core.proofs.Standing.{headline_of}
use Rattle.pp_vault.specs.Parts.{Parts}
use Rattle.pp_vault.specs.StandsFor.{StandsFor, IsKept, IsRight}
use Rattle.pp_vault.specs.Headline.{ReadyFramesAreRight, HeadlineHolds, Holds}
use Rattle.pp_vault.specs.Calls.{Call, after_call}
use Rattle.pp_vault.specs.Events.{Does}

-- Where a page stands that is ready.
known_standing : (o : Option Standing) → IsSome o → (x : Standing) × (o ≡ Some x)
known_standing None some = absurd (false≢true some)
known_standing (Some x) some = (x, refl)

ready_frames_are_right : (v : Parts) (s : State) → StandsFor v s → ReadyFramesAreRight v s
ready_frames_are_right v s st page cached loaded free =
    let reached = st.core.reached in
    let at = known_standing (ready_at s page) ((ready_are_cached s reached page).1 (cached, loaded, free)) in
    let in_frame : StandsIn s page at.0 = ready_stand s reached page at.0 at.1 in
    let right : IsRight v.images page at.0 = st.images.right page at.0 at.1 in
    record {
      frame = at.0.frame;
      mark = at.0.mark;
      image = right.image;
      in_frame = in_frame.frame;
      is_frame = in_frame.low;
      known = in_frame.mark;
      there = right.there;
      head = right.head;
    }

pub headline : (v : Parts) → HeadlineHolds v
headline v s st =
    record { core = headline_of s st.core.reached; ready_frames_are_right = ready_frames_are_right v s st }

pub holds : (v : Parts) → IsKept v → Holds v
holds v k = record { kept = k; headline = headline v }

-- What is done leads from what is kept to what is kept, and so does what changes nothing.
pub kept_after : (old new : Parts) (call : State → Call) → IsKept old → Does old call new → IsKept new
kept_after old new call k d =
    record { state = after_call k.state (call k.state); stands = d.stands k.state k.stands }

pub kept_by : {A E : Type 0} (old new : Parts) (call : State → Call) (r : Result A E) → IsKept old
    → IfOk r (λ _. Does old call new) → OnErr r (new ≡ old) → IsKept new
kept_by old new call (Ok x) k does same = kept_after old new call k does
kept_by old new call (Err e) k does same = subst IsKept (sym same) k

-- The same, where what the call ensures of a value says that it is done.
pub kept_where : {A E : Type 0} (old new : Parts) (call : State → Call) (P : A → Type 0) (r : Result A E)
    → ((a : A) → P a → Does old call new) → IfOk r P → OnErr r (new ≡ old) → IsKept old → IsKept new
kept_where old new call P (Ok a) does ok same k = kept_after old new call k (does a ok)
kept_where old new call P (Err e) does ok same k = subst IsKept (sym same) k
