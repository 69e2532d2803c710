-- The ends come back with the calls that their parts of the journal tell of.
use Rattle.std.proofs.Common.{◌≡◌, ◌≢◌, ◌∙◌, ℕ, ◌+◌, ◌<◌, ◌++◌, List, [], ◌∷◌, length, get_or, refl, sym, ap, arith}
use Rattle.std.proofs.lemmas.List.{length-append}
use Rattle.std.proofs.lemmas.List.{get_or_append_left}
use Rattle.std.proofs.Math.Seq.{get_or-append_seam}
use Rattle.pp_model.specs.declared.event.Event.{Event}
use Rattle.pp_model.specs.WorkerParts.{part_of}
use Rattle.pp_run.specs.declared.stop.Stop.{Stop}
use Rattle.pp_run.specs.declared.stop.Stop.TheVariants.{Ended, NoMemory, Broken}
use Rattle.pp_run.specs.declared.stop.Worked.{Worked}
use Rattle.pp_run.specs.declared.stop.Flushed.{Flushed}
use Rattle.pp_run.specs.Calling.{calls_in, failed_calls_in, ended_flushes_in, failed_flushes_in}
use Rattle.pp_run.specs.Ends.{CountsBy, FlushesBy, Unless, WorkedFrom, FlushedFrom, AllWorkedFrom, SettledAt, Settled, FlushSettled, GivesBack}
use Rattle.pp_run.specs.Runs.{HasCalled, AllCalled}

opened : (s : Stop) (fact : Type 0) → Unless s fact → s ≢ Broken → fact
opened Ended fact h sound = h
opened NoMemory fact h sound = h
opened Broken fact h sound = absurd (sound refl)

has_called : {D : Type 0} (calls failures : D → ℕ) (device : D) (x : Worked D) (events : List Event) (w : ℕ) (back : D)
    → WorkedFrom calls failures device x → SettledAt x events w back
    → HasCalled calls failures device (calls_in (part_of w events)) (failed_calls_in (part_of w events)) back
has_called calls failures device x events w back ends settled =
    let counts : CountsBy calls failures device [] x.device x.log.items
    = opened x.stop (CountsBy calls failures device [] x.device x.log.items) ends settled.sound in
    record {
      called = omega (arith, counts.called, ap calls settled.back, ap calls_in settled.log);
      failed = omega (arith, counts.failed, ap failures settled.back, ap failed_calls_in settled.log);
    }

flusher_called : {D : Type 0} (calls failures : D → ℕ) (device : D) (f : Flushed D) (events : List Event)
    → FlushedFrom calls failures device f → FlushSettled f events
    → HasCalled calls failures device (ended_flushes_in events) (failed_flushes_in events) f.device
flusher_called calls failures device f events ends settled =
    let counts : FlushesBy calls failures device 0 0 f.device f.ended f.failed
    = opened f.stop (FlushesBy calls failures device 0 0 f.device f.ended f.failed) ends settled.sound in
    let a = settled.ended in let b = settled.failed in
    record { called = omega (arith, counts.called, a); failed = omega (arith, counts.failed, b) }

-- some element, to read the list by
at_end : {D : Type 0} (calls failures : D → ℕ) (devices : List D) (worked : List (Worked D)) (events : List Event)
    (back : List D) → AllWorkedFrom calls failures devices worked → Settled worked events back → (x : Worked D) (w : ℕ)
    (d e : D) → w < length devices
    → HasCalled calls failures (get_or devices w d) (calls_in (part_of w events)) (failed_calls_in (part_of w events)) (get_or back w e)
at_end calls failures devices worked events back ends settled x w d e low =
    has_called calls failures (get_or devices w d) (get_or worked w x) events w (get_or back w e) (ends.1 w d x low)
    (settled.each w x e (omega (arith, low, ends.0)))

each_called : {D : Type 0} (calls failures : D → ℕ) (devices : List D) (worked : List (Worked D)) (events : List Event)
    (back : List D) → AllWorkedFrom calls failures devices worked → Settled worked events back → (w : ℕ) (d e : D)
    → w < length devices
    → HasCalled calls failures (get_or devices w d) (calls_in (part_of w events)) (failed_calls_in (part_of w events)) (get_or back w e)
each_called calls failures devices [] events back ends settled w d e low =
    let none = ends.0 in absurd (omega (arith, none, low))
each_called calls failures devices (x ∷ xs) events back ends settled w d e low =
    at_end calls failures devices (x ∷ xs) events back ends settled x w d e low

-- All ends: those of the workers, and that of the flusher behind them.
all_called : {D : Type 0} (calls failures : D → ℕ) (workers : ℕ) (devices : List D) (last : D) (worked : List (Worked D))
    (f : Flushed D) (events : List Event) (back all given : List D) → length devices ≡ workers
    → AllWorkedFrom calls failures devices worked → FlushedFrom calls failures last f
    → Settled worked events back → FlushSettled f events
    → given ≡ devices ++ last ∷ [] → all ≡ back ++ f.device ∷ []
    → AllCalled calls failures workers given events all
all_called calls failures workers devices last worked f events back all given long ends ending settled counted is gives =
    let many : length back ≡ length devices = settled.count ∙ ends.0 in
    record {
      count = ap length gives ∙ (length-append back (f.device ∷ []) ∙ (ap (λ n. n + 1) many
          ∙ (sym (length-append devices (last ∷ [])) ∙ sym (ap length is))));
      each = λ w d e low.
          let here = each_called calls failures devices worked events back ends settled w d e (omega (arith, low, long)) in
          let old : get_or given w d ≡ get_or devices w d
          = ap (λ xs. get_or xs w d) is ∙ get_or_append_left devices (last ∷ []) d w (omega (arith, low, long)) in
          let new : get_or all w e ≡ get_or back w e
          = ap (λ xs. get_or xs w e) gives ∙ get_or_append_left back (f.device ∷ []) e w (omega (arith, low, long, many)) in
          record {
            called = ap calls new ∙ (here.called ∙ ap (λ n. calls n + calls_in (part_of w events)) (sym old));
            failed = ap failures new ∙ (here.failed ∙ ap (λ n. failures n + failed_calls_in (part_of w events)) (sym old));
          };
      last = λ d e.
          let here = flusher_called calls failures last f events ending counted in
          let old : get_or given workers d ≡ last
          = ap (λ xs. get_or xs workers d) is ∙ (ap (λ n. get_or (devices ++ last ∷ []) n d) (sym long)
          ∙ get_or-append_seam devices last [] d) in
          let new : get_or all workers e ≡ f.device
          = ap (λ xs. get_or xs workers e) gives ∙ (ap (λ n. get_or (back ++ f.device ∷ []) n e) (sym (many ∙ long))
          ∙ get_or-append_seam back f.device [] e) in
          record {
            called = ap calls new ∙ (here.called ∙ ap (λ n. calls n + ended_flushes_in events) (sym old));
            failed = ap failures new ∙ (here.failed ∙ ap (λ n. failures n + failed_flushes_in events) (sym old));
          };
    }

pub gives_called : {D : Type 0} (calls failures : D → ℕ) (workers : ℕ) (front : List D) (last : D) (worked : List (Worked D))
    (f : Flushed D) (events : List Event) (all given : List D) → length front ≡ workers
    → AllWorkedFrom calls failures front worked → FlushedFrom calls failures last f → GivesBack worked f events all
    → given ≡ front ++ last ∷ [] → AllCalled calls failures workers given events all
gives_called calls failures workers front last worked f events all given long ends ending gives is =
    all_called calls failures workers front last worked f events gives.back all given long ends ending gives.workers
    gives.flusher is gives.all_are
