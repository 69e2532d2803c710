-- What the calls that make a step come to.
use Rattle.std.proofs.Common.{◌≡◌, ◌∙◌, ℕ, zero, suc, Bool, true, false, List, [], ◌∷◌, Option, Some, None, Ok, Err, get_or, refl, sym, ap, subst, arith}
use Rattle.std.specs.Prelude.{Result, IfSome, ◌==◌, if◌then◌else◌, slice_get, slice_set}
use Rattle.std.proofs.lemmas.Bool.Decides.{nat_tests}
use Rattle.std.proofs.lemmas.Option.{get_or_from_slice_get}
use Rattle.std.proofs.Math.ListN.{length-set}
use Rattle.pp_model.specs.Pool.{State}
use Rattle.pp_vault.specs.StandsFor.{StandsFor}
use Rattle.pp_pool.specs.declared.turned.Turned.{Turned}
use Rattle.pp_pool.specs.declared.turned.Turned.TheVariants as turned_as
use Rattle.pp_pool.specs.declared.work.End.{End}
use Rattle.pp_pool.specs.declared.flusher.Flusher.{Flusher}
use Rattle.pp_pool.specs.FlushTurns.{FlushTurnIs}
use Rattle.pp_hall.specs.declared.told.Told.{Told}
use Rattle.pp_hall.specs.Halls as halls
use Rattle.pp_hall.specs.Seatings.{is_wanted}
use Rattle.pp_steps.specs.declared.error.GoError.{GoError}
use Rattle.pp_steps.specs.declared.error.GoError.TheVariants as go_error
use Rattle.pp_steps.specs.declared.flusher.AwayFlusher.{AwayFlusher}
use Rattle.pp_steps.specs.declared.going.Came.{Came}
use Rattle.pp_steps.specs.declared.going.Went.{Went}
use Rattle.pp_steps.specs.declared.going.Went.TheVariants as went
use Rattle.pp_steps.specs.declared.pass.Pass.{Pass}
use Rattle.pp_steps.specs.declared.rings.Rings.{Rings}
use Rattle.pp_steps.specs.declared.seated.Seated.{Seated}
use Rattle.pp_steps.specs.declared.seats.Place.{Place}
use Rattle.pp_steps.specs.Calls.{TurnIf, TurnIn, TurnsIn, After, SendsHome, RunnerGoes, SeatedGoes, go_fault, told_by, step_seated, unseated, AreResting}
use Rattle.pp_steps.specs.Lines as lines
use Rattle.pp_steps.specs.Calls.{FlusherIs, FlusherGoes, flusher_told, flush_went}
use Rattle.pp_steps.specs.Parts.{Parts, IsSteps, IsSeated, IsFlushing, AreSeated}
use Rattle.pp_steps.specs.Ringing.{AreRings, nobody}
use Rattle.pp_steps.specs.Seats.{seated_at, seated_in, with_seat}
use Rattle.pp_steps.specs.Devices as devices
use Rattle.pp_steps.specs.Devices.{HostReads, HostWrites}
use Rattle.pp_steps.specs.Sites as sites
use Rattle.pp_steps.specs.Sites.{SameOut, StepGives}
use Rattle.pp_steps.specs.StepsOf.{step_of_flush, takes}
use Rattle.pp_steps.specs.Turning.{TurnsOver, FlushesOver, SameFlusher, IsAtRest, RestsFlusher, lent}
use Rattle.pp_steps.proofs.Halls.{seats_kept, seated_fact, steps_kept}
use Rattle.pp_steps.proofs.Seating.{each_set}

-- ---- a pool that is opened

-- ---- the one with a pass

-- The one with this turn of a place.
there_in : (o : Option (Place Seated)) (turn : ℕ) (s : Seated) → seated_in o turn ≡ Some s
    → o ≡ Some (record { turn = turn; seated = Some s })
there_in None turn s e = cc
there_in (Some p) turn s e = go (p.turn == turn) refl e
  where
    go : (b : Bool) → (p.turn == turn) ≡ b → (if b then p.seated else None) ≡ Some s
        → ◌≡◌ {A = Option (Place Seated)} (Some p) (Some (record { turn = turn; seated = Some s }))
    go true is f =
        let same : p.turn ≡ turn = grind (arith, nat_tests) in
        ap (λ (t : ℕ). Some (record { turn = t; seated = p.seated })) same
        ∙ ap (λ (q : Option Seated). Some (record { turn = turn; seated = q })) f
    go false is f = cc

-- The one with this pass has its place.
pub seated_there : (places : List (Place Seated)) (pass : Pass) (s : Seated) → seated_at places pass ≡ Some s
    → slice_get places pass.bell ≡ Some (record { turn = pass.turn; seated = Some s })
seated_there places pass s e = there_in (slice_get places pass.bell) pass.turn s e

get_set : (places : List (Place Seated)) (k : ℕ) (p q : Place Seated) → slice_get places k ≡ Some q
    → slice_get (slice_set places k p) k ≡ Some p
get_set [] k p q e = cc
get_set (r ∷ rs) zero p q e = refl
get_set (r ∷ rs) (suc k) p q e = get_set rs k p q e

at_turn : (turn : ℕ) (s : Seated) → seated_in (Some (record { turn = turn; seated = Some s })) turn ≡ Some s
at_turn turn s = go (turn == turn) (grind (arith, nat_tests))
  where
    go : (b : Bool) → b ≡ true → ◌≡◌ {A = Option Seated} (if b then Some s else None) (Some s)
    go true e = refl
    go false e = cc

-- It is there where it was given the place.
pub seated_new : (places : List (Place Seated)) (pass : Pass) (s left : Seated) → seated_at places pass ≡ Some s
    → seated_at (with_seat places pass left) pass ≡ Some left
seated_new places pass s left e =
    ap (λ (o : Option (Place Seated)). seated_in o pass.turn)
    (get_set places pass.bell (record { turn = pass.turn; seated = Some left }) (record { turn = pass.turn; seated = Some s })
    (seated_there places pass s e))
    ∙ at_turn pass.turn left

-- The place that the one with this pass has.
its_place : (xs ys : List (Place Seated)) (pass : Pass) (s : Seated) (p : Place Seated) → xs ≡ ys → seated_at ys pass ≡ Some s
    → p ≡ get_or xs pass.bell p → p ≡ record { turn = pass.turn; seated = Some s }
its_place xs ys pass s p same e is =
    is ∙ ap (λ (q : List (Place Seated)). get_or q pass.bell p) same
    ∙ get_or_from_slice_get ys pass.bell (record { turn = pass.turn; seated = Some s }) p (seated_there ys pass s e)

-- The one in it has the pass.
one_there : (xs ys : List (Place Seated)) (pass : Pass) (s t : Seated) (p : Place Seated) → xs ≡ ys
    → seated_at ys pass ≡ Some s → p ≡ get_or xs pass.bell p → p.seated ≡ Some t → seated_at ys pass ≡ Some t
one_there xs ys pass s t p same e is has =
    e ∙ sym (ap (λ (q : Place Seated). q.seated) (its_place xs ys pass s p same e is)) ∙ has

-- Somebody is in it.
pub is_there : (xs ys : List (Place Seated)) (pass : Pass) (s : Seated) (p : Place Seated) → xs ≡ ys
    → seated_at ys pass ≡ Some s → p ≡ get_or xs pass.bell p → p.seated ≡ None → ⊥
is_there xs ys pass s p same e is none =
    let some : p.seated ≡ Some s = ap (λ (q : Place Seated). q.seated) (its_place xs ys pass s p same e is) in
    cc

-- The places after a turn of it.
places_after : (xs ys : List (Place Seated)) (pass : Pass) (s left : Seated) (p : Place Seated) → xs ≡ ys
    → seated_at ys pass ≡ Some s → p ≡ get_or xs pass.bell p
    → slice_set xs pass.bell (record { turn = p.turn; seated = Some left }) ≡ with_seat ys pass left
places_after xs ys pass s left p same e is =
    ap (λ (q : List (Place Seated)). slice_set q pass.bell (record { turn = p.turn; seated = Some left })) same
    ∙ ap (λ (q : Place Seated). slice_set ys pass.bell (record { turn = q.turn; seated = Some left }))
    (its_place xs ys pass s p same e is)

-- What comes of a turn of the one in this place.
pub turns_there : (xs ys : List (Place Seated)) (pass : Pass) (s t left : Seated) (p : Place Seated) (h h' : halls.Parts)
    (argument : ℕ) (result : Result Came GoError) → xs ≡ ys → seated_at ys pass ≡ Some s → p ≡ get_or xs pass.bell p
    → p.seated ≡ Some t → TurnIf (go_fault t argument) t h argument result h' left
    → TurnIn (seated_at ys pass) ys pass h argument result h'
    (slice_set xs pass.bell (record { turn = p.turn; seated = Some left }))
turns_there xs ys pass s t left p h h' argument result same e is has turns =
    subst (λ (o : Option Seated). TurnIn o ys pass h argument result h'
    (slice_set xs pass.bell (record { turn = p.turn; seated = Some left })))
    (sym (one_there xs ys pass s t p same e is has))
    (record { left = left; turns = turns; new_is = places_after xs ys pass s left p same e is })

-- Each that runs is at rest after it.
pub rests_there : (xs ys : List (Place Seated)) (pass : Pass) (s t left : Seated) (p : Place Seated) → xs ≡ ys
    → seated_at ys pass ≡ Some s → p ≡ get_or xs pass.bell p → p.seated ≡ Some t → AreResting ys
    → ((chair : ℕ) → IsAtRest chair t → IsAtRest chair left)
    → AreResting (slice_set xs pass.bell (record { turn = p.turn; seated = Some left }))
rests_there xs ys pass s t left p same e is has all keeps =
    subst (λ (q : List (Place Seated)). AreResting q) (sym (places_after xs ys pass s left p same e is))
    (each_set IsAtRest ys pass.bell (record { turn = pass.turn; seated = Some left }) all
    (keeps pass.bell (seated_fact IsAtRest ys pass t all (one_there xs ys pass s t p same e is has))))

-- ---- a turn, with the pool

came_same : (a b : Came) → ◌≡◌ {A = Result Came GoError} (Ok a) (Ok b) → a ≡ b
came_same a b e = cc

why_same : (a b : GoError) → ◌≡◌ {A = Result Came GoError} (Err a) (Err b) → a ≡ b
why_same a b e = cc

made_or_held : (a : Came) (why : GoError) → ◌≡◌ {A = Result Came GoError} (Ok a) (Err why) → ⊥
made_or_held a why e = cc

-- What stays of the pool's own facts where a turn was made.
turned_seats : (h h' : halls.Parts) (seats : List (Place Seated)) (pass : Pass) (s left : Seated) → SameOut h h'
    → AreSeated h seats → seated_at seats pass ≡ Some s → AreResting (with_seat seats pass left)
    → AreSeated h' (with_seat seats pass left)
turned_seats h h' seats pass s left out all e rest =
    let kept = seats_kept h h' seats out.peaks (ap (λ p. p.there) out.posts) all in
    each_set (IsSeated h') seats pass.bell (record { turn = pass.turn; seated = Some left }) kept (record {
      rests = seated_fact IsAtRest (with_seat seats pass left) pass left rest (seated_new seats pass s left e);
      out = (seated_fact (IsSeated h') seats pass s kept e).out;
    })

with_left : (x : Parts) (h : halls.Parts) (pass : Pass) (s left : Seated) → SameOut x.hall h → IsSteps x
    → seated_at x.seats pass ≡ Some s → AreResting (with_seat x.seats pass left)
    → IsSteps (record x { hall = h; seats = with_seat x.seats pass left })
with_left x h pass s left out i e rest =
    let kept = steps_kept x h out i in
    record {
      seats = turned_seats x.hall h x.seats pass s left out i.seats e rest;
      flusher = kept.flusher;
      wide = length-set x.seats pass.bell (record { turn = pass.turn; seated = Some left }) ∙ kept.wide;
    }

-- A pool after a turn of one that runs, or where none was made.
pub turned_steps : (x : Parts) (h : halls.Parts) (seats : List (Place Seated)) (pass : Pass) (argument : ℕ)
    (result : Result Came GoError) → IsSteps x
    → TurnIn (seated_at x.seats pass) x.seats pass x.hall argument result h seats → AreResting seats → SameOut x.hall h
    → IsSteps (record x { hall = h; seats = seats })
turned_steps x h seats pass argument result i turn rest out = go (seated_at x.seats pass) refl turn
  where
    go : (o : Option Seated) → seated_at x.seats pass ≡ o → TurnIn o x.seats pass x.hall argument result h seats
        → IsSteps (record x { hall = h; seats = seats })
    go None e t =
        subst (λ (q : List (Place Seated)). IsSteps (record x { hall = h; seats = q })) (sym t.same) (steps_kept x h out i)
    go (Some s) e t =
        subst (λ (q : List (Place Seated)). IsSteps (record x { hall = h; seats = q })) (sym t.new_is)
        (with_left x h pass s t.left out i e (subst (λ (q : List (Place Seated)). AreResting q) t.new_is rest))

-- ---- what one that runs is answered

seat_goes : (f : Option GoError) (old mid : Parts) (pass : Pass) (s left : Seated) (argument : ℕ) (came : Came)
    (result : Result Went GoError) (rings : Rings) (new : Parts) → TurnIf f s old.hall argument (Ok came) mid.hall left
    → mid ≡ record old { hall = mid.hall; seats = with_seat old.seats pass left }
    → After mid pass left came.turned came.end came.told result rings new
    → SeatedGoes f old pass s argument result rings new
seat_goes (Some why) old mid pass s left argument came result rings new t is after = absurd (made_or_held came why t.result_is)
seat_goes None old mid pass s left argument came result rings new t is after = record {
  turned = came.turned;
  end = came.end;
  told = came.told;
  hall = mid.hall;
  left = left;
  turns = subst (λ (k : Came). TurnsOver (told_by s argument) old.hall argument k.turned k.end k.told mid.hall left)
      (sym (came_same came t.came t.result_is)) t.turns;
  after = subst (λ (x : Parts). After x pass left came.turned came.end came.told result rings new) is after;
}

-- After a turn that was made the one with this pass is there, and comes next to what was told.
pub came_there : (places places' : List (Place Seated)) (pass : Pass) (h h' : halls.Parts) (argument : ℕ) (came : Came)
    → TurnIn (seated_at places pass) places pass h argument (Ok came) h' places'
    → (s : Seated) × (seated_at places' pass ≡ Some s) × (came.step ≡ step_seated s)
came_there places places' pass h h' argument came turn = go (seated_at places pass) refl turn
  where
    next : (f : Option GoError) (s left : Seated) → TurnIf f s h argument (Ok came) h' left → came.step ≡ step_seated left
    next (Some why) s left t = absurd (made_or_held came why t.result_is)
    next None s left t = ap (λ (k : Came). k.step) (came_same came t.came t.result_is) ∙ t.step_is

    go : (o : Option Seated) → seated_at places pass ≡ o → TurnIn o places pass h argument (Ok came) h' places'
        → (s : Seated) × (seated_at places' pass ≡ Some s) × (came.step ≡ step_seated s)
    go None e t = absurd (made_or_held came go_error.BadPass t.result_is)
    go (Some s) e t = (
      t.left,
      ap (λ (q : List (Place Seated)). seated_at q pass) t.new_is ∙ seated_new places pass s t.left e,
      next (go_fault s argument) s t.left t.turns,
    )

-- The turn was made, and has led to this.
pub goes_on : (old mid : Parts) (pass : Pass) (argument : ℕ) (came : Came) (result : Result Went GoError) (rings : Rings)
    (new : Parts)
    → TurnIn (seated_at old.seats pass) old.seats pass old.hall argument (Ok came) mid.hall mid.seats
    → mid ≡ record old { hall = mid.hall; seats = mid.seats }
    → ((s : Seated) → seated_at mid.seats pass ≡ Some s → After mid pass s came.turned came.end came.told result rings new)
    → RunnerGoes (seated_at old.seats pass) old pass argument result rings new
goes_on old mid pass argument came result rings new turn is after = go (seated_at old.seats pass) refl turn
  where
    go : (o : Option Seated) → seated_at old.seats pass ≡ o → TurnIn o old.seats pass old.hall argument (Ok came) mid.hall mid.seats
        → RunnerGoes o old pass argument result rings new
    go None e t = absurd (made_or_held came go_error.BadPass t.result_is)
    go (Some s) e t =
        seat_goes (go_fault s argument) old mid pass s t.left argument came result rings new t.turns
        (is ∙ ap (λ (q : List (Place Seated)). record old { hall = mid.hall; seats = q }) t.new_is)
        (after t.left (ap (λ (q : List (Place Seated)). seated_at q pass) t.new_is ∙ seated_new old.seats pass s t.left e))

set_same : (places : List (Place Seated)) (k : ℕ) (p : Place Seated) → slice_get places k ≡ Some p
    → slice_set places k p ≡ places
set_same [] k p e = refl
set_same (q ∷ qs) zero p e = cc
set_same (q ∷ qs) (suc k) p e = ap (λ (ps : List (Place Seated)). q ∷ ps) (set_same qs k p e)

-- Where no turn was made, all is as it was, and this is why.
held : (old mid : Parts) (pass : Pass) (argument : ℕ) (why : GoError) (s : Seated)
    → TurnsIn old.seats pass s old.hall argument (Err why) mid.hall mid.seats → seated_at old.seats pass ≡ Some s
    → mid ≡ record old { hall = mid.hall; seats = mid.seats } → (go_fault s argument ≡ Some why) × (mid ≡ old)
held old mid pass argument why s t there is = go (go_fault s argument) t.turns
  where
    go : (f : Option GoError) → TurnIf f s old.hall argument (Err why) mid.hall t.left → (f ≡ Some why) × (mid ≡ old)
    go None u = absurd (made_or_held u.came why (sym u.result_is))
    go (Some other) u =
        let seats : mid.seats ≡ old.seats =
        t.new_is ∙ ap (λ (q : Seated). with_seat old.seats pass q) u.same
        ∙ set_same old.seats pass.bell (record { turn = pass.turn; seated = Some s }) (seated_there old.seats pass s there) in (
          sym (ap (λ (w : GoError). Some w) (why_same why other u.result_is)),
          is ∙ ap (λ (h : halls.Parts). record old { hall = h; seats = mid.seats }) u.hall
              ∙ ap (λ (q : List (Place Seated)). record old { seats = q }) seats,
        )

-- Nobody runs with this pass.
pub goes_not : (old : Parts) (pass : Pass) (argument : ℕ) (why : GoError) (rings : Rings) → seated_at old.seats pass ≡ None
    → why ≡ unseated old pass → rings ≡ nobody → RunnerGoes (seated_at old.seats pass) old pass argument (Err why) rings old
goes_not old pass argument why rings e why_is none =
    subst (λ (o : Option Seated). RunnerGoes o old pass argument (Err why) rings old) (sym e)
    (record { result_is = ap (λ (w : GoError). Err w) why_is; rings_are = none; same = refl })

-- Its step can't be made with this argument.
pub goes_held : (old mid : Parts) (pass : Pass) (argument : ℕ) (s : Seated) (why : GoError) (rings : Rings)
    → seated_at old.seats pass ≡ Some s
    → TurnIn (seated_at old.seats pass) old.seats pass old.hall argument (Err why) mid.hall mid.seats
    → mid ≡ record old { hall = mid.hall; seats = mid.seats } → rings ≡ nobody
    → RunnerGoes (seated_at old.seats pass) old pass argument (Err why) rings mid
goes_held old mid pass argument s why rings e turn is none =
    let t = subst (λ (o : Option Seated). TurnIn o old.seats pass old.hall argument (Err why) mid.hall mid.seats) e turn in
    let h = held old mid pass argument why s t e is in
    subst (λ (o : Option Seated). RunnerGoes o old pass argument (Err why) rings mid) (sym e)
    (subst (λ (f : Option GoError). SeatedGoes f old pass s argument (Err why) rings mid) (sym h.0)
    (record { result_is = refl; rings_are = none; same = h.1 }))

-- The plan has ended, and its worker has come home.
pub after_end : (mid new : Parts) (pass : Pass) (s : Seated) (turned : Turned) (ends : Option End) (end : End) (told both : Told)
    (rings : Rings) → turned ≡ turned_as.Done → ends ≡ Some end → SendsHome mid pass s told both new
    → AreRings new.line both rings → After mid pass s turned ends told (Ok (went.Over end)) rings new
after_end mid new pass s turned ends end told both rings done ended home rung =
    subst (λ (t : Turned). After mid pass s t ends told (Ok (went.Over end)) rings new) (sym done)
    (subst (λ (o : Option End). After mid pass s turned_as.Done o told (Ok (went.Over end)) rings new) (sym ended) (
      refl,
      record {
        both = both;
        home = home;
        rings_are =
            subst (λ (l : lines.Parts). AreRings l both rings) (ap (λ (x : Parts). x.line) home.new_is) rung;
      },
    ))

-- ---- the flusher

-- A turn by its parts.
pub flushes_over : (f first last f' : Flusher sites.Parts devices.Parts) (h h' : halls.Parts) (turned : Turned) (told : Told)
    → SameFlusher f first → first.site ≡ lent h None
    → FlushTurnIs StepGives HostReads HostWrites (λ (d : devices.Parts). d.calls) (λ (d : devices.Parts). d.failures) first turned last
    → last.site.hall ≡ Some h' → last.site.told ≡ told → SameFlusher last f' → FlushesOver f h turned told h' f'
flushes_over f first last f' h h' turned told begins lent_is turn hall told_is rest = record {
  first = first;
  begins = begins;
  lent_is = lent_is;
  last = last;
  turn = turn;
  hall = hall;
  told_is = told_is;
  rest = rest;
}

-- What the turn of the one with the same parts does.
pub over_same : (f g f' : Flusher sites.Parts devices.Parts) (h h' : halls.Parts) (turned : Turned) (told : Told)
    → SameFlusher f g → FlushesOver g h turned told h' f' → FlushesOver f h turned told h' f'
over_same f g f' h h' turned told s t = record {
  first = t.first;
  begins = record {
    device = t.begins.device ∙ s.device;
    flushing = t.begins.flushing ∙ s.flushing;
    ended = t.begins.ended ∙ s.ended;
    failed = t.begins.failed ∙ s.failed;
    from = t.begins.from ∙ s.from;
  };
  lent_is = t.lent_is;
  last = t.last;
  turn = t.turn;
  hall = t.hall;
  told_is = t.told_is;
  rest = t.rest;
}

-- The flusher's place is empty, and a turn was made over the hall.
pub flushed_steps : (x : Parts) (h : halls.Parts) (o : Option AwayFlusher) → SameOut x.hall h → IsSteps x → o ≡ None
    → IsSteps (record x { hall = h; flusher = o })
flushed_steps x h o out i none =
    let kept = steps_kept x h out i in
    record {
      seats = kept.seats;
      flusher = subst (λ (p : Option AwayFlusher). IfSome p (IsFlushing h)) (sym none) tt;
      wide = kept.wide;
    }

-- The flusher that is out is at rest, and not at home.
pub flushing : (x : Parts) (f : AwayFlusher) → IsSteps x → x.flusher ≡ Some f → IsFlushing x.hall f
flushing x f i e = subst (λ (o : Option AwayFlusher). IfSome o (IsFlushing x.hall)) e i.flusher

-- After its turn it can have its place again.
pub stays_away : (x : Parts) (f left : AwayFlusher) (h : halls.Parts) → SameOut x.hall h → IsSteps x
    → x.flusher ≡ Some f → RestsFlusher left.flusher → IsFlushing h left
stays_away x f left h out i e rests = record {
  rests = rests;
  away = ap (λ p. p.is_flusher_home) out.posts ∙ (flushing x f i e).away;
}

-- What the flusher is answered that has made its turn.
pub flushes_on : (old : Parts) (f left : AwayFlusher) (argument : ℕ) (turned : Turned) (told : Told) (h : halls.Parts)
    (could_flush : Bool) (result : Result Went GoError) (rings : Rings) (new : Parts) → old.flusher ≡ Some f
    → takes (step_of_flush f.flusher.flushing) argument ≡ true
    → FlushesOver (flusher_told f argument) old.hall turned told h left.flusher
    → new ≡ record old { hall = h; flusher = Some left } → AreRings old.line told rings
    → ((s : State) → StandsFor old.hall.seating.vault s → could_flush ≡ is_wanted 0 s)
    → result ≡ flush_went turned (step_of_flush left.flusher.flushing) could_flush
    → FlusherIs old.flusher old argument result rings new
flushes_on old f left argument turned told h could_flush result rings new out may turns is told_are could result_is =
    subst (λ (o : Option AwayFlusher). FlusherIs o old argument result rings new) (sym out)
    (subst (λ (b : Bool). FlusherGoes b old f argument result rings new) (sym may) (record {
      turned = turned;
      told = told;
      hall = h;
      left = left;
      turns = turns;
      new_is = is;
      rings_are = told_are;
      could_flush = could_flush;
      could = could;
      result_is = result_is;
    }))
