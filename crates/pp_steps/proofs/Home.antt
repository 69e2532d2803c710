-- Who is sent out and comes home, and who is seated with other things in hand.
use Rattle.std.proofs.Common.{◌≡◌, ◌∙◌, ℕ, zero, suc, ◌+◌, Bool, true, false, List, [], ◌∷◌, ◌++◌, length, Option, Some, None, Result, Ok, Err, inl, inr, ◌≤◌, refl, sym, ap, subst}
use Rattle.std.specs.Prelude.{IfSome, is_some, not, ◌&&◌, ◌==◌, replicate, slice_get, slice_set, slice_index_or}
use Rattle.std.proofs.lemmas.Bool.{false≢true}
use Rattle.std.proofs.lemmas.List.{length-replicate}
use Rattle.std.proofs.Math.ListN.{length-set}
use Rattle.pp_vault.specs.declared.stage.Stage.{Stage}
use Rattle.pp_vault.specs.declared.stage.Stage.TheVariants.{Idle, In, Out, Back, Leaving}
use Rattle.pp_vault.specs.declared.tokens.Chair.{Chair}
use Rattle.pp_vault.specs.declared.stage.Hand.{Hand}
use Rattle.pp_vault.specs.Stages.{is_chair, stage_worker}
use Rattle.pp_settings.specs.Settings.{Configuration}
use Rattle.pp_hall.specs.declared.policy.Policy.{Policy}
use Rattle.pp_hall.specs.declared.told.Told.{Told}
use Rattle.pp_hall.specs.Halls as halls
use Rattle.pp_hall.specs.Calls as hall
use Rattle.pp_steps.specs.declared.error.GoError.TheVariants as go_error
use Rattle.pp_steps.specs.declared.error.PassError.{PassError}
use Rattle.pp_steps.specs.declared.line.Waiter.{Waiter}
use Rattle.pp_steps.specs.declared.pass.Pass.{Pass}
use Rattle.pp_steps.specs.declared.plans.KeptPlan.{KeptPlan}
use Rattle.pp_steps.specs.declared.rings.Rings.{Rings}
use Rattle.pp_steps.specs.declared.seats.Place.{Place}
use Rattle.pp_steps.specs.declared.seated.Seated.{Seated}
use Rattle.pp_steps.specs.Bytes.{Brings, BringsIf, reads, errand_at}
use Rattle.pp_steps.specs.Calls.{StartOf, SeatsPost, SendsHome, LeaveOf, RunnerLeaves, ChairLeaves}
use Rattle.pp_steps.specs.Lines as lines
use Rattle.pp_steps.specs.Lines.{waiter_at}
use Rattle.pp_steps.specs.Parts.{Parts, IsSteps, IsSeated, AreSeated, is_flushers}
use Rattle.pp_steps.specs.Ringing.{AreRings}
use Rattle.pp_steps.specs.Seats.{IsFree, who, seated_at, with_seat}
use Rattle.pp_steps.specs.Sites.{AreBoth, nobody_told}
use Rattle.pp_steps.specs.Turning.{IsAtRest}
use Rattle.pp_steps.proofs.Halls.{first_is_home, on_flusher, parked_flusher, parked_length, parked_seats, seated_fact, started_seats}
use Rattle.pp_steps.proofs.Places.{each_front, last_set, none_seated, place_there}
use Rattle.pp_steps.proofs.Seating.{each_by, each_set, out, out_begun, out_begun_self, out_came, out_stayed}

-- ---- a pool is opened

-- Nobody runs yet, and the flusher is home.
pub opened_steps : (c : Configuration) (kept : Policy) (h : halls.Parts) (plans : List KeptPlan) (line : lines.Parts)
    (seats : List (Place Seated)) → hall.IsFresh c kept h
    → seats ≡ replicate c.workers (record { turn = 0; seated = None })
    → IsSteps (record {
      hall = h;
      plans = plans;
      line = line;
      seats = seats;
      flushed = 0;
      flusher = None;
    })
opened_steps c kept h plans line seats fresh free = record {
  seats =
      subst (λ (ps : List (Place Seated)). AreSeated h ps) (sym free) (none_seated (IsSeated h) c.workers);
  flusher = tt;
  wide =
      ap length free ∙ length-replicate c.workers _
      ∙ sym (ap (λ s. length s.peaks) fresh.seating ∙ length-replicate c.workers _);
}

-- ---- one starts

home_not_out : (peaks : List (Option ℕ)) (k : ℕ) → slice_get peaks k ≡ Some None
    → is_some (slice_index_or peaks k None) ≡ false
home_not_out [] k e = cc
home_not_out (x ∷ xs) zero e = go x e
  where
    go : (x : Option ℕ) → Some x ≡ Some None → is_some x ≡ false
    go None e = refl
    go (Some p) e = cc
home_not_out (x ∷ xs) (suc k) e = home_not_out xs k e

-- A chair that is home isn't out.
not_out : (h : halls.Parts) (chair : ℕ) → slice_get h.seating.peaks chair ≡ Some None
    → hall.is_out h (Some chair) ≡ true → ⊥
not_out h chair home out =
    let away : is_some (slice_index_or h.seating.peaks chair None) ≡ false = home_not_out h.seating.peaks chair home in
    false≢true (subst (λ (b : Bool). (b && not (slice_index_or h.posts.there chair true)) ≡ true) away out)

-- The place of a chair that is home is free.
free_chair : (h : halls.Parts) (seats : List (Place Seated)) (chair : ℕ) → AreSeated h seats
    → length seats ≡ length h.seating.peaks → slice_get h.seating.peaks chair ≡ Some None → IsFree seats chair
free_chair h seats chair all wide home =
    let p = place_there h.seating.peaks seats chair wide home in
    record {
      place = p.0;
      there = p.1;
      free = go p.0.seated (subst (λ (o : Option (Place Seated)). IfSome (who o) (IsSeated h chair)) p.1 (all chair));
    }
  where
    go : (o : Option Seated) → IfSome o (IsSeated h chair) → o ≡ None
    go None i = refl
    go (Some s) i = absurd (not_out h chair home i.out)

-- The chair on which one starts was home.
starts_home : (h : halls.Parts) (ticket : ℕ) (worker : Option ℕ) (told : Told) (after : halls.Parts)
    → (s : hall.Starts h ticket worker told after) → slice_get h.seating.peaks s.chair ≡ Some None
starts_home h ticket worker told after s = first_is_home h.seating.peaks s.chair s.home

-- What was out is out after another has started.
started_out : (h h' : halls.Parts) (ticket : ℕ) (worker : Option ℕ) (told : Told) → (s : hall.Starts h ticket worker told h')
    → (k : ℕ) → hall.is_out h (Some k) ≡ true → hall.is_out h' (Some k) ≡ true
started_out h h' ticket worker told s k e =
    subst (λ (ps : List (Option ℕ)). out ps h'.posts.there k ≡ true)
    (sym (ap (λ (q : halls.Parts). q.seating.peaks) s.settles.rest))
    (subst (λ (ts : List Bool). out (slice_set h.seating.peaks s.chair (Some s.peak)) ts k ≡ true)
    (sym (ap (λ (q : halls.Parts). q.posts.there) s.settles.rest))
    (out_begun h.seating.peaks h.posts.there s.chair s.peak k e))

-- And after another came home, or came and stays out.
parked_out : (h h' : halls.Parts) (at : Stage) (told : Told) → (p : hall.Parks h at told h') → (k : ℕ) → (k ≡ p.chair → ⊥)
    → hall.is_out h (Some k) ≡ true → hall.is_out h' (Some k) ≡ true
parked_out h h' at told p k n o = go p.idle p.settles.rest
  where
    go : (idle : Bool) → h' ≡ record (hall.came h p.chair idle) { waiters = h'.waiters } → hall.is_out h' (Some k) ≡ true
    go true e =
        subst (λ (q : halls.Parts). hall.is_out q (Some k) ≡ true) (sym e)
        (out_came h.seating.peaks h.posts.there p.chair k n o)
    go false e =
        subst (λ (q : halls.Parts). hall.is_out q (Some k) ≡ true) (sym e)
        (out_stayed h.seating.peaks h.posts.there p.chair k n o)

-- The place of the chair is free on which one starts.
pub start_free : (x : Parts) (ticket : ℕ) (worker : Option ℕ) (told : Told) (after : halls.Parts) → IsSteps x
    → (s : hall.Starts x.hall ticket worker told after) → IsFree x.seats s.chair
start_free x ticket worker told after i s =
    free_chair x.hall x.seats s.chair i.seats i.wide (starts_home x.hall ticket worker told after s)

-- One started on the chair of this pass, and waits no more.
pub started_steps : (x : Parts) (ticket : ℕ) (worker : Option ℕ) (told : Told) (after : halls.Parts) (line : lines.Parts)
    (pass : Pass) (one : Seated) → IsSteps x → halls.IsHall x.hall → (s : hall.Starts x.hall ticket worker told after)
    → s.chair ≡ pass.bell → IsAtRest pass.bell one
    → IsSteps (record x { hall = after; line = line; seats = with_seat x.seats pass one })
started_steps x ticket worker told after line pass one i is s same rests = record {
  seats =
      subst (λ (k : ℕ). AreSeated after (slice_set x.seats k (record { turn = pass.turn; seated = Some one }))) same
      (started_seats x.hall after ticket worker told pass.turn one x.seats is s
      (subst (λ (k : ℕ). IsAtRest k one) (sym same) rests) i.seats);
  flusher = on_flusher x.hall after (ap (λ (q : halls.Parts). q.posts.is_flusher_home) s.settles.rest) x i.flusher;
  wide =
      length-set x.seats pass.bell (record { turn = pass.turn; seated = Some one }) ∙ i.wide
      ∙ sym (ap (λ (q : halls.Parts). length q.seating.peaks) s.settles.rest
      ∙ length-set x.hall.seating.peaks s.chair (Some s.peak));
}

-- The chair on which one starts is out then.
pub starts_out : (h : halls.Parts) (ticket : ℕ) (at : Stage) (told : Told) (after : halls.Parts) → halls.IsHall h
    → hall.Starts h ticket (stage_worker at) told after → hall.is_out after (stage_worker at) ≡ true
starts_out h ticket at told after is s =
    subst (λ (w : Option ℕ). hall.is_out after w ≡ true) (sym s.is)
    (subst (λ (ps : List (Option ℕ)). out ps after.posts.there s.chair ≡ true)
    (sym (ap (λ (q : halls.Parts). q.seating.peaks) s.settles.rest))
    (subst (λ (ts : List Bool). out (slice_set h.seating.peaks s.chair (Some s.peak)) ts s.chair ≡ true)
    (sym (ap (λ (q : halls.Parts). q.posts.there) s.settles.rest))
    (out_begun_self h.seating.peaks h.posts.there s.chair s.peak (starts_home h ticket (stage_worker at) told after s)
    (is.kept.posts s.chair (starts_home h ticket (stage_worker at) told after s)))))

-- One started, but its worker was brought back, and nobody was seated: it waits no more.
pub broken_steps : (x : Parts) (ticket : ℕ) (at : Stage) (told more : Told) (between after : halls.Parts) (line : lines.Parts)
    → IsSteps x → (s : hall.Starts x.hall ticket (stage_worker at) told between) → hall.Parks between at more after
    → IsSteps (record x { hall = after; line = line })
broken_steps x ticket at told more between after line i s k = record {
  seats =
      each_by (IsSeated x.hall) (IsSeated after) x.seats
      (λ j one was. record {
        rests = was.rests;
        out =
            parked_out between after at more k j
            (λ same. not_out x.hall s.chair (starts_home x.hall ticket (stage_worker at) told between s)
            (subst (λ (w : ℕ). hall.is_out x.hall (Some w) ≡ true) (same ∙ chairs) was.out))
            (started_out x.hall between ticket (stage_worker at) told s j was.out);
      }) i.seats;
  flusher =
      on_flusher x.hall after (parked_flusher between after at more k
      ∙ ap (λ (q : halls.Parts). q.posts.is_flusher_home) s.settles.rest) x i.flusher;
  wide =
      i.wide
      ∙ sym (parked_length between after at more k
      ∙ ap (λ (q : halls.Parts). length q.seating.peaks) s.settles.rest
      ∙ length-set x.hall.seating.peaks s.chair (Some s.peak));
}
  where
    chairs : k.chair ≡ s.chair
    chairs =
        let one : stage_worker at ≡ Some k.chair = k.is in
        let other : stage_worker at ≡ Some s.chair = s.is in
        cc

-- The one that waited has been taken out of the line.
pub line_taken : (l l' : lines.Parts) (pass : Pass) (waiter : Waiter) (result : Option Waiter) → result ≡ waiter_at l pass
    → waiter_at l pass ≡ Some waiter → IfSome result (λ _. l' ≡ lines.without l pass) → l' ≡ lines.without l pass
line_taken l l' pass waiter result is waits taken =
    subst (λ (o : Option Waiter). IfSome o (λ _. l' ≡ lines.without l pass)) (is ∙ waits) taken

-- A stage that isn't an idle worker's.
pub not_idle : (at : Stage) → ((chair : Chair) → at ≡ Idle chair → ⊥) → is_chair at ≡ false
not_idle (Idle chair) n = absurd (n chair refl)
not_idle (In session) n = refl
not_idle (Out errand) n = refl
not_idle (Back returned) n = refl
not_idle (Leaving leaver) n = refl

-- So one that waits is answered: it has the chair's worker, or the worker was brought back.
pub starts_seated : (x : Parts) (pass next : Pass) (waiter : Waiter) (hand : Hand) (told : Told) (after : halls.Parts)
    (seats : List (Place Seated)) (rings : Rings) (y : Parts) → waiter_at x.line pass ≡ Some waiter
    → hall.Starts x.hall waiter.ticket (stage_worker hand.stage) told after → is_chair hand.stage ≡ true
    → stage_worker hand.stage ≡ Some next.bell → SeatsPost x.seats hand waiter.plan next seats
    → y ≡ record x { hall = after; line = lines.without x.line pass; seats = seats }
    → AreRings (lines.without x.line pass) told rings → StartOf (waiter_at x.line pass) x pass (Ok next) rings y
starts_seated x pass next waiter hand told after seats rings y waits starts idle own seat is told_is =
    subst (λ (o : Option Waiter). StartOf o x pass (Ok next) rings y) (sym waits) (record {
      after = after;
      told = told;
      starts = subst (λ (w : Option ℕ). hall.Starts x.hall waiter.ticket w told after) own starts;
      fresh = seat.fresh;
      seated = seat.one;
      idle = ap (λ (h : Hand). is_chair h.stage) seat.hand_is ∙ idle;
      plan = seat.plan_is;
      new_is =
          is
          ∙ ap (λ (ps : List (Place Seated)). record x { hall = after; line = lines.without x.line pass; seats = ps }) seat.new_is;
      rings_are = told_is;
    })

pub starts_broken : (x : Parts) (pass : Pass) (waiter : Waiter) (at : Stage) (told more both : Told)
    (between after : halls.Parts) (rings : Rings) (y : Parts) → waiter_at x.line pass ≡ Some waiter
    → is_chair at ≡ false → hall.Starts x.hall waiter.ticket (stage_worker at) told between → hall.Parks between at more after
    → AreBoth told more both → y ≡ record x { hall = after; line = lines.without x.line pass }
    → AreRings (lines.without x.line pass) both rings
    → StartOf (waiter_at x.line pass) x pass (Err go_error.Broken) rings y
starts_broken x pass waiter at told more both between after rings y waits busy starts parks either is told_is =
    subst (λ (o : Option Waiter). StartOf o x pass (Err go_error.Broken) rings y) (sym waits) (record {
      at = at;
      busy = busy;
      between = between;
      told = told;
      starts = starts;
      after = after;
      more = more;
      parks = parks;
      both = both;
      either = either;
      new_is = is;
      rings_are = told_is;
    })

-- ---- one gives its chair back

-- One that runs, and hasn't taken its plan, has left.
pub chair_leaves : (x : Parts) (pass : Pass) (s : Seated) (both : Told) (rings : Rings) (result : Result Rings PassError)
    (y : Parts) → waiter_at x.line pass ≡ None → is_flushers x pass ≡ false → seated_at x.seats pass ≡ Some s
    → is_chair s.worker.hand.stage ≡ true → SendsHome x pass s nobody_told both y → AreRings x.line both rings
    → result ≡ Ok rings → LeaveOf (waiter_at x.line pass) (is_flushers x pass) x pass result y
chair_leaves x pass s both rings result y waits flushers there idle home told is =
    subst (λ (o : Option Waiter). LeaveOf o (is_flushers x pass) x pass result y) (sym waits)
    (subst (λ (b : Bool). LeaveOf None b x pass result y) (sym flushers)
    (subst (λ (o : Option Seated). RunnerLeaves o x pass result y) (sym there)
    (subst (λ (b : Bool). ChairLeaves b x pass s result y) (sym idle)
    (record { rings = rings; result_is = is; home = record { both = both; home = home; rings_are = told } }))))

-- ---- one has other things in hand

-- The one with this pass has changed, but is the worker of the same chair, and has its site.
pub changed_steps : (x : Parts) (pass : Pass) (s t : Seated) → IsSteps x → seated_at x.seats pass ≡ Some s
    → t.worker.site ≡ s.worker.site → stage_worker t.worker.hand.stage ≡ stage_worker s.worker.hand.stage
    → IsSteps (record x { seats = with_seat x.seats pass t })
changed_steps x pass s t i e site own =
    let was : IsSeated x.hall pass.bell s = seated_fact (IsSeated x.hall) x.seats pass s i.seats e in
    let now : IsSeated x.hall pass.bell t = record {
      rests = record {
        hall = ap (λ p. p.hall) site ∙ was.rests.hall;
        told = ap (λ p. p.told) site ∙ was.rests.told;
        own = own ∙ was.rests.own;
      };
      out = was.out;
    } in
    record {
      seats =
          each_set (IsSeated x.hall) x.seats pass.bell (record { turn = pass.turn; seated = Some t }) i.seats now;
      flusher = i.flusher;
      wide = length-set x.seats pass.bell (record { turn = pass.turn; seated = Some t }) ∙ i.wide;
    }

-- It has bytes that its device has read: its site stays, and its tokens.
pub brings_same : (s : Seated) (bytes : List ℕ) (result : Result (Unit {0}) PassError) (t : Seated)
    → Brings s bytes result t → (t.worker.site ≡ s.worker.site) × (t.worker.hand ≡ s.worker.hand)
brings_same s bytes result t b =
    go (reads (errand_at s.worker.hand.stage)) (length bytes == length s.worker.device.image) b
  where
    go : (reading fits : Bool) → BringsIf reading fits s bytes result t
        → (t.worker.site ≡ s.worker.site) × (t.worker.hand ≡ s.worker.hand)
    go false fits b = (ap (λ (q : Seated). q.worker.site) b.1, ap (λ (q : Seated). q.worker.hand) b.1)
    go true false b = (ap (λ (q : Seated). q.worker.site) b.1, ap (λ (q : Seated). q.worker.hand) b.1)
    go true true b = (ap (λ (q : Seated). q.worker.site) b.1, ap (λ (q : Seated). q.worker.hand) b.1)

pub brought_steps : (x : Parts) (pass : Pass) (s t : Seated) (bytes : List ℕ) (result : Result (Unit {0}) PassError)
    → IsSteps x → seated_at x.seats pass ≡ Some s → Brings s bytes result t
    → IsSteps (record x { seats = with_seat x.seats pass t })
brought_steps x pass s t bytes result i e b =
    let same : (t.worker.site ≡ s.worker.site) × (t.worker.hand ≡ s.worker.hand) = brings_same s bytes result t b in
    changed_steps x pass s t i e same.0 (ap (λ h. stage_worker h.stage) same.1)

-- ---- all come home

-- A worker that comes home changes nothing in the vault.
pub parked_vault : (h h' : halls.Parts) (at : Stage) (told : Told) → hall.Parks h at told h'
    → h'.seating.vault ≡ h.seating.vault
parked_vault h h' at told p = go p.idle p.settles.rest
  where
    go : (idle : Bool) → h' ≡ record (hall.came h p.chair idle) { waiters = h'.waiters }
        → h'.seating.vault ≡ h.seating.vault
    go true e = ap (λ (q : halls.Parts). q.seating.vault) e
    go false e = ap (λ (q : halls.Parts). q.seating.vault) e

-- The last of those that are seated came home: the others are seated as before.
pub last_parked : (h h' : halls.Parts) (at : Stage) (told : Told) (front : List (Place Seated)) (p : Place Seated)
    → (k : hall.Parks h at told h') → k.chair ≡ length front → AreSeated h (front ++ p ∷ []) → AreSeated h' front
last_parked h h' at told front p k is all =
    each_front (IsSeated h') front (record { turn = 0; seated = None } ∷ [])
    (subst (λ (ps : List (Place Seated)). AreSeated h' ps) (last_set front p (record { turn = 0; seated = None }))
    (parked_seats h h' at told (length front) 0 (front ++ p ∷ []) k is all))

-- Nobody was in the last place: the others are seated as before.
pub last_empty : (h : halls.Parts) (front : List (Place Seated)) (p : Place Seated) → AreSeated h (front ++ p ∷ [])
    → AreSeated h front
last_empty h front p all = each_front (IsSeated h) front (p ∷ []) all
