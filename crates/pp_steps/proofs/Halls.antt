-- What stays of a pool's own facts as its hall changes.
use Rattle.std.proofs.Common.{◌≡◌, ◌∙◌, ℕ, ◌<◌, Bool, true, false, cond, one-add, List, [], ◌∷◌, length, Option, Some, None, refl, sym, ap, subst, arith}
use Rattle.std.specs.Prelude.{IfSome, ◌==◌, if◌then◌else◌, is_none, position, nat_lt, slice_get, slice_set}
use Rattle.std.specs.List.{position_or_len}
use Rattle.std.proofs.lemmas.Bool.Decides.{nat_tests}
use Rattle.std.proofs.Math.ListN.{length-set}
use Rattle.pp_vault.specs.declared.stage.Stage.{Stage}
use Rattle.pp_hall.specs.declared.told.Told.{Told}
use Rattle.pp_hall.specs.Halls as halls
use Rattle.pp_hall.specs.Calls as hall
use Rattle.pp_steps.specs.declared.seats.Place.{Place}
use Rattle.pp_steps.specs.declared.seated.Seated.{Seated}
use Rattle.pp_steps.specs.Parts.{Parts, IsSteps, IsSeated, IsFlushing, AreSeated}
use Rattle.pp_steps.specs.declared.pass.Pass.{Pass}
use Rattle.pp_steps.specs.Seats.{EachSeated, seated_at, seated_in, who, without}
use Rattle.pp_steps.specs.Sites.{SameOut}
use Rattle.pp_steps.specs.Turning.{IsAtRest}
use Rattle.pp_steps.proofs.Seating.{each_by, each_set, each_but, out, out_begun, out_begun_self, out_came, out_stayed}

-- ---- the same are out

out_same : (peaks peaks' : List (Option ℕ)) (there there' : List Bool) (k : ℕ) → peaks' ≡ peaks → there' ≡ there
    → out peaks there k ≡ true → out peaks' there' k ≡ true
out_same peaks peaks' there there' k p t e =
    subst (λ (ps : List (Option ℕ)). out ps there' k ≡ true) (sym p)
    (subst (λ (ts : List Bool). out peaks ts k ≡ true) (sym t) e)

-- Where the same chairs are out, and the same workers are there, the same are seated.
pub seats_kept : (h h' : halls.Parts) (seats : List (Place Seated)) → h'.seating.peaks ≡ h.seating.peaks
    → h'.posts.there ≡ h.posts.there → AreSeated h seats → AreSeated h' seats
seats_kept h h' seats p t all =
    each_by (IsSeated h) (IsSeated h') seats
    (λ k s i. record {
      rests = i.rests;
      out = out_same h.seating.peaks h'.seating.peaks h.posts.there h'.posts.there k p t i.out;
    }) all

pub on_flusher : (h h' : halls.Parts) → h'.posts.is_flusher_home ≡ h.posts.is_flusher_home → (x : Parts)
    → IfSome x.flusher (IsFlushing h) → IfSome x.flusher (IsFlushing h')
on_flusher h h' e x i = go x.flusher i
  where
    go : (o : Option _) → IfSome o (IsFlushing h) → IfSome o (IsFlushing h')
    go None i = i
    go (Some f) i = record { rests = i.rests; away = e ∙ i.away }

-- With another hall in which the same are out.
pub steps_kept : (x : Parts) (h : halls.Parts) → SameOut x.hall h → IsSteps x → IsSteps (record x { hall = h })
steps_kept x h s i = record {
  seats = seats_kept x.hall h x.seats s.peaks (ap (λ p. p.there) s.posts) i.seats;
  flusher = on_flusher x.hall h (ap (λ p. p.is_flusher_home) s.posts) x i.flusher;
  wide = i.wide ∙ ap length (sym s.peaks);
}

-- ---- one comes home

-- A worker came home from this chair, or came and stays out: the others are seated as before.
pub parked_seats : (h h' : halls.Parts) (at : Stage) (told : Told) (chair turn : ℕ) (seats : List (Place Seated))
    → (p : hall.Parks h at told h') → p.chair ≡ chair → AreSeated h seats
    → AreSeated h' (slice_set seats chair (record { turn = turn; seated = None }))
parked_seats h h' at told chair turn seats p is all =
    each_but (IsSeated h) (IsSeated h') seats chair turn
    (λ k s n i. record {
      rests = i.rests;
      out = go p.idle k (λ e. n (e ∙ is)) p.settles.rest i.out;
    }) all
  where
    go : (idle : Bool) (k : ℕ) → (k ≡ p.chair → ⊥) → h' ≡ record (hall.came h p.chair idle) { waiters = h'.waiters }
        → out h.seating.peaks h.posts.there k ≡ true → out h'.seating.peaks h'.posts.there k ≡ true
    go true k n e o =
        out_same (slice_set h.seating.peaks p.chair None) h'.seating.peaks (slice_set h.posts.there p.chair true) h'.posts.there k
        (ap (λ (q : halls.Parts). q.seating.peaks) e) (ap (λ (q : halls.Parts). q.posts.there) e)
        (out_came h.seating.peaks h.posts.there p.chair k n o)
    go false k n e o =
        out_same h.seating.peaks h'.seating.peaks (slice_set h.posts.there p.chair true) h'.posts.there k
        (ap (λ (q : halls.Parts). q.seating.peaks) e) (ap (λ (q : halls.Parts). q.posts.there) e)
        (out_stayed h.seating.peaks h.posts.there p.chair k n o)

-- ---- one starts

at_first : (peaks : List (Option ℕ)) → position_or_len is_none peaks < length peaks
    → slice_get peaks (position_or_len is_none peaks) ≡ Some None
at_first [] le = absurd (omega arith)
at_first (None ∷ ps) le = refl
at_first (Some p ∷ ps) le =
    let less : position_or_len is_none ps < length ps = omega arith in
    rw one-add (at_first ps less)

-- The first chair that is home is home.
pub first_is_home : (peaks : List (Option ℕ)) (w : ℕ) → position is_none peaks ≡ Some w → slice_get peaks w ≡ Some None
first_is_home peaks w e = go (nat_lt (position_or_len is_none peaks) (length peaks)) refl e
  where
    go : (b : Bool) → nat_lt (position_or_len is_none peaks) (length peaks) ≡ b
        → ◌≡◌ {A = Option ℕ} (cond b (Some (position_or_len is_none peaks)) None) (Some w) → slice_get peaks w ≡ Some None
    go true is f =
        let same : position_or_len is_none peaks ≡ w = cc in
        ap (slice_get peaks) (sym same) ∙ at_first peaks (grind (arith, nat_tests))
    go false is f = cc

-- One started on this chair, and has its place: all are seated.
pub started_seats : (h h' : halls.Parts) (ticket : ℕ) (worker : Option ℕ) (told : Told) (turn : ℕ) (one : Seated)
    (seats : List (Place Seated)) → halls.IsHall h → (s : hall.Starts h ticket worker told h') → IsAtRest s.chair one
    → AreSeated h seats → AreSeated h' (slice_set seats s.chair (record { turn = turn; seated = Some one }))
started_seats h h' ticket worker told turn one seats is s rests all =
    each_set (IsSeated h') seats s.chair (record { turn = turn; seated = Some one }) (each_by (IsSeated h) (IsSeated h') seats
    (λ k q i. record {
      rests = i.rests;
      out = out_same (slice_set h.seating.peaks s.chair (Some s.peak)) h'.seating.peaks (slice_set h.posts.there s.chair false)
          h'.posts.there k peaks there (out_begun h.seating.peaks h.posts.there s.chair s.peak k i.out);
    }) all)
    (record {
      rests = rests;
      out = out_same (slice_set h.seating.peaks s.chair (Some s.peak)) h'.seating.peaks (slice_set h.posts.there s.chair false)
          h'.posts.there s.chair peaks there
          (out_begun_self h.seating.peaks h.posts.there s.chair s.peak home (is.kept.posts s.chair home));
    })
  where
    peaks : h'.seating.peaks ≡ slice_set h.seating.peaks s.chair (Some s.peak)
    peaks = ap (λ (q : halls.Parts). q.seating.peaks) s.settles.rest

    there : h'.posts.there ≡ slice_set h.posts.there s.chair false
    there = ap (λ (q : halls.Parts). q.posts.there) s.settles.rest

    home : slice_get h.seating.peaks s.chair ≡ Some None
    home = first_is_home h.seating.peaks s.chair s.home

-- ---- a pool whose worker came home, or was sent out

-- The one with this pass is the one in its place.
seated_there : (o : Option (Place Seated)) (turn : ℕ) (s : Seated) → seated_in o turn ≡ Some s → who o ≡ Some s
seated_there None turn s e = cc
seated_there (Some p) turn s e = go (p.turn == turn) e
  where
    go : (b : Bool) → (if b then p.seated else None) ≡ Some s → p.seated ≡ Some s
    go true f = f
    go false f = cc

pub seated_fact : (P : ℕ → Seated → Type 0) (seats : List (Place Seated)) (pass : Pass) (s : Seated) → EachSeated P seats
    → seated_at seats pass ≡ Some s → P pass.bell s
seated_fact P seats pass s all e =
    subst (λ (o : Option Seated). IfSome o (P pass.bell)) (seated_there (slice_get seats pass.bell) pass.turn s e) (all pass.bell)

pub parked_flusher : (h h' : halls.Parts) (at : Stage) (told : Told) → hall.Parks h at told h'
    → h'.posts.is_flusher_home ≡ h.posts.is_flusher_home
parked_flusher h h' at told p = go p.idle p.settles.rest
  where
    go : (idle : Bool) → h' ≡ record (hall.came h p.chair idle) { waiters = h'.waiters }
        → h'.posts.is_flusher_home ≡ h.posts.is_flusher_home
    go true e = ap (λ (q : halls.Parts). q.posts.is_flusher_home) e
    go false e = ap (λ (q : halls.Parts). q.posts.is_flusher_home) e

pub parked_length : (h h' : halls.Parts) (at : Stage) (told : Told) → hall.Parks h at told h'
    → length h'.seating.peaks ≡ length h.seating.peaks
parked_length h h' at told p = go p.idle p.settles.rest
  where
    go : (idle : Bool) → h' ≡ record (hall.came h p.chair idle) { waiters = h'.waiters }
        → length h'.seating.peaks ≡ length h.seating.peaks
    go true e = ap (λ (q : halls.Parts). length q.seating.peaks) e ∙ length-set h.seating.peaks p.chair None
    go false e = ap (λ (q : halls.Parts). length q.seating.peaks) e

-- The one with this pass came home.
pub home_steps : (x : Parts) (h : halls.Parts) (pass : Pass) (s : Seated) (told : Told) → IsSteps x
    → seated_at x.seats pass ≡ Some s → hall.Parks x.hall s.worker.hand.stage told h
    → IsSteps (record x { hall = h; seats = without x.seats pass })
home_steps x h pass s told i e p =
    let own = (seated_fact (IsSeated x.hall) x.seats pass s i.seats e).rests.own in
    let same : p.chair ≡ pass.bell = cc in
    record {
      seats = parked_seats x.hall h s.worker.hand.stage told pass.bell pass.turn x.seats p same i.seats;
      flusher = on_flusher x.hall h (parked_flusher x.hall h s.worker.hand.stage told p) x i.flusher;
      wide =
          length-set x.seats pass.bell (record { turn = pass.turn; seated = None }) ∙ i.wide
          ∙ sym (parked_length x.hall h s.worker.hand.stage told p);
    }
