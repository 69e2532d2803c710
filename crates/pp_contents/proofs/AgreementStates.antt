-- Errands, flushes, and which of their pages are newer than the device's.
use Rattle.std.proofs.Common.{◌≡◌, ◌≢◌, ◌∙◌, ◌⊎◌, ℕ, zero, suc, ◌+◌, ◌<◌, ◌≤◌, Bool, true, false, cond, Option, Some}
use Rattle.std.proofs.Common.{None, List, [], ◌∷◌, refl, sym, ap, inl, inr, arith}
use Rattle.std.specs.Prelude.{◌==◌, slice_get, slice_set, sum_by, unwrap_or}
use Rattle.std.proofs.lemmas.Bool.{false≢true}
use Rattle.std.proofs.lemmas.Bool.Decides.{nat_tests}
use Rattle.pp_plan.specs.declared.action.Action.TheVariants as action
use Rattle.pp_model.specs.declared.moves.Move.{Move}
use Rattle.pp_model.specs.declared.moves.Move.TheVariants as move
use Rattle.pp_model.specs.Pool.{writing, reading, leaving, Running, Flush, State, is_dirty, known_mark, mark_at}
use Rattle.pp_model.specs.Holders.{times, page_in, held_in, is_flushed, flushes_of}
use Rattle.pp_model.specs.Outcome.{at_stage, having_done, with_stage, with_dirty}
use Rattle.pp_model.specs.Answers.{write_by, write_in}
use Rattle.pp_model.specs.Moves.{seat_of, next_of}
use Rattle.pp_model.specs.Reached.{IsReached}
use Rattle.pp_model.specs.Ready.{ready_at}
use Rattle.pp_model.specs.WorkerParts.{worker_of}
use Rattle.pp_model.specs.Dirty.{IsWritten}
use Rattle.pp_model.proofs.Changes as change
use Rattle.pp_model.proofs.Changes.{Change, IsAt}
use Rattle.pp_model.proofs.Seats.{good}
use Rattle.pp_model.proofs.Requests.{Which, same, other, which}
use Rattle.pp_model.proofs.Totals.{loads_of, victims_of, seat_victims, errands_are}
use Rattle.pp_model.proofs.ChangeTotals as totals
use Rattle.pp_model.proofs.Soundness.{sound}
use Rattle.pp_model.proofs.MarkChanges.{listed_once}
use Rattle.pp_model.proofs.Framed.{loads_one, sent_one, dirty_unloaded}
use Rattle.pp_model.proofs.FlushAlone.{one_errand}
use Rattle.pp_model.proofs.ReadyPages.{uncached_none, away_none, loading_is_away}
use Rattle.pp_model.proofs.Dirties.{dirty_falls}
use Rattle.pp_model.proofs.Alone.{flush_stays, all_sit}
use Rattle.pp_core.specs.Queries.{errand_by, errand_of}
use Rattle.pp_vault.proofs.FitTests.{none_some}
use Rattle.pp_vault.proofs.ErrandSteps.{is_writing, is_reading}
use Rattle.pp_contents.proofs.AgreementTurns.{PageTurn, stays, returns, comes, rises, page_turn}

-- ---- pages with errands

pub loads_of_errand : (s : State) (w slot page : ℕ) (victim : Option ℕ) → errand_of s w ≡ Some (slot, page, victim)
    → 0 < loads_of s page
loads_of_errand s w slot page (Some v) out =
    let at = is_writing s w slot page v out in
    loads_one s w at.running (writing slot page v) page (record { seat = at.seat; stage = at.stage }) refl
loads_of_errand s w slot page None out =
    let at = is_reading s w slot page out in
    loads_one s w at.running (reading slot page) page (record { seat = at.seat; stage = at.stage }) refl

pub sends_of_errand : (s : State) (w slot page victim : ℕ) → errand_of s w ≡ Some (slot, page, Some victim)
    → 0 < victims_of s victim
sends_of_errand s w slot page victim out =
    let at = is_writing s w slot page victim out in
    sent_one s w at.running (writing slot page victim) victim (record { seat = at.seat; stage = at.stage }) refl

-- Neither a page that is being loaded nor a victim is ready.
pub loading_unready : (s : State) (q : ℕ) → 0 < loads_of s q → ready_at s q ≡ None
loading_unready s q some = away_none s q (loading_is_away s q some)

pub victim_unready : (s : State) → IsReached s → (q : ℕ) → 0 < victims_of s q → ready_at s q ≡ None
victim_unready s h q some = uncached_none s h q ((sound s h).away q some).0

-- No errand of a worker is out for a page that is being flushed.
self_test : (p : ℕ) → (p == p) ≡ true
self_test p = grind (arith, nat_tests)

pub flushed_alone : (s : State) → IsReached s → (f : Flush) → s.flush ≡ Some f
    → loads_of s f.page + victims_of s f.page ≡ 0
flushed_alone s h f is =
    let one : flushes_of s f.page ≡ 1 =
    ap {B = ℕ} (λ o. cond (is_flushed o f.page) 1 0) is ∙ ap {B = ℕ} (λ b. cond b 1 0) (self_test f.page) in
    omega (arith, errands_are s f.page, one_errand s h f.page, one)

-- A page that is being loaded isn't newer than the device's.
pub loaded_clean : (s : State) → IsReached s → (w slot page : ℕ) (victim : Option ℕ)
    → errand_of s w ≡ Some (slot, page, victim) → is_dirty s page ≡ false
loaded_clean s h w slot page victim out = go (is_dirty s page) refl
  where
    go : (b : Bool) → is_dirty s page ≡ b → b ≡ false
    go true e = absurd (omega (arith, loads_of_errand s w slot page victim out, dirty_unloaded s h page e))
    go false e = refl

-- ---- victims are newer than the device's

abbrev pub VictimsAreDirty : State → Type 0
VictimsAreDirty s =
    (w slot page victim : ℕ) → errand_of s w ≡ Some (slot, page, Some victim) → is_dirty s victim ≡ true

-- Whether an errand is to write a victim back, and which. (0 where it isn't; no lemma looks there.)
abbrev names_victim : Option (ℕ × ℕ × Option ℕ) → Bool
names_victim None = false
names_victim (Some (slot, page, None)) = false
names_victim (Some (slot, page, Some v)) = true

abbrev victim_in : Option (ℕ × ℕ × Option ℕ) → ℕ
victim_in None = 0
victim_in (Some (slot, page, None)) = 0
victim_in (Some (slot, page, Some v)) = v

set_at : {A : Type 0} (xs : List A) (w : ℕ) (x y : A) → slice_get xs w ≡ Some x
    → slice_get (slice_set xs w y) w ≡ Some y
set_at [] w x y e = cc
set_at (a ∷ xs) zero x y e = refl
set_at (a ∷ xs) (suc w) x y e = set_at xs w x y e

set_apart : {A : Type 0} (xs : List A) (w v : ℕ) (y : A) → v ≢ w → slice_get (slice_set xs w y) v ≡ slice_get xs v
set_apart [] w v y ne = refl
set_apart (a ∷ xs) zero zero y ne = absurd (ne refl)
set_apart (a ∷ xs) zero (suc v) y ne = refl
set_apart (a ∷ xs) (suc w) zero y ne = refl
set_apart (a ∷ xs) (suc w) (suc v) y ne = set_apart xs w v y (λ e. ne (ap suc e))

-- Worker w has this seat now, and each other worker has the one that it had.
record Reseats (s t : State) (w : ℕ) (y : Option Running) : Type 0 where
  now : seat_of t w ≡ Some y
  others : (v : ℕ) → v ≢ w → seat_of t v ≡ seat_of s v

reseats : (s t : State) (w : ℕ) (x y : Option Running) → seat_of s w ≡ Some x → t.seats ≡ slice_set s.seats w y
    → Reseats s t w y
reseats s t w x y seat e =
    record {
      now = ap (λ xs. slice_get xs w) e ∙ set_at s.seats w x y seat;
      others = λ v ne. ap (λ xs. slice_get xs v) e ∙ set_apart s.seats w v y ne;
    }

-- A victim that is being written back was so before, or it is newer than the device's.
abbrev SentBefore : (s t : State) → Type 0
SentBefore s t =
    (v slot page victim : ℕ) → errand_of t v ≡ Some (slot, page, Some victim)
    → (errand_of s v ≡ Some (slot, page, Some victim)) ⊎ (is_dirty s victim ≡ true)

-- Worker w has no victim now.
no_more : (s t : State) (w : ℕ) (y : Option Running) → Reseats s t w y → names_victim (errand_by (Some y)) ≡ false
    → SentBefore s t
no_more s t w y k none v slot page victim out = go (which v w)
  where
    go : Which v w → (errand_of s v ≡ Some (slot, page, Some victim)) ⊎ (is_dirty s victim ≡ true)
    go (same d f) =
        absurd (false≢true (sym none ∙ ap names_victim (sym (ap errand_by (ap (seat_of t) d ∙ k.now)) ∙ out)))
    go (other d f) = inl (sym (ap errand_by (k.others v d)) ∙ out)

-- It has this one.
one_more : (s t : State) (w : ℕ) (r : Running) (slot page victim : ℕ)
    → Reseats s t w (Some (at_stage r (writing slot page victim))) → is_dirty s victim ≡ true → SentBefore s t
one_more s t w r slot page victim k dirty v i p q out = go (which v w)
  where
    go : Which v w → (errand_of s v ≡ Some (i, p, Some q)) ⊎ (is_dirty s q ≡ true)
    go (same d f) =
        let it : victim ≡ q = ap victim_in (sym (ap errand_by (ap (seat_of t) d ∙ k.now)) ∙ out) in
        inr (ap (is_dirty s) (sym it) ∙ dirty)
    go (other d f) = inl (sym (ap errand_by (k.others v d)) ∙ out)

-- The seats are the same.
all_before : (s t : State) → t.seats ≡ s.seats → SentBefore s t
all_before s t e v slot page victim out = inl (sym (ap (λ xs. errand_by (slice_get xs v)) e) ∙ out)

sent_before : (s t : State) → Change s t → SentBefore s t
sent_before s t (change.stays e) = all_before s t (ap (λ x. x.seats) e)
sent_before s t (change.takes w a idle next fits e) =
    no_more s t w _ (reseats s t w None _ idle (ap (λ x. x.seats) e)) refl
sent_before s t (change.hits w r slot page l asked is e) =
    no_more s t w _ (reseats s t w (Some r) _ asked.at.seat (ap (λ x. x.seats) e)) refl
sent_before s t (change.fills w r slot page l asked is e) =
    no_more s t w _ (reseats s t w (Some r) _ asked.at.seat (ap (λ x. x.seats) e)) refl
sent_before s t (change.evicts w r slot page v l asked is clean e) =
    no_more s t w _ (reseats s t w (Some r) _ asked.at.seat (ap (λ x. x.seats) e)) refl
sent_before s t (change.sends w r slot page v l asked is dirty e) =
    one_more s t w r slot page v (reseats s t w (Some r) _ asked.at.seat (ap (λ x. x.seats) e)) dirty
sent_before s t (change.writes w r slot page v at e) =
    no_more s t w _ (reseats s t w (Some r) _ at.seat (ap (λ x. x.seats) e)) refl
sent_before s t (change.brings w r slot page v at e) =
    no_more s t w _ (reseats s t w (Some r) _ at.seat (ap (λ x. x.seats) e)) refl
sent_before s t (change.forgets w r slot page at e) =
    no_more s t w _ (reseats s t w (Some r) _ at.seat (ap (λ x. x.seats) e)) refl
sent_before s t (change.loads w r slot page stamp at known e) =
    no_more s t w _ (reseats s t w (Some r) _ at.seat (ap (λ x. x.seats) e)) refl
sent_before s t (change.unfixes w r slot a back asked e) =
    no_more s t w _ (reseats s t w (Some r) _ asked.at.seat (ap (λ x. x.seats) e)) refl
sent_before s t (change.latches w r slot m asked fits e) =
    no_more s t w _ (reseats s t w (Some r) _ asked.at.seat (ap (λ x. x.seats) e)) refl
sent_before s t (change.unlatches w r slot asked e) =
    no_more s t w (Some (having_done r (action.Unlatch slot)))
    (reseats s t w (Some r) (Some (having_done r (action.Unlatch slot))) asked.at.seat
    (ap (λ x. x.seats) e
    ∙ ap (λ xs. slice_set xs w (Some (having_done r (action.Unlatch slot))))
    (totals.released_seats s (held_in r slot) (page_in r slot)))) refl
sent_before s t (change.chooses w r i asked e) =
    no_more s t w _ (reseats s t w (Some r) _ asked.at.seat (ap (λ x. x.seats) e)) refl
sent_before s t (change.unwinds w r slot given k at found e) =
    no_more s t w (Some (at_stage r (leaving (slot ∷ given))))
    (reseats s t w (Some r) (Some (at_stage r (leaving (slot ∷ given)))) at.seat
    (ap (λ x. x.seats) e
    ∙ ap (λ xs. slice_set xs w (Some (at_stage r (leaving (slot ∷ given)))))
    (totals.released_seats s k.held k.page))) refl
sent_before s t (change.ends w r at asked e) =
    no_more s t w None (reseats s t w (Some r) None at.seat (ap (λ x. x.seats) e)) refl
sent_before s t (change.leaves w r given at none e) =
    no_more s t w None (reseats s t w (Some r) None at.seat (ap (λ x. x.seats) e)) refl
sent_before s t (change.flushes page can e) = all_before s t (ap (λ x. x.seats) e)
sent_before s t (change.cleans f is e) = all_before s t (ap (λ x. x.seats) e)
sent_before s t (change.drops f is e) = all_before s t (ap (λ x. x.seats) e)

-- A victim that was written is none any more.
written_gone : (s : State) → IsReached s → (w : ℕ) (r : Running) (slot page q : ℕ) → IsAt s w r (writing slot page q)
    → victims_of (next_of s (move.WriteDone w true)) q ≡ 0
written_gone s h w r slot page q at =
    let u = with_stage (with_dirty s q false) w r (reading slot page) in
    let is : next_of s (move.WriteDone w true) ≡ u =
    ap (λ o. (write_by s w true o).state) at.seat ∙ ap (λ g. (write_in s w true r g).state) at.stage in
    let d = totals.written_totals s u w r (good s h) slot page q at refl in
    omega (arith, ap (λ x. victims_of x q) is, d.victims q, listed_once q, (sound s h).alone q)

still_sent : (s : State) → IsReached s → (m : Move) (q : ℕ) → 0 < victims_of (next_of s m) q → IsWritten s m q → ⊥
still_sent s h (move.WriteDone w true) q some is =
    omega (arith, some, written_gone s h w is.0 is.1 is.2 q (record { seat = is.3; stage = is.4 }))
still_sent s h (move.FlushDone true) q some is =
    let seats : victims_of (next_of s (move.FlushDone true)) q ≡ victims_of s q =
    ap (sum_by (λ x. times q (seat_victims x))) (all_sit s (move.FlushDone true) refl) in
    omega (arith, some, seats, flushed_alone s h is.0 is.1, ap (victims_of s) is.2)
still_sent s h (move.WriteDone w false) q some is = is
still_sent s h (move.FlushDone false) q some is = is
still_sent s h (move.Take w) q some is = is
still_sent s h (move.Fix w page) q some is = is
still_sent s h (move.ReadDone w came) q some is = is
still_sent s h (move.Unfix w) q some is = is
still_sent s h (move.Latch w) q some is = is
still_sent s h (move.Unlatch w) q some is = is
still_sent s h (move.Choose w branch) q some is = is
still_sent s h (move.Unwind w slot) q some is = is
still_sent s h (move.Finish w) q some is = is
still_sent s h (move.FlushBegin page) q some is = is

pub victims_dirty : (s : State) → IsReached s → (m : Move) → VictimsAreDirty s → VictimsAreDirty (next_of s m)
victims_dirty s h m before w slot page q out =
    let was : is_dirty s q ≡ true =
    elim (sent_before s (next_of s m) (change.change s m) w slot page q out) [
      | inl old ↦ before w slot page q old
      | inr dirty ↦ dirty
    ] in
    go was (is_dirty (next_of s m) q) refl
  where
    go : is_dirty s q ≡ true → (b : Bool) → is_dirty (next_of s m) q ≡ b → b ≡ true
    go was true e = refl
    go was false e =
        absurd (still_sent s h m q (sends_of_errand (next_of s m) w slot page q out) (dirty_falls s m q was e))

-- ---- workers' moves

-- A worker's move makes no page the device's but a victim.
pub fallen_sent : (s : State) (m : Move) (w q : ℕ) → worker_of m ≡ Some w → IsWritten s m q → 0 < victims_of s q
fallen_sent s (move.WriteDone v true) w q by is =
    sent_one s v is.0 (writing is.1 is.2 q) q (record { seat = is.3; stage = is.4 }) refl
fallen_sent s (move.FlushDone true) w q by is = absurd (none_some by)
fallen_sent s (move.WriteDone v false) w q by is = absurd is
fallen_sent s (move.FlushDone false) w q by is = absurd is
fallen_sent s (move.Take v) w q by is = absurd is
fallen_sent s (move.Fix v page) w q by is = absurd is
fallen_sent s (move.ReadDone v came) w q by is = absurd is
fallen_sent s (move.Unfix v) w q by is = absurd is
fallen_sent s (move.Latch v) w q by is = absurd is
fallen_sent s (move.Unlatch v) w q by is = absurd is
fallen_sent s (move.Choose v branch) w q by is = absurd is
fallen_sent s (move.Unwind v slot) w q by is = absurd is
fallen_sent s (move.Finish v) w q by is = absurd is
fallen_sent s (move.FlushBegin page) w q by is = absurd is

-- So a page that has no errand stays newer than the device's.
pub still_dirty : (s : State) (m : Move) (w q : ℕ) → worker_of m ≡ Some w → victims_of s q ≡ 0
    → is_dirty s q ≡ true → is_dirty (next_of s m) q ≡ true
still_dirty s m w q by free dirty = go (is_dirty (next_of s m) q) refl
  where
    go : (b : Bool) → is_dirty (next_of s m) q ≡ b → b ≡ true
    go true e = refl
    go false e = absurd (omega (arith, free, fallen_sent s m w q by (dirty_falls s m q dirty e)))

-- ---- the page that is being flushed

abbrev pub FlushedIsDirty : State → Type 0
FlushedIsDirty s =
    (f : Flush) → s.flush ≡ Some f → (is_dirty s f.page ≡ true) × (f.began ≤ mark_at s f.page)

pub same_mark : (s t : State) (q : ℕ) → known_mark t q ≡ known_mark s q → mark_at t q ≡ mark_at s q
same_mark s t q e = ap (λ (o : Option ℕ). unwrap_or o 0) e

-- The mark of a page that isn't being loaded doesn't fall.
mark_grows : (s t : State) (q : ℕ) → loads_of s q ≡ 0 → PageTurn s t q → mark_at s q ≤ mark_at t q
mark_grows s t q free (stays ready known) = omega (arith, same_mark s t q known)
mark_grows s t q free (returns w slot page out known dirty) = omega (arith, same_mark s t q known)
mark_grows s t q free (comes w slot out) = absurd (omega (arith, free, loads_of_errand s w slot q None out))
mark_grows s t q free (rises more dirty) = omega (arith, more)

pub flushed_dirty : (s : State) → IsReached s → (m : Move) (w : ℕ) → worker_of m ≡ Some w → FlushedIsDirty s
    → FlushedIsDirty (next_of s m)
flushed_dirty s h m w by before f is =
    let was = sym (flush_stays s m w by) ∙ is in
    let old = before f was in
    let alone = flushed_alone s h f was in
    let grows = mark_grows s (next_of s m) f.page (omega (arith, alone))
    (page_turn s (next_of s m) h (change.change s m) f.page) in (
      still_dirty s m w f.page by (omega (arith, alone)) old.0,
      omega (arith, old.1, grows),
    )
