-- The lists and the errands of every reached state are sound.
use Rattle.std.proofs.Common.{◌≡◌, ◌≢◌, ◌∙◌, ℕ, zero, suc, ◌≤◌, ◌<◌, Bool, true, false, eqb, cond}
use Rattle.std.proofs.Common.{Some, None, [], ◌∷◌, refl, sym, ap, subst, arith}
use Rattle.std.specs.Prelude.{slice_set, sum_by, replicate}
use Rattle.std.proofs.lemmas.Bool.{eqb-true}
use Rattle.std.proofs.lemmas.List.Sums.{sum_by-cons}
use Rattle.pp_settings.specs.Layout.{page_count}
use Rattle.pp_plan.specs.declared.action.Action.TheVariants as action
use Rattle.pp_cert.specs.declared.note.Held.{Held}
use Rattle.pp_cert.specs.declared.note.Held.TheVariants.{Free, S, X}
use Rattle.pp_cert.specs.Held.{Holding, held_in as held_for}
use Rattle.pp_arc.specs.declared.answer.Answer.{Answer}
use Rattle.pp_arc.specs.declared.answer.Answer.TheVariants as answer
use Rattle.pp_arc.specs.FourLists.{FourLists}
use Rattle.pp_model.specs.Holders.{times}
use Rattle.pp_model.specs.Pool.{acting, writing, reading, leaving, Running, State, Settings, opening}
use Rattle.pp_model.specs.Holders.{held_in, page_in}
use Rattle.pp_model.specs.Outcome.{at_stage, having_done, released}
use Rattle.pp_model.specs.Reached.{IsSettings, IsReached}
use Rattle.pp_model.specs.Fixing.{fixes}
use Rattle.pp_model.specs.Moves.{asked_by}
use Rattle.pp_model.proofs.Sums.{times-cons}
use Rattle.pp_model.proofs.Changes as change
use Rattle.pp_model.proofs.Changes.{Change, IsAsked, IsAnswered}
use Rattle.pp_model.proofs.Reaching.{IsKept, IsKeptUnder, both, holds}
use Rattle.pp_model.proofs.Seats.{GoodSeats, good_kept}
use Rattle.pp_model.proofs.Swaps.{as_held, new_page}
use Rattle.pp_model.proofs.Totals.{on_page, seat_weight, seat_loads, seat_victims}
use Rattle.pp_model.proofs.Totals.{no_totals}
use Rattle.pp_model.proofs.Sound.{IsSound, fixable, quiet, loaded, hit, IsMiss, missed, written, forgotten, brought}
use Rattle.pp_model.proofs.ChangeTotals as totals

-- ---- the opening state

pub idle_weight : (f : Holding → ℕ) (n : ℕ) → sum_by (seat_weight f) (replicate n None) ≡ 0
idle_weight f zero = refl
idle_weight f (suc n) = omega (arith, sum_by-cons (seat_weight f) None (replicate n None), idle_weight f n)

idle_loads : (q n : ℕ) → sum_by (λ x. times q (seat_loads x)) (replicate n None) ≡ 0
idle_loads q zero = refl
idle_loads q (suc n) = omega (arith, sum_by-cons (λ x. times q (seat_loads x)) None (replicate n None), idle_loads q n)

pub idle_victims : (q n : ℕ) → sum_by (λ x. times q (seat_victims x)) (replicate n None) ≡ 0
idle_victims q zero = refl
idle_victims q (suc n) = omega (
  arith,
  sum_by-cons (λ x. times q (seat_victims x)) None
      (replicate n None),
  idle_victims q n,
)

opens : (k : Settings) → IsSettings k → IsSound (opening k)
opens k ok = record {
  c = refl;
  pages = refl;
  bounds = record {
    holds_a_page = ok.layout.frames.0;
    cached = omega arith;
    recent = omega arith;
    total = omega arith;
    once = λ x. omega arith;
    below = λ x some. absurd (omega (arith, some));
    aimed = omega arith;
  };
  alone = λ q. omega (arith, idle_loads q k.workers, idle_victims q k.workers);
  fresh = λ q some. absurd (omega (arith, some, idle_loads q k.workers));
  cached = λ q some. absurd (omega (arith, some, idle_weight (on_page q) k.workers, idle_loads q k.workers));
  away = λ q some. absurd (omega (arith, some, idle_victims q k.workers));
}

-- ---- moves

released_settings : (s : State) (h : Held) (page : ℕ) → (released s h page).settings ≡ s.settings
released_settings s Free page = refl
released_settings s S page = refl
released_settings s X page = refl

released_lists : (s : State) (h : Held) (page : ℕ) → (released s h page).lists ≡ s.lists
released_lists s Free page = refl
released_lists s S page = refl
released_lists s X page = refl

-- A fix that isn't a hit.
module _ (s : State) (w : ℕ) (r : Running) (slot page : ℕ) (l : FourLists) (good : GoodSeats s) (h : IsSound s) where
  pub asked_low : IsAsked s w r (fixes (asked_by r) slot page) → page < s.lists.pages
  asked_low asked =
      let seat = totals.seat_at s w r good asked.at.seat in
      let low = fixable r.accepted.plan.layout slot page (asked_by r) (asked_by r) asked.names in
      subst (λ n. page < n) (sym h.pages) (subst (λ g. page < page_count g) (sym seat.layout) low)

  miss : (a : Answer) → IsAsked s w r (fixes (asked_by r) slot page) → IsAnswered s page l a → a ≢ answer.Hit
      → a ≢ answer.AllBusy
      → IsMiss s page a
  miss a asked is not_hit not_all_busy =
      record {
        low = asked_low asked;
        grounded = is.grounded;
        is = is.is;
        not_hit = not_hit;
        not_all_busy = not_all_busy;
      }

once : (q p : ℕ) → times q (p ∷ []) ≡ cond (eqb p q) 1 0
once q p = omega (arith, times-cons q p [])

named : (v q : ℕ) (b : Bool) → eqb v q ≡ b → 0 < times q (v ∷ []) → answer.Evict v ≡ answer.Evict q
named v q true e some = ap answer.Evict (eqb-true v q e)
named v q false e some = absurd (omega (arith, once q v, ap {B = ℕ} (λ b. cond b 1 0) e, some))

at_most_once : (v q : ℕ) (b : Bool) → eqb v q ≡ b → times q (v ∷ []) ≤ 1
at_most_once v q true e = omega (arith, once q v, ap {B = ℕ} (λ b. cond b 1 0) e)
at_most_once v q false e = omega (arith, once q v, ap {B = ℕ} (λ b. cond b 1 0) e)

moves : (s t : State) → Change s t → GoodSeats s → IsSound s → IsSound t
moves s t (change.stays e) good h = subst IsSound (sym e) h
moves s t (change.takes w a idle next fits e) good h =
    quiet s t [] [] h (ap (λ x. x.settings) e) (ap (λ x. x.lists) e)
    (totals.taken_totals s t w a idle (ap (λ x. x.seats) e)) (λ q. omega arith)
moves s t (change.hits w r slot page l asked is e) good h =
    let d = totals.hit_totals s t w r good slot page asked (ap (λ x. x.seats) e) in
    let low = asked_low s w r slot page l good h asked in
    hit s t (new_page (asked_by r) slot page) h (ap (λ x. x.settings) e) low is.grounded
    (ap (λ x. x.lists) e ∙ is.after) is.is d
moves s t (change.fills w r slot page l asked is e) good h =
    let d = totals.sent_totals s t w r good (reading slot page) refl asked.at (ap (λ x. x.seats) e) in
    let m = miss s w r slot page l good h answer.Free asked is (λ f. absurd (cc)) (λ f. absurd (cc)) in
    missed s t page answer.Free [] h (ap (λ x. x.settings) e) (ap (λ x. x.lists) e ∙ is.after) m
    (λ q some. absurd (omega (arith, some))) (λ q. omega arith) d
moves s t (change.evicts w r slot page v l asked is clean e) good h =
    let d = totals.sent_totals s t w r good (reading slot page) refl asked.at (ap (λ x. x.seats) e) in
    let m = miss s w r slot page l good h (answer.Evict v) asked is (λ f. absurd (cc)) (λ f. absurd (cc)) in
    missed s t page (answer.Evict v) [] h (ap (λ x. x.settings) e) (ap (λ x. x.lists) e ∙ is.after) m
    (λ q some. absurd (omega (arith, some))) (λ q. omega arith) d
moves s t (change.sends w r slot page v l asked is dirty e) good h =
    let d = totals.sent_totals s t w r good (writing slot page v) refl asked.at (ap (λ x. x.seats) e) in
    let m = miss s w r slot page l good h (answer.Evict v) asked is (λ f. absurd (cc)) (λ f. absurd (cc)) in
    missed s t page (answer.Evict v) (v ∷ []) h (ap (λ x. x.settings) e) (ap (λ x. x.lists) e ∙ is.after) m
    (λ q some. named v q (eqb v q) refl some) (λ q. at_most_once v q (eqb v q) refl) d
moves s t (change.writes w r slot page v at e) good h =
    written s t v h (ap (λ x. x.settings) e) (ap (λ x. x.lists) e)
    (totals.written_totals s t w r good slot page v at (ap (λ x. x.seats) e))
moves s t (change.brings w r slot page v at e) good h =
    brought s t page v h (ap (λ x. x.settings) e) (ap (λ x. x.lists) e)
    (totals.lost_totals s t w r good (writing slot page v) refl at (ap (λ x. x.seats) e))
moves s t (change.forgets w r slot page at e) good h =
    forgotten s t page h (ap (λ x. x.settings) e) (ap (λ x. x.lists) e)
    (totals.lost_totals s t w r good (reading slot page) refl at (ap (λ x. x.seats) e))
moves s t (change.loads w r slot page stamp at known e) good h =
    loaded s t (new_page (asked_by r) slot page) h (ap (λ x. x.settings) e) (ap (λ x. x.lists) e)
    (totals.loaded_totals s t w r good slot page at (ap (λ x. x.seats) e))
moves s t (change.unfixes w r slot a back asked e) good h =
    let d = totals.unfix_totals s t w r good slot a back asked (ap (λ x. x.seats) e) in
    quiet s t d.0 [] h (ap (λ x. x.settings) e) (ap (λ x. x.lists) e) d.2 (λ q. omega arith)
moves s t (change.latches w r slot m asked goes e) good h =
    let does = totals.asked_does s t w r good (action.Latch slot m) asked in
    let d = totals.latch_totals s t w r good slot m asked (ap (λ x. x.seats) e) in
    quiet s t _ _ h (ap (λ x. x.settings) e) (ap (λ x. x.lists) e) d
    (λ q. omega (arith, sum_by-cons (on_page q) does.0 [], sum_by-cons (on_page q) (as_held (held_for m) does.0) []))
moves s t (change.unlatches w r slot asked e) good h =
    let does = totals.asked_does s t w r good (action.Unlatch slot) asked in
    let d = totals.unlatch_totals s t w r good slot asked
    (ap (λ x. x.seats) e ∙ ap (λ x. slice_set x w (Some (having_done r (action.Unlatch slot))))
    (totals.released_seats s (held_in r slot) (page_in r slot))) in
    quiet s t _ _ h (ap (λ x. x.settings) e ∙ released_settings s (held_in r slot) (page_in r slot))
    (ap (λ x. x.lists) e ∙ released_lists s (held_in r slot) (page_in r slot)) d
    (λ q. omega (arith, sum_by-cons (on_page q) does.0 [], sum_by-cons (on_page q) (as_held Free does.0) []))
moves s t (change.chooses w r i asked e) good h =
    quiet s t [] [] h (ap (λ x. x.settings) e) (ap (λ x. x.lists) e)
    (totals.choose_totals s t w r good i asked (ap (λ x. x.seats) e)) (λ q. omega arith)
moves s t (change.unwinds w r slot given k at found e) good h =
    let d = totals.unwound_totals s t w r good slot given at
    (ap (λ x. x.seats) e ∙ ap (λ x. slice_set x w (Some (at_stage r (leaving (slot ∷ given)))))
    (totals.released_seats s k.held k.page)) in
    quiet s t _ [] h (ap (λ x. x.settings) e ∙ released_settings s k.held k.page)
    (ap (λ x. x.lists) e ∙ released_lists s k.held k.page) d (λ q. omega arith)
moves s t (change.ends w r at asked e) good h =
    quiet s t _ [] h (ap (λ x. x.settings) e) (ap (λ x. x.lists) e)
    (totals.idle_totals s t w r good acting refl refl at (ap (λ x. x.seats) e)) (λ q. omega arith)
moves s t (change.leaves w r given at none e) good h =
    quiet s t _ [] h (ap (λ x. x.settings) e) (ap (λ x. x.lists) e)
    (totals.idle_totals s t w r good (leaving given) refl refl at (ap (λ x. x.seats) e)) (λ q. omega arith)
moves s t (change.flushes page can e) good h =
    quiet s t [] [] h (ap (λ x. x.settings) e) (ap (λ x. x.lists) e) (no_totals s t (ap (λ x. x.seats) e))
    (λ q. omega arith)
moves s t (change.cleans f is e) good h =
    quiet s t [] [] h (ap (λ x. x.settings) e) (ap (λ x. x.lists) e) (no_totals s t (ap (λ x. x.seats) e))
    (λ q. omega arith)
moves s t (change.drops f is e) good h =
    quiet s t [] [] h (ap (λ x. x.settings) e) (ap (λ x. x.lists) e) (no_totals s t (ap (λ x. x.seats) e))
    (λ q. omega arith)

sound_under : IsKeptUnder GoodSeats IsSound
sound_under = record {
  opens = opens;
  moves = moves;
  submits = λ s a ok e good h. record {
    c = h.c;
    pages = h.pages;
    bounds = h.bounds;
    alone = h.alone;
    fresh = h.fresh;
    cached = h.cached;
    away = h.away;
  };
  renews = λ s ok e good h. record {
    c = h.c;
    pages = h.pages;
    bounds = h.bounds;
    alone = h.alone;
    fresh = h.fresh;
    cached = h.cached;
    away = h.away;
  };
}

-- Seats and lists together.
abbrev pub Sound : State → Type 0
Sound s = GoodSeats s × IsSound s

pub sound_kept : IsKept Sound
sound_kept = both GoodSeats IsSound good_kept sound_under

pub sound : (s : State) → IsReached s → IsSound s
sound s h = (holds Sound s sound_kept h).1
