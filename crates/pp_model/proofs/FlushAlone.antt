-- A page that is being flushed is cached, and no errand of a worker is out for it.
use Rattle.std.proofs.Common.{◌≡◌, ◌≢◌, ◌∙◌, ℕ, ◌+◌, ◌<◌, ◌≤◌, Bool, true, false, cond, Some, List}
use Rattle.std.proofs.Common.{[], ◌∷◌, refl, sym, ap, subst, inr, arith}
use Rattle.std.specs.Prelude.{slice_set, nat_lt}
use Rattle.std.proofs.lemmas.Bool.{false≢true, eqb-true}
use Rattle.std.proofs.lemmas.Bool.Decides.{nat_tests}
use Rattle.pp_plan.specs.declared.action.Action.TheVariants as action
use Rattle.pp_cert.specs.Held.{Holdings}
use Rattle.pp_arc.specs.declared.answer.Answer.{Answer}
use Rattle.pp_arc.specs.declared.answer.Answer.TheVariants as answer
use Rattle.pp_arc.specs.FourLists.{FourLists, is_cached}
use Rattle.pp_arc.proofs.CacheLemmas.{CachesWithout-forget, CachesAgain-bring_back}
use Rattle.pp_model.specs.Pool.{acting, writing, reading, leaving, State}
use Rattle.pp_model.specs.Holders.{is_flushed, is_busy, held_in, page_in, errands_of}
use Rattle.pp_model.specs.Outcome.{at_stage, having_done}
use Rattle.pp_model.specs.Reached.{IsReached}
use Rattle.pp_model.specs.Laws.{OneErrand}
use Rattle.pp_model.proofs.Changes as change
use Rattle.pp_model.proofs.Changes.{Change, IsAnswered}
use Rattle.pp_model.proofs.Reaching.{IsKeptUnder, both, holds}
use Rattle.pp_model.proofs.Requests.{miss_uncached, is_victim}
use Rattle.pp_model.proofs.Totals.{loads_of, victims_of, errands_are, Totals, no_totals}
use Rattle.pp_model.proofs.Sound.{IsSound, not_busy}
use Rattle.pp_model.proofs.Soundness.{sound}
use Rattle.pp_model.proofs.ChangeTotals as totals
use Rattle.pp_model.proofs.MarkChanges.{listed_other}
use Rattle.pp_model.proofs.Framed.{FlushTurn, lasts, begins, over, flush_turn, ReadyKept, all_kept, answered, loads_one}
use Rattle.pp_model.proofs.Framed.{evict_same, dirties_unloaded, released_lists}

-- ---- a page that stays where it is

-- The page is cached, and it isn't being loaded.
record Stands (s : State) (q : ℕ) : Type 0 where
  pub is_here : is_cached s.lists q ≡ true
  pub loads : loads_of s q ≡ 0

-- The lists stay, and nothing more is loaded.
quiet : (s t : State) (q : ℕ) (out into : Holdings) (lo vo vi : List ℕ) → Stands s q → t.lists ≡ s.lists
    → Totals s t out into lo [] vo vi → Stands t q
quiet s t q out into lo vo vi h l d = record {
  is_here = subst (λ x. is_cached x q ≡ true) (sym l) h.is_here;
  loads = omega (arith, d.loads q, h.loads);
}

-- A page that isn't cached isn't this one.
apart : (s : State) (page q : ℕ) → is_cached s.lists page ≡ false → Stands s q → page ≢ q
apart s page q gone h same = false≢true (sym gone ∙ ap (is_cached s.lists) same ∙ h.is_here)

-- Nor is a page that is being loaded.
apart_loaded : (s : State) (page q : ℕ) → 0 < loads_of s page → Stands s q → q ≢ page
apart_loaded s page q some h same = absurd (omega (arith, some, h.loads, ap (loads_of s) same))

-- The victim isn't the page that is being flushed.
not_victim : (s : State) (v q : ℕ) → is_busy s v ≡ false → is_flushed s.flush q ≡ true → answer.Evict v ≢ answer.Evict q
not_victim s v q free flushed is =
    false≢true (sym (not_busy s v free).1 ∙ ap (is_flushed s.flush) (sym (evict_same v q is)) ∙ flushed)

-- Another page is fixed, and ARC answers that it is read, into a free frame or a victim's.
missed : (s t : State) (page q : ℕ) (l : FourLists) (a : Answer) (vi : List ℕ) → IsSound s → IsAnswered s page l a
    → a ≢ answer.Hit → a ≢ answer.AllBusy → a ≢ answer.Evict q → Stands s q → t.lists ≡ l
    → Totals s t [] [] [] (page ∷ []) [] vi → Stands t q
missed s t page q l a vi sound is not_hit ok stays h lists d =
    let gone = miss_uncached s.lists page (is_busy s) (λ f. not_hit (sym is.is ∙ f)) in
    record {
      is_here = subst (λ x. is_cached x q ≡ true) (sym lists)
          ((answered s page l a sound is ok q).1 (inr (h.is_here, stays)));
      loads = omega (arith, d.loads q, listed_other page q (apart s page q gone h), h.loads);
    }

stays_put : (s t : State) → Change s t → ReadyKept s → (q : ℕ) → is_flushed s.flush q ≡ true → Stands s q → Stands t q
stays_put s t (change.stays e) all q busy h = subst (λ x. Stands x q) (sym e) h
stays_put s t (change.takes w a idle next fits e) all q busy h =
    quiet s t q [] [] [] [] [] h (ap (λ x. x.lists) e) (totals.taken_totals s t w a idle (ap (λ x. x.seats) e))
stays_put s t (change.hits w r slot page l asked is e) all q busy h =
    let d = totals.hit_totals s t w r all.0.0.0 slot page asked (ap (λ x. x.seats) e) in
    let cached = answered s page l answer.Hit all.0.0.1 is (λ f. absurd (cc)) in
    record {
      is_here = subst (λ x. is_cached x q ≡ true) (sym (ap (λ x. x.lists) e))
          ((cached q).1 (inr (h.is_here, λ f. absurd (cc))));
      loads = omega (arith, d.loads q, h.loads);
    }
stays_put s t (change.fills w r slot page l asked is e) all q busy h =
    missed s t page q l answer.Free [] all.0.0.1 is (λ f. absurd (cc)) (λ f. absurd (cc)) (λ f. absurd (cc)) h
    (ap (λ x. x.lists) e)
    (totals.sent_totals s t w r all.0.0.0 (reading slot page) refl asked.at (ap (λ x. x.seats) e))
stays_put s t (change.evicts w r slot page v l asked is clean e) all q busy h =
    let victim = is_victim s.lists page (is_busy s) v all.0.0.1.bounds is.is in
    missed s t page q l (answer.Evict v) [] all.0.0.1 is (λ f. absurd (cc)) (λ f. absurd (cc))
    (not_victim s v q victim.not_busy busy) h (ap (λ x. x.lists) e)
    (totals.sent_totals s t w r all.0.0.0 (reading slot page) refl asked.at (ap (λ x. x.seats) e))
stays_put s t (change.sends w r slot page v l asked is dirty e) all q busy h =
    let victim = is_victim s.lists page (is_busy s) v all.0.0.1.bounds is.is in
    missed s t page q l (answer.Evict v) (v ∷ []) all.0.0.1 is (λ f. absurd (cc)) (λ f. absurd (cc))
    (not_victim s v q victim.not_busy busy) h (ap (λ x. x.lists) e)
    (totals.sent_totals s t w r all.0.0.0 (writing slot page v) refl asked.at (ap (λ x. x.seats) e))
stays_put s t (change.writes w r slot page v at e) all q busy h =
    quiet s t q [] [] [] (v ∷ []) [] h (ap (λ x. x.lists) e)
    (totals.written_totals s t w r all.0.0.0 slot page v at (ap (λ x. x.seats) e))
stays_put s t (change.brings w r slot page v at e) all q busy h =
    let d = totals.lost_totals s t w r all.0.0.0 (writing slot page v) refl at (ap (λ x. x.seats) e) in
    let other = apart_loaded s page q (loads_one s w r (writing slot page v) page at refl) h in
    record {
      is_here = subst (λ x. is_cached x q ≡ true) (sym (ap (λ x. x.lists) e))
          ((CachesAgain-bring_back s.lists page v q).1 (inr (h.is_here, other)));
      loads = omega (arith, d.loads q, h.loads);
    }
stays_put s t (change.forgets w r slot page at e) all q busy h =
    let d = totals.lost_totals s t w r all.0.0.0 (reading slot page) refl at (ap (λ x. x.seats) e) in
    let other = apart_loaded s page q (loads_one s w r (reading slot page) page at refl) h in
    record {
      is_here = subst (λ x. is_cached x q ≡ true) (sym (ap (λ x. x.lists) e))
          ((CachesWithout-forget s.lists page q).1 (h.is_here, other));
      loads = omega (arith, d.loads q, h.loads);
    }
stays_put s t (change.loads w r slot page stamp at known e) all q busy h =
    quiet s t q [] _ (page ∷ []) [] [] h (ap (λ x. x.lists) e)
    (totals.loaded_totals s t w r all.0.0.0 slot page at (ap (λ x. x.seats) e))
stays_put s t (change.unfixes w r slot a back asked e) all q busy h =
    let d = totals.unfix_totals s t w r all.0.0.0 slot a back asked (ap (λ x. x.seats) e) in
    quiet s t q d.0 [] [] [] [] h (ap (λ x. x.lists) e) d.2
stays_put s t (change.latches w r slot m asked goes e) all q busy h =
    quiet s t q _ _ [] [] [] h (ap (λ x. x.lists) e)
    (totals.latch_totals s t w r all.0.0.0 slot m asked (ap (λ x. x.seats) e))
stays_put s t (change.unlatches w r slot asked e) all q busy h =
    let k = held_in r slot in
    let p = page_in r slot in
    quiet s t q _ _ [] [] [] h (ap (λ x. x.lists) e ∙ released_lists s k p)
    (totals.unlatch_totals s t w r all.0.0.0 slot asked
    (ap (λ x. x.seats) e
    ∙ ap (λ x. slice_set x w (Some (having_done r (action.Unlatch slot)))) (totals.released_seats s k p)))
stays_put s t (change.chooses w r i asked e) all q busy h =
    quiet s t q [] [] [] [] [] h (ap (λ x. x.lists) e)
    (totals.choose_totals s t w r all.0.0.0 i asked (ap (λ x. x.seats) e))
stays_put s t (change.unwinds w r slot given k at found e) all q busy h =
    quiet s t q _ [] [] [] [] h (ap (λ x. x.lists) e ∙ released_lists s k.held k.page)
    (totals.unwound_totals s t w r all.0.0.0 slot given at
    (ap (λ x. x.seats) e
    ∙ ap (λ x. slice_set x w (Some (at_stage r (leaving (slot ∷ given))))) (totals.released_seats s k.held k.page)))
stays_put s t (change.ends w r at asked e) all q busy h =
    quiet s t q _ [] [] [] [] h (ap (λ x. x.lists) e)
    (totals.idle_totals s t w r all.0.0.0 acting refl refl at (ap (λ x. x.seats) e))
stays_put s t (change.leaves w r given at none e) all q busy h =
    quiet s t q _ [] [] [] [] h (ap (λ x. x.lists) e)
    (totals.idle_totals s t w r all.0.0.0 (leaving given) refl refl at (ap (λ x. x.seats) e))
stays_put s t (change.flushes page can e) all q busy h =
    quiet s t q [] [] [] [] [] h (ap (λ x. x.lists) e) (no_totals s t (ap (λ x. x.seats) e))
stays_put s t (change.cleans f is e) all q busy h =
    quiet s t q [] [] [] [] [] h (ap (λ x. x.lists) e) (no_totals s t (ap (λ x. x.seats) e))
stays_put s t (change.drops f is e) all q busy h =
    quiet s t q [] [] [] [] [] h (ap (λ x. x.lists) e) (no_totals s t (ap (λ x. x.seats) e))

-- ---- the page that is being flushed

-- It is cached, and it isn't being loaded.
abbrev FlushStands : State → Type 0
FlushStands s = (q : ℕ) → is_flushed s.flush q ≡ true → Stands s q

turns : (s t : State) → Change s t → FlushTurn s t → ReadyKept s → FlushStands s → FlushStands t
turns s t c (lasts e) all h q is =
    let was : is_flushed s.flush q ≡ true = ap (λ x. is_flushed x q) (sym e) ∙ is in
    stays_put s t c all q was (h q was)
turns s t c (begins page here dirty lists seats e) all h q is =
    let same : page ≡ q = eqb-true page q (ap (λ x. is_flushed x q) (sym e) ∙ is) in
    let before : Stands s page =
    record { is_here = here; loads = dirties_unloaded s all.0.0.1 all.1.1 page dirty here } in
    subst (Stands t) same (quiet s t page [] [] [] [] [] before lists (no_totals s t seats))
turns s t c (over e) all h q is = absurd (false≢true (ap (λ x. is_flushed x q) (sym e) ∙ is))

stands_under : IsKeptUnder ReadyKept FlushStands
stands_under = record {
  opens = λ k ok q is. absurd (false≢true is);
  moves = λ s t c all h. turns s t c (flush_turn s t c) all h;
  submits = λ s a ok e all h q is. record { is_here = (h q is).is_here; loads = (h q is).loads };
  renews = λ s ok e all h q is. record { is_here = (h q is).is_here; loads = (h q is).loads };
}

flush_stands : (s : State) → IsReached s → FlushStands s
flush_stands s h = (holds (λ x. ReadyKept x × FlushStands x) s (both ReadyKept FlushStands all_kept stands_under) h).1

-- ---- errands

-- A page that is cached isn't written back as a victim.
no_victim : (s : State) (q : ℕ) → IsSound s → is_cached s.lists q ≡ true → victims_of s q ≡ 0
no_victim s q h here = go (nat_lt 0 (victims_of s q)) refl
  where
    go : (b : Bool) → nat_lt 0 (victims_of s q) ≡ b → victims_of s q ≡ 0
    go true e = absurd (false≢true (sym (h.away q (grind (arith, nat_tests))).0 ∙ here))
    go false e = grind (arith, nat_tests)

-- No page has two errands out, of workers or of the flusher.
pub one_errand : (s : State) → IsReached s → OneErrand s
one_errand s h q = go (is_flushed s.flush q) refl
  where
    go : (b : Bool) → is_flushed s.flush q ≡ b → errands_of s q + cond b 1 0 ≤ 1
    go true e =
        let alone = flush_stands s h q e in
        omega (arith, errands_are s q, alone.loads, no_victim s q (sound s h) alone.is_here)
    go false e = omega (arith, errands_are s q, (sound s h).alone q)
