-- A page that some slot holds has a known mark.
use Rattle.std.proofs.Common.{◌≡◌, ◌≢◌, ◌∙◌, ◌⊎◌, ℕ, ◌+◌, ◌<◌, ◌≤◌, true, false, Option, Some, None, List, [], ◌∷◌}
use Rattle.std.proofs.Common.{length, refl, sym, ap, subst, inl, inr, arith}
use Rattle.std.specs.Prelude.{slice_set, IsSome}
use Rattle.std.proofs.lemmas.Bool.{cases_lt, false≢true}
use Rattle.std.proofs.lemmas.List.{set_past}
use Rattle.pp_plan.specs.declared.action.Action.TheVariants as action
use Rattle.pp_cert.specs.declared.note.Held.{Held}
use Rattle.pp_cert.specs.declared.note.Held.TheVariants.{Free, S, X}
use Rattle.pp_cert.specs.Held.{Holdings}
use Rattle.pp_arc.specs.declared.answer.Answer.{Answer}
use Rattle.pp_arc.specs.declared.answer.Answer.TheVariants as answer
use Rattle.pp_arc.specs.FourLists.{FourLists, is_cached}
use Rattle.pp_arc.specs.Figure.{forget, bring_back}
use Rattle.pp_arc.proofs.CacheLemmas.{CachesWithout-forget, CachesAgain-bring_back}
use Rattle.pp_model.specs.Pool.{acting, writing, reading, leaving, Note, State, Settings, opening, note_of, frame_of}
use Rattle.pp_model.specs.Pool.{frame_at, known_mark, mark_at}
use Rattle.pp_model.specs.Holders.{times, page_in, held_in, is_busy}
use Rattle.pp_model.specs.Outcome.{with_note, with_frame, with_lists, at_stage, having_done, released}
use Rattle.pp_model.specs.Fixing.{free_frame}
use Rattle.pp_model.specs.Reached.{IsReached}
use Rattle.pp_model.specs.Moves.{asked_by}
use Rattle.pp_model.proofs.Changes as change
use Rattle.pp_model.proofs.Swaps.{new_page}
use Rattle.pp_model.proofs.Changes.{Change, IsAnswered}
use Rattle.pp_model.proofs.Reaching.{IsKeptUnder, both, holds}
use Rattle.pp_model.proofs.Requests.{Which, same, other, which, hit_cached, is_victim}
use Rattle.pp_model.proofs.Totals.{weight, loads_of, victims_of, on_page, Totals, no_totals}
use Rattle.pp_model.proofs.Sound.{IsSound, not_busy}
use Rattle.pp_model.proofs.Soundness.{sound, idle_victims}
use Rattle.pp_model.proofs.ChangeTotals as totals
use Rattle.pp_model.proofs.MarkChanges.{note_here, note_there, listed_once, listed_other}
use Rattle.pp_model.proofs.Framed.{Ready, ready_kept, ready_low, answered, loads_one, sent_one, unloaded}
use Rattle.pp_model.proofs.Framed.{released_lists}

-- ---- marks that are known stay known

-- A page whose mark is known keeps one where a note is written with a mark, or with that of its page.
noted_known : (s : State) (p : ℕ) (n : Note) (q : ℕ) → (q ≡ p → IsSome (known_mark s q) → IsSome n.mark)
    → IsSome (known_mark s q) → IsSome (known_mark (with_note s p n) q)
noted_known s p n q mark some = go (which q p) (cases_lt p (length s.notes))
  where
    go : Which q p → (p < length s.notes) ⊎ (length s.notes ≤ p) → IsSome (known_mark (with_note s p n) q)
    go (other d f) low =
        subst (λ (x : Note). IsSome x.mark) (sym (note_there s p q n d)) some
    go (same d f) (inl low) =
        subst (λ (x : Note). IsSome x.mark) (sym (ap (note_of (with_note s p n)) d ∙ note_here s p n low)) (mark d some)
    go (same d f) (inr past) =
        subst (λ x. IsSome (known_mark (record s { notes = x }) q)) (sym (set_past s.notes p n past)) some

kept_known : (s : State) (p : ℕ) (n : Note) (q : ℕ) → n.mark ≡ known_mark s p → IsSome (known_mark s q)
    → IsSome (known_mark (with_note s p n) q)
kept_known s p n q mark some =
    noted_known s p n q
    (λ d was. subst (λ (o : Option ℕ). IsSome o) (ap (known_mark s) d ∙ sym mark) was) some

moved_known : (s : State) (a b : ℕ) (f g : Option ℕ) (q : ℕ) → IsSome (known_mark s q)
    → IsSome (known_mark (with_frame (with_frame s a f) b g) q)
moved_known s a b f g q some =
    let u = with_frame s a f in
    kept_known u b (record (note_of u b) { frame = g }) q refl
    (kept_known s a (record (note_of s a) { frame = f }) q refl some)

released_known : (s : State) (k : Held) (p q : ℕ) → IsSome (known_mark s q)
    → IsSome (known_mark (released s k p) q)
released_known s Free p q some = some
released_known s S p q some = some
released_known s X p q some =
    noted_known s p (record (note_of s p) { mark = Some (mark_at s p + 1); dirty = true }) q (λ d was. refl) some

from_next : (t u : State) (q : ℕ) → t ≡ u → IsSome (known_mark u q) → IsSome (known_mark t q)
from_next t u q e some = subst (λ x. IsSome (known_mark x q)) (sym e) some

still_known : (s t : State) → Change s t → (q : ℕ) → IsSome (known_mark s q) → IsSome (known_mark t q)
still_known s t (change.stays e) q some = from_next t _ q e some
still_known s t (change.takes w a idle next fits e) q some = from_next t _ q e some
still_known s t (change.hits w r slot page l asked is e) q some = from_next t _ q e some
still_known s t (change.fills w r slot page l asked is e) q some =
    from_next t _ q e
    (kept_known (with_lists s l) page (record (note_of s page) { frame = Some (free_frame s) }) q refl some)
still_known s t (change.evicts w r slot page v l asked is clean e) q some =
    from_next t _ q e (moved_known (with_lists s l) v page None (Some (frame_at s v)) q some)
still_known s t (change.sends w r slot page v l asked is dirty e) q some =
    from_next t _ q e (moved_known (with_lists s l) v page None (Some (frame_at s v)) q some)
still_known s t (change.writes w r slot page v at e) q some =
    from_next t _ q e (kept_known s v (record (note_of s v) { dirty = false }) q refl some)
still_known s t (change.brings w r slot page v at e) q some =
    from_next t _ q e (moved_known (with_lists s (bring_back s.lists page v)) page v None (frame_of s page) q some)
still_known s t (change.forgets w r slot page at e) q some =
    from_next t _ q e
    (kept_known (with_lists s (forget s.lists page)) page (record (note_of s page) { frame = None }) q refl some)
still_known s t (change.loads w r slot page stamp at known e) q some =
    from_next t _ q e (noted_known s page (record (note_of s page) { mark = Some stamp }) q (λ d was. refl) some)
still_known s t (change.unfixes w r slot a back asked e) q some = from_next t _ q e some
still_known s t (change.latches w r slot m asked goes e) q some = from_next t _ q e some
still_known s t (change.unlatches w r slot asked e) q some =
    from_next t _ q e (released_known s (held_in r slot) (page_in r slot) q some)
still_known s t (change.chooses w r i asked e) q some = from_next t _ q e some
still_known s t (change.unwinds w r slot given k at found e) q some =
    from_next t _ q e (released_known s k.held k.page q some)
still_known s t (change.ends w r at asked e) q some = from_next t _ q e some
still_known s t (change.leaves w r given at none e) q some = from_next t _ q e some
still_known s t (change.flushes page can e) q some = from_next t _ q e some
still_known s t (change.cleans f is e) q some =
    from_next t _ q e (kept_known s f.page (record (note_of s f.page) { dirty = false }) q refl some)
still_known s t (change.drops f is e) q some = from_next t _ q e some

-- ---- pages whose mark has to be known

-- A page that is cached and not being loaded, or a victim that is written back.
abbrev Loaded : State → ℕ → Type 0
Loaded s q = ((is_cached s.lists q ≡ true) × (loads_of s q ≡ 0)) ⊎ (0 < victims_of s q)

-- No page is loaded that wasn't before.
no_more : (s t : State) → ((q : ℕ) → is_cached t.lists q ≡ true → is_cached s.lists q ≡ true)
    → ((q : ℕ) → loads_of s q ≤ loads_of t q) → ((q : ℕ) → victims_of t q ≤ victims_of s q) → (q : ℕ) → Loaded t q
    → Loaded s q
no_more s t cached loads victims q (inl a) = inl (cached q a.0, omega (arith, loads q, a.1))
no_more s t cached loads victims q (inr b) = inr (omega (arith, victims q, b))

as_before : (s t : State) (out into : Holdings) (vo : List ℕ) → t.lists ≡ s.lists
    → Totals s t out into [] [] vo [] → (q : ℕ) → Loaded t q → Loaded s q
as_before s t out into vo l d =
    no_more s t (λ q c. subst (λ x. is_cached x q ≡ true) l c) (λ q. omega (arith, d.loads q))
    (λ q. omega (arith, d.victims q))

-- ARC's request caches the page alone, which is being loaded; a victim was cached, and not being loaded.
fixed_before : (s t : State) (page : ℕ) (l : FourLists) (a : Answer) (vi : List ℕ) → IsSound s
    → IsAnswered s page l a → a ≢ answer.AllBusy → t.lists ≡ l
    → ((q : ℕ) → 0 < times q vi → a ≡ answer.Evict q)
    → Totals s t [] [] [] (page ∷ []) [] vi → (q : ℕ) → Loaded t q → Loaded s q
fixed_before s t page l a vi h is ok lists evicted d q (inl b) =
    go (which page q) ((answered s page l a h is ok q).0 (subst (λ x. is_cached x q ≡ true) lists b.0))
  where
    go : Which page q → (q ≡ page) ⊎ ((is_cached s.lists q ≡ true) × (a ≢ answer.Evict q)) → Loaded s q
    go (same f g) x =
        absurd (omega (arith, d.loads q, b.1, listed_once page, ap (λ p. times p (page ∷ [])) f))
    go (other f g) (inl x) = absurd (f (sym x))
    go (other f g) (inr x) = inl (x.0, omega (arith, d.loads q, listed_other page q f, b.1))
fixed_before s t page l a vi h is ok lists evicted d q (inr b) = go (cases_lt 0 (victims_of s q))
  where
    go : (0 < victims_of s q) ⊎ (victims_of s q ≤ 0) → Loaded s q
    go (inl some) = inr some
    go (inr none) =
        let new : 0 < times q vi = omega (arith, d.victims q, b, none) in
        let v = is_victim s.lists page (is_busy s) q h.bounds (is.is ∙ evicted q new) in
        inl (v.was_cached, omega (arith, (not_busy s q v.not_busy).0))

brought_before : (s t : State) (page v : ℕ) → 0 < victims_of s v → t.lists ≡ bring_back s.lists page v
    → Totals s t [] [] (page ∷ []) [] (v ∷ []) [] → (q : ℕ) → Loaded t q → Loaded s q
brought_before s t page v sent lists d q (inl b) =
    go ((CachesAgain-bring_back s.lists page v q).0 (subst (λ x. is_cached x q ≡ true) lists b.0))
  where
    go : (q ≡ v) ⊎ ((is_cached s.lists q ≡ true) × (q ≢ page)) → Loaded s q
    go (inl x) = inr (subst (λ y. 0 < victims_of s y) (sym x) sent)
    go (inr x) = inl (x.0, omega (arith, d.loads q, listed_other page q (λ f. x.1 (sym f)), b.1))
brought_before s t page v sent lists d q (inr b) = inr (omega (arith, d.victims q, b))

forgotten_before : (s t : State) (page : ℕ) → t.lists ≡ forget s.lists page
    → Totals s t [] [] (page ∷ []) [] [] [] → (q : ℕ) → Loaded t q → Loaded s q
forgotten_before s t page lists d q (inl b) =
    let x = (CachesWithout-forget s.lists page q).0 (subst (λ x. is_cached x q ≡ true) lists b.0) in
    inl (x.0, omega (arith, d.loads q, listed_other page q (λ f. x.1 (sym f)), b.1))
forgotten_before s t page lists d q (inr b) = inr (omega (arith, d.victims q, b))

-- ---- all moves

-- Only a page that is read is loaded that wasn't before.
before : (s t : State) → Change s t → Ready s → (q : ℕ) → Loaded t q → Loaded s q ⊎ IsSome (known_mark t q)
before s t (change.stays e) ready q x = inl (subst (λ y. Loaded y q) e x)
before s t (change.takes w a idle next fits e) ready q x =
    inl (as_before s t [] [] [] (ap (λ x. x.lists) e) (totals.taken_totals s t w a idle (ap (λ x. x.seats) e)) q x)
before s t (change.hits w r slot page l asked is e) ready q x =
    let d = totals.hit_totals s t w r ready.0.0 slot page asked (ap (λ x. x.seats) e) in
    let all = answered s page l answer.Hit ready.0.1 is (λ f. absurd (cc)) in
    let here = hit_cached s.lists page (is_busy s) ready.0.1.bounds is.is in
    inl (no_more s t
    (λ p c. elim ((all p).0 (subst (λ y. is_cached y p ≡ true) (ap (λ x. x.lists) e) c)) [
      | inl f ↦ subst (λ y. is_cached s.lists y ≡ true) (sym f) here
      | inr f ↦ f.0
    ])
    (λ p. omega (arith, d.loads p)) (λ p. omega (arith, d.victims p)) q x)
before s t (change.fills w r slot page l asked is e) ready q x =
    let d = totals.sent_totals s t w r ready.0.0 (reading slot page) refl asked.at (ap (λ x. x.seats) e) in
    inl (fixed_before s t page l answer.Free [] ready.0.1 is (λ f. absurd (cc)) (ap (λ x. x.lists) e)
    (λ p some. absurd (omega (arith, some))) d q x)
before s t (change.evicts w r slot page v l asked is clean e) ready q x =
    let d = totals.sent_totals s t w r ready.0.0 (reading slot page) refl asked.at (ap (λ x. x.seats) e) in
    inl (fixed_before s t page l (answer.Evict v) [] ready.0.1 is (λ f. absurd (cc)) (ap (λ x. x.lists) e)
    (λ p some. absurd (omega (arith, some))) d q x)
before s t (change.sends w r slot page v l asked is dirty e) ready q x =
    let d = totals.sent_totals s t w r ready.0.0 (writing slot page v) refl asked.at (ap (λ x. x.seats) e) in
    inl (fixed_before s t page l (answer.Evict v) (v ∷ []) ready.0.1 is (λ f. absurd (cc)) (ap (λ x. x.lists) e)
    (λ p some. named v p some (which v p)) d q x)
  where
    named : (v p : ℕ) → 0 < times p (v ∷ []) → Which v p → answer.Evict v ≡ answer.Evict p
    named v p some (same f g) = ap answer.Evict f
    named v p some (other f g) = absurd (omega (arith, some, listed_other v p f))
before s t (change.writes w r slot page v at e) ready q x =
    inl (as_before s t [] [] (v ∷ []) (ap (λ x. x.lists) e)
    (totals.written_totals s t w r ready.0.0 slot page v at (ap (λ x. x.seats) e)) q x)
before s t (change.brings w r slot page v at e) ready q x =
    inl (brought_before s t page v (sent_one s w r (writing slot page v) v at refl) (ap (λ x. x.lists) e)
    (totals.lost_totals s t w r ready.0.0 (writing slot page v) refl at (ap (λ x. x.seats) e)) q x)
before s t (change.forgets w r slot page at e) ready q x =
    inl (forgotten_before s t page (ap (λ x. x.lists) e)
    (totals.lost_totals s t w r ready.0.0 (reading slot page) refl at (ap (λ x. x.seats) e)) q x)
before s t (change.loads w r slot page stamp at known e) ready q x =
    let d = totals.loaded_totals s t w r ready.0.0 slot page at (ap (λ x. x.seats) e) in
    let some = loads_one s w r (reading slot page) page at refl in
    let low = ready_low s ready page (ready.0.1.cached page (omega (arith, some))) in
    let n = record (note_of s page) { mark = Some stamp } in
    go (which q page) x d
    (from_next t _ page e (subst (λ (y : Note). IsSome y.mark) (sym (note_here s page n low)) refl))
    (ap (λ x. x.lists) e)
  where
    go : Which q page → Loaded t q
        → Totals s t [] (new_page (asked_by r) slot page ∷ []) (page ∷ []) [] [] []
        → IsSome (known_mark t page) → t.lists ≡ s.lists → Loaded s q ⊎ IsSome (known_mark t q)
    go (same f g) x d some l = inr (subst (λ y. IsSome (known_mark t y)) (sym f) some)
    go (other f g) (inl b) d some l =
        inl (inl (
          subst (λ y. is_cached y q ≡ true) l b.0,
          omega (arith, d.loads q, listed_other page q (λ k. f (sym k)), b.1),
        ))
    go (other f g) (inr b) d some l = inl (inr (omega (arith, d.victims q, b)))
before s t (change.unfixes w r slot a back asked e) ready q x =
    let d = totals.unfix_totals s t w r ready.0.0 slot a back asked (ap (λ x. x.seats) e) in
    inl (as_before s t d.0 [] [] (ap (λ x. x.lists) e) d.2 q x)
before s t (change.latches w r slot m asked goes e) ready q x =
    inl (as_before s t _ _ [] (ap (λ x. x.lists) e)
    (totals.latch_totals s t w r ready.0.0 slot m asked (ap (λ x. x.seats) e)) q x)
before s t (change.unlatches w r slot asked e) ready q x =
    let d = totals.unlatch_totals s t w r ready.0.0 slot asked
    (ap (λ x. x.seats) e
    ∙ ap (λ x. slice_set x w (Some (having_done r (action.Unlatch slot))))
    (totals.released_seats s (held_in r slot) (page_in r slot))) in
    inl (as_before s t _ _ [] (ap (λ x. x.lists) e ∙ released_lists s (held_in r slot) (page_in r slot)) d q x)
before s t (change.chooses w r i asked e) ready q x =
    inl (as_before s t [] [] [] (ap (λ x. x.lists) e)
    (totals.choose_totals s t w r ready.0.0 i asked (ap (λ x. x.seats) e)) q x)
before s t (change.unwinds w r slot given k at found e) ready q x =
    let d = totals.unwound_totals s t w r ready.0.0 slot given at
    (ap (λ x. x.seats) e
    ∙ ap (λ x. slice_set x w (Some (at_stage r (leaving (slot ∷ given))))) (totals.released_seats s k.held k.page)) in
    inl (as_before s t _ _ [] (ap (λ x. x.lists) e ∙ released_lists s k.held k.page) d q x)
before s t (change.ends w r at asked e) ready q x =
    inl (as_before s t _ [] [] (ap (λ x. x.lists) e)
    (totals.idle_totals s t w r ready.0.0 acting refl refl at (ap (λ x. x.seats) e)) q x)
before s t (change.leaves w r given at none e) ready q x =
    inl (as_before s t _ [] [] (ap (λ x. x.lists) e)
    (totals.idle_totals s t w r ready.0.0 (leaving given) refl refl at (ap (λ x. x.seats) e)) q x)
before s t (change.flushes page can e) ready q x =
    inl (as_before s t [] [] [] (ap (λ x. x.lists) e) (no_totals s t (ap (λ x. x.seats) e)) q x)
before s t (change.cleans f is e) ready q x =
    inl (as_before s t [] [] [] (ap (λ x. x.lists) e) (no_totals s t (ap (λ x. x.seats) e)) q x)
before s t (change.drops f is e) ready q x =
    inl (as_before s t [] [] [] (ap (λ x. x.lists) e) (no_totals s t (ap (λ x. x.seats) e)) q x)

-- ---- all reached states

abbrev Knows : State → Type 0
Knows s = (q : ℕ) → Loaded s q → IsSome (known_mark s q)

knows_next : (s t : State) (q : ℕ) → Change s t → Knows s → Loaded s q ⊎ IsSome (known_mark t q)
    → IsSome (known_mark t q)
knows_next s t q c h (inl x) = still_known s t c q (h q x)
knows_next s t q c h (inr some) = some

fresh_knows : (k : Settings) → Knows (opening k)
fresh_knows k q (inl a) = absurd (false≢true a.0)
fresh_knows k q (inr b) = absurd (omega (arith, b, idle_victims q k.workers))

knows_under : IsKeptUnder Ready Knows
knows_under = record {
  opens = λ k ok. fresh_knows k;
  moves = λ s t c ready h q x. knows_next s t q c h (before s t c ready q x);
  submits = λ s a ok e ready h. h;
  renews = λ s ok e ready h. h;
}

-- A page that is cached and not being loaded, or a victim that is written back, has a known mark.
pub loaded_is_known : (s : State) → IsReached s → (q : ℕ) → is_cached s.lists q ≡ true → loads_of s q ≡ 0
    → IsSome (known_mark s q)
loaded_is_known s h q here none =
    (holds (λ x. Ready x × Knows x) s (both Ready Knows ready_kept knows_under) h).1 q (inl (here, none))

-- So has a page that a slot holds.
pub held_is_known : (s : State) → IsReached s → (q : ℕ) → 0 < weight s (on_page q) → IsSome (known_mark s q)
held_is_known s h q some =
    let ok = sound s h in
    loaded_is_known s h q (ok.cached q (omega (arith, some))) (unloaded s q ok some)

-- So has a victim that is written back.
pub sent_is_known : (s : State) → IsReached s → (q : ℕ) → 0 < victims_of s q → IsSome (known_mark s q)
sent_is_known s h q some =
    (holds (λ x. Ready x × Knows x) s (both Ready Knows ready_kept knows_under) h).1 q (inr some)
