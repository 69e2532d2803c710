-- No mark is large: each begins below 2^62, and each move that is done raises it by one at most and lowers the bound.
use Rattle.std.proofs.Common.{◌≡◌, ◌∙◌, ◌⊎◌, ℕ, zero, suc, ◌+◌, ◌*◌, ◌^◌, ◌<◌, ◌≤◌, Bool, true, false, Option, Some, None}
use Rattle.std.proofs.Common.{List, [], ◌∷◌, ◌++◌, length, refl, sym, ap, subst, inl, inr, arith}
use Rattle.std.specs.Prelude.{sum_by, replicate, nat_le, nat_lt, not, ◌==◌, unwrap_or}
use Rattle.std.proofs.lemmas.Bool.{cases_lt}
use Rattle.std.proofs.lemmas.Bool.Decides.{nat_tests}
use Rattle.std.proofs.lemmas.List.{set_past}
use Rattle.std.proofs.lemmas.List.Sums.{sum_by-cons, sum_by-append}
use Rattle.pp_cert.specs.Accepted.{Acceptance}
use Rattle.pp_cert.specs.declared.note.Held.{Held}
use Rattle.pp_cert.specs.declared.note.Held.TheVariants.{Free, S, X}
use Rattle.pp_arc.specs.Figure.{forget, bring_back}
use Rattle.pp_model.specs.declared.refusals.SubmitError.{SubmitError}
use Rattle.pp_model.specs.Pool.{Note, State, Settings, note_of, frame_of, frame_at, known_mark, mark_at}
use Rattle.pp_model.specs.Holders.{page_in, held_in}
use Rattle.pp_model.specs.Budget.{cost_of, left_to, bound, journal_need}
use Rattle.pp_model.specs.Outcome.{with_note, with_frame, with_lists, released}
use Rattle.pp_model.specs.Fixing.{free_frame}
use Rattle.pp_model.specs.Answers.{is_other}
use Rattle.pp_model.specs.Submitting.{submitted, error_where, most_events}
use Rattle.pp_model.specs.Renewing.{renewed}
use Rattle.pp_model.specs.Reached.{IsReached}
use Rattle.pp_model.proofs.Changes as change
use Rattle.pp_model.proofs.Changes.{Change}
use Rattle.pp_model.proofs.Reaching.{IsKept, IsKeptUnder, both, holds}
use Rattle.pp_model.proofs.Seats.{GoodSeats, good_kept}
use Rattle.pp_model.proofs.Requests.{Which, same, other, which}
use Rattle.pp_model.proofs.BoundLaws.{falls, Taken, taken_kept, drop_more}
use Rattle.pp_model.proofs.MarkChanges.{note_here, note_there}
use Rattle.pp_model.proofs.Framed.{fresh_note}
use Rattle.pp_model.proofs.Crews.{crew_of, turn, turn_plans}
use Rattle.pp_model.proofs.Rest.{can_renew, idle_left, bound_renews}
use Rattle.pp_model.proofs.Spans.{flushes_fit}

-- ---- the need of the journal

same_need : (s t : State) → Change s t → journal_need t.settings t.plans ≡ journal_need s.settings s.plans
same_need s t c =
    let d = turn_plans (crew_of s) (crew_of t) (turn s t c) in
    λ i. journal_need (d.1 i) (d.0 i)

more_need : (k : Settings) (plans : List Acceptance) (a : Acceptance)
    → journal_need k (plans ++ a ∷ []) ≡ journal_need k plans + cost_of a
more_need k plans a = omega (arith, sum_by-append cost_of plans (a ∷ []), sum_by-cons cost_of a [])

not_long : (alike many long : Bool) → ◌≡◌ {A = Option SubmitError} (error_where alike many long) None → long ≡ false
not_long false many long e = cc
not_long true true long e = cc
not_long true false true e = cc
not_long true false false e = refl

not_less : (most n : ℕ) → nat_lt most n ≡ false → n ≤ most
not_less most n e = grind (arith, nat_tests)

abbrev Fits : State → Type 0
Fits s = journal_need s.settings s.plans ≤ most_events s.settings.span

same_span : (s t : State) → Change s t → most_events t.settings.span ≡ most_events s.settings.span
same_span s t c =
    let d = turn_plans (crew_of s) (crew_of t) (turn s t c) in
    λ i. most_events ((d.1 i).span)

fits_kept : IsKept Fits
fits_kept = record {
  opens = λ k ok. omega (arith, flushes_fit k.span k.flushes ok.flushes);
  moves = λ s t c h. omega (arith, h, same_need s t c, same_span s t c);
  submits = λ s a ok e h.
      omega (
        arith,
        more_need s.settings s.plans a,
        not_less (most_events s.settings.span) (journal_need s.settings s.plans + cost_of a) (not_long _ _ _ e),
      );
  renews = λ s ok e h. omega (arith, flushes_fit s.settings.span s.settings.flushes ok.flushes);
}

pub need_is_small : (s : State) → IsReached s → journal_need s.settings s.plans ≤ most_events s.settings.span
need_is_small s h = holds Fits s fits_kept h

-- ---- what becomes of a mark

-- A note that is written gives its own page its mark, and the others keep theirs.
pub noted_mark : (s : State) (p : ℕ) (n : Note) (q m : ℕ) → known_mark (with_note s p n) q ≡ Some m
    → (known_mark s q ≡ Some m) ⊎ ((q ≡ p) × (n.mark ≡ Some m))
noted_mark s p n q m e = go (which q p) (cases_lt p (length s.notes))
  where
    go : Which q p → (p < length s.notes) ⊎ (length s.notes ≤ p)
        → (known_mark s q ≡ Some m) ⊎ ((q ≡ p) × (n.mark ≡ Some m))
    go (other d f) low = inl (sym (ap (λ (x : Note). x.mark) (note_there s p q n d)) ∙ e)
    go (same d f) (inl low) =
        inr (d, sym (ap (λ (x : Note). x.mark) (note_here s p n low)) ∙ ap (known_mark (with_note s p n)) (sym d) ∙ e)
    go (same d f) (inr past) =
        inl (sym (ap (λ x. known_mark (record s { notes = x }) q) (set_past s.notes p n past)) ∙ e)

pub kept_mark : (s : State) (p : ℕ) (n : Note) (q m : ℕ) → n.mark ≡ known_mark s p
    → known_mark (with_note s p n) q ≡ Some m → known_mark s q ≡ Some m
kept_mark s p n q m mark e = go (noted_mark s p n q m e)
  where
    go : (known_mark s q ≡ Some m) ⊎ ((q ≡ p) × (n.mark ≡ Some m)) → known_mark s q ≡ Some m
    go (inl a) = a
    go (inr b) = ap (known_mark s) b.0 ∙ sym mark ∙ b.1

-- A mark that a page has after a move: it had it before; or it was read, and is below this number; or it is one more.
data Rises (top : ℕ) (s : State) (q m : ℕ) : Type 0 where
  lasts : known_mark s q ≡ Some m → Rises top s q m
  read : m < top → Rises top s q m
  rises : m ≡ mark_at s q + 1 → Rises top s q m

released_rises : (top : ℕ) (s : State) (k : Held) (p q m : ℕ) → known_mark (released s k p) q ≡ Some m
    → Rises top s q m
released_rises top s Free p q m e = lasts e
released_rises top s S p q m e = lasts e
released_rises top s X p q m e =
    go (noted_mark s p (record (note_of s p) { mark = Some (mark_at s p + 1); dirty = true }) q m e)
  where
    go : (known_mark s q ≡ Some m) ⊎ ((q ≡ p) × (Some (mark_at s p + 1) ≡ Some m)) → Rises top s q m
    go (inl a) = lasts a
    go (inr b) =
        let is : mark_at s p + 1 ≡ m = let both = b.1 in cc in
        rises (sym is ∙ ap (λ x. mark_at s x + 1) (sym b.0))

-- The stamp that was read is the known mark, or below 2^62.
stamped : (top : ℕ) (s : State) (q stamp : ℕ) (o : Option ℕ) → known_mark s q ≡ o
    → (o ≡ None → nat_le top stamp ≡ false) → ((k : ℕ) → o ≡ Some k → not (k == stamp) ≡ false) → Rises top s q stamp
stamped top s q stamp None e new old =
    let below = new refl in
    read (grind (arith, nat_tests))
stamped top s q stamp (Some k) e new old =
    let isnt = old k refl in
    let is : k ≡ stamp = same_stamp k stamp isnt in
    lasts (e ∙ ap (λ (x : ℕ). Some x) is)
  where
    same_stamp : (k stamp : ℕ) → not (k == stamp) ≡ false → k ≡ stamp
    same_stamp k stamp e = grind (arith, nat_tests)

higher : (low top : ℕ) (s : State) (q m : ℕ) → low ≤ top → Rises low s q m → Rises top s q m
higher low top s q m le (lasts e) = lasts e
higher low top s q m le (read lt) = read (omega (arith, lt, le))
higher low top s q m le (rises e) = rises e

known_stamp : (s : State) (page stamp : ℕ) → is_other (known_mark s page) stamp ≡ false
    → Rises (2 ^ 63) s page stamp
known_stamp s page stamp e =
    higher (2 ^ 62) (2 ^ 63) s page stamp (omega arith)
    (stamped (2 ^ 62) s page stamp (known_mark s page) refl (λ f. sym (ap (λ o. is_other o stamp) f) ∙ e)
    (λ k f. sym (ap (λ o. is_other o stamp) f) ∙ e))

moved_mark : (s : State) (a b : ℕ) (f g : Option ℕ) (q m : ℕ)
    → known_mark (with_frame (with_frame s a f) b g) q ≡ Some m → known_mark s q ≡ Some m
moved_mark s a b f g q m e =
    let u = with_frame s a f in
    kept_mark s a (record (note_of s a) { frame = f }) q m refl
    (kept_mark u b (record (note_of u b) { frame = g }) q m refl e)

at_next : (s t u : State) (q m : ℕ) → t ≡ u → known_mark t q ≡ Some m → known_mark u q ≡ Some m
at_next s t u q m e f = sym (ap (λ x. known_mark x q) e) ∙ f

mark_turn : (s t : State) → Change s t → (q m : ℕ) → known_mark t q ≡ Some m → Rises (2 ^ 63) s q m
mark_turn s t (change.stays e) q m f = lasts (at_next s t _ q m e f)
mark_turn s t (change.takes w a idle next fits e) q m f = lasts (at_next s t _ q m e f)
mark_turn s t (change.hits w r slot page l asked is e) q m f = lasts (at_next s t _ q m e f)
mark_turn s t (change.fills w r slot page l asked is e) q m f =
    lasts (kept_mark (with_lists s l) page (record (note_of s page) { frame = Some (free_frame s) }) q m refl
    (at_next s t _ q m e f))
mark_turn s t (change.evicts w r slot page v l asked is clean e) q m f =
    lasts (moved_mark (with_lists s l) v page None (Some (frame_at s v)) q m (at_next s t _ q m e f))
mark_turn s t (change.sends w r slot page v l asked is dirty e) q m f =
    lasts (moved_mark (with_lists s l) v page None (Some (frame_at s v)) q m (at_next s t _ q m e f))
mark_turn s t (change.writes w r slot page v at e) q m f =
    lasts (kept_mark s v (record (note_of s v) { dirty = false }) q m refl (at_next s t _ q m e f))
mark_turn s t (change.brings w r slot page v at e) q m f =
    lasts (moved_mark (with_lists s (bring_back s.lists page v)) page v None (frame_of s page) q m
    (at_next s t _ q m e f))
mark_turn s t (change.forgets w r slot page at e) q m f =
    lasts (kept_mark (with_lists s (forget s.lists page)) page (record (note_of s page) { frame = None }) q m refl
    (at_next s t _ q m e f))
mark_turn s t (change.loads w r slot page stamp at known e) q m f =
    go (noted_mark s page (record (note_of s page) { mark = Some stamp }) q m (at_next s t _ q m e f))
  where
    go : (known_mark s q ≡ Some m) ⊎ ((q ≡ page) × (Some stamp ≡ Some m)) → Rises (2 ^ 63) s q m
    go (inl a) = lasts a
    go (inr b) =
        let is : stamp ≡ m = let both = b.1 in cc in
        subst (λ x. Rises (2 ^ 63) s q x) is
        (subst (λ x. Rises (2 ^ 63) s x stamp) (sym b.0) (known_stamp s page stamp known))
mark_turn s t (change.unfixes w r slot a back asked e) q m f = lasts (at_next s t _ q m e f)
mark_turn s t (change.latches w r slot k asked goes e) q m f = lasts (at_next s t _ q m e f)
mark_turn s t (change.unlatches w r slot asked e) q m f =
    released_rises (2 ^ 63) s (held_in r slot) (page_in r slot) q m (at_next s t _ q m e f)
mark_turn s t (change.chooses w r i asked e) q m f = lasts (at_next s t _ q m e f)
mark_turn s t (change.unwinds w r slot given k at found e) q m f =
    released_rises (2 ^ 63) s k.held k.page q m (at_next s t _ q m e f)
mark_turn s t (change.ends w r at asked e) q m f = lasts (at_next s t _ q m e f)
mark_turn s t (change.leaves w r given at none e) q m f = lasts (at_next s t _ q m e f)
mark_turn s t (change.flushes page can e) q m f = lasts (at_next s t _ q m e f)
mark_turn s t (change.cleans k is e) q m f =
    lasts (kept_mark s k.page (record (note_of s k.page) { dirty = false }) q m refl (at_next s t _ q m e f))
mark_turn s t (change.drops k is e) q m f = lasts (at_next s t _ q m e f)

-- ---- the bound is at most the need, and marks with it at most 2^62 more

falls_or_stays : (s t : State) → Change s t → GoodSeats s → (t ≡ s) ⊎ (bound t + 1 ≤ bound s)
falls_or_stays s t (change.stays e) good = inl e
falls_or_stays s t c good = inr (falls s t good c tt)

record Small (s : State) : Type 0 where
  pub fits : bound s ≤ journal_need s.settings s.plans
  pub marks : (q m : ℕ) → known_mark s q ≡ Some m → m + bound s ≤ 2 ^ 63 + journal_need s.settings s.plans

-- A mark after a move that lowered the bound.
carried : (top need now next q m : ℕ) (s : State) → Rises top s q m → next + 1 ≤ now → now ≤ need
    → ((k : ℕ) → known_mark s q ≡ Some k → k + now ≤ top + need) → m + next ≤ top + need
carried top need now next q m s (lasts e) less fits all = omega (arith, all m e, less)
carried top need now next q m s (read lt) less fits all = omega (arith, lt, less, fits)
carried top need now next q m s (rises e) less fits all = go (known_mark s q) refl
  where
    go : (o : Option ℕ) → known_mark s q ≡ o → m + next ≤ top + need
    go None f =
        let one : m ≡ 1 = omega (arith, e, ap (λ (x : Option ℕ). unwrap_or x 0) f) in omega (arith, one, less, fits)
    go (Some k) f =
        let more : m ≡ k + 1 = omega (arith, e, ap (λ (x : Option ℕ). unwrap_or x 0) f) in
        omega (arith, more, less, all k f)

small_next : (s t : State) → Change s t → Small s → (t ≡ s) ⊎ (bound t + 1 ≤ bound s) → Small t
small_next s t c h (inl e) = subst Small (sym e) h
small_next s t c h (inr less) = record {
  fits = omega (arith, less, h.fits, same_need s t c);
  marks = λ q m e.
      let need = journal_need s.settings s.plans in
      let all = carried (2 ^ 63) need (bound s) (bound t) q m s (mark_turn s t c q m e) less
      h.fits (λ k f. h.marks q k f) in
      subst (λ n. m + bound t ≤ 2 ^ 63 + n) (sym (same_need s t c)) all;
}

-- The seats are good, and no more plans were taken than there are.
abbrev Ordered : State → Type 0
Ordered s = GoodSeats s × Taken s

ordered_kept : IsKept Ordered
ordered_kept =
    both GoodSeats Taken good_kept (record {
      opens = taken_kept.opens;
      moves = λ s t c good h. taken_kept.moves s t c h;
      submits = λ s a ok e good h. taken_kept.submits s a ok e h;
      renews = λ s ok e good h. taken_kept.renews s ok e h;
    })

small_under : IsKeptUnder Ordered Small
small_under = record {
  opens = λ k ok. record {
    fits = omega (arith, idle_left k.workers);
    marks = λ q m e.
        let none : None ≡ Some m = sym (ap (λ (x : Note). x.mark) (fresh_note k q)) ∙ e in cc;
  };
  moves = λ s t c good h. small_next s t c h (falls_or_stays s t c good.0);
  submits = λ s a ok e good h.
      let costs = drop_more s.taken s.plans a good.1 in
      let need = more_need s.settings s.plans a in
      let rises : bound (submitted s a) ≡ bound s + cost_of a = omega (arith, costs) in
      record {
        fits = omega (arith, rises, need, h.fits);
        marks = λ q m f.
            let all = more (2 ^ 63) m (bound s) (journal_need s.settings s.plans) (cost_of a) (bound (submitted s a))
            (journal_need s.settings (s.plans ++ a ∷ [])) rises need (h.marks q m f) in
            all;
      };
  renews = λ s ok e good h. record {
    fits = omega (arith, bound_renews s e);
    marks = λ q m f. begun (2 ^ 63) m (bound (renewed s)) (journal_need s.settings []) s.settings.flushes (bound_renews s e)
        (omega arith) ((can_renew s e).low q m f);
  };
}
  where
    begun : (top m now need flushes : ℕ) → now ≡ 2 * flushes → need ≡ 2 * flushes → m < top → m + now ≤ top + need
    begun top m now need flushes e f lt = omega arith

    more : (top m now need cost next later : ℕ) → next ≡ now + cost → later ≡ need + cost → m + now ≤ top + need
        → m + next ≤ top + later
    more top m now need cost next later e f le = omega arith

pub small_marks : (s : State) → IsReached s → (q m : ℕ) → known_mark s q ≡ Some m
    → m + bound s ≤ 2 ^ 63 + journal_need s.settings s.plans
small_marks s h q m e =
    (holds (λ x. Ordered x × Small x) s (both Ordered Small ordered_kept small_under) h).1.marks q m e

pub bound_within : (s : State) → IsReached s → bound s ≤ journal_need s.settings s.plans
bound_within s h = (holds (λ x. Ordered x × Small x) s (both Ordered Small ordered_kept small_under) h).1.fits

within : (top m now need most : ℕ) → m + now ≤ top + need → need ≤ most → m + now ≤ top + most
within top m now need most a b = omega arith

pub marks_are_small : (s : State) → IsReached s → (q m : ℕ) → known_mark s q ≡ Some m
    → m + bound s ≤ 2 ^ 63 + most_events s.settings.span
marks_are_small s h q m e =
    within (2 ^ 63) m (bound s) (journal_need s.settings s.plans) (most_events s.settings.span) (small_marks s h q m e) (need_is_small s h)
