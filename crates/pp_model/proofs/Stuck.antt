-- No worker can find all frames fixed at a fix that its plan asks, and a fix that a flush holds up waits for the flush
-- alone.
use Rattle.std.proofs.Common.{◌≡◌, ◌≢◌, ◌∙◌, ℕ, suc, ◌+◌, ◌≤◌, ◌<◌, Bool, true, false, Option, Some, None}
use Rattle.std.proofs.Common.{List, [], ◌∷◌, ◌++◌, length, refl, ap, subst, arith}
use Rattle.std.specs.Prelude.{slice_get, sum_by, IsTrue, flat_map, filter, unwrap_or, not, ◌||◌, ◌==◌}
use Rattle.std.proofs.lemmas.Bool.Decides.{nat_tests}
use Rattle.std.proofs.lemmas.List.{length-map, length-append}
use Rattle.std.proofs.lemmas.List.Sums.{sum_by-cons, length-filter, count_by-le-length}
use Rattle.std.proofs.lemmas.List.Concat.{length-flat_map}
use Rattle.pp_settings.specs.Layout.{Geometry}
use Rattle.pp_plan.specs.declared.action.Action.{Action}
use Rattle.pp_plan.specs.declared.action.Action.TheVariants as action
use Rattle.pp_plan.specs.declared.action.Ask.{Ask}
use Rattle.pp_cert.specs.Held.{Holding, Holdings, plain_page, bundle_page, held, size_of}
use Rattle.pp_arc.specs.declared.answer.Answer.{Answer}
use Rattle.pp_arc.specs.declared.answer.Answer.TheVariants as answer
use Rattle.pp_arc.specs.Pages.{contains, times_in}
use Rattle.pp_arc.specs.FourLists.{FourLists, is_cached, cached_count}
use Rattle.pp_arc.specs.Figure.{request}
use Rattle.pp_arc.proofs.PageLemmas.{times_in-contains_not}
use Rattle.pp_arc.proofs.LawLemmas.{RequestAnswers-request}
use Rattle.pp_model.specs.Holders.{times}
use Rattle.pp_model.specs.declared.refusals.Delay.TheVariants.{FlushHolds}
use Rattle.pp_model.specs.declared.reply.Reply.TheVariants.{NotNow}
use Rattle.pp_model.specs.Pool.{Stage, acting, writing, reading, leaving, Running, Flush, State}
use Rattle.pp_model.specs.Holders.{given_back, is_among, holdings, held_pages, loading, takes, is_taken, is_flushed}
use Rattle.pp_model.specs.Holders.{is_busy, is_in_flight}
use Rattle.pp_model.specs.Budget.{peak_of}
use Rattle.pp_model.specs.Outcome.{Outcome, having_done, with_lists}
use Rattle.pp_model.specs.Fixing.{fix_slot, evict_where, fix_by, fix_where, fix_asked, fixes}
use Rattle.pp_model.specs.Moves.{asked_by, act_in, act_by, seat_of}
use Rattle.pp_model.specs.Turns.{Asks}
use Rattle.pp_model.specs.Reached.{IsReached}
use Rattle.pp_model.specs.Laws.{IsAllFixed, IsActing, Brings, NoneStuck, FlushHoldsAlone, WithinPeaks}
use Rattle.pp_model.proofs.Sums.{sum_by-lt, times-cons, times-append, spread, covers}
use Rattle.pp_model.proofs.Changes.{slot_asked}
use Rattle.pp_model.proofs.Room.{room}
use Rattle.pp_model.proofs.Seats.{IsSeat, OkSeat, Sends, asks_now, begins_more, good}
use Rattle.pp_model.proofs.Swaps.{Handles, by_fix}
use Rattle.pp_model.proofs.Effects.{all_held, has_held, asked_handles}
use Rattle.pp_model.proofs.Soundness.{sound}

-- ---- what one worker takes

size_is : (hs : Holdings) → sum_by (λ h. 1) hs ≡ length hs
size_is [] = refl
size_is (h ∷ hs) = omega (arith, sum_by-cons (λ (k : Holding). 1) h hs, size_is hs)

-- What is held after a beginning of a trace is at most the peak.
begun_held : (g : Geometry) (r : Running) → IsSeat g r → given_back r.stage ≡ [] → length (holdings r) ≤ r.accepted.peak
begun_held g r h none =
    let before = has_held g r h in
    omega (arith, ap length (all_held r before.0 none before.1), ap size_of before.1, h.accepted.pins r.done h.begun)

-- What an action that brings a page does to a number of holdings.
brought : (hs ks : Holdings) (a : Action) (page : ℕ) → Brings a page → Handles hs ks a
    → sum_by (λ (k : Holding). 1) ks ≡ suc (sum_by (λ (k : Holding). 1) hs)
brought hs ks (action.Fix slot p) page b h =
    omega (arith, h.1 (λ k. 1), sum_by-cons (λ (k : Holding). 1) (plain_page slot p) [])
brought hs ks (action.Gather slot p) page b h =
    omega (arith, h.1 (λ k. 1), sum_by-cons (λ (k : Holding). 1) (bundle_page slot p) [])
brought hs ks (action.Unfix slot) page b h = absurd b
brought hs ks (action.Latch slot m) page b h = absurd b
brought hs ks (action.Unlatch slot) page b h = absurd b
brought hs ks (action.Scatter slot) page b h = absurd b
brought hs ks (action.Choose i) page b h = absurd b

-- At an action that is asked and brings a page one pin more fits the peak.
pub brings_fits : (g : Geometry) (r : Running) (a : Action) (page : ℕ) → IsSeat g r → given_back r.stage ≡ []
    → Asks r a → Brings a page → suc (length (holdings r)) ≤ r.accepted.peak
brings_fits g r a page h none asks brings =
    let more = brought (holdings r) (holdings (having_done r a)) a page brings (asked_handles g r a h none asks) in
    let next : IsSeat g (having_done r a) = record
    { accepted = h.accepted; layout = h.layout; begun = begins_more r a asks; errand = tt } in
    omega (
      arith,
      more,
      size_is (holdings r),
      size_is
          (holdings (having_done r a)),
      begun_held g (having_done r a) next refl,
    )

-- What goes into a slot is such an action.
pub brings_it : (k : Ask) (slot page : ℕ) → Brings (fixes k slot page) page
brings_it k slot page = by_fix (λ a b. Brings a page) k slot page refl refl

pub fix_fits : (g : Geometry) (r : Running) (slot page : ℕ) → IsSeat g r → given_back r.stage ≡ []
    → Asks r (fixes (asked_by r) slot page)
    → suc (length (holdings r)) ≤ r.accepted.peak
fix_fits g r slot page h none asks =
    brings_fits g r (fixes (asked_by r) slot page) page h none asks (brings_it (asked_by r) slot page)

-- What is given back is held no more.
filtered : (o : Option Holdings) (p : Holding → Bool) → length (filter p (unwrap_or o [])) ≤ size_of o
filtered None p = omega arith
filtered (Some hs) p = omega (arith, length-filter p hs, count_by-le-length p hs)

kept_few : (r : Running) → length (holdings r) ≤ size_of (held r.done)
kept_few r = filtered (held r.done) (λ h. not (is_among (given_back r.stage) h))

peak_at : (g : Geometry) (r : Running) (k : Stage) → r.stage ≡ k → IsSeat g r
    → length (holdings r) + length (loading k) ≤ r.accepted.peak
peak_at g r acting e h = omega (arith, begun_held g r h (ap given_back e))
peak_at g r (writing slot page v) e h =
    let asks : Asks r (fixes (asked_by r) slot page) = subst (Sends r) e h.errand in omega
    (arith, fix_fits g r slot page h (ap given_back e) asks)
peak_at g r (reading slot page) e h =
    let asks : Asks r (fixes (asked_by r) slot page) = subst (Sends r) e h.errand in omega
    (arith, fix_fits g r slot page h (ap given_back e) asks)
peak_at g r (leaving given) e h = omega (arith, kept_few r, h.accepted.pins r.done h.begun)

pub within_peaks : (s : State) → IsReached s → WithinPeaks s
within_peaks s h w r e = peak_at s.settings.layout r r.stage refl ((good s h).seats w (Some r) e)

pub takes_length : (r : Running) → length (takes (Some r)) ≡ length (holdings r) + length (loading r.stage)
takes_length r =
    omega (arith, length-append (held_pages (holdings r)) (loading r.stage), length-map (holdings r) (λ h. h.page))

pub seat_takes : (g : Geometry) (x : Option Running) → OkSeat g x → length (takes x) ≤ peak_of x
seat_takes g None h = omega arith
seat_takes g (Some r) h = omega (arith, takes_length r, peak_at g r r.stage refl h)

-- ---- all workers together

-- The pages that the workers take, in one list.
abbrev pub taken_pages : List (Option Running) → List ℕ
taken_pages seats = flat_map takes seats

pub times_taken : (q : ℕ) (seats : List (Option Running))
    → times q (taken_pages seats) ≡ sum_by (λ x. times q (takes x)) seats
times_taken q [] = refl
times_taken q (x ∷ xs) =
    omega (
      arith,
      times-append q (takes x) (taken_pages xs),
      times_taken q xs,
      sum_by-cons
          (λ y. times q (takes y)) x xs,
    )

times_is : (q : ℕ) (xs : List ℕ) → times q xs ≡ times_in xs q
times_is q [] = refl
times_is q (x ∷ xs) = omega (arith, times-cons q x xs, times_is q xs)

pub cached_times : (l : FourLists) (q : ℕ) → times q (l.t1 ++ l.t2) ≡ times_in l.t1 q + times_in l.t2 q
cached_times l q = omega (arith, times-append q l.t1 l.t2, times_is q l.t1, times_is q l.t2)

-- Where every cached page is taken, a page of T1 or T2 is.
cached_taken : (s : State) (q : ℕ) → ((x : ℕ) → IsTrue (is_cached s.lists x) → IsTrue (is_taken s x))
    → 0 < times q (s.lists.t1 ++ s.lists.t2) → 0 < times q (taken_pages s.seats)
cached_taken s q all lt = go (contains s.lists.t1 q) (contains s.lists.t2 q) refl refl
  where
    taken : is_cached s.lists q ≡ true → 0 < times q (taken_pages s.seats)
    taken cached = let pinned = all q cached in let e = times_taken q s.seats in grind (arith, nat_tests)

    go : (a b : Bool) → contains s.lists.t1 q ≡ a → contains s.lists.t2 q ≡ b → 0 < times q (taken_pages s.seats)
    go true b e f = taken (ap (λ x. x || contains s.lists.t2 q) e)
    go false true e f = taken (ap (λ x. x || contains s.lists.t2 q) e ∙ f)
    go false false e f =
        absurd (omega (
          arith,
          lt,
          cached_times s.lists q,
          times_in-contains_not s.lists.t1 q e,
          times_in-contains_not
              s.lists.t2 q f,
        ))

-- ---- the laws

-- The worker that asks holds fewer slots than its peak, so fewer pages are taken than there are frames.
pub none_stuck : (s : State) → IsReached s → NoneStuck s
none_stuck s h w page r a act asks brings stuck =
    let g = good s h in
    let layout = s.settings.layout in
    let seat : IsSeat layout r = g.seats w (Some r) act.seat in
    let each : (v : ℕ) (x : Option Running) → slice_get s.seats v ≡ Some x → length (takes x) ≤ peak_of x =
    λ v x e. seat_takes layout x (g.seats v x e) in
    let less : suc (length (takes (Some r))) ≤ r.accepted.peak =
    omega (
      arith,
      takes_length r,
      ap (λ k. length (loading k)) act.stage,
      brings_fits layout r a page seat
          (ap given_back act.stage) asks brings,
    ) in
    let fewer = sum_by-lt (λ x. length (takes x)) peak_of s.seats w (Some r) each act.seat less in
    let cached = s.lists.t1 ++ s.lists.t2 in
    let few = spread cached (taken_pages s.seats)
    (λ q. omega (arith, cached_times s.lists q, (sound s h).bounds.once q)) in
    let many = covers (λ p. times p (taken_pages s.seats)) cached (λ q. cached_taken s q stuck.fixed) in
    absurd (omega (
      arith,
      fewer,
      few,
      many,
      length-append s.lists.t1 s.lists.t2,
      length-flat_map takes s.seats,
      stuck.full,
      room s h,
    ))

-- Where a fix is answered FlushHolds, a worker asks it and ARC answers AllBusy.
pub record IsHeldUp (s : State) (w page : ℕ) (r : Running) (slot : ℕ) : Type 0 where
  pub act : IsActing s w r
  pub names : fix_slot r page (asked_by r) ≡ Some slot
  pub busy : (request s.lists page (is_busy s)).0 ≡ answer.AllBusy

abbrev HoldsUp : State → (w page : ℕ) → Outcome → Type 0
HoldsUp s w page o = o.reply ≡ NotNow FlushHolds → (r : Running) × (slot : ℕ) × IsHeldUp s w page r slot

evict_replies : (s : State) (w : ℕ) (r : Running) (slot page v : ℕ) (b : Bool)
    → (evict_where s w r slot page v b).reply ≡ NotNow FlushHolds → ⊥
evict_replies s w r slot page v true e = cc
evict_replies s w r slot page v false e = cc

answer_holds : (s : State) (l : FourLists) (w : ℕ) (r : Running) (slot page : ℕ) (a : Answer)
    → (fix_by s l w r slot page a).reply ≡ NotNow FlushHolds → a ≡ answer.AllBusy
answer_holds s l w r slot page answer.Hit e = cc
answer_holds s l w r slot page answer.Free e = cc
answer_holds s l w r slot page (answer.Evict v) e = absurd (evict_replies (with_lists s l) w r slot page v _ e)
answer_holds s l w r slot page answer.AllBusy e = refl

flight_holds : (s : State) (w : ℕ) (r : Running) (slot page : ℕ) (b : Bool) → IsActing s w r
    → fix_slot r page (asked_by r) ≡ Some slot
    → HoldsUp s w page (fix_where s w r slot page b)
flight_holds s w r slot page true act names e = cc
flight_holds s w r slot page false act names e =
    let answered = request s.lists page (is_busy s) in
    (r, slot, record { act = act; names = names; busy = answer_holds s answered.1 w r slot page answered.0 e })

asked_holds : (s : State) (w : ℕ) (r : Running) (page : ℕ) (o : Option ℕ) → IsActing s w r
    → fix_slot r page (asked_by r) ≡ o
    → HoldsUp s w page (fix_asked s w r page o)
asked_holds s w r page None act names e = cc
asked_holds s w r page (Some slot) act names e = flight_holds s w r slot page (is_in_flight s page) act names e

stage_holds : (s : State) (w : ℕ) (r : Running) (page : ℕ) (g : Stage) → seat_of s w ≡ Some (Some r) → r.stage ≡ g
    → HoldsUp s w page (act_in s (λ x. fix_asked s w x page (fix_slot x page (asked_by x))) r g)
stage_holds s w r page acting seat f e =
    asked_holds s w r page (fix_slot r page (asked_by r)) (record { seat = seat; stage = f }) refl e
stage_holds s w r page (writing slot x v) seat f e = cc
stage_holds s w r page (reading slot x) seat f e = cc
stage_holds s w r page (leaving given) seat f e = cc

seat_holds : (s : State) (w page : ℕ) (o : Option (Option Running)) → seat_of s w ≡ o
    → HoldsUp s w page (act_by s (λ x. fix_asked s w x page (fix_slot x page (asked_by x))) o)
seat_holds s w page None f e = cc
seat_holds s w page (Some None) f e = cc
seat_holds s w page (Some (Some r)) f e = stage_holds s w r page r.stage f refl e

or_left : (a b : Bool) → (a || b) ≡ true → b ≡ false → a ≡ true
or_left true b e f = refl
or_left false b e f = cc

unflushed : (f : Option Flush) (q : ℕ) → ((k : Flush) → f ≡ Some k → k.page ≢ q) → is_flushed f q ≡ false
unflushed None q ne = refl
unflushed (Some k) q ne = let other = ne k refl in grind (arith, nat_tests)

pub flush_holds_alone : (s : State) → IsReached s → FlushHoldsAlone s
flush_holds_alone s h w page e =
    let up = seat_holds s w page (seat_of s w) refl e in
    let r = up.0 in
    let slot = up.1 in
    let seat = (good s h).seats w (Some r) up.2.act.seat in
    let asks = asks_now s.settings.layout r (fixes (asked_by r) slot page) seat
    (slot_asked r page slot (asked_by r) up.2.names) in
    let all = (RequestAnswers-request s.lists page (is_busy s) (sound s h).bounds).all_busy.0 up.2.busy in
    go s.flush refl (none_stuck s h w page r (fixes (asked_by r) slot page) up.2.act asks (brings_it (asked_by r) slot page)) all.0 (all.1 ∙ (sound s h).c) all.2
  where
    -- Were the flushed page taken, or none flushed, all frames would be fixed.
    go : (o : Option Flush) → s.flush ≡ o → ¬ IsAllFixed s page → is_cached s.lists page ≡ false
        → cached_count s.lists ≡ s.settings.layout.frames
        → ((q : ℕ) → IsTrue (is_cached s.lists q) → IsTrue (is_busy s q))
        → (f : Flush) × (s.flush ≡ Some f) × (is_taken s f.page ≡ false)
    go None f free away full busy =
        let fixed : (q : ℕ) → IsTrue (is_cached s.lists q) → IsTrue (is_taken s q) =
        λ q here. or_left (is_taken s q) (is_flushed s.flush q) (busy q here) (ap (λ o. is_flushed o q) f) in
        absurd (free (record { away = away; full = full; fixed = fixed }))
    go (Some k) f free away full busy = (k, f, taken (is_taken s k.page) refl)
      where
        taken : (b : Bool) → is_taken s k.page ≡ b → b ≡ false
        taken false g = refl
        taken true g =
            let fixed : (q : ℕ) → IsTrue (is_cached s.lists q) → IsTrue (is_taken s q) =
            λ q here. other q (k.page == q) refl (busy q here) in
            absurd (free (record { away = away; full = full; fixed = fixed }))
          where
            other : (q : ℕ) (b : Bool) → (k.page == q) ≡ b → is_busy s q ≡ true → is_taken s q ≡ true
            other q true x y =
                let same : k.page ≡ q = grind (arith, nat_tests) in subst (λ p. is_taken s p ≡ true) same g
            other q false x y = or_left (is_taken s q) (is_flushed s.flush q) y (ap (λ o. is_flushed o q) f ∙ x)
