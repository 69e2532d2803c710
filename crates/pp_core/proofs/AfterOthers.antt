-- What a done move found; what the other workers have after it; and which marks it leaves.
use Rattle.std.proofs.Common.{◌≡◌, ◌≢◌, ◌∙◌, ◌⊎◌, ◌<◌, ◌≤◌, ℕ, zero, suc, ◌+◌, Bool, true, false, eqb, cond, Option}
use Rattle.std.proofs.Common.{Some, None, List, [], ◌∷◌, length, refl, sym, ap, subst, inl, inr, arith}
use Rattle.std.specs.Prelude.{unwrap_or, slice_get, slice_set, slice_index_or, option_map, sum_by, ◌==◌}
use Rattle.std.proofs.lemmas.Bool.{cases_lt, false≢true}
use Rattle.std.proofs.lemmas.Bool.Decides.{nat_tests}
use Rattle.std.proofs.lemmas.List.{set_past}
use Rattle.std.proofs.lemmas.List.Sums.{sum_by-cons}
use Rattle.pp_plan.specs.declared.mode.Mode.{Mode}
use Rattle.pp_plan.specs.declared.mode.Mode.TheVariants as mode
use Rattle.pp_plan.specs.declared.action.Action.TheVariants as action
use Rattle.pp_plan.specs.declared.action.Ask.TheVariants as ask
use Rattle.pp_cert.specs.declared.note.Held.{Held}
use Rattle.pp_cert.specs.declared.note.Held.TheVariants.{Free, S, X}
use Rattle.pp_cert.specs.Held.{Holding, Holdings, holding_slot, holding_at, holds_bundle, held_in as held_for}
use Rattle.pp_arc.specs.Figure.{forget, bring_back}
use Rattle.pp_model.specs.declared.moves.Move.{Move}
use Rattle.pp_model.specs.declared.moves.Move.TheVariants as move
use Rattle.pp_model.specs.declared.moves.Came.{Came}
use Rattle.pp_model.specs.declared.refusals.SubmitError.{SubmitError}
use Rattle.pp_model.specs.declared.reply.Ending.{Ending}
use Rattle.pp_model.specs.declared.reply.Ending.TheVariants as ending
use Rattle.pp_model.specs.declared.reply.Reply.TheVariants as reply
use Rattle.pp_model.specs.Pool.{reading, writing, leaving, Running, Note, Flush, State, untouched, note_of, frame_of, known_mark}
use Rattle.pp_model.specs.Pool.{mark_at}
use Rattle.pp_model.specs.Holders.{holdings, is_shared, is_exclusive, page_in, held_in, writers_of}
use Rattle.pp_model.specs.Outcome.{Outcome, with_note, with_frame, with_dirty, with_mark, with_lists, released}
use Rattle.pp_model.specs.Answers.{write_where, read_where, is_other}
use Rattle.pp_model.specs.Leaving.{unwind_where}
use Rattle.pp_model.specs.Flushing.{flush_over}
use Rattle.pp_model.specs.Moves.{seat_of, is_refusal, next_of}
use Rattle.pp_model.specs.Submitting.{submit_error, submitted_unless}
use Rattle.pp_model.specs.Reached.{IsReached}
use Rattle.pp_model.proofs.Changes.{IsAt}
use Rattle.pp_model.proofs.Framed.{taken_low, held_one, loads_one, sent_one}
use Rattle.pp_model.proofs.HoldingSteps as slots
use Rattle.pp_model.proofs.LatchLaws.{latches_agree}
use Rattle.pp_model.proofs.MarkChanges.{note_here, note_there, held_counts, on_page_once}
use Rattle.pp_model.proofs.Requests.{Which, same, other, which}
use Rattle.pp_model.proofs.Soundness.{sound}
use Rattle.pp_model.proofs.Sums.{sum_by-term}
use Rattle.pp_model.proofs.Totals.{weight, seat_weight, on_page, loads_of, victims_of, latched_on, readers_are, writers_are}
use Rattle.pp_core.specs.Queries.{idle_by, own_of, held_by, held_of, gathered_of}
use Rattle.pp_core.specs.AfterMoves.{WorkerStays, EndsBy, Found, DoneFound, OtherWorkersStay, PlansLeaveWorkers}
use Rattle.pp_core.specs.AfterMoves.{ExclusiveAlone, Releases, ExclusiveKeepsMark, SharedKeepsMark, VictimKeepsMark, MarkStays, OneKind}
use Rattle.pp_core.proofs.MoveWays.{OfRefusals, not_negated, named, of_take, of_fix, of_write, of_read, of_unfix, of_latch}
use Rattle.pp_core.proofs.MoveWays.{of_unlatch, of_choose, of_unwind, of_finish, of_flush, of_flushed}
use Rattle.pp_core.proofs.Crew.{set_apart}
use Rattle.pp_cert.proofs.Slots.{slot_all}
use Rattle.pp_model.proofs.Effects.{holdings_kept}
use Rattle.pp_model.proofs.HoldingSteps.{seat_is}
use Rattle.pp_model.proofs.KeptSlots.{IsKeptAt, own, packed}
use Rattle.pp_core.specs.Gathered.{bundle_in}
use Rattle.pp_core.proofs.Gathered.{plain_found, bundled_pages, bundle_is, none_bundled}
use Rattle.pp_core.proofs.SlotKinds.{bundle_alone, bundle_free, scatter_some}
use Rattle.pp_core.proofs.AfterSeats.{stays_by, none_of_its_own, asked_at, wanted_at, leaving_at, errand_at, held_found, HoldsSo, holds_so}
use Rattle.pp_core.proofs.AfterSeats.{same_held, some_same, writes, released_apart}
use Rattle.pp_core.proofs.AfterActs.{held_known}

-- The page of a flush.
abbrev page_of : Option Flush → Option ℕ
page_of o = option_map (λ (f : Flush). f.page) o

-- ---- what a done move found

module _ (s : State) (h : IsReached s) where
  -- A refused move found nothing.
  not_done : (Q : Type 0) → OfRefusals s (λ o. is_refusal o.reply ≡ false → Q)
  not_done Q = record { delay = λ d e. absurd (cc); fault = λ c e. absurd (cc) }

  -- What is found in a slot is told as its own, or as a bundle's pins.
  kind_found : (w slot : ℕ) (r : Running) (x : Holding) → seat_of s w ≡ Some (Some r)
      → holding_at (holdings r) slot ≡ Some x → (b : Bool) → x.bundled ≡ b
      → ((page : ℕ) × (how : Held) × (held_of s w slot ≡ Some (page, how))) ⊎ (0 < gathered_of s w slot)
  kind_found w slot r x seat found false e = inl (x.page, x.held, held_found s w r slot x seat found e)
  kind_found w slot r x seat found true e =
      inr (scatter_some s w r slot seat (ap holds_bundle found ∙ e) (bundle_alone s h w r seat slot x found e))

  pub done_found : DoneFound s
  done_found (move.Take w) = of_take s _ (not_done (Found s (move.Take w))) w (λ a idle e. ap idle_by idle)
  done_found (move.Fix w page) =
      of_fix s _ (not_done (Found s (move.Fix w page))) w page (record {
        hits = λ r k j l asks is e. (k, j, wanted_at s w r asks.asked.at ∙ asks.into);
        fills = λ r k j l asks e. (k, j, wanted_at s w r asks.asked.at ∙ asks.into);
        evicts = λ r k j v l asks e. (k, j, wanted_at s w r asks.asked.at ∙ asks.into);
        sends = λ r k j v l asks e. (k, j, wanted_at s w r asks.asked.at ∙ asks.into);
      })
  done_found (move.WriteDone w ok) =
      of_write s _ (not_done (Found s (move.WriteDone w ok))) w ok (λ r k p v at e. (k, p, v, errand_at s w r (writing k p v) at))
  done_found (move.ReadDone w came) =
      of_read s _ (not_done (Found s (move.ReadDone w came))) w came (record {
        loads = λ r k p stamp at image good e. (k, p, errand_at s w r (reading k p) at);
        fails = λ r k p failure at e. (k, p, errand_at s w r (reading k p) at);
      })
  done_found (move.Unfix w) =
      of_unfix s _ (not_done (Found s (move.Unfix w))) w
      (λ r k asking e.
      let asked = named s w r (ask.Unfix k) (action.Unfix k) asking refl in
      let x = slots.unfix_finds s h w r k asked in
      let plain = plain_found (holdings r) k x.0 _ x.1.found (slots.unfix_own s h w r k asked).1 in
      inl (
        k,
        x.0.page,
        asked_at s w r (ask.Unfix k) asking,
        held_found s w r k x.0 asking.at.seat x.1.found plain ∙ ap (λ u. Some (x.0.page, u)) x.2,
      ))
      (λ r k asking e.
      let asked = named s w r (ask.Scatter k) (action.Scatter k) asking refl in
      let found = slots.scatter_finds s h w r k asked in
      inr (k, asked_at s w r (ask.Scatter k) asking, scatter_some s w r k asking.at.seat found.0 found.1))
  done_found (move.Latch w) =
      of_latch s _ (not_done (Found s (move.Latch w))) w (λ r k m asking e.
      let asked = named s w r (ask.Latch k m) (action.Latch k m) asking (refl, refl) in
      let x = slots.latch_finds s h w r k m asked in (
        k,
        m,
        x.0.page,
        asked_at s w r (ask.Latch k m) asking,
        held_found s w r k x.0 asking.at.seat x.1.found
            (plain_found (holdings r) k x.0 _ x.1.found (slots.latch_own s h w r k m asked).1)
            ∙ ap (λ u. Some (x.0.page, u)) x.2,
      ))
  done_found (move.Unlatch w) =
      of_unlatch s _ (not_done (Found s (move.Unlatch w))) w (λ r k asking e.
      let asked = named s w r (ask.Unlatch k) (action.Unlatch k) asking refl in
      let x = slots.unlatch_finds s h w r k asked in
      let so : (m : Mode) × (x.0.held ≡ held_for m) = elim x.2 [ inl f ↦ (mode.S, f) | inr f ↦ (mode.X, f) ] in (
        k,
        so.0,
        x.0.page,
        asked_at s w r (ask.Unlatch k) asking,
        held_found s w r k x.0 asking.at.seat x.1.found
            (plain_found (holdings r) k x.0 _ x.1.found (slots.unlatch_own s h w r k asked).1)
            ∙ ap (λ u. Some (x.0.page, u)) so.1,
      ))
  done_found (move.Choose w i) =
      of_choose s _ (not_done (Found s (move.Choose w i))) w i (λ r n asking lt e. (n, asked_at s w r (ask.Choose n) asking, lt))
  done_found (move.Unwind w slot) =
      of_unwind s _ (not_done (Found s (move.Unwind w slot))) w slot (λ r given x at found e.
      (leaving_at s w r given at, kind_found w slot r x at.seat found x.bundled refl))
  done_found (move.Finish w) =
      of_finish s
      (λ o. is_refusal o.reply ≡ false → (by : Ending) × (o.reply ≡ reply.Finished by) × EndsBy s w by)
      (record { delay = λ d e. absurd (cc); fault = λ c e. absurd (cc) }) w (record {
        ends = λ r asking e. (ending.Done, refl, asked_at s w r ask.End asking);
        leaves = λ r given at empty e. (ending.Gone, refl, leaving_at s w r given at);
      })
  done_found (move.FlushBegin page) =
      of_flush s _ (not_done (Found s (move.FlushBegin page))) page (λ can e. ap page_of can.none)
  done_found (move.FlushDone ok) =
      of_flushed s _ (not_done (Found s (move.FlushDone ok))) ok (record {
        cleans = λ f is e. (f.page, ap page_of is);
        drops = λ f is e. (f.page, ap page_of is);
      })

-- ---- the other workers

-- What is told of worker v stays.
abbrev Stays : State → (v : ℕ) → Outcome → Type 0
Stays s v o = WorkerStays s o.state v

module _ (s : State) (w v : ℕ) (apart : Some w ≢ Some v) where
  refusals_stay : OfRefusals s (Stays s v)
  refusals_stay = record { delay = λ d. stays_by s s v refl; fault = λ c. stays_by s s v refl }

  -- Another seat is written.
  seated : (x : Option Running) → slice_get (slice_set s.seats w x) v ≡ seat_of s v
  seated x = set_apart s.seats w v x (λ e. apart (ap Some (sym e)))

  freed : (k : Held) (p : ℕ) (x : Option Running) → slice_get (slice_set (released s k p).seats w x) v ≡ seat_of s v
  freed k p x = released_apart s k p w v x (λ e. apart (ap Some (sym e)))

  written_stays : (ok : Bool) (r : Running) (k p u : ℕ) → Stays s v (write_where s w r k p u ok)
  written_stays true r k p u = stays_by s _ v (seated _)
  written_stays false r k p u = stays_by s _ v (seated _)

  take_stays : WorkerStays s (next_of s (move.Take w)) v
  take_stays = of_take s (Stays s v) refusals_stay w (λ a idle. stays_by s _ v (seated _))

  fix_stays : (page : ℕ) → WorkerStays s (next_of s (move.Fix w page)) v
  fix_stays page =
      of_fix s (Stays s v) refusals_stay w page (record {
        hits = λ r k j l asks is. stays_by s _ v (seated _);
        fills = λ r k j l asks. stays_by s _ v (seated _);
        evicts = λ r k j u l asks. stays_by s _ v (seated _);
        sends = λ r k j u l asks. stays_by s _ v (seated _);
      })

  write_stays : (ok : Bool) → WorkerStays s (next_of s (move.WriteDone w ok)) v
  write_stays ok = of_write s (Stays s v) refusals_stay w ok (λ r k p u at. written_stays ok r k p u)

  read_stays : (came : Came) → WorkerStays s (next_of s (move.ReadDone w came)) v
  read_stays came =
      of_read s (Stays s v) refusals_stay w came (record {
        loads = λ r k p stamp at image good. stays_by s _ v (seated _);
        fails = λ r k p failure at. stays_by s _ v (seated _);
      })

  unfix_stays : WorkerStays s (next_of s (move.Unfix w)) v
  unfix_stays =
      of_unfix s (Stays s v) refusals_stay w (λ r k asking. stays_by s _ v (seated _))
      (λ r k asking. stays_by s _ v (seated _))

  latch_stays : WorkerStays s (next_of s (move.Latch w)) v
  latch_stays = of_latch s (Stays s v) refusals_stay w (λ r k m asking. stays_by s _ v (seated _))

  unlatch_stays : WorkerStays s (next_of s (move.Unlatch w)) v
  unlatch_stays =
      of_unlatch s (Stays s v) refusals_stay w
      (λ r k asking. stays_by s _ v (freed (held_in r k) (page_in r k) _))

  choose_stays : (i : ℕ) → WorkerStays s (next_of s (move.Choose w i)) v
  choose_stays i = of_choose s (Stays s v) refusals_stay w i (λ r n asking lt. stays_by s _ v (seated _))

  unwind_stays : (slot : ℕ) → WorkerStays s (next_of s (move.Unwind w slot)) v
  unwind_stays slot =
      of_unwind s (Stays s v) refusals_stay w slot
      (λ r given x at found. stays_by s _ v (freed x.held x.page _))

  finish_stays : WorkerStays s (next_of s (move.Finish w)) v
  finish_stays =
      of_finish s (Stays s v) refusals_stay w (record {
        ends = λ r asking. stays_by s _ v (seated _);
        leaves = λ r given at empty. stays_by s _ v (seated _);
      })

module _ (s : State) where
  -- The flusher's moves write no seat.
  flush_refused : (v : ℕ) → OfRefusals s (Stays s v)
  flush_refused v = record { delay = λ d. stays_by s s v refl; fault = λ c. stays_by s s v refl }

  pub other_workers_stay : OtherWorkersStay s
  other_workers_stay (move.Take w) v apart = take_stays s w v apart
  other_workers_stay (move.Fix w page) v apart = fix_stays s w v apart page
  other_workers_stay (move.WriteDone w ok) v apart = write_stays s w v apart ok
  other_workers_stay (move.ReadDone w came) v apart = read_stays s w v apart came
  other_workers_stay (move.Unfix w) v apart = unfix_stays s w v apart
  other_workers_stay (move.Latch w) v apart = latch_stays s w v apart
  other_workers_stay (move.Unlatch w) v apart = unlatch_stays s w v apart
  other_workers_stay (move.Choose w i) v apart = choose_stays s w v apart i
  other_workers_stay (move.Unwind w slot) v apart = unwind_stays s w v apart slot
  other_workers_stay (move.Finish w) v apart = finish_stays s w v apart
  other_workers_stay (move.FlushBegin page) v apart =
      of_flush s (Stays s v) (flush_refused v) page (λ can. stays_by s _ v refl)
  other_workers_stay (move.FlushDone ok) v apart =
      of_flushed s (Stays s v) (flush_refused v) ok
      (record { cleans = λ f is. stays_by s _ v refl; drops = λ f is. stays_by s _ v refl })

  pub plans_leave_workers : PlansLeaveWorkers s
  plans_leave_workers a v = go (submit_error s a)
    where
      go : (o : Option SubmitError) → WorkerStays s (submitted_unless o s a) v
      go None = stays_by s _ v refl
      go (Some error) = stays_by s _ v refl

-- ---- a latch X is alone

-- Two places of a list, and two slots of holdings, weigh at most what all weigh.
two_places : {A : Type 0} (f : A → ℕ) (xs : List A) (i j : ℕ) (x y : A) → j ≢ i → slice_get xs i ≡ Some x
    → slice_get xs j ≡ Some y → f x + f y ≤ sum_by f xs
two_places f [] i j x y ne a b = cc
two_places f (z ∷ xs) zero zero x y ne a b = absurd (ne refl)
two_places f (z ∷ xs) zero (suc j) x y ne a b =
    let same : z ≡ x = cc in omega (arith, sum_by-cons f z xs, ap f same, sum_by-term f xs j y b)
two_places f (z ∷ xs) (suc i) zero x y ne a b =
    let same : z ≡ y = cc in omega (arith, sum_by-cons f z xs, ap f same, sum_by-term f xs i x a)
two_places f (z ∷ xs) (suc i) (suc j) x y ne a b =
    omega (arith, sum_by-cons f z xs, two_places f xs i j x y (λ e. ne (ap suc e)) a b)

one_slot_weighs : (f : Holding → ℕ) (hs : Holdings) (k : ℕ) (x : Holding) → holding_at hs k ≡ Some x
    → f x ≤ sum_by f hs
one_slot_weighs f [] k x a = cc
one_slot_weighs f (z ∷ hs) k x a = go (eqb z.slot k) a (one_slot_weighs f hs k x)
  where
    go : (b : Bool) → cond b (Some z) (holding_at hs k) ≡ Some x
        → (holding_at hs k ≡ Some x → f x ≤ sum_by f hs) → f x ≤ sum_by f (z ∷ hs)
    go true e all = let same : z ≡ x = cc in omega (arith, sum_by-cons f z hs, ap f same)
    go false e all = omega (arith, sum_by-cons f z hs, all e)

two_slots : (f : Holding → ℕ) (hs : Holdings) (k l : ℕ) (x y : Holding) → l ≢ k → holding_at hs k ≡ Some x
    → holding_at hs l ≡ Some y → f x + f y ≤ sum_by f hs
two_slots f [] k l x y ne a b = cc
two_slots f (z ∷ hs) k l x y ne a b =
    go (eqb z.slot k) (eqb z.slot l) refl refl a b (two_slots f hs k l x y ne)
  where
    go : (c d : Bool) → eqb z.slot k ≡ c → eqb z.slot l ≡ d → cond c (Some z) (holding_at hs k) ≡ Some x
        → cond d (Some z) (holding_at hs l) ≡ Some y
        → (holding_at hs k ≡ Some x → holding_at hs l ≡ Some y → f x + f y ≤ sum_by f hs)
        → f x + f y ≤ sum_by f (z ∷ hs)
    go true true e g a b all =
        let here : z.slot ≡ k = grind (arith, nat_tests) in
        let there : z.slot ≡ l = grind (arith, nat_tests) in
        absurd (ne (sym there ∙ here))
    go true false e g a b all =
        let same : z ≡ x = cc in omega (arith, sum_by-cons f z hs, ap f same, one_slot_weighs f hs l y b)
    go false true e g a b all =
        let same : z ≡ y = cc in omega (arith, sum_by-cons f z hs, ap f same, one_slot_weighs f hs k x a)
    go false false e g a b all = omega (arith, sum_by-cons f z hs, all a b)

-- A latched page counts once for its slot.
pub counts_once : (is : Held → Bool) (page : ℕ) (x : Holding) → x.page ≡ page → is x.held ≡ true
    → latched_on is page x ≡ 1
counts_once is page x on latched = ap (λ b. cond b (on_page page x) 0) latched ∙ on_page_once page x on

module _ (s : State) (h : IsReached s) (v slot w k page : ℕ) (a : HoldsSo s v slot page X) where
  one_writes : latched_on is_exclusive page a.holding ≡ 1
  one_writes = counts_once is_exclusive page a.holding a.page_is (ap is_exclusive a.held_is)

  one_writer : writers_of s page ≤ 1
  one_writer = elim (latches_agree s h page) [ inl e ↦ omega (arith, e) | inr e ↦ omega (arith, e.0) ]

  -- Nobody reads beside it.
  none_reads : HoldsSo s w k page S → ⊥
  none_reads b =
      let reads = counts_once is_shared page b.holding b.page_is (ap is_shared b.held_is) in
      let some = held_counts s w b.by k b.holding (latched_on is_shared page) b.seat b.found in
      let one = held_counts s v a.by slot a.holding (latched_on is_exclusive page) a.seat a.found in
      elim (latches_agree s h page) [
        | inl e ↦ absurd (omega (arith, e, one, one_writes, writers_are s page))
        | inr e ↦ absurd (omega (arith, e.1, some, reads, readers_are s page))
      ]

  -- Another slot that holds the page X is the same slot.
  module _ (b : HoldsSo s w k page X) where
    other_writes : latched_on is_exclusive page b.holding ≡ 1
    other_writes = counts_once is_exclusive page b.holding b.page_is (ap is_exclusive b.held_is)

    same_worker : Which w v → w ≡ v
    same_worker (same e f) = e
    same_worker (other ne f) =
        let g = latched_on is_exclusive page in
        absurd (omega (
          arith,
          two_places (seat_weight g) s.seats v w (Some a.by) (Some b.by) ne a.seat b.seat,
          one_slot_weighs g (holdings a.by) slot a.holding a.found,
          one_slot_weighs g (holdings b.by) k b.holding b.found,
          one_writes,
          other_writes,
          one_writer,
          writers_are s page,
        ))

    same_place : w ≡ v → Which k slot → k ≡ slot
    same_place e (same g f) = g
    same_place e (other ne f) =
        let g = latched_on is_exclusive page in
        let one = some_same (Some b.by) (Some a.by) (sym b.seat ∙ ap (seat_of s) e ∙ a.seat) in
        let found = subst (λ r. holding_at (holdings r) k ≡ Some b.holding) (some_same b.by a.by one) b.found in
        absurd (omega (
          arith,
          two_slots g (holdings a.by) slot k a.holding b.holding ne a.found found,
          sum_by-term (seat_weight g) s.seats v (Some a.by) a.seat,
          one_writes,
          other_writes,
          one_writer,
          writers_are s page,
        ))

    is_same : (w ≡ v) × (k ≡ slot)
    is_same = let e = same_worker (which w v) in (e, same_place e (which k slot))

module _ (s : State) (h : IsReached s) where
  pub exclusive_alone : ExclusiveAlone s
  exclusive_alone v slot w k page holds Free latched told = absurd (latched refl)
  exclusive_alone v slot w k page holds S latched told =
      absurd (none_reads s h v slot w k page (holds_so s v slot page X holds) (holds_so s w k page S told))
  exclusive_alone v slot w k page holds X latched told =
      is_same s h v slot w k page (holds_so s v slot page X holds) (holds_so s w k page X told)

-- ---- marks

-- A note that is written with its page's mark leaves all marks.
noted : (s : State) (p : ℕ) (n : Note) (q : ℕ) → n.mark ≡ known_mark s p
    → known_mark (with_note s p n) q ≡ known_mark s q
noted s p n q mark = go (which q p) (cases_lt p (length s.notes))
  where
    go : Which q p → (p < length s.notes) ⊎ (length s.notes ≤ p) → known_mark (with_note s p n) q ≡ known_mark s q
    go (other d f) low = ap (λ (x : Note). x.mark) (note_there s p q n d)
    go (same d f) (inl low) =
        ap (known_mark (with_note s p n)) d ∙ ap (λ (x : Note). x.mark) (note_here s p n low) ∙ mark
        ∙ sym (ap (known_mark s) d)
    go (same d f) (inr past) = ap (λ x. known_mark (record s { notes = x }) q) (set_past s.notes p n past)

framed : (s : State) (p : ℕ) (f : Option ℕ) (q : ℕ) → known_mark (with_frame s p f) q ≡ known_mark s q
framed s p f q = noted s p (record (note_of s p) { frame = f }) q refl

framed_twice : (s : State) (a b : ℕ) (f g : Option ℕ) (q : ℕ)
    → known_mark (with_frame (with_frame s a f) b g) q ≡ known_mark s q
framed_twice s a b f g q = framed (with_frame s a f) b g q ∙ framed s a f q

cleaned : (s : State) (p : ℕ) (b : Bool) (q : ℕ) → known_mark (with_dirty s p b) q ≡ known_mark s q
cleaned s p b q = noted s p (record (note_of s p) { dirty = b }) q refl

-- How a move deals with the mark of a page.
data MarkWay (s : State) (m : Move) (q : ℕ) (t : State) : Type 0 where
  stays : known_mark t q ≡ known_mark s q → MarkWay s m q t
  loads : (stamp : ℕ) → 0 < loads_of s q → known_mark t q ≡ Some stamp → is_other (known_mark s q) stamp ≡ false
      → MarkWay s m q t
  raises : (v slot : ℕ) → Releases s m v slot → held_of s v slot ≡ Some (q, X) → MarkWay s m q t

-- A latch that goes off.
data Frees (s : State) (k : Held) (p q : ℕ) : Type 0 where
  leaves : known_mark (released s k p) q ≡ known_mark s q → Frees s k p q
  frees : k ≡ X → p ≡ q → Frees s k p q

frees_how : (s : State) (k : Held) (p q : ℕ) → Frees s k p q
frees_how s Free p q = leaves refl
frees_how s S p q = leaves refl
frees_how s X p q = go (which q p)
  where
    go : Which q p → Frees s X p q
    go (same e f) = frees refl (sym e)
    go (other ne f) =
        leaves (ap (λ (x : Note). x.mark) (note_there s p q (record (note_of s p) {
          mark = Some (mark_at s p + 1);
          dirty = true;
        }) ne))

module _ (s : State) (h : IsReached s) (q : ℕ) where
  abbrev Deals : Move → Outcome → Type 0
  Deals m o = MarkWay s m q o.state

  refusals_leave : (m : Move) → OfRefusals s (Deals m)
  refusals_leave m = record { delay = λ d. stays refl; fault = λ c. stays refl }

  written_deals : (w : ℕ) (ok : Bool) (r : Running) (k p u : ℕ)
      → Deals (move.WriteDone w ok) (write_where s w r k p u ok)
  written_deals w true r k p u = stays (cleaned s u false q)
  written_deals w false r k p u = stays (framed_twice (with_lists s (bring_back s.lists p u)) p u None (frame_of s p) q)

  loaded_deals : (w : ℕ) (came : Came) (r : Running) (k p stamp : ℕ) → IsAt s w r (reading k p)
      → is_other (known_mark s p) stamp ≡ false → Deals (move.ReadDone w came) (read_where s w r k p stamp false)
  loaded_deals w came r k p stamp at good = go (which q p)
    where
      go : Which q p → Deals (move.ReadDone w came) (read_where s w r k p stamp false)
      go (other ne f) = stays (ap (λ (x : Note). x.mark) (note_there s p q (record (note_of s p) {
        mark = Some stamp;
      }) ne))
      go (same e f) =
          let some = loads_one s w r (reading k p) p at refl in
          let low = taken_low s h p (omega (arith, some)) in
          let now : known_mark (with_mark s p stamp) p ≡ Some stamp =
          ap (λ (x : Note). x.mark) (note_here s p (record (note_of s p) { mark = Some stamp }) low) in
          loads stamp (subst (λ x. 0 < loads_of s x) (sym e) some) (ap (known_mark (with_mark s p stamp)) e ∙ now)
          (subst (λ x. is_other (known_mark s x) stamp ≡ false) (sym e) good)

  freed_deals : (m : Move) (t : State) (w slot p : ℕ) (k : Held) → Frees s k p q → t.notes ≡ (released s k p).notes
      → held_of s w slot ≡ Some (p, k) → Releases s m w slot → MarkWay s m q t
  freed_deals m t w slot p k (leaves e) notes holds rel =
      stays (ap (λ ns. (slice_index_or ns q untouched).mark) notes ∙ e)
  freed_deals m t w slot p k (frees is on) notes holds rel =
      raises w slot rel (holds ∙ (λ i. Some (on i, is i)))

  -- A slot that is given back: a page of its own with its latch, or a bundle, whose pages aren't latched.
  unwound_deals : (w slot : ℕ) (r : Running) (given : List ℕ) (x : Holding) → IsAt s w r (leaving given)
      → holding_at (holdings r) slot ≡ Some x → (b : Bool) → x.bundled ≡ b
      → Deals (move.Unwind w slot) (unwind_where s w r slot given (Some x))
  unwound_deals w slot r given x at found false e =
      freed_deals (move.Unwind w slot) _ w slot x.page x.held (frees_how s x.held x.page q) refl
      (held_found s w r slot x at.seat found e) (refl, refl)
  unwound_deals w slot r given x at found true e =
      let free = bundle_free (holdings r) slot x found (bundle_alone s h w r at.seat slot x found e) in
      stays (ap (λ k. known_mark (released s k x.page) q) free)

  mark_way : (m : Move) → MarkWay s m q (next_of s m)
  mark_way (move.Take w) =
      of_take s (Deals (move.Take w)) (refusals_leave (move.Take w)) w (λ a idle. stays refl)
  mark_way (move.Fix w page) =
      of_fix s (Deals (move.Fix w page)) (refusals_leave (move.Fix w page)) w page (record {
        hits = λ r k j l asks is. stays refl;
        fills = λ r k j l asks. stays (framed (with_lists s l) page _ q);
        evicts = λ r k j v l asks. stays (framed_twice (with_lists s l) v page _ _ q);
        sends = λ r k j v l asks. stays (framed_twice (with_lists s l) v page _ _ q);
      })
  mark_way (move.WriteDone w ok) =
      of_write s (Deals (move.WriteDone w ok)) (refusals_leave (move.WriteDone w ok)) w ok
      (λ r k p u at. written_deals w ok r k p u)
  mark_way (move.ReadDone w came) =
      of_read s (Deals (move.ReadDone w came)) (refusals_leave (move.ReadDone w came)) w came (record {
        loads = λ r k p stamp at image good. loaded_deals w came r k p stamp at good;
        fails = λ r k p failure at. stays (framed (with_lists s (forget s.lists p)) p None q);
      })
  mark_way (move.Unfix w) =
      of_unfix s (Deals (move.Unfix w)) (refusals_leave (move.Unfix w)) w (λ r k asking. stays refl)
      (λ r k asking. stays refl)
  mark_way (move.Latch w) =
      of_latch s (Deals (move.Latch w)) (refusals_leave (move.Latch w)) w (λ r k m asking. stays refl)
  mark_way (move.Unlatch w) =
      of_unlatch s (Deals (move.Unlatch w)) (refusals_leave (move.Unlatch w)) w (λ r k asking.
      let asked = named s w r (ask.Unlatch k) (action.Unlatch k) asking refl in
      let x = slots.unlatch_finds s h w r k asked in
      let holds : held_of s w k ≡ Some (page_in r k, held_in r k) =
      held_found s w r k x.0 asking.at.seat x.1.found
      (plain_found (holdings r) k x.0 _ x.1.found (slots.unlatch_own s h w r k asked).1)
      ∙ sym (λ i. Some (x.1.page_is i, x.1.held_is i)) in
      freed_deals (move.Unlatch w) _ w k (page_in r k) (held_in r k) (frees_how s (held_in r k) (page_in r k) q) refl
      holds (refl, asked_at s w r (ask.Unlatch k) asking))
  mark_way (move.Choose w i) =
      of_choose s (Deals (move.Choose w i)) (refusals_leave (move.Choose w i)) w i (λ r n asking lt. stays refl)
  mark_way (move.Unwind w slot) =
      of_unwind s (Deals (move.Unwind w slot)) (refusals_leave (move.Unwind w slot)) w slot (λ r given x at found.
      unwound_deals w slot r given x at found x.bundled refl)
  mark_way (move.Finish w) =
      of_finish s (Deals (move.Finish w)) (refusals_leave (move.Finish w)) w
      (record { ends = λ r asking. stays refl; leaves = λ r given at empty. stays refl })
  mark_way (move.FlushBegin page) =
      of_flush s (Deals (move.FlushBegin page)) (refusals_leave (move.FlushBegin page)) page
      (λ can. stays refl)
  mark_way (move.FlushDone ok) =
      of_flushed s (Deals (move.FlushDone ok)) (refusals_leave (move.FlushDone ok)) ok
      (record { cleans = λ f is. stays (cleaned (flush_over s) f.page false q); drops = λ f is. stays refl })

-- A stamp that isn't another mark is the mark.
known_stamp : (o : Option ℕ) (mark stamp : ℕ) → o ≡ Some mark → is_other o stamp ≡ false → stamp ≡ mark
known_stamp None mark stamp e good = cc
known_stamp (Some k) mark stamp e good =
    let same : k ≡ mark = cc in
    let is = not_negated (k == stamp) good in
    let equal : k ≡ stamp = grind (arith, nat_tests) in
    sym equal ∙ same

module _ (s : State) (h : IsReached s) where
  pub mark_stays : MarkStays s
  mark_stays m page mark known none = go (mark_way s h page m)
    where
      go : MarkWay s m page (next_of s m) → known_mark (next_of s m) page ≡ Some mark
      go (stays e) = e ∙ known
      go (loads stamp some now good) = now ∙ ap Some (known_stamp (known_mark s page) mark stamp known good)
      go (raises v slot rel holds) = absurd (none v slot rel holds)

  pub exclusive_keeps_mark : ExclusiveKeepsMark s
  exclusive_keeps_mark m v slot page holds not_freed =
      let a = holds_so s v slot page X holds in
      let known = subst (λ p. known_mark s p ≡ Some (mark_at s p)) a.page_is
      (held_known s h v a.by slot a.holding a.seat a.found) in
      mark_stays m page (mark_at s page) known
      (λ w k rel told.
      let one = exclusive_alone s h v slot w k page holds X (λ e. cc) told in
      not_freed (subst (λ n. Releases s m v n) one.1 (subst (λ n. Releases s m n k) one.0 rel)))
      ∙ sym known

  pub shared_keeps_mark : SharedKeepsMark s
  shared_keeps_mark m v slot page holds =
      let a = holds_so s v slot page S holds in
      let known = subst (λ p. known_mark s p ≡ Some (mark_at s p)) a.page_is
      (held_known s h v a.by slot a.holding a.seat a.found) in
      mark_stays m page (mark_at s page) known
      (λ w k rel told.
      let one = exclusive_alone s h w k v slot page told S (λ e. cc) holds in
      let there : held_of s v slot ≡ Some (page, X) = (λ i. held_of s (one.0 i) (one.1 i)) ∙ told in
      let both : S ≡ X = same_held page page S X (sym holds ∙ there) in
      cc)
      ∙ sym known

  pub victim_keeps_mark : VictimKeepsMark s
  victim_keeps_mark m v slot page victim told = go (mark_way s h victim m)
    where
      sent : 0 < victims_of s victim
      sent =
          let out = writes s v slot page victim told in
          sent_one s v out.by (writing slot page victim) victim out.at refl

      go : MarkWay s m victim (next_of s m) → known_mark (next_of s m) victim ≡ known_mark s victim
      go (stays e) = e
      go (loads stamp some now good) = absurd (omega (arith, (sound s h).alone victim, some, sent))
      go (raises w k rel holds) =
          let a = holds_so s w k victim X holds in
          let on = subst (λ p. 0 < weight s (on_page p)) a.page_is (held_one s w a.by k a.holding a.seat a.found) in
          let here = (sound s h).cached victim (omega (arith, on)) in
          absurd (false≢true (sym ((sound s h).away victim sent).0 ∙ here))

-- ---- the kinds of slots

module _ (s : State) (h : IsReached s) where
  pub one_kind : OneKind s
  one_kind w slot = by_seat (seat_of s w) refl
    where
      kind : (r : Running) → IsKeptAt (slot_all holding_slot slot (holdings r))
          → (own_of (holding_at (holdings r) slot) ≡ None) ⊎ (bundle_in (Some r) slot ≡ [])
      kind r (own x e plain) = inr (bundle_is r slot ∙ ap bundled_pages e ∙ none_bundled x plain)
      kind r (packed all) = inl (none_of_its_own (holdings r) slot all)

      by_seat : (o : Option (Option Running)) → seat_of s w ≡ o
          → (held_by o slot ≡ None) ⊎ (bundle_in (unwrap_or o None) slot ≡ [])
      by_seat None e = inl refl
      by_seat (Some None) e = inl refl
      by_seat (Some (Some r)) e = kind r (holdings_kept s.settings.layout r (seat_is s h w r e) slot)
