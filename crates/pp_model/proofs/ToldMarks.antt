-- The known marks of a state are those that its journals tell.
use Rattle.std.proofs.Common.{◌≡◌, ◌≢◌, ◌∙◌, ◌⊎◌, ℕ, ◌+◌, ◌<◌, ◌≤◌, Bool, true, false, cond, Option, Some, None}
use Rattle.std.proofs.Common.{List, [], ◌∷◌, length, refl, sym, ap, subst, inl, inr, arith}
use Rattle.std.specs.Prelude.{◌^◌, ◌==◌, ◌&&◌, ◌||◌, not, nat_le, nat_lt, slice_get, option_map, unwrap_or, All}
use Rattle.std.specs.Option.{option_or}
use Rattle.std.proofs.lemmas.Bool.{cases_lt}
use Rattle.std.proofs.lemmas.Bool.Decides.{nat_tests}
use Rattle.std.proofs.lemmas.List.{set_past}
use Rattle.std.proofs.lemmas.Option.{slice_get_within, get_or_from_slice_get}
use Rattle.pp_plan.specs.declared.action.Ask.{Ask}
use Rattle.pp_plan.specs.declared.action.Ask.TheVariants as ask
use Rattle.pp_cert.specs.Accepted.{Acceptance, IsAccepted}
use Rattle.pp_cert.specs.declared.note.Held.{Held}
use Rattle.pp_cert.specs.declared.note.Held.TheVariants.{Free, S, X}
use Rattle.pp_cert.specs.Held.{Holding, Holdings, holding_at}
use Rattle.pp_arc.specs.declared.answer.Answer.{Answer}
use Rattle.pp_arc.specs.declared.answer.Answer.TheVariants as answer
use Rattle.pp_arc.specs.FourLists.{FourLists}
use Rattle.pp_arc.specs.Figure.{request, forget, bring_back}
use Rattle.pp_model.specs.declared.event.Event.{Event}
use Rattle.pp_model.specs.declared.event.Event.TheVariants.{Submit, Step}
use Rattle.pp_model.specs.declared.moves.Came.{Came}
use Rattle.pp_model.specs.declared.moves.Came.TheVariants.{Fault, Image}
use Rattle.pp_model.specs.declared.moves.Move.{Move}
use Rattle.pp_model.specs.declared.moves.Move.TheVariants as move
use Rattle.pp_model.specs.declared.refusals.Cause.{Cause}
use Rattle.pp_model.specs.declared.refusals.Cause.TheVariants.{NoWorker, NoErrand}
use Rattle.pp_model.specs.declared.refusals.SubmitError.{SubmitError}
use Rattle.pp_model.specs.Pool.{Stage, acting, writing, reading, leaving, Running, Note, Flush, State, opening}
use Rattle.pp_model.specs.Pool.{note_of, frame_of, frame_at, is_dirty, known_mark, mark_at}
use Rattle.pp_model.specs.Holders.{holdings, page_in, is_exclusive, is_in_flight, is_busy}
use Rattle.pp_model.specs.Outcome.{Outcome, off_plan, with_note, with_frame, with_lists, with_mark, released}
use Rattle.pp_model.specs.Taking.{has_room, take_where, take_by}
use Rattle.pp_model.specs.Fixing.{fix_slot, free_frame, evict_where, fix_by, fix_where, fix_asked}
use Rattle.pp_model.specs.Answers.{is_other, is_misread, write_where, write_in, write_by, read_where, read_came, read_in}
use Rattle.pp_model.specs.Answers.{read_by}
use Rattle.pp_model.specs.Using.{unfix_asked, goes_with, latch_where, latch_asked, unlatched, unlatch_asked}
use Rattle.pp_model.specs.Using.{choose_where, choose_asked}
use Rattle.pp_model.specs.Leaving.{unwound, unwind_where, unwind_in, unwind_by, finish_asked, finish_holding, finish_in}
use Rattle.pp_model.specs.Leaving.{finish_by}
use Rattle.pp_model.specs.Flushing.{flush_where, flush_by, flushed_where, flushed_by, is_clean, flush_over}
use Rattle.pp_model.specs.Moves.{asked_by, act_in, act_by, seat_of, outcome_of, next_of}
use Rattle.pp_model.specs.Submitting.{submit_error, submitted_unless}
use Rattle.pp_model.specs.Journals.{after_plan, after_event, replay, IsTrueAt, IsTrueFrom}
use Rattle.pp_model.specs.JournalMarks.{written_in, written_at, written_asked, written_unlatched, written_unwound}
use Rattle.pp_model.specs.JournalMarks.{read_in as page_read_in, read_for, read_well, if_about, stamp_written}
use Rattle.pp_model.specs.JournalMarks.{stamp_read}
use Rattle.pp_model.specs.JournalMarks.{last_written, first_read}
use Rattle.pp_model.specs.Reached.{IsReached}
use Rattle.pp_model.specs.Laws.{MarksAreTheJournals, MarksFollow}
use Rattle.pp_model.proofs.Changes.{IsAt}
use Rattle.pp_model.proofs.Requests.{Which, same, other, which}
use Rattle.pp_model.proofs.MarkChanges.{note_here, note_there}
use Rattle.pp_model.proofs.MarkSteps.{held_low}
use Rattle.pp_model.proofs.Framed.{fresh_note, loads_one, taken_low}
use Rattle.pp_model.proofs.Journeys.{opening_reached, event_reached}

-- ---- the first of two that there is

or_none : (o : Option ℕ) → option_or o None ≡ o
or_none None = refl
or_none (Some x) = refl

or_nested : (a b c : Option ℕ) → option_or (option_or a b) c ≡ option_or a (option_or b c)
or_nested None b c = refl
or_nested (Some x) b c = refl

-- ---- notes that are written

abbrev SameMarks : (s t : State) → Type 0
SameMarks s t = (q : ℕ) → known_mark t q ≡ known_mark s q

-- A note that is written with its page's mark leaves all marks.
noted : (s : State) (p : ℕ) (n : Note) → n.mark ≡ known_mark s p → SameMarks s (with_note s p n)
noted s p n e q = go (which q p) (cases_lt p (length s.notes))
  where
    go : Which q p → (p < length s.notes) ⊎ (length s.notes ≤ p) → known_mark (with_note s p n) q ≡ known_mark s q
    go (other d f) low = ap (λ (x : Note). x.mark) (note_there s p q n d)
    go (same d f) (inl low) =
        ap (known_mark (with_note s p n)) d ∙ ap (λ (x : Note). x.mark) (note_here s p n low) ∙ e
        ∙ ap (known_mark s) (sym d)
    go (same d f) (inr past) = ap (λ x. known_mark (record s { notes = x }) q) (set_past s.notes p n past)

moved : (s : State) (a b : ℕ) (f g : Option ℕ) → SameMarks s (with_frame (with_frame s a f) b g)
moved s a b f g q =
    let u = with_frame s a f in
    noted u b (record (note_of u b) { frame = g }) refl q ∙ noted s a (record (note_of s a) { frame = f }) refl q

-- What tells a mark tells it of its page alone.
told_here : (p q m : ℕ) → p ≡ q → if_about (Some p) m q ≡ Some m
told_here p q m d = let e : (p == q) ≡ true = grind (arith, nat_tests) in ap (λ b. cond b (Some m) None) e

told_there : (p q m : ℕ) → p ≢ q → if_about (Some p) m q ≡ None
told_there p q m d = let e : (p == q) ≡ false = grind (arith, nat_tests) in ap (λ b. cond b (Some m) None) e

-- A mark that is written is its page's, and the others stay.
marked : (s : State) (p m : ℕ) (n : Note) (q : ℕ) → p < length s.notes → n.mark ≡ Some m
    → known_mark (with_note s p n) q ≡ option_or (if_about (Some p) m q) (known_mark s q)
marked s p m n q low e = go (which p q)
  where
    go : Which p q → known_mark (with_note s p n) q ≡ option_or (if_about (Some p) m q) (known_mark s q)
    go (same d f) =
        ap (known_mark (with_note s p n)) (sym d) ∙ ap (λ (x : Note). x.mark) (note_here s p n low) ∙ e
        ∙ sym (ap (λ o. option_or o (known_mark s q)) (told_here p q m d))
    go (other d f) =
        ap (λ (x : Note). x.mark) (note_there s p q n (λ k. d (sym k)))
        ∙ sym (ap (λ o. option_or o (known_mark s q)) (told_there p q m d))

-- ---- moves that leave all marks

act_stays : (s : State) (act : Running → Outcome) (o : Option (Option Running))
    → ((r : Running) → SameMarks s (act r).state) → SameMarks s (act_by s act o).state
act_stays s act None all q = refl
act_stays s act (Some None) all q = refl
act_stays s act (Some (Some r)) all q = go r.stage
  where
    go : (g : Stage) → known_mark (act_in s act r g).state q ≡ known_mark s q
    go acting = all r q
    go (writing slot page victim) = refl
    go (reading slot page) = refl
    go (leaving given) = refl

take_stays : (s : State) (w : ℕ) (o : Option (Option Running)) (next : Option Acceptance)
    → SameMarks s (take_by s w o next).state
take_stays s w None next q = refl
take_stays s w (Some (Some r)) next q = refl
take_stays s w (Some None) None q = refl
take_stays s w (Some None) (Some a) q = go (has_room s a)
  where
    go : (b : Bool) → known_mark (take_where s w a b).state q ≡ known_mark s q
    go true = refl
    go false = refl

answer_stays : (s : State) (l : FourLists) (w : ℕ) (r : Running) (slot page : ℕ) (x : Answer)
    → SameMarks s (fix_by s l w r slot page x).state
answer_stays s l w r slot page answer.Hit q = refl
answer_stays s l w r slot page answer.Free q =
    noted (with_lists s l) page (record (note_of s page) { frame = Some (free_frame s) }) refl q
answer_stays s l w r slot page (answer.Evict v) q = go (is_dirty s v)
  where
    go : (b : Bool) → known_mark (evict_where (with_lists s l) w r slot page v b).state q ≡ known_mark s q
    go true = moved (with_lists s l) v page None (Some (frame_at s v)) q
    go false = moved (with_lists s l) v page None (Some (frame_at s v)) q
answer_stays s l w r slot page answer.AllBusy q = refl

fix_stays : (s : State) (w : ℕ) (r : Running) (page : ℕ) (o : Option ℕ) → SameMarks s (fix_asked s w r page o).state
fix_stays s w r page None q = refl
fix_stays s w r page (Some slot) q = go (is_in_flight s page)
  where
    go : (b : Bool) → known_mark (fix_where s w r slot page b).state q ≡ known_mark s q
    go true = refl
    go false =
        let answered = request s.lists page (is_busy s) in answer_stays s answered.1 w r slot page answered.0 q

write_stays : (s : State) (w : ℕ) (ok : Bool) (o : Option (Option Running)) → SameMarks s (write_by s w ok o).state
write_stays s w ok None q = refl
write_stays s w ok (Some None) q = refl
write_stays s w ok (Some (Some r)) q = go r.stage
  where
    here : (slot page v : ℕ) (b : Bool) → known_mark (write_where s w r slot page v b).state q ≡ known_mark s q
    here slot page v true = noted s v (record (note_of s v) { dirty = false }) refl q
    here slot page v false = moved (with_lists s (bring_back s.lists page v)) page v None (frame_of s page) q

    go : (g : Stage) → known_mark (write_in s w ok r g).state q ≡ known_mark s q
    go acting = refl
    go (writing slot page v) = here slot page v ok
    go (reading slot page) = refl
    go (leaving given) = refl

unfix_stays : (s : State) (w : ℕ) (r : Running) (x : Ask) → SameMarks s (unfix_asked s w r x).state
unfix_stays s w r (ask.Unfix slot) q = refl
unfix_stays s w r (ask.Scatter slot) q = refl
unfix_stays s w r _ q = refl

latch_stays : (s : State) (w : ℕ) (r : Running) (x : Ask) → SameMarks s (latch_asked s w r x).state
latch_stays s w r (ask.Latch slot m) q = go (goes_with s m (page_in r slot))
  where
    go : (b : Bool) → known_mark (latch_where s w r slot m b).state q ≡ known_mark s q
    go true = refl
    go false = refl
latch_stays s w r _ q = refl

choose_stays : (s : State) (w : ℕ) (r : Running) (i : ℕ) (x : Ask) → SameMarks s (choose_asked s w r i x).state
choose_stays s w r i (ask.Choose n) q = go (nat_lt i n)
  where
    go : (b : Bool) → known_mark (choose_where s w r i b).state q ≡ known_mark s q
    go true = refl
    go false = refl
choose_stays s w r i _ q = refl

finish_stays : (s : State) (w : ℕ) (o : Option (Option Running)) → SameMarks s (finish_by s w o).state
finish_stays s w None q = refl
finish_stays s w (Some None) q = refl
finish_stays s w (Some (Some r)) q = go r.stage
  where
    here : (x : Ask) → known_mark (finish_asked s w r x).state q ≡ known_mark s q
    here ask.End = refl
    here _ = refl

    gone : (hs : Holdings) → known_mark (finish_holding s w r hs).state q ≡ known_mark s q
    gone [] = refl
    gone (h ∷ hs) = refl

    go : (g : Stage) → known_mark (finish_in s w r g).state q ≡ known_mark s q
    go acting = here (asked_by r)
    go (writing slot page victim) = refl
    go (reading slot page) = refl
    go (leaving given) = gone (holdings r)

begin_stays : (s : State) (page : ℕ) (o : Option Flush) → SameMarks s (flush_by s page o).state
begin_stays s page (Some f) q = refl
begin_stays s page None q = go _ _ _
  where
    go : (a b c : Bool) → known_mark (flush_where s page a b c).state q ≡ known_mark s q
    go false b c = refl
    go true false c = refl
    go true true true = refl
    go true true false = refl

flushed_stays : (s : State) (ok : Bool) (o : Option Flush) → SameMarks s (flushed_by s ok o).state
flushed_stays s ok None q = refl
flushed_stays s ok (Some f) q = go (is_clean s ok f)
  where
    go : (b : Bool) → known_mark (flushed_where s f.page b).state q ≡ known_mark s q
    go true = noted (flush_over s) f.page (record (note_of s f.page) { dirty = false }) refl q
    go false = refl

-- ---- what a move tells

-- After the move a page has the stamp that it wrote, else the mark that was known, else the stamp that it read.
abbrev Tells : State → Move → Outcome → (page : ℕ) → Type 0
Tells s m o q =
    known_mark o.state q
    ≡ option_or (stamp_written s (Step m o.reply) q) (option_or (known_mark s q) (stamp_read s (Step m o.reply) q))

silent : (s : State) (q : ℕ) {next : Option ℕ} → next ≡ known_mark s q
    → next ≡ option_or None (option_or (known_mark s q) None)
silent s q e = e ∙ sym (or_none (known_mark s q))

-- ---- readings

-- A page that is fixed after its reading has the stamp for its mark: where none was known the reading was good, and
-- else the known one is the same.
read_here : (o : Option ℕ) (named page stamp : ℕ) → (named == page) ≡ true → is_other o stamp ≡ false
    → Some stamp ≡ option_or o (if_about (read_well (Some page) named stamp) stamp page)
read_here (Some k) named page stamp n e = ap (λ (x : ℕ). Some x) (sym (alike k stamp e))
  where
    alike : (k stamp : ℕ) → not (k == stamp) ≡ false → k ≡ stamp
    alike k stamp e = grind (arith, nat_tests)
read_here None named page stamp n e =
    sym (ap (λ a. if_about (cond (a && nat_lt stamp (2 ^ 62)) (Some page) None) stamp page) n
    ∙ ap (λ b. if_about (cond b (Some page) None) stamp page) (below (2 ^ 62) stamp e)
    ∙ told_here page page stamp refl)
  where
    below : (n stamp : ℕ) → nat_le n stamp ≡ false → nat_lt stamp n ≡ true
    below n stamp e = grind (arith, nat_tests)

-- The reading tells nothing of other pages.
read_there : (b : Bool) (page q stamp : ℕ) → page ≢ q → if_about (cond b (Some page) None) stamp q ≡ None
read_there true page q stamp d = told_there page q stamp d
read_there false page q stamp d = refl

not_reading : (s : State) (w : ℕ) (came : Came) (cause : Cause) (q : ℕ)
    → Tells s (move.ReadDone w came) (off_plan s cause) q
not_reading s w Fault cause q = silent s q refl
not_reading s w (Image named stamp) cause q = silent s q refl

module _ (s : State) (h : IsReached s) (w : ℕ) (r : Running) (q : ℕ) where
  came_tells : (slot page : ℕ) (came : Came) → IsAt s w r (reading slot page)
      → Tells s (move.ReadDone w came) (read_came s w r slot page came) q
  came_tells slot page Fault at =
      silent s q
      (noted (with_lists s (forget s.lists page)) page (record (note_of s page) { frame = None }) refl q)
  came_tells slot page (Image named stamp) at = go (is_misread s page named stamp) refl
    where
      about : read_for (seat_of s w) ≡ Some page
      about = ap read_for at.seat ∙ ap page_read_in at.stage

      low : page < length s.notes
      low = taken_low s h page (let some = loads_one s w r (reading slot page) page at refl in omega (arith, some))

      good : (a b : Bool) → (not a || b) ≡ false → (a ≡ true) × (b ≡ false)
      good true b e = (refl, e)
      good false b e = cc

      read : ((named == page) ≡ true) × (is_other (known_mark s page) stamp ≡ false) → Which page q
          → known_mark (with_mark s page stamp) q
          ≡ option_or (known_mark s q) (if_about (read_well (Some page) named stamp) stamp q)
      read e (same d f) =
          ap (known_mark (with_mark s page stamp)) (sym d)
          ∙ ap (λ (x : Note). x.mark) (note_here s page (record (note_of s page) { mark = Some stamp }) low)
          ∙ read_here (known_mark s page) named page stamp e.0 e.1
          ∙ ap (λ x. option_or (known_mark s x) (if_about (read_well (Some page) named stamp) stamp x)) d
      read e (other d f) =
          ap (λ (x : Note). x.mark)
          (note_there s page q (record (note_of s page) { mark = Some stamp }) (λ k. d (sym k)))
          ∙ sym (or_none (known_mark s q))
          ∙ sym (ap (option_or (known_mark s q))
          (read_there ((named == page) && nat_lt stamp (2 ^ 62)) page q stamp d))

      go : (b : Bool) → is_misread s page named stamp ≡ b
          → Tells s (move.ReadDone w (Image named stamp)) (read_where s w r slot page stamp b) q
      go true e =
          silent s q
          (noted (with_lists s (forget s.lists page)) page (record (note_of s page) { frame = None }) refl q)
      go false e =
          read (good (named == page) (is_other (known_mark s page) stamp) e) (which page q)
          ∙ sym (ap (λ o. option_or (known_mark s q) (if_about (read_well o named stamp) stamp q)) about)

  read_stage_tells : (came : Came) (g : Stage) → IsAt s w r g
      → Tells s (move.ReadDone w came) (read_in s w came r g) q
  read_stage_tells came acting at = not_reading s w came NoErrand q
  read_stage_tells came (writing slot page victim) at = not_reading s w came NoErrand q
  read_stage_tells came (reading slot page) at = came_tells slot page came at
  read_stage_tells came (leaving given) at = not_reading s w came NoErrand q

read_tells : (s : State) → IsReached s → (w : ℕ) (came : Came) (q : ℕ) (o : Option (Option Running)) → seat_of s w ≡ o
    → Tells s (move.ReadDone w came) (read_by s w came o) q
read_tells s h w came q None e = not_reading s w came NoWorker q
read_tells s h w came q (Some None) e = not_reading s w came NoErrand q
read_tells s h w came q (Some (Some r)) e =
    read_stage_tells s h w r q came r.stage (record { seat = e; stage = refl })

-- ---- latches that go

-- The mark of a page, where a latch of this kind goes off this one: that of its end, where it was X.
released_mark : (s : State) (k : Held) (p q : ℕ) → p < length s.notes
    → known_mark (released s k p) q
    ≡ option_or (if_about (cond (is_exclusive k) (Some p) None) (mark_at (released s k p) p) q) (known_mark s q)
released_mark s Free p q low = refl
released_mark s S p q low = refl
released_mark s X p q low =
    let n = record (note_of s p) { mark = Some (mark_at s p + 1); dirty = true } in
    marked s p (mark_at s p + 1) n q low refl
    ∙ sym (ap (λ m. option_or (if_about (Some p) m q) (known_mark s q))
    (ap (λ (x : Note). unwrap_or x.mark 0) (note_here s p n low)))

module _ (s : State) (h : IsReached s) (w : ℕ) (r : Running) (q slot : ℕ) (seat : seat_of s w ≡ Some (Some r)) where
  -- The same of the latch of a slot of the worker.
  abbrev Gone : (o : Option Holding) → Type 0
  Gone o =
      known_mark (released s (unwrap_or (option_map (λ k. k.held) o) Free) (unwrap_or (option_map (λ k. k.page) o) 0)) q
      ≡ option_or
      (if_about (written_in o) (mark_at
      (released s (unwrap_or (option_map (λ k. k.held) o) Free) (unwrap_or (option_map (λ k. k.page) o) 0))
      (unwrap_or (option_map (λ k. k.page) o) 0)) q) (known_mark s q)

  slot_gone : (o : Option Holding) → holding_at (holdings r) slot ≡ o → Gone o
  slot_gone None e = refl
  slot_gone (Some k) e = released_mark s k.held k.page q (held_low s h w r slot k seat e)

module _ (s : State) (h : IsReached s) (w : ℕ) (r : Running) (q : ℕ) (seat : seat_of s w ≡ Some (Some r)) where
  unlatch_asked_tells : (x : Ask) → asked_by r ≡ x → Tells s (move.Unlatch w) (unlatch_asked s w r x) q
  unlatch_asked_tells (ask.Unlatch slot) e =
      let mark = mark_at (unlatched s r slot) (page_in r slot) in
      let about : written_unlatched (seat_of s w) ≡ written_at r slot =
      ap written_unlatched seat ∙ ap (written_asked r) e in
      slot_gone s h w r q slot seat (holding_at (holdings r) slot) refl
      ∙ ap (λ o. option_or (if_about o mark q) (known_mark s q)) (sym about)
      ∙ ap (option_or (if_about (written_unlatched (seat_of s w)) mark q)) (sym (or_none (known_mark s q)))
  unlatch_asked_tells _ e = silent s q refl

  unlatch_stage_tells : (g : Stage)
      → Tells s (move.Unlatch w) (act_in s (λ x. unlatch_asked s w x (asked_by x)) r g) q
  unlatch_stage_tells acting = unlatch_asked_tells (asked_by r) refl
  unlatch_stage_tells (writing slot page victim) = silent s q refl
  unlatch_stage_tells (reading slot page) = silent s q refl
  unlatch_stage_tells (leaving given) = silent s q refl

  unwind_where_tells : (slot : ℕ) (given : List ℕ) (o : Option Holding) → holding_at (holdings r) slot ≡ o
      → Tells s (move.Unwind w slot) (unwind_where s w r slot given o) q
  unwind_where_tells slot given None e = silent s q refl
  unwind_where_tells slot given (Some x) e = go x.held refl
    where
      about : written_unwound slot (seat_of s w) ≡ cond (is_exclusive x.held) (Some x.page) None
      about = ap (written_unwound slot) seat ∙ ap written_in e

      go : (k : Held) → x.held ≡ k
          → known_mark (released s k x.page) q
          ≡ option_or
          (stamp_written s (Step (move.Unwind w slot) (unwound k (mark_at (released s k x.page) x.page))) q)
          (option_or (known_mark s q) None)
      go Free f = silent s q refl
      go S f = silent s q refl
      go X f =
          let m = mark_at (released s X x.page) x.page in
          let here : written_unwound slot (seat_of s w) ≡ Some x.page =
          about ∙ ap (λ k. cond (is_exclusive k) (Some x.page) None) f in
          released_mark s X x.page q (held_low s h w r slot x seat e)
          ∙ ap (λ o. option_or (if_about o m q) (known_mark s q)) (sym here)
          ∙ ap (option_or (if_about (written_unwound slot (seat_of s w)) m q)) (sym (or_none (known_mark s q)))

  unwind_stage_tells : (slot : ℕ) (g : Stage) → Tells s (move.Unwind w slot) (unwind_in s w slot r g) q
  unwind_stage_tells slot acting = silent s q refl
  unwind_stage_tells slot (writing x page victim) = silent s q refl
  unwind_stage_tells slot (reading x page) = silent s q refl
  unwind_stage_tells slot (leaving given) = unwind_where_tells slot given (holding_at (holdings r) slot) refl

unlatch_tells : (s : State) → IsReached s → (w q : ℕ) (o : Option (Option Running)) → seat_of s w ≡ o
    → Tells s (move.Unlatch w) (act_by s (λ r. unlatch_asked s w r (asked_by r)) o) q
unlatch_tells s h w q None e = silent s q refl
unlatch_tells s h w q (Some None) e = silent s q refl
unlatch_tells s h w q (Some (Some r)) e = unlatch_stage_tells s h w r q e r.stage

unwind_tells : (s : State) → IsReached s → (w slot q : ℕ) (o : Option (Option Running)) → seat_of s w ≡ o
    → Tells s (move.Unwind w slot) (unwind_by s w slot o) q
unwind_tells s h w slot q None e = silent s q refl
unwind_tells s h w slot q (Some None) e = silent s q refl
unwind_tells s h w slot q (Some (Some r)) e = unwind_stage_tells s h w r q e slot r.stage

-- ---- all moves

move_tells : (s : State) → IsReached s → (m : Move) (q : ℕ) → Tells s m (outcome_of s m) q
move_tells s h (move.Take w) q = silent s q (take_stays s w (seat_of s w) (slice_get s.plans s.taken) q)
move_tells s h (move.Fix w page) q =
    silent s q
    (act_stays s _ (seat_of s w) (λ r. fix_stays s w r page (fix_slot r page (asked_by r))) q)
move_tells s h (move.WriteDone w ok) q = silent s q (write_stays s w ok (seat_of s w) q)
move_tells s h (move.ReadDone w came) q = read_tells s h w came q (seat_of s w) refl
move_tells s h (move.Unfix w) q =
    silent s q (act_stays s _ (seat_of s w) (λ r. unfix_stays s w r (asked_by r)) q)
move_tells s h (move.Latch w) q =
    silent s q (act_stays s _ (seat_of s w) (λ r. latch_stays s w r (asked_by r)) q)
move_tells s h (move.Unlatch w) q = unlatch_tells s h w q (seat_of s w) refl
move_tells s h (move.Choose w i) q =
    silent s q (act_stays s _ (seat_of s w) (λ r. choose_stays s w r i (asked_by r)) q)
move_tells s h (move.Unwind w slot) q = unwind_tells s h w slot q (seat_of s w) refl
move_tells s h (move.Finish w) q = silent s q (finish_stays s w (seat_of s w) q)
move_tells s h (move.FlushBegin page) q = silent s q (begin_stays s page s.flush q)
move_tells s h (move.FlushDone ok) q = silent s q (flushed_stays s ok s.flush q)

-- ---- events

plan_stays : (s : State) (o : Option Acceptance) → SameMarks s (after_plan s o)
plan_stays s None q = refl
plan_stays s (Some a) q = go (submit_error s a)
  where
    go : (o : Option SubmitError) → known_mark (submitted_unless o s a) q ≡ known_mark s q
    go None = refl
    go (Some error) = refl

event_tells : (plans : List Acceptance) (s : State) (e : Event) (q : ℕ) → IsReached s → IsTrueAt plans s e
    → known_mark (after_event plans s e) q
    ≡ option_or (stamp_written s e q) (option_or (known_mark s q) (stamp_read s e q))
event_tells plans s (Submit k) q h is = silent s q (plan_stays s (slice_get plans k) q)
event_tells plans s (Step m reply) q h is =
    subst (λ x.
    known_mark (next_of s m) q
    ≡ option_or (stamp_written s (Step m x) q) (option_or (known_mark s q) (stamp_read s (Step m x) q)))
    (sym is.1) (move_tells s h m q)

-- ---- journals

in_order : (later now known read next : Option ℕ)
    → option_or later (option_or (option_or now (option_or known read)) next)
    ≡ option_or (option_or later now) (option_or known (option_or read next))
in_order (Some x) now known read next = refl
in_order None now known read next =
    or_nested now (option_or known read) next ∙ ap (option_or now) (or_nested known read next)

journal_tells : (plans : List Acceptance) (s : State) (es : List Event) (q : ℕ) → All IsAccepted plans → IsReached s
    → IsTrueFrom plans s es
    → known_mark (replay plans s es) q
    ≡ option_or (last_written plans s es q) (option_or (known_mark s q) (first_read plans s es q))
journal_tells plans s [] q all h is = sym (or_none (known_mark s q))
journal_tells plans s (e ∷ es) q all h is =
    let t = after_event plans s e in
    let later = last_written plans t es q in
    let next = first_read plans t es q in
    journal_tells plans t es q all (event_reached plans s e all h) is.1
    ∙ ap (λ o. option_or later (option_or o next)) (event_tells plans s e q h is.0)
    ∙ in_order later (stamp_written s e q) (known_mark s q) (stamp_read s e q) next

pub marks_are_the_journals : (s : State) → IsReached s → MarksAreTheJournals s
marks_are_the_journals s h es q told =
    let k = s.settings in
    let later = last_written s.plans (opening k) es q in
    let next = first_read s.plans (opening k) es q in
    sym (ap (λ x. known_mark x q) told.leads_here)
    ∙ journal_tells s.plans (opening k) es q h.accepted (opening_reached k h.settings) told.is_true
    ∙ ap (λ o. option_or later (option_or o next)) (ap (λ (x : Note). x.mark) (fresh_note k q))

-- From any reached state on, the marks follow from the journal and the marks that were known there.
pub marks_follow : (s : State) → IsReached s → MarksFollow s
marks_follow s h o es q from told =
    sym (ap (λ x. known_mark x q) told.leads_here) ∙ journal_tells s.plans o es q h.accepted from told.is_true
