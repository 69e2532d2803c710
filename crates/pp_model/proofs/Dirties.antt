-- Which moves change the dirty mark of a page, move by move.
use Rattle.std.proofs.Common.{◌≡◌, ◌≢◌, ◌∙◌, ◌⊎◌, ℕ, ◌+◌, ◌<◌, ◌≤◌, Bool, true, false, Option, Some, None, List, []}
use Rattle.std.proofs.Common.{◌∷◌, length, refl, sym, ap, subst, inl, inr}
use Rattle.std.specs.Prelude.{◌==◌, unwrap_or, option_map}
use Rattle.std.proofs.lemmas.Bool.{cases_lt, false≢true, eqb-true}
use Rattle.std.proofs.lemmas.List.{set_past}
use Rattle.pp_plan.specs.declared.action.Ask.{Ask}
use Rattle.pp_plan.specs.declared.action.Ask.TheVariants as ask
use Rattle.pp_cert.specs.declared.note.Held.{Held}
use Rattle.pp_cert.specs.declared.note.Held.TheVariants.{Free, S, X}
use Rattle.pp_cert.specs.Accepted.{Acceptance}
use Rattle.pp_cert.specs.Held.{Holding, Holdings, holding_at}
use Rattle.pp_arc.specs.declared.answer.Answer.{Answer}
use Rattle.pp_arc.specs.declared.answer.Answer.TheVariants as answer
use Rattle.pp_arc.specs.FourLists.{FourLists}
use Rattle.pp_arc.specs.Figure.{request, forget, bring_back}
use Rattle.pp_model.specs.declared.moves.Move.{Move}
use Rattle.pp_model.specs.declared.moves.Move.TheVariants as move
use Rattle.pp_model.specs.declared.moves.Came.{Came}
use Rattle.pp_model.specs.declared.moves.Came.TheVariants.{Fault, Image}
use Rattle.pp_model.specs.declared.reply.Reply.TheVariants.{MustRead}
use Rattle.pp_model.specs.Pool.{Stage, acting, writing, reading, leaving, Running, Note, Flush, State, note_of, frame_of}
use Rattle.pp_model.specs.Pool.{is_dirty, mark_at}
use Rattle.pp_model.specs.Holders.{holdings, page_in, held_in, is_in_flight, is_busy}
use Rattle.pp_model.specs.Outcome.{Outcome, with_note, with_frame, with_lists, released, raised}
use Rattle.pp_model.specs.Taking.{has_room, take_where, take_by}
use Rattle.pp_model.specs.Fixing.{fix_slot, fix_asked, fix_where, fix_by, evict_where, with_frame_moved}
use Rattle.pp_model.specs.Answers.{write_in, write_by, read_where, read_came, read_in, read_by, is_misread}
use Rattle.pp_model.specs.Using.{unfix_asked, goes_with, latch_where, latch_asked, unlatched, unlatch_asked, choose_where}
use Rattle.pp_model.specs.Using.{choose_asked}
use Rattle.pp_model.specs.Leaving.{unwind_where, unwind_in, unwind_by, finish_asked, finish_holding, finish_in, finish_by}
use Rattle.pp_model.specs.Flushing.{flush_where, flush_by, flush_over, flushed_where, flushed_by}
use Rattle.pp_model.specs.Moves.{asked_by, act_in, act_by, seat_of, next_of}
use Rattle.pp_model.specs.Dirty.{HoldsExclusive, EndsExclusive, IsWritten, DirtyRises, DirtyFalls, CleanAreEvicted}
use Rattle.pp_model.proofs.Requests.{Which, same, other, which}
use Rattle.pp_model.proofs.MarkChanges.{note_here, note_there}

-- ---- notes

-- Each page is as dirty as before.
abbrev Steady : (s t : State) → Type 0
Steady s t = (q : ℕ) → is_dirty t q ≡ is_dirty s q

-- So it is where a note is written that is as dirty as that of its page.
noted : (s : State) (p : ℕ) (n : Note) → n.dirty ≡ is_dirty s p → Steady s (with_note s p n)
noted s p n e q = go (which q p) (cases_lt p (length s.notes))
  where
    go : Which q p → (p < length s.notes) ⊎ (length s.notes ≤ p) → is_dirty (with_note s p n) q ≡ is_dirty s q
    go (other d f) low = ap (λ (x : Note). x.dirty) (note_there s p q n d)
    go (same d f) (inl low) =
        ap (is_dirty (with_note s p n)) d ∙ ap (λ (x : Note). x.dirty) (note_here s p n low) ∙ e ∙ ap (is_dirty s) (sym d)
    go (same d f) (inr past) = ap (λ x. is_dirty (record s { notes = x }) q) (set_past s.notes p n past)

framed : (s : State) (p : ℕ) (frame : Option ℕ) → Steady s (with_frame s p frame)
framed s p frame = noted s p (record (note_of s p) { frame = frame }) refl

-- What becomes of a page where the note of some page is written anew: nothing; or it is that page, and it is as dirty as
-- the note.
data Noted (s : State) (p : ℕ) (n : Note) (q : ℕ) : Type 0 where
  apart : is_dirty (with_note s p n) q ≡ is_dirty s q → Noted s p n q
  there : q ≡ p → is_dirty (with_note s p n) q ≡ n.dirty → Noted s p n q

seen : (s : State) (p : ℕ) (n : Note) (q : ℕ) → Noted s p n q
seen s p n q = go (which q p) (cases_lt p (length s.notes))
  where
    go : Which q p → (p < length s.notes) ⊎ (length s.notes ≤ p) → Noted s p n q
    go (other d f) low = apart (ap (λ (x : Note). x.dirty) (note_there s p q n d))
    go (same d f) (inl low) =
        there d (ap (is_dirty (with_note s p n)) d ∙ ap (λ (x : Note). x.dirty) (note_here s p n low))
    go (same d f) (inr past) = apart (ap (λ x. is_dirty (record s { notes = x }) q) (set_past s.notes p n past))

-- ---- moves that leave all dirty marks

acts : (s : State) (act : Running → Outcome) → ((r : Running) → Steady s (act r).state) → (o : Option (Option Running))
    → Steady s (act_by s act o).state
acts s act all None q = refl
acts s act all (Some None) q = refl
acts s act all (Some (Some r)) q = go r.stage
  where
    go : (g : Stage) → is_dirty (act_in s act r g).state q ≡ is_dirty s q
    go acting = all r q
    go (writing slot page victim) = refl
    go (reading slot page) = refl
    go (leaving given) = refl

taken : (s : State) (w : ℕ) (o : Option (Option Running)) (next : Option Acceptance)
    → Steady s (take_by s w o next).state
taken s w None next q = refl
taken s w (Some (Some r)) next q = refl
taken s w (Some None) None q = refl
taken s w (Some None) (Some a) q = go (has_room s a)
  where
    go : (b : Bool) → is_dirty (take_where s w a b).state q ≡ is_dirty s q
    go true = refl
    go false = refl

moved : (s : State) (page v : ℕ) → Steady s (with_frame_moved s page v)
moved s page v q =
    let u = with_frame s v None in
    noted u page (record (note_of u page) { frame = _ }) refl q ∙ framed s v None q

evicted : (s : State) (w : ℕ) (r : Running) (slot page v : ℕ) (b : Bool)
    → Steady s (evict_where s w r slot page v b).state
evicted s w r slot page v true q = moved s page v q
evicted s w r slot page v false q = moved s page v q

fix_answered : (s : State) (l : FourLists) (w : ℕ) (r : Running) (slot page : ℕ) (x : Answer)
    → Steady s (fix_by s l w r slot page x).state
fix_answered s l w r slot page answer.Hit q = refl
fix_answered s l w r slot page answer.Free q = framed (with_lists s l) page _ q
fix_answered s l w r slot page (answer.Evict v) q = evicted (with_lists s l) w r slot page v (is_dirty s v) q
fix_answered s l w r slot page answer.AllBusy q = refl

fixed : (s : State) (w : ℕ) (r : Running) (page : ℕ) (o : Option ℕ) → Steady s (fix_asked s w r page o).state
fixed s w r page None q = refl
fixed s w r page (Some slot) q = go (is_in_flight s page)
  where
    go : (b : Bool) → is_dirty (fix_where s w r slot page b).state q ≡ is_dirty s q
    go true = refl
    go false =
        let answered = request s.lists page (is_busy s) in
        fix_answered s answered.1 w r slot page answered.0 q

unread : (s : State) (page : ℕ) → Steady s (with_frame (with_lists s (forget s.lists page)) page None)
unread s page = framed (with_lists s (forget s.lists page)) page None

came_in : (s : State) (w : ℕ) (r : Running) (slot page : ℕ) (c : Came) → Steady s (read_came s w r slot page c).state
came_in s w r slot page Fault q = unread s page q
came_in s w r slot page (Image named stamp) q = go (is_misread s page named stamp)
  where
    go : (b : Bool) → is_dirty (read_where s w r slot page stamp b).state q ≡ is_dirty s q
    go true = unread s page q
    go false = noted s page (record (note_of s page) { mark = Some stamp }) refl q

read : (s : State) (w : ℕ) (c : Came) (o : Option (Option Running)) → Steady s (read_by s w c o).state
read s w c None q = refl
read s w c (Some None) q = refl
read s w c (Some (Some r)) q = go r.stage
  where
    go : (g : Stage) → is_dirty (read_in s w c r g).state q ≡ is_dirty s q
    go acting = refl
    go (writing slot page victim) = refl
    go (reading slot page) = came_in s w r slot page c q
    go (leaving given) = refl

unfixed : (s : State) (w : ℕ) (r : Running) (x : Ask) → Steady s (unfix_asked s w r x).state
unfixed s w r (ask.Unfix slot) q = refl
unfixed s w r (ask.Scatter slot) q = refl
unfixed s w r _ q = refl

latched : (s : State) (w : ℕ) (r : Running) (x : Ask) → Steady s (latch_asked s w r x).state
latched s w r (ask.Latch slot m) q = go (goes_with s m (page_in r slot))
  where
    go : (b : Bool) → is_dirty (latch_where s w r slot m b).state q ≡ is_dirty s q
    go true = refl
    go false = refl
latched s w r _ q = refl

chose : (s : State) (w : ℕ) (r : Running) (i : ℕ) (x : Ask) → Steady s (choose_asked s w r i x).state
chose s w r i (ask.Choose n) q = go _
  where
    go : (b : Bool) → is_dirty (choose_where s w r i b).state q ≡ is_dirty s q
    go true = refl
    go false = refl
chose s w r i _ q = refl

finish_stage : (s : State) (w : ℕ) (r : Running) (g : Stage) → Steady s (finish_in s w r g).state
finish_stage s w r acting q = go (asked_by r)
  where
    go : (x : Ask) → is_dirty (finish_asked s w r x).state q ≡ is_dirty s q
    go ask.End = refl
    go _ = refl
finish_stage s w r (writing slot page victim) q = refl
finish_stage s w r (reading slot page) q = refl
finish_stage s w r (leaving given) q = go (holdings r)
  where
    go : (hs : Holdings) → is_dirty (finish_holding s w r hs).state q ≡ is_dirty s q
    go [] = refl
    go (h ∷ hs) = refl

finished : (s : State) (w : ℕ) (o : Option (Option Running)) → Steady s (finish_by s w o).state
finished s w None q = refl
finished s w (Some None) q = refl
finished s w (Some (Some r)) q = finish_stage s w r r.stage q

flush_begins : (s : State) (page : ℕ) (o : Option Flush) → Steady s (flush_by s page o).state
flush_begins s page (Some f) q = refl
flush_begins s page None q = go _ _ _
  where
    go : (a b c : Bool) → is_dirty (flush_where s page a b c).state q ≡ is_dirty s q
    go false b c = refl
    go true false c = refl
    go true true true = refl
    go true true false = refl

-- ---- what becomes of a page

-- Nothing; or it becomes newer than the device's, for a reason; or it isn't so any more, for another.
data Turns (s t : State) (q : ℕ) (raised written : Type 0) : Type 0 where
  stays : is_dirty t q ≡ is_dirty s q → Turns s t q raised written
  rises : is_dirty t q ≡ true → raised → Turns s t q raised written
  falls : is_dirty t q ≡ false → written → Turns s t q raised written

abbrev By : State → Move → ℕ → Type 0
By s m q = Turns s (next_of s m) q (EndsExclusive s m q) (IsWritten s m q)

-- ---- writings

write_stage : (s : State) (w : ℕ) (ok : Bool) (r : Running) (g : Stage) (q : ℕ) → seat_of s w ≡ Some (Some r)
    → r.stage ≡ g → Turns s (write_in s w ok r g).state q (EndsExclusive s (move.WriteDone w ok) q)
    (IsWritten s (move.WriteDone w ok) q)
write_stage s w ok r acting q seat e = stays refl
write_stage s w ok r (reading slot page) q seat e = stays refl
write_stage s w ok r (leaving given) q seat e = stays refl
write_stage s w false r (writing slot page v) q seat e =
    let u = with_frame (with_lists s (bring_back s.lists page v)) page None in
    stays (noted u v (record (note_of u v) { frame = frame_of s page }) refl q
    ∙ framed (with_lists s (bring_back s.lists page v)) page None q)
write_stage s w true r (writing slot page v) q seat e = go (seen s v (record (note_of s v) { dirty = false }) q)
  where
    go : Noted s v (record (note_of s v) { dirty = false }) q
        → Turns s (write_in s w true r (writing slot page v)).state q ⊥ (IsWritten s (move.WriteDone w true) q)
    go (apart as_was) = stays as_was
    go (there d is) =
        falls is (r, slot, page, seat, subst (λ x. r.stage ≡ writing slot page x) (sym d) e)

write_turns : (s : State) (w : ℕ) (ok : Bool) (o : Option (Option Running)) (q : ℕ) → seat_of s w ≡ o
    → Turns s (write_by s w ok o).state q (EndsExclusive s (move.WriteDone w ok) q) (IsWritten s (move.WriteDone w ok) q)
write_turns s w ok None q e = stays refl
write_turns s w ok (Some None) q e = stays refl
write_turns s w ok (Some (Some r)) q e = write_stage s w ok r r.stage q e refl

flush_tested : (s : State) (f : Flush) (q : ℕ) (b : Bool) → s.flush ≡ Some f → (mark_at s f.page == f.began) ≡ b
    → Turns s (flushed_where s f.page b).state q ⊥ (IsWritten s (move.FlushDone true) q)
flush_tested s f q false e equal = stays refl
flush_tested s f q true e equal = go (seen (flush_over s) f.page (record (note_of s f.page) { dirty = false }) q)
  where
    go : Noted (flush_over s) f.page (record (note_of s f.page) { dirty = false }) q
        → Turns s (flushed_where s f.page true).state q ⊥ (IsWritten s (move.FlushDone true) q)
    go (apart as_was) = stays as_was
    go (there d is) = falls is (f, e, sym d, ap (mark_at s) d ∙ eqb-true (mark_at s f.page) f.began equal)

flush_turns : (s : State) (ok : Bool) (o : Option Flush) (q : ℕ) → s.flush ≡ o
    → Turns s (flushed_by s ok o).state q (EndsExclusive s (move.FlushDone ok) q) (IsWritten s (move.FlushDone ok) q)
flush_turns s ok None q e = stays refl
flush_turns s false (Some f) q e = stays refl
flush_turns s true (Some f) q e = flush_tested s f q (mark_at s f.page == f.began) e refl

-- ---- latches that end

-- A latch of this kind ends on page p. Where it was X, the page is newer than the device's.
let_go : (s : State) (k : Held) (p q : ℕ) (a written : Type 0) → (k ≡ X → p ≡ q → a)
    → Turns s (released s k p) q a written
let_go s Free p q a written why = stays refl
let_go s S p q a written why = stays refl
let_go s X p q a written why = go (seen s p (record (note_of s p) { mark = Some (mark_at s p + 1); dirty = true }) q)
  where
    go : Noted s p (record (note_of s p) { mark = Some (mark_at s p + 1); dirty = true }) q
        → Turns s (raised s p) q a written
    go (apart as_was) = stays as_was
    go (there d is) = rises is (why refl (sym d))

same_notes : (s t u : State) (q : ℕ) (a b : Type 0) → u.notes ≡ t.notes → Turns s t q a b → Turns s u q a b
same_notes s t u q a b e (stays is) = stays (ap (λ x. is_dirty (record t { notes = x }) q) e ∙ is)
same_notes s t u q a b e (rises is why) = rises (ap (λ x. is_dirty (record t { notes = x }) q) e ∙ is) why
same_notes s t u q a b e (falls is why) = falls (ap (λ x. is_dirty (record t { notes = x }) q) e ∙ is) why

unlatch_asks : (s : State) (w : ℕ) (r : Running) (x : Ask) (q : ℕ) → seat_of s w ≡ Some (Some r) → asked_by r ≡ x
    → Turns s (unlatch_asked s w r x).state q (EndsExclusive s (move.Unlatch w) q) ⊥
unlatch_asks s w r (ask.Unlatch slot) q seat asks =
    same_notes s (unlatched s r slot) (unlatch_asked s w r (ask.Unlatch slot)).state q (EndsExclusive s (move.Unlatch w) q)
    ⊥ refl
    (let_go s (held_in r slot) (page_in r slot) q (EndsExclusive s (move.Unlatch w) q) ⊥
    (λ held page. (slot, (r, seat, asks), (r, seat, held, page))))
unlatch_asks s w r _ q seat asks = stays refl

unlatch_turns : (s : State) (w : ℕ) (o : Option (Option Running)) (q : ℕ) → seat_of s w ≡ o
    → Turns s (act_by s (λ r. unlatch_asked s w r (asked_by r)) o).state q (EndsExclusive s (move.Unlatch w) q) ⊥
unlatch_turns s w None q e = stays refl
unlatch_turns s w (Some None) q e = stays refl
unlatch_turns s w (Some (Some r)) q e = go r.stage
  where
    go : (g : Stage) → Turns s (act_in s (λ r. unlatch_asked s w r (asked_by r)) r g).state q
        (EndsExclusive s (move.Unlatch w) q) ⊥
    go acting = unlatch_asks s w r (asked_by r) q e refl
    go (writing slot page victim) = stays refl
    go (reading slot page) = stays refl
    go (leaving given) = stays refl

unwind_finds : (s : State) (w : ℕ) (r : Running) (slot : ℕ) (given : List ℕ) (o : Option Holding) (q : ℕ)
    → holding_at (holdings r) slot ≡ o → seat_of s w ≡ Some (Some r)
    → Turns s (unwind_where s w r slot given o).state q (HoldsExclusive s w slot q) ⊥
unwind_finds s w r slot given None q e seat = stays refl
unwind_finds s w r slot given (Some h) q e seat =
    same_notes s (released s h.held h.page) (unwind_where s w r slot given (Some h)).state q (HoldsExclusive s w slot q) ⊥
    refl
    (let_go s h.held h.page q (HoldsExclusive s w slot q) ⊥ (λ held page. (
      r,
      seat,
      ap (λ (o : Option Holding). unwrap_or (option_map (λ h. h.held) o) Free) e ∙ held,
      ap (λ (o : Option Holding). unwrap_or (option_map (λ h. h.page) o) 0) e ∙ page,
    )))

unwind_turns : (s : State) (w slot : ℕ) (o : Option (Option Running)) (q : ℕ) → seat_of s w ≡ o
    → Turns s (unwind_by s w slot o).state q (HoldsExclusive s w slot q) ⊥
unwind_turns s w slot None q e = stays refl
unwind_turns s w slot (Some None) q e = stays refl
unwind_turns s w slot (Some (Some r)) q e = go r.stage
  where
    go : (g : Stage) → Turns s (unwind_in s w slot r g).state q (HoldsExclusive s w slot q) ⊥
    go acting = stays refl
    go (writing x page victim) = stays refl
    go (reading x page) = stays refl
    go (leaving given) = unwind_finds s w r slot given (holding_at (holdings r) slot) q refl e

-- ---- all moves

by_move : (s : State) (m : Move) (q : ℕ) → By s m q
by_move s (move.Take w) q = stays (taken s w (seat_of s w) _ q)
by_move s (move.Fix w page) q =
    stays (acts s _ (λ r. fixed s w r page (fix_slot r page (asked_by r))) (seat_of s w) q)
by_move s (move.WriteDone w ok) q = write_turns s w ok (seat_of s w) q refl
by_move s (move.ReadDone w c) q = stays (read s w c (seat_of s w) q)
by_move s (move.Unfix w) q = stays (acts s _ (λ r. unfixed s w r (asked_by r)) (seat_of s w) q)
by_move s (move.Latch w) q = stays (acts s _ (λ r. latched s w r (asked_by r)) (seat_of s w) q)
by_move s (move.Unlatch w) q = unlatch_turns s w (seat_of s w) q refl
by_move s (move.Choose w i) q = stays (acts s _ (λ r. chose s w r i (asked_by r)) (seat_of s w) q)
by_move s (move.Unwind w slot) q = unwind_turns s w slot (seat_of s w) q refl
by_move s (move.Finish w) q = stays (finished s w (seat_of s w) q)
by_move s (move.FlushBegin page) q = stays (flush_begins s page s.flush q)
by_move s (move.FlushDone ok) q = flush_turns s ok s.flush q refl

pub dirty_rises : (s : State) → DirtyRises s
dirty_rises s m q was now = go (by_move s m q)
  where
    go : By s m q → EndsExclusive s m q
    go (stays as_was) = absurd (false≢true (sym was ∙ sym as_was ∙ now))
    go (rises is why) = why
    go (falls is why) = absurd (false≢true (sym is ∙ now))

pub dirty_falls : (s : State) → DirtyFalls s
dirty_falls s m q was now = go (by_move s m q)
  where
    go : By s m q → IsWritten s m q
    go (stays as_was) = absurd (false≢true (sym now ∙ as_was ∙ was))
    go (rises is why) = absurd (false≢true (sym now ∙ is))
    go (falls is why) = why

-- ---- victims

unmoved : (s : State) (p q : ℕ) (f : Option ℕ) → q ≢ p → frame_of (with_frame s p f) q ≡ frame_of s q
unmoved s p q f ne = ap (λ (x : Note). x.frame) (note_there s p q (record (note_of s p) { frame = f }) ne)

module _ (s : State) (w page frame v : ℕ) (apart : v ≢ page) where
  -- Where the outcome is that the page is read at once, and the frame of v isn't what it was, v is clean.
  abbrev Clean : Outcome → Type 0
  Clean o = o.reply ≡ MustRead frame → frame_of o.state v ≢ frame_of s v → is_dirty s v ≡ false

  evicts_clean : (r : Running) (slot x : ℕ) (l : FourLists) (b : Bool) → is_dirty s x ≡ b
      → Clean (evict_where (with_lists s l) w r slot page x b)
  evicts_clean r slot x l true e told gone = cc
  evicts_clean r slot x l false e told gone = go (which v x)
    where
      go : Which v x → is_dirty s v ≡ false
      go (same d f) = ap (is_dirty s) d ∙ e
      go (other d f) =
          let u = with_frame (with_lists s l) x None in
          absurd (gone (unmoved u page v _ apart ∙ unmoved (with_lists s l) x v None d))

  answers_clean : (r : Running) (slot : ℕ) (l : FourLists) (x : Answer) → Clean (fix_by s l w r slot page x)
  answers_clean r slot l answer.Hit told gone = cc
  answers_clean r slot l answer.Free told gone = absurd (gone (unmoved (with_lists s l) page v _ apart))
  answers_clean r slot l (answer.Evict x) told gone = evicts_clean r slot x l (is_dirty s x) refl told gone
  answers_clean r slot l answer.AllBusy told gone = cc

  fixes_clean : (r : Running) (o : Option ℕ) → Clean (fix_asked s w r page o)
  fixes_clean r None told gone = cc
  fixes_clean r (Some slot) told gone = go (is_in_flight s page) told gone
    where
      go : (b : Bool) → Clean (fix_where s w r slot page b)
      go true told gone = cc
      go false told gone =
          let answered = request s.lists page (is_busy s) in
          answers_clean r slot answered.1 answered.0 told gone

  acts_clean : (act : Running → Outcome) → ((r : Running) → Clean (act r)) → (o : Option (Option Running))
      → Clean (act_by s act o)
  acts_clean act all None told gone = cc
  acts_clean act all (Some None) told gone = cc
  acts_clean act all (Some (Some r)) told gone = go r.stage told gone
    where
      go : (g : Stage) → Clean (act_in s act r g)
      go acting told gone = all r told gone
      go (writing slot p victim) told gone = cc
      go (reading slot p) told gone = cc
      go (leaving given) told gone = cc

pub clean_are_evicted : (s : State) → CleanAreEvicted s
clean_are_evicted s w page frame v told ne gone =
    acts_clean s w page frame v ne _ (λ r. fixes_clean s w page frame v ne r (fix_slot r page (asked_by r))) (seat_of s w)
    told gone
