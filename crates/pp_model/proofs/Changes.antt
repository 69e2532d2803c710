-- How a move changes a state: the twelve moves have nineteen ways to be done, and where they are refused the state
-- stays.
use Rattle.std.proofs.Common.{◌≡◌, ◌⊎◌, ℕ, ◌<◌, Bool, true, false, cond, Option, Some, None, List, [], ◌∷◌, refl, sym}
use Rattle.std.proofs.Common.{ap}
use Rattle.std.proofs.Common.{subst, inl, inr, arith}
use Rattle.std.specs.Prelude.{slice_get, nat_lt, not, ◌==◌, ◌&&◌, ◌||◌}
use Rattle.std.proofs.lemmas.Bool.Decides.{nat_tests}
use Rattle.pp_settings.specs.Layout.{HasPage}
use Rattle.pp_plan.specs.declared.mode.Mode.{Mode}
use Rattle.pp_plan.specs.declared.action.Action.{Action}
use Rattle.pp_plan.specs.declared.action.Action.TheVariants as action
use Rattle.pp_plan.specs.declared.action.Ask.{Ask}
use Rattle.pp_plan.specs.declared.action.Ask.TheVariants as ask
use Rattle.pp_cursor.specs.Cursor.{NamesAction}
use Rattle.pp_cert.specs.declared.note.Held.{Held}
use Rattle.pp_cert.specs.declared.note.Held.TheVariants.{Free, S, X}
use Rattle.pp_cert.specs.Accepted.{Acceptance}
use Rattle.pp_cert.specs.Held.{Holding, Holdings, holding_at}
use Rattle.pp_arc.specs.declared.answer.Answer.{Answer}
use Rattle.pp_arc.specs.declared.answer.Answer.TheVariants as answer
use Rattle.pp_arc.specs.FourLists.{FourLists, is_cached}
use Rattle.pp_arc.specs.Figure.{request, forget}
use Rattle.pp_frames.specs.Marks.{is_exclusive}
use Rattle.pp_model.specs.declared.moves.Move.{Move}
use Rattle.pp_model.specs.declared.moves.Move.TheVariants as move
use Rattle.pp_model.specs.declared.moves.Came.{Came}
use Rattle.pp_model.specs.declared.moves.Came.TheVariants.{Fault, Image}
use Rattle.pp_model.specs.declared.reply.Ending.TheVariants.{Done, Gone}
use Rattle.pp_model.specs.declared.reply.Failure.TheVariants.{WriteFault, ReadFault, Misread}
use Rattle.pp_model.specs.declared.reply.Reply.{Reply}
use Rattle.pp_model.specs.declared.reply.Reply.TheVariants.{Taken, Hit, MustRead, MustWrite, Failed, Loaded, Did}
use Rattle.pp_model.specs.declared.reply.Reply.TheVariants.{Latched, Unlatched, Finished, Flushing, Flushed}
use Rattle.pp_cursor.specs.Asked.{region_has}
use Rattle.pp_model.specs.Pool.{Stage, acting, writing, reading, leaving, Running, Flush, State, is_dirty, known_mark}
use Rattle.pp_model.specs.Pool.{frame_at, mark_at}
use Rattle.pp_model.specs.Holders.{holdings, is_in_flight, is_busy, latches_of, page_in}
use Rattle.pp_model.specs.Outcome.{Outcome, with_stage, did, with_lists, with_frame, with_dirty, with_mark, released}
use Rattle.pp_model.specs.Taking.{has_room, began, take_where, take_by}
use Rattle.pp_model.specs.Fixing.{fix_slot, with_frame_moved, free_frame, evict_where, fix_by, fix_where, fix_asked}
use Rattle.pp_model.specs.Fixing.{fixes}
use Rattle.pp_model.specs.Answers.{brought_back, write_where, write_in, write_by, is_other, is_misread, read_where}
use Rattle.pp_model.specs.Answers.{read_came, read_in, read_by}
use Rattle.pp_model.specs.Using.{unfix_asked, goes_with, latch_where, latch_asked, unlatched, unlatch_asked}
use Rattle.pp_model.specs.Using.{choose_where}
use Rattle.pp_model.specs.Using.{choose_asked}
use Rattle.pp_model.specs.Leaving.{unwound as unwound_reply, unwind_where, unwind_in, unwind_by, ended, finish_asked}
use Rattle.pp_model.specs.Leaving.{finish_holding, finish_in}
use Rattle.pp_model.specs.Leaving.{finish_by}
use Rattle.pp_model.specs.Flushing.{flush_begun, flush_where, flush_by, flush_over, is_clean, flushed_where, flushed_by}
use Rattle.pp_model.specs.Moves.{asked_by, act_in, act_by, seat_of, outcome_of, reply_of, next_of, is_refusal, is_possible}
use Rattle.pp_model.specs.Moves.{IsPossible}
use Rattle.pp_cursor.proofs.Asking.{region_found}

-- ---- the ways

-- Worker w is in its plan, at this stage.
pub record IsAt (s : State) (w : ℕ) (r : Running) (g : Stage) : Type 0 where
  pub seat : seat_of s w ≡ Some (Some r)
  pub stage : r.stage ≡ g

-- It acts, and its plan asks the action.
pub record IsAsked (s : State) (w : ℕ) (r : Running) (a : Action) : Type 0 where
  pub at : IsAt s w r acting
  pub names : NamesAction r.accepted.plan.layout (asked_by r) a

-- The action gives back what the slot holds: its own page, or the bundle.
abbrev pub GivesBack : ℕ → Action → Type 0
GivesBack slot a = (a ≡ action.Unfix slot) ⊎ (a ≡ action.Scatter slot)

-- The page isn't in flight, and ARC answers so.
pub record IsAnswered (s : State) (page : ℕ) (lists : FourLists) (answer : Answer) : Type 0 where
  pub grounded : is_in_flight s page ≡ false
  pub after : lists ≡ (request s.lists page (is_busy s)).1
  pub is : (request s.lists page (is_busy s)).0 ≡ answer

-- The page is cached and newer than the device's, a flush is left and none in flight, and the page isn't latched X.
pub record CanFlush (s : State) (page : ℕ) : Type 0 where
  pub none : s.flush ≡ None
  pub changed : (is_cached s.lists page && is_dirty s page) ≡ true
  pub some : nat_lt 0 s.flushes_left ≡ true
  pub unwritten : is_exclusive (latches_of s page) ≡ false

pub data Change (s t : State) : Type 0 where
  stays : t ≡ s → Change s t
  takes : (w : ℕ) (a : Acceptance) → seat_of s w ≡ Some None → slice_get s.plans s.taken ≡ Some a
      → has_room s a ≡ true → t ≡ began s w a → Change s t
  hits : (w : ℕ) (r : Running) (slot page : ℕ) (l : FourLists) → IsAsked s w r (fixes (asked_by r) slot page)
      → IsAnswered s page l answer.Hit → t ≡ did (with_lists s l) w r (fixes (asked_by r) slot page) → Change s t
  fills : (w : ℕ) (r : Running) (slot page : ℕ) (l : FourLists) → IsAsked s w r (fixes (asked_by r) slot page)
      → IsAnswered s page l answer.Free
      → t ≡ with_stage (with_frame (with_lists s l) page (Some (free_frame s))) w r (reading slot page) → Change s t
  evicts : (w : ℕ) (r : Running) (slot page v : ℕ) (l : FourLists) → IsAsked s w r (fixes (asked_by r) slot page)
      → IsAnswered s page l (answer.Evict v) → is_dirty s v ≡ false
      → t ≡ with_stage (with_frame_moved (with_lists s l) page v) w r (reading slot page) → Change s t
  sends : (w : ℕ) (r : Running) (slot page v : ℕ) (l : FourLists) → IsAsked s w r (fixes (asked_by r) slot page)
      → IsAnswered s page l (answer.Evict v) → is_dirty s v ≡ true
      → t ≡ with_stage (with_frame_moved (with_lists s l) page v) w r (writing slot page v) → Change s t
  writes : (w : ℕ) (r : Running) (slot page v : ℕ) → IsAt s w r (writing slot page v)
      → t ≡ with_stage (with_dirty s v false) w r (reading slot page) → Change s t
  brings : (w : ℕ) (r : Running) (slot page v : ℕ) → IsAt s w r (writing slot page v)
      → t ≡ with_stage (brought_back s page v) w r (leaving []) → Change s t
  forgets : (w : ℕ) (r : Running) (slot page : ℕ) → IsAt s w r (reading slot page)
      → t ≡ with_stage (with_frame (with_lists s (forget s.lists page)) page None) w r (leaving []) → Change s t
  loads : (w : ℕ) (r : Running) (slot page stamp : ℕ) → IsAt s w r (reading slot page)
      → is_other (known_mark s page) stamp ≡ false → t ≡ did (with_mark s page stamp) w r (fixes (asked_by r) slot page)
      → Change s t
  unfixes : (w : ℕ) (r : Running) (slot : ℕ) (a : Action) → GivesBack slot a → IsAsked s w r a → t ≡ did s w r a
      → Change s t
  latches : (w : ℕ) (r : Running) (slot : ℕ) (m : Mode) → IsAsked s w r (action.Latch slot m)
      → goes_with s m (page_in r slot) ≡ true → t ≡ did s w r (action.Latch slot m) → Change s t
  unlatches : (w : ℕ) (r : Running) (slot : ℕ) → IsAsked s w r (action.Unlatch slot)
      → t ≡ did (unlatched s r slot) w r (action.Unlatch slot) → Change s t
  chooses : (w : ℕ) (r : Running) (i : ℕ) → IsAsked s w r (action.Choose i)
      → t ≡ did s w r (action.Choose i) → Change s t
  unwinds : (w : ℕ) (r : Running) (slot : ℕ) (given : List ℕ) (h : Holding) → IsAt s w r (leaving given)
      → holding_at (holdings r) slot ≡ Some h
      → t ≡ with_stage (released s h.held h.page) w r (leaving (slot ∷ given)) → Change s t
  ends : (w : ℕ) (r : Running) → IsAt s w r acting → asked_by r ≡ ask.End → t ≡ (ended s w r Done).state → Change s t
  leaves : (w : ℕ) (r : Running) (given : List ℕ) → IsAt s w r (leaving given) → holdings r ≡ []
      → t ≡ (ended s w r Gone).state → Change s t
  flushes : (page : ℕ) → CanFlush s page → t ≡ flush_begun s page → Change s t
  cleans : (f : Flush) → s.flush ≡ Some f → t ≡ with_dirty (flush_over s) f.page false → Change s t
  drops : (f : Flush) → s.flush ≡ Some f → t ≡ flush_over s → Change s t

-- ---- acting workers

-- One of the ways in which a move is done.
abbrev pub IsReal : {s t : State} → Change s t → Type 0
IsReal (stays e) = ⊥
IsReal _ = Unit {0}

-- What a move that is done so is answered.
abbrev pub Tells : {s t : State} → Change s t → Reply → Type 0
Tells {s} {t} (stays e) x = ⊥
Tells {s} {t} (takes w a idle next fits e) x = x ≡ Taken s.taken
Tells {s} {t} (hits w r slot page l asked is e) x = x ≡ Hit (frame_at s page) (mark_at s page)
Tells {s} {t} (fills w r slot page l asked is e) x = x ≡ MustRead (free_frame s)
Tells {s} {t} (evicts w r slot page v l asked is clean e) x = x ≡ MustRead (frame_at s v)
Tells {s} {t} (sends w r slot page v l asked is dirty e) x = x ≡ MustWrite (frame_at s v) v
Tells {s} {t} (writes w r slot page v at e) x = x ≡ MustRead (frame_at s page)
Tells {s} {t} (brings w r slot page v at e) x = x ≡ Failed WriteFault
Tells {s} {t} (forgets w r slot page at e) x = (x ≡ Failed ReadFault) ⊎ (x ≡ Failed Misread)
Tells {s} {t} (loads w r slot page stamp at known e) x = x ≡ Loaded stamp
Tells {s} {t} (unfixes w r slot a back asked e) x = x ≡ Did
Tells {s} {t} (latches w r slot m asked goes e) x = x ≡ Latched (mark_at s (page_in r slot))
Tells {s} {t} (unlatches w r slot asked e) x =
    x ≡ Unlatched (mark_at (unlatched s r slot) (page_in r slot))
Tells {s} {t} (chooses w r i asked e) x = x ≡ Did
Tells {s} {t} (unwinds w r slot given h at found e) x =
    x ≡ unwound_reply h.held (mark_at (released s h.held h.page) h.page)
Tells {s} {t} (ends w r at asked e) x = x ≡ Finished Done
Tells {s} {t} (leaves w r given at none e) x = x ≡ Finished Gone
Tells {s} {t} (flushes page can e) x = x ≡ Flushing (mark_at s page)
Tells {s} {t} (cleans f is e) x = x ≡ Flushed true
Tells {s} {t} (drops f is e) x = x ≡ Flushed false

-- The move was refused, and the state stays; or it was done in one of the ways, and answered so.
pub data Result (s : State) (o : Outcome) : Type 0 where
  refused : is_refusal o.reply ≡ true → o.state ≡ s → Result s o
  done : is_refusal o.reply ≡ false → (c : Change s o.state) → IsReal c → Tells c o.reply → Result s o

asked_is : (r : Running) (x : Ask) (a : Action) → asked_by r ≡ x → NamesAction r.accepted.plan.layout x a
    → NamesAction r.accepted.plan.layout (asked_by r) a
asked_is r x a e n = subst (λ y. NamesAction r.accepted.plan.layout y a) (sym e) n

region_tested : (r : Running) (page slot t region : ℕ)
    → ◌≡◌ {A = Option ℕ} (cond (region_has r.accepted.plan.layout region page) (Some t) None) (Some slot)
    → (t ≡ slot) × HasPage r.accepted.plan.layout region page
region_tested r page slot t region e = go (region_has r.accepted.plan.layout region page) refl e
  where
    go : (b : Bool) → region_has r.accepted.plan.layout region page ≡ b
        → ◌≡◌ {A = Option ℕ} (cond b (Some t) None) (Some slot) → (t ≡ slot)
        × HasPage r.accepted.plan.layout region page
    go true is f = (cc, region_found r.accepted.plan.layout region page is)
    go false is f = cc

-- The slot of a fix is one that the plan asks for the page.
pub slot_asked : (r : Running) (page slot : ℕ) (x : Ask) → fix_slot r page x ≡ Some slot
    → NamesAction r.accepted.plan.layout x (fixes x slot page)
slot_asked r page slot (ask.Fix t region) e = region_tested r page slot t region e
slot_asked r page slot (ask.Unfix t) e = cc
slot_asked r page slot (ask.Latch t m) e = cc
slot_asked r page slot (ask.Unlatch t) e = cc
slot_asked r page slot (ask.Gather t region) e = region_tested r page slot t region e
slot_asked r page slot (ask.Scatter t) e = cc
slot_asked r page slot (ask.Choose n) e = cc
slot_asked r page slot ask.End e = cc

evicted : (s : State) (w : ℕ) (r : Running) (slot page v : ℕ) (l : FourLists) (b : Bool)
    → IsAsked s w r (fixes (asked_by r) slot page) → IsAnswered s page l (answer.Evict v) → is_dirty s v ≡ b
    → Result s (evict_where (with_lists s l) w r slot page v b)
evicted s w r slot page v l true asked is e = done refl (sends w r slot page v l asked is e refl) tt refl
evicted s w r slot page v l false asked is e = done refl (evicts w r slot page v l asked is e refl) tt refl

fix_answered : (s : State) (w : ℕ) (r : Running) (slot page : ℕ) (l : FourLists) (x : Answer)
    → IsAsked s w r (fixes (asked_by r) slot page) → IsAnswered s page l x → Result s (fix_by s l w r slot page x)
fix_answered s w r slot page l answer.Hit asked is = done refl (hits w r slot page l asked is refl) tt refl
fix_answered s w r slot page l answer.Free asked is = done refl (fills w r slot page l asked is refl) tt refl
fix_answered s w r slot page l (answer.Evict v) asked is = evicted s w r slot page v l (is_dirty s v) asked is refl
fix_answered s w r slot page l answer.AllBusy asked is = refused refl refl

fix_flies : (s : State) (w : ℕ) (r : Running) (slot page : ℕ) (b : Bool) → is_in_flight s page ≡ b
    → IsAsked s w r (fixes (asked_by r) slot page) → Result s (fix_where s w r slot page b)
fix_flies s w r slot page true e asked = refused refl refl
fix_flies s w r slot page false e asked =
    let answered = request s.lists page (is_busy s) in
    fix_answered s w r slot page answered.1 answered.0 asked (record { grounded = e; after = refl; is = refl })

fixed : (s : State) (w : ℕ) (r : Running) (page : ℕ) (o : Option ℕ) → fix_slot r page (asked_by r) ≡ o
    → IsAt s w r acting → Result s (fix_asked s w r page o)
fixed s w r page None e at = refused refl refl
fixed s w r page (Some slot) e at =
    fix_flies s w r slot page (is_in_flight s page) refl
    (record { at = at; names = slot_asked r page slot (asked_by r) e })

unfixed : (s : State) (w : ℕ) (r : Running) (x : Ask) → asked_by r ≡ x → IsAt s w r acting
    → Result s (unfix_asked s w r x)
unfixed s w r (ask.Unfix slot) e at =
    done refl (unfixes w r slot (action.Unfix slot) (inl refl) (record {
      at = at;
      names = asked_is r (ask.Unfix slot)
          (action.Unfix slot) e refl;
    }) refl) tt refl
unfixed s w r (ask.Scatter slot) e at =
    done refl (unfixes w r slot (action.Scatter slot) (inr refl) (record {
      at = at;
      names = asked_is r (ask.Scatter slot)
          (action.Scatter slot) e refl;
    }) refl) tt refl
unfixed s w r _ e at = refused refl refl

latch_tested : (s : State) (w : ℕ) (r : Running) (slot : ℕ) (m : Mode) (b : Bool)
    → goes_with s m (page_in r slot) ≡ b → IsAsked s w r (action.Latch slot m)
    → Result s (latch_where s w r slot m b)
latch_tested s w r slot m true e asked = done refl (latches w r slot m asked e refl) tt refl
latch_tested s w r slot m false e asked = refused refl refl

latched : (s : State) (w : ℕ) (r : Running) (x : Ask) → asked_by r ≡ x → IsAt s w r acting
    → Result s (latch_asked s w r x)
latched s w r (ask.Latch slot m) e at =
    latch_tested s w r slot m (goes_with s m (page_in r slot)) refl
    (record { at = at; names = asked_is r (ask.Latch slot m) (action.Latch slot m) e (refl, refl) })
latched s w r _ e at = refused refl refl

unlatches_asked : (s : State) (w : ℕ) (r : Running) (x : Ask) → asked_by r ≡ x → IsAt s w r acting
    → Result s (unlatch_asked s w r x)
unlatches_asked s w r (ask.Unlatch slot) e at =
    done refl (unlatches w r slot (record {
      at = at;
      names = asked_is r (ask.Unlatch slot)
          (action.Unlatch slot) e refl;
    }) refl) tt refl
unlatches_asked s w r _ e at = refused refl refl

choose_tested : (s : State) (w : ℕ) (r : Running) (i n : ℕ) (b : Bool) → nat_lt i n ≡ b → asked_by r ≡ ask.Choose n
    → IsAt s w r acting → Result s (choose_where s w r i b)
choose_tested s w r i n true lt e at =
    let names : i < n = grind (arith, nat_tests) in
    done refl (chooses w r i (record { at = at; names = asked_is r (ask.Choose n) (action.Choose i) e names }) refl) tt refl
choose_tested s w r i n false lt e at = refused refl refl

chose : (s : State) (w : ℕ) (r : Running) (i : ℕ) (x : Ask) → asked_by r ≡ x → IsAt s w r acting
    → Result s (choose_asked s w r i x)
chose s w r i (ask.Choose n) e at = choose_tested s w r i n (nat_lt i n) refl e at
chose s w r i _ e at = refused refl refl

act_changes : (s : State) (act : Running → Outcome) (r : Running) (g : Stage)
    → (g ≡ acting → Result s (act r)) → Result s (act_in s act r g)
act_changes s act r acting k = k refl
act_changes s act r (writing slot page victim) k = refused refl refl
act_changes s act r (reading slot page) k = refused refl refl
act_changes s act r (leaving given) k = refused refl refl

acts : (s : State) (w : ℕ) (act : Running → Outcome) (o : Option (Option Running)) → seat_of s w ≡ o
    → ((r : Running) → IsAt s w r acting → Result s (act r)) → Result s (act_by s act o)
acts s w act None e all = refused refl refl
acts s w act (Some None) e all = refused refl refl
acts s w act (Some (Some r)) e all = act_changes s act r r.stage (λ g. all r (record { seat = e; stage = g }))

-- ---- answers of the device

written : (s : State) (w : ℕ) (r : Running) (slot page v : ℕ) (ok : Bool) → IsAt s w r (writing slot page v)
    → Result s (write_where s w r slot page v ok)
written s w r slot page v true at = done refl (writes w r slot page v at refl) tt refl
written s w r slot page v false at = done refl (brings w r slot page v at refl) tt refl

write_stage : (s : State) (w : ℕ) (ok : Bool) (r : Running) (g : Stage) → IsAt s w r g → Result s (write_in s w ok r g)
write_stage s w ok r acting at = refused refl refl
write_stage s w ok r (writing slot page victim) at = written s w r slot page victim ok at
write_stage s w ok r (reading slot page) at = refused refl refl
write_stage s w ok r (leaving given) at = refused refl refl

write_seat : (s : State) (w : ℕ) (ok : Bool) (o : Option (Option Running)) → seat_of s w ≡ o
    → Result s (write_by s w ok o)
write_seat s w ok None e = refused refl refl
write_seat s w ok (Some None) e = refused refl refl
write_seat s w ok (Some (Some r)) e = write_stage s w ok r r.stage (record { seat = e; stage = refl })

-- What isn't misread isn't another stamp.
good_stamp : (a b : Bool) → (a || b) ≡ false → b ≡ false
good_stamp true b e = cc
good_stamp false b e = e

stamp_tested : (s : State) (w : ℕ) (r : Running) (slot page named stamp : ℕ) (b : Bool)
    → is_misread s page named stamp ≡ b → IsAt s w r (reading slot page)
    → Result s (read_where s w r slot page stamp b)
stamp_tested s w r slot page named stamp true e at = done refl (forgets w r slot page at refl) tt (inr refl)
stamp_tested s w r slot page named stamp false e at =
    done refl (loads w r slot page stamp at (good_stamp (not (named == page)) (is_other (known_mark s page) stamp) e)
    refl) tt refl

came_in : (s : State) (w : ℕ) (r : Running) (slot page : ℕ) (came : Came) → IsAt s w r (reading slot page)
    → Result s (read_came s w r slot page came)
came_in s w r slot page Fault at = done refl (forgets w r slot page at refl) tt (inl refl)
came_in s w r slot page (Image named stamp) at =
    stamp_tested s w r slot page named stamp (is_misread s page named stamp) refl at

read_stage : (s : State) (w : ℕ) (c : Came) (r : Running) (g : Stage) → IsAt s w r g → Result s (read_in s w c r g)
read_stage s w c r acting at = refused refl refl
read_stage s w c r (writing slot page victim) at = refused refl refl
read_stage s w c r (reading slot page) at = came_in s w r slot page c at
read_stage s w c r (leaving given) at = refused refl refl

read_seat : (s : State) (w : ℕ) (c : Came) (o : Option (Option Running)) → seat_of s w ≡ o → Result s (read_by s w c o)
read_seat s w c None e = refused refl refl
read_seat s w c (Some None) e = refused refl refl
read_seat s w c (Some (Some r)) e = read_stage s w c r r.stage (record { seat = e; stage = refl })

-- ---- workers that leave or end

unwound_done : (h : Held) (mark : ℕ) → is_refusal (unwound_reply h mark) ≡ false
unwound_done Free mark = refl
unwound_done S mark = refl
unwound_done X mark = refl

unwound : (s : State) (w : ℕ) (r : Running) (slot : ℕ) (given : List ℕ) (o : Option Holding)
    → holding_at (holdings r) slot ≡ o → IsAt s w r (leaving given) → Result s (unwind_where s w r slot given o)
unwound s w r slot given None e at = refused refl refl
unwound s w r slot given (Some h) e at =
    done (unwound_done h.held (mark_at (released s h.held h.page) h.page)) (unwinds w r slot given h at e refl) tt refl

unwind_stage : (s : State) (w slot : ℕ) (r : Running) (g : Stage) → IsAt s w r g → Result s (unwind_in s w slot r g)
unwind_stage s w slot r acting at = refused refl refl
unwind_stage s w slot r (writing x page victim) at = refused refl refl
unwind_stage s w slot r (reading x page) at = refused refl refl
unwind_stage s w slot r (leaving given) at = unwound s w r slot given (holding_at (holdings r) slot) refl at

unwind_seat : (s : State) (w slot : ℕ) (o : Option (Option Running)) → seat_of s w ≡ o
    → Result s (unwind_by s w slot o)
unwind_seat s w slot None e = refused refl refl
unwind_seat s w slot (Some None) e = refused refl refl
unwind_seat s w slot (Some (Some r)) e = unwind_stage s w slot r r.stage (record { seat = e; stage = refl })

end_asked : (s : State) (w : ℕ) (r : Running) (x : Ask) → asked_by r ≡ x → IsAt s w r acting
    → Result s (finish_asked s w r x)
end_asked s w r ask.End e at = done refl (ends w r at e refl) tt refl
end_asked s w r _ e at = refused refl refl

left_holding : (s : State) (w : ℕ) (r : Running) (given : List ℕ) (hs : Holdings) → holdings r ≡ hs
    → IsAt s w r (leaving given) → Result s (finish_holding s w r hs)
left_holding s w r given [] e at = done refl (leaves w r given at e refl) tt refl
left_holding s w r given (h ∷ hs) e at = refused refl refl

finish_stage : (s : State) (w : ℕ) (r : Running) (g : Stage) → IsAt s w r g → Result s (finish_in s w r g)
finish_stage s w r acting at = end_asked s w r (asked_by r) refl at
finish_stage s w r (writing slot page victim) at = refused refl refl
finish_stage s w r (reading slot page) at = refused refl refl
finish_stage s w r (leaving given) at = left_holding s w r given (holdings r) refl at

finish_seat : (s : State) (w : ℕ) (o : Option (Option Running)) → seat_of s w ≡ o → Result s (finish_by s w o)
finish_seat s w None e = refused refl refl
finish_seat s w (Some None) e = refused refl refl
finish_seat s w (Some (Some r)) e = finish_stage s w r r.stage (record { seat = e; stage = refl })

-- ---- the flusher

flush_tested : (s : State) (page : ℕ) (a b c : Bool) → s.flush ≡ None
    → (is_cached s.lists page && is_dirty s page) ≡ a → nat_lt 0 s.flushes_left ≡ b
    → is_exclusive (latches_of s page) ≡ c → Result s (flush_where s page a b c)
flush_tested s page false b c n e f g = refused refl refl
flush_tested s page true false c n e f g = refused refl refl
flush_tested s page true true true n e f g = refused refl refl
flush_tested s page true true false n e f g =
    done refl (flushes page (record { none = n; changed = e; some = f; unwritten = g }) refl) tt refl

flush_changes : (s : State) (page : ℕ) (o : Option Flush) → s.flush ≡ o → Result s (flush_by s page o)
flush_changes s page (Some f) e = refused refl refl
flush_changes s page None e = flush_tested s page _ _ _ e refl refl refl

flushed_clean : (s : State) (f : Flush) (b : Bool) → s.flush ≡ Some f → Result s (flushed_where s f.page b)
flushed_clean s f true e = done refl (cleans f e refl) tt refl
flushed_clean s f false e = done refl (drops f e refl) tt refl

flushed_changes : (s : State) (ok : Bool) (o : Option Flush) → s.flush ≡ o → Result s (flushed_by s ok o)
flushed_changes s ok None e = refused refl refl
flushed_changes s ok (Some f) e = flushed_clean s f (is_clean s ok f) e

-- ---- Take

take_tested : (s : State) (w : ℕ) (a : Acceptance) (b : Bool) → seat_of s w ≡ Some None
    → slice_get s.plans s.taken ≡ Some a → has_room s a ≡ b → Result s (take_where s w a b)
take_tested s w a true e f g = done refl (takes w a e f g refl) tt refl
take_tested s w a false e f g = refused refl refl

take_seat : (s : State) (w : ℕ) (o : Option (Option Running)) (next : Option Acceptance) → seat_of s w ≡ o
    → slice_get s.plans s.taken ≡ next → Result s (take_by s w o next)
take_seat s w None next e f = refused refl refl
take_seat s w (Some (Some r)) next e f = refused refl refl
take_seat s w (Some None) None e f = refused refl refl
take_seat s w (Some None) (Some a) e f = take_tested s w a (has_room s a) e f refl

-- ---- all moves

pub result : (s : State) (m : Move) → Result s (outcome_of s m)
result s (move.Take w) = take_seat s w (seat_of s w) (slice_get s.plans s.taken) refl refl
result s (move.Fix w page) = acts s w _ (seat_of s w) refl
    (λ r at. fixed s w r page (fix_slot r page (asked_by r)) refl at)
result s (move.WriteDone w ok) = write_seat s w ok (seat_of s w) refl
result s (move.ReadDone w c) = read_seat s w c (seat_of s w) refl
result s (move.Unfix w) = acts s w _ (seat_of s w) refl (λ r at. unfixed s w r (asked_by r) refl at)
result s (move.Latch w) = acts s w _ (seat_of s w) refl (λ r at. latched s w r (asked_by r) refl at)
result s (move.Unlatch w) = acts s w _ (seat_of s w) refl (λ r at. unlatches_asked s w r (asked_by r) refl at)
result s (move.Choose w i) = acts s w _ (seat_of s w) refl (λ r at. chose s w r i (asked_by r) refl at)
result s (move.Unwind w slot) = unwind_seat s w slot (seat_of s w) refl
result s (move.Finish w) = finish_seat s w (seat_of s w) refl
result s (move.FlushBegin page) = flush_changes s page s.flush refl
result s (move.FlushDone ok) = flushed_changes s ok s.flush refl

pub change : (s : State) (m : Move) → Change s (next_of s m)
change s m = go (result s m)
  where
    go : Result s (outcome_of s m) → Change s (next_of s m)
    go (refused r e) = stays e
    go (done r c real told) = c

-- A refused move does nothing.
pub refused_by : (s : State) (m : Move) → is_possible s m ≡ false → next_of s m ≡ s
refused_by s m p = go (result s m)
  where
    go : Result s (outcome_of s m) → next_of s m ≡ s
    go (refused r e) = e
    go (done r c real told) = let yes : is_possible s m ≡ true = ap not r in cc

-- A possible move is done in one of the ways.
pub record DoneBy (s : State) (m : Move) : Type 0 where
  pub by : Change s (next_of s m)
  pub real : IsReal by
  pub told : Tells by (reply_of s m)

pub done_by : (s : State) (m : Move) → IsPossible s m → DoneBy s m
done_by s m p = go (result s m)
  where
    go : Result s (outcome_of s m) → DoneBy s m
    go (refused r e) = let isnt : is_possible s m ≡ false = ap not r in cc
    go (done r c real told) = record { by = c; real = real; told = told }
