-- What holds of each refusal and of each way in which a move is done holds of what the move comes to.
use Rattle.std.proofs.Common.{◌≡◌, ◌∙◌, ◌<◌, ℕ, Bool, true, false, cond, Option, Some, None, List, [], ◌∷◌, refl, sym, subst}
use Rattle.std.proofs.Common.{ap, arith}
use Rattle.std.specs.Prelude.{slice_get, nat_lt, not, ◌==◌, ◌||◌, ◌&&◌}
use Rattle.std.proofs.lemmas.Bool.Decides.{nat_tests}
use Rattle.pp_settings.specs.Layout.{HasPage}
use Rattle.pp_plan.specs.declared.mode.Mode.{Mode}
use Rattle.pp_plan.specs.declared.action.Action.{Action}
use Rattle.pp_plan.specs.declared.action.Ask.{Ask}
use Rattle.pp_plan.specs.declared.action.Ask.TheVariants as ask
use Rattle.pp_cursor.specs.Asked.{region_has}
use Rattle.pp_cursor.specs.Cursor.{NamesAction}
use Rattle.pp_cursor.proofs.Asking.{region_found}
use Rattle.pp_cert.specs.Accepted.{Acceptance}
use Rattle.pp_cert.specs.Held.{Holding, Holdings, holding_at}
use Rattle.pp_arc.specs.declared.answer.Answer.{Answer}
use Rattle.pp_arc.specs.declared.answer.Answer.TheVariants as answer
use Rattle.pp_arc.specs.FourLists.{FourLists, is_cached}
use Rattle.pp_arc.specs.Figure.{request}
use Rattle.pp_frames.specs.Marks.{is_exclusive}
use Rattle.pp_model.specs.declared.moves.Move.TheVariants as move
use Rattle.pp_model.specs.declared.moves.Came.{Came}
use Rattle.pp_model.specs.declared.moves.Came.TheVariants.{Fault, Image}
use Rattle.pp_model.specs.declared.refusals.Delay.{Delay}
use Rattle.pp_model.specs.declared.refusals.Cause.{Cause}
use Rattle.pp_model.specs.declared.reply.Failure.TheVariants.{ReadFault, Misread}
use Rattle.pp_model.specs.declared.reply.Failure.{Failure}
use Rattle.pp_model.specs.declared.reply.Ending.TheVariants.{Done, Gone}
use Rattle.pp_model.specs.Pool.{Stage, acting, writing, reading, leaving, Running, Flush, State, is_dirty, known_mark}
use Rattle.pp_model.specs.Holders.{holdings, is_in_flight, is_busy, latches_of, page_in}
use Rattle.pp_model.specs.Outcome.{Outcome, not_now, off_plan, with_lists}
use Rattle.pp_model.specs.Taking.{has_room, take_where, take_by}
use Rattle.pp_model.specs.Fixing.{fixes, fix_slot, evict_where, fix_by, fix_where, fix_asked}
use Rattle.pp_model.specs.Answers.{unread, write_where, write_in, write_by, is_other, is_misread}
use Rattle.pp_model.specs.Answers.{read_where, read_came, read_in, read_by}
use Rattle.pp_model.specs.Using.{unfix_asked, goes_with, latch_where, latch_asked, unlatch_asked}
use Rattle.pp_model.specs.Using.{choose_where, choose_asked}
use Rattle.pp_model.specs.Leaving.{unwind_where, unwind_in, unwind_by, ended, finish_asked, finish_holding}
use Rattle.pp_model.specs.Leaving.{finish_in, finish_by}
use Rattle.pp_model.specs.Flushing.{flush_where, flush_by, is_clean, flushed_where, flushed_by}
use Rattle.pp_model.specs.Moves.{asked_by, act_in, act_by, seat_of, outcome_of}
use Rattle.pp_model.proofs.Changes.{IsAt, IsAsked, IsAnswered, CanFlush}
use Rattle.pp_core.specs.Fixing.{wanted}

-- It holds of all refusals.
pub record OfRefusals (s : State) (P : Outcome → Type 0) : Type 0 where
  pub delay : (d : Delay) → P (not_now s d)
  pub fault : (c : Cause) → P (off_plan s c)

-- The worker acts, and its plan asks this.
pub record IsAsking (s : State) (w : ℕ) (r : Running) (a : Ask) : Type 0 where
  pub at : IsAt s w r acting
  pub asks : asked_by r ≡ a

-- An action that the ask names is asked.
pub named : (s : State) (w : ℕ) (r : Running) (x : Ask) (a : Action) → IsAsking s w r x
    → NamesAction r.accepted.plan.layout x a → IsAsked s w r a
named s w r x a asking n =
    record { at = asking.at; names = subst (λ y. NamesAction r.accepted.plan.layout y a) (sym asking.asks) n }

-- The plan asks a page of this region into the slot, by a fix or by a gather, and the page is in it.
pub record AsksPage (s : State) (w : ℕ) (r : Running) (slot region page : ℕ) : Type 0 where
  pub into : wanted (asked_by r) ≡ Some (slot, region)
  pub asked : IsAsked s w r (fixes (asked_by r) slot page)

-- ---- ways of a fix

abbrev pub hit_way : State → ℕ → Running → (slot page : ℕ) → FourLists → Outcome
hit_way s w r slot page l = fix_by s l w r slot page answer.Hit

abbrev pub fill_way : State → ℕ → Running → (slot page : ℕ) → FourLists → Outcome
fill_way s w r slot page l = fix_by s l w r slot page answer.Free

abbrev pub evict_way : State → ℕ → Running → (slot page v : ℕ) → FourLists → Outcome
evict_way s w r slot page v l = evict_where (with_lists s l) w r slot page v false

abbrev pub send_way : State → ℕ → Running → (slot page v : ℕ) → FourLists → Outcome
send_way s w r slot page v l = evict_where (with_lists s l) w r slot page v true

pub record OfFixes (s : State) (P : Outcome → Type 0) (w page : ℕ) : Type 0 where
  pub hits : (r : Running) (slot region : ℕ) (l : FourLists) → AsksPage s w r slot region page
      → IsAnswered s page l answer.Hit → P (hit_way s w r slot page l)
  pub fills : (r : Running) (slot region : ℕ) (l : FourLists) → AsksPage s w r slot region page
      → P (fill_way s w r slot page l)
  pub evicts : (r : Running) (slot region v : ℕ) (l : FourLists) → AsksPage s w r slot region page
      → P (evict_way s w r slot page v l)
  pub sends : (r : Running) (slot region v : ℕ) (l : FourLists) → AsksPage s w r slot region page
      → P (send_way s w r slot page v l)

pub not_negated : (b : Bool) → not b ≡ false → b ≡ true
not_negated true e = refl
not_negated false e = cc

neither : (a b : Bool) → (a || b) ≡ false → (a ≡ false) × (b ≡ false)
neither true b e = cc
neither false b e = (refl, e)

module _ (s : State) (P : Outcome → Type 0) (refused : OfRefusals s P) where
  -- ---- Take

  room_cases : (w : ℕ) (a : Acceptance) (b : Bool) → P (take_where s w a true) → P (take_where s w a b)
  room_cases w a true p = p
  room_cases w a false p = refused.delay _

  seat_cases : (w : ℕ) (o : Option (Option Running)) (next : Option Acceptance) → seat_of s w ≡ o
      → ((a : Acceptance) → seat_of s w ≡ Some None → P (take_where s w a true)) → P (take_by s w o next)
  seat_cases w None next e p = refused.fault _
  seat_cases w (Some (Some r)) next e p = refused.fault _
  seat_cases w (Some None) None e p = refused.delay _
  seat_cases w (Some None) (Some a) e p = room_cases w a (has_room s a) (p a e)

  pub of_take : (w : ℕ) → ((a : Acceptance) → seat_of s w ≡ Some None → P (take_where s w a true))
      → P (outcome_of s (move.Take w))
  of_take w p = seat_cases w (seat_of s w) (slice_get s.plans s.taken) refl p

  -- ---- acting workers

  stage_cases : (act : Running → Outcome) (r : Running) (g : Stage) → (g ≡ acting → P (act r)) → P (act_in s act r g)
  stage_cases act r acting p = p refl
  stage_cases act r (writing slot page victim) p = refused.fault _
  stage_cases act r (reading slot page) p = refused.fault _
  stage_cases act r (leaving given) p = refused.fault _

  act_cases : (w : ℕ) (act : Running → Outcome) (o : Option (Option Running)) → seat_of s w ≡ o
      → ((r : Running) → IsAt s w r acting → P (act r)) → P (act_by s act o)
  act_cases w act None e p = refused.fault _
  act_cases w act (Some None) e p = refused.fault _
  act_cases w act (Some (Some r)) e p = stage_cases act r r.stage (λ g. p r (record { seat = e; stage = g }))

  -- ---- Fix

  dirty_cases : (w page : ℕ) (r : Running) (slot region v : ℕ) (l : FourLists) (b : Bool)
      → AsksPage s w r slot region page → OfFixes s P w page → P (evict_where (with_lists s l) w r slot page v b)
  dirty_cases w page r slot region v l true asks p = p.sends r slot region v l asks
  dirty_cases w page r slot region v l false asks p = p.evicts r slot region v l asks

  answer_cases : (w page : ℕ) (r : Running) (slot region : ℕ) (l : FourLists) (x : Answer)
      → AsksPage s w r slot region page → IsAnswered s page l x → OfFixes s P w page → P (fix_by s l w r slot page x)
  answer_cases w page r slot region l answer.Hit asks is p = p.hits r slot region l asks is
  answer_cases w page r slot region l answer.Free asks is p = p.fills r slot region l asks
  answer_cases w page r slot region l (answer.Evict v) asks is p =
      dirty_cases w page r slot region v l (is_dirty s v) asks p
  answer_cases w page r slot region l answer.AllBusy asks is p = refused.delay _

  flight_cases : (w page : ℕ) (r : Running) (slot region : ℕ) (b : Bool) → is_in_flight s page ≡ b
      → AsksPage s w r slot region page → OfFixes s P w page → P (fix_where s w r slot page b)
  flight_cases w page r slot region true e asks p = refused.delay _
  flight_cases w page r slot region false e asks p =
      let answered = request s.lists page (is_busy s) in
      answer_cases w page r slot region answered.1 answered.0 asks
      (record { grounded = e; after = refl; is = refl }) p

  module _ (w page : ℕ) (r : Running) (slot region : ℕ) (x : Ask) (asking : IsAsking s w r x)
      (into : wanted x ≡ Some (slot, region))
      (names : HasPage r.accepted.plan.layout region page → NamesAction r.accepted.plan.layout x (fixes x slot page)) where
    asks_page : HasPage r.accepted.plan.layout region page → AsksPage s w r slot region page
    asks_page has = record {
      into = ap wanted asking.asks ∙ into;
      asked = subst (λ y. IsAsked s w r (fixes y slot page)) (sym asking.asks) (named s w r x (fixes x slot page) asking (names has));
    }

    region_cases : (b : Bool) → region_has r.accepted.plan.layout region page ≡ b → OfFixes s P w page
        → P (fix_asked s w r page (cond b (Some slot) None))
    region_cases true e p =
        let has = region_found r.accepted.plan.layout region page e in
        flight_cases w page r slot region (is_in_flight s page) refl (asks_page has) p
    region_cases false e p = refused.fault _

  fix_cases : (w page : ℕ) (r : Running) (x : Ask) → asked_by r ≡ x → IsAt s w r acting → OfFixes s P w page
      → P (fix_asked s w r page (fix_slot r page x))
  fix_cases w page r (ask.Fix slot region) e at p =
      region_cases w page r slot region (ask.Fix slot region) (record { at = at; asks = e }) refl (λ has. (refl, has))
      (region_has r.accepted.plan.layout region page) refl p
  fix_cases w page r (ask.Gather slot region) e at p =
      region_cases w page r slot region (ask.Gather slot region) (record { at = at; asks = e }) refl (λ has. (refl, has))
      (region_has r.accepted.plan.layout region page) refl p
  fix_cases w page r (ask.Unfix slot) e at p = refused.fault _
  fix_cases w page r (ask.Latch slot m) e at p = refused.fault _
  fix_cases w page r (ask.Unlatch slot) e at p = refused.fault _
  fix_cases w page r (ask.Scatter slot) e at p = refused.fault _
  fix_cases w page r (ask.Choose n) e at p = refused.fault _
  fix_cases w page r ask.End e at p = refused.fault _

  pub of_fix : (w page : ℕ) → OfFixes s P w page → P (outcome_of s (move.Fix w page))
  of_fix w page p = act_cases w _ (seat_of s w) refl (λ r at. fix_cases w page r (asked_by r) refl at p)

  -- ---- WriteDone

  module _ (w : ℕ) where
    ok_cases : (r : Running) (slot page v : ℕ) (ok : Bool) → P (write_where s w r slot page v true)
        → P (write_where s w r slot page v false) → P (write_where s w r slot page v ok)
    ok_cases r slot page v true p q = p
    ok_cases r slot page v false p q = q

    abbrev pub OfWritten : Bool → Type 0
    OfWritten ok =
        (r : Running) (slot page v : ℕ) → IsAt s w r (writing slot page v) → P (write_where s w r slot page v ok)

    written_cases : (ok : Bool) (r : Running) (g : Stage) → IsAt s w r g → OfWritten ok → P (write_in s w ok r g)
    written_cases ok r acting at p = refused.fault _
    written_cases ok r (writing slot page v) at p = p r slot page v at
    written_cases ok r (reading slot page) at p = refused.fault _
    written_cases ok r (leaving given) at p = refused.fault _

    write_cases : (ok : Bool) (o : Option (Option Running)) → seat_of s w ≡ o → OfWritten ok → P (write_by s w ok o)
    write_cases ok None e p = refused.fault _
    write_cases ok (Some None) e p = refused.fault _
    write_cases ok (Some (Some r)) e p = written_cases ok r r.stage (record { seat = e; stage = refl }) p

    pub of_write : (ok : Bool) → OfWritten ok → P (outcome_of s (move.WriteDone w ok))
    of_write ok p = write_cases ok (seat_of s w) refl p

    -- ---- ReadDone

    pub record OfReads (came : Came) : Type 0 where
      pub loads : (r : Running) (slot page stamp : ℕ) → IsAt s w r (reading slot page) → came ≡ Image page stamp
          → is_other (known_mark s page) stamp ≡ false → P (read_where s w r slot page stamp false)
      pub fails : (r : Running) (slot page : ℕ) (failure : Failure) → IsAt s w r (reading slot page)
          → P (unread s w r page failure)

    misread_cases : (r : Running) (slot page page_named stamp : ℕ) (b : Bool)
        → is_misread s page page_named stamp ≡ b → IsAt s w r (reading slot page)
        → OfReads (Image page_named stamp) → P (read_where s w r slot page stamp b)
    misread_cases r slot page page_named stamp true e at p = p.fails r slot page Misread at
    misread_cases r slot page page_named stamp false e at p =
        let good = neither (not (page_named == page)) (is_other (known_mark s page) stamp) e in
        let right = not_negated (page_named == page) good.0 in
        let same : page_named ≡ page = grind (arith, nat_tests) in
        p.loads r slot page stamp at (ap (λ (n : ℕ). Image n stamp) same) good.1

    came_cases : (r : Running) (slot page : ℕ) (came : Came) → IsAt s w r (reading slot page) → OfReads came
        → P (read_came s w r slot page came)
    came_cases r slot page Fault at p = p.fails r slot page ReadFault at
    came_cases r slot page (Image n stamp) at p =
        misread_cases r slot page n stamp (is_misread s page n stamp) refl at p

    reading_cases : (came : Came) (r : Running) (g : Stage) → IsAt s w r g → OfReads came → P (read_in s w came r g)
    reading_cases came r acting at p = refused.fault _
    reading_cases came r (writing slot page v) at p = refused.fault _
    reading_cases came r (reading slot page) at p = came_cases r slot page came at p
    reading_cases came r (leaving given) at p = refused.fault _

    read_cases : (came : Came) (o : Option (Option Running)) → seat_of s w ≡ o → OfReads came → P (read_by s w came o)
    read_cases came None e p = refused.fault _
    read_cases came (Some None) e p = refused.fault _
    read_cases came (Some (Some r)) e p = reading_cases came r r.stage (record { seat = e; stage = refl }) p

    pub of_read : (came : Came) → OfReads came → P (outcome_of s (move.ReadDone w came))
    of_read came p = read_cases came (seat_of s w) refl p

    -- ---- Unfix

    abbrev pub OfUnfixed : Running → Ask → Type 0
    OfUnfixed r x = IsAsking s w r x → P (unfix_asked s w r x)

    unfix_cases : (r : Running) (x : Ask) → asked_by r ≡ x → IsAt s w r acting
        → ((slot : ℕ) → OfUnfixed r (ask.Unfix slot)) → ((slot : ℕ) → OfUnfixed r (ask.Scatter slot))
        → P (unfix_asked s w r x)
    unfix_cases r (ask.Unfix slot) e at p q = p slot (record { at = at; asks = e })
    unfix_cases r (ask.Scatter slot) e at p q = q slot (record { at = at; asks = e })
    unfix_cases r _ e at p q = refused.fault _

    pub of_unfix : ((r : Running) (slot : ℕ) → OfUnfixed r (ask.Unfix slot))
        → ((r : Running) (slot : ℕ) → OfUnfixed r (ask.Scatter slot)) → P (outcome_of s (move.Unfix w))
    of_unfix p q = act_cases w _ (seat_of s w) refl (λ r at. unfix_cases r (asked_by r) refl at (p r) (q r))

    -- ---- Latch

    goes_cases : (r : Running) (slot : ℕ) (m : Mode) (b : Bool) → P (latch_where s w r slot m true)
        → P (latch_where s w r slot m b)
    goes_cases r slot m true p = p
    goes_cases r slot m false p = refused.delay _

    latch_cases : (r : Running) (x : Ask) → asked_by r ≡ x → IsAt s w r acting
        → ((slot : ℕ) (m : Mode) → IsAsking s w r (ask.Latch slot m) → P (latch_where s w r slot m true))
        → P (latch_asked s w r x)
    latch_cases r (ask.Latch slot m) e at p =
        goes_cases r slot m (goes_with s m (page_in r slot)) (p slot m (record { at = at; asks = e }))
    latch_cases r _ e at p = refused.fault _

    pub of_latch : ((r : Running) (slot : ℕ) (m : Mode) → IsAsking s w r (ask.Latch slot m)
        → P (latch_where s w r slot m true)) → P (outcome_of s (move.Latch w))
    of_latch p = act_cases w _ (seat_of s w) refl (λ r at. latch_cases r (asked_by r) refl at (p r))

    -- ---- Unlatch

    unlatch_cases : (r : Running) (x : Ask) → asked_by r ≡ x → IsAt s w r acting
        → ((slot : ℕ) → IsAsking s w r (ask.Unlatch slot) → P (unlatch_asked s w r (ask.Unlatch slot)))
        → P (unlatch_asked s w r x)
    unlatch_cases r (ask.Unlatch slot) e at p = p slot (record { at = at; asks = e })
    unlatch_cases r _ e at p = refused.fault _

    pub of_unlatch : ((r : Running) (slot : ℕ) → IsAsking s w r (ask.Unlatch slot)
        → P (unlatch_asked s w r (ask.Unlatch slot))) → P (outcome_of s (move.Unlatch w))
    of_unlatch p = act_cases w _ (seat_of s w) refl (λ r at. unlatch_cases r (asked_by r) refl at (p r))

    -- ---- Choose

    branch_cases : (r : Running) (i n : ℕ) (b : Bool) → nat_lt i n ≡ b → (i < n → P (choose_where s w r i true))
        → P (choose_where s w r i b)
    branch_cases r i n true e p = let lt : i < n = grind (arith, nat_tests) in p lt
    branch_cases r i n false e p = refused.fault _

    choose_cases : (r : Running) (i : ℕ) (x : Ask) → asked_by r ≡ x → IsAt s w r acting
        → ((n : ℕ) → IsAsking s w r (ask.Choose n) → i < n → P (choose_where s w r i true))
        → P (choose_asked s w r i x)
    choose_cases r i (ask.Choose n) e at p =
        branch_cases r i n (nat_lt i n) refl (p n (record { at = at; asks = e }))
    choose_cases r i _ e at p = refused.fault _

    pub of_choose : (i : ℕ) → ((r : Running) (n : ℕ) → IsAsking s w r (ask.Choose n) → i < n
        → P (choose_where s w r i true)) → P (outcome_of s (move.Choose w i))
    of_choose i p = act_cases w _ (seat_of s w) refl (λ r at. choose_cases r i (asked_by r) refl at (p r))

    -- ---- Unwind

    abbrev pub OfUnwound : (slot : ℕ) → Type 0
    OfUnwound slot =
        (r : Running) (given : List ℕ) (h : Holding) → IsAt s w r (leaving given)
        → holding_at (holdings r) slot ≡ Some h → P (unwind_where s w r slot given (Some h))

    slot_cases : (slot : ℕ) (r : Running) (given : List ℕ) (o : Option Holding) → holding_at (holdings r) slot ≡ o
        → IsAt s w r (leaving given) → OfUnwound slot → P (unwind_where s w r slot given o)
    slot_cases slot r given None e at p = refused.fault _
    slot_cases slot r given (Some h) e at p = p r given h at e

    leaving_cases : (slot : ℕ) (r : Running) (g : Stage) → IsAt s w r g → OfUnwound slot → P (unwind_in s w slot r g)
    leaving_cases slot r acting at p = refused.fault _
    leaving_cases slot r (writing t page v) at p = refused.fault _
    leaving_cases slot r (reading t page) at p = refused.fault _
    leaving_cases slot r (leaving given) at p = slot_cases slot r given (holding_at (holdings r) slot) refl at p

    unwind_cases : (slot : ℕ) (o : Option (Option Running)) → seat_of s w ≡ o → OfUnwound slot
        → P (unwind_by s w slot o)
    unwind_cases slot None e p = refused.fault _
    unwind_cases slot (Some None) e p = refused.fault _
    unwind_cases slot (Some (Some r)) e p = leaving_cases slot r r.stage (record { seat = e; stage = refl }) p

    pub of_unwind : (slot : ℕ) → OfUnwound slot → P (outcome_of s (move.Unwind w slot))
    of_unwind slot p = unwind_cases slot (seat_of s w) refl p

    -- ---- Finish

    pub record OfFinishes : Type 0 where
      pub ends : (r : Running) → IsAsking s w r ask.End → P (ended s w r Done)
      pub leaves : (r : Running) (given : List ℕ) → IsAt s w r (leaving given) → holdings r ≡ [] → P (ended s w r Gone)

    end_cases : (r : Running) (x : Ask) → asked_by r ≡ x → IsAt s w r acting → OfFinishes → P (finish_asked s w r x)
    end_cases r ask.End e at p = p.ends r (record { at = at; asks = e })
    end_cases r _ e at p = refused.fault _

    left_cases : (r : Running) (given : List ℕ) (hs : Holdings) → holdings r ≡ hs → IsAt s w r (leaving given)
        → OfFinishes → P (finish_holding s w r hs)
    left_cases r given [] e at p = p.leaves r given at e
    left_cases r given (h ∷ hs) e at p = refused.fault _

    ending_cases : (r : Running) (g : Stage) → IsAt s w r g → OfFinishes → P (finish_in s w r g)
    ending_cases r acting at p = end_cases r (asked_by r) refl at p
    ending_cases r (writing slot page v) at p = refused.fault _
    ending_cases r (reading slot page) at p = refused.fault _
    ending_cases r (leaving given) at p = left_cases r given (holdings r) refl at p

    finish_cases : (o : Option (Option Running)) → seat_of s w ≡ o → OfFinishes → P (finish_by s w o)
    finish_cases None e p = refused.fault _
    finish_cases (Some None) e p = refused.fault _
    finish_cases (Some (Some r)) e p = ending_cases r r.stage (record { seat = e; stage = refl }) p

    pub of_finish : OfFinishes → P (outcome_of s (move.Finish w))
    of_finish p = finish_cases (seat_of s w) refl p

  -- ---- the flusher

  flush_tests : (page : ℕ) (a b c : Bool) → s.flush ≡ None → (is_cached s.lists page && is_dirty s page) ≡ a
      → nat_lt 0 s.flushes_left ≡ b → is_exclusive (latches_of s page) ≡ c
      → (CanFlush s page → P (flush_where s page true true false)) → P (flush_where s page a b c)
  flush_tests page false b c n e f g p = refused.fault _
  flush_tests page true false c n e f g p = refused.fault _
  flush_tests page true true true n e f g p = refused.delay _
  flush_tests page true true false n e f g p = p (record { none = n; changed = e; some = f; unwritten = g })

  flush_cases : (page : ℕ) (o : Option Flush) → s.flush ≡ o
      → (CanFlush s page → P (flush_where s page true true false)) → P (flush_by s page o)
  flush_cases page (Some f) e p = refused.delay _
  flush_cases page None e p = flush_tests page _ _ _ e refl refl refl p

  pub of_flush : (page : ℕ) → (CanFlush s page → P (flush_where s page true true false))
      → P (outcome_of s (move.FlushBegin page))
  of_flush page p = flush_cases page s.flush refl p

  pub record OfFlushed : Type 0 where
    pub cleans : (f : Flush) → s.flush ≡ Some f → P (flushed_where s f.page true)
    pub drops : (f : Flush) → s.flush ≡ Some f → P (flushed_where s f.page false)

  clean_cases : (f : Flush) (b : Bool) → s.flush ≡ Some f → OfFlushed → P (flushed_where s f.page b)
  clean_cases f true e p = p.cleans f e
  clean_cases f false e p = p.drops f e

  flushed_cases : (ok : Bool) (o : Option Flush) → s.flush ≡ o → OfFlushed → P (flushed_by s ok o)
  flushed_cases ok None e p = refused.fault _
  flushed_cases ok (Some f) e p = clean_cases f (is_clean s ok f) e p

  pub of_flushed : (ok : Bool) → OfFlushed → P (outcome_of s (move.FlushDone ok))
  of_flushed ok p = flushed_cases ok s.flush refl p
