-- Whether a page can be fixed and latched S at once, and unlatched and unfixed at once, as the core's tests tell it.
use Rattle.std.proofs.Common.{◌≡◌, ◌∙◌, ℕ, ◌+◌, ◌<◌, Bool, true, false, Option, Some, None, [], ◌∷◌, ◌++◌, length, refl}
use Rattle.std.proofs.Common.{sym, ap, subst, arith}
use Rattle.std.specs.Prelude.{◌&&◌, ◌==◌, not, option_map, unwrap_or, slice_get}
use Rattle.std.proofs.lemmas.Bool.{false≢true}
use Rattle.std.proofs.lemmas.Bool.Decides.{nat_tests}
use Rattle.pp_plan.specs.declared.mode.Mode.TheVariants as mode
use Rattle.pp_plan.specs.declared.action.Action.{Action}
use Rattle.pp_plan.specs.declared.action.Action.TheVariants as action
use Rattle.pp_plan.specs.declared.action.Ask.{Ask}
use Rattle.pp_plan.specs.declared.action.Ask.TheVariants as ask
use Rattle.pp_cursor.specs.Asked.{region_has, asked}
use Rattle.pp_cursor.specs.Cursor.{StandsFor as CursorStandsFor}
use Rattle.pp_cert.specs.declared.note.Held.{Held}
use Rattle.pp_cert.specs.declared.note.Held.TheVariants.{Free, S}
use Rattle.pp_cert.specs.Held.{Holding, holding_at}
use Rattle.pp_cert.specs.Accepted.{Acceptance}
use Rattle.pp_arc.specs.declared.answer.Answer.{Answer}
use Rattle.pp_arc.specs.declared.answer.Answer.TheVariants as answer
use Rattle.pp_arc.specs.FourLists.{FourLists, is_cached}
use Rattle.pp_arc.specs.Figure.{request}
use Rattle.pp_frames.specs.Marks as map
use Rattle.pp_frames.specs.Marks.{PageMap, PageMarks}
use Rattle.pp_frames.specs.declared.mode.Mode.TheVariants as latch_mode
use Rattle.pp_model.specs.declared.moves.Move.TheVariants as move
use Rattle.pp_model.specs.declared.reply.Reply.{Reply}
use Rattle.pp_model.specs.declared.reply.Reply.TheVariants as reply
use Rattle.pp_model.specs.Pool.{Running, State, is_dirty, frame_at, mark_at}
use Rattle.pp_model.specs.Holders.{holdings, page_in, held_in}
use Rattle.pp_model.specs.Marks.{marks}
use Rattle.pp_model.specs.Outcome.{Outcome, having_done, did, with_lists}
use Rattle.pp_model.specs.Fixing.{evict_where, fix_by, fixes}
use Rattle.pp_model.specs.Using.{goes_with, latch_where, latch_asked, unlatched, unlatch_asked}
use Rattle.pp_model.specs.Moves.{asked_by, seat_of, outcome_of, reply_of, next_of, is_refusal, is_possible}
use Rattle.pp_model.proofs.Changes.{IsAsked}
use Rattle.pp_model.proofs.HoldingSteps as steps
use Rattle.pp_model.proofs.MarkChanges.{edit_here, count_told}
use Rattle.pp_model.proofs.MarkSteps as marked
use Rattle.pp_model.proofs.Requests.{hit_cached, miss_uncached}
use Rattle.pp_core.specs.Parts.{Parts}
use Rattle.pp_core.specs.StandsFor.{StandsFor, IsKept, Moves, Asks}
use Rattle.pp_core.specs.Effects.{CanAct, Spent, pinned, is_flying, is_busy, frame_at as frame_in, mark_at as mark_in}
use Rattle.pp_core.specs.Fixing.{CanHit}
use Rattle.pp_core.specs.Queries.{ask_of, own_of, held_of, ask_holding, ask_holding_seat}
use Rattle.pp_core.specs.AfterMoves.{HasFixed}
use Rattle.pp_core.specs.Reading.{AsksBehind, CanRead, asks_fix, asks_share, asks_unlatch, asks_unfix, is_hit, can_read}
use Rattle.pp_core.specs.Reading.{can_end_read}
use Rattle.pp_core.proofs.ActTies.{can_act, cursor_of, fits_running, same_plan, fix_due, unlatch_due, acting_on}
use Rattle.pp_core.proofs.AfterMoves.{after_moves}
use Rattle.pp_core.proofs.AfterSeats.{ask_at, held_at, own_unless, same_page}
use Rattle.pp_core.proofs.Asking.{runs}
use Rattle.pp_core.proofs.Crew.{set_at}
use Rattle.pp_core.proofs.FixMoves as fixing
use Rattle.pp_core.proofs.LatchMoves.{released_seats}
use Rattle.pp_core.proofs.QueryTies.{ask_told, holding_told}
use Rattle.pp_core.proofs.ReadAsks.{share_asked}
use Rattle.pp_core.proofs.RefusalTies.{bounds}
use Rattle.pp_core.proofs.Ties.{acted_outcome, is_asked}
use Rattle.pp_core.proofs.UsingMoves.{goes_told}

-- ---- tests joined

second : (a b c d : Bool) → b ≡ false → false ≡ (a && b && c && d)
second true true c d e = absurd (false≢true (sym e))
second true false c d e = refl
second false b c d e = refl

third : (a b c d : Bool) → c ≡ false → false ≡ (a && b && c && d)
third true true true d e = absurd (false≢true (sym e))
third true true false d e = refl
third true false c d e = refl
third false b c d e = refl

fourth : (a b c d e : Bool) → a ≡ true → b ≡ true → c ≡ true → e ≡ d → e ≡ (a && b && c && d)
fourth true true true d e p q r h = h
fourth true true false d e p q r h = absurd (false≢true r)
fourth true false c d e p q r h = absurd (false≢true q)
fourth false b c d e p q r h = absurd (false≢true p)

-- ---- replies of a fix

evict_unhit : (s : State) (w : ℕ) (r : Running) (slot page v : ℕ) (b : Bool)
    → is_hit (evict_where s w r slot page v b).reply ≡ false
evict_unhit s w r slot page v true = refl
evict_unhit s w r slot page v false = refl

unhit : (s : State) (l : FourLists) (w : ℕ) (r : Running) (slot page : ℕ) (a : Answer) → (a ≡ answer.Hit → ⊥)
    → is_hit (fix_by s l w r slot page a).reply ≡ false
unhit s l w r slot page answer.Hit isnt = absurd (isnt refl)
unhit s l w r slot page answer.Free isnt = refl
unhit s l w r slot page (answer.Evict v) isnt = evict_unhit (with_lists s l) w r slot page v (is_dirty s v)
unhit s l w r slot page answer.AllBusy isnt = refl

hit_or : (a : Answer) → ((a ≡ answer.Hit → ⊥) → ⊥) → a ≡ answer.Hit
hit_or answer.Hit isnt = refl
hit_or answer.Free isnt = absurd (isnt (λ e. cc))
hit_or (answer.Evict v) isnt = absurd (isnt (λ e. cc))
hit_or answer.AllBusy isnt = absurd (isnt (λ e. cc))

-- ---- a slot and its page

own_page : (o : Option Holding) (page : ℕ) (how : Held) → own_of o ≡ Some (page, how)
    → unwrap_or (option_map (λ h. h.page) o) 0 ≡ page
own_page None page how e = cc
own_page (Some h) page how e = go h.bundled e
  where
    go : (b : Bool) → own_unless b h ≡ Some (page, how) → h.page ≡ page
    go true e = cc
    go false e = same_page h.page page h.held how e

pub same_ask : (x y : Ask) → Some x ≡ Some y → x ≡ y
same_ask x y e = cc

slot_is : (a b : ℕ) → (a == b) ≡ true → a ≡ b
slot_is a b e = grind (arith, nat_tests)

same_slot : (a b : ℕ) → a ≡ b → (a == b) ≡ true
same_slot a b e = grind (arith, nat_tests)

other_slot : (a b : ℕ) → (a ≡ b → ⊥) → (a == b) ≡ false
other_slot a b isnt = go (a == b) refl
  where
    go : (t : Bool) → (a == b) ≡ t → (a == b) ≡ false
    go true is = absurd (isnt (slot_is a b is))
    go false is = is

-- ---- what the plan asks behind an action

pub asks_behind : (f : Parts) (w : ℕ) (a : Action) (next : Ask) → AsksBehind f w a next → (s : State) (r : Running)
    → StandsFor f s → IsAsked s w r a → next ≡ asked_by (having_done r a)
asks_behind f w a next h s r st asked_now =
    let x = h.seat in
    let fits = fits_running f s w x r st h.runs.is_in asked_now.at.seat in
    let plan : h.accepted ≡ r.accepted =
    same_plan (slice_get f.plans x.place) h.accepted r.accepted h.runs.plan (runs f s w x r st h.runs.is_in fits).plan in
    let cursor = cursor_of f.plans x r fits (acting_on f s w r st a asked_now) in
    h.told r.done (subst (λ (b : Acceptance). CursorStandsFor b.plan x.cursor r.done) (sym plan) cursor)
    ∙ ap (λ (b : Acceptance). asked b.plan (r.done ++ a ∷ [])) plan

-- ---- a fix and a latch S

-- No fix that is answered so is read at once.
pub missed : (f : Parts) (w slot page : ℕ) (told : Reply) → is_hit told ≡ false → Moves f (move.Fix w page) told f
    → (s : State) → StandsFor f s → false ≡ can_read s w slot page
missed f w slot page told isnt moves s st =
    second (asks_fix slot (ask_of s w)) (is_hit (reply_of s (move.Fix w page)))
    (asks_share slot (ask_of (next_of s (move.Fix w page)) w)) (is_possible (next_of s (move.Fix w page)) (move.Latch w))
    (ap is_hit (sym (moves.replies s st)) ∙ isnt)

latched_where : (s : State) (w : ℕ) (r : Running) (slot : ℕ) (b : Bool)
    → not (is_refusal (latch_where s w r slot mode.S b).reply) ≡ b
latched_where s w r slot true = refl
latched_where s w r slot false = refl

module _ (f : Parts) (w page slot region : ℕ) (asks : Asks f w (ask.Fix slot region))
    (has : region_has f.layout region page ≡ true) (free : is_flying f page ≡ false) (k : IsKept f) where
  abbrev arc : Answer
  arc = (request f.lists page (is_busy f)).0

  abbrev after : FourLists
  after = (request f.lists page (is_busy f)).1

  by_arc : (s : State) (st : StandsFor f s)
      → outcome_of s (move.Fix w page) ≡ fix_by s after w (asks s st).0 slot page arc
  by_arc s st =
      fixing.by_answer f w page slot region (ask.Fix slot region) refl asks has free arc refl s st

  pub uncached : is_cached f.lists page ≡ false → (s : State) → StandsFor f s → false ≡ can_read s w slot page
  uncached gone s st =
      second (asks_fix slot (ask_of s w)) (is_hit (reply_of s (move.Fix w page)))
      (asks_share slot (ask_of (next_of s (move.Fix w page)) w))
      (is_possible (next_of s (move.Fix w page)) (move.Latch w))
      (ap (λ (o : Outcome). is_hit o.reply) (by_arc s st)
      ∙ unhit s after w (asks s st).0 slot page arc (λ e.
      let here = hit_cached f.lists page (is_busy f) (bounds f k) e in false≢true (sym gone ∙ here)))

  abbrev done : Action
  done = action.Fix slot page

  pub asked_fix : (s : State) (st : StandsFor f s) → IsAsked s w (asks s st).0 done
  asked_fix s st =
      subst (λ x. IsAsked s w (asks s st).0 (fixes x slot page)) (asks s st).2
      (fixing.fix_of f w page slot region (ask.Fix slot region) refl asks has s st).asked

  pub can_fix : CanAct f w done
  can_fix =
      let s = k.state in
      let st = k.stands in
      let asked_so = (fixing.fix_of f w page slot region (ask.Fix slot region) refl asks has s st).asked in
      subst (λ x. CanAct f w (fixes x slot page)) (asks s st).2
      (can_act f s w (asks s st).0 (fixes (asked_by (asks s st).0) slot page) st asked_so.at.seat asked_so.at.stage
      (fix_due f s w (asks s st).0 st slot page asked_so))

  pub few : slot < 32
  few =
      (steps.fix_finds k.state k.stands.reached w (asks k.state k.stands).0 slot page
      (fixing.fix_of f w page slot region (ask.Fix slot region) refl asks has k.state k.stands).asked).few

  module _ (here : is_cached f.lists page ≡ true) where
    hits : arc ≡ answer.Hit
    hits = hit_or arc (λ isnt.
        let gone = miss_uncached f.lists page (is_busy f) isnt in false≢true (sym gone ∙ here))

    outcome_is : (s : State) (st : StandsFor f s)
        → outcome_of s (move.Fix w page)
        ≡ record { reply = reply.Hit (frame_at s page) (mark_at s page); state = did (with_lists s after) w (asks s st).0 done }
    outcome_is s st =
        by_arc s st ∙ ap (fix_by s after w (asks s st).0 slot page) hits
        ∙ ap (λ x. record {
          reply = reply.Hit (frame_at s page) (mark_at s page);
          state = did (with_lists s after) w (asks s st).0 (fixes x slot page);
        }) (asks s st).2

    abbrev moved : (s : State) → StandsFor f s → State
    moved s st = did (with_lists s after) w (asks s st).0 done

    abbrev worker : (s : State) → StandsFor f s → Running
    worker s st = having_done (asks s st).0 done

    next_is : (s : State) (st : StandsFor f s) → next_of s (move.Fix w page) ≡ moved s st
    next_is s st = ap (λ (o : Outcome). o.state) (outcome_is s st)

    reply_is : (s : State) (st : StandsFor f s)
        → reply_of s (move.Fix w page) ≡ reply.Hit (frame_at s page) (mark_at s page)
    reply_is s st = ap (λ (o : Outcome). o.reply) (outcome_is s st)

    seated : (s : State) (st : StandsFor f s) → seat_of (moved s st) w ≡ Some (Some (worker s st))
    seated s st = set_at s.seats w (Some (asks s st).0) (Some (worker s st)) (asks s st).1.seat

    asks_then : (s : State) (st : StandsFor f s) → ask_of (next_of s (move.Fix w page)) w ≡ Some (asked_by (worker s st))
    asks_then s st =
        ap (λ t. ask_of t w) (next_is s st)
        ∙ ask_at (moved s st) w (worker s st) (record { seat = seated s st; stage = refl })

    module _ (next : Ask) (told : (s : State) (st : StandsFor f s) → next ≡ asked_by (worker s st)) where
      asks_next : (s : State) (st : StandsFor f s) → ask_of (next_of s (move.Fix w page)) w ≡ Some next
      asks_next s st = asks_then s st ∙ ap {B = Option Ask} Some (sym (told s st))

      pub unshared : asks_share slot (Some next) ≡ false → (s : State) → StandsFor f s → false ≡ can_read s w slot page
      unshared isnt s st =
          third (asks_fix slot (ask_of s w)) (is_hit (reply_of s (move.Fix w page)))
          (asks_share slot (ask_of (next_of s (move.Fix w page)) w))
          (is_possible (next_of s (move.Fix w page)) (move.Latch w))
          (ap (asks_share slot) (asks_next s st) ∙ isnt)

      module _ (asks_it : asks_share slot (Some next) ≡ true) where
        shares : next ≡ ask.Latch slot mode.S
        shares = same_ask next (ask.Latch slot mode.S) (share_asked slot (Some next) asks_it)

        page_there : (s : State) (st : StandsFor f s) → page_in (worker s st) slot ≡ page
        page_there s st =
            let has_fixed : HasFixed s (next_of s (move.Fix w page)) w slot page (mark_at s page) =
            (after_moves s st.reached).hit w page slot region (frame_at s page) (mark_at s page) (reply_is s st)
            (sym (ask_told f s w (ask.Fix slot region) st asks)) in
            own_page (holding_at (holdings (worker s st)) slot) page Free
            (sym (held_at (moved s st) w (worker s st) slot (seated s st))
            ∙ ap (λ t. held_of t w slot) (sym (next_is s st)) ∙ has_fixed.held)

        low : (s : State) → StandsFor f s → page < length s.notes
        low s st = fixing.low_in f w page slot region (ask.Fix slot region) refl asks has s st

        latches_stay : (s : State) (st : StandsFor f s)
            → map.latches_of (marks (moved s st)) page ≡ map.latches_of f.marks page
        latches_stay s st =
            let asked_so = (fixing.fix_of f w page slot region (ask.Fix slot region) refl asks has s st).asked in
            let r = (asks s st).0 in
            let marks_are : marks (moved s st) ≡ map.with_pins (marks s) page (map.pins_of (marks s) page + 1) =
            subst (λ x. marks (did (with_lists s after) w r (fixes x slot page))
            ≡ map.with_pins (marks s) page (map.pins_of (marks s) page + 1)) (asks s st).2
            (marked.hit_marks s st.reached w r slot page after asked_so) in
            ap (λ (m : PageMap). map.latches_of m page) marks_are
            ∙ ap (λ (y : PageMarks). y.latches)
            (edit_here (marks s) page (λ (y : PageMarks). record y { pins = map.pins_of (marks s) page + 1 })
            (omega (arith, low s st, count_told s)))
            ∙ ap (λ (m : PageMap). map.latches_of m page) (sym st.marks)

        goes : (s : State) (st : StandsFor f s) (b : Bool)
            → b ≡ map.is_compatible latch_mode.S (map.latches_of f.marks page)
            → goes_with (moved s st) mode.S (page_in (worker s st) slot) ≡ b
        goes s st b e =
            ap (goes_with (moved s st) mode.S) (page_there s st)
            ∙ goes_told (moved s st) mode.S page (low s st)
            ∙ ap (map.is_compatible latch_mode.S) (latches_stay s st) ∙ sym e

        latches : (s : State) (st : StandsFor f s) (b : Bool)
            → b ≡ map.is_compatible latch_mode.S (map.latches_of f.marks page)
            → is_possible (next_of s (move.Fix w page)) (move.Latch w) ≡ b
        latches s st b e =
            let t = moved s st in
            let r = worker s st in
            ap (λ u. is_possible u (move.Latch w)) (next_is s st)
            ∙ ap (λ (o : Outcome). not (is_refusal o.reply))
            (acted_outcome t w r (λ q. latch_asked t w q (asked_by q)) (record { seat = seated s st; stage = refl })
            ∙ ap (latch_asked t w r) (sym (told s st) ∙ shares)
            ∙ ap (latch_where t w r slot mode.S) (goes s st b e))
            ∙ latched_where t w r slot b

        pub shared : (b : Bool) → b ≡ map.is_compatible latch_mode.S (map.latches_of f.marks page) → (s : State)
            → StandsFor f s → b ≡ can_read s w slot page
        shared b e s st =
            fourth (asks_fix slot (ask_of s w)) (is_hit (reply_of s (move.Fix w page)))
            (asks_share slot (ask_of (next_of s (move.Fix w page)) w))
            (is_possible (next_of s (move.Fix w page)) (move.Latch w)) b
            (ap (asks_fix slot) (sym (ask_told f s w (ask.Fix slot region) st asks)) ∙ same_slot slot slot refl)
            (ap is_hit (reply_is s st))
            (ap (asks_share slot) (asks_next s st ∙ ap {B = Option Ask} Some shares) ∙ same_slot slot slot refl)
            (sym (latches s st b e))

  -- This is what the plan asks behind the fix.
  module _ (next : Ask) (behind : AsksBehind f w (action.Fix slot page) next) where
    told_behind : (here : is_cached f.lists page ≡ true) (s : State) (st : StandsFor f s) → next ≡ asked_by (worker here s st)
    told_behind here s st = asks_behind f w (action.Fix slot page) next behind s (asks s st).0 st (asked_fix s st)

    -- No latch S of the slot.
    pub unread : asks_share slot (Some next) ≡ false → (s : State) → StandsFor f s → false ≡ can_read s w slot page
    unread isnt s st = go (is_cached f.lists page) refl
      where
        go : (b : Bool) → is_cached f.lists page ≡ b → false ≡ can_read s w slot page
        go false gone = uncached gone s st
        go true here = unshared here next (told_behind here) isnt s st

    module _ (asks_it : asks_share slot (Some next) ≡ true) where
      -- Another latch keeps it off.
      pub kept_off : false ≡ map.is_compatible latch_mode.S (map.latches_of f.marks page) → (s : State) → StandsFor f s
          → false ≡ can_read s w slot page
      kept_off e s st = go (is_cached f.lists page) refl
        where
          go : (b : Bool) → is_cached f.lists page ≡ b → false ≡ can_read s w slot page
          go false gone = uncached gone s st
          go true here = shared here next (told_behind here) asks_it false e s st

      pub read_at_once : is_cached f.lists page ≡ true
          → true ≡ map.is_compatible latch_mode.S (map.latches_of f.marks page) → (s : State) → StandsFor f s
          → true ≡ can_read s w slot page
      read_at_once here e s st = shared here next (told_behind here) asks_it true e s st

-- ---- a page that can be read if it is cached

module _ (f : Parts) (w slot page region : ℕ) (k : IsKept f) (can : CanRead f w slot page region) where
  pub read_few : slot < 32
  read_few = few f w page slot region can.asks can.has can.free k

  pub read_low : page < f.lists.pages
  read_low = fixing.request_low f w page slot region (ask.Fix slot region) refl can.asks can.has k

  pub not_read : is_cached f.lists page ≡ false → (s : State) → StandsFor f s → false ≡ can_read s w slot page
  not_read gone s st = uncached f w page slot region can.asks can.has can.free k gone s st

  pub is_read : is_cached f.lists page ≡ true → (s : State) → StandsFor f s → true ≡ can_read s w slot page
  is_read here s st =
      read_at_once f w page slot region can.asks can.has can.free k (ask.Latch slot mode.S) can.behind
      (same_slot slot slot refl) here can.goes s st

  -- ARC was asked, and has it.
  module _ (h : Parts) (hit : (request f.lists page (is_busy f)).0 ≡ answer.Hit)
      (parts : h ≡ record f { lists = (request f.lists page (is_busy f)).1 }) where
    pub can_hit_there : CanHit h w (ask.Fix slot region) slot page
    can_hit_there =
        subst (λ (z : Parts). CanHit z w (ask.Fix slot region) slot page) (sym parts)
        (fixing.can_hit f w page slot region (ask.Fix slot region) refl can.asks can.has can.free answer.Hit (sym hit) k refl)

    pub hits_there : (g : Parts) (one : Reply) → Spent h g w (action.Fix slot page) (pinned h.marks page)
        → one ≡ reply.Hit (frame_in h.marks page) (mark_in h.marks page) → Moves f (move.Fix w page) one g
    hits_there g one spent tells =
        fixing.hit_moves f w page slot region (ask.Fix slot region) refl can.asks can.has can.free answer.Hit (sym hit) g one
        refl (subst (λ (z : Parts). Spent z g w (action.Fix slot page) (pinned z.marks page)) parts spent)
        (subst (λ (z : Parts). one ≡ reply.Hit (frame_in z.marks page) (mark_in z.marks page)) parts tells)

-- ---- an unlatch and an unfix

module _ (f : Parts) (w slot page : ℕ)
    (holds : (s : State) → StandsFor f s → ask_holding s w slot page S ≡ Some (ask.Unlatch slot))
    (asks : Asks f w (ask.Unlatch slot)) (k : IsKept f) where
  abbrev ends : Action
  ends = action.Unlatch slot

  pub asked_unlatch : (s : State) (st : StandsFor f s) → IsAsked s w (asks s st).0 ends
  asked_unlatch s st = is_asked s w (asks s st).0 (ask.Unlatch slot) ends (asks s st).1 (asks s st).2 refl

  pub unlatch_few : slot < 32
  unlatch_few =
      let s = k.state in
      let st = k.stands in
      let r = (asks s st).0 in
      let finds = steps.unlatch_finds s st.reached w r slot (asked_unlatch s st) in
      (steps.slots_are_within s st.reached w r (asks s st).1.seat slot finds.0 finds.1.found).few

  pub can_unlatch : CanAct f w ends
  can_unlatch =
      let s = k.state in
      let st = k.stands in
      can_act f s w (asks s st).0 ends st (asks s st).1.seat (asks s st).1.stage
      (unlatch_due f s w (asks s st).0 st slot (asked_unlatch s st))

  abbrev freed : (s : State) → StandsFor f s → State
  freed s st = did (unlatched s (asks s st).0 slot) w (asks s st).0 ends

  abbrev holder : (s : State) → StandsFor f s → Running
  holder s st = having_done (asks s st).0 ends

  freed_is : (s : State) (st : StandsFor f s) → next_of s (move.Unlatch w) ≡ freed s st
  freed_is s st =
      ap (λ (o : Outcome). o.state)
      (acted_outcome s w (asks s st).0 (λ q. unlatch_asked s w q (asked_by q)) (asks s st).1
      ∙ ap (unlatch_asked s w (asks s st).0) (asks s st).2)

  held_seat : (s : State) (st : StandsFor f s) → seat_of (freed s st) w ≡ Some (Some (holder s st))
  held_seat s st =
      let r = (asks s st).0 in
      let same = released_seats s (held_in r slot) (page_in r slot) in
      set_at (unlatched s r slot).seats w (Some r) (Some (holder s st))
      (subst (λ ys. slice_get ys w ≡ Some (Some r)) (sym same) (asks s st).1.seat)

  pub unlatched_so : (next : Ask) → ((s : State) (st : StandsFor f s) → next ≡ asked_by (holder s st)) → (b : Bool)
      → b ≡ asks_unfix slot (Some next) → (s : State) → StandsFor f s → b ≡ can_end_read s w slot page
  unlatched_so next told b e s st =
      let first : asks_unlatch slot (ask_holding s w slot page S) ≡ true =
      ap (asks_unlatch slot) (holds s st) ∙ same_slot slot slot refl in
      let asks_next : ask_of (next_of s (move.Unlatch w)) w ≡ Some next =
      ap (λ t. ask_of t w) (freed_is s st)
      ∙ ask_at (freed s st) w (holder s st) (record { seat = held_seat s st; stage = refl })
      ∙ ap {B = Option Ask} Some (sym (told s st)) in
      e ∙ sym (ap (asks_unfix slot) asks_next)
      ∙ ap (λ x. x && asks_unfix slot (ask_of (next_of s (move.Unlatch w)) w)) (sym first)

-- Where the plan asks no unlatch of a slot that holds the page S, no reading can be ended.
pub not_ended : (s : State) (w slot page : ℕ) → asks_unlatch slot (ask_holding s w slot page S) ≡ false
    → false ≡ can_end_read s w slot page
not_ended s w slot page isnt =
    ap (λ x. x && asks_unfix slot (ask_of (next_of s (move.Unlatch w)) w)) (sym isnt)

-- The plan asks no fix of the slot.
pub unasked : (s : State) (w slot page : ℕ) → asks_fix slot (ask_of s w) ≡ false → false ≡ can_read s w slot page
unasked s w slot page isnt =
    ap (λ x. x && is_hit (reply_of s (move.Fix w page)) && asks_share slot (ask_of (next_of s (move.Fix w page)) w)
    && is_possible (next_of s (move.Fix w page)) (move.Latch w)) (sym isnt)

-- ---- other asks

pub no_unlatch : (slot : ℕ) (a : Ask) → ((n : ℕ) → a ≡ ask.Unlatch n → ⊥) → asks_unlatch slot (Some a) ≡ false
no_unlatch slot (ask.Unlatch n) isnt = absurd (isnt n refl)
no_unlatch slot (ask.Fix of region) isnt = refl
no_unlatch slot (ask.Unfix of) isnt = refl
no_unlatch slot (ask.Latch of m) isnt = refl
no_unlatch slot (ask.Gather of region) isnt = refl
no_unlatch slot (ask.Scatter of) isnt = refl
no_unlatch slot (ask.Choose n) isnt = refl
no_unlatch slot ask.End isnt = refl

pub other_unlatch : (slot own : ℕ) → (slot ≡ own → ⊥) → asks_unlatch slot (Some (ask.Unlatch own)) ≡ false
other_unlatch slot own isnt = other_slot slot own isnt

-- What a look at the seat tells.
pub holding_so : (f : Parts) (w slot page : ℕ) (o : Option Ask)
    → o ≡ ask_holding_seat (slice_get f.seats w) slot page S → (s : State) → StandsFor f s
    → ask_holding s w slot page S ≡ o
holding_so f w slot page o e s st = sym (e ∙ holding_told f s st w slot page S)
