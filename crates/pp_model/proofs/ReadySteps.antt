-- What each way in which a move is done does to the pages that are ready, and to the images that are away.
use Rattle.std.proofs.Common.{◌≡◌, ◌≢◌, ◌∙◌, ℕ, ◌+◌, ◌<◌, Bool, true, false, Option, Some, None, List, []}
use Rattle.std.proofs.Common.{◌∷◌, length, get_or, cond, refl, sym, ap, subst, inl, inr, arith}
use Rattle.std.specs.Prelude.{sum_by, nat_lt, unwrap_or, slice_set}
use Rattle.std.proofs.lemmas.Bool.{false≢true}
use Rattle.pp_plan.specs.declared.mode.Mode.TheVariants as mode
use Rattle.pp_plan.specs.declared.action.Action.{Action}
use Rattle.pp_plan.specs.declared.action.Action.TheVariants as action
use Rattle.pp_cert.specs.declared.note.Held.{Held}
use Rattle.pp_cert.specs.declared.note.Held.TheVariants.{Free, S, X}
use Rattle.pp_cert.specs.Held.{Holding, Holdings, holding_slot, holding_at}
use Rattle.pp_cert.proofs.Slots.{slot_all}
use Rattle.pp_cert.specs.Accepted.{Acceptance}
use Rattle.pp_arc.specs.declared.answer.Answer.{Answer}
use Rattle.pp_arc.specs.declared.answer.Answer.TheVariants as answer
use Rattle.pp_arc.specs.FourLists.{FourLists, is_cached}
use Rattle.pp_arc.specs.Figure.{forget, bring_back}
use Rattle.pp_arc.proofs.LawLemmas.{RequestAnswers-request}
use Rattle.pp_model.specs.declared.reply.Ending.{Ending}
use Rattle.pp_model.specs.declared.reply.Ending.TheVariants.{Done, Gone}
use Rattle.pp_model.specs.Pool.{Stage, acting, writing, reading, leaving, Running, Note, Flush, State, note_of}
use Rattle.pp_model.specs.Pool.{untouched, frame_of, known_mark, frame_at, mark_at}
use Rattle.pp_model.specs.Holders.{holdings, loading, page_in, held_in, is_shared, is_exclusive, writers_of}
use Rattle.pp_model.specs.Holders.{readers_of, is_busy}
use Rattle.pp_model.specs.Outcome.{did, with_stage, with_note, with_lists, with_frame, with_dirty, with_mark, raised}
use Rattle.pp_model.specs.Outcome.{released, at_stage}
use Rattle.pp_model.specs.Taking.{began}
use Rattle.pp_model.specs.Fixing.{free_frame, with_frame_moved, fixes}
use Rattle.pp_model.specs.Answers.{brought_back}
use Rattle.pp_model.specs.Using.{goes_with, unlatched}
use Rattle.pp_model.specs.Leaving.{ended}
use Rattle.pp_model.specs.Flushing.{flush_begun, flush_over}
use Rattle.pp_model.specs.Moves.{seat_of, asked_by}
use Rattle.pp_model.specs.Reached.{IsReached}
use Rattle.pp_model.specs.Ready.{is_away, standing_of, ready_at, away_from, NoneReadyIn, ReadyStay, ImageGoes}
use Rattle.pp_model.specs.Ready.{ImageComes, Leaves, Enters}
use Rattle.pp_model.proofs.Changes.{IsAt, IsAsked, GivesBack, IsAnswered}
use Rattle.pp_model.proofs.Seats.{good}
use Rattle.pp_model.proofs.Swaps.{as_held, new_page}
use Rattle.pp_model.proofs.Requests.{same, other, which, miss_uncached, is_victim}
use Rattle.pp_model.proofs.Totals.{weight, on_page, latched_on, loads_of, sent_in}
use Rattle.pp_model.proofs.Totals.{readers_are, writers_are, Totals}
use Rattle.pp_model.proofs.Sound.{uncached_free, not_busy}
use Rattle.pp_model.proofs.Soundness.{sound}
use Rattle.pp_model.proofs.ChangeTotals as totals
use Rattle.pp_model.proofs.ChangeTotals.{IsOut, alone, several, free_weigh_nothing}
use Rattle.pp_model.proofs.LatchLaws.{no_writer, nobody, latches_agree}
use Rattle.pp_model.proofs.HoldingSteps.{holds_at}
use Rattle.pp_model.proofs.MarkChanges.{note_here, note_there, notes_stay, listed_once, listed_other}
use Rattle.pp_model.proofs.MarkChanges.{on_other_page, counted, held_counts, as_latch, on_page_once}
use Rattle.pp_model.proofs.Framed.{framed, free_frame_of, some_of, cached_low, flushed_low, unloaded}
use Rattle.pp_model.proofs.Framed.{loads_one, sent_one, held_one}
use Rattle.pp_model.proofs.KnownMarks.{sent_is_known}
use Rattle.pp_model.proofs.MarkSteps.{fixed_low, sent_low, loading_low}
use Rattle.pp_model.proofs.Images.{away_placed, image_goes, image_comes}
use Rattle.pp_model.proofs.ReadyPages.{unheld, Stays, AllStay, same_stays, ready_stays, away_stays, away_none, away_is}
use Rattle.pp_model.proofs.ReadyPages.{loading_is_away, written_is_away, uncached_none, uncached_here, unplaced, is_here}
use Rattle.pp_model.proofs.ReadyPages.{here_none, away_alone, frameless_none, ready_is, cached_ready, stands_ready}
use Rattle.pp_model.proofs.ReadyPages.{stays_by, other_stays, no_writes, dirtied, unraised}

-- A page that isn't away in both states stands in them alike.
pub data Steps (s t : State) (q : ℕ) : Type 0 where
  stays : Stays s t q → Steps s t q
  goes : is_away s q ≡ false → Steps s t q
  comes : is_away t q ≡ false → Steps s t q

abbrev pub AllStep : (s t : State) → Type 0
AllStep s t = (q : ℕ) → Steps s t q

-- ---- plans that begin and end, hits, choices and flushes: all pages stand as before

module _ (s : State) (h : IsReached s) where
  pub take_stays : (w : ℕ) (a : Acceptance) → seat_of s w ≡ Some None → AllStay s (began s w a)
  take_stays w a idle q =
      let t = began s w a in
      stays_by s t [] [] [] [] [] [] q (totals.taken_totals s t w a idle refl) refl refl refl refl

  idle_stays : (w : ℕ) (r : Running) (g : Stage) (ending : Ending) → loading g ≡ [] → sent_in g ≡ [] → IsAt s w r g
      → holdings r ≡ [] → AllStay s (ended s w r ending).state
  idle_stays w r g ending none nobody at empty q =
      let t = (ended s w r ending).state in
      stays_by s t (holdings r) [] [] [] [] [] q (totals.idle_totals s t w r (good s h) g none nobody at refl) refl
      (ap (sum_by (latched_on is_exclusive q)) empty) refl refl

  pub end_stays : (w : ℕ) (r : Running) → IsAt s w r acting → holdings r ≡ [] → AllStay s (ended s w r Done).state
  end_stays w r at empty = idle_stays w r acting Done refl refl at empty

  pub leave_stays : (w : ℕ) (r : Running) (given : List ℕ) → IsAt s w r (leaving given) → holdings r ≡ []
      → AllStay s (ended s w r Gone).state
  leave_stays w r given at empty = idle_stays w r (leaving given) Gone refl refl at empty

  pub begin_stays : (page : ℕ) → AllStay s (flush_begun s page)
  begin_stays page q = record { away = refl; frame = refl; mark = refl }

  pub over_stays : AllStay s (flush_over s)
  over_stays q = record { away = refl; frame = refl; mark = refl }

  pub clean_stays : (f : Flush) → s.flush ≡ Some f → AllStay s (with_dirty (flush_over s) f.page false)
  clean_stays f e q =
      let d = dirtied (flush_over s) f.page false q (flushed_low s h f e) in
      same_stays s (with_dirty (flush_over s) f.page false) q refl refl d.0 d.1

module _ (s : State) (h : IsReached s) (w : ℕ) (r : Running) where
  pub hit_stays : (slot page : ℕ) (l : FourLists) → IsAsked s w r (fixes (asked_by r) slot page)
      → AllStay s (did (with_lists s l) w r (fixes (asked_by r) slot page))
  hit_stays slot page l asked q =
      let t = did (with_lists s l) w r (fixes (asked_by r) slot page) in
      let x : Holding = new_page (asked_by r) slot page in
      stays_by s t [] (x ∷ []) [] [] [] [] q (totals.hit_totals s t w r (good s h) slot page asked refl) refl
      (sym (no_writes q x refl)) refl refl

  pub unfix_stays : (slot : ℕ) (a : Action) → GivesBack slot a → IsAsked s w r a → AllStay s (did s w r a)
  unfix_stays slot a back asked q =
      let t = did s w r a in
      let d = totals.unfix_totals s t w r (good s h) slot a back asked refl in
      stays_by s t d.0 [] [] [] [] [] q d.2 refl (free_weigh_nothing is_exclusive q d.0 refl d.1) refl refl

  pub choose_stays : (i : ℕ) → IsAsked s w r (action.Choose i) → AllStay s (did s w r (action.Choose i))
  choose_stays i asked q =
      let t = did s w r (action.Choose i) in
      stays_by s t [] [] [] [] [] [] q (totals.choose_totals s t w r (good s h) i asked refl) refl refl refl refl

free_not_exclusive : (k : Held) → k ≡ Free → k ≡ X → ⊥
free_not_exclusive Free e f = cc
free_not_exclusive S e f = cc
free_not_exclusive X e f = cc

-- ---- a page is fixed that isn't cached

module _ (s : State) (h : IsReached s) (w : ℕ) (r : Running) (slot page : ℕ) (l : FourLists)
    (asked : IsAsked s w r (fixes (asked_by r) slot page)) where
  -- It isn't ready before, nor while it is loaded, and then its image is away.
  missed : (a : Answer) → a ≢ answer.Hit → IsAnswered s page l a → is_cached s.lists page ≡ false
  missed a not_hit is = miss_uncached s.lists page (is_busy s) (λ f. not_hit (sym is.is ∙ f))

  sent_away : (t : State) (vi : List ℕ) → Totals s t [] [] [] (page ∷ []) [] vi → is_away t page ≡ true
  sent_away t vi d = loading_is_away t page (omega (arith, d.loads page, listed_once page))

  sent_stays : (t : State) (vi : List ℕ) → Totals s t [] [] [] (page ∷ []) [] vi → is_cached s.lists page ≡ false
      → ready_at t page ≡ ready_at s page
  sent_stays t vi d gone = away_none t page (sent_away t vi d) ∙ sym (uncached_none s h page gone)

  -- It is read into a free frame.
  module _ (is : IsAnswered s page l answer.Free) where
    abbrev filled : State
    filled = with_stage (with_frame (with_lists s l) page (Some (free_frame s))) w r (reading slot page)

    fill_totals : Totals s filled [] [] [] (page ∷ []) [] []
    fill_totals = totals.sent_totals s filled w r (good s h) (reading slot page) refl asked.at refl

    fill_missed : is_cached s.lists page ≡ false
    fill_missed = missed answer.Free (λ f. absurd (cc)) is

    fill_others : (q : ℕ) → q ≢ page → Stays s filled q
    fill_others q ne =
        other_stays s filled [] [] [] (page ∷ []) [] [] q fill_totals (sym (listed_other page q (λ k. ne (sym k)))) refl
        refl (note_there (with_lists s l) page q (record (note_of s page) { frame = Some (free_frame s) }) ne)

    fill_nobody : (q : ℕ) → frame_of s q ≡ Some (free_frame s) → ⊥
    fill_nobody =
        let room = ((RequestAnswers-request s.lists page (is_busy s) (sound s h).bounds).free.0 is.is).1 in
        (free_frame_of s h (omega (arith, room))).nobody

    pub fill_low : free_frame s < s.settings.layout.frames
    fill_low =
        let room = ((RequestAnswers-request s.lists page (is_busy s) (sound s h).bounds).free.0 is.is).1 in
        (free_frame_of s h (omega (arith, room))).low

    pub fill_ready : ReadyStay s filled
    fill_ready q =
        elim (which q page) [
          | same e f ↦ ap (ready_at filled) e ∙ sent_stays filled [] fill_totals fill_missed ∙ ap (ready_at s) (sym e)
          | other e f ↦ ready_stays s filled q (fill_others q e)
        ]

    pub fill_none : NoneReadyIn s (free_frame s)
    fill_none q x e f = fill_nobody q ((stands_ready s q x e).frame_is ∙ ap Some f)

    pub fill_goes : ImageGoes s filled (free_frame s)
    fill_goes =
        let n = record (note_of s page) { frame = Some (free_frame s) } in
        let note = note_here (with_lists s l) page n (fixed_low s h w r slot page asked) in
        image_goes s filled page (free_frame s) (λ q ne. away_stays s filled q (fill_others q ne))
        (here_none s page (uncached_here s h page fill_missed))
        (away_is filled page (free_frame s) (sent_away filled [] fill_totals) (ap (λ (x : Note). x.frame) note))
        (λ q away. fill_nobody q (away_placed (is_away s q) (frame_of s q) (free_frame s) away))

    pub fill_steps : AllStep s filled
    fill_steps q =
        elim (which q page) [
          | same e f ↦ goes (ap (is_away s) e ∙ uncached_here s h page fill_missed)
          | other e f ↦ stays (fill_others q e)
        ]

  -- Its victim's frame becomes its frame.
  module _ (v : ℕ) (g : Stage) (vi : List ℕ) (is : IsAnswered s page l (answer.Evict v))
      (d : Totals s (with_stage (with_frame_moved (with_lists s l) page v) w r g) [] [] [] (page ∷ []) [] vi) where
    abbrev moved : State
    moved = with_stage (with_frame_moved (with_lists s l) page v) w r g

    evict_missed : is_cached s.lists page ≡ false
    evict_missed = missed (answer.Evict v) (λ f. absurd (cc)) is

    evict_unheld : (loads_of s v ≡ 0) × (writers_of s v ≡ 0)
    evict_unheld =
        let free = (not_busy s v (is_victim s.lists page (is_busy s) v (sound s h).bounds is.is).not_busy).0 in
        (omega (arith, free), unheld s v (omega (arith, free)))

    evict_here : is_away s v ≡ false
    evict_here = is_here s v evict_unheld.0 evict_unheld.1

    evict_cached : is_cached s.lists v ≡ true
    evict_cached = (is_victim s.lists page (is_busy s) v (sound s h).bounds is.is).was_cached

    evict_was : ready_at s v ≡ Some (standing_of s v)
    evict_was = cached_ready s h v evict_cached evict_unheld.0 evict_unheld.1

    evict_others : (q : ℕ) → q ≢ v → q ≢ page → Stays s moved q
    evict_others q ne apart =
        let u = with_lists s l in
        let n1 = record (note_of s v) { frame = None } in
        let u1 = with_note u v n1 in
        let n2 = record (note_of u1 page) { frame = Some (frame_at s v) } in
        other_stays s moved [] [] [] (page ∷ []) [] vi q d (sym (listed_other page q (λ k. apart (sym k)))) refl refl
        (note_there u1 page q n2 apart ∙ note_there u v q n1 ne)

    evict_unplaced : frame_of moved v ≡ None
    evict_unplaced =
        let u = with_lists s l in
        let n1 = record (note_of s v) { frame = None } in
        let u1 = with_note u v n1 in
        let n2 = record (note_of u1 page) { frame = Some (frame_at s v) } in
        let apart = (is_victim s.lists page (is_busy s) v (sound s h).bounds is.is).ne in
        ap (λ (x : Note). x.frame) (note_there u1 page v n2 apart ∙ note_here u v n1 (cached_low s h v evict_cached))

    evict_placed : frame_of moved page ≡ Some (frame_at s v)
    evict_placed =
        let u = with_lists s l in
        let n1 = record (note_of s v) { frame = None } in
        let u1 = with_note u v n1 in
        let n2 = record (note_of u1 page) { frame = Some (frame_at s v) } in
        ap (λ (x : Note). x.frame)
        (note_here u1 page n2 (omega (arith, fixed_low s h w r slot page asked, notes_stay u v n1)))

    evict_goes : ImageGoes s moved (frame_at s v)
    evict_goes =
        let stood = stands_ready s v (standing_of s v) evict_was in
        image_goes s moved page (frame_at s v)
        (λ q ne. elim (which q v) [
          | same e f ↦ ap (away_from moved) e ∙ unplaced moved v evict_unplaced ∙ sym (here_none s v evict_here)
              ∙ ap (away_from s) (sym e)
          | other e f ↦ away_stays s moved q (evict_others q e ne)
        ])
        (here_none s page (uncached_here s h page evict_missed))
        (away_is moved page (frame_at s v) (sent_away moved vi d) evict_placed)
        (λ q away.
        let one = away_alone s h v q (frame_at s v) stood.frame_is away in
        let no_frame : ◌≡◌ {A = Option ℕ} None (Some (frame_at s v)) =
        sym (here_none s v evict_here) ∙ ap (away_from s) (sym one) ∙ away in
        absurd (cc))

    evict_leaves : Leaves s moved v (standing_of s v)
    evict_leaves = record {
      was = evict_was;
      gone = frameless_none moved v evict_unplaced;
      others = λ q ne. elim (which q page) [
        | same e f ↦ ap (ready_at moved) e ∙ sent_stays moved vi d evict_missed ∙ ap (ready_at s) (sym e)
        | other e f ↦ ready_stays s moved q (evict_others q ne e)
      ];
      image = evict_goes;
    }

    evict_steps : AllStep s moved
    evict_steps q =
        elim (which q page) [
          | same e f ↦ goes (ap (is_away s) e ∙ uncached_here s h page evict_missed)
          | other e f ↦ elim (which q v) [
            | same k m ↦ goes (ap (is_away s) k ∙ evict_here)
            | other k m ↦ stays (evict_others q k e)
          ]
        ]

  module _ (v : ℕ) (is : IsAnswered s page l (answer.Evict v)) where
    read_totals : Totals s (with_stage (with_frame_moved (with_lists s l) page v) w r (reading slot page)) [] [] []
        (page ∷ []) [] []
    read_totals =
        let t = with_stage (with_frame_moved (with_lists s l) page v) w r (reading slot page) in
        totals.sent_totals s t w r (good s h) (reading slot page) refl asked.at refl

    write_totals : Totals s (with_stage (with_frame_moved (with_lists s l) page v) w r (writing slot page v)) [] [] []
        (page ∷ []) [] (v ∷ [])
    write_totals =
        let t = with_stage (with_frame_moved (with_lists s l) page v) w r (writing slot page v) in
        totals.sent_totals s t w r (good s h) (writing slot page v) refl asked.at refl

    pub evict_read_leaves : Leaves s (with_stage (with_frame_moved (with_lists s l) page v) w r (reading slot page)) v
        (standing_of s v)
    evict_read_leaves = evict_leaves v (reading slot page) [] is read_totals

    pub evict_write_leaves : Leaves s (with_stage (with_frame_moved (with_lists s l) page v) w r (writing slot page v))
        v (standing_of s v)
    evict_write_leaves = evict_leaves v (writing slot page v) (v ∷ []) is write_totals

    pub evict_read_steps : AllStep s (with_stage (with_frame_moved (with_lists s l) page v) w r (reading slot page))
    evict_read_steps = evict_steps v (reading slot page) [] is read_totals

    pub evict_write_steps : AllStep s (with_stage (with_frame_moved (with_lists s l) page v) w r (writing slot page v))
    evict_write_steps = evict_steps v (writing slot page v) (v ∷ []) is write_totals

-- ---- a reading ends

module _ (s : State) (h : IsReached s) (w : ℕ) (r : Running) (slot page : ℕ) (at : IsAt s w r (reading slot page)) where
  read_some : 0 < loads_of s page
  read_some = loads_one s w r (reading slot page) page at refl

  read_placed : frame_of s page ≡ Some (frame_at s page)
  read_placed = some_of (frame_of s page) ((framed s h).placed page ((sound s h).cached page (omega (arith, read_some))))

  read_away : away_from s page ≡ Some (frame_at s page)
  read_away = away_is s page (frame_at s page) (loading_is_away s page read_some) read_placed

  -- The page was read.
  module _ (stamp : ℕ) where
    abbrev loaded : State
    loaded = did (with_mark s page stamp) w r (fixes (asked_by r) slot page)

    abbrev its_holding : Holding
    its_holding = new_page (asked_by r) slot page

    load_totals : Totals s loaded [] (its_holding ∷ []) (page ∷ []) [] [] []
    load_totals = totals.loaded_totals s loaded w r (good s h) slot page at refl

    load_others : (q : ℕ) → q ≢ page → Stays s loaded q
    load_others q ne =
        other_stays s loaded [] (its_holding ∷ []) (page ∷ []) [] [] [] q load_totals
        (listed_other page q (λ k. ne (sym k))) refl (on_other_page q its_holding (λ k. ne (sym k)))
        (note_there s page q (record (note_of s page) { mark = Some stamp }) ne)

    load_free : (loads_of loaded page ≡ 0) × (writers_of loaded page ≡ 0)
    load_free =
        let c = counted s loaded [] (its_holding ∷ []) (page ∷ []) [] [] [] page load_totals in (
          omega (arith, load_totals.loads page, (sound s h).alone page, listed_once page),
          omega
              (arith, c.writers, unheld s page ((sound s h).fresh page read_some), no_writes page its_holding refl),
        )

    pub load_enters : Enters s loaded page (record { frame = frame_at s page; mark = stamp })
    load_enters =
        let n = record (note_of s page) { mark = Some stamp } in
        let note = note_here s page n (loading_low s h w r (reading slot page) at page refl) in
        record {
          none = away_none s page (loading_is_away s page read_some);
          is = ready_is loaded page (frame_at s page) stamp load_free.0 load_free.1
              (ap (λ (y : Note). y.frame) note ∙ read_placed) (ap (λ (y : Note). y.mark) note);
          others = λ q ne. ready_stays s loaded q (load_others q ne);
          image = image_comes s loaded page (frame_at s page) (λ q ne. away_stays s loaded q (load_others q ne)) read_away
              (here_none loaded page (is_here loaded page load_free.0 load_free.1))
              (λ q away. away_alone s h page q (frame_at s page) read_placed away);
        }

    pub load_steps : AllStep s loaded
    load_steps q =
        elim (which q page) [
          | same e f ↦ comes (ap (is_away loaded) e ∙ is_here loaded page load_free.0 load_free.1)
          | other e f ↦ stays (load_others q e)
        ]

  -- It was not read.
  abbrev unread : State
  unread = with_stage (with_frame (with_lists s (forget s.lists page)) page None) w r (leaving [])

  forget_totals : Totals s unread [] [] (page ∷ []) [] [] []
  forget_totals = totals.lost_totals s unread w r (good s h) (reading slot page) refl at refl

  forget_others : (q : ℕ) → q ≢ page → Stays s unread q
  forget_others q ne =
      other_stays s unread [] [] (page ∷ []) [] [] [] q forget_totals (listed_other page q (λ k. ne (sym k))) refl refl
      (note_there (with_lists s (forget s.lists page)) page q (record (note_of s page) { frame = None }) ne)

  forget_unplaced : frame_of unread page ≡ None
  forget_unplaced =
      ap (λ (y : Note). y.frame)
      (note_here (with_lists s (forget s.lists page)) page (record (note_of s page) { frame = None })
      (loading_low s h w r (reading slot page) at page refl))

  forget_here : is_away unread page ≡ false
  forget_here =
      let c = counted s unread [] [] (page ∷ []) [] [] [] page forget_totals in
      is_here unread page (omega (arith, forget_totals.loads page, (sound s h).alone page, listed_once page))
      (omega (arith, c.writers, unheld s page ((sound s h).fresh page read_some)))

  pub forget_ready : ReadyStay s unread
  forget_ready q =
      elim (which q page) [
        | same e f ↦
            ap (ready_at unread) e ∙ frameless_none unread page forget_unplaced
            ∙ sym (away_none s page (loading_is_away s page read_some)) ∙ ap (ready_at s) (sym e)
        | other e f ↦ ready_stays s unread q (forget_others q e)
      ]

  pub forget_comes : ImageComes s unread (frame_at s page)
  forget_comes =
      image_comes s unread page (frame_at s page) (λ q ne. away_stays s unread q (forget_others q ne)) read_away
      (unplaced unread page forget_unplaced) (λ q away. away_alone s h page q (frame_at s page) read_placed away)

  pub forget_steps : AllStep s unread
  forget_steps q =
      elim (which q page) [
        | same e f ↦ comes (ap (is_away unread) e ∙ forget_here)
        | other e f ↦ stays (forget_others q e)
      ]

-- ---- the writing of a victim ends

module _ (s : State) (h : IsReached s) (w : ℕ) (r : Running) (slot page v : ℕ) (at : IsAt s w r (writing slot page v))
  where
    -- It was written.
    pub write_stays : AllStay s (with_stage (with_dirty s v false) w r (reading slot page))
    write_stays q =
        let t = with_stage (with_dirty s v false) w r (reading slot page) in
        let n = dirtied s v false q (sent_low s h w r (writing slot page v) at v refl) in
        stays_by s t [] [] [] [] (v ∷ []) [] q (totals.written_totals s t w r (good s h) slot page v at refl) refl refl
        n.0 n.1

    -- It was not written.
    abbrev back : State
    back = with_stage (brought_back s page v) w r (leaving [])

    back_totals : Totals s back [] [] (page ∷ []) [] (v ∷ []) []
    back_totals = totals.lost_totals s back w r (good s h) (writing slot page v) refl at refl

    back_some : 0 < loads_of s page
    back_some = loads_one s w r (writing slot page v) page at refl

    back_away : is_cached s.lists v ≡ false
    back_away = ((sound s h).away v (sent_one s w r (writing slot page v) v at refl)).0

    back_placed : frame_of s page ≡ Some (frame_at s page)
    back_placed =
        some_of (frame_of s page) ((framed s h).placed page ((sound s h).cached page (omega (arith, back_some))))

    back_apart : v ≢ page
    back_apart e =
        let here = (sound s h).cached page (omega (arith, back_some)) in
        false≢true (sym back_away ∙ ap (is_cached s.lists) e ∙ here)

    -- Page by page, what is noted: the page's note is written, and then the victim's.
    abbrev noted : State
    noted = with_frame (with_lists s (bring_back s.lists page v)) page None

    back_others : (q : ℕ) → q ≢ v → q ≢ page → Stays s back q
    back_others q ne apart =
        let u = with_lists s (bring_back s.lists page v) in
        other_stays s back [] [] (page ∷ []) [] (v ∷ []) [] q back_totals (listed_other page q (λ k. apart (sym k)))
        refl refl
        (note_there noted v q (record (note_of noted v) { frame = frame_of s page }) ne
        ∙ note_there u page q (record (note_of s page) { frame = None }) apart)

    back_unplaced : frame_of back page ≡ None
    back_unplaced =
        let u = with_lists s (bring_back s.lists page v) in
        ap (λ (y : Note). y.frame)
        (note_there noted v page (record (note_of noted v) { frame = frame_of s page }) (λ k. back_apart (sym k))
        ∙ note_here u page (record (note_of s page) { frame = None })
        (loading_low s h w r (writing slot page v) at page refl))

    back_free : (loads_of back v ≡ 0) × (writers_of back v ≡ 0)
    back_free =
        let c = counted s back [] [] (page ∷ []) [] (v ∷ []) [] v back_totals in
        let sent = sent_one s w r (writing slot page v) v at refl in
        let none = uncached_free s v (sound s h) back_away in (
          omega (arith, back_totals.loads v, (sound s h).alone v, sent),
          omega (arith, c.writers, unheld s v (omega (arith, none))),
        )

    back_here : is_away back page ≡ false
    back_here =
        let c = counted s back [] [] (page ∷ []) [] (v ∷ []) [] page back_totals in
        is_here back page (omega (arith, back_totals.loads page, (sound s h).alone page, listed_once page))
        (omega (arith, c.writers, unheld s page ((sound s h).fresh page back_some)))

    back_comes : ImageComes s back (frame_at s page)
    back_comes =
        image_comes s back page (frame_at s page)
        (λ q ne. elim (which q v) [
          | same e f ↦
              ap (away_from back) e ∙ here_none back v (is_here back v back_free.0 back_free.1)
              ∙ sym (here_none s v (uncached_here s h v back_away)) ∙ ap (away_from s) (sym e)
          | other e f ↦ away_stays s back q (back_others q e ne)
        ])
        (away_is s page (frame_at s page) (loading_is_away s page back_some) back_placed)
        (unplaced back page back_unplaced) (λ q away. away_alone s h page q (frame_at s page) back_placed away)

    pub bring_enters : Enters s back v (record { frame = frame_at s page; mark = mark_at s v })
    bring_enters =
        let u = with_lists s (bring_back s.lists page v) in
        let n1 = record (note_of s page) { frame = None } in
        let low : v < length noted.notes =
        omega (arith, sent_low s h w r (writing slot page v) at v refl, notes_stay u page n1) in
        let note = note_here noted v (record (note_of noted v) { frame = frame_of s page }) low in
        let known = sent_is_known s h v (sent_one s w r (writing slot page v) v at refl) in
        record {
          none = uncached_none s h v back_away;
          is = ready_is back v (frame_at s page) (mark_at s v) back_free.0 back_free.1
              (ap (λ (y : Note). y.frame) note ∙ back_placed)
              (ap (λ (y : Note). y.mark) note ∙ ap (λ (y : Note). y.mark) (note_there u page v n1 back_apart)
              ∙ some_of (known_mark s v) known);
          others = λ q ne. elim (which q page) [
            | same e f ↦
                ap (ready_at back) e ∙ frameless_none back page back_unplaced
                ∙ sym (away_none s page (loading_is_away s page back_some)) ∙ ap (ready_at s) (sym e)
            | other e f ↦ ready_stays s back q (back_others q ne e)
          ];
          image = back_comes;
        }

    pub bring_steps : AllStep s back
    bring_steps q =
        elim (which q page) [
          | same e f ↦ comes (ap (is_away back) e ∙ back_here)
          | other e f ↦ elim (which q v) [
            | same k m ↦ goes (ap (is_away s) k ∙ uncached_here s h v back_away)
            | other k m ↦ stays (back_others q k e)
          ]
        ]

-- ---- what a slot holds

module _ (s : State) (h : IsReached s) (w : ℕ) (r : Running) (slot : ℕ) (x : Holding)
    (seat : seat_of s w ≡ Some (Some r)) (found : holding_at (holdings r) slot ≡ Some x) where
  some_held : 0 < weight s (on_page x.page)
  some_held = held_one s w r slot x seat found

  held_cached : is_cached s.lists x.page ≡ true
  held_cached = (sound s h).cached x.page (omega (arith, some_held))

  held_loads : loads_of s x.page ≡ 0
  held_loads = unloaded s x.page (sound s h) some_held

  pub held_ready : writers_of s x.page ≡ 0 → ready_at s x.page ≡ Some (standing_of s x.page)
  held_ready none = cached_ready s h x.page held_cached held_loads none

  pub held_placed : frame_of s x.page ≡ Some (frame_at s x.page)
  held_placed = some_of (frame_of s x.page) ((framed s h).placed x.page held_cached)

  -- It counts as a latch of its kind.
  held_as : (is : Held → Bool) → is x.held ≡ true → 0 < weight s (latched_on is x.page)
  held_as is e =
      let one : latched_on is x.page x ≡ on_page x.page x = ap (λ b. cond b (on_page x.page x) 0) e in
      omega (arith, held_counts s w r slot x (latched_on is x.page) seat found, one, on_page_once x.page x refl)

  pub shared_unwritten : x.held ≡ S → writers_of s x.page ≡ 0
  shared_unwritten e =
      elim (latches_agree s h x.page) [
        | inl a ↦ a
        | inr a ↦ absurd (omega (arith, a.1, readers_are s x.page, held_as is_shared (ap is_shared e)))
      ]

  pub exclusive_writes : x.held ≡ X → writers_of s x.page ≡ 1
  exclusive_writes e =
      elim (latches_agree s h x.page) [
        | inl a ↦ absurd (omega (arith, a, writers_are s x.page, held_as is_exclusive (ap is_exclusive e)))
        | inr a ↦ a.0
      ]

  -- Where the latch X goes off it, its mark is one more.
  pub raised_mark : mark_at (raised s x.page) x.page ≡ mark_at s x.page + 1
  raised_mark =
      ap (λ (y : Note). unwrap_or y.mark 0)
      (note_here s x.page (record (note_of s x.page) { mark = Some (mark_at s x.page + 1); dirty = true })
      (cached_low s h x.page held_cached))

  pub exclusive_away : x.held ≡ X → is_away s x.page ≡ true
  exclusive_away e = written_is_away s x.page (omega (arith, exclusive_writes e))

  pub held_here : writers_of s x.page ≡ 0 → is_away s x.page ≡ false
  held_here none = is_here s x.page held_loads none

  -- The page of a slot that is latched X is ready again when the latch goes off it.
  module _ (t : State) (into : Holdings) (e : x.held ≡ X) (d : Totals s t (x ∷ []) into [] [] [] [])
      (latched : sum_by (latched_on is_exclusive x.page) into ≡ 0)
      (nothing : (q : ℕ) → q ≢ x.page → sum_by (on_page q) into ≡ 0) (notes : t.notes ≡ (raised s x.page).notes) where
    raised_others : (q : ℕ) → q ≢ x.page → Stays s t q
    raised_others q ne =
        let n = record (note_of s x.page) { mark = Some (mark_at s x.page + 1); dirty = true } in
        other_stays s t (x ∷ []) into [] [] [] [] q d refl (on_other_page q x (λ k. ne (sym k))) (nothing q ne)
        (ap (λ k. get_or k q untouched) notes ∙ note_there s x.page q n ne)

    raised_free : (loads_of t x.page ≡ 0) × (writers_of t x.page ≡ 0)
    raised_free =
        let c = counted s t (x ∷ []) into [] [] [] [] x.page d in
        let out = as_latch is_exclusive x.page x true (ap is_exclusive e) in (
          omega (arith, d.loads x.page, held_loads),
          omega (arith, c.writers, exclusive_writes e, latched, out, on_page_once x.page x refl),
        )

    raised_enters : Enters s t x.page (record { frame = frame_at s x.page; mark = mark_at s x.page + 1 })
    raised_enters =
        let p = x.page in
        let n = record (note_of s p) { mark = Some (mark_at s p + 1); dirty = true } in
        let note : note_of t p ≡ n =
        ap (λ k. get_or k p untouched) notes ∙ note_here s p n (cached_low s h p held_cached) in
        record {
          none = away_none s p (exclusive_away e);
          is = ready_is t p (frame_at s p) (mark_at s p + 1) raised_free.0 raised_free.1
              (ap (λ (y : Note). y.frame) note ∙ held_placed) (ap (λ (y : Note). y.mark) note);
          others = λ q ne. ready_stays s t q (raised_others q ne);
          image = image_comes s t p (frame_at s p) (λ q ne. away_stays s t q (raised_others q ne))
              (away_is s p (frame_at s p) (exclusive_away e) held_placed)
              (here_none t p (is_here t p raised_free.0 raised_free.1))
              (λ q away. away_alone s h p q (frame_at s p) held_placed away);
        }

    raised_steps : AllStep s t
    raised_steps q =
        elim (which q x.page) [
          | same k m ↦ comes (ap (is_away t) k ∙ is_here t x.page raised_free.0 raised_free.1)
          | other k m ↦ stays (raised_others q k)
        ]

-- ---- latches

module _ (s : State) (h : IsReached s) (w : ℕ) (r : Running) (slot : ℕ) where
  -- A latch S: the page is ready, and all stay.
  pub shared_ready : IsAsked s w r (action.Latch slot mode.S) → goes_with s mode.S (page_in r slot) ≡ true
      → ready_at s (page_in r slot) ≡ Some (standing_of s (page_in r slot))
  shared_ready asked fits =
      let does = totals.asked_does s s w r (good s h) (action.Latch slot mode.S) asked in
      let p = page_in r slot in
      let at = (holds_at r slot does.0 does.1).page_is in
      let none = no_writer (readers_of s p) (writers_of s p) (nat_lt 0 (writers_of s p)) refl fits in
      subst (λ q. ready_at s q ≡ Some (standing_of s q)) (sym at)
      (held_ready s h w r slot does.0 asked.at.seat does.1 (subst (λ q. writers_of s q ≡ 0) at none))

  pub shared_stays : IsAsked s w r (action.Latch slot mode.S) → AllStay s (did s w r (action.Latch slot mode.S))
  shared_stays asked q =
      let t = did s w r (action.Latch slot mode.S) in
      let does = totals.asked_does s t w r (good s h) (action.Latch slot mode.S) asked in
      stays_by s t (does.0 ∷ []) (as_held S does.0 ∷ []) [] [] [] [] q
      (totals.latch_totals s t w r (good s h) slot mode.S asked refl) refl
      (no_writes q does.0 (ap is_exclusive does.2) ∙ sym (no_writes q (as_held S does.0) refl)) refl refl

  -- A latch X: the page was ready, and leaves.
  module _ (asked : IsAsked s w r (action.Latch slot mode.X)) (fits : goes_with s mode.X (page_in r slot) ≡ true) where
    abbrev latched : State
    latched = did s w r (action.Latch slot mode.X)

    abbrev latched_one : Holding
    latched_one = (totals.asked_does s latched w r (good s h) (action.Latch slot mode.X) asked).0

    latched_found : holding_at (holdings r) slot ≡ Some latched_one
    latched_found = (totals.asked_does s latched w r (good s h) (action.Latch slot mode.X) asked).1

    latched_free : latched_one.held ≡ Free
    latched_free = (totals.asked_does s latched w r (good s h) (action.Latch slot mode.X) asked).2

    latched_totals : Totals s latched (latched_one ∷ []) (as_held X latched_one ∷ []) [] [] [] []
    latched_totals = totals.latch_totals s latched w r (good s h) slot mode.X asked refl

    latched_others : (q : ℕ) → q ≢ latched_one.page → Stays s latched q
    latched_others q ne =
        let y = as_held X latched_one in
        other_stays s latched (latched_one ∷ []) (y ∷ []) [] [] [] [] q latched_totals refl
        (on_other_page q latched_one (λ k. ne (sym k))) (on_other_page q y (λ k. ne (sym k))) refl

    unlatched_before : writers_of s latched_one.page ≡ 0
    unlatched_before =
        let p = page_in r slot in
        let none = (nobody (readers_of s p) (writers_of s p) (nat_lt 0 (writers_of s p)) refl fits).0 in
        subst (λ q. writers_of s q ≡ 0) (holds_at r slot latched_one latched_found).page_is none

    latched_away : is_away latched latched_one.page ≡ true
    latched_away =
        let y = as_held X latched_one in
        let p = latched_one.page in
        let c = counted s latched (latched_one ∷ []) (y ∷ []) [] [] [] [] p latched_totals in
        let into = as_latch is_exclusive p y true refl in
        written_is_away latched p
        (omega (arith, c.writers, no_writes p latched_one (ap is_exclusive latched_free), into, on_page_once p y refl))

    latched_leaves : Leaves s latched latched_one.page (standing_of s latched_one.page)
    latched_leaves =
        let p = latched_one.page in
        let placed = held_placed s h w r slot latched_one asked.at.seat latched_found in
        let here = held_here s h w r slot latched_one asked.at.seat latched_found unlatched_before in
        record {
          was = held_ready s h w r slot latched_one asked.at.seat latched_found unlatched_before;
          gone = away_none latched p latched_away;
          others = λ q ne. ready_stays s latched q (latched_others q ne);
          image = image_goes s latched p (frame_at s p) (λ q ne. away_stays s latched q (latched_others q ne))
              (here_none s p here) (away_is latched p (frame_at s p) latched_away placed)
              (λ q away.
              let one = away_alone s h p q (frame_at s p) placed away in
              let no_frame : ◌≡◌ {A = Option ℕ} None (Some (frame_at s p)) =
              sym (here_none s p here) ∙ ap (away_from s) (sym one) ∙ away in
              absurd (cc));
        }

    pub exclusive_leaves : Leaves s latched (page_in r slot) (standing_of s (page_in r slot))
    exclusive_leaves =
        subst (λ q. Leaves s latched q (standing_of s q)) (sym (holds_at r slot latched_one latched_found).page_is)
        latched_leaves

    pub exclusive_steps : AllStep s latched
    exclusive_steps q =
        let here = held_here s h w r slot latched_one asked.at.seat latched_found unlatched_before in
        elim (which q latched_one.page) [
          | same k m ↦ goes (ap (is_away s) k ∙ here)
          | other k m ↦ stays (latched_others q k)
        ]

  -- ---- ends of latches

  module _ (asked : IsAsked s w r (action.Unlatch slot)) where
    -- A latch S goes off a page that is ready and stays so.
    pub unshared_ready : held_in r slot ≡ S → ready_at s (page_in r slot) ≡ Some (standing_of s (page_in r slot))
    unshared_ready e =
        let does = totals.asked_does s s w r (good s h) (action.Unlatch slot) asked in
        let k = holds_at r slot does.0 does.1 in
        let none = shared_unwritten s h w r slot does.0 asked.at.seat does.1 (sym k.held_is ∙ e) in
        subst (λ q. ready_at s q ≡ Some (standing_of s q)) (sym k.page_is)
        (held_ready s h w r slot does.0 asked.at.seat does.1 none)

    pub unshared_stays : held_in r slot ≡ S → AllStay s (did (unlatched s r slot) w r (action.Unlatch slot))
    unshared_stays e =
        let a = action.Unlatch slot in
        let t = did s w r a in
        let does = totals.asked_does s t w r (good s h) a asked in
        let k = holds_at r slot does.0 does.1 in
        subst (λ y. AllStay s (did (released s y (page_in r slot)) w r a)) (sym e)
        (λ q. stays_by s t (does.0 ∷ []) (as_held Free does.0 ∷ []) [] [] [] [] q
        (totals.unlatch_totals s t w r (good s h) slot asked refl) refl
        (no_writes q does.0 (ap is_exclusive (sym k.held_is ∙ e)) ∙ sym (no_writes q (as_held Free does.0) refl))
        refl refl)

    -- An X latch goes off a page that is away. Its mark is then one more.
    pub unlatch_mark : mark_at (raised s (page_in r slot)) (page_in r slot) ≡ mark_at s (page_in r slot) + 1
    unlatch_mark =
        let does = totals.asked_does s s w r (good s h) (action.Unlatch slot) asked in
        subst (λ q. mark_at (raised s q) q ≡ mark_at s q + 1) (sym (holds_at r slot does.0 does.1).page_is)
        (raised_mark s h w r slot does.0 asked.at.seat does.1)

    module _ (e : held_in r slot ≡ X) where
      abbrev unlocked : State
      unlocked = did (raised s (page_in r slot)) w r (action.Unlatch slot)

      abbrev unlatched_one : Holding
      unlatched_one = (totals.asked_does s unlocked w r (good s h) (action.Unlatch slot) asked).0

      unlatched_found : holding_at (holdings r) slot ≡ Some unlatched_one
      unlatched_found = (totals.asked_does s unlocked w r (good s h) (action.Unlatch slot) asked).1

      unlatched_x : unlatched_one.held ≡ X
      unlatched_x = sym (holds_at r slot unlatched_one unlatched_found).held_is ∙ e

      unlatched_notes : unlocked.notes ≡ (raised s unlatched_one.page).notes
      unlatched_notes = ap (λ q. (raised s q).notes) (holds_at r slot unlatched_one unlatched_found).page_is

      pub unlatch_enters : Enters s (did (unlatched s r slot) w r (action.Unlatch slot)) (page_in r slot)
          (record { frame = frame_at s (page_in r slot); mark = mark_at s (page_in r slot) + 1 })
      unlatch_enters =
          let x = unlatched_one in
          let p = page_in r slot in
          let enters = raised_enters s h w r slot x asked.at.seat unlatched_found unlocked (as_held Free x ∷ [])
          unlatched_x (totals.unlatch_totals s unlocked w r (good s h) slot asked refl)
          (no_writes x.page (as_held Free x) refl) (λ q ne. on_other_page q (as_held Free x) (λ f. ne (sym f)))
          unlatched_notes in
          subst (λ y. Enters s (did (released s y p) w r (action.Unlatch slot)) p
          (record { frame = frame_at s p; mark = mark_at s p + 1 })) (sym e)
          (subst (λ q. Enters s unlocked q (record { frame = frame_at s q; mark = mark_at s q + 1 }))
          (sym (holds_at r slot x unlatched_found).page_is) enters)

      pub unlatch_steps : AllStep s (did (unlatched s r slot) w r (action.Unlatch slot))
      unlatch_steps =
          let x = unlatched_one in
          subst (λ y. AllStep s (did (released s y (page_in r slot)) w r (action.Unlatch slot))) (sym e)
          (raised_steps s h w r slot x asked.at.seat unlatched_found unlocked (as_held Free x ∷ [])
          unlatched_x (totals.unlatch_totals s unlocked w r (good s h) slot asked refl)
          (no_writes x.page (as_held Free x) refl) (λ q ne. on_other_page q (as_held Free x) (λ f. ne (sym f)))
          unlatched_notes)

  module _ (given : List ℕ) (x : Holding) (at : IsAt s w r (leaving given))
      (found : holding_at (holdings r) slot ≡ Some x) where
    abbrev out : Holdings
    out = slot_all holding_slot slot (holdings r)

    outs : IsOut out x
    outs = totals.unwound_out s s w r (good s h) slot given x at found

    -- What goes has no writer, where the slot isn't latched X; where it is, it is the slot's page alone.
    unwritten_out : (q : ℕ) → is_exclusive x.held ≡ false → IsOut out x → sum_by (latched_on is_exclusive q) out ≡ 0
    unwritten_out q unwritten (alone e) =
        ap (sum_by (latched_on is_exclusive q)) e ∙ no_writes q x unwritten
    unwritten_out q unwritten (several free all) = free_weigh_nothing is_exclusive q out refl all

    only_out : x.held ≡ X → IsOut out x → out ≡ x ∷ []
    only_out e (alone f) = f
    only_out e (several free all) = absurd (free_not_exclusive x.held free e)

    exclusive_totals : (t : State) → x.held ≡ X
        → t.seats ≡ slice_set s.seats w (Some (at_stage r (leaving (slot ∷ given))))
        → Totals s t (x ∷ []) [] [] [] [] []
    exclusive_totals t e f =
        subst (λ (hs : Holdings). Totals s t hs [] [] [] [] []) (only_out e outs)
        (totals.unwound_totals s t w r (good s h) slot given at f)

    -- A worker that leaves gives a slot back.
    pub unwind_stays : is_exclusive x.held ≡ false
        → AllStay s (with_stage (released s x.held x.page) w r (leaving (slot ∷ given)))
    unwind_stays unwritten =
        let g = leaving (slot ∷ given) in
        let t = with_stage s w r g in
        let d = totals.unwound_totals s t w r (good s h) slot given at refl in
        subst (λ k. AllStay s (with_stage k w r g)) (sym (unraised s x.held x.page unwritten))
        (λ q. stays_by s t out [] [] [] [] [] q d refl (unwritten_out q unwritten outs) refl refl)

    pub unwind_enters : x.held ≡ X
        → Enters s (with_stage (released s x.held x.page) w r (leaving (slot ∷ given))) x.page
        (record { frame = frame_at s x.page; mark = mark_at s x.page + 1 })
    unwind_enters e =
        let g = leaving (slot ∷ given) in
        let t = with_stage (raised s x.page) w r g in
        let d = exclusive_totals t e refl in
        subst (λ y. Enters s (with_stage (released s y x.page) w r g) x.page
        (record { frame = frame_at s x.page; mark = mark_at s x.page + 1 })) (sym e)
        (raised_enters s h w r slot x at.seat found t [] e d refl (λ q ne. refl) refl)

    pub unwind_steps : x.held ≡ X → AllStep s (with_stage (released s x.held x.page) w r (leaving (slot ∷ given)))
    unwind_steps e =
        let g = leaving (slot ∷ given) in
        let t = with_stage (raised s x.page) w r g in
        let d = exclusive_totals t e refl in
        subst (λ y. AllStep s (with_stage (released s y x.page) w r g)) (sym e)
        (raised_steps s h w r slot x at.seat found t [] e d refl (λ q ne. refl) refl)
