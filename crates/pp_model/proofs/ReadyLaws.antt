-- Ready frames of reached states, in the words of the laws: which pages are ready and which images away, and what fixes
-- and all moves do to them after which they stay.
use Rattle.std.proofs.Common.{◌≡◌, ◌∙◌, ◌⊎◌, ℕ, ◌<◌, Bool, true, false, Option, Some, None, refl, sym, ap, subst, inl, inr}
use Rattle.std.proofs.Common.{arith}
use Rattle.std.specs.Prelude.{nat_lt, ◌||◌, IsSome, IsTrue, unwrap_or}
use Rattle.std.proofs.lemmas.Bool.{false≢true}
use Rattle.std.proofs.lemmas.Bool.Decides.{nat_tests}
use Rattle.pp_cert.specs.declared.note.Held.{Held}
use Rattle.pp_cert.specs.declared.note.Held.TheVariants.{Free, S, X}
use Rattle.pp_arc.specs.declared.answer.Answer.{Answer}
use Rattle.pp_arc.specs.declared.answer.Answer.TheVariants as answer
use Rattle.pp_arc.specs.FourLists.{FourLists, is_cached}
use Rattle.pp_arc.specs.Figure.{request}
use Rattle.pp_model.specs.declared.refusals.SubmitError.{SubmitError}
use Rattle.pp_model.specs.declared.reply.Reply.{Reply}
use Rattle.pp_model.specs.declared.reply.Reply.TheVariants.{MustRead, MustWrite}
use Rattle.pp_model.specs.Pool.{Stage, acting, writing, reading, leaving, Running, Note, State, Settings, opening, frame_of, is_dirty}
use Rattle.pp_model.specs.Pool.{frame_at, mark_at}
use Rattle.pp_model.specs.Holders.{is_exclusive, writers_of, is_busy, is_in_flight}
use Rattle.pp_model.specs.Outcome.{Outcome, with_stage, with_lists, with_frame}
use Rattle.pp_model.specs.Fixing.{fix_slot, with_frame_moved, free_frame, evict_where, fix_by, fix_where, fix_asked}
use Rattle.pp_model.specs.Fixing.{fixes}
use Rattle.pp_model.specs.Leaving.{unwound}
use Rattle.pp_model.specs.Submitting.{submit_error, submitted_unless}
use Rattle.pp_model.specs.Moves.{asked_by, act_in, act_by, seat_of, outcome_of, reply_of, next_of}
use Rattle.pp_model.specs.Reached.{IsReached}
use Rattle.pp_model.specs.Ready.{is_loading, is_written, is_away, Standing, ready_at, standing_of, away_from}
use Rattle.pp_model.specs.Ready.{NoneReadyIn, ImageGoes, Keeps, Leaves, Vacates, empty, takes, ReadyAreCached}
use Rattle.pp_model.specs.Ready.{ReadyStand, ReadyAreApart, FramedAreReadyOrAway, AwayAreOfPages, AwayAreApart}
use Rattle.pp_model.specs.Ready.{SharedAreReady, ExclusiveAreAway, LoadingAreAway, is_still, StillKeeps, SubmitKeeps}
use Rattle.pp_model.specs.Ready.{ReadVacates, WriteLeaves, OpensEmpty, is_away_at}
use Rattle.pp_model.proofs.Changes as change
use Rattle.pp_model.proofs.Changes.{Change, IsAt, IsAsked, IsAnswered, IsReal, Tells, Result, refused, done, result}
use Rattle.pp_model.proofs.Changes.{slot_asked}
use Rattle.pp_model.proofs.Totals.{loads_of}
use Rattle.pp_model.proofs.Soundness.{sound}
use Rattle.pp_model.proofs.Framed.{framed, some_of, loads_one, fresh_note}
use Rattle.pp_model.proofs.HoldingSteps.{ends_empty}
use Rattle.pp_model.proofs.Images.{not_true, away_at, away_page}
use Rattle.pp_model.proofs.ReadyPages.{Stays, AllStay, keeps, loading_is, loading_is_away, away_is, away_alone, here_none}
use Rattle.pp_model.proofs.ReadyPages.{cached_ready, stands_ready, frameless_none, unplaced}
use Rattle.pp_model.proofs.ReadySteps as steps

-- ---- which pages are ready

or_false : (a b : Bool) → (a || b) ≡ false → (a ≡ false) × (b ≡ false)
or_false true b e = cc
or_false false b e = (refl, e)

pub zero_of : (n : ℕ) → nat_lt 0 n ≡ false → n ≡ 0
zero_of n e = grind (arith, nat_tests)

some_of_some : (o : Option Standing) → IsSome o → (x : Standing) × (o ≡ Some x)
some_of_some None some = absurd (false≢true some)
some_of_some (Some x) some = (x, refl)

unplaced_at : (k : Settings) (q : ℕ) → frame_of (opening k) q ≡ None
unplaced_at k q = ap (λ (x : Note). x.frame) (fresh_note k q)

pub opens_empty : (k : Settings) → OpensEmpty k
opens_empty k = (
  λ q. frameless_none (opening k) q (unplaced_at k q),
  λ f. not_true (is_away_at (opening k) f) (λ is.
      let page = away_page (opening k) f is in
      let no_frame : ◌≡◌ {A = Option ℕ} None (Some f) =
      sym (unplaced (opening k) page.0 (unplaced_at k page.0)) ∙ page.1 in
      absurd (cc)),
)

same_standing : (s : State) (v frame : ℕ) → frame_at s v ≡ frame
    → standing_of s v ≡ record { frame = frame; mark = mark_at s v }
same_standing s v frame e = λ i. record { frame = e i; mark = mark_at s v }

pub ready_are_cached : (s : State) → IsReached s → ReadyAreCached s
ready_are_cached s h page = (there, back)
  where
    there : IsSome (ready_at s page)
        → IsTrue (is_cached s.lists page) × (is_loading s page ≡ false) × (is_written s page ≡ false)
    there some =
        let x = some_of_some (ready_at s page) some in
        let stands = stands_ready s page x.0 x.1 in
        let both = or_false (is_loading s page) (is_written s page) stands.here in (
          (framed s h).cached page (subst (λ (o : Option ℕ). IsSome o) (sym stands.frame_is) refl),
          both.0,
          both.1,
        )

    back : IsTrue (is_cached s.lists page) × (is_loading s page ≡ false) × (is_written s page ≡ false)
        → IsSome (ready_at s page)
    back k =
        let loads = zero_of (loads_of s page) (sym (loading_is s page) ∙ k.1) in
        subst (λ (o : Option Standing). IsSome o)
        (sym (cached_ready s h page k.0 loads (zero_of (writers_of s page) k.2))) refl

pub ready_stand : (s : State) → IsReached s → ReadyStand s
ready_stand s h page x e =
    let stands = stands_ready s page x e in
    record {
      frame = stands.frame_is;
      mark = stands.mark_is;
      low = (framed s h).in_range page x.frame stands.frame_is;
    }

pub ready_are_apart : (s : State) → IsReached s → ReadyAreApart s
ready_are_apart s h p q x y e f same =
    (framed s h).no_frame_twice p q x.frame (stands_ready s p x e).frame_is
    ((stands_ready s q y f).frame_is ∙ ap Some (sym same))

pub framed_are_ready_or_away : (s : State) → IsReached s → FramedAreReadyOrAway s
framed_are_ready_or_away s h page frame e = ((framed s h).in_range page frame e, go (is_away s page) refl)
  where
    go : (b : Bool) → is_away s page ≡ b
        → (ready_at s page ≡ Some (record { frame = frame; mark = mark_at s page }))
        ⊎ (away_from s page ≡ Some frame)
    go true away = inr (away_is s page frame away e)
    go false here =
        let both = or_false (is_loading s page) (is_written s page) here in
        let loads = zero_of (loads_of s page) (sym (loading_is s page) ∙ both.0) in
        let cached = (framed s h).cached page (subst (λ (o : Option ℕ). IsSome o) (sym e) refl) in
        inl (cached_ready s h page cached loads (zero_of (writers_of s page) both.1)
        ∙ ap Some (same_standing s page frame (ap (λ o. unwrap_or o 0) e)))

pub away_are_of_pages : (s : State) → AwayAreOfPages s
away_are_of_pages s frame = (away_page s frame, λ k. away_at s frame k.0 k.1)

pub away_are_apart : (s : State) → IsReached s → AwayAreApart s
away_are_apart s h frame away q x e same =
    let stands = stands_ready s q x e in
    let page = away_page s frame away in
    let one = away_alone s h q page.0 frame (stands.frame_is ∙ ap Some same) page.1 in
    let no_frame : ◌≡◌ {A = Option ℕ} None (Some frame) =
    sym (here_none s q stands.here) ∙ ap (away_from s) (sym one) ∙ page.1 in
    absurd (cc)

pub shared_are_ready : (s : State) → IsReached s → SharedAreReady s
shared_are_ready s h w slot r x seat found e =
    steps.held_ready s h w r slot x seat found (steps.shared_unwritten s h w r slot x seat found e)

pub exclusive_are_away : (s : State) → IsReached s → ExclusiveAreAway s
exclusive_are_away s h w slot r x seat found e =
    away_is s x.page (frame_at s x.page) (steps.exclusive_away s h w r slot x seat found e)
    (steps.held_placed s h w r slot x seat found)

pub loading_are_away : (s : State) → IsReached s → LoadingAreAway s
loading_are_away s h w page r seat loads =
    let some = loads_one s w r r.stage page (record { seat = seat; stage = refl }) loads in
    let here = (sound s h).cached page (omega (arith, some)) in
    away_is s page (frame_at s page) (loading_is_away s page some)
    (some_of (frame_of s page) ((framed s h).placed page here))

-- ---- replies after which all pages stand as before

same_keeps : (s t : State) → t ≡ s → Keeps s t
same_keeps s t e = keeps s t (λ q. subst (λ x. Stays s x q) (sym e) (record { away = refl; frame = refl; mark = refl }))

to_next : (s t u : State) → t ≡ u → AllStay s u → Keeps s t
to_next s t u e k = subst (Keeps s) (sym e) (keeps s u k)

isnt_still : (x y : Reply) → x ≡ y → is_still y ≡ false → IsTrue (is_still x) → ⊥
isnt_still x y e isnt ok = false≢true (sym isnt ∙ sym (ap is_still e) ∙ ok)

-- The frame that a reply tells to read into, and what it tells to write.
abbrev pub read_into : Reply → Option ℕ
read_into (MustRead frame) = Some frame
read_into _ = None

pub not_read : (x y : Reply) (frame : ℕ) → x ≡ y → x ≡ MustRead frame → read_into y ≡ None → ⊥
not_read x y frame e f isnt =
    let is : ◌≡◌ {A = Option ℕ} None (Some frame) = sym isnt ∙ ap read_into (sym e ∙ f) in absurd (cc)

read_same : (x : Reply) (a b : ℕ) → x ≡ MustRead a → x ≡ MustRead b → a ≡ b
read_same x a b e f =
    let is : ◌≡◌ {A = Option ℕ} (Some a) (Some b) = ap read_into (sym e ∙ f) in cc

unwound_still : (k : Held) (mark : ℕ) → IsTrue (is_still (unwound k mark)) → is_exclusive k ≡ false
unwound_still Free mark ok = refl
unwound_still S mark ok = refl
unwound_still X mark ok = absurd (false≢true ok)

still : (s t : State) (h : IsReached s) (x : Reply) (c : Change s t) → IsReal c → Tells c x → IsTrue (is_still x)
    → Keeps s t
still s t h x (change.stays e) real told ok = absurd real
still s t h x (change.takes w a idle next fits e) real told ok = to_next s t _ e (steps.take_stays s h w a idle)
still s t h x (change.hits w r slot page l asked is e) real told ok =
    to_next s t _ e (steps.hit_stays s h w r slot page l asked)
still s t h x (change.fills w r slot page l asked is e) real told ok = absurd (isnt_still x _ told refl ok)
still s t h x (change.evicts w r slot page v l asked is clean e) real told ok = absurd (isnt_still x _ told refl ok)
still s t h x (change.sends w r slot page v l asked is dirty e) real told ok = absurd (isnt_still x _ told refl ok)
still s t h x (change.writes w r slot page v at e) real told ok = absurd (isnt_still x _ told refl ok)
still s t h x (change.brings w r slot page v at e) real told ok = absurd (isnt_still x _ told refl ok)
still s t h x (change.forgets w r slot page at e) real (inl told) ok = absurd (isnt_still x _ told refl ok)
still s t h x (change.forgets w r slot page at e) real (inr told) ok = absurd (isnt_still x _ told refl ok)
still s t h x (change.loads w r slot page stamp at known e) real told ok = absurd (isnt_still x _ told refl ok)
still s t h x (change.unfixes w r slot a back asked e) real told ok = to_next s t _ e (steps.unfix_stays s h w r slot a back asked)
still s t h x (change.latches w r slot m asked goes e) real told ok = absurd (isnt_still x _ told refl ok)
still s t h x (change.unlatches w r slot asked e) real told ok = absurd (isnt_still x _ told refl ok)
still s t h x (change.chooses w r i asked e) real told ok = to_next s t _ e (steps.choose_stays s h w r i asked)
still s t h x (change.unwinds w r slot given k at found e) real told ok =
    let free = unwound_still k.held _ (subst (λ y. IsTrue (is_still y)) told ok) in
    to_next s t _ e (steps.unwind_stays s h w r slot given k at found free)
still s t h x (change.ends w r at asked e) real told ok =
    to_next s t _ e (steps.end_stays s h w r at (ends_empty s h w r at asked))
still s t h x (change.leaves w r given at none e) real told ok =
    to_next s t _ e (steps.leave_stays s h w r given at none)
still s t h x (change.flushes page can e) real told ok = to_next s t _ e (steps.begin_stays s h page)
still s t h x (change.cleans f is e) real told ok = to_next s t _ e (steps.clean_stays s h f is)
still s t h x (change.drops f is e) real told ok = to_next s t _ e (steps.over_stays s h)

pub still_keeps : (s : State) → IsReached s → StillKeeps s
still_keeps s h m ok = go (result s m)
  where
    go : Result s (outcome_of s m) → Keeps s (next_of s m)
    go (refused isnt e) = same_keeps s (next_of s m) e
    go (done isnt c real told) = still s (next_of s m) h (reply_of s m) c real told ok

-- A plan that is taken in changes no page; nor does one that is refused.
pub submit_keeps : (s : State) → SubmitKeeps s
submit_keeps s a = go (submit_error s a)
  where
    go : (o : Option SubmitError)
        → Keeps s (submitted_unless o s a) × ((submitted_unless o s a).notes ≡ s.notes)
        × ((submitted_unless o s a).seats ≡ s.seats)
    go None = (record { ready = λ q. refl; away = λ f. refl }, refl, refl)
    go (Some error) = (record { ready = λ q. refl; away = λ f. refl }, refl, refl)

-- ---- a page is fixed that isn't cached

abbrev written_to : Reply → Option (ℕ × ℕ)
written_to (MustWrite frame victim) = Some (frame, victim)
written_to _ = None

not_written : (x y : Reply) (frame victim : ℕ) → x ≡ y → x ≡ MustWrite frame victim → written_to y ≡ None → ⊥
not_written x y frame victim e f isnt =
    let is : ◌≡◌ {A = Option (ℕ × ℕ)} None (Some (frame, victim)) = sym isnt ∙ ap written_to (sym e ∙ f) in absurd (cc)

written_same : (x : Reply) (a b c d : ℕ) → x ≡ MustWrite a b → x ≡ MustWrite c d → (a ≡ c) × (b ≡ d)
written_same x a b c d e f =
    let is : ◌≡◌ {A = Option (ℕ × ℕ)} (Some (a, b)) (Some (c, d)) = ap written_to (sym e ∙ f) in
    let pair : ◌≡◌ {A = ℕ × ℕ} (a, b) (c, d) = cc in
    (ap (λ (y : ℕ × ℕ). y.0) pair, ap (λ (y : ℕ × ℕ). y.1) pair)

-- What a fix is answered tells of the pages.
record FixTells (s : State) (o : Outcome) : Type 0 where
  reads : (frame : ℕ) → o.reply ≡ MustRead frame
      → (frame < s.settings.layout.frames) × Vacates s o.state frame
  writes : (frame victim : ℕ) → o.reply ≡ MustWrite frame victim
      → Leaves s o.state victim (record { frame = frame; mark = mark_at s victim })

silent : (s : State) (o : Outcome) → read_into o.reply ≡ None → written_to o.reply ≡ None → FixTells s o
silent s o isnt nor = record {
  reads = λ frame is. absurd (not_read o.reply _ frame refl is isnt);
  writes = λ frame victim is. absurd (not_written o.reply _ frame victim refl is nor);
}

module _ (s : State) (h : IsReached s) (w : ℕ) (r : Running) (page : ℕ) where
  evict_tells : (slot v : ℕ) (l : FourLists) (b : Bool) → IsAsked s w r (fixes (asked_by r) slot page)
      → IsAnswered s page l (answer.Evict v) → FixTells s (evict_where (with_lists s l) w r slot page v b)
  evict_tells slot v l true asked is =
      let t = with_stage (with_frame_moved (with_lists s l) page v) w r (writing slot page v) in
      let leaves = steps.evict_write_leaves s h w r slot page l asked v is in
      record {
        reads = λ frame told. absurd (not_read (MustWrite (frame_at s v) v) _ frame refl told refl);
        writes = λ frame victim told.
            let both = written_same (MustWrite (frame_at s v) v) _ _ _ _ refl told in
            subst (λ y. Leaves s t y (record { frame = frame; mark = mark_at s y })) both.1
            (subst (Leaves s t v) (same_standing s v frame both.0) leaves);
      }
  evict_tells slot v l false asked is =
      let t = with_stage (with_frame_moved (with_lists s l) page v) w r (reading slot page) in
      let leaves = steps.evict_read_leaves s h w r slot page l asked v is in
      record {
        reads = λ frame told.
            let same = read_same (MustRead (frame_at s v)) _ _ refl told in
            let left = subst (Leaves s t v) (same_standing s v frame same) leaves in
            ((ready_stand s h v (record { frame = frame; mark = mark_at s v }) left.was).low, takes v (mark_at s v) left);
        writes = λ frame victim told. absurd (not_written (MustRead (frame_at s v)) _ frame victim refl told refl);
      }

  fill_tells : (slot : ℕ) (l : FourLists) → IsAsked s w r (fixes (asked_by r) slot page) → IsAnswered s page l answer.Free
      → FixTells s (fix_by s l w r slot page answer.Free)
  fill_tells slot l asked is =
      let t = with_stage (with_frame (with_lists s l) page (Some (free_frame s))) w r (reading slot page) in
      record {
        reads = λ frame told.
            let same = read_same (MustRead (free_frame s)) _ _ refl told in (
              omega (arith, same, steps.fill_low s h w r slot page l asked is),
              empty (subst (NoneReadyIn s) same (steps.fill_none s h w r slot page l asked is))
                  (steps.fill_ready s h w r slot page l asked is)
                  (subst (ImageGoes s t) same (steps.fill_goes s h w r slot page l asked is)),
            );
        writes = λ frame victim told. absurd (not_written (MustRead (free_frame s)) _ frame victim refl told refl);
      }

  answer_tells : (slot : ℕ) (l : FourLists) (x : Answer) → IsAsked s w r (fixes (asked_by r) slot page)
      → IsAnswered s page l x → FixTells s (fix_by s l w r slot page x)
  answer_tells slot l answer.Hit asked is = silent s _ refl refl
  answer_tells slot l answer.Free asked is = fill_tells slot l asked is
  answer_tells slot l (answer.Evict v) asked is = evict_tells slot v l (is_dirty s v) asked is
  answer_tells slot l answer.AllBusy asked is = silent s _ refl refl

  flight_tells : (slot : ℕ) (b : Bool) → is_in_flight s page ≡ b → IsAsked s w r (fixes (asked_by r) slot page)
      → FixTells s (fix_where s w r slot page b)
  flight_tells slot true e asked = silent s _ refl refl
  flight_tells slot false e asked =
      let answered = request s.lists page (is_busy s) in
      answer_tells slot answered.1 answered.0 asked (record { grounded = e; after = refl; is = refl })

  slot_tells : (o : Option ℕ) → fix_slot r page (asked_by r) ≡ o → IsAt s w r acting
      → FixTells s (fix_asked s w r page o)
  slot_tells None e at = silent s _ refl refl
  slot_tells (Some slot) e at =
      flight_tells slot (is_in_flight s page) refl (record { at = at; names = slot_asked r page slot (asked_by r) e })

  stage_tells : (g : Stage) → IsAt s w r g
      → FixTells s (act_in s (λ r. fix_asked s w r page (fix_slot r page (asked_by r))) r g)
  stage_tells acting at = slot_tells (fix_slot r page (asked_by r)) refl at
  stage_tells (writing slot x v) at = silent s _ refl refl
  stage_tells (reading slot x) at = silent s _ refl refl
  stage_tells (leaving given) at = silent s _ refl refl

seat_tells : (s : State) → IsReached s → (w page : ℕ) (o : Option (Option Running)) → seat_of s w ≡ o
    → FixTells s (act_by s (λ r. fix_asked s w r page (fix_slot r page (asked_by r))) o)
seat_tells s h w page None e = silent s _ refl refl
seat_tells s h w page (Some None) e = silent s _ refl refl
seat_tells s h w page (Some (Some r)) e = stage_tells s h w r page r.stage (record { seat = e; stage = refl })

pub read_vacates : (s : State) → IsReached s → ReadVacates s
read_vacates s h w page frame is = (seat_tells s h w page (seat_of s w) refl).reads frame is

pub write_leaves : (s : State) → IsReached s → WriteLeaves s
write_leaves s h w page frame victim is = (seat_tells s h w page (seat_of s w) refl).writes frame victim is
