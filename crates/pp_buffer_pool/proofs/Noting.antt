-- A turn of a work with a note is a turn of the work. The note is what the work was told of its plan's end.
use Rattle.std.proofs.Common.{◌≡◌, ◌∙◌, ◌++◌, ℕ, Bool, true, false, inl, inr, Option, Some, None, List, [], ◌∷◌, refl, sym, ap, subst}
use Rattle.std.specs.Prelude.{◌⊎◌, ◌||◌, MatchOption}
use Rattle.std.specs.List.{list_any}
use Rattle.std.specs.Option.{option_map}
use Rattle.pp_settings.specs.Layout.{Geometry}
use Rattle.pp_device.specs.Image.{body_of}
use Rattle.pp_device.specs.declared.device.Device as Device
use Rattle.pp_model.specs.declared.moves.Move.{Move}
use Rattle.pp_model.specs.declared.moves.Move.TheVariants as move
use Rattle.pp_model.specs.declared.reply.Reply.{Reply}
use Rattle.pp_model.specs.declared.reply.Reply.TheVariants as reply
use Rattle.pp_model.specs.declared.reply.Ending.TheVariants as ending
use Rattle.pp_model.specs.declared.reply.Failure.{Failure}
use Rattle.pp_model.specs.declared.reply.Failure.TheVariants.{WriteFault, ReadFault, Misread}
use Rattle.pp_model.specs.declared.event.Event.{Event}
use Rattle.pp_model.specs.declared.event.Event.TheVariants.{Submit, Step}
use Rattle.pp_vault.specs.declared.tokens.Session.{Session}
use Rattle.pp_vault.specs.declared.guards.ReadGuard.{ReadGuard}
use Rattle.pp_vault.specs.declared.guards.Guard.{Guard}
use Rattle.pp_vault.specs.declared.stage.Stage.{Stage}
use Rattle.pp_pool.specs.declared.request.Request.{Request}
use Rattle.pp_pool.specs.declared.request.Request.TheVariants as request
use Rattle.pp_pool.specs.declared.response.BookAnswer.{BookAnswer}
use Rattle.pp_pool.specs.declared.response.BookAnswer.TheVariants as answer
use Rattle.pp_pool.specs.declared.site.Site as Site
use Rattle.pp_pool.specs.declared.work.Work as Work
use Rattle.pp_pool.specs.declared.work.Kind.{Kind}
use Rattle.pp_pool.specs.declared.work.End.{End}
use Rattle.pp_pool.specs.declared.work.End.TheVariants as end
use Rattle.pp_pool.specs.declared.turned.Turned.{Turned}
use Rattle.pp_pool.specs.declared.worker.Worker.{Worker}
use Rattle.pp_pool.specs.Lent.{LentPage, lent_in, off_next}
use Rattle.pp_pool.specs.Requests.{events_in}
use Rattle.pp_pool.specs.Turns.{Consults, ConsultsPage, Reworks, ReworksIf, Uses, LooksAt, is_shown, kind_of}
use Rattle.pp_pool.specs.Turns.{Tells, TellsStep, page_called, end_of, Makes}
use Rattle.pp_buffer_pool.specs.declared.ending.Ending.{Ending}
use Rattle.pp_buffer_pool.specs.Running.{noted_calls}
use Rattle.pp_buffer_pool.specs.Executing.{IsCause, is_failure, same_failure}

-- ---- what the calls of a work with a note say

pub record IsNoting {W : Type 0} (k : Work.Ghosts (Ending W)) (own : Work.Ghosts W) : Type 0 where
  pub pages : (e f : Ending W) (region first count page : ℕ) → k.page_gives e region first count page f
      → own.page_gives e.work region first count page f.work × (f.end ≡ e.end)
  pub branches : (e f : Ending W) (count branch : ℕ) → k.branch_gives e count branch f
      → own.branch_gives e.work count branch f.work × (f.end ≡ e.end)
  pub reaches : (e : Ending W) (bytes : ℕ) → k.reach_gives e bytes → own.reach_gives e.work bytes
  pub changes : (e f : Ending W) (page : ℕ) (before left : List ℕ) → k.change_leaves e page before left f
      → own.change_leaves e.work page before left f.work × (f.end ≡ e.end)
  pub sees : (e f : Ending W) (page mark : ℕ) (image : List ℕ) → k.see_leaves e page mark image f
      → own.see_leaves e.work page mark image f.work × (f.end ≡ e.end)
  pub places : (e f : Ending W) (slot : ℕ) (kind : Kind) (region first count page : ℕ)
      → k.page_into_gives e slot kind region first count page f
      → own.page_into_gives e.work slot kind region first count page f.work × (f.end ≡ e.end)
  pub begun : (e f : Ending W) (plan : ℕ) → k.begins_leaves e plan f
      → (own.begins_leaves e.work plan f.work ⊎ (f.work ≡ e.work)) × (f.end ≡ e.end)
  pub ended : (e f : Ending W) (how : End) → k.ended_leaves e how f → (f.work ≡ e.work) × (f.end ≡ Some how)
  pub reworked : (e f : Ending W) (off : ℕ) (before left : List LentPage) → k.rework_leaves e off before left f
      → own.rework_leaves e.work off before left f.work × (f.end ≡ e.end)

pub noted : {W : Type 0} (own : Work.Ghosts W) → IsNoting (noted_calls own) own
noted own = record {
  pages = λ e f region first count page h. h;
  branches = λ e f count branch h. h;
  reaches = λ e bytes h. h;
  changes = λ e f page before left h. h;
  sees = λ e f page mark image h. h;
  places = λ e f slot kind region first count page h. h;
  begun = λ e f plan h. h;
  ended = λ e f how h. h;
  reworked = λ e f off before left h. h;
}

-- ---- causes

any_append : (test : Event → Bool) (xs ys : List Event) → list_any test xs ≡ true → list_any test (xs ++ ys) ≡ true
any_append test [] ys h = absurd cc
any_append test (x ∷ xs) ys h = any_first (test x) (list_any test xs) (list_any test (xs ++ ys)) h (any_append test xs ys)
  where
    any_first : (b c d : Bool) → (b || c) ≡ true → (c ≡ true → d ≡ true) → (b || d) ≡ true
    any_first true c d h f = refl
    any_first false c d h f = f h

any_last : (test : Event → Bool) (xs : List Event) (x : Event) → test x ≡ true → list_any test (xs ++ x ∷ []) ≡ true
any_last test [] x h = rw h
any_last test (y ∷ xs) x h = or_right (test y) (list_any test (xs ++ x ∷ [])) (any_last test xs x h)
  where
    or_right : (b c : Bool) → c ≡ true → (b || c) ≡ true
    or_right true c h = refl
    or_right false c h = h

same : (why : Failure) → same_failure why why ≡ true
same WriteFault = refl
same ReadFault = refl
same Misread = refl

-- The end of a plan that is being left is known by an event that tells of its cause. No end that is known is that of a plan that is done.
abbrev pub IsLeft : Option End → List Event → Type 0
IsLeft None events = Unit {0}
IsLeft (Some end.Done) events = ⊥
IsLeft (Some (end.Gone page why)) events = IsCause (end.Gone page why) events

left_more : (how : Option End) (events more : List Event) → IsLeft how events → IsLeft how (events ++ more)
left_more None events more h = tt
left_more (Some end.Done) events more h = h
left_more (Some (end.Gone page why)) events more h = any_append (is_failure why) events more h

left_now : (why : Failure) (called : Option ℕ) (events : List Event) (e : Event) → is_failure why e ≡ true
    → IsLeft (option_map (λ page. end.Gone page why) called) (events ++ e ∷ [])
left_now why None events e h = tt
left_now why (Some page) events e h = any_last (is_failure why) events e h

pub cause_more : (how : End) (first last : Event) (events : List Event) → IsCause how events
    → IsCause how (first ∷ (events ++ last ∷ []))
cause_more end.Done first last events h = tt
cause_more (end.Gone page why) first last events h =
    or_right (is_failure why first) (list_any (is_failure why) (events ++ last ∷ []))
    (any_append (is_failure why) events (last ∷ []) h)
  where
    or_right : (b c : Bool) → c ≡ true → (b || c) ≡ true
    or_right true c h = refl
    or_right false c h = h

-- ---- the note

-- What the note is after an event: of a plan's end, that end, or as it was; else as it was.
abbrev pub Noted : (was : Option End) → Option Event → (old new : Option End) → Type 0
Noted was (Some (Step (move.Finish w) (reply.Finished ending.Done))) old new = (new ≡ Some end.Done) ⊎ (new ≡ old)
Noted was (Some (Step (move.Finish w) (reply.Finished ending.Gone))) old new =
    MatchOption was (new ≡ old) (λ how. (new ≡ Some how) ⊎ (new ≡ old))
Noted was event old new = new ≡ old

module _ {W : Type 0} (k : Work.Ghosts (Ending W)) (own : Work.Ghosts W) (noting : IsNoting k own) (e f : Ending W) where
  of_work : f ≡ e → f.work ≡ e.work
  of_work h = ap (λ (x : Ending W). x.work) h

  of_note : f ≡ e → f.end ≡ e.end
  of_note h = ap (λ (x : Ending W). x.end) h

  -- ---- what the work is asked

  given_page : (slot : ℕ) (kind : Kind) (region first count page : ℕ)
      → (k.page_into_gives e slot kind region first count page f ⊎ k.page_gives e region first count page f)
      → (own.page_into_gives e.work slot kind region first count page f.work ⊎ own.page_gives e.work region first count page f.work)
      × (f.end ≡ e.end)
  given_page slot kind region first count page (inl h) =
      let given = noting.places e f slot kind region first count page h in (inl given.0, given.1)
  given_page slot kind region first count page (inr h) =
      let given = noting.pages e f region first count page h in (inr given.0, given.1)

  consults_page : (layout : Geometry) (x : Session) (page : ℕ) → ConsultsPage k layout e x page f
      → ConsultsPage own layout e.work x page f.work × (f.end ≡ e.end)
  consults_page layout x page (slot, region, extent, is, at, h) =
      let given = given_page slot (kind_of x.ask) region extent.first extent.count page h in
      ((slot, region, extent, is, at, given.0), given.1)

  pub consults_own : (layout : Geometry) (asked : Request) → Consults k layout e asked f
      → Consults own layout e.work asked f.work × (f.end ≡ e.end)
  consults_own layout (request.Take chair) h = (of_work h, of_note h)
  consults_own layout (request.Fix x page) h = consults_page layout x page h
  consults_own layout (request.Join x page) h = consults_page layout x page h
  consults_own layout (request.Unfix x g) h = (of_work h, of_note h)
  consults_own layout (request.Scatter x g) h = (of_work h, of_note h)
  consults_own layout (request.LatchShared x g) h = (of_work h, of_note h)
  consults_own layout (request.LatchExclusive x g) h = (of_work h, of_note h)
  consults_own layout (request.UnlatchShared x g) h = (of_work h, of_note h)
  consults_own layout (request.UnlatchExclusive x g) h = (of_work h, of_note h)
  consults_own layout (request.Choose x branch) h = (let given = noting.branches e f h.0 branch h.2 in ((h.0, h.1, given.0), given.1))
  consults_own layout (request.Finish x) h = (of_work h, of_note h)
  consults_own layout (request.End x) h = (of_work h, of_note h)
  consults_own layout (request.GiveBack x g) h = (of_work h, of_note h)
  consults_own layout (request.Answer returned) h = (of_work h, of_note h)
  consults_own layout (request.AnswerJoin returned) h = (of_work h, of_note h)
  consults_own layout (request.Flush page) h = (of_work h, of_note h)
  consults_own layout (request.FlushNext number) h = (of_work h, of_note h)

  -- ---- what the work is lent

  reworks_at : (places places' : List (Option Guard)) (off : Option ℕ)
      → MatchOption off ((f ≡ e) × (places' ≡ places)) (λ n. Reworks k n e places places' f ⊎ ((f ≡ e) × (places' ≡ places)))
      → MatchOption off ((f.work ≡ e.work) × (places' ≡ places))
      (λ n. Reworks own n e.work places places' f.work ⊎ ((f.work ≡ e.work) × (places' ≡ places)))
      × (f.end ≡ e.end)
  reworks_at places places' None h = ((of_work h.0, h.1), of_note h.0)
  reworks_at places places' (Some n) (inl h) =
      let given = noting.reworked e f n (lent_in places) (lent_in places') h.left in
      (inl (record { bodies = h.bodies; left = given.0 }), given.1)
  reworks_at places places' (Some n) (inr h) = (inr (of_work h.0, h.1), of_note h.0)

  pub reworks_own : (stage : Stage) (places places' : List (Option Guard)) → ReworksIf k stage e places places' f
      → ReworksIf own stage e.work places places' f.work × (f.end ≡ e.end)
  reworks_own stage places places' h = reworks_at places places' (off_next stage places) h

  -- ---- what the work does with a page

  module _ {S : Type 0} (s : Site.Ghosts S) (site : S) (room : ℕ) where
    reach_own : (reach all : ℕ) → (k.reach_gives e reach ⊎ (reach ≡ all)) → (own.reach_gives e.work reach ⊎ (reach ≡ all))
    reach_own reach all (inl h) = inl (noting.reaches e reach h)
    reach_own reach all (inr h) = inr h

    looks_own : (g : ReadGuard) (turned : Turned) → LooksAt s k site room g e turned f
        → LooksAt s own site room g e.work turned f.work
    looks_own g turned h = record {
      reach = h.reach;
      reaches = reach_own h.reach _ h.reaches;
      before = h.before;
      asked = h.asked;
      shown = h.shown;
      bytes = h.bytes;
      given = h.given;
      turned_is = h.turned_is;
      seen = λ is. (noting.sees e f g.page g.mark h.bytes (h.seen is)).0;
      unseen = λ is. of_work (h.unseen is);
    }

    looked_note : (g : ReadGuard) (turned : Turned) (h : LooksAt s k site room g e turned f) (b : Bool)
        → is_shown g h.shown h.bytes ≡ b → f.end ≡ e.end
    looked_note g turned h true is = (noting.sees e f g.page g.mark h.bytes (h.seen is)).1
    looked_note g turned h false is = of_note (h.unseen is)

    pub uses_own : (out : BookAnswer) (turned : Turned) (after : BookAnswer) → Uses s k site room e out turned after f
        → Uses s own site room e.work out turned after f.work × (f.end ≡ e.end)
    uses_own (answer.Acts x) turned after h = ((h.0, h.1, of_work h.2), of_note h.2)
    uses_own (answer.Idle c) turned after h = ((h.0, h.1, of_work h.2), of_note h.2)
    uses_own (answer.Leaves x) turned after h = ((h.0, h.1, of_work h.2), of_note h.2)
    uses_own (answer.Pinned x g) turned after h = ((h.0, h.1, of_work h.2), of_note h.2)
    uses_own (answer.Opened x g) turned after h = ((h.0, h.1, of_work h.2), of_note h.2)
    uses_own (answer.Joined x) turned after h = ((h.0, h.1, of_work h.2), of_note h.2)
    uses_own (answer.Shared x g) turned after h = ((looks_own g turned h.0, h.1), looked_note g turned h.0 (is_shown g h.0.shown h.0.bytes) refl)
    uses_own (answer.Exclusive x g) turned after h =
        let c = h.0 in
        let given = noting.changes e f g.page (body_of g.image) c.body c.left in
        ((record { body = c.body; left = given.0; long = c.long; stays = c.stays }, h.1), given.1)
    uses_own (answer.Away errand) turned after h = ((h.0, h.1, of_work h.2), of_note h.2)
    uses_own (answer.Flushed clean) turned after h = ((h.0, h.1, of_work h.2), of_note h.2)
    uses_own (answer.No back why) turned after h = ((h.0, h.1, of_work h.2), of_note h.2)

  -- ---- what the work is told

  module _ (called : Option ℕ) (was now : Option End) where
    pub record Told (event : Option Event) : Type 0 where
      pub tells : Tells own called e.work was event f.work now
      pub note : Noted was event e.end f.end
      pub left : (events : List Event) → IsLeft was events → IsLeft now (events ++ events_in event)

    kept : now ≡ was → (events more : List Event) → IsLeft was events → IsLeft now (events ++ more)
    kept is events more h = subst (λ (o : Option End). IsLeft o (events ++ more)) (sym is) (left_more was events more h)

    forgotten : now ≡ None → (events : List Event) → IsLeft now events
    forgotten is events = subst (λ (o : Option End). IsLeft o events) (sym is) tt

    still : (event : Event) → Tells own called e.work was (Some event) f.work now → Noted was (Some event) e.end f.end → now ≡ was
        → Told (Some event)
    still event tells note is = record {
      tells = tells;
      note = note;
      left = λ events h. kept is events (event ∷ []) h;
    }

    taken : (v plan : ℕ) → Tells k called e was (Some (Step (move.Take v) (reply.Taken plan))) f now
        → Told (Some (Step (move.Take v) (reply.Taken plan)))
    taken v plan (inl h, is) =
        let given = noting.begun e f plan h in
        record { tells = (given.0, is); note = given.1; left = λ events _. forgotten is _ }
    taken v plan (inr h, is) = record { tells = (inr (of_work h), is); note = of_note h; left = λ events _. forgotten is _ }

    failed : (event : Event) (why : Failure) → is_failure why event ≡ true → now ≡ option_map (λ page. end.Gone page why) called
        → (events : List Event) → IsLeft now (events ++ event ∷ [])
    failed event why fails is events =
        subst (λ (o : Option End). IsLeft o (events ++ event ∷ [])) (sym is) (left_now why called events event fails)

    read_failed : (v : ℕ) (came : _) (why : Failure) → Tells k called e was (Some (Step (move.ReadDone v came) (reply.Failed why))) f now
        → Told (Some (Step (move.ReadDone v came) (reply.Failed why)))
    read_failed v came why h = record {
      tells = (of_work h.0, h.1);
      note = of_note h.0;
      left = λ events _. failed (Step (move.ReadDone v came) (reply.Failed why)) why (same why) h.1 events;
    }

    write_failed : (v : ℕ) (ok : Bool) (why : Failure) → Tells k called e was (Some (Step (move.WriteDone v ok) (reply.Failed why))) f now
        → Told (Some (Step (move.WriteDone v ok) (reply.Failed why)))
    write_failed v ok why h = record {
      tells = (of_work h.0, h.1);
      note = of_note h.0;
      left = λ events _. failed (Step (move.WriteDone v ok) (reply.Failed why)) why (same why) h.1 events;
    }

    finished : (v : ℕ) → Tells k called e was (Some (Step (move.Finish v) (reply.Finished ending.Done))) f now
        → Told (Some (Step (move.Finish v) (reply.Finished ending.Done)))
    finished v (inl h, is) =
        let given = noting.ended e f end.Done h in
        record { tells = (inr given.0, is); note = inl given.1; left = λ events _. forgotten is _ }
    finished v (inr h, is) = record { tells = (inr (of_work h), is); note = inr (of_note h); left = λ events _. forgotten is _ }

    told_end : (o : Option End) → MatchOption o (f ≡ e) (λ how. k.ended_leaves e how f ⊎ (f ≡ e))
        → MatchOption o (f.work ≡ e.work) (λ how. own.ended_leaves e.work how f.work ⊎ (f.work ≡ e.work))
        × MatchOption o (f.end ≡ e.end) (λ how. (f.end ≡ Some how) ⊎ (f.end ≡ e.end))
    told_end None h = (of_work h, of_note h)
    told_end (Some how) (inl h) = let given = noting.ended e f how h in (inr given.0, inl given.1)
    told_end (Some how) (inr h) = (inr (of_work h), inr (of_note h))

    left_plan : (v : ℕ) → Tells k called e was (Some (Step (move.Finish v) (reply.Finished ending.Gone))) f now
        → Told (Some (Step (move.Finish v) (reply.Finished ending.Gone)))
    left_plan v h =
        let given = told_end was h.0 in
        record { tells = (given.0, h.1); note = given.1; left = λ events _. forgotten h.1 _ }

    told_step : (did : Move) (out : Reply) → TellsStep k called e was did out f now → Told (Some (Step did out))
    told_step (move.Take v) (reply.Taken plan) h = taken v plan h
    told_step (move.Take v) (reply.Hit frame mark) h = still (Step (move.Take v) (reply.Hit frame mark)) (of_work h.0, h.1) (of_note h.0) h.1
    told_step (move.Take v) (reply.MustRead frame) h = still (Step (move.Take v) (reply.MustRead frame)) (of_work h.0, h.1) (of_note h.0) h.1
    told_step (move.Take v) (reply.MustWrite frame victim) h = still (Step (move.Take v) (reply.MustWrite frame victim)) (of_work h.0, h.1) (of_note h.0) h.1
    told_step (move.Take v) (reply.Failed why) h = still (Step (move.Take v) (reply.Failed why)) (of_work h.0, h.1) (of_note h.0) h.1
    told_step (move.Take v) (reply.Loaded mark) h = still (Step (move.Take v) (reply.Loaded mark)) (of_work h.0, h.1) (of_note h.0) h.1
    told_step (move.Take v) reply.Did h = still (Step (move.Take v) reply.Did) (of_work h.0, h.1) (of_note h.0) h.1
    told_step (move.Take v) (reply.Latched mark) h = still (Step (move.Take v) (reply.Latched mark)) (of_work h.0, h.1) (of_note h.0) h.1
    told_step (move.Take v) (reply.Unlatched mark) h = still (Step (move.Take v) (reply.Unlatched mark)) (of_work h.0, h.1) (of_note h.0) h.1
    told_step (move.Take v) (reply.Finished ending.Done) h = still (Step (move.Take v) (reply.Finished ending.Done)) (of_work h.0, h.1) (of_note h.0) h.1
    told_step (move.Take v) (reply.Finished ending.Gone) h = still (Step (move.Take v) (reply.Finished ending.Gone)) (of_work h.0, h.1) (of_note h.0) h.1
    told_step (move.Take v) (reply.Flushing mark) h = still (Step (move.Take v) (reply.Flushing mark)) (of_work h.0, h.1) (of_note h.0) h.1
    told_step (move.Take v) (reply.Flushed clean) h = still (Step (move.Take v) (reply.Flushed clean)) (of_work h.0, h.1) (of_note h.0) h.1
    told_step (move.Take v) (reply.NotNow delay) h = still (Step (move.Take v) (reply.NotNow delay)) (of_work h.0, h.1) (of_note h.0) h.1
    told_step (move.Take v) (reply.OffPlan cause) h = still (Step (move.Take v) (reply.OffPlan cause)) (of_work h.0, h.1) (of_note h.0) h.1
    told_step (move.Fix v page) out h = still (Step (move.Fix v page) out) (of_work h.0, h.1) (of_note h.0) h.1
    told_step (move.WriteDone v ok) (reply.Taken plan) h = still (Step (move.WriteDone v ok) (reply.Taken plan)) (of_work h.0, h.1) (of_note h.0) h.1
    told_step (move.WriteDone v ok) (reply.Hit frame mark) h = still (Step (move.WriteDone v ok) (reply.Hit frame mark)) (of_work h.0, h.1) (of_note h.0) h.1
    told_step (move.WriteDone v ok) (reply.MustRead frame) h = still (Step (move.WriteDone v ok) (reply.MustRead frame)) (of_work h.0, h.1) (of_note h.0) h.1
    told_step (move.WriteDone v ok) (reply.MustWrite frame victim) h = still (Step (move.WriteDone v ok) (reply.MustWrite frame victim)) (of_work h.0, h.1) (of_note h.0) h.1
    told_step (move.WriteDone v ok) (reply.Failed why) h = write_failed v ok why h
    told_step (move.WriteDone v ok) (reply.Loaded mark) h = still (Step (move.WriteDone v ok) (reply.Loaded mark)) (of_work h.0, h.1) (of_note h.0) h.1
    told_step (move.WriteDone v ok) reply.Did h = still (Step (move.WriteDone v ok) reply.Did) (of_work h.0, h.1) (of_note h.0) h.1
    told_step (move.WriteDone v ok) (reply.Latched mark) h = still (Step (move.WriteDone v ok) (reply.Latched mark)) (of_work h.0, h.1) (of_note h.0) h.1
    told_step (move.WriteDone v ok) (reply.Unlatched mark) h = still (Step (move.WriteDone v ok) (reply.Unlatched mark)) (of_work h.0, h.1) (of_note h.0) h.1
    told_step (move.WriteDone v ok) (reply.Finished ending.Done) h = still (Step (move.WriteDone v ok) (reply.Finished ending.Done)) (of_work h.0, h.1) (of_note h.0) h.1
    told_step (move.WriteDone v ok) (reply.Finished ending.Gone) h = still (Step (move.WriteDone v ok) (reply.Finished ending.Gone)) (of_work h.0, h.1) (of_note h.0) h.1
    told_step (move.WriteDone v ok) (reply.Flushing mark) h = still (Step (move.WriteDone v ok) (reply.Flushing mark)) (of_work h.0, h.1) (of_note h.0) h.1
    told_step (move.WriteDone v ok) (reply.Flushed clean) h = still (Step (move.WriteDone v ok) (reply.Flushed clean)) (of_work h.0, h.1) (of_note h.0) h.1
    told_step (move.WriteDone v ok) (reply.NotNow delay) h = still (Step (move.WriteDone v ok) (reply.NotNow delay)) (of_work h.0, h.1) (of_note h.0) h.1
    told_step (move.WriteDone v ok) (reply.OffPlan cause) h = still (Step (move.WriteDone v ok) (reply.OffPlan cause)) (of_work h.0, h.1) (of_note h.0) h.1
    told_step (move.ReadDone v came) (reply.Taken plan) h = still (Step (move.ReadDone v came) (reply.Taken plan)) (of_work h.0, h.1) (of_note h.0) h.1
    told_step (move.ReadDone v came) (reply.Hit frame mark) h = still (Step (move.ReadDone v came) (reply.Hit frame mark)) (of_work h.0, h.1) (of_note h.0) h.1
    told_step (move.ReadDone v came) (reply.MustRead frame) h = still (Step (move.ReadDone v came) (reply.MustRead frame)) (of_work h.0, h.1) (of_note h.0) h.1
    told_step (move.ReadDone v came) (reply.MustWrite frame victim) h = still (Step (move.ReadDone v came) (reply.MustWrite frame victim)) (of_work h.0, h.1) (of_note h.0) h.1
    told_step (move.ReadDone v came) (reply.Failed why) h = read_failed v came why h
    told_step (move.ReadDone v came) (reply.Loaded mark) h = still (Step (move.ReadDone v came) (reply.Loaded mark)) (of_work h.0, h.1) (of_note h.0) h.1
    told_step (move.ReadDone v came) reply.Did h = still (Step (move.ReadDone v came) reply.Did) (of_work h.0, h.1) (of_note h.0) h.1
    told_step (move.ReadDone v came) (reply.Latched mark) h = still (Step (move.ReadDone v came) (reply.Latched mark)) (of_work h.0, h.1) (of_note h.0) h.1
    told_step (move.ReadDone v came) (reply.Unlatched mark) h = still (Step (move.ReadDone v came) (reply.Unlatched mark)) (of_work h.0, h.1) (of_note h.0) h.1
    told_step (move.ReadDone v came) (reply.Finished ending.Done) h = still (Step (move.ReadDone v came) (reply.Finished ending.Done)) (of_work h.0, h.1) (of_note h.0) h.1
    told_step (move.ReadDone v came) (reply.Finished ending.Gone) h = still (Step (move.ReadDone v came) (reply.Finished ending.Gone)) (of_work h.0, h.1) (of_note h.0) h.1
    told_step (move.ReadDone v came) (reply.Flushing mark) h = still (Step (move.ReadDone v came) (reply.Flushing mark)) (of_work h.0, h.1) (of_note h.0) h.1
    told_step (move.ReadDone v came) (reply.Flushed clean) h = still (Step (move.ReadDone v came) (reply.Flushed clean)) (of_work h.0, h.1) (of_note h.0) h.1
    told_step (move.ReadDone v came) (reply.NotNow delay) h = still (Step (move.ReadDone v came) (reply.NotNow delay)) (of_work h.0, h.1) (of_note h.0) h.1
    told_step (move.ReadDone v came) (reply.OffPlan cause) h = still (Step (move.ReadDone v came) (reply.OffPlan cause)) (of_work h.0, h.1) (of_note h.0) h.1
    told_step (move.Unfix v) out h = still (Step (move.Unfix v) out) (of_work h.0, h.1) (of_note h.0) h.1
    told_step (move.Latch v) out h = still (Step (move.Latch v) out) (of_work h.0, h.1) (of_note h.0) h.1
    told_step (move.Unlatch v) out h = still (Step (move.Unlatch v) out) (of_work h.0, h.1) (of_note h.0) h.1
    told_step (move.Choose v branch) out h = still (Step (move.Choose v branch) out) (of_work h.0, h.1) (of_note h.0) h.1
    told_step (move.Unwind v slot) out h = still (Step (move.Unwind v slot) out) (of_work h.0, h.1) (of_note h.0) h.1
    told_step (move.Finish v) (reply.Taken plan) h = still (Step (move.Finish v) (reply.Taken plan)) (of_work h.0, h.1) (of_note h.0) h.1
    told_step (move.Finish v) (reply.Hit frame mark) h = still (Step (move.Finish v) (reply.Hit frame mark)) (of_work h.0, h.1) (of_note h.0) h.1
    told_step (move.Finish v) (reply.MustRead frame) h = still (Step (move.Finish v) (reply.MustRead frame)) (of_work h.0, h.1) (of_note h.0) h.1
    told_step (move.Finish v) (reply.MustWrite frame victim) h = still (Step (move.Finish v) (reply.MustWrite frame victim)) (of_work h.0, h.1) (of_note h.0) h.1
    told_step (move.Finish v) (reply.Failed why) h = still (Step (move.Finish v) (reply.Failed why)) (of_work h.0, h.1) (of_note h.0) h.1
    told_step (move.Finish v) (reply.Loaded mark) h = still (Step (move.Finish v) (reply.Loaded mark)) (of_work h.0, h.1) (of_note h.0) h.1
    told_step (move.Finish v) reply.Did h = still (Step (move.Finish v) reply.Did) (of_work h.0, h.1) (of_note h.0) h.1
    told_step (move.Finish v) (reply.Latched mark) h = still (Step (move.Finish v) (reply.Latched mark)) (of_work h.0, h.1) (of_note h.0) h.1
    told_step (move.Finish v) (reply.Unlatched mark) h = still (Step (move.Finish v) (reply.Unlatched mark)) (of_work h.0, h.1) (of_note h.0) h.1
    told_step (move.Finish v) (reply.Finished ending.Done) h = finished v h
    told_step (move.Finish v) (reply.Finished ending.Gone) h = left_plan v h
    told_step (move.Finish v) (reply.Flushing mark) h = still (Step (move.Finish v) (reply.Flushing mark)) (of_work h.0, h.1) (of_note h.0) h.1
    told_step (move.Finish v) (reply.Flushed clean) h = still (Step (move.Finish v) (reply.Flushed clean)) (of_work h.0, h.1) (of_note h.0) h.1
    told_step (move.Finish v) (reply.NotNow delay) h = still (Step (move.Finish v) (reply.NotNow delay)) (of_work h.0, h.1) (of_note h.0) h.1
    told_step (move.Finish v) (reply.OffPlan cause) h = still (Step (move.Finish v) (reply.OffPlan cause)) (of_work h.0, h.1) (of_note h.0) h.1
    told_step (move.FlushBegin page) out h = still (Step (move.FlushBegin page) out) (of_work h.0, h.1) (of_note h.0) h.1
    told_step (move.FlushDone ok) out h = still (Step (move.FlushDone ok) out) (of_work h.0, h.1) (of_note h.0) h.1

    pub told_own : (event : Option Event) → Tells k called e was event f now → Told event
    told_own None h = record {
      tells = (of_work h.0, h.1);
      note = of_note h.0;
      left = λ events l. kept h.1 events [] l;
    }
    told_own (Some (Submit plan)) h = still (Submit plan) (of_work h.0, h.1) (of_note h.0) h.1
    told_own (Some (Step did out)) h = told_step did out h

-- ---- a turn

module _ {S D W : Type 0} (s : Site.Ghosts S) (d : Device.Ghosts D) (k : Work.Ghosts (Ending W)) (own : Work.Ghosts W)
    (noting : IsNoting k own) (is_logged : Bool) (old new : Worker S D) (e f : Ending W) (ends : Turned) where
  -- The works between, and what they note, as far as the turn doesn't end the plan.
  pub record Own (made : Makes s d k is_logged old e ends new f) : Type 0 where
    pub makes : Makes s d own is_logged old e.work ends new f.work
    pub untold : made.makes.used.end ≡ e.end
    pub told : Told k own noting made.makes.used f (page_called made.makes.asked) (end_of old) (end_of new) made.makes.response.event

  pub makes_own : (made : Makes s d k is_logged old e ends new f) → Own made
  makes_own made =
      let t = made.makes in
      let first = reworks_own k own noting e made.reworked old.hand.stage old.hand.guards made.lent made.reworks in
      let second = consults_own k own noting made.reworked t.between old.layout t.asked t.consults in
      let third = uses_own k own noting t.between t.used s new.site _ t.response.answer ends t.after t.uses in
      let fourth = told_own k own noting t.used f (page_called t.asked) (end_of old) (end_of new) t.response.event t.tells in
      record {
        makes = record {
          lent = made.lent;
          reworked = made.reworked.work;
          reworks = first.0;
          makes = record {
            asked = t.asked;
            response = t.response;
            after = t.after;
            between = t.between.work;
            used = t.used.work;
            asks = t.asks;
            consults = second.0;
            own = t.own;
            finds = t.finds;
            leaves = t.leaves;
            given = t.given;
            fits = t.fits;
            log = t.log;
            uses = third.0;
            tells = fourth.tells;
            stage = t.stage;
            guards = t.guards;
          };
        };
        untold = third.1 ∙ (second.1 ∙ first.1);
        told = fourth;
      }
