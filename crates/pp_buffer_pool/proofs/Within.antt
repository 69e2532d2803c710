-- From the take of a plan to its end.
use Rattle.std.proofs.Common.{◌≡◌, ◌∙◌, ◌++◌, ◌≤◌, ◌<◌, ℕ, Bool, true, false, inl, inr, Option, Some, None, List, [], ◌∷◌, length}
use Rattle.std.proofs.Common.{refl, sym, ap, subst, arith, length-append}
use Rattle.std.specs.Prelude.{◌⊎◌, ◌&&◌, not, IfSome, MatchOption}
use Rattle.std.specs.Option.{is_some}
use Rattle.std.specs.List.{list_all}
use Rattle.std.proofs.lemmas.Bool.{false≢true}
use Rattle.pp_device.specs.declared.device.Device as Device
use Rattle.pp_model.specs.declared.moves.Move.{Move}
use Rattle.pp_model.specs.declared.moves.Move.TheVariants as move
use Rattle.pp_model.specs.declared.reply.Reply.{Reply}
use Rattle.pp_model.specs.declared.reply.Reply.TheVariants as reply
use Rattle.pp_model.specs.declared.reply.Ending.TheVariants as ending
use Rattle.pp_model.specs.declared.event.Event.{Event}
use Rattle.pp_model.specs.declared.event.Event.TheVariants.{Step}
use Rattle.pp_vault.specs.declared.tokens.Chair.{Chair}
use Rattle.pp_vault.specs.declared.stage.Stage.{Stage}
use Rattle.pp_vault.specs.declared.stage.Stage.TheVariants as stage
use Rattle.pp_vault.specs.Stages.{is_chair, stage_worker}
use Rattle.pp_pool.specs.declared.request.Request.{Request}
use Rattle.pp_pool.specs.declared.request.Request.TheVariants as request
use Rattle.pp_pool.specs.declared.response.Response.{Response}
use Rattle.pp_pool.specs.declared.work.Work as Work
use Rattle.pp_pool.specs.declared.work.End.{End}
use Rattle.pp_pool.specs.declared.work.End.TheVariants as end
use Rattle.pp_pool.specs.declared.turned.Turned.TheVariants.{Done, NoMemory}
use Rattle.pp_pool.specs.declared.worker.Worker.{Worker}
use Rattle.pp_pool.specs.Performing.{is_no}
use Rattle.pp_pool.specs.Requests.{events_in}
use Rattle.pp_pool.specs.Turns.{Turns, TurnIs, TurnsOver, Waits, end_of, page_called}
use Rattle.pp_buffer_pool.specs.declared.ending.Ending.{Ending}
use Rattle.pp_buffer_pool.specs.Sites.{call_site, GivesCall, GivesTake, TakesAtOnce}
use Rattle.pp_buffer_pool.specs.Executing.{is_within, AreOfOnePlan, IsCause, ending_of, TurnsDone, RunsPlan}
use Rattle.pp_buffer_pool.proofs.Requests.{asker, is_end, is_take, asker_is, no_take, take_is, within_of, finish_of, Does, does}
use Rattle.pp_buffer_pool.proofs.Requests.{done_is_yes, never_no_memory, chair_is, worker_is, tokens_of, end_idles}
use Rattle.pp_buffer_pool.specs.Running.{noted_calls, Rounds, Looped}
use Rattle.pp_buffer_pool.proofs.Noting.{IsNoting, noted, IsLeft, cause_more, Noted, Own, makes_own}

-- ---- the site's plan

-- A site that has no plan to take has none after any request.
stays_none : (asked : Request) (response : Response) (after : Option ℕ) → GivesCall None asked response after → after ≡ None
stays_none (request.Take chair) response after h = h.1
stays_none (request.Fix x page) response after h = h.1
stays_none (request.Join x page) response after h = h.1
stays_none (request.Unfix x g) response after h = h.1
stays_none (request.Scatter x g) response after h = h.1
stays_none (request.LatchShared x g) response after h = h.1
stays_none (request.LatchExclusive x g) response after h = h.1
stays_none (request.UnlatchShared x g) response after h = h.1
stays_none (request.UnlatchExclusive x g) response after h = h.1
stays_none (request.Choose x branch) response after h = h.1
stays_none (request.Finish x) response after h = h.1
stays_none (request.End x) response after h = h.1
stays_none (request.GiveBack x g) response after h = h.1
stays_none (request.Answer returned) response after h = h.1
stays_none (request.AnswerJoin returned) response after h = h.1
stays_none (request.Flush page) response after h = h.1
stays_none (request.FlushNext number) response after h = h.1

-- A take where there is no plan is refused.
refused_none : (chair : Chair) (response : Response) → GivesTake None chair response → is_no response.answer ≡ true
refused_none chair response h = ap (λ (r : Response). is_no r.answer) h

-- A take that was done took the plan.
taken_some : (place : ℕ) (chair : Chair) (response : Response) → GivesTake (Some place) chair response
    → is_no response.answer ≡ false → (number : ℕ) × TakesAtOnce place number chair response
taken_some place chair response (fits, inl h) went = h
taken_some place chair response (fits, inr none) went =
    absurd (false≢true (sym (ap is_some none) ∙ (fits.done ∙ ap not went)))

-- ---- a worker in its plan, and one whose plan is over

module _ {D W : Type 0} (w number : ℕ) where
  -- It has taken the plan, and makes its moves.
  pub record IsWithin (x : Worker (Option ℕ) D) (e : Ending W) : Type 0 where
    pub site : x.site ≡ None
    pub busy : is_chair x.hand.stage ≡ false
    pub worker : stage_worker x.hand.stage ≡ Some w
    pub within : List Event
    pub log : x.log.items ≡ Step (move.Take w) (reply.Taken number) ∷ within
    pub own : list_all (is_within w) within ≡ true
    pub untold : e.end ≡ None
    pub left : IsLeft (end_of x) within

  -- It is idle again. What was noted of the plan's end is what the log tells.
  pub record IsOver (x : Worker (Option ℕ) D) (e : Ending W) : Type 0 where
    pub site : x.site ≡ None
    pub home : is_chair x.hand.stage ≡ true
    pub ended : IfSome e.end (λ how. AreOfOnePlan w number (ending_of how) x.log.items × IsCause how x.log.items)

-- ---- the note at the end

module _ (w number : ℕ) (within : List Event) (own : list_all (is_within w) within ≡ true) where
  abbrev log_with : Reply → List Event
  log_with out = Step (move.Take w) (reply.Taken number) ∷ (within ++ Step (move.Finish w) out ∷ [])

  abbrev IsTold : Reply → Option End → Type 0
  IsTold out known = IfSome known (λ how. AreOfOnePlan w number (ending_of how) (log_with out) × IsCause how (log_with out))

  untold : (out : Reply) (known : Option End) → known ≡ None → IsTold out known
  untold out known is = subst (λ (o : Option End). IsTold out o) (sym is) tt

  told_done : IsTold (reply.Finished ending.Done) (Some end.Done)
  told_done = (record { within = within; own = own; all = refl }, tt)

  told_gone : (page : ℕ) (why : _) → IsCause (end.Gone page why) within → IsTold (reply.Finished ending.Gone) (Some (end.Gone page why))
  told_gone page why cause = (
    record { within = within; own = own; all = refl },
    cause_more (end.Gone page why) (Step (move.Take w) (reply.Taken number)) (Step (move.Finish w) (reply.Finished ending.Gone)) within cause,
  )

  left_with : (was known : Option End) → IsLeft was within → MatchOption was (known ≡ None) (λ how. (known ≡ Some how) ⊎ (known ≡ None))
      → IsTold (reply.Finished ending.Gone) known
  left_with None known left is = untold (reply.Finished ending.Gone) known is
  left_with (Some end.Done) known left is = absurd left
  left_with (Some (end.Gone page why)) known left (inl is) =
      subst (λ (o : Option End). IsTold (reply.Finished ending.Gone) o) (sym is) (told_gone page why left)
  left_with (Some (end.Gone page why)) known left (inr is) = untold (reply.Finished ending.Gone) known is

  told_at : (out : Reply) (was known : Option End) → IsLeft was within → Noted was (Some (Step (move.Finish w) out)) None known
      → IsTold out known
  told_at (reply.Finished ending.Done) was known left (inl is) =
      subst (λ (o : Option End). IsTold (reply.Finished ending.Done) o) (sym is) told_done
  told_at (reply.Finished ending.Done) was known left (inr is) = untold (reply.Finished ending.Done) known is
  told_at (reply.Finished ending.Gone) was known left is = left_with was known left is
  told_at (reply.Taken plan) was known left is = untold (reply.Taken plan) known is
  told_at (reply.Hit frame mark) was known left is = untold (reply.Hit frame mark) known is
  told_at (reply.MustRead frame) was known left is = untold (reply.MustRead frame) known is
  told_at (reply.MustWrite frame victim) was known left is = untold (reply.MustWrite frame victim) known is
  told_at (reply.Failed why) was known left is = untold (reply.Failed why) known is
  told_at (reply.Loaded mark) was known left is = untold (reply.Loaded mark) known is
  told_at reply.Did was known left is = untold reply.Did known is
  told_at (reply.Latched mark) was known left is = untold (reply.Latched mark) known is
  told_at (reply.Unlatched mark) was known left is = untold (reply.Unlatched mark) known is
  told_at (reply.Flushing mark) was known left is = untold (reply.Flushing mark) known is
  told_at (reply.Flushed clean) was known left is = untold (reply.Flushed clean) known is
  told_at (reply.NotNow delay) was known left is = untold (reply.NotNow delay) known is
  told_at (reply.OffPlan cause) was known left is = untold (reply.OffPlan cause) known is

-- No move within a plan changes the note.
within_note : (w : ℕ) (was : Option End) (did : Move) (out : Reply) (old new : Option End) → is_within w (Step did out) ≡ true
    → Noted was (Some (Step did out)) old new → new ≡ old
within_note w was (move.Take v) out old new is h = absurd (false≢true is)
within_note w was (move.Finish v) out old new is h = absurd (false≢true is)
within_note w was (move.Fix v page) out old new is h = h
within_note w was (move.WriteDone v ok) out old new is h = h
within_note w was (move.ReadDone v came) out old new is h = h
within_note w was (move.Unfix v) out old new is h = h
within_note w was (move.Latch v) out old new is h = h
within_note w was (move.Unlatch v) out old new is h = h
within_note w was (move.Choose v branch) out old new is h = h
within_note w was (move.Unwind v slot) out old new is h = h
within_note w was (move.FlushBegin page) out old new is h = h
within_note w was (move.FlushDone ok) out old new is h = h

all_on : (test : Event → Bool) (xs : List Event) (x : Event) → list_all test xs ≡ true → test x ≡ true
    → list_all test (xs ++ x ∷ []) ≡ true
all_on test [] x h is = rw is
all_on test (y ∷ xs) x h is = all_first (test y) (list_all test xs) (list_all test (xs ++ x ∷ [])) h (λ rest. all_on test xs x rest is)
  where
    all_first : (b c d : Bool) → (b && c) ≡ true → (c ≡ true → d ≡ true) → (b && d) ≡ true
    all_first true c d h f = f h
    all_first false c d h f = absurd (false≢true h)

-- ---- a plan under way

module _ {D W : Type 0} (d : Device.Ghosts D) (own : Work.Ghosts W) where
  -- Turns that are done lead from one to the other.
  pub record Path (x : Worker (Option ℕ) D) (v : W) (y : Worker (Option ℕ) D) (u : W) : Type 0 where
    pub over : List (Worker (Option ℕ) D × W)
    pub turns : TurnsDone call_site d own x v over y u

  -- From this worker and this work on the plan at this place was taken, and turns have led so far.
  pub record IsUnderWay (place : ℕ) (first : Worker (Option ℕ) D) (before : W) (x : Worker (Option ℕ) D) (e : Ending W) : Type 0 where
    pub chair : Chair
    pub idle : first.hand.stage ≡ stage.Idle chair
    pub has : first.site ≡ Some place
    pub number : ℕ
    pub response : Response
    pub takes : TakesAtOnce place number chair response
    pub path : Path first before x e.work
    pub state : IsWithin chair.worker number x e ⊎ IsOver chair.worker number x e

  pub runs : (place : ℕ) (first : Worker (Option ℕ) D) (before : W) (x : Worker (Option ℕ) D) (e : Ending W) → first.log.items ≡ []
      → is_chair x.hand.stage ≡ true → IsUnderWay place first before x e
      → IfSome e.end (λ how. RunsPlan d own place first before how x e.work)
  runs place first before x e empty home h = runs_at h.state
    where
      made : (note : Option End)
          → IfSome note (λ how. AreOfOnePlan h.chair.worker h.number (ending_of how) x.log.items × IsCause how x.log.items)
          → IfSome note (λ how. RunsPlan d own place first before how x e.work)
      made None ended = tt
      made (Some how) ended = record {
        chair = h.chair;
        idle = h.idle;
        empty = empty;
        has_plan = h.has;
        number = h.number;
        response = h.response;
        takes = h.takes;
        over = h.path.over;
        turns = h.path.turns;
        events = ended.0;
        cause = ended.1;
        home = home;
      }

      runs_at : (IsWithin h.chair.worker h.number x e ⊎ IsOver h.chair.worker h.number x e)
          → IfSome e.end (λ how. RunsPlan d own place first before how x e.work)
      runs_at (inl within) = absurd (false≢true (sym within.busy ∙ home))
      runs_at (inr over) = made e.end over.ended

  -- Nothing was done; or the worker is busy, and where the site had a plan to take, that is under way.
  abbrev pub SoFar : (first : Worker (Option ℕ) D) (before : Ending W) (x : Worker (Option ℕ) D) (e : Ending W) → Type 0
  SoFar first before x e =
      ((x ≡ first) × (e ≡ before))
      ⊎ ((is_chair x.hand.stage ≡ false) × (0 < length x.log.items)
      × ((place : ℕ) → first.site ≡ Some place → IsUnderWay place first before.work x e))

-- ---- one turn

module _ {D W : Type 0} (d : Device.Ghosts D) (k : Work.Ghosts (Ending W)) (own : Work.Ghosts W) (noting : IsNoting k own) where
  module _ (x y : Worker (Option ℕ) D) (e f : Ending W) (made : Turns call_site d k x e Done y f) where
    went : is_no made.makes.response.answer ≡ false
    went = done_is_yes call_site k y.site _ made.makes.between made.makes.used made.makes.response.answer made.makes.after made.makes.uses

    done : Does made.makes.asked made.makes.response.event
    done = does made.makes.asked made.makes.response made.makes.fits went

    grown : (event : Event) → made.makes.response.event ≡ Some event → y.log.items ≡ x.log.items ++ event ∷ []
    grown event is = made.makes.log ∙ ap (λ (o : Option Event). x.log.items ++ events_in o) is

    owned : Own call_site d k own noting true x y e f Done made
    owned = makes_own call_site d k own noting true x y e f Done made

    home_is : is_chair y.hand.stage ≡ is_end made.makes.asked
    home_is =
        chair_is call_site k y.site _ made.makes.between made.makes.used Done made.makes.response.answer made.makes.after y.hand.stage went
        made.makes.uses made.makes.stage
        ∙ end_idles made.makes.asked made.makes.response.answer went made.makes.fits.tokens

    worker_at : (w : ℕ) → asker made.makes.asked ≡ Some w → stage_worker y.hand.stage ≡ Some w
    worker_at w is =
        worker_is call_site k y.site _ made.makes.between made.makes.used Done made.makes.response.answer made.makes.after y.hand.stage went
        made.makes.uses made.makes.stage
        ∙ (tokens_of made.makes.asked made.makes.response.answer went made.makes.fits.tokens ∙ is)

    -- No turn is done by an idle worker whose site has no plan.
    pub no_turn : x.site ≡ None → is_chair x.hand.stage ≡ true → ⊥
    no_turn none home = no_turn_at x.hand.stage refl home
      where
        no_turn_at : (s : Stage) → x.hand.stage ≡ s → is_chair s ≡ true → ⊥
        no_turn_at (stage.Idle chair) is home =
            let take = take_is d.read_gives d.write_leaves d.calls d.failures x.layout x.hand.stage chair x.device made.makes.asked y.device is made.makes.asks in
            let given : GivesCall None (request.Take chair) made.makes.response y.site =
            subst (λ (r : Request). GivesCall None r made.makes.response y.site) take
            (subst (λ (o : Option ℕ). GivesCall o made.makes.asked made.makes.response y.site) none made.makes.given) in
            false≢true (sym went ∙ refused_none chair made.makes.response given.0)
        no_turn_at (stage.In s) is home = false≢true home
        no_turn_at (stage.Out s) is home = false≢true home
        no_turn_at (stage.Back s) is home = false≢true home
        no_turn_at (stage.Leaving s) is home = false≢true home

    module _ (w number : ℕ) (h : IsWithin w number x e) where
      asker_at : asker made.makes.asked ≡ Some w
      asker_at = asker_is d.read_gives d.write_leaves d.calls d.failures x.layout x.hand.stage x.device made.makes.asked y.device made.makes.asks ∙ h.worker

      site_at : y.site ≡ None
      site_at =
          stays_none made.makes.asked made.makes.response y.site
          (subst (λ (o : Option ℕ). GivesCall o made.makes.asked made.makes.response y.site) h.site made.makes.given)

      not_take : is_take made.makes.asked ≡ false
      not_take = no_take d.read_gives d.write_leaves d.calls d.failures x.layout x.hand.stage x.device made.makes.asked y.device h.busy made.makes.asks

      note_at : (event : Event) → made.makes.response.event ≡ Some event → Noted (end_of x) (Some event) None f.end
      note_at event is =
          subst (λ (o : Option End). Noted (end_of x) (Some event) o f.end) (owned.untold ∙ h.untold)
          (subst (λ (o : Option Event). Noted (end_of x) o made.makes.used.end f.end) is owned.told.note)

      left_at : (event : Event) → made.makes.response.event ≡ Some event → IsLeft (end_of y) (h.within ++ event ∷ [])
      left_at event is =
          subst (λ (o : Option Event). IsLeft (end_of y) (h.within ++ events_in o)) is (owned.told.left h.within h.left)

      log_at : (event : Event) → made.makes.response.event ≡ Some event
          → y.log.items ≡ Step (move.Take w) (reply.Taken number) ∷ (h.within ++ event ∷ [])
      log_at event is = grown event is ∙ ap (λ (es : List Event). es ++ event ∷ []) h.log

      goes_within : is_end made.makes.asked ≡ false → IsWithin w number y f
      goes_within end =
          let event : Event = Step done.did done.out in
          let is_own = within_of w made.makes.asked done.did done.out (λ take. false≢true (sym not_take ∙ take)) end asker_at done.of in
          record {
            site = site_at;
            busy = home_is ∙ end;
            worker = worker_at w asker_at;
            within = h.within ++ event ∷ [];
            log = log_at event done.is;
            own = all_on (is_within w) h.within event h.own is_own;
            untold = within_note w (end_of x) done.did done.out None f.end is_own (note_at event done.is);
            left = left_at event done.is;
          }

      goes_home : is_end made.makes.asked ≡ true → IsOver w number y f
      goes_home end =
          let finish = finish_of w made.makes.asked done.did end asker_at done.of in
          let event : Event = Step (move.Finish w) done.out in
          let is : made.makes.response.event ≡ Some event = done.is ∙ ap (λ (m : Move). Some (Step m done.out)) finish in
          record {
            site = site_at;
            home = home_is ∙ end;
            ended =
                subst (λ (es : List Event). IfSome f.end (λ how. AreOfOnePlan w number (ending_of how) es × IsCause how es)) (sym (log_at event is))
                (told_at w number h.within h.own done.out (end_of x) f.end h.left (note_at event is));
          }

      by_end : (b : Bool) → is_end made.makes.asked ≡ b → IsWithin w number y f ⊎ IsOver w number y f
      by_end true is = inr (goes_home is)
      by_end false is = inl (goes_within is)

      pub goes : IsWithin w number y f ⊎ IsOver w number y f
      goes = by_end (is_end made.makes.asked) refl

    -- The first turn: the plan is taken.
    module _ (place : ℕ) (chair : Chair) (idle : x.hand.stage ≡ stage.Idle chair) (empty : x.log.items ≡ []) (has : x.site ≡ Some place)
        (untold : e.end ≡ None) where
      pub record Begins : Type 0 where
        pub number : ℕ
        pub takes : TakesAtOnce place number chair made.makes.response
        pub within : IsWithin chair.worker number y f

      take_asked : made.makes.asked ≡ request.Take chair
      take_asked = take_is d.read_gives d.write_leaves d.calls d.failures x.layout x.hand.stage chair x.device made.makes.asked y.device idle made.makes.asks

      given_take : GivesCall (Some place) (request.Take chair) made.makes.response y.site
      given_take =
          subst (λ (r : Request). GivesCall (Some place) r made.makes.response y.site) take_asked
          (subst (λ (o : Option ℕ). GivesCall o made.makes.asked made.makes.response y.site) has made.makes.given)

      pub begins : Begins
      begins =
          let taken = taken_some place chair made.makes.response given_take.0 went in
          let takes = taken.1 in
          let event : Event = Step (move.Take chair.worker) (reply.Taken taken.0) in
          let told = subst (λ (o : Option Event). Noted (end_of x) o made.makes.used.end f.end) takes.event owned.told.note in
          let tells =
          subst (λ (o : Option Event). Rattle.pp_pool.specs.Turns.Tells k (page_called made.makes.asked) made.makes.used (end_of x) o f (end_of y)) takes.event
          made.makes.tells in
          record {
            number = taken.0;
            takes = takes;
            within = record {
              site = given_take.1;
              busy = home_is ∙ ap is_end take_asked;
              worker = worker_at chair.worker (ap asker take_asked);
              within = [];
              log = grown event takes.event ∙ ap (λ (es : List Event). es ++ event ∷ []) empty;
              own = refl;
              untold = told ∙ (owned.untold ∙ untold);
              left = subst (λ (o : Option End). IsLeft o []) (sym tells.1) tt;
            };
          }

  -- ---- turn after turn

  done_turn : (x y : Worker (Option ℕ) D) (e f : Ending W) → TurnIs call_site d k x e Done y f → Turns call_site d k x e Done y f
  done_turn x y e f (inl (inl t)) = t
  done_turn x y e f (inl (inr t)) = let broken = t.broken in absurd cc
  done_turn x y e f (inr w) = absurd w.may

  -- After the plan is over no turn is done.
  stuck : (w number : ℕ) (x : Worker (Option ℕ) D) (e : Ending W) (over : List (Worker (Option ℕ) D × Ending W))
      (y : Worker (Option ℕ) D) (f : Ending W) → IsOver w number x e → TurnsOver call_site d k x e over Done y f → ⊥
  stuck w number x e [] y f h t = no_turn x y e f (done_turn x y e f t) h.site h.home
  stuck w number x e (mid ∷ rest) y f h t = no_turn x mid.0 e mid.1 (done_turn x mid.0 e mid.1 t.0) h.site h.home

  over_on : (w number : ℕ) (x : Worker (Option ℕ) D) (e : Ending W) (over : List (Worker (Option ℕ) D × Ending W))
      (y : Worker (Option ℕ) D) (f : Ending W) → TurnsOver call_site d k x e over Done y f
      → (IsWithin w number x e → IsWithin w number y f ⊎ IsOver w number y f)
      → (IsWithin w number x e ⊎ IsOver w number x e) → IsWithin w number y f ⊎ IsOver w number y f
  over_on w number x e over y f t on (inl h) = on h
  over_on w number x e over y f t on (inr h) = absurd (stuck w number x e over y f h t)

  pub over_goes : (w number : ℕ) (x : Worker (Option ℕ) D) (e : Ending W) (over : List (Worker (Option ℕ) D × Ending W))
      (y : Worker (Option ℕ) D) (f : Ending W) → IsWithin w number x e → TurnsOver call_site d k x e over Done y f
      → IsWithin w number y f ⊎ IsOver w number y f
  over_goes w number x e [] y f h t = goes x y e f (done_turn x y e f t) w number h
  over_goes w number x e (mid ∷ rest) y f h t =
      over_on w number mid.0 mid.1 rest y f t.1 (λ within. over_goes w number mid.0 mid.1 rest y f within t.1)
      (goes x mid.0 e mid.1 (done_turn x mid.0 e mid.1 t.0) w number h)

  pub still : (x : Worker (Option ℕ) D) (v : W) → Path d own x v x v
  still x v = record { over = []; turns = (refl, refl) }

  one_more : (x y z : Worker (Option ℕ) D) (v u t : W) → Turns call_site d own x v Done y u → Path d own y u z t → Path d own x v z t
  one_more x y z v u t turn path = record { over = (y, u) ∷ path.over; turns = (turn, path.turns) }

  path_of : (x : Worker (Option ℕ) D) (e : Ending W) (over : List (Worker (Option ℕ) D × Ending W)) (y : Worker (Option ℕ) D)
      (f : Ending W) → TurnsOver call_site d k x e over Done y f → Path d own x e.work y f.work
  path_of x e [] y f t =
      one_more x y y e.work f.work f.work (makes_own call_site d k own noting true x y e f Done (done_turn x y e f t)).makes (still y f.work)
  path_of x e (mid ∷ rest) y f t =
      one_more x mid.0 y e.work mid.1.work f.work
      (makes_own call_site d k own noting true x mid.0 e mid.1 Done (done_turn x mid.0 e mid.1 t.0)).makes
      (path_of mid.0 mid.1 rest y f t.1)

  path_join : (x y z : Worker (Option ℕ) D) (v u t : W) (over : List (Worker (Option ℕ) D × W)) → TurnsDone call_site d own x v over y u
      → Path d own y u z t → Path d own x v z t
  path_join x y z v u t [] h path = subst (λ (a : Worker (Option ℕ) D). Path d own a v z t) h.0 (subst (λ (b : W). Path d own y b z t) h.1 path)
  path_join x y z v u t (mid ∷ rest) h path = one_more x mid.0 z v mid.1 t h.0 (path_join mid.0 y z mid.1 u t rest h.1 path)

  chair_of : (s : Stage) → is_chair s ≡ true → (chair : Chair) × (s ≡ stage.Idle chair)
  chair_of (stage.Idle chair) h = (chair, refl)
  chair_of (stage.In x) h = absurd (false≢true h)
  chair_of (stage.Out x) h = absurd (false≢true h)
  chair_of (stage.Back x) h = absurd (false≢true h)
  chair_of (stage.Leaving x) h = absurd (false≢true h)

  pub first_goes : (place : ℕ) (x : Worker (Option ℕ) D) (e : Ending W) (over : List (Worker (Option ℕ) D × Ending W))
      (y : Worker (Option ℕ) D) (f : Ending W) → is_chair x.hand.stage ≡ true → x.log.items ≡ [] → e.end ≡ None → x.site ≡ Some place
      → TurnsOver call_site d k x e over Done y f → IsUnderWay d own place x e.work y f
  first_goes place x e [] y f home empty untold has t =
      let chair = chair_of x.hand.stage home in
      let turn = done_turn x y e f t in
      let begun = begins x y e f turn place chair.0 chair.1 empty has untold in
      record {
        chair = chair.0;
        idle = chair.1;
        has = has;
        number = begun.number;
        response = turn.makes.response;
        takes = begun.takes;
        path = path_of x e [] y f t;
        state = inl begun.within;
      }
  first_goes place x e (mid ∷ rest) y f home empty untold has t =
      let chair = chair_of x.hand.stage home in
      let turn = done_turn x mid.0 e mid.1 t.0 in
      let begun = begins x mid.0 e mid.1 turn place chair.0 chair.1 empty has untold in
      record {
        chair = chair.0;
        idle = chair.1;
        has = has;
        number = begun.number;
        response = turn.makes.response;
        takes = begun.takes;
        path = path_of x e (mid ∷ rest) y f t;
        state = over_goes chair.0.worker begun.number mid.0 mid.1 rest y f begun.within t.1;
      }

  pub goes_on : (place : ℕ) (first : Worker (Option ℕ) D) (before : W) (x : Worker (Option ℕ) D) (e : Ending W)
      (over : List (Worker (Option ℕ) D × Ending W)) (y : Worker (Option ℕ) D) (f : Ending W) → is_chair x.hand.stage ≡ false
      → IsUnderWay d own place first before x e → TurnsOver call_site d k x e over Done y f → IsUnderWay d own place first before y f
  goes_on place first before x e over y f busy h t = record {
    chair = h.chair;
    idle = h.idle;
    has = h.has;
    number = h.number;
    response = h.response;
    takes = h.takes;
    path = path_join first x y before e.work f.work h.path.over h.path.turns (path_of x e over y f t);
    state = state_on h.state;
  }
    where
      state_on : (IsWithin h.chair.worker h.number x e ⊎ IsOver h.chair.worker h.number x e)
          → IsWithin h.chair.worker h.number y f ⊎ IsOver h.chair.worker h.number y f
      state_on (inl within) = over_goes h.chair.worker h.number x e over y f within t
      state_on (inr over') = absurd (false≢true (sym busy ∙ over'.home))

  -- ---- want of memory

  -- A log never gets shorter.
  turn_long : (x y : Worker (Option ℕ) D) (e f : Ending W) → TurnIs call_site d k x e Done y f → length x.log.items < length y.log.items
  turn_long x y e f t =
      let turn = done_turn x y e f t in
      let did = done x y e f turn in
      let log = grown x y e f turn (Step did.did did.out) did.is in
      omega (arith, ap length log, length-append x.log.items (Step did.did did.out ∷ []))

  waits_long : (x y : Worker (Option ℕ) D) (e f : Ending W) → TurnIs call_site d k x e NoMemory y f
      → (f ≡ e) × (y.log.items ≡ x.log.items)
  waits_long x y e f (inl (inl made)) =
      absurd (never_no_memory call_site k y.site _ made.makes.between made.makes.used made.makes.response.answer made.makes.after made.makes.uses)
  waits_long x y e f (inl (inr t)) = let broken = t.broken in absurd cc
  waits_long x y e f (inr w) = (w.work, w.log)

  over_long : (x : Worker (Option ℕ) D) (e : Ending W) (over : List (Worker (Option ℕ) D × Ending W)) (y : Worker (Option ℕ) D)
      (f : Ending W) → TurnsOver call_site d k x e over NoMemory y f → length x.log.items ≤ length y.log.items
  over_long x e [] y f t = let same = waits_long x y e f t in omega (arith, ap length same.1)
  over_long x e (mid ∷ rest) y f t =
      omega (arith, turn_long x mid.0 e mid.1 t.0, over_long mid.0 mid.1 rest y f t.1)

  -- Where memory ran out and the log is empty, nothing was done.
  pub nothing_done : (x : Worker (Option ℕ) D) (e : Ending W) (over : List (Worker (Option ℕ) D × Ending W)) (y : Worker (Option ℕ) D)
      (f : Ending W) → TurnsOver call_site d k x e over NoMemory y f → length y.log.items ≡ 0 → f ≡ e
  nothing_done x e [] y f t empty = (waits_long x y e f t).0
  nothing_done x e (mid ∷ rest) y f t empty =
      absurd (omega (arith, turn_long x mid.0 e mid.1 t.0, over_long mid.0 mid.1 rest y f t.1, empty))

  -- A log in which something stands stays so.
  pub done_long : (x : Worker (Option ℕ) D) (e : Ending W) (over : List (Worker (Option ℕ) D × Ending W)) (y : Worker (Option ℕ) D)
      (f : Ending W) → TurnsOver call_site d k x e over Done y f → 0 < length y.log.items
  done_long x e [] y f t = omega (arith, turn_long x y e f t)
  done_long x e (mid ∷ rest) y f t = done_long mid.0 mid.1 rest y f t.1

-- ---- rounds of turns

module _ {D W : Type 0} (d : Device.Ghosts D) (own : Work.Ghosts W) (first : Worker (Option ℕ) D) (before : Ending W)
    (home : is_chair first.hand.stage ≡ true) (empty : first.log.items ≡ []) (untold : before.end ≡ None) where
  round_from : (x : Worker (Option ℕ) D) (e : Ending W) (over : List (Worker (Option ℕ) D × Ending W)) (y : Worker (Option ℕ) D)
      (f : Ending W) (place : ℕ) → first.site ≡ Some place → TurnsOver call_site d (noted_calls own) x e over Done y f
      → SoFar d own first before x e → IsUnderWay d own place first before.work y f
  round_from x e over y f place has t (inl same) =
      first_goes d (noted_calls own) own (noted own) place first before over y f home empty untold has
      (subst (λ (a : Worker (Option ℕ) D). TurnsOver call_site d (noted_calls own) a before over Done y f) same.0
      (subst (λ (b : Ending W). TurnsOver call_site d (noted_calls own) x b over Done y f) same.1 t))
  round_from x e over y f place has t (inr so) =
      goes_on d (noted_calls own) own (noted own) place first before.work x e over y f so.0 (so.2 place has) t

  rounds_lead : (x : Worker (Option ℕ) D) (e : Ending W) (rounds : List (Worker (Option ℕ) D × Ending W)) (y : Worker (Option ℕ) D)
      (f : Ending W) → Rounds call_site d (noted_calls own) x e rounds y f → SoFar d own first before x e → SoFar d own first before y f
  rounds_lead x e [] y f r so =
      subst (λ (a : Worker (Option ℕ) D). SoFar d own first before a f) (sym r.0)
      (subst (λ (b : Ending W). SoFar d own first before x b) (sym r.1) so)
  rounds_lead x e (mid ∷ rest) y f r so =
      rounds_lead mid.0 mid.1 rest y f r.2
      (inr (
        r.1,
        done_long d (noted_calls own) own (noted own) x e r.0.0 mid.0 mid.1 r.0.1,
        λ place has. round_from x e r.0.0 mid.0 mid.1 place has r.0.1 so,
      ))

  -- The plan was run, where its end was noted.
  pub runs_plan : (place : ℕ) → first.site ≡ Some place → (y : Worker (Option ℕ) D) (f : Ending W)
      → Looped call_site d (noted_calls own) first before Done y f → is_chair y.hand.stage ≡ true
      → IfSome f.end (λ how. RunsPlan d own place first before.work how y f.work)
  runs_plan place has y f loop back =
      runs d own place first before.work y f empty back
      (round_from loop.worker loop.work loop.last.0 y f place has loop.last.1
      (rounds_lead first before loop.rounds loop.worker loop.work loop.led (inl (refl, refl))))

  -- Where memory ran out, and the log is empty, the work is as it was.
  pub out_of_memory : (y : Worker (Option ℕ) D) (f : Ending W) → Looped call_site d (noted_calls own) first before NoMemory y f
      → length y.log.items ≡ 0 → f.work ≡ before.work
  out_of_memory y f loop none =
      memory_from loop.worker loop.work loop.last.0 y f loop.last.1 none
      (rounds_lead first before loop.rounds loop.worker loop.work loop.led (inl (refl, refl)))
    where
      memory_from : (x : Worker (Option ℕ) D) (e : Ending W) (over : List (Worker (Option ℕ) D × Ending W)) (y : Worker (Option ℕ) D)
          (f : Ending W) → TurnsOver call_site d (noted_calls own) x e over NoMemory y f → length y.log.items ≡ 0 → SoFar d own first before x e
          → f.work ≡ before.work
      memory_from x e over y f t none (inl same) =
          ap (λ (b : Ending W). b.work) (nothing_done d (noted_calls own) own (noted own) x e over y f t none ∙ same.1)
      memory_from x e over y f t none (inr so) =
          absurd (omega (arith, over_long d (noted_calls own) own (noted own) x e over y f t, none, so.1))
