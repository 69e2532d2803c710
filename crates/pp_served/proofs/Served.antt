-- Whatever is called, the segments of a ledger are taken out one after the other.
use Rattle.std.proofs.Common.{◌≡◌, ◌∙◌, ℕ, ◌+◌, ◌<◌, Bool, true, false, Some, None, List, [], ◌∷◌, ◌++◌, length, map}
use Rattle.std.proofs.Common.{refl, sym, ap, subst, arith}
use Rattle.std.specs.List.{AllByRecursion}
use Rattle.std.proofs.lemmas.List.{drop_all}
use Rattle.pp_settings.specs.Settings.{Configuration}
use Rattle.pp_cert.specs.Accepted.{Acceptance}
use Rattle.pp_cert.specs.Walk.{same_layout}
use Rattle.pp_model.specs.Pool.{State, Settings, opening}
use Rattle.pp_model.specs.Submitting.{submitted_unless, after_submit}
use Rattle.pp_model.specs.Segments.{segments_end}
use Rattle.pp_model.proofs.Alone.{settings_stay}
use Rattle.pp_core.specs.Parts as core
use Rattle.pp_core.specs.Limits.{most_kept}
use Rattle.pp_core.specs.Opening.{kept_of}
use Rattle.pp_vault.specs.StandsFor.{StandsFor}
use Rattle.pp_vault.specs.Calls as vault
use Rattle.pp_vault.specs.Calls.{stranger, refused, asks, after_call}
use Rattle.pp_pool.specs.Requests.{call_of}
use Rattle.pp_ledger.specs.Segments.{Segment}
use Rattle.pp_ledger.specs.Ledgers.{Parts, IsSegment}
use Rattle.pp_ledger.specs.Calls.{going_on}
use Rattle.pp_ledger.specs.Taken.{Taken, ComesNext, AreTaken, segments_of, plans_at_end}
use Rattle.pp_ledger.proofs.Added.{Adds, adds_none, adds_both, plans_counted}
use Rattle.pp_segments.specs.Auditing.{prepare_fault, begin_fault}
use Rattle.pp_served.specs.Texts.{HasAllNumbers}
use Rattle.pp_served.specs.Runs.{Call, prepare, submit, perform, Leads, LeadAll, IsRun, IsNew}
use Rattle.pp_served.specs.Served.{ledgers_of, segments_in, end_of, IsTaken, RestsSo, AreAccepted}
use Rattle.pp_served.proofs.Prepared.{one_more, can_begin}
use Rattle.pp_served.proofs.Audited.{taken_accepted}

-- An audit under these settings can prepare the plans.
abbrev CanPrepare : Configuration → List Acceptance → Type 0
CanPrepare c plans = prepare_fault (kept_of c).layout c.span 0 plans ≡ None

-- The ledger's segment leads from the one state to the other, under these settings.
record IsAt (c : Configuration) (l : Parts) (o s : State) : Type 0 where
  segment : IsSegment l o s
  settings : s.settings ≡ kept_of c
  can : CanPrepare c l.vault.core.plans

-- The same segment of the ledger leads to a state, and plans were added.
record Comes (c : Configuration) (l m : Parts) (o : State) : Type 0 where
  state : State
  is_at : IsAt c m o state
  plans : Adds l.vault.core.plans m.vault.core.plans
  number : m.segment.number ≡ l.segment.number

-- ---- calls

after_settings : (s : State) (call : vault.Call) → (after_call s call).settings ≡ s.settings
after_settings s stranger = refl
after_settings s (refused why) = refl
after_settings s (asks m) = settings_stay s m

called : (c : Configuration) (l m : Parts) (call : Call) (o s : State) → IsAt c l o s → Leads l call m → Comes c l m o
called c l m (prepare a place) o s here h =
    let f = l.vault.core in
    let k = here.segment.stands.core in
    let layout : f.layout ≡ (kept_of c).layout = k.layout ∙ ap (λ (j : Settings). j.layout) here.settings in
    let span : f.span ≡ c.span = k.span ∙ ap (λ (j : Settings). j.span) here.settings in
    let plans : m.vault.core.plans ≡ f.plans ++ a ∷ [] = ap (λ (x : core.Parts). x.plans) h.vault.core.parts in
    let same : same_layout (kept_of c).layout a.plan.layout ≡ true
    = ap (λ g. same_layout g a.plan.layout) (sym layout) ∙ h.vault.core.same in
    let few : length f.plans < most_kept c.span = subst (λ x. length f.plans < most_kept x) span h.vault.core.few in
    record {
      state = s;
      is_at = record {
        segment = h.segment o s here.segment;
        settings = here.settings;
        can =
            subst (CanPrepare c) (sym plans)
            (one_more (kept_of c).layout c.span 0 f.plans a here.can same (omega (arith, few)));
      };
      plans = (a ∷ [], plans);
      number = ap (λ (x : Parts). x.segment.number) h.parts;
    }
called c l m (submit a place number) o s here h =
    let plans : m.vault.core.plans ≡ l.vault.core.plans = ap (λ (x : core.Parts). x.plans) h.vault.core.parts in
    record {
      state = after_submit s a;
      is_at = record {
        segment = h.segment o s here.segment;
        settings =
            ap (λ e. (submitted_unless e s a).settings) (h.vault.takes.allowed s here.segment.stands) ∙ here.settings;
        can = subst (CanPrepare c) (sym plans) here.can;
      };
      plans = adds_none l.vault.core.plans m.vault.core.plans plans;
      number = ap (λ (x : Parts). x.segment.number) h.parts;
    }
called c l m (perform asked response) o s here h = record {
  state = after_call s (call_of l.vault asked s);
  is_at = record {
    segment = h.segment o s here.segment;
    settings = after_settings s (call_of l.vault asked s) ∙ here.settings;
    can = subst (CanPrepare c) (sym h.plans) here.can;
  };
  plans = adds_none l.vault.core.plans m.vault.core.plans h.plans;
  number = ap (λ (x : Parts). x.segment.number) h.parts;
}

all_called : (c : Configuration) (l m : Parts) (calls : List Call) (o s : State) → IsAt c l o s → LeadAll l calls m
    → Comes c l m o
all_called c l m [] o s here same = record {
  state = s;
  is_at = subst (λ x. IsAt c x o s) (sym same) here;
  plans = adds_none l.vault.core.plans m.vault.core.plans (ap (λ (x : Parts). x.vault.core.plans) same);
  number = ap (λ (x : Parts). x.segment.number) same;
}
all_called c l m (call ∷ calls) o s here h =
    let first = called c l h.0 call o s here h.1 in
    let rest = all_called c h.0 m calls o first.state first.is_at h.2 in
    record {
      state = rest.state;
      is_at = rest.is_at;
      plans = adds_both l.vault.core.plans h.0.vault.core.plans m.vault.core.plans first.plans rest.plans;
      number = rest.number ∙ first.number;
    }

-- ---- a segment is taken out

goes_on : (c : Configuration) (l : Parts) (empty : Segment) (o s : State) → IsAt c l o s → IsAt c (going_on l empty) s s
goes_on c l empty o s here = record {
  segment = record {
    opened = here.segment.stands.core.reached;
    told = record { is_true = tt; leads_here = refl };
    stands = here.segment.stands;
    plans_before = plans_counted l o s here.segment;
    prepared = ap (map Some) (sym (drop_all (length s.plans) s.plans (omega arith)));
  };
  settings = here.settings;
  can = here.can;
}

-- ---- the whole run

-- A run whose first segment begins in this state and has this number, with those that were taken out before the last.
record Ran (c : Configuration) (o : State) (number : ℕ) (plans : List Acceptance) (before : List Parts)
    (now : Parts) : Type 0 where
  earlier : List Taken
  earlier_are : ledgers_of earlier ≡ before
  are_earlier : AreTaken o number plans earlier
  added : Adds (plans_at_end plans earlier) now.vault.core.plans
  taken : List Taken
  taken_are : ledgers_of taken ≡ before ++ now ∷ []
  are_taken : AreTaken o number plans taken
  ends : plans_at_end plans taken ≡ now.vault.core.plans
  stands : StandsFor now.vault (segments_end o (segments_of taken))
  can : CanPrepare c now.vault.core.plans

ran : (c : Configuration) (l : Parts) (before : List Parts) (now : Parts) (o s : State) (number : ℕ) → IsAt c l o s
    → l.segment.number ≡ number → IsRun l before now → Ran c o number l.vault.core.plans before now
ran c l [] now o s number here numbered h =
    let last = all_called c l now h.0 o s here h.1 in
    record {
      earlier = [];
      earlier_are = refl;
      are_earlier = tt;
      added = last.plans;
      taken = record { ledger = now; end = last.state } ∷ [];
      taken_are = refl;
      are_taken = (
        record {
          segment = last.is_at.segment;
          number = last.number ∙ numbered;
          more = last.plans.0;
          plans = last.plans.1;
        },
        tt,
      );
      ends = refl;
      stands = last.is_at.segment.stands;
      can = last.is_at.can;
    }
ran c l (x ∷ xs) now o s number here numbered h =
    let first = all_called c l x h.0.0 o s here h.0.1 in
    let is = first.number ∙ numbered in
    let y : Taken = record { ledger = x; end = first.state } in
    let next : ComesNext o number l.vault.core.plans y
    = record { segment = first.is_at.segment; number = is; more = first.plans.0; plans = first.plans.1 } in
    let rest = ran c (going_on x h.1) xs now first.state first.state (number + 1)
    (goes_on c x h.1 o first.state first.is_at) (ap (λ n. n + 1) is) h.3 in
    record {
      earlier = y ∷ rest.earlier;
      earlier_are = ap (λ ls. x ∷ ls) rest.earlier_are;
      are_earlier = (next, rest.are_earlier);
      added = rest.added;
      taken = y ∷ rest.taken;
      taken_are = ap (λ ls. x ∷ ls) rest.taken_are;
      are_taken = (next, rest.are_taken);
      ends = rest.ends;
      stands = rest.stands;
      can = rest.can;
    }

module _ (c : Configuration) (l now : Parts) (before : List Parts) (fresh : IsNew c l) (run : IsRun l before now) where
  abbrev o : State
  o = opening (kept_of c)

  begun : IsAt c l o o
  begun = record {
    segment = fresh.begins;
    settings = refl;
    can = subst (CanPrepare c) (sym fresh.none_kept) refl;
  }

  whole : Ran c o 0 [] before now
  whole =
      subst (λ ps. Ran c o 0 ps before now) fresh.none_kept
      (ran c l before now o o 0 begun (ap (λ (g : Segment). g.number) fresh.segment) run)

  begins : begin_fault c now.vault.core.plans ≡ None
  begins = can_begin (kept_of c).layout c.span now.vault.core.plans fresh.endless whole.can

  pub run_taken : IsTaken c before now
  run_taken = record {
    taken = whole.taken;
    ledgers = whole.taken_are;
    are_taken = whole.are_taken;
    stands = whole.stands;
    plans = whole.ends;
    begins = begins;
  }

  -- All segments, the present one among them.
  pub all_accepted : (ended : Bool) (gs : List Segment) → AllByRecursion HasAllNumbers gs
      → segments_in (before ++ now ∷ []) ≡ gs → RestsSo ended now → AreAccepted c now.vault.core.plans ended gs
  all_accepted ended gs numbers is rests =
      taken_accepted c whole.taken whole.are_taken now.vault.core.plans
      (adds_none (plans_at_end [] whole.taken) now.vault.core.plans (sym whole.ends)) ended gs numbers
      (ap segments_in whole.taken_are ∙ is) begins (λ yes. rests yes (end_of c whole.taken) whole.stands)

  -- Those that were taken out.
  pub earlier_accepted : (gs : List Segment) → AllByRecursion HasAllNumbers gs → segments_in before ≡ gs
      → AreAccepted c now.vault.core.plans false gs
  earlier_accepted gs numbers is =
      taken_accepted c whole.earlier whole.are_earlier now.vault.core.plans whole.added false gs numbers
      (ap segments_in whole.earlier_are ∙ is) begins (λ e. absurd cc)
