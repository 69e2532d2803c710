-- Which actions go on from a place, and where they lead.
use Rattle.std.proofs.Common.{◌≡◌, ℕ, ◌+◌, ◌^◌, ◌<◌, List, ◌∷◌, refl, sym, ap, subst}
use Rattle.pp_settings.specs.Layout.{Geometry}
use Rattle.pp_plan.specs.Tree.{Step, fix, unfix, latch, unlatch, gather, scatter, step, loop, choice}
use Rattle.pp_plan.specs.Tree.{Sequence, skip, andthen}
use Rattle.pp_plan.specs.Tree.{Alternatives, branch_count}
use Rattle.pp_plan.specs.Rules.{IsBody}
use Rattle.pp_plan.specs.declared.action.Action.{Action}
use Rattle.pp_plan.specs.declared.action.Action.TheVariants.{Fix, Unfix, Latch, Unlatch, Gather, Scatter, Choose}
use Rattle.pp_plan.specs.Traces.{Does, IsTrace}
use Rattle.pp_cursor.specs.Left.{◌then◌, sequence_drop, branch_at, first_body_of, first_rest_of, Place, body_at, outside}
use Rattle.pp_cursor.specs.Left.{left}
use Rattle.pp_cursor.specs.Cursor.{CanBeIn, IsPath, NamesAction}
use Rattle.pp_cursor.specs.CursorMoves.{entered, skipped, moved_by, CanPass, first_ask, ask_at}
use Rattle.pp_plan.specs.FlatList.{statement_ask}
use Rattle.pp_cursor.proofs.Sequences.{step_does, does_step, choice_does, does_choice}
use Rattle.pp_cursor.proofs.Paths.{drop_next, room_to_enter, room_to_skip}
use Rattle.pp_cursor.proofs.CursorMoves.{enter_path}

-- From the first body the action leads to the second.
pub record Follows (g : Geometry) (b : Sequence) (a : Action) (c : Sequence) : Type 0 where
  pub to : (rest : List Action) → IsTrace g b (a ∷ rest) → IsTrace g c rest
  pub from : (rest : List Action) → IsTrace g c rest → IsTrace g b (a ∷ rest)

-- ---- steps

step_follows : (g : Geometry) (b : Sequence) (p : Place) (s : Step) (k : Sequence) (a : Action)
    → sequence_drop p.index (body_at b p.entries) ≡ andthen (step s) k → Does g s a
    → Follows g (left b p) a (left b (skipped p))
step_follows g b p s k a h d =
    let o = outside b p.entries in
    let e : left b p ≡ andthen (step s) (k then o) = ap (λ x. x then o) h in
    let f : left b (skipped p) ≡ k then o = ap (λ x. x then o) (drop_next p.index (body_at b p.entries) (step s) k h) in
    rw (e, f) (record {
      to = λ t i. (step_does g s (k then o) a t i).1;
      from =
          λ t i. does_step g s (k then o) a t d i;
    })

-- What a step's ask names is what makes the step.
pub named_does : (g : Geometry) (s : Step) (a : Action) → NamesAction g (statement_ask (step s)) a → Does g s a
named_does g (fix s r) a h = h
named_does g (unfix s) a h = h
named_does g (latch s m) a h = h
named_does g (unlatch s) a h = h
named_does g (gather s r) a h = h
named_does g (scatter s) a h = h

pub does_named : (g : Geometry) (s : Step) (a : Action) → Does g s a → NamesAction g (statement_ask (step s)) a
does_named g (fix s r) a h = h
does_named g (unfix s) a h = h
does_named g (latch s m) a h = h
does_named g (unlatch s) a h = h
does_named g (gather s r) a h = h
does_named g (scatter s) a h = h

-- A step isn't made by a choice.
skips : (g : Geometry) (s : Step) (a : Action) (p : Place) → Does g s a → moved_by a p ≡ skipped p
skips g s (Fix t page) p h = refl
skips g s (Unfix t) p h = refl
skips g s (Latch t m) p h = refl
skips g s (Unlatch t) p h = refl
skips g s (Gather t page) p h = refl
skips g s (Scatter t) p h = refl
skips g (fix s r) (Choose i) p h = absurd h
skips g (unfix s) (Choose i) p h = absurd h
skips g (latch s m) (Choose i) p h = absurd h
skips g (unlatch s) (Choose i) p h = absurd h
skips g (gather s r) (Choose i) p h = absurd h
skips g (scatter s) (Choose i) p h = absurd h

can_skip : (g : Geometry) (s : Step) (a : Action) (p : Place) → Does g s a → p.index + 1 < 2 ^ 64 → CanPass a p
can_skip g s (Fix t page) p h lt = lt
can_skip g s (Unfix t) p h lt = lt
can_skip g s (Latch t m) p h lt = lt
can_skip g s (Unlatch t) p h lt = lt
can_skip g s (Gather t page) p h lt = lt
can_skip g s (Scatter t) p h lt = lt
can_skip g (fix s r) (Choose i) p h lt = absurd h
can_skip g (unfix s) (Choose i) p h lt = absurd h
can_skip g (latch s m) (Choose i) p h lt = absurd h
can_skip g (unlatch s) (Choose i) p h lt = absurd h
can_skip g (gather s r) (Choose i) p h lt = absurd h
can_skip g (scatter s) (Choose i) p h lt = absurd h

-- ---- choices

choice_follows : (g : Geometry) (b : Sequence) (p : Place) (i : ℕ) (k : Sequence) (bs : Alternatives)
    → sequence_drop p.index (body_at b p.entries) ≡ andthen (choice bs) k → i < branch_count bs
    → Follows g (left b p) (Choose i) (left b (entered p 0 i))
choice_follows g b p i k bs h lt =
    let o = outside b p.entries in
    let e : left b p ≡ andthen (choice bs) (k then o) = ap (λ x. x then o) h in
    let f : left b (entered p 0 i) ≡ branch_at bs i then (k then o) =
    ap (λ x. first_body_of x i then (first_rest_of x 0 then o)) h in
    rw (e, f) (record {
      to = λ t j. let d = choice_does g bs (k then o) (Choose i) t j in let same : d.0 ≡ i = cc (d.1) in
          subst (λ n. IsTrace g (branch_at bs n then (k then o)) t) same d.3;
      from = λ t j. does_choice g bs (k then o) i t lt j;
    })

-- ---- both

-- The action goes on from the place, and there is room to go past it.
pub record Passes (g : Geometry) (b : Sequence) (p : Place) (a : Action) : Type 0 where
  pub can : CanPass a p
  pub path : IsPath b (moved_by a p).entries
  pub follows : Follows g (left b p) a (left b (moved_by a p))

passes_by : (g : Geometry) (slots regions : ℕ) (b : Sequence) (p : Place) (a : Action) (d : Sequence)
    → IsBody slots regions b → IsPath b p.entries → sequence_drop p.index (body_at b p.entries) ≡ d
    → NamesAction g (first_ask d) a → Passes g b p a
passes_by g slots regions b p a skip rules path h n = absurd n
passes_by g slots regions b p a (andthen (step s) k) rules path h n =
    let d = named_does g s a n in
    let e = sym (skips g s a p d) in
    record {
      can = can_skip g s a p d (room_to_skip b p (step s) k rules.count path h);
      path = subst (λ q. IsPath b q.entries) e path;
      follows = subst (λ q. Follows g (left b p) a (left b q)) e (step_follows g b p s k a h d);
    }
passes_by g slots regions b p a (andthen (loop m c) k) rules path h n = absurd n
passes_by g slots regions b p (Choose i) (andthen (choice bs) k) rules path h n =
    let in_range : CanBeIn (choice bs) 0 i = (refl, n) in
    record {
      can = room_to_enter b p (choice bs) 0 i k rules.depth path h in_range;
      path = enter_path b p (choice bs) 0 i k h in_range path;
      follows = choice_follows g b p i k bs h n;
    }
passes_by g slots regions b p (Fix s page) (andthen (choice bs) k) rules path h n = absurd n
passes_by g slots regions b p (Unfix s) (andthen (choice bs) k) rules path h n = absurd n
passes_by g slots regions b p (Latch s m) (andthen (choice bs) k) rules path h n = absurd n
passes_by g slots regions b p (Unlatch s) (andthen (choice bs) k) rules path h n = absurd n
passes_by g slots regions b p (Gather s page) (andthen (choice bs) k) rules path h n = absurd n
passes_by g slots regions b p (Scatter s) (andthen (choice bs) k) rules path h n = absurd n

-- An action that is named goes on from the place.
pub passes : (g : Geometry) (slots regions : ℕ) (b : Sequence) (p : Place) (a : Action) → IsBody slots regions b
    → IsPath b p.entries → NamesAction g (ask_at b p) a → Passes g b p a
passes g slots regions b p a rules path n =
    passes_by g slots regions b p a (sequence_drop p.index (body_at b p.entries)) rules path refl n
