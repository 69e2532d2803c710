-- Each move without an action leaves the same.
use Rattle.std.proofs.Common.{◌≡◌, ℕ, zero, suc, ◌+◌, ◌-◌, ◌*◌, ◌<◌, ◌≤◌, List, [], ◌∷◌, length, refl, sym, ap, ◌∙◌}
use Rattle.std.proofs.Common.{arith, subst}
use Rattle.pp_settings.specs.Layout.{Geometry}
use Rattle.pp_plan.specs.Tree.{Statement, step, loop, choice, Sequence, skip, andthen}
use Rattle.pp_plan.specs.Rules.{IsSome, IsSequence, IsBody}
use Rattle.pp_plan.specs.declared.action.Ask.{Ask}
use Rattle.pp_plan.specs.declared.action.Ask.TheVariants.{End}
use Rattle.pp_cursor.specs.declared.cursor.Entry.{Entry}
use Rattle.pp_plan.specs.declared.flat.Next.TheVariants.{Enter, Leave, Asks}
use Rattle.pp_cursor.specs.Left.{◌then◌, sequence_drop, first_body_of, first_rest_of, Place, body_at, outside, left}
use Rattle.pp_cursor.specs.Cursor.{CanBeIn, CanEnter, IsPath, IsReady}
use Rattle.pp_cursor.specs.CursorMoves.{entered, left_to, left_by, HasNext, Same, first_ask, next_by, next_at}
use Rattle.pp_cursor.proofs.Sequences.{same_self, loop_over, loop_turn}
use Rattle.pp_cursor.proofs.Paths.{drop_next, drop_keeps, body_keeps, next_keeps, room_to_enter, path_has_next}

-- How often a body at its end may still be left, where the rest of the innermost body is this.
abbrev pub leaves_before : Sequence → (depth : ℕ) → ℕ
leaves_before skip depth = suc depth
leaves_before (andthen s k) depth = 0

abbrev pub leaves_left : Sequence → Place → ℕ
leaves_left b p = leaves_before (sequence_drop p.index (body_at b p.entries)) (length p.entries)

-- Out of a body: the same is left, and fewer such moves.
pub record Leaves (g : Geometry) (b : Sequence) (p q : Place) : Type 0 where
  pub same : Same g (left b p) (left b q)
  pub falls : leaves_left b q < leaves_left b p

leaves_none : (c : Sequence) (d : ℕ) → IsSome c → leaves_before c d ≡ 0
leaves_none skip d h = absurd h
leaves_none (andthen s k) d h = refl

leaves_at_most : (c : Sequence) (d : ℕ) → leaves_before c d ≤ suc d
leaves_at_most skip d = omega arith
leaves_at_most (andthen s k) d = omega arith

-- The place is at a loop.
pub enter_same : (g : Geometry) (b : Sequence) (p : Place) (n : ℕ) (c k : Sequence)
    → sequence_drop p.index (body_at b p.entries) ≡ andthen (loop (suc n) c) k
    → Same g (left b p) (left b (entered p n 0))
enter_same g b p n c k h =
    let o = outside b p.entries in
    let e : left b p ≡ andthen (loop (suc n) c) (k then o) = ap (λ x. x then o) h in
    let f : left b (entered p n 0) ≡ c then (andthen (loop n c) (k then o)) =
    ap (λ x. first_body_of x 0 then (first_rest_of x n then o)) h in
    rw (e, f) (loop_turn g n c (k then o))

pub enter_path : (b : Sequence) (p : Place) (s : Statement) (n i : ℕ) (k : Sequence)
    → sequence_drop p.index (body_at b p.entries) ≡ andthen s k → CanBeIn s n i → IsPath b p.entries
    → IsPath b (entered p n i).entries
enter_path b p s n i k h t path = (rw h t, path)

-- The place is at the end of a body inside another.
leave_by : (g : Geometry) (slots regions : ℕ) (b d : Sequence) (e : Entry) (es : List Entry) (i : ℕ)
    → IsSequence slots regions d → sequence_drop e.index (body_at b es) ≡ d → CanEnter d e.turns e.branch
    → sequence_drop i (body_at b (e ∷ es)) ≡ skip → (t : ℕ) → e.turns ≡ t
    → Leaves g b (record { entries = e ∷ es; index = i }) (left_to t e es)
leave_by g slots regions b skip e es i keeps h can end t is = absurd can
leave_by g slots regions b (andthen (step s) k) e es i keeps h can end t is = absurd can
leave_by g slots regions b (andthen (loop m c) k) e es i keeps h can end zero is =
    let o = outside b es in
    let old : left b (record { entries = e ∷ es; index = i }) ≡ andthen (loop 0 c) (k then o) =
    ap (λ x. x then (first_rest_of (sequence_drop e.index (body_at b es)) e.turns then o)) end
    ∙ ap (λ x. first_rest_of x e.turns then o) h ∙ ap (λ n. andthen (loop n c) (k then o)) is in
    let new : left b (left_to zero e es) ≡ k then o =
    ap (λ x. x then o) (drop_next e.index (body_at b es) (loop m c) k h) in
    let was : leaves_before (sequence_drop i (body_at b (e ∷ es))) (suc (length es)) ≡ suc (suc (length es)) =
    ap (λ x. leaves_before x (suc (length es))) end in
    record {
      same = rw (old, new) (loop_over g c (k then o));
      falls = let few = leaves_at_most (sequence_drop (e.index + 1) (body_at b es)) (length es) in omega arith;
    }
leave_by g slots regions b (andthen (loop m c) k) e es i keeps h can end (suc n) is =
    let o = outside b es in
    let old : left b (record { entries = e ∷ es; index = i }) ≡ andthen (loop (suc n) c) (k then o) =
    ap (λ x. x then (first_rest_of (sequence_drop e.index (body_at b es)) e.turns then o)) end
    ∙ ap (λ x. first_rest_of x e.turns then o) h ∙ ap (λ n. andthen (loop n c) (k then o)) is in
    let new : left b (left_to (suc n) e es) ≡ c then (andthen (loop n c) (k then o)) =
    ap (λ x. first_body_of x e.branch then (first_rest_of x n then o)) h in
    let was : leaves_before (sequence_drop i (body_at b (e ∷ es))) (suc (length es)) ≡ suc (suc (length es)) =
    ap (λ x. leaves_before x (suc (length es))) end in
    let now : leaves_before (first_body_of (sequence_drop e.index (body_at b es)) e.branch) (suc (length es))
    ≡ leaves_before c (suc (length es)) = ap (λ x. leaves_before (first_body_of x e.branch) (suc (length es))) h in
    record {
      same = rw (old, new) (loop_turn g n c (k then o));
      falls = let few = leaves_none c (suc (length es)) keeps.0.2 in omega arith;
    }
leave_by g slots regions b (andthen (choice bs) k) e es i keeps h can end (suc n) is =
    absurd (let z = can.0 in omega arith)
leave_by g slots regions b (andthen (choice bs) k) e es i keeps h can end zero is =
    let o = outside b es in
    let old : left b (record { entries = e ∷ es; index = i }) ≡ k then o =
    ap (λ x. x then (first_rest_of (sequence_drop e.index (body_at b es)) e.turns then o)) end
    ∙ ap (λ x. first_rest_of x e.turns then o) h in
    let new : left b (left_to zero e es) ≡ k then o =
    ap (λ x. x then o) (drop_next e.index (body_at b es) (choice bs) k h) in
    let was : leaves_before (sequence_drop i (body_at b (e ∷ es))) (suc (length es)) ≡ suc (suc (length es)) =
    ap (λ x. leaves_before x (suc (length es))) end in
    record {
      same = rw (old, new) (same_self g (k then o));
      falls = let few = leaves_at_most (sequence_drop (e.index + 1) (body_at b es)) (length es) in omega arith;
    }

leave_from : (g : Geometry) (slots regions : ℕ) (b : Sequence) (es : List Entry) (i : ℕ) → IsSequence slots regions b
    → 0 < length es → IsPath b es → sequence_drop i (body_at b es) ≡ skip
    → Leaves g b (record { entries = es; index = i }) (left_by (record { entries = es; index = i }) es)
leave_from g slots regions b [] i keeps has path end = absurd (omega arith)
leave_from g slots regions b (e ∷ es) i keeps has path end =
    leave_by g slots regions b (sequence_drop e.index (body_at b es)) e es i
    (drop_keeps slots regions e.index (body_at b es) (body_keeps slots regions b es keeps)) refl path.0 end e.turns
    refl

pub leave_moves : (g : Geometry) (slots regions : ℕ) (b : Sequence) (p : Place) → IsSequence slots regions b
    → 0 < length p.entries → IsPath b p.entries → sequence_drop p.index (body_at b p.entries) ≡ skip
    → Leaves g b p (left_by p p.entries)
leave_moves g slots regions b p keeps has path end = leave_from g slots regions b p.entries p.index keeps has path end

leave_path_by : (b d : Sequence) (e : Entry) (es : List Entry) → sequence_drop e.index (body_at b es) ≡ d
    → CanEnter d e.turns e.branch → IsPath b es → (t : ℕ) → e.turns ≡ t → IsPath b (left_to t e es).entries
leave_path_by b d e es h can path zero is = path
leave_path_by b skip e es h can path (suc n) is = absurd can
leave_path_by b (andthen (step s) k) e es h can path (suc n) is = absurd can
leave_path_by b (andthen (loop m c) k) e es h can path (suc n) is =
    (let below : n < m = omega arith in rw h below, path)
leave_path_by b (andthen (choice bs) k) e es h can path (suc n) is = absurd (let z = can.0 in omega arith)

leave_path_of : (b : Sequence) (p : Place) (es : List Entry) → IsPath b p.entries → IsPath b es
    → IsPath b (left_by p es).entries
leave_path_of b p [] from path = from
leave_path_of b p (e ∷ es) from path =
    leave_path_by b (sequence_drop e.index (body_at b es)) e es refl path.0 path.1 e.turns refl

pub leave_path : (b : Sequence) (p : Place) → IsPath b p.entries → IsPath b (left_by p p.entries).entries
leave_path b p path = leave_path_of b p p.entries path path

-- ---- what is next

pub loop_of : (d : Sequence) (es : List Entry) (n : ℕ) → next_by d es ≡ Enter n
    → (c : Sequence) × ((k : Sequence) × (d ≡ andthen (loop n c) k))
loop_of skip [] n h = absurd cc
loop_of skip (e ∷ es) n h = absurd cc
loop_of (andthen (step s) k) es n h = absurd cc
loop_of (andthen (loop m c) k) es n h = (c, (k, ap (λ x. andthen (loop x c) k) (same_turns h)))
  where
    same_turns : Enter m ≡ Enter n → m ≡ n
    same_turns h = cc
loop_of (andthen (choice bs) k) es n h = absurd cc

pub end_of : (d : Sequence) (es : List Entry) → next_by d es ≡ Leave → (d ≡ skip) × (0 < length es)
end_of skip [] h = absurd cc
end_of skip (e ∷ es) h = (refl, omega arith)
end_of (andthen (step s) k) es h = absurd cc
end_of (andthen (loop m c) k) es h = absurd cc
end_of (andthen (choice bs) k) es h = absurd cc

pub same_ask : (x y : Ask) → Asks x ≡ Asks y → y ≡ x
same_ask x y h = cc

-- Where something is asked, an action comes next or it is the end, and this is what is asked.
pub waits : (d : Sequence) (es : List Entry) (x : Ask) → next_by d es ≡ Asks x → IsReady d es × (x ≡ first_ask d)
waits skip [] x h = (tt, same_ask End x h)
waits skip (e ∷ es) x h = absurd cc
waits (andthen (step s) k) es x h = (tt, same_ask (first_ask (andthen (step s) k)) x h)
waits (andthen (loop n c) k) es x h = absurd cc
waits (andthen (choice bs) k) es x h = (tt, same_ask (first_ask (andthen (choice bs) k)) x h)

pub ready_asks : (d : Sequence) (es : List Entry) → IsReady d es → next_by d es ≡ Asks (first_ask d)
ready_asks skip [] ready = refl
ready_asks skip (e ∷ es) ready = absurd ready
ready_asks (andthen (step s) k) es ready = refl
ready_asks (andthen (loop n c) k) es ready = absurd ready
ready_asks (andthen (choice bs) k) es ready = refl

-- At the end of a body.
pub leaves_at_end : (d : Sequence) (es : List Entry) → d ≡ skip → 0 < length es → Leave ≡ next_by d es
leaves_at_end d [] h inner = absurd (omega arith)
leaves_at_end d (e ∷ es) h inner = ap (λ x. next_by x (e ∷ es)) (sym h)

pub asks_at_end : (d : Sequence) (es : List Entry) → d ≡ skip → length es ≡ 0 → Asks End ≡ next_by d es
asks_at_end d [] h outer = ap (λ x. next_by x []) (sym h)
asks_at_end d (e ∷ es) h outer = absurd (omega arith)

-- ---- the two moves with all that holds of them

-- How many moves without an action there may still be. One out of a body counts double, since it makes room for a loop.
abbrev pub moves_left : Sequence → Place → ℕ
moves_left b p = 2 * leaves_left b p + (16 - length p.entries)

-- A move without an action: the same is left, and fewer such moves.
pub record Nears (g : Geometry) (b : Sequence) (p q : Place) : Type 0 where
  pub path : IsPath b q.entries
  pub same : Same g (left b p) (left b q)
  pub nearer : moves_left b q < moves_left b p

-- Into the loop at the place.
pub record Enters (g : Geometry) (b : Sequence) (p : Place) (n : ℕ) : Type 0 where
  pub some : 1 ≤ n
  pub room : length p.entries < 16
  pub nears : Nears g b p (entered p (n - 1) 0)

nearer_inside : (l m d : ℕ) → m ≡ 0 → d < 16 → 2 * m + (16 - suc d) < 2 * l + (16 - d)
nearer_inside l m d none room = omega arith

pub enters : (g : Geometry) (slots regions : ℕ) (b : Sequence) (p : Place) (n : ℕ) → IsBody slots regions b
    → IsPath b p.entries → next_at b p ≡ Enter n → Enters g b p n
enters g slots regions b p n rules path h =
    let (c, (k, at)) = loop_of (sequence_drop p.index (body_at b p.entries)) p.entries n h in
    let keeps = next_keeps slots regions b p (loop n c) k rules.parts at in
    let some : 1 ≤ n = keeps.0 in
    let positive : n ≡ suc (n - 1) = omega arith in
    let turns : n - 1 < n = omega arith in
    let room = room_to_enter b p (loop n c) (n - 1) 0 k rules.depth path at turns in
    let body : c ≡ body_at b (entered p (n - 1) 0).entries = sym (ap (λ d. first_body_of d 0) at) in
    let none : leaves_left b (entered p (n - 1) 0) ≡ 0 =
    subst (λ d. leaves_before d (suc (length p.entries)) ≡ 0) body (leaves_none c (suc (length p.entries)) keeps.2) in
    record {
      some = some;
      room = room;
      nears = record {
        path = enter_path b p (loop n c) (n - 1) 0 k at turns path;
        same = enter_same g b p (n - 1) c k (at ∙ ap (λ m. andthen (loop m c) k) positive);
        nearer = nearer_inside (leaves_left b p) (leaves_left b (entered p (n - 1) 0)) (length p.entries) none room;
      };
    }

-- Out of the body that ends at the place.
pub record Ended (g : Geometry) (b : Sequence) (p : Place) : Type 0 where
  pub has : HasNext p.entries
  pub nears : Nears g b p (left_by p p.entries)

left_length_to : (e : Entry) (es : List Entry) (t : ℕ) → suc (length es) ≤ suc (length (left_to t e es).entries)
left_length_to e es zero = omega arith
left_length_to e es (suc t) = omega arith

left_length : (p : Place) (es : List Entry) → length es ≤ suc (length (left_by p es).entries)
left_length p [] = omega arith
left_length p (e ∷ es) = left_length_to e es e.turns

nearer_outside : (l m d e : ℕ) → m < l → d ≤ suc e → 2 * m + (16 - e) < 2 * l + (16 - d)
nearer_outside l m d e falls deep = omega arith

pub ended : (g : Geometry) (slots regions : ℕ) (b : Sequence) (p : Place) → IsBody slots regions b
    → IsPath b p.entries → next_at b p ≡ Leave → Ended g b p
ended g slots regions b p rules path h =
    let (end, inner) = end_of (sequence_drop p.index (body_at b p.entries)) p.entries h in
    let leaves = leave_moves g slots regions b p rules.parts inner path end in
    record {
      has = path_has_next b p.entries rules.count path inner;
      nears = record {
        path = leave_path b p path;
        same = leaves.same;
        nearer =
            nearer_outside (leaves_left b p) (leaves_left b (left_by p p.entries)) (length p.entries)
            (length (left_by p p.entries).entries) leaves.falls (left_length p p.entries);
      };
    }
