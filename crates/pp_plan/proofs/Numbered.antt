-- A body with its slots numbered anew.
use Rattle.std.proofs.Common.{◌≡◌, inl, inr, ℕ, suc, ◌+◌, ◌<◌, max, List, [], Option, Some, codes, refl, ap, ◌∙◌, arith}
use Rattle.std.specs.Option.{unwrap_or}
use Rattle.std.specs.List.{slice_get}
use Rattle.std.proofs.lemmas.List.{get_or-map}
use Rattle.std.proofs.lemmas.Option.{slice_get_within, get_or_from_slice_get}
use Rattle.serde_json.specs.Data.{Data, Items, no_items, item}
use Rattle.pp_settings.specs.Settings.{Configuration}
use Rattle.pp_plan.specs.Tree.{Step, fix, unfix, latch, unlatch, gather, scatter, Statement, step, loop, choice}
use Rattle.pp_plan.specs.Tree.{Sequence, skip, andthen}
use Rattle.pp_plan.specs.Tree.{Alternatives, none, either, statement_count, sequence_count, alternatives_count}
use Rattle.pp_plan.specs.Tree.{statement_depth, sequence_depth, alternatives_depth, branch_count}
use Rattle.pp_plan.specs.Rules.{IsSome, IsStep, IsStatement, IsSequence, AreAlternatives}
use Rattle.pp_plan.specs.Numbering.{new_number, place_in, numbered_step, numbered_statement, numbered}
use Rattle.pp_plan.specs.Numbering.{numbered_branches}
use Rattle.pp_plan.specs.Spelling.{HoldsSlot, SpellsStep, SpellsStatement, SpellsSequence, SpellsAlternatives}
use Rattle.pp_plan.specs.Rules.{step_slot, IsUsedBy, IsUsed, IsUsedInBranch}
use Rattle.pp_plan.proofs.Places.{AreApart, place_only}

-- ---- numbers and depths stay

mutual
  statement_counted : (f : ℕ → ℕ) (s : Statement) → statement_count (numbered_statement f s) ≡ statement_count s
  statement_counted f (step s) = refl
  statement_counted f (loop n b) = ap (λ (k : ℕ). k + 1) (sequence_counted f b)
  statement_counted f (choice bs) = ap (λ (k : ℕ). k + 1) (branches_counted f bs)

  pub sequence_counted : (f : ℕ → ℕ) (b : Sequence) → sequence_count (numbered f b) ≡ sequence_count b
  sequence_counted f skip = refl
  sequence_counted f (andthen s b) = λ i. statement_counted f s i + sequence_counted f b i

  branches_counted : (f : ℕ → ℕ) (bs : Alternatives)
      → alternatives_count (numbered_branches f bs) ≡ alternatives_count bs
  branches_counted f none = refl
  branches_counted f (either b bs) = λ i. sequence_counted f b i + branches_counted f bs i

mutual
  statement_deep : (f : ℕ → ℕ) (s : Statement) → statement_depth (numbered_statement f s) ≡ statement_depth s
  statement_deep f (step s) = refl
  statement_deep f (loop n b) = ap suc (sequence_deep f b)
  statement_deep f (choice bs) = ap suc (branches_deep f bs)

  pub sequence_deep : (f : ℕ → ℕ) (b : Sequence) → sequence_depth (numbered f b) ≡ sequence_depth b
  sequence_deep f skip = refl
  sequence_deep f (andthen s b) = λ i. max (statement_deep f s i) (sequence_deep f b i)

  branches_deep : (f : ℕ → ℕ) (bs : Alternatives) → alternatives_depth (numbered_branches f bs) ≡ alternatives_depth bs
  branches_deep f none = refl
  branches_deep f (either b bs) = λ i. max (sequence_deep f b i) (branches_deep f bs i)

branch_number : (f : ℕ → ℕ) (bs : Alternatives) → branch_count (numbered_branches f bs) ≡ branch_count bs
branch_number f none = refl
branch_number f (either b bs) = ap (λ (k : ℕ). k + 1) (branch_number f bs)

some_numbered : (f : ℕ → ℕ) (b : Sequence) → IsSome b → IsSome (numbered f b)
some_numbered f skip h = h
some_numbered f (andthen s b) h = tt

-- ---- the rules are kept

step_parts : (f : ℕ → ℕ) (m n r : ℕ) → ((k : ℕ) → k < m → f k < n) → (s : Step) → IsStep m r s
    → IsStep n r (numbered_step f s)
step_parts f m n r h (fix k i) (a, b) = (h k a, b)
step_parts f m n r h (unfix k) a = h k a
step_parts f m n r h (latch k o) a = h k a
step_parts f m n r h (unlatch k) a = h k a
step_parts f m n r h (gather k i) (a, b) = (h k a, b)
step_parts f m n r h (scatter k) a = h k a

mutual
  statement_parts : (f : ℕ → ℕ) (m n r : ℕ) → ((k : ℕ) → k < m → f k < n) → (s : Statement) → IsStatement m r s
      → IsStatement n r (numbered_statement f s)
  statement_parts f m n r h (step s) a = step_parts f m n r h s a
  statement_parts f m n r h (loop c b) (x, y, z, a) = (x, y, some_numbered f b z, sequence_parts f m n r h b a)
  statement_parts f m n r h (choice bs) (x, y, a) = let e = branch_number f bs in
      (omega (arith, x, e), omega (arith, y, e), branches_parts f m n r h bs a)

  pub sequence_parts : (f : ℕ → ℕ) (m n r : ℕ) → ((k : ℕ) → k < m → f k < n) → (b : Sequence) → IsSequence m r b
      → IsSequence n r (numbered f b)
  sequence_parts f m n r h skip a = tt
  sequence_parts f m n r h (andthen s b) (a, c) = (statement_parts f m n r h s a, sequence_parts f m n r h b c)

  branches_parts : (f : ℕ → ℕ) (m n r : ℕ) → ((k : ℕ) → k < m → f k < n) → (bs : Alternatives) → AreAlternatives m r bs
      → AreAlternatives n r (numbered_branches f bs)
  branches_parts f m n r h none a = tt
  branches_parts f m n r h (either b bs) (a, c) = (sequence_parts f m n r h b a, branches_parts f m n r h bs c)

-- ---- what spells the body spells it under the new numbers

-- each name stands in the second list at the new number of its place
abbrev pub Moves : (ℕ → ℕ) → List (List ℕ) → List (List ℕ) → Type 0
Moves f xs ys = (k : ℕ) (n : List ℕ) → slice_get xs k ≡ Some n → slice_get ys (f k) ≡ Some n

moved_slot : (f : ℕ → ℕ) (xs ys : List (List ℕ)) → Moves f xs ys → (d : Data) (key : List ℕ) (k : ℕ)
    → HoldsSlot xs d key k → HoldsSlot ys d key (f k)
moved_slot f xs ys h d key k (name, held, is) = (name, held, h k name is)

moved_step : (settings : Configuration) (f : ℕ → ℕ) (xs ys : List (List ℕ)) → Moves f xs ys → (d : Data) (s : Step)
    → SpellsStep settings xs d s → SpellsStep settings ys d (numbered_step f s)
moved_step settings f xs ys h d (fix k r) (a, b, c) = (a, moved_slot f xs ys h d (codes "fix") k b, c)
moved_step settings f xs ys h d (unfix k) (a, b) = (a, moved_slot f xs ys h d (codes "unfix") k b)
moved_step settings f xs ys h d (latch k m) (a, b, c) = (a, moved_slot f xs ys h d (codes "latch") k b, c)
moved_step settings f xs ys h d (unlatch k) (a, b) = (a, moved_slot f xs ys h d (codes "unlatch") k b)
moved_step settings f xs ys h d (gather k r) (a, b, c) = (a, moved_slot f xs ys h d (codes "gather") k b, c)
moved_step settings f xs ys h d (scatter k) (a, b) = (a, moved_slot f xs ys h d (codes "scatter") k b)

mutual
  moved_statement : (settings : Configuration) (f : ℕ → ℕ) (xs ys : List (List ℕ)) → Moves f xs ys
      → (d : Data) (s : Statement) → SpellsStatement settings xs d s
      → SpellsStatement settings ys d (numbered_statement f s)
  moved_statement settings f xs ys h d (step s) a = moved_step settings f xs ys h d s a
  moved_statement settings f xs ys h d (loop n b) (keys, count, body) =
      (keys, count, (body.0, body.1, moved_sequence settings f xs ys h body.0 b body.2))
  moved_statement settings f xs ys h d (choice bs) (keys, body) =
      (keys, (body.0, body.1, moved_branches settings f xs ys h body.0 bs body.2))

  pub moved_sequence : (settings : Configuration) (f : ℕ → ℕ) (xs ys : List (List ℕ)) → Moves f xs ys
      → (ds : Items) (b : Sequence) → SpellsSequence settings xs ds b → SpellsSequence settings ys ds (numbered f b)
  moved_sequence settings f xs ys h no_items skip a = tt
  moved_sequence settings f xs ys h (item d ds) (andthen s b) (a, c) =
      (moved_statement settings f xs ys h d s a, moved_sequence settings f xs ys h ds b c)
  moved_sequence settings f xs ys h no_items (andthen s b) a = absurd a
  moved_sequence settings f xs ys h (item d ds) skip a = absurd a

  moved_branches : (settings : Configuration) (f : ℕ → ℕ) (xs ys : List (List ℕ)) → Moves f xs ys
      → (ds : Items) (bs : Alternatives) → SpellsAlternatives settings xs ds bs
      → SpellsAlternatives settings ys ds (numbered_branches f bs)
  moved_branches settings f xs ys h no_items none a = tt
  moved_branches settings f xs ys h (item d ds) (either b bs) (a, c) =
      ((a.0, a.1, moved_sequence settings f xs ys h a.0 b a.2), moved_branches settings f xs ys h ds bs c)
  moved_branches settings f xs ys h no_items (either b bs) a = absurd a
  moved_branches settings f xs ys h (item d ds) none a = absurd a

-- ---- slots that are used

step_used : (f : ℕ → ℕ) (s : Step) (k : ℕ) → step_slot s ≡ k → step_slot (numbered_step f s) ≡ f k
step_used f (fix j r) k e = ap f e
step_used f (unfix j) k e = ap f e
step_used f (latch j m) k e = ap f e
step_used f (unlatch j) k e = ap f e
step_used f (gather j r) k e = ap f e
step_used f (scatter j) k e = ap f e

mutual
  statement_used : (f : ℕ → ℕ) (s : Statement) (k : ℕ) → IsUsedBy s k → IsUsedBy (numbered_statement f s) (f k)
  statement_used f (step s) k h = step_used f s k h
  statement_used f (loop n b) k h = sequence_used f b k h
  statement_used f (choice bs) k h = branches_used f bs k h

  pub sequence_used : (f : ℕ → ℕ) (b : Sequence) (k : ℕ) → IsUsed b k → IsUsed (numbered f b) (f k)
  sequence_used f skip k h = h
  sequence_used f (andthen s b) k (inl h) = inl (statement_used f s k h)
  sequence_used f (andthen s b) k (inr h) = inr (sequence_used f b k h)

  branches_used : (f : ℕ → ℕ) (bs : Alternatives) (k : ℕ) → IsUsedInBranch bs k
      → IsUsedInBranch (numbered_branches f bs) (f k)
  branches_used f none k h = h
  branches_used f (either b bs) k (inl h) = inl (sequence_used f b k h)
  branches_used f (either b bs) k (inr h) = inr (branches_used f bs k h)

-- a slot that is used has its new number from one that was used before
step_from : (f : ℕ → ℕ) (s : Step) (j : ℕ) → step_slot (numbered_step f s) ≡ j → (k : ℕ) × (step_slot s ≡ k) × (f k ≡ j)
step_from f (fix k r) j e = (k, refl, e)
step_from f (unfix k) j e = (k, refl, e)
step_from f (latch k m) j e = (k, refl, e)
step_from f (unlatch k) j e = (k, refl, e)
step_from f (gather k r) j e = (k, refl, e)
step_from f (scatter k) j e = (k, refl, e)

mutual
  statement_from : (f : ℕ → ℕ) (s : Statement) (j : ℕ) → IsUsedBy (numbered_statement f s) j
      → (k : ℕ) × IsUsedBy s k × (f k ≡ j)
  statement_from f (step s) j h = step_from f s j h
  statement_from f (loop n b) j h = used_from f b j h
  statement_from f (choice bs) j h = branches_from f bs j h

  pub used_from : (f : ℕ → ℕ) (b : Sequence) (j : ℕ) → IsUsed (numbered f b) j → (k : ℕ) × IsUsed b k × (f k ≡ j)
  used_from f skip j h = absurd h
  used_from f (andthen s b) j (inl h) = let (k, is, e) = statement_from f s j h in (k, inl is, e)
  used_from f (andthen s b) j (inr h) = let (k, is, e) = used_from f b j h in (k, inr is, e)

  branches_from : (f : ℕ → ℕ) (bs : Alternatives) (j : ℕ) → IsUsedInBranch (numbered_branches f bs) j
      → (k : ℕ) × IsUsedInBranch bs k × (f k ≡ j)
  branches_from f none j h = absurd h
  branches_from f (either b bs) j (inl h) = let (k, is, e) = used_from f b j h in (k, inl is, e)
  branches_from f (either b bs) j (inr h) = let (k, is, e) = branches_from f bs j h in (k, inr is, e)

step_within : (m r : ℕ) (s : Step) (k : ℕ) → IsStep m r s → step_slot s ≡ k → k < m
step_within m r (fix j i) k h e = omega (arith, h.0, e)
step_within m r (unfix j) k h e = omega (arith, h, e)
step_within m r (latch j o) k h e = omega (arith, h, e)
step_within m r (unlatch j) k h e = omega (arith, h, e)
step_within m r (gather j i) k h e = omega (arith, h.0, e)
step_within m r (scatter j) k h e = omega (arith, h, e)

mutual
  statement_within : (m r : ℕ) (s : Statement) (k : ℕ) → IsStatement m r s → IsUsedBy s k → k < m
  statement_within m r (step s) k h e = step_within m r s k h e
  statement_within m r (loop n b) k h e = used_within m r b k h.3 e
  statement_within m r (choice bs) k h e = branches_within m r bs k h.2 e

  pub used_within : (m r : ℕ) (b : Sequence) (k : ℕ) → IsSequence m r b → IsUsed b k → k < m
  used_within m r skip k h e = absurd e
  used_within m r (andthen s b) k h (inl e) = statement_within m r s k h.0 e
  used_within m r (andthen s b) k h (inr e) = used_within m r b k h.1 e

  branches_within : (m r : ℕ) (bs : Alternatives) (k : ℕ) → AreAlternatives m r bs → IsUsedInBranch bs k → k < m
  branches_within m r none k h e = absurd e
  branches_within m r (either b bs) k h (inl e) = used_within m r b k h.0 e
  branches_within m r (either b bs) k h (inr e) = branches_within m r bs k h.1 e

-- ---- the new number of a place

pub placed : (ordered names : List (List ℕ)) (j k : ℕ) (n : List ℕ) → AreApart ordered → slice_get names k ≡ Some n
    → slice_get ordered j ≡ Some n → place_in ordered names k ≡ j
placed ordered names j k n apart is there =
    get_or-map (new_number ordered) names k [] 0 (slice_get_within names k n is)
    ∙ ap (new_number ordered) (get_or_from_slice_get names k n [] is)
    ∙ ap (λ (o : Option ℕ). unwrap_or o 0) (place_only ordered n j apart there)
