-- Trees as the trees of numbers that a proof tells values apart by.
use Rattle.std.specs.Prelude.{◌≡◌, refl}
use Rattle.std.proofs.Common.{ap}
use Rattle.std.specs.Coded.{Coded, code_by}
use base.Stored.{Gv, gnil, gnum, gcons}
use denote.Struct.Codes.{itself}
use Rattle.pp_plan.specs.declared.mode.Mode.{Mode}
use Rattle.pp_plan.specs.declared.mode.Mode.TheVariants.{S, X}
use Rattle.pp_plan.specs.Tree.{Step, fix, unfix, latch, unlatch, gather, scatter, Statement, step, loop, choice}
use Rattle.pp_plan.specs.Tree.{Sequence, skip, andthen}
use Rattle.pp_plan.specs.Tree.{Alternatives, none, either}

abbrev mode_to : Mode → Gv
mode_to S = gnil
mode_to X = gnum 0

abbrev mode_from : Gv → Mode
mode_from gnil = S
mode_from (gnum n) = X
mode_from (gcons a b) = X

abbrev step_to : Step → Gv
step_to (fix s r) = gcons (gnum s) (gnum r)
step_to (unfix s) = gnum s
step_to (latch s m) = gcons gnil (gcons (gnum s) (mode_to m))
step_to (unlatch s) = gcons gnil (gnum s)
step_to (gather s r) = gcons (gcons gnil (gnum s)) (gnum r)
step_to (scatter s) = gcons (gcons gnil gnil) (gnum s)

abbrev step_from : Gv → Step
step_from (gcons (gnum s) (gnum r)) = fix s r
step_from (gnum s) = unfix s
step_from (gcons gnil (gcons (gnum s) m)) = latch s (mode_from m)
step_from (gcons gnil (gnum s)) = unlatch s
step_from (gcons (gcons gnil (gnum s)) (gnum r)) = gather s r
step_from (gcons (gcons gnil gnil) (gnum s)) = scatter s
step_from _ = unfix 0

step_back : (s : Step) → step_from (step_to s) ≡ s
step_back (fix s r) = refl
step_back (unfix s) = refl
step_back (latch s S) = refl
step_back (latch s X) = refl
step_back (unlatch s) = refl
step_back (gather s r) = refl
step_back (scatter s) = refl

abbrev mutual
  statement_to : Statement → Gv
  statement_to (step s) = gcons gnil (step_to s)
  statement_to (loop n b) = gcons (gnum n) (sequence_to b)
  statement_to (choice bs) = gcons (gcons gnil gnil) (alternatives_to bs)

  sequence_to : Sequence → Gv
  sequence_to skip = gnil
  sequence_to (andthen s b) = gcons (statement_to s) (sequence_to b)

  alternatives_to : Alternatives → Gv
  alternatives_to none = gnil
  alternatives_to (either b bs) = gcons (sequence_to b) (alternatives_to bs)

abbrev mutual
  statement_from : Gv → Statement
  statement_from gnil = choice none
  statement_from (gnum n) = choice none
  statement_from (gcons gnil g) = step (step_from g)
  statement_from (gcons (gnum n) g) = loop n (sequence_from g)
  statement_from (gcons (gcons a b) g) = choice (alternatives_from g)

  sequence_from : Gv → Sequence
  sequence_from gnil = skip
  sequence_from (gnum n) = skip
  sequence_from (gcons a b) = andthen (statement_from a) (sequence_from b)

  alternatives_from : Gv → Alternatives
  alternatives_from gnil = none
  alternatives_from (gnum n) = none
  alternatives_from (gcons a b) = either (sequence_from a) (alternatives_from b)

mutual
  statement_back : (s : Statement) → statement_from (statement_to s) ≡ s
  statement_back (step s) = ap step (step_back s)
  statement_back (loop n b) = ap (loop n) (sequence_back b)
  statement_back (choice bs) = ap choice (alternatives_back bs)

  pub sequence_back : (b : Sequence) → sequence_from (sequence_to b) ≡ b
  sequence_back skip = refl
  sequence_back (andthen s b) = λ i. andthen (statement_back s i) (sequence_back b i)

  pub alternatives_back : (bs : Alternatives) → alternatives_from (alternatives_to bs) ≡ bs
  alternatives_back none = refl
  alternatives_back (either b bs) = λ i. either (sequence_back b i) (alternatives_back bs i)

abbrev pub coded_sequence : Coded Sequence
coded_sequence = code_by Gv itself sequence_to sequence_from sequence_back

abbrev pub coded_alternatives : Coded Alternatives
coded_alternatives = code_by Gv itself alternatives_to alternatives_from alternatives_back
