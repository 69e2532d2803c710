use Rattle.std.proofs.Common.{◌≡◌, ◌-◌, ◌+◌, ℕ, Some, ap, sym, subst, ◌∙◌, arith}
use Rattle.std.specs.Prelude.{slice_get}
use Rattle.pp_cursor.specs.CursorMoves.{IsPassedBy, left_by, out_by}
use Rattle.pp_plan.specs.FlatList.{flat_body}
use Rattle.pp_cursor.specs.Positions.{position}
use Rattle.pp_cursor.proofs.Rows.{back_to, within, short, around, around_path, out_at, out_passed, out_place, out_small}
use Rattle.pp_cursor.proofs.cursor.Cursor.leave.Goals as goal

pub overflow_sub-around : goal.overflow_sub-around
overflow_sub-around c =
    let (st, (there, is)) = c.requires.back in
    let from =
    back_to _ _ c.args.plan.now.body c.args.self.now.place c.args.self.now.at st c.requires.facts.body
    c.requires.on.path c.requires.on.on c.requires.ends there in
    omega (arith, from, is, c.at.ensures)

pub step-whole-requires : goal.step-whole-requires
step-whole-requires c =
    let b = c.args.plan.now.body in
    let p = c.args.self.now.place in
    let (st, (there, is)) = c.requires.back in
    let from =
    back_to _ _ b p c.args.self.now.at st c.requires.facts.body c.requires.on.path c.requires.on.on c.requires.ends there
    in
    let low =
    within _ _ b (around p p.entries) c.requires.facts.body
    (around_path b p p.entries c.requires.on.path c.requires.on.path) in
    omega (arith, from, is, c.at.ensures, low)

pub go_out-requires-clause-fits : goal.go_out-requires-clause-fits
go_out-requires-clause-fits c =
    let b = c.args.plan.now.body in
    let p = c.args.self.now.place in
    let rules = c.requires.facts.body in
    let (st, (there, is)) = c.requires.back in
    let from = back_to _ _ b p c.args.self.now.at st rules c.requires.on.path c.requires.on.on c.requires.ends there in
    let at : c.at.result - c.args.back ≡ position b (around p p.entries) = omega (arith, from, is, c.at.ensures) in
    let found : slice_get (flat_body b) (position b (around p p.entries)) ≡ Some c.step-whole.result =
    ap (slice_get (flat_body b)) (sym at) ∙ c.step-whole.ensures.is in
    let low =
    within _ _ b (around p p.entries) rules (around_path b p p.entries c.requires.on.path c.requires.on.path) in
    let small = out_small _ _ b p p.entries c.step-whole.result rules c.requires.on.path c.requires.has found in
    let size = short _ _ b rules in
    omega (arith, at, low, small, size)

pub go_out-requires-clause-some : goal.go_out-requires-clause-some
go_out-requires-clause-some c =
    let b = c.args.plan.now.body in
    let p = c.args.self.now.place in
    let rules = c.requires.facts.body in
    let (st, (there, is)) = c.requires.back in
    let from = back_to _ _ b p c.args.self.now.at st rules c.requires.on.path c.requires.on.on c.requires.ends there in
    let at : c.at.result - c.args.back ≡ position b (around p p.entries) = omega (arith, from, is, c.at.ensures) in
    let low =
    within _ _ b (around p p.entries) rules (around_path b p p.entries c.requires.on.path c.requires.on.path) in
    let size = short _ _ b rules in
    omega (arith, at, low, size)

pub go_out-requires-clause-low : goal.go_out-requires-clause-low
go_out-requires-clause-low c =
    let b = c.args.plan.now.body in
    let p = c.args.self.now.place in
    let rules = c.requires.facts.body in
    let (st, (there, is)) = c.requires.back in
    let from = back_to _ _ b p c.args.self.now.at st rules c.requires.on.path c.requires.on.on c.requires.ends there in
    let at : c.at.result - c.args.back ≡ position b (around p p.entries) = omega (arith, from, is, c.at.ensures) in
    let found : slice_get (flat_body b) (position b (around p p.entries)) ≡ Some c.step-whole.result =
    ap (slice_get (flat_body b)) (sym at) ∙ c.step-whole.ensures.is in
    subst (λ (n : ℕ). IsPassedBy p.entries (n + c.step-whole.result.reach)) (sym at)
    (out_passed _ _ b p p.entries c.step-whole.result rules c.requires.on.path c.requires.has found)

pub returns-clause-on : goal.returns-clause-on
returns-clause-on c =
    let b = c.args.plan.now.body in
    let p = c.args.self.now.place in
    let rules = c.requires.facts.body in
    let (st, (there, is)) = c.requires.back in
    let from = back_to _ _ b p c.args.self.now.at st rules c.requires.on.path c.requires.on.on c.requires.ends there in
    let at : c.at.result - c.args.back ≡ position b (around p p.entries) = omega (arith, from, is, c.at.ensures) in
    let found : slice_get (flat_body b) (position b (around p p.entries)) ≡ Some c.step-whole.result =
    ap (slice_get (flat_body b)) (sym at) ∙ c.step-whole.ensures.is in
    let reach = c.step-whole.result.reach in
    let to = out_at _ _ b p p.entries c.step-whole.result c.args.self.now rules c.requires.on.path c.requires.has found in
    let place : c.go_out.new.self.place ≡ left_by p p.entries = ap (λ x. x.place) c.go_out.ensures
    ∙ out_place p p.entries (c.at.result - c.args.back) reach c.args.self.now c.requires.has in
    ap (λ x. x.at) c.go_out.ensures ∙ ap (λ n. (out_by p.entries n reach c.args.self.now).at) at ∙ to
    ∙ ap (position b) (sym place)
