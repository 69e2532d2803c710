use Rattle.std.proofs.Common.{◌≡◌, ◌+◌, ap, sym, subst, ◌∙◌, arith}
use Rattle.std.specs.Prelude.{slice_get}
use Rattle.std.proofs.lemmas.Option.{slice_get_within}
use Rattle.pp_cursor.specs.Left.{body_at, sequence_drop}
use Rattle.pp_cursor.specs.Cursor.{NamesAction}
use Rattle.pp_cursor.specs.CursorMoves.{ask_at, entered}
use Rattle.pp_plan.specs.FlatList.{flat_body}
use Rattle.pp_cursor.specs.Positions.{position}
use Rattle.pp_cursor.proofs.Rows.{chosen, branch_start, same_row, short}
use Rattle.pp_cursor.proofs.cursor.Cursor.go_past.Goals as goal

pub overflow_add-at : goal.overflow_add-at
overflow_add-at c =
    let b = c.args.plan.now.body in
    let p = c.args.self.now.place in
    let rules = c.requires.facts.body in
    let named = subst (λ a. NamesAction c.args.plan.now.layout (ask_at b p) a) c.in-Choose.is c.requires.named in
    let ch = chosen c.args.plan.now.layout (sequence_drop p.index (body_at b p.entries)) c.in-Choose.branch named in
    let st = branch_start _ _ b p c.in-Choose.branch ch.rest ch.branches rules c.requires.on.path ch.is ch.one in
    let low = slice_get_within (flat_body b) (position b p + 1 + c.in-Choose.branch) st.row st.there in
    let size = short _ _ b rules in
    omega (arith, c.at.ensures, c.from-start.ensures, c.requires.on.on, low, size)

pub step-ahead-requires : goal.step-ahead-requires
step-ahead-requires c =
    let b = c.args.plan.now.body in
    let p = c.args.self.now.place in
    let rules = c.requires.facts.body in
    let named = subst (λ a. NamesAction c.args.plan.now.layout (ask_at b p) a) c.in-Choose.is c.requires.named in
    let ch = chosen c.args.plan.now.layout (sequence_drop p.index (body_at b p.entries)) c.in-Choose.branch named in
    let st = branch_start _ _ b p c.in-Choose.branch ch.rest ch.branches rules c.requires.on.path ch.is ch.one in
    let low = slice_get_within (flat_body b) (position b p + 1 + c.in-Choose.branch) st.row st.there in
    omega (arith, c.at.ensures, c.from-start.ensures, c.requires.on.on, low)

pub enter-requires-clause-fits : goal.enter-requires-clause-fits
enter-requires-clause-fits c =
    let b = c.args.plan.now.body in
    let p = c.args.self.now.place in
    let rules = c.requires.facts.body in
    let named = subst (λ a. NamesAction c.args.plan.now.layout (ask_at b p) a) c.in-Choose.is c.requires.named in
    let ch = chosen c.args.plan.now.layout (sequence_drop p.index (body_at b p.entries)) c.in-Choose.branch named in
    let st = branch_start _ _ b p c.in-Choose.branch ch.rest ch.branches rules c.requires.on.path ch.is ch.one in
    let at : position b p + 1 + c.in-Choose.branch ≡ c.at.result + (1 + c.from-start.result) =
    omega (arith, c.at.ensures, c.from-start.ensures, c.requires.on.on) in
    let same = same_row st.row c.step-ahead.result (sym st.there ∙ ap (slice_get (flat_body b)) at ∙ c.step-ahead.ensures.is)
    in
    let reach = ap (λ x. x.reach) same in
    let size = short _ _ b rules in
    omega (arith, at, reach, st.leads, st.low, c.at.ensures, size)

pub returns-in-Choose-clause-on : goal.returns-in-Choose-clause-on
returns-in-Choose-clause-on c =
    let b = c.args.plan.now.body in
    let p = c.args.self.now.place in
    let rules = c.requires.facts.body in
    let named = subst (λ a. NamesAction c.args.plan.now.layout (ask_at b p) a) c.in-Choose.is c.requires.named in
    let ch = chosen c.args.plan.now.layout (sequence_drop p.index (body_at b p.entries)) c.in-Choose.branch named in
    let st = branch_start _ _ b p c.in-Choose.branch ch.rest ch.branches rules c.requires.on.path ch.is ch.one in
    let at : position b p + 1 + c.in-Choose.branch ≡ c.at.result + (1 + c.from-start.result) =
    omega (arith, c.at.ensures, c.from-start.ensures, c.requires.on.on) in
    let same = same_row st.row c.step-ahead.result (sym st.there ∙ ap (slice_get (flat_body b)) at ∙ c.step-ahead.ensures.is)
    in
    let reach = ap (λ x. x.reach) same in
    let to : c.args.self.now.at + (1 + c.from-start.result + c.step-ahead.result.reach)
    ≡ position b (entered p 0 c.in-Choose.branch) = omega (arith, at, reach, st.leads, c.at.ensures) in
    ap (λ x. x.at) c.enter.ensures ∙ to ∙ ap (position b) (sym (ap (λ x. x.place) c.enter.ensures))
