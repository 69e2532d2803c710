use Rattle.std.proofs.Common.{sym, ap, subst}
use Rattle.pp_core.specs.Queries.{held_of}
use Rattle.pp_vault.specs.Hands.{GuardFits}
use Rattle.pp_vault.proofs.FitTests.{bundle_alone}
use Rattle.pp_play.specs.Exact.{may_look}
use Rattle.pp_play.specs.FirstBytes.{LooksWith, SeesWith}
use Rattle.pp_play.proofs.FirstBytes.{looks_read, looks_write}
use Rattle.pp_play.proofs.Answered.{sees_read, sees_write}
use Rattle.pp_play.proofs.bytes.looked.Goals as goal

pub returns-in-Some-clause-looks : goal.returns-in-Some-clause-looks
returns-in-Some-clause-looks c s st w slot fits =
    let v = c.args.vault.now in
    subst (λ g. LooksWith v s (held_of s w slot) g c.first_byte.result) (sym c.in-Read.is)
    (looks_read v s st w slot c.in-Read.guard c.first_byte.result c.in-Some.body.now
    (subst (λ g. GuardFits v.page_bytes s w slot g) c.in-Read.is fits) c.in-Some.ensures.shown c.first_byte.ensures)

pub returns-in-Write-clause-looks : goal.returns-in-Write-clause-looks
returns-in-Write-clause-looks c s st w slot fits =
    let v = c.args.vault.now in
    subst (λ g. LooksWith v s (held_of s w slot) g c.first_byte-in-Write.result) (sym c.in-Write.is)
    (looks_write v s st w slot c.in-Write.guard c.first_byte-in-Write.result c.body.result.now
    (subst (λ g. GuardFits v.page_bytes s w slot g) c.in-Write.is fits) c.body.ensures c.first_byte-in-Write.ensures)

pub returns-in-Bundle-clause-looks : goal.returns-in-Bundle-clause-looks
returns-in-Bundle-clause-looks c s st w slot fits =
    let v = c.args.vault.now in
    ap may_look
    (bundle_alone s st.core.reached w slot
    (subst (λ g. GuardFits v.page_bytes s w slot g) c.in-Bundle.is fits).gathered)

pub returns-in-Some-clause-sees : goal.returns-in-Some-clause-sees
returns-in-Some-clause-sees c s st =
    let v = c.args.vault.now in
    subst (λ g. SeesWith v s g c.first_byte.result) (sym c.in-Read.is)
    (sees_read v s st c.in-Read.guard c.first_byte.result c.in-Some.body.now c.in-Some.ensures.shown
    c.first_byte.ensures)

pub returns-in-Write-clause-sees : goal.returns-in-Write-clause-sees
returns-in-Write-clause-sees c s st =
    let v = c.args.vault.now in
    subst (λ g. SeesWith v s g c.first_byte-in-Write.result) (sym c.in-Write.is)
    (sees_write v s c.in-Write.guard c.first_byte-in-Write.result c.body.result.now c.body.ensures
    c.first_byte-in-Write.ensures)
