use Rattle.std.proofs.Common.{◌∙◌, Some, None, sym, ap, subst, refl, rules}
use Rattle.pp_vault.specs.declared.refusal.Refusal.TheVariants.{Stranger}
use Rattle.pp_vault.specs.Holding.{slot_by}
use Rattle.pp_play.specs.Moving.{UsesGuard, RefusesGuard}
use Rattle.pp_play.proofs.StillFitting.{StillFit}
use Rattle.pp_play.proofs.Using.{unfix_uses, scatter_uses, latch_uses, unlatch_uses, unfix_refuses, scatter_refuses}
use Rattle.pp_play.proofs.Using.{latch_refuses, unlatch_refuses, unfix_strange, scatter_strange, latch_strange, asks_use}
use Rattle.pp_play.proofs.guards.used.Goals as goal

pub unreachable-requires : goal.unreachable-requires
unreachable-requires c =
    asks_use c.args.session c.args.cue c.requires.uses (slot_by c.args.guard) c.requires.asks c.ask.result c.ask.ensures
    c.in_default.not-Unfix c.in_default.not-Scatter c.in_default.not-Latch c.in_default.not-Unlatch

pub returns-in-Ok-clause-ok : goal.returns-in-Ok-clause-ok
returns-in-Ok-clause-ok c =
    let old = c.args.vault.now in
    let new = c.unfix.new.self in
    let laws : StillFit = record {
      others = c.hands_still_fit.ensures.others;
      slots = c.hands_still_fit.ensures.slots;
      flushing = c.hands_still_fit.ensures.flushing;
    } in
    subst (λ h. UsesGuard old c.args.session h c.args.cue c.in-Ok.done new c.in-Ok.session None) (sym c.in-Pin.is)
    (unfix_uses old new c.requires.kept c.args.session c.args.cue c.requires.uses _ laws c.in-Ok.session c.in-Ok.done
    c.in-Pin.guard (c.requires.asks ∙ ap (λ h. Some (slot_by h)) c.in-Pin.is) (sym c.ask.ensures ∙ c.in-Unfix.is)
    c.in-Ok.ensures.ok c.in-Ok.ensures.empty c.in-Ok.ensures.done)

pub returns-in-Err-clause-err : goal.returns-in-Err-clause-err
returns-in-Err-clause-err c =
    subst (λ h. RefusesGuard c.args.vault.now c.args.session h c.args.cue c.in-Err.refusal) (sym c.in-Pin.is)
    (unfix_refuses c.args.vault.now c.requires.kept c.args.session c.args.cue c.requires.uses _ c.in-Err.refusal c.in-Pin.guard
    (c.requires.asks ∙ ap (λ h. Some (slot_by h)) c.in-Pin.is) (sym c.ask.ensures ∙ c.in-Unfix.is) c.in-Err.ensures.err)

pub returns-in_default-guard : goal.returns-in_default-guard
returns-in_default-guard c = record {
  ok = tt;
  err = unfix_strange c.args.vault.now c.requires.kept c.args.session c.args.cue c.requires.uses _ Stranger c.args.guard
      c.requires.asks (sym c.ask.ensures ∙ c.in-Unfix.is) c.in_default-guard.not-Pin;
  back = search rules;
  unchanged = refl;
}

pub returns-in-Ok-scatter-clause-ok : goal.returns-in-Ok-scatter-clause-ok
returns-in-Ok-scatter-clause-ok c =
    let old = c.args.vault.now in
    let new = c.scatter.new.self in
    let laws : StillFit = record {
      others = c.hands_still_fit.ensures.others;
      slots = c.hands_still_fit.ensures.slots;
      flushing = c.hands_still_fit.ensures.flushing;
    } in
    subst (λ h. UsesGuard old c.args.session h c.args.cue c.in-Ok-scatter.done new c.in-Ok-scatter.session None) (sym c.in-Bundle.is)
    (scatter_uses old new c.requires.kept c.args.session c.args.cue c.requires.uses _ laws c.in-Ok-scatter.session c.in-Ok-scatter.done
    c.in-Bundle.guard (c.requires.asks ∙ ap (λ h. Some (slot_by h)) c.in-Bundle.is) (sym c.ask.ensures ∙ c.in-Scatter.is)
    c.in-Ok-scatter.ensures.ok c.in-Ok-scatter.ensures.empty c.in-Ok-scatter.ensures.done)

pub returns-in-Err-scatter-clause-err : goal.returns-in-Err-scatter-clause-err
returns-in-Err-scatter-clause-err c =
    subst (λ h. RefusesGuard c.args.vault.now c.args.session h c.args.cue c.in-Err-scatter.refusal) (sym c.in-Bundle.is)
    (scatter_refuses c.args.vault.now c.requires.kept c.args.session c.args.cue c.requires.uses _ c.in-Err-scatter.refusal c.in-Bundle.guard
    (c.requires.asks ∙ ap (λ h. Some (slot_by h)) c.in-Bundle.is) (sym c.ask.ensures ∙ c.in-Scatter.is) c.in-Err-scatter.ensures.err)

pub returns-in_default-guard-2 : goal.returns-in_default-guard-2
returns-in_default-guard-2 c = record {
  ok = tt;
  err = scatter_strange c.args.vault.now c.requires.kept c.args.session c.args.cue c.requires.uses _ Stranger c.args.guard
      c.requires.asks (sym c.ask.ensures ∙ c.in-Scatter.is) c.in_default-guard-2.not-Bundle;
  back = search rules;
  unchanged = refl;
}

pub returns-in-Ok-latched-clause-ok : goal.returns-in-Ok-latched-clause-ok
returns-in-Ok-latched-clause-ok c =
    let old = c.args.vault.now in
    let new = c.latched.new.vault in
    let laws : StillFit = record {
      others = c.hands_still_fit.ensures.others;
      slots = c.hands_still_fit.ensures.slots;
      flushing = c.hands_still_fit.ensures.flushing;
    } in
    subst (λ h. UsesGuard old c.args.session h c.args.cue c.in-Ok-latched.done new c.in-Ok-latched.session (Some c.in-Ok-latched.guard)) (sym c.in-Pin-guard.is)
    (latch_uses old new c.requires.kept c.args.session c.args.cue c.requires.uses _ laws c.in-Ok-latched.session c.in-Ok-latched.done
    c.in-Latch.mode c.in-Pin-guard.guard c.in-Ok-latched.guard (c.requires.asks ∙ ap (λ h. Some (slot_by h)) c.in-Pin-guard.is) (sym c.ask.ensures ∙ c.in-Latch.is)
    c.in-Ok-latched.ensures.of c.in-Ok-latched.ensures.slot c.in-Ok-latched.ensures.done c.in-Ok-latched.ensures.changes c.in-Ok-latched.ensures.uses)

pub returns-in-Err-latched-clause-err : goal.returns-in-Err-latched-clause-err
returns-in-Err-latched-clause-err c =
    subst (λ h. RefusesGuard c.args.vault.now c.args.session h c.args.cue c.in-Err-latched.refusal) (sym c.in-Pin-guard.is)
    (latch_refuses c.args.vault.now c.requires.kept c.args.session c.args.cue c.requires.uses _ c.in-Err-latched.refusal c.in-Latch.mode c.in-Pin-guard.guard
    (c.requires.asks ∙ ap (λ h. Some (slot_by h)) c.in-Pin-guard.is) (sym c.ask.ensures ∙ c.in-Latch.is) c.in-Err-latched.ensures.err)

pub returns-in_default-guard-3 : goal.returns-in_default-guard-3
returns-in_default-guard-3 c = record {
  ok = tt;
  err = latch_strange c.args.vault.now c.requires.kept c.args.session c.args.cue c.requires.uses _ Stranger c.in-Latch.mode c.args.guard
      c.requires.asks (sym c.ask.ensures ∙ c.in-Latch.is) c.in_default-guard-3.not-Pin;
  back = search rules;
  unchanged = refl;
}

pub returns-in-Ok-unlatched-clause-ok : goal.returns-in-Ok-unlatched-clause-ok
returns-in-Ok-unlatched-clause-ok c =
    let old = c.args.vault.now in
    let new = c.unlatched.new.vault in
    let laws : StillFit = record {
      others = c.hands_still_fit.ensures.others;
      slots = c.hands_still_fit.ensures.slots;
      flushing = c.hands_still_fit.ensures.flushing;
    } in
    unlatch_uses old new c.requires.kept c.args.session c.args.cue c.requires.uses _ laws c.in-Ok-unlatched.session
    c.in-Ok-unlatched.done c.args.guard c.in-Ok-unlatched.guard c.requires.asks (sym c.ask.ensures ∙ c.in-Unlatch.is)
    c.in-Ok-unlatched.ensures.of c.in-Ok-unlatched.ensures.slot c.in-Ok-unlatched.ensures.done
    c.in-Ok-unlatched.ensures.changes c.in-Ok-unlatched.ensures.uses

pub returns-in-Err-unlatched-clause-err : goal.returns-in-Err-unlatched-clause-err
returns-in-Err-unlatched-clause-err c =
    unlatch_refuses c.args.vault.now c.requires.kept c.args.session c.args.cue c.requires.uses _ c.in-Err-unlatched.kept.2
    c.args.guard c.requires.asks (sym c.ask.ensures ∙ c.in-Unlatch.is) c.in-Err-unlatched.ensures.err
