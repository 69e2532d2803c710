use Rattle.std.proofs.Common.{◌≡◌, ◌≢◌, ◌∙◌, ◌++◌, true, [], ◌∷◌, length, take, drop, refl, sym, ap, subst, arith, rules}
use Rattle.std.specs.List.{list_all}
use Rattle.std.specs.Prelude.{vec_len}
use denote.Exit.{no}
use denote.Param.Send.{param_send, arg_send}
use Rattle.pp_model.specs.Pool.{Settings}
use Rattle.pp_pool.specs.Parts.{settings_of, opening_of}
use Rattle.pp_report.specs.Reports.{is_move}
use Rattle.pp_run.specs.Calling.{begun_flushes_in}
use Rattle.pp_run.specs.Ends.{AllWorkedFrom, FlushedFrom, GivesBack}
use Rattle.pp_run.specs.Runs.{submits}
use Rattle.pp_run.specs.Verdicts.{IsVerdict}
use Rattle.pp_run.specs.declared.error.RunError.TheVariants.{OutOfMemory}
use Rattle.pp_run.proofs.Joined.{gives_called}
use Rattle.pp_run.proofs.Judged.{unstarted, unstarted_run, joined, judged, names_thread, stops_unstarted, stops_judged}
use Rattle.pp_run.proofs.Ran.{ended, opened_as}
use Rattle.pp_run.proofs.Ready.{taken_at_begin, stopped}
use Rattle.pp_run.proofs.Sent.{desk_send}
use Rattle.pp_run.proofs.life.live.Goals as goal

pub run_all-joined-requires-send-B : goal.run_all-joined-requires-send-B
run_all-joined-requires-send-B g c κs within =
    param_send 0 _ (arg_send _ no _ (desk_send _ _ g.N.Naming c.type_bounds.send-N))

pub invariant_of-stalled : goal.invariant_of-stalled
invariant_of-stalled g c = record {
  laid = c.requires.layout ∙ sym (ap (λ (k : Settings). k.layout) (c.into_parts-book.ensures.settings ∙ c.requires.settings));
  sized = c.requires.vault_bytes ∙ sym (c.into_parts-book.ensures.page_bytes ∙ c.requires.page_bytes);
}

pub invariant_of-stalled-2 : goal.invariant_of-stalled-2
invariant_of-stalled-2 g c = record {
  laid = c.requires.layout ∙ sym (ap (λ (k : Settings). k.layout) (c.into_parts-book.ensures.settings ∙ c.requires.settings));
  sized = c.requires.vault_bytes ∙ sym (c.into_parts-book.ensures.page_bytes ∙ c.requires.page_bytes);
}

pub returns-in-Ok-back-clause-end : goal.returns-in-Ok-back-clause-end
returns-in-Ok-back-clause-end g c =
    let b = c.into_parts-book.result.0 in
    ended (opening_of c.args.ready.book) c.args.plans.items b c.left_of-left.result
    (opened_as (settings_of c.args.ready.book) c.args.ready.book.began b
    (c.into_parts-book.ensures.settings ∙ c.requires.settings) (c.into_parts-book.ensures.outset ∙ c.requires.outset))
    (c.into_parts-book.ensures.plans ∙ c.requires.plans)
    (subst (λ ps. take (length ps) b.journal ≡ submits 0 (length ps)) c.requires.plans c.into_parts-book.ensures.submits)
    (subst (λ ps. list_all is_move (drop (length ps) b.journal) ≡ true) c.requires.plans c.into_parts-book.ensures.moves)
    c.in-Ok-back.ensures.over c.left_of-left.ensures.ended c.left_of-left.ensures.over c.left_of-left.ensures.dirty
    c.left_of-left.ensures.flushes
    (λ some. ap begun_flushes_in (sym c.journal.ensures.items) ∙ c.in-Ok-back.ensures.flushed some)

pub returns-in-Ok-back-clause-devices : goal.returns-in-Ok-back-clause-devices
returns-in-Ok-back-clause-devices g c =
    let calls = g.D.Device.calls in
    let failures = g.D.Device.failures in
    let b = c.into_parts-book.result.0 in
    let workers = (settings_of c.args.ready.book).workers in
    let long : length c.pop.new.self.items ≡ workers = search rules in
    let given : c.args.devices.items ≡ c.pop.new.self.items ++ c.in-Some.last ∷ [] = search rules in
    let ends : AllWorkedFrom calls failures c.pop.new.self.items c.in-Ok.ends.0.items = search rules in
    let ending : FlushedFrom calls failures c.in-Some.last c.in-Ok.ends.1 = search rules in
    let gives : GivesBack c.in-Ok.ends.0.items c.in-Ok.ends.1 b.journal c.in-Ok-back.devices.items
    = subst (λ es. GivesBack c.in-Ok.ends.0.items c.in-Ok.ends.1 es c.in-Ok-back.devices.items) c.journal.ensures.items
    c.in-Ok-back.ensures.devices in
    gives_called calls failures workers c.pop.new.self.items c.in-Some.last c.in-Ok.ends.0.items
    c.in-Ok.ends.1 b.journal c.in-Ok-back.devices.items c.args.devices.items long ends ending gives given

pub returns-in-Err-clause-error : goal.returns-in-Err-clause-error
returns-in-Err-clause-error g c =
    let taken = taken_at_begin c.args.ready.book c.args.plans.items c.requires.fresh.0 c.requires.taken in
    let few : vec_len c.pop.new.self ≡ (settings_of c.args.ready.book).workers = search rules in
    unstarted_run (opening_of c.args.ready.book) c.args.plans.items _ c.in-Err.error taken (omega (arith, few)) c.in-Err.ensures.error

pub returns-in-Err-clause-verdict : goal.returns-in-Err-clause-verdict
returns-in-Err-clause-verdict g c =
    unstarted g.D.Device.calls g.D.Device.failures (opening_of c.args.ready.book) c.args.plans.items c.args.devices.items _
    c.in-Err.error c.in-Err.ensures.error

pub returns-in-Err-clause-stopped : goal.returns-in-Err-clause-stopped
returns-in-Err-clause-stopped g c =
    let b = c.into_parts-book.result.0 in
    stopped c.args.ready.book _ _ _ c.args.plans.items (c.into_parts-book.ensures.settings ∙ c.requires.settings)
    (c.into_parts-book.ensures.outset ∙ c.requires.outset) (c.into_parts-book.ensures.plans ∙ c.requires.plans)
    (subst (λ ps. take (length ps) b.journal ≡ submits 0 (length ps)) c.requires.plans c.into_parts-book.ensures.submits)
    (subst (λ ps. list_all is_move (drop (length ps) b.journal) ≡ true) c.requires.plans c.into_parts-book.ensures.moves) c.requires.layout refl refl

pub returns-in-Err-clause-may_stop : goal.returns-in-Err-clause-may_stop
returns-in-Err-clause-may_stop g c = stops_unstarted _ c.in-Err.error c.in-Err.ensures.error

pub returns-in-Err-back-clause-error : goal.returns-in-Err-back-clause-error
returns-in-Err-back-clause-error g c =
    let taken = taken_at_begin c.args.ready.book c.args.plans.items c.requires.fresh.0 c.requires.taken in
    let long : length c.pop.new.self.items ≡ (settings_of c.args.ready.book).workers = search rules in
    let ends : AllWorkedFrom g.D.Device.calls g.D.Device.failures c.pop.new.self.items c.in-Ok.ends.0.items = search rules in
    names_thread (opening_of c.args.ready.book) c.args.plans.items c.in-Ok.ends.0.items c.in-Ok.ends.1 c.journal.result.now.items
    c.left_of-left.result c.in-Err-back.error taken (ends.0 ∙ long) c.in-Err-back.ensures.error

pub returns-in-Err-back-clause-verdict : goal.returns-in-Err-back-clause-verdict
returns-in-Err-back-clause-verdict g c =
    let calls = g.D.Device.calls in
    let failures = g.D.Device.failures in
    let b = c.into_parts-book.result.0 in
    let o = opening_of c.args.ready.book in
    let long : length c.pop.new.self.items ≡ (settings_of c.args.ready.book).workers = search rules in
    let given : c.args.devices.items ≡ c.pop.new.self.items ++ c.in-Some.last ∷ [] = search rules in
    let ends : AllWorkedFrom calls failures c.pop.new.self.items c.in-Ok.ends.0.items = search rules in
    let ending : FlushedFrom calls failures c.in-Some.last c.in-Ok.ends.1 = search rules in
    judged calls failures o c.args.plans.items c.args.devices.items c.in-Ok.ends.0.items c.in-Ok.ends.1 b.journal
    c.left_of-left.result c.in-Err-back.error
    (joined calls failures o c.args.plans.items b c.pop.new.self.items c.in-Some.last c.args.devices.items
    c.in-Ok.ends.0.items c.in-Ok.ends.1 c.left_of-left.result c.left_of-left.ensures.kept
    (opened_as (settings_of c.args.ready.book) c.args.ready.book.began b
    (c.into_parts-book.ensures.settings ∙ c.requires.settings) (c.into_parts-book.ensures.outset ∙ c.requires.outset))
    (c.into_parts-book.ensures.plans ∙ c.requires.plans)
    (subst (λ ps. take (length ps) b.journal ≡ submits 0 (length ps)) c.requires.plans c.into_parts-book.ensures.submits)
    (subst (λ ps. list_all is_move (drop (length ps) b.journal) ≡ true) c.requires.plans c.into_parts-book.ensures.moves)
    long given ends ending c.left_of-left.ensures.ended c.left_of-left.ensures.dirty c.left_of-left.ensures.flushes)
    (subst (λ es. c.in-Err-back.error ≢ OutOfMemory → IsVerdict c.in-Ok.ends.0.items c.in-Ok.ends.1 es c.left_of-left.result c.in-Err-back.error)
    c.journal.ensures.items c.in-Err-back.ensures.error)

pub returns-in-Err-back-clause-stopped : goal.returns-in-Err-back-clause-stopped
returns-in-Err-back-clause-stopped g c =
    let b = c.into_parts-book.result.0 in
    stopped c.args.ready.book _ _ _ c.args.plans.items (c.into_parts-book.ensures.settings ∙ c.requires.settings)
    (c.into_parts-book.ensures.outset ∙ c.requires.outset) (c.into_parts-book.ensures.plans ∙ c.requires.plans)
    (subst (λ ps. take (length ps) b.journal ≡ submits 0 (length ps)) c.requires.plans c.into_parts-book.ensures.submits)
    (subst (λ ps. list_all is_move (drop (length ps) b.journal) ≡ true) c.requires.plans c.into_parts-book.ensures.moves) c.requires.layout refl refl

pub returns-in-Err-back-clause-may_stop : goal.returns-in-Err-back-clause-may_stop
returns-in-Err-back-clause-may_stop g c =
    stops_judged c.in-Ok.ends.0.items c.in-Ok.ends.1 c.journal.result.now.items c.left_of-left.result c.in-Err-back.error
    c.in-Err-back.ensures.error
