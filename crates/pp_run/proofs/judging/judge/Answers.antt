use Rattle.std.proofs.Common.{inr, rules, sym, ◌∙◌}
use Rattle.std.proofs.lemmas.Bool.{false≢true}
use Rattle.pp_run.specs.Ends.{Settled}
use Rattle.pp_run.specs.Verdicts.{IsSound, IsVerdict}
use Rattle.pp_run.proofs.Judged.{unlike_verdict}
use Rattle.pp_run.proofs.judging.judge.Goals as goal

pub returns-then-not-is_counted-clause-error : goal.returns-then-not-is_counted-clause-error
returns-then-not-is_counted-clause-error g c =
    let settled : Settled c.args.worked.items c.args.events.now.items c.in_ok-back.back.items = search rules in
    let sound : IsSound c.args.worked.items c.args.flushed.now c.args.events.now.items c.args.left = record {
      workers = search rules;
      flusher = search rules;
      over = search rules;
      flushed = search rules;
    } in (
      sound,
      inr (
        search rules,
        record {
          logs = λ v x low. (settled.each v x x.device low).log;
          other = λ same. false≢true (sym c.if-not-is_counted.true ∙ c.is_counted.ensures.1 (let s = same in grind rules));
        },
      ),
    )

pub returns-in_err-back-clause-error : goal.returns-in_err-back-clause-error
returns-in_err-back-clause-error g c =
    let sound : IsSound c.args.worked.items c.args.flushed.now c.args.events.now.items c.args.left = record {
      workers = search rules;
      flusher = search rules;
      over = search rules;
      flushed = search rules;
    } in
    let said : IsVerdict c.args.worked.items c.args.flushed.now c.args.events.now.items c.args.left c.in_err-back.field-0.0
    = unlike_verdict c.args.worked.items c.args.flushed.now c.args.events.now.items c.args.left c.in_err-back.field-0.0 sound
    c.in_err-back.ensures.error in
    search rules
