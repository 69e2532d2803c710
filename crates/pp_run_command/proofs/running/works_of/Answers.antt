use Rattle.std.proofs.Common.{◌∷◌, [], ◌++◌, ◌∙◌, ◌+◌, ap, sym, zero-add}
use Rattle.std.proofs.lemmas.List.FromFn.{map-range_with_len_more}
use Rattle.pp_run_command.specs.Choices.{new_rounds, new_works}
use Rattle.pp_run_command.proofs.running.works_of.Goals as goal

pub loop-worker-preserved : goal.loop-worker-preserved
loop-worker-preserved c =
    let k = c.loop-worker.worker in (
      c.in_ok-push.ensures.len ∙ ap (λ n. n + 1) c.loop-worker.invariant.0,
      c.in_ok-push.ensures.items ∙ ap (λ works. works ++ c.new.result ∷ []) c.loop-worker.invariant.1
          ∙ ap (λ one. new_works c.args.seed k ++ one ∷ []) c.new.ensures
          ∙ sym (map-range_with_len_more (new_rounds c.args.seed) 0 k k (zero-add k)),
    )
