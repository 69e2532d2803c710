use Rattle.std.proofs.Common.{◌≡◌, ap, arith, rules}
use Rattle.pp_core.specs.Opening.{kept_of}
use Rattle.pp_model.specs.Pool.{Settings}
use Rattle.pp_pool.specs.Parts.{settings_of}
use Rattle.pp_vault.specs.Stages.{AllIdle}
use Rattle.pp_run.proofs.pool.Pool.open.Goals as goal

pub invariant_of-pool : goal.invariant_of-pool
invariant_of-pool c =
    let idle : AllIdle c.args.settings.now.workers c.in_ok-book.hands.workers = search rules in
    let kept : settings_of c.in_ok-book.book ≡ kept_of c.args.settings.now = search rules in
    let workers = ap (λ (k : Settings). k.workers) kept in
    record {
      journal = search rules;
      plans = search rules;
      idle = record { each = λ w low. idle.idle w (omega (arith, low, workers)); no_flush = search rules };
      layout = search rules;
      page_bytes = search rules;
    }
