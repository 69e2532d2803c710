use Rattle.std.proofs.Common.{◌∙◌, None, Some, refl, sym, ap}
use Rattle.pp_hall.specs.declared.told.Told.{Told}
use Rattle.pp_steps.proofs.Turns.{flushes_over}
use Rattle.pp_steps.proofs.flusher.AwayFlusher.turn.Goals as goal

pub returns-clause-flushes : goal.returns-clause-flushes
returns-clause-flushes c =
    flushes_over c.args.self.flusher _ c.turn-turned.new.self _ c.args.hall.value c.take_back-hall.result.0.value
    c.turn-turned.result c.take_back-hall.result.1
    (record { device = refl; flushing = refl; ended = refl; failed = refl; from = refl })
    (c.lend.ensures ∙ ap (λ (told : Told). record { hall = Some c.args.hall.value; plan = None; told = told }) c.requires.told)
    c.turn-turned.ensures c.take_back-hall.ensures.hall (sym c.take_back-hall.ensures.told)
    (record { device = refl; flushing = refl; ended = refl; failed = refl; from = refl })
