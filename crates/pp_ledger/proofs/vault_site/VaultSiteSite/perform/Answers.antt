use Rattle.std.proofs.Common.{refl}
use Rattle.pp_ledger.proofs.Answering.{answers, answers_fit}
use Rattle.pp_ledger.proofs.vault_site.VaultSiteSite.perform.Goals as goal

pub returns-clause-given : goal.returns-clause-given
returns-clause-given c = (
  answers c.args.self.now.vault c.known.ensures.holds.kept c.args.request c.ask-answer.result.0 c.ask-answer.new.vault
      c.ask-answer.result.1 c.ask-answer.ensures.comes c.ask-answer.ensures.does c.ask-answer.ensures.done
      c.event_of-event.result c.event_of-event.ensures,
  refl,
)

pub returns-clause-fits : goal.returns-clause-fits
returns-clause-fits c =
    answers_fit c.args.self.now.vault c.known.ensures.holds.kept c.args.request c.ask-answer.result.0
    c.ask-answer.new.vault c.ask-answer.result.1 c.ask-answer.ensures.comes c.ask-answer.ensures.does
    c.ask-answer.ensures.done c.event_of-event.result c.event_of-event.ensures c.ask-answer.ensures.tokens
