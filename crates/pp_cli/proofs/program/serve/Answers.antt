use Rattle.pp_cli.proofs.program.serve.Goals as goal

pub returns-in-Ok-clause-mistake : goal.returns-in-Ok-clause-mistake
returns-in-Ok-clause-mistake g c = rw c.in-Ok.is c.serve_words.ensures.mistake
