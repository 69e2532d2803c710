use Rattle.pp_settings.proofs.Trees.{known_keys_of}
use Rattle.pp_settings.proofs.reading.only_known.Goals as goal

pub returns-then-not-has_known_keys : goal.returns-then-not-has_known_keys
returns-then-not-has_known_keys c =
    rw (← known_keys_of c.args.version c.args.region c.args.table.now, ← c.has_known_keys.ensures, c.if-not-has_known_keys.true)

pub returns : goal.returns
returns c =
    rw (← known_keys_of c.args.version c.args.region c.args.table.now, ← c.has_known_keys.ensures, c.if-not-has_known_keys.false)
