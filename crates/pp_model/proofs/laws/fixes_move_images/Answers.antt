use Rattle.pp_model.proofs.ReadyLaws.{still_keeps, read_vacates, write_leaves, submit_keeps}
use Rattle.pp_model.proofs.ReadyAnswers.{written_keeps, unwritten_enters, loaded_enters, unread_returns}
use Rattle.pp_model.proofs.Rest.{renewal_keeps}
use Rattle.pp_model.proofs.laws.fixes_move_images.Goals as goal

pub returns-clause-still : goal.returns-clause-still
returns-clause-still c = still_keeps

pub returns-clause-read : goal.returns-clause-read
returns-clause-read c = read_vacates

pub returns-clause-write : goal.returns-clause-write
returns-clause-write c = write_leaves

pub returns-clause-written : goal.returns-clause-written
returns-clause-written c = written_keeps

pub returns-clause-unwritten : goal.returns-clause-unwritten
returns-clause-unwritten c = unwritten_enters

pub returns-clause-loaded : goal.returns-clause-loaded
returns-clause-loaded c = loaded_enters

pub returns-clause-unread : goal.returns-clause-unread
returns-clause-unread c = unread_returns

pub returns-clause-submit : goal.returns-clause-submit
returns-clause-submit c = submit_keeps

pub returns-clause-renewal : goal.returns-clause-renewal
returns-clause-renewal c = renewal_keeps
