use Rattle.std.proofs.Common.{subst}
use Rattle.pp_pool.specs.Books.{IsBook}
use Rattle.pp_pool.proofs.Growing.{book_headline}
use Rattle.pp_pool.proofs.book.Book.renew.Goals as goal

pub returns-then-is_err-clause-headline : goal.returns-then-is_err-clause-headline
returns-then-is_err-clause-headline c = book_headline c.args.self.now (subst IsBook c.self.view_is c.self.invariant)

pub returns-in-Ok-clause-headline : goal.returns-in-Ok-clause-headline
returns-in-Ok-clause-headline c = book_headline c.begin_anew.new.self c.begin_anew.ensures.kept

pub returns-in-Err-clause-headline : goal.returns-in-Err-clause-headline
returns-in-Err-clause-headline c = book_headline c.begin_anew.new.self c.begin_anew.ensures.kept
