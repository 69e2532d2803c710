use Rattle.pp_pool.specs.Parts.{settings_of}
use Rattle.pp_run.proofs.running.run_once.Given as goal

abbrev pub ghosts-live : goal.ghosts-live
ghosts-live g a =
    record {
      settings = settings_of a.ready.book;
      plans = a.plans.items;
      outset = a.ready.book.began;
      page_bytes = a.ready.book.vault.page_bytes;
    }
