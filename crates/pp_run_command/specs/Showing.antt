-- What a terminal shows of a run that goes on.
use Rattle.std.specs.Prelude.{ℕ, List, ◌++◌, codes}
use Rattle.std.specs.Fmt.{decimal}

-- The line of a run of so many plans: how many have ended, and how many pages were read and written. It begins where the
-- terminal's line begins.
abbrev pub progress_line : (plans all read written : ℕ) → List ℕ
progress_line plans all read written =
    codes "\r" ++ (decimal plans ++ (codes " of " ++ (decimal all ++ (codes " plans, " ++ (decimal read
    ++ (codes " pages read, " ++ (decimal written ++ codes " written")))))))
