-- Commands that are stopped at one of their paths.
use Rattle.std.proofs.Common.{◌≡◌, ◌<◌, ℕ, List, [], ◌∷◌, length, get_or, Result, Ok, Err, IfErr, IsErrAnd}
use Rattle.std.proofs.Common.{MatchResult, sym, subst, ◌∙◌}
use Rattle.std.proofs.Common.{arith}
use Rattle.std.proofs.lemmas.List.{get_or-map, length-map}
use Rattle.std.proofs.lemmas.List.Elements.{Contains-append_left, Contains-append_right, Contains-get_or}
use Rattle.std.specs.Borrow.{Bor}
use Rattle.std.specs.List.{Contains}
use Rattle.pp_judge.specs.Answers.{seen}
use Rattle.pp_judge.specs.declared.exit.Exit.{Exit}
use Rattle.pp_words.specs.CommandLine.{Asked, Text, asked_by, texts}
use Rattle.pp_words.specs.declared.request.Job.{Job}
use Rattle.pp_cli.specs.Runs.{ComesOf, IsStopped, stopped_by}
use Rattle.pp_cli.specs.declared.files.Unread.{Unread}
use Rattle.pp_cli.specs.declared.files.Unread.TheVariants.{File, Memory}

-- What is stopped at one of a few paths is stopped at one of more.
pub stopped_among : (few all : List Text) (why : Unread)
    → ((path : Text) → Contains few path → Contains all path)
    → IsStopped few (stopped_by why) → IsStopped all (stopped_by why)
stopped_among few all (File fault) more stopped = more fault.path.now stopped
stopped_among few all Memory more stopped = tt

-- The second of some paths is one of them.
pub second : (one two : Text) (paths : List Text) (path : Text) → Contains (two ∷ []) path
    → Contains (one ∷ two ∷ paths) path
second one two paths path h =
    Contains-append_right (one ∷ []) (two ∷ paths) path (Contains-append_left (two ∷ []) paths path h)

-- And so are those behind the first.
pub behind_one : (one : Text) (paths : List Text) (path : Text) → Contains paths path → Contains (one ∷ paths) path
behind_one one paths path h = Contains-append_right (one ∷ []) paths path h

-- And those behind the second.
pub behind_two : (one two : Text) (paths : List Text) (path : Text) → Contains paths path
    → Contains (one ∷ two ∷ paths) path
behind_two one two paths path h = Contains-append_right (one ∷ two ∷ []) paths path h

only : (one path : Text) (k : ℕ) → k < 1 → get_or (one ∷ []) k path ≡ path → one ≡ path
only one path k below is =
    let first : k ≡ 0 = omega arith in subst (λ j. get_or (one ∷ []) j path ≡ path) first is

-- The path that is read in its turn is one of them.
pub one_of : (paths : List (Bor Text)) (k : ℕ) (d : Bor Text) (path : Text) → k < length paths
    → Contains ((get_or paths k d).now ∷ []) path → Contains (texts paths) path
one_of paths k d path below h =
    let same : length (texts paths) ≡ length paths = length-map paths (λ text. text.now) in
    let within : k < length (texts paths) = omega (arith, same) in
    subst (Contains (texts paths))
    (get_or-map (λ text. text.now) paths k d d.now below ∙ only (get_or paths k d).now path h.0 h.1 h.2)
    (Contains-get_or (texts paths) k d.now within)

-- What is handed on stops the command so.
pub handed_on : (asked : Asked) (r : Result Exit Unread) (why : Unread) → IsErrAnd r (λ told. told ≡ why)
    → ComesOf asked (stopped_by why)
    → MatchResult r (λ exit. ComesOf asked (seen exit)) (λ told. ComesOf asked (stopped_by told))
handed_on asked (Ok exit) why same comes = absurd same
handed_on asked (Err told) why same comes = subst (λ w. ComesOf asked (stopped_by w)) (sym same) comes

-- And a reading of files.
pub handed_stop : {A : Type 0} (paths : List Text) (r : Result A Unread) (why : Unread)
    → IsErrAnd r (λ told. told ≡ why) → IsStopped paths (stopped_by why)
    → IfErr r (λ told. IsStopped paths (stopped_by told))
handed_stop paths (Ok files) why same stopped = absurd same
handed_stop paths (Err told) why same stopped = subst (λ w. IsStopped paths (stopped_by w)) (sym same) stopped

-- What stops the work of a job stops the job.
pub stops_job : (job : Job) (asked : Asked) (r : Result Exit Unread) (why : Unread) → asked_by job ≡ asked → r ≡ Err why
    → MatchResult r (λ exit. ComesOf asked (seen exit)) (λ told. ComesOf asked (stopped_by told))
    → ComesOf (asked_by job) (stopped_by why)
stops_job job asked (Ok exit) why is stopped comes = absurd cc
stops_job job asked (Err told) why is stopped comes =
    let same : told ≡ why = cc in
    subst (λ a. ComesOf a (stopped_by why)) (sym is) (subst (λ w. ComesOf asked (stopped_by w)) same comes)
