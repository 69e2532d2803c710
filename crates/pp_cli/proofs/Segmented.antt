-- Files of segments, each of which is audited before the next is read.
use Rattle.std.proofs.Common.{◌≡◌, ◌⊎◌, ◌<◌, ◌≤◌, ◌+◌, ◌-◌, ◌==◌, ℕ, zero, suc, Bool, true, false}
use Rattle.std.proofs.Common.{List, [], ◌∷◌, ◌++◌, length, drop, get_or, map, take}
use Rattle.std.proofs.Common.{Option, Some, None, Result, Ok, Err, IfSome, IsErrAnd, MatchResult, is_ok}
use Rattle.std.proofs.Common.{sym, ap, subst, ◌∙◌}
use Rattle.std.proofs.Common.{arith, drop-cons, if◌then◌else◌, inl, inr, length-append, length-drop}
use Rattle.std.proofs.lemmas.List.{get_or-map, length-map, length-take-le, map-append, take-append-drop}
use Rattle.std.proofs.lemmas.List.Elements.{Contains-append_cases, Contains-append_left, Contains-append_right}
use Rattle.std.proofs.lemmas.List.Elements.{Contains-get_or}
use Rattle.std.specs.Borrow.{Bor}
use Rattle.std.specs.List.{Contains}
use Rattle.pp_explain.specs.Paragraphs.{IsAbout}
use Rattle.pp_text.specs.Steps.{Refuses}
use Rattle.pp_segments.specs.declared.auditor.SegmentAuditor.{SegmentAuditor}
use Rattle.pp_judge.specs.Answers.{Answer, ComesTo, answer_of_segments, segments_answer, seen}
use Rattle.pp_judge.specs.Judgement.{segments_audited_in}
use Rattle.pp_judge.specs.Passed.{HasPassed}
use Rattle.pp_judge.specs.declared.error.JudgeError.{JudgeError}
use Rattle.pp_judge.specs.declared.exit.Exit.{Exit}
use Rattle.pp_judge.specs.declared.exit.Exit.TheVariants.{OutOfMemory, Refused}
use Rattle.pp_words.specs.CommandLine.{Asked, Text, texts}
use Rattle.pp_cli.specs.Runs.{ComesOf, IsStopped, stopped_by}
use Rattle.pp_cli.specs.declared.files.Unread.{Unread}

-- ---- files by their places

-- A file among those before it and behind it.
split_at : (files : List (Bor Text)) (k : ℕ) (d : Bor Text) → k < length files
    → texts files ≡ texts (take k files) ++ (get_or files k d).now ∷ texts (drop (k + 1) files)
split_at files k d low =
    let next : suc k ≡ k + 1 = omega arith in
    ap texts (sym (take-append-drop k files))
    ∙ map-append (λ text. text.now) (take k files) (drop k files)
    ∙ ap (λ left. texts (take k files) ++ texts left) (drop-cons files k d low)
    ∙ ap (λ j. texts (take k files) ++ (get_or files k d).now ∷ texts (drop j files)) next

as_many : (files : List (Bor Text)) (k : ℕ) → k ≤ length files → length (texts (take k files)) ≡ k
as_many files k low = length-map (take k files) (λ text. text.now) ∙ length-take-le k files low

-- What files may have that aren't read.
unknown : List (Bor Text) → List (List ℕ)
unknown files = map (λ file. []) files

long_with : (files : List (Bor Text)) (done : List (List ℕ)) (text : List ℕ) (k : ℕ) → k < length files
    → length done ≡ k → length (done ++ text ∷ unknown (drop (k + 1) files)) ≡ length (texts files)
unfolding unknown
long_with files done text k low here =
    let left : length {A = List ℕ} (map (λ file. []) (drop (k + 1) files)) ≡ length (drop (k + 1) files) =
    length-map (drop (k + 1) files) (λ file. []) in
    let all : length (texts files) ≡ length files = length-map files (λ text. text.now) in
    omega (
      arith,
      low,
      here,
      left,
      all,
      length-drop (k + 1) files,
      length-append done (text ∷ map (λ file. []) (drop (k + 1) files)),
    )

pub its_path : (files : List (Bor Text)) (k : ℕ) (d : Bor Text) → k < length files
    → Contains (texts files) (get_or files k d).now
its_path files k d low =
    let same : length (texts files) ≡ length files = length-map files (λ text. text.now) in
    let within : k < length (texts files) = omega (arith, low, same) in
    subst (Contains (texts files)) (get_or-map (λ text. text.now) files k d d.now low)
    (Contains-get_or (texts files) k d.now within)

pub first_path : (one : Text) (others : List Text) → Contains (one ∷ others) one
first_path one others =
    let alone : 0 < length (one ∷ []) = omega arith in
    Contains-append_left (one ∷ []) others one (Contains-get_or (one ∷ []) 0 one alone)

pub last_low : (n : ℕ) (b : Bool) → b ≡ (n == 0) → b ≡ false → n - 1 < n
last_low zero b is there = absurd cc
last_low (suc n) b is there = omega arith

-- ---- what they come to

-- What is handed on stops the command so.
pub handed_on : {A : Type 0} (answer_of : A → Answer) (asked : Asked) (r : Result A Unread) (why : Unread)
    → IsErrAnd r (λ told. told ≡ why) → ComesOf asked (stopped_by why)
    → MatchResult r (λ x. ComesOf asked (answer_of x)) (λ told. ComesOf asked (stopped_by told))
handed_on answer_of asked (Ok x) why same comes = absurd same
handed_on answer_of asked (Err told) why same comes = subst (λ w. ComesOf asked (stopped_by w)) (sym same) comes

-- A file that can't be read in its turn.
pub unread_at : (ended : Bool) (settings : Text) (plans : List Text) (files : List (Bor Text)) (s : List ℕ)
    (ps done : List (List ℕ)) (auditor : SegmentAuditor) (k : ℕ) (d : Bor Text) (why : Unread)
    → length ps ≡ length plans → HasPassed s ps done auditor → length done ≡ k → k < length files
    → IsStopped ((get_or files k d).now ∷ []) (stopped_by why)
    → ComesOf (Asked.segments ended settings plans (texts files)) (stopped_by why)
unread_at ended settings plans files s ps done auditor k d why long h here low stopped =
    let within : k ≤ length files = omega (arith, low) in
    inr (
      s,
      ps,
      long,
      inl (record {
        before = texts (take k files);
        path = (get_or files k d).now;
        behind = texts (drop (k + 1) files);
        files_are = split_at files k d low;
        bytes = done;
        long = here ∙ sym (as_many files k within);
        right = ap is_ok h.right;
        stops = stopped;
      }),
    )

-- A file that is refused, whatever those behind it have.
pub refused_at : (b : Bool) (ended : Bool) (settings : Text) (plans : List Text) (files : List (Bor Text)) (s : List ℕ)
    (ps done : List (List ℕ)) (text : List ℕ) (k : ℕ) (refusal : JudgeError) (exit : Exit)
    → length ps ≡ length plans → length done ≡ k → k < length files
    → exit ≡ (if b then OutOfMemory else Refused refusal)
    → ((more : List (List ℕ)) → segments_audited_in ended s ps (done ++ text ∷ more) ≡ Err refusal)
    → ComesOf (Asked.segments ended settings plans (texts files)) (seen exit)
refused_at true ended settings plans files s ps done text k refusal exit long here low is told =
    subst (λ o. ComesOf (Asked.segments ended settings plans (texts files)) (seen o)) (sym is) (inl tt)
refused_at false ended settings plans files s ps done text k refusal exit long here low is told =
    inr (
      s,
      ps,
      long,
      inr (
        done ++ text ∷ unknown (drop (k + 1) files),
        long_with files done text k low here,
        ap seen is ∙ sym (ap answer_of_segments (told (unknown (drop (k + 1) files)))),
      ),
    )

-- All files.
pub ended_at : (ended : Bool) (settings : Text) (plans : List Text) (files : List (Bor Text)) (s : List ℕ)
    (ps done : List (List ℕ)) (k : ℕ) (exit : Exit) → length ps ≡ length plans → length done ≡ k → k ≤ length files
    → length files ≤ k → ComesTo (segments_answer ended s ps done) exit
    → ComesOf (Asked.segments ended settings plans (texts files)) (seen exit)
ended_at ended settings plans files s ps done k exit long here within past (inl same) =
    let all : length (texts files) ≡ length files = length-map files (λ text. text.now) in
    inr (s, ps, long, inr (done, omega (arith, here, within, past, all), same))
ended_at ended settings plans files s ps done k exit long here within past (inr memory) =
    subst (λ o. ComesOf (Asked.segments ended settings plans (texts files)) (seen o)) (sym memory) (inl tt)

-- Settings or plans that are refused.
pub none_begun : (b : Bool) (ended : Bool) (settings : Text) (plans files : List Text) (s : List ℕ) (ps : List (List ℕ))
    (refusal : JudgeError) (exit : Exit) → length ps ≡ length plans
    → exit ≡ (if b then OutOfMemory else Refused refusal)
    → ((files : List (List ℕ)) → Refuses b refusal (segments_audited_in ended s ps files))
    → ComesOf (Asked.segments ended settings plans files) (seen exit)
none_begun true ended settings plans files s ps refusal exit long is told =
    subst (λ o. ComesOf (Asked.segments ended settings plans files) (seen o)) (sym is) (inl tt)
none_begun false ended settings plans files s ps refusal exit long is told =
    inr (
      s,
      ps,
      long,
      inr (
        map (λ file. []) files,
        length-map files (λ file. []),
        ap seen is ∙ sym (ap answer_of_segments (told (map (λ file. []) files))),
      ),
    )

-- ---- what explains it

-- A paragraph about the settings, the file or a plan is about one of the files of the command.
about_more : (settings file : Text) (plans files : List Text) (bytes : List ℕ) → Contains (settings ∷ files) file
    → IsAbout ((settings ∷ file ∷ []) ++ plans) bytes → IsAbout ((settings ∷ plans) ++ files) bytes
about_more settings file plans files bytes there h = record {
  path = h.path;
  given = by (Contains-append_cases (settings ∷ file ∷ []) plans h.path h.given);
  paragraph = h.paragraph;
}
  where
    its : Contains (settings ∷ []) file ⊎ Contains files file → Contains ((settings ∷ plans) ++ files) file
    its (inl first) =
        Contains-append_left (settings ∷ plans) files file (Contains-append_left (settings ∷ []) plans file first)
    its (inr behind) = Contains-append_right (settings ∷ plans) files file behind

    only : (path : Text) → Contains (file ∷ []) path → file ≡ path
    only path (k, below, is) =
        let first : k ≡ 0 = omega (arith, below) in subst (λ j. get_or (file ∷ []) j path ≡ path) first is

    two : (path : Text) → Contains (settings ∷ []) path ⊎ Contains (file ∷ []) path
        → Contains ((settings ∷ plans) ++ files) path
    two path (inl first) =
        Contains-append_left (settings ∷ plans) files path (Contains-append_left (settings ∷ []) plans path first)
    two path (inr second) =
        subst (Contains ((settings ∷ plans) ++ files)) (only path second)
        (its (Contains-append_cases (settings ∷ []) files file there))

    by : Contains (settings ∷ file ∷ []) h.path ⊎ Contains plans h.path → Contains ((settings ∷ plans) ++ files) h.path
    by (inl front) = two h.path (Contains-append_cases (settings ∷ []) (file ∷ []) h.path front)
    by (inr behind) =
        Contains-append_left (settings ∷ plans) files h.path (Contains-append_right (settings ∷ []) plans h.path behind)

pub explained_more : (settings file : Text) (plans files : List Text) (why : Option (List ℕ))
    → Contains (settings ∷ files) file → IfSome why (IsAbout ((settings ∷ file ∷ []) ++ plans))
    → IfSome why (IsAbout ((settings ∷ plans) ++ files))
explained_more settings file plans files None there h = tt
explained_more settings file plans files (Some bytes) there h = about_more settings file plans files bytes there h

pub explained_few : (settings : Text) (plans files : List Text) (why : Option (List ℕ))
    → IfSome why (IsAbout ((settings ∷ []) ++ plans)) → IfSome why (IsAbout ((settings ∷ plans) ++ files))
explained_few settings plans files None h = tt
explained_few settings plans files (Some bytes) h =
    record {
      path = h.path;
      given = Contains-append_left (settings ∷ plans) files h.path h.given;
      paragraph = h.paragraph;
    }
