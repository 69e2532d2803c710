use Rattle.std.proofs.Common.{◌≡◌, ◌∷◌, rules, true, false, codes}
use Rattle.std.specs.Str.{bytes_eq}
use Rattle.pp_words.proofs.Cutting.{all_within, files_are, front_is, wants}
use Rattle.pp_words.proofs.cut.front_and_files.Goals as goal

pub returns-then-not-has_flag-clause-none : goal.returns-then-not-has_flag-clause-none
returns-then-not-has_flag-clause-none g c =
    let first : c.args.words.now ≡ c.in_ok-_name._name.now ∷ c.in_ok-_name.others.now = search rules in
    let second : c.in_ok-_name.others.now ≡ c.in_ok-command.command.now ∷ c.in_ok-command.rest.now = search rules in
    let audit : bytes_eq (g.S.AsStr.text c.in_ok-command.command.now) (codes "audit") ≡ true = search rules in
    let none : c.has_flag.result ≡ false = search rules in
    rw (← none)
    (wants g.S.AsStr.text _ _ _ _ _ c.end_of.result first second c.end_of.ensures.place audit _ c.has_flag.result
    c.split_at.ensures.front c.has_flag.ensures)

pub without_last-requires : goal.without_last-requires
without_last-requires g c =
    let first : c.args.words.now ≡ c.in_ok-_name._name.now ∷ c.in_ok-_name.others.now = search rules in
    let second : c.in_ok-_name.others.now ≡ c.in_ok-command.command.now ∷ c.in_ok-command.rest.now = search rules in
    all_within g.S.AsStr.text _ _ _ _ _ c.end_of.result first second c.end_of.ensures.place _ c.split_at.ensures.back

pub returns-clause-some : goal.returns-clause-some
returns-clause-some g c =
    let first : c.args.words.now ≡ c.in_ok-_name._name.now ∷ c.in_ok-_name.others.now = search rules in
    let second : c.in_ok-_name.others.now ≡ c.in_ok-command.command.now ∷ c.in_ok-command.rest.now = search rules in
    let audit : bytes_eq (g.S.AsStr.text c.in_ok-command.command.now) (codes "audit") ≡ true = search rules in
    let some : c.has_flag.result ≡ true = search rules in
    rw (← some)
    (wants g.S.AsStr.text _ _ _ _ _ c.end_of.result first second c.end_of.ensures.place audit _ c.has_flag.result
    c.split_at.ensures.front c.has_flag.ensures)

pub returns-clause-front : goal.returns-clause-front
returns-clause-front g c =
    let first : c.args.words.now ≡ c.in_ok-_name._name.now ∷ c.in_ok-_name.others.now = search rules in
    let second : c.in_ok-_name.others.now ≡ c.in_ok-command.command.now ∷ c.in_ok-command.rest.now = search rules in
    front_is g.S.AsStr.text _ _ _ _ _ c.end_of.result first second c.end_of.ensures.place _ _ c.split_at.ensures.back
    c.without_last.ensures

pub returns-clause-files : goal.returns-clause-files
returns-clause-files g c =
    let first : c.args.words.now ≡ c.in_ok-_name._name.now ∷ c.in_ok-_name.others.now = search rules in
    let second : c.in_ok-_name.others.now ≡ c.in_ok-command.command.now ∷ c.in_ok-command.rest.now = search rules in
    files_are g.S.AsStr.text _ _ _ _ _ c.end_of.result first second c.end_of.ensures.place _ _ c.split_at.ensures.back
    c.without_first.ensures
