-- What is shown of some characters, by how many there are.
use Rattle.std.proofs.Common.{◌≡◌, ℕ, ◌<◌, ◌≤◌, List, ◌++◌, length, take, codes, ap, sym, ◌∙◌, nat_lt}
use Rattle.std.proofs.lemmas.Bool.{lt-ltb, le-ltb}
use Rattle.std.proofs.lemmas.List.{append-nil, take_all}
use Rattle.std.specs.List.{flat_map}
use Rattle.pp_shown.specs.Shown.{dots, most_shown, shown_char}

-- Behind as many as are shown there are more.
pub more_behind : (all shown : List ℕ) → shown ≡ take (length shown) all → length shown ≡ most_shown → most_shown < length all
    → flat_map shown_char shown ++ codes ".."
    ≡ flat_map shown_char (take most_shown all) ++ dots (nat_lt most_shown (length all))
more_behind all shown same long more =
    let cut : shown ≡ take most_shown all = same ∙ ap (λ n. take n all) long in
    ap (λ characters. flat_map shown_char characters ++ codes "..") cut
    ∙ ap (λ are_left. flat_map shown_char (take most_shown all) ++ dots are_left) (sym (lt-ltb most_shown (length all) more))

-- There are no more than are shown.
pub none_behind : (all shown : List ℕ) → shown ≡ all → length all ≤ most_shown
    → flat_map shown_char shown ≡ flat_map shown_char (take most_shown all) ++ dots (nat_lt most_shown (length all))
none_behind all shown same few =
    ap (flat_map shown_char) (same ∙ sym (take_all most_shown all few))
    ∙ sym (append-nil (flat_map shown_char (take most_shown all)))
    ∙ ap (λ are_left. flat_map shown_char (take most_shown all) ++ dots are_left) (sym (le-ltb most_shown (length all) few))
