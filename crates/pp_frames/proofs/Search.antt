-- The search for the least member from a number on: in one word, and over the words.
use Rattle.std.proofs.Common.{◌≡◌, ℕ, ◌+◌, ◌*◌, ◌/◌, ◌%◌, ◌<◌, ◌≤◌, ◌&&◌, Bool, true, false, leb, ltb, List, length}
use Rattle.std.proofs.Common.{get_or, nat_le, Option, Some, None, refl, ap, sym, ◌∙◌, arith, inl, inr, w64}
use Rattle.std.specs.Int.{bit_at, trailing_zeros}
use Rattle.std.proofs.lemmas.Bool.{cases_lt, cases_Bool, lt-leb, le-leb, ltb-true, ltb-false, leb-true, and_left}
use Rattle.std.proofs.lemmas.Bool.{and_right, and_from, and_parts, eq-eqb, both_ways}
use Rattle.std.proofs.lemmas.Nat.Bits.{bit_at-trailing_zeros}
use Rattle.pp_frames.specs.Least.{least_below, FirstBelow, first, nowhere}
use Rattle.pp_frames.specs.Numbers.{is_member, least_from}
use Rattle.pp_frames.specs.Words.{has_bit, members_of, IsSpelled, IsSummary}
use Rattle.pp_frames.proofs.Firsts.{same_first, least_first}
use Rattle.pp_frames.proofs.Spelling.{length_members, member_is, member_below, no_bits}

-- a member from a number on
abbrev pub member_from : List Bool → ℕ → ℕ → Bool
member_from set from k = nat_le from k && is_member set k

early : (set : List Bool) (from k : ℕ) → k < from → member_from set from k ≡ false
early set from k lt = and_left (leb from k) (is_member set k) (lt-leb from k lt)

none_here : (set : List Bool) (from k : ℕ) → is_member set k ≡ false → member_from set from k ≡ false
none_here set from k e = and_right (leb from k) (is_member set k) e

late : (set : List Bool) (from k : ℕ) → from ≤ k → member_from set from k ≡ false → is_member set k ≡ false
late set from k le fails =
    elim (cases_Bool (is_member set k)) [
      | inl is ↦ absurd
          (both_ways (member_from set from k) fails (and_from (leb from k) (is_member set k) (le-leb from k le) is))
      | inr is ↦ is
    ]

-- ---- one word

module _ (limit : ℕ) (words : List ℕ) (place from word : ℕ) (spelled : IsSpelled limit words)
    (read : word ≡ get_or words place 0) where
  in_word : (k bit : ℕ) → bit < 64 → k ≡ 64 * place + bit → is_member (members_of limit words) k ≡ has_bit word bit
  in_word k bit lt is =
      let p : k / 64 ≡ place = omega arith in
      let r : k % 64 ≡ bit = omega arith in
      member_is limit words k spelled
      ∙ ap (λ q. has_bit (get_or words q 0) (k % 64)) p
      ∙ ap (λ q. has_bit (get_or words place 0) q) r
      ∙ ap (λ w. has_bit w bit) (sym read)

  -- no member before this number, where the word has none of its bits from there on
  fails_before : (n k : ℕ) → ((j : ℕ) → j < 64 → from ≤ j → 64 * place + j < n → has_bit word j ≡ false)
      → n ≤ 64 * place + 64 → k < n → member_from (members_of limit words) (64 * place + from) k ≡ false
  fails_before n k fails most lt =
      elim (cases_lt k (64 * place + from)) [
        | inl below ↦ early (members_of limit words) (64 * place + from) k below
        | inr le ↦
            let j : ℕ = k % 64 in
            let is : k ≡ 64 * place + j = omega arith in
            none_here (members_of limit words) (64 * place + from) k
            (in_word k j (omega arith) is ∙ fails j (omega arith) (omega arith) (omega arith))
      ]

  test_fails : (j : ℕ) → from ≤ j → (nat_le from j && has_bit word j) ≡ false → has_bit word j ≡ false
  test_fails j le fails =
      elim (cases_Bool (has_bit word j)) [
        | inl is ↦
            absurd (both_ways (leb from j && has_bit word j) fails
            (and_from (leb from j) (has_bit word j) (le-leb from j le) is))
        | inr is ↦ is
      ]

  pub word_none : FirstBelow (λ j. nat_le from j && has_bit word j) 64 None
      → None ≡ least_below (member_from (members_of limit words) (64 * place + from)) (64 * place + 64)
  word_none found =
      elim found [
        | first i is below passes fails ↦ absurd (grind (arith, is))
        | nowhere is fails ↦
            same_first (member_from (members_of limit words) (64 * place + from)) (64 * place + 64) None
            (least_below (member_from (members_of limit words) (64 * place + from)) (64 * place + 64))
            (nowhere refl
            (λ k lt. fails_before (64 * place + 64) k (λ j low le _. test_fails j le (fails j low))
            (omega arith) lt))
            (least_first (member_from (members_of limit words) (64 * place + from)) (64 * place + 64))
      ]

  -- what a bit that was found is
  pub record Found (bit : ℕ) : Type 0 where
    pub below : 64 * place + bit < limit
    pub answer : Some (64 * place + bit) ≡ least_below (member_from (members_of limit words) (64 * place + from))
        (64 * place + 64)

  pub word_some : (bit : ℕ) → FirstBelow (λ j. nat_le from j && has_bit word j) 64 (Some bit) → Found bit
  word_some bit found =
      elim found [
        | first i is below passes fails ↦
            let same : bit ≡ i = grind (arith, is) in
            let two = and_parts (leb from i) (has_bit word i) passes in
            let le : from ≤ i = leb-true from i two.0 in
            let member : is_member (members_of limit words) (64 * place + bit) ≡ true =
            in_word (64 * place + bit) i below (omega arith) ∙ two.1 in
            let n : ℕ = 64 * place + bit in
            record {
              below = member_below limit words n spelled (sym (member_is limit words n spelled) ∙ member);
              answer =
                  same_first (member_from (members_of limit words) (64 * place + from)) (64 * place + 64) (Some n)
                  (least_below (member_from (members_of limit words) (64 * place + from)) (64 * place + 64))
                  (first n refl (omega arith)
                  (and_from (leb (64 * place + from) n) (is_member (members_of limit words) n)
                  (le-leb (64 * place + from) n (omega arith)) member)
                  (λ k lt. fails_before n k (λ j low le low_too. test_fails j le (fails j (omega arith)))
                  (omega arith) lt))
                  (least_first (member_from (members_of limit words) (64 * place + from)) (64 * place + 64));
            }
        | nowhere is fails ↦ absurd (grind (arith, is))
      ]

-- ---- over the words

-- the least member from a number on, among all
pub answer_is : (limit : ℕ) (words : List ℕ) (from : ℕ) (answer : Option ℕ)
    → FirstBelow (member_from (members_of limit words) from) limit answer
    → answer ≡ least_from (members_of limit words) from
answer_is limit words from answer found =
    let set : List Bool = members_of limit words in
    same_first (member_from set from) limit answer (least_below (member_from set from) limit) found
    (least_first (member_from set from) limit)
    ∙ ap (least_below (member_from set from)) (sym (length_members limit words))

pub past_all : (limit : ℕ) (words : List ℕ) (from : ℕ) → limit ≤ from → None ≡ least_from (members_of limit words) from
past_all limit words from le =
    answer_is limit words from None (nowhere refl (λ k lt. early (members_of limit words) from k (omega arith)))

-- a word that has no bit has no member
empty_word : (limit : ℕ) (words : List ℕ) (k : ℕ) → IsSpelled limit words → ltb 0 (get_or words (k / 64) 0) ≡ false
    → is_member (members_of limit words) k ≡ false
empty_word limit words k spelled none =
    let zero_word : get_or words (k / 64) 0 ≡ 0 = omega (arith, ltb-false 0 (get_or words (k / 64) 0) none) in
    member_is limit words k spelled ∙ no_bits (get_or words (k / 64) 0) (k % 64) zero_word

-- a word that has a bit has a member
full_word : (limit : ℕ) (words : List ℕ) (place : ℕ) → IsSpelled limit words → ltb 0 (get_or words place 0) ≡ true
    → (k : ℕ) × (64 * place ≤ k) × (k < 64 * place + 64) × (is_member (members_of limit words) k ≡ true)
full_word limit words place spelled some =
    let word : ℕ = get_or words place 0 in
    let t : ℕ = trailing_zeros w64 word in
    let found = bit_at-trailing_zeros w64 word (ltb-true 0 word some) (spelled.words_fit place) in (
      64 * place + t,
      omega arith,
      omega (arith, found.0),
      in_word limit words place 0 word spelled refl (64 * place + t) t found.0 refl ∙ eq-eqb (bit_at word t) 1 found.1,
    )

module _ (limit : ℕ) (words : List ℕ) (from : ℕ) (spelled : IsSpelled limit words) where
  -- the search in the word of the number itself
  abbrev pub InItsWord : Option ℕ → Type 0
  InItsWord answer =
      answer ≡ least_below (member_from (members_of limit words) (64 * (from / 64) + from % 64)) (64 * (from / 64) + 64)

  its_word : (answer : Option ℕ) → InItsWord answer
      → FirstBelow (member_from (members_of limit words) from) (64 * (from / 64) + 64) answer
  its_word answer is =
      let same : 64 * (from / 64) + from % 64 ≡ from = omega arith in
      rw (is, same) (least_first (member_from (members_of limit words) from) (64 * (from / 64) + 64))

  pub found_in_word : (number : ℕ) → InItsWord (Some number) → Some number ≡ least_from (members_of limit words) from
  found_in_word number is =
      elim (its_word (Some number) is) [
        | first i same below passes fails ↦
            let member : is_member (members_of limit words) i ≡ true =
            (and_parts (leb from i) (is_member (members_of limit words) i) passes).1 in
            answer_is limit words from (Some number)
            (first i same (member_below limit words i spelled (sym (member_is limit words i spelled) ∙ member)) passes
            fails)
        | nowhere same fails ↦ absurd (grind (arith, same))
      ]

  none_in_word : InItsWord None → (k : ℕ) → k < 64 * (from / 64) + 64
      → member_from (members_of limit words) from k ≡ false
  none_in_word is =
      elim (its_word None is) [
        | first i same below passes fails ↦ absurd (grind (arith, same))
        | nowhere same fails ↦ fails
      ]

  -- there is no other word
  pub only_word : InItsWord None → length words ≤ 1 → None ≡ least_from (members_of limit words) from
  only_word is one =
      answer_is limit words from None (nowhere refl (λ k lt. none_in_word is k (omega (arith, spelled.room))))

  module _ (above : List Bool) (is : InItsWord None) (summed : IsSummary limit words above) where
    empty_above : (k : ℕ) → is_member above (k / 64) ≡ false → is_member (members_of limit words) k ≡ false
    empty_above k none = empty_word limit words k spelled (sym (summed.says (k / 64)) ∙ none)

    -- no number before the word that was found is a member
    none_before : (place k : ℕ) → ((w : ℕ) → w < place → member_from above (from / 64 + 1) w ≡ false) → k / 64 < place
        → member_from (members_of limit words) from k ≡ false
    none_before place k fails lt =
        elim (cases_lt k (64 * (from / 64) + 64)) [
          | inl low ↦ none_in_word is k low
          | inr high ↦
              none_here (members_of limit words) from k
              (empty_above k (late above (from / 64 + 1) (k / 64) (omega arith) (fails (k / 64) lt)))
        ]

    pub no_word : None ≡ least_from above (from / 64 + 1) → None ≡ least_from (members_of limit words) from
    no_word none =
        elim (least_first (member_from above (from / 64 + 1)) (length above)) [
          | first i same below passes fails ↦ let clash : None ≡ Some i = none ∙ same in absurd (grind (arith, clash))
          | nowhere same fails ↦
              answer_is limit words from None
              (nowhere refl (λ k lt. none_before (length above) k fails (omega (arith, spelled.room, summed.each))))
        ]

    module _ (place : ℕ) (found : Some place ≡ least_from above (from / 64 + 1)) where
      pub record Word : Type 0 where
        pub within : place < length words
        pub later : from / 64 < place
        pub some : ltb 0 (get_or words place 0) ≡ true
        pub before : (w : ℕ) → w < place → member_from above (from / 64 + 1) w ≡ false

      pub the_word : Word
      the_word =
          elim (least_first (member_from above (from / 64 + 1)) (length above)) [
            | first i is below passes fails ↦
                let both : Some place ≡ Some i = found ∙ is in
                let same : i ≡ place = grind (arith, both) in
                let two = and_parts (leb (from / 64 + 1) i) (is_member above i) passes in
                record {
                  within = omega (arith, summed.each);
                  later = omega (arith, leb-true (from / 64 + 1) i two.0);
                  some = sym (summed.says place) ∙ (rw same at two.1);
                  before = λ w lt. fails w (omega arith);
                }
            | nowhere is fails ↦ let clash : Some place ≡ None = found ∙ is in absurd (grind (arith, clash))
          ]

      -- it starts below the limit, since it has a member
      pub starts_below : 64 * place < limit
      starts_below =
          let member = full_word limit words place spelled the_word.some in
          let below : member.0 < limit =
          member_below limit words member.0 spelled (sym (member_is limit words member.0 spelled) ∙ member.3) in
          omega (arith, member.1)

      pub in_that_word : (answer : Option ℕ)
          → answer ≡ least_below (member_from (members_of limit words) (64 * place + 0)) (64 * place + 64)
          → answer ≡ least_from (members_of limit words) from
      in_that_word answer is_that =
          elim (least_first (member_from (members_of limit words) (64 * place + 0)) (64 * place + 64)) [
            | first i same below passes fails ↦
                let two = and_parts (leb (64 * place + 0) i) (is_member (members_of limit words) i) passes in
                let le : 64 * place + 0 ≤ i = leb-true (64 * place + 0) i two.0 in
                answer_is limit words from answer
                (first i (is_that ∙ same)
                (member_below limit words i spelled (sym (member_is limit words i spelled) ∙ two.1))
                (and_from (leb from i) (is_member (members_of limit words) i)
                (le-leb from i (omega (arith, the_word.later))) two.1)
                (λ k lt. elim (cases_lt (k / 64) place) [
                  | inl low ↦ none_before place k the_word.before low
                  | inr high ↦
                      none_here (members_of limit words) from k
                      (late (members_of limit words) (64 * place + 0) k (omega arith) (fails k lt))
                ]))
            | nowhere same fails ↦
                let member = full_word limit words place spelled the_word.some in
                absurd (both_ways (member_from (members_of limit words) (64 * place + 0) member.0)
                (fails member.0 member.2)
                (and_from (leb (64 * place + 0) member.0) (is_member (members_of limit words) member.0)
                (le-leb (64 * place + 0) member.0 (omega (arith, member.1))) member.3))
          ]
