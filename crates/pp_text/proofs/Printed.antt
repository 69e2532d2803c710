-- Numbers that print as a word.
use Rattle.std.proofs.Common.{◌≡◌, ◌≢◌, ℕ, zero, suc, ◌<◌, ◌^◌, Bool, true, false, ◌&&◌, nat_lt, List, length}
use Rattle.std.proofs.Common.{get_or, Option, Some, None, Result, Ok, Err, refl, sym, ap, subst, ◌∙◌, arith}
use Rattle.std.proofs.Common.{if◌then◌else◌}
use Rattle.std.specs.Prelude.{option_and_then}
use Rattle.std.specs.Result.{result_ok}
use Rattle.std.specs.Str.{bytes_eq}
use Rattle.std.specs.Str.Parse.{digits_value, ParsesUnsigned, AllDigits, IsNumeral, without_leading_plus}
use Rattle.std.specs.Fmt.{decimal}
use Rattle.std.proofs.lemmas.Bool.{ltb-true, lt-ltb}
use Rattle.std.proofs.lemmas.Fmt.{decimal_is_IsNumeral, decimal_digit, first_decimal, decimal-digits_value}
use Rattle.std.proofs.lemmas.Fmt.{parse-decimal}
use Rattle.std.proofs.lemmas.Slice.Eq.{bytes_eq-Decides}
use Rattle.std.proofs.lemmas.Str.Parse.{numerals_by_value, tells_digits, IsNumeralModel, without_leading_plus_none}
use Rattle.std.proofs.lemmas.Str.Parse.{not_in_digits}
use Rattle.pp_text.specs.Numbers.{number_in, of_32_bits, small_number}

both : (a b : Bool) → a ≡ true → b ≡ true → (a && b) ≡ true
both a b p q = rw (p, q) refl

-- what prints as the word is found
pub number_again : (n : ℕ) → n < 2 ^ 64 → number_in (decimal n) ≡ Some n
unfolding number_in
number_again n h =
    let v : digits_value 10 (decimal n) ≡ n = (decimal_is_IsNumeral n h).1 in
    let same : bytes_eq (decimal (digits_value 10 (decimal n))) (decimal n) ≡ true =
    (bytes_eq-Decides (decimal (digits_value 10 (decimal n))) (decimal n)).1 (ap decimal v) in
    let low : nat_lt (digits_value 10 (decimal n)) (2 ^ 64) ≡ true =
    lt-ltb (digits_value 10 (decimal n)) (2 ^ 64) (subst (λ m. m < 2 ^ 64) (sym v) h) in
    ap (λ b. if b then Some (digits_value 10 (decimal n)) else None) (both _ _ same low) ∙ ap Some v

chosen : (a b : Bool) (m n : ℕ) → (if a && b then Some m else None) ≡ Some n → (a ≡ true) × (b ≡ true) × (m ≡ n)
chosen true true m n e = (refl, refl, cc)
chosen true false m n e = absurd cc
chosen false b m n e = absurd cc

-- what is found prints as the word
pub number_found : (word : List ℕ) (n : ℕ) → number_in word ≡ Some n → (word ≡ decimal n) × (n < 2 ^ 64)
unfolding number_in
number_found word n e =
    let (same, low, is) = chosen _ _ _ _ e in (
      sym ((bytes_eq-Decides (decimal (digits_value 10 word)) word).0 same) ∙ ap decimal is,
      subst (λ m. m < 2 ^ 64) is (ltb-true (digits_value 10 word) (2 ^ 64) low),
    )

none_from : (o : Option ℕ) → ((n : ℕ) → o ≡ Some n → ⊥) → None ≡ o
none_from None h = refl
none_from (Some n) h = absurd (h n refl)

-- no sign, and no zero before other digits
plain_decimal : (n : ℕ) → n < 2 ^ 64
    → (get_or (decimal n) 0 0 ≢ 43) × (get_or (decimal n) 0 0 ≡ 48 → length (decimal n) ≡ 1)
plain_decimal zero h =
    subst (λ ds. (get_or ds 0 0 ≢ 43) × (get_or ds 0 0 ≡ 48 → length ds ≡ 1)) (sym (decimal_digit 0 (omega arith)))
    ((λ e. omega arith), (λ e. refl))
plain_decimal (suc m) h =
    let first : 48 < get_or (decimal (suc m)) 0 0 = first_decimal (suc m) (omega arith) h in
    ((λ e. omega arith), (λ e. absurd (omega arith)))

pub not_plain : (word : List ℕ) → ¬ ((get_or word 0 0 ≢ 43) × (get_or word 0 0 ≡ 48 → length word ≡ 1))
    → None ≡ number_in word
not_plain word h = none_from (number_in word) (λ n e.
    let (is, low) = number_found word n e in
    h (subst (λ w. (get_or w 0 0 ≢ 43) × (get_or w 0 0 ≡ 48 → length w ≡ 1)) (sym is) (plain_decimal n low)))

own : IsNumeralModel (AllDigits 10) (digits_value 10)
own = numerals_by_value _ tells_digits

printed : (word : List ℕ) (n : ℕ) → AllDigits 10 word → 0 < length word
    → (get_or word 0 0 ≡ 48 → length word ≡ 1) → digits_value 10 word < 2 ^ 64 → digits_value 10 word ≡ n
    → Some n ≡ number_in word
printed word n digits some zeros low e =
    let same : word ≡ decimal n = sym (decimal-digits_value own word digits some zeros low) ∙ ap decimal e in
    sym (ap number_in same ∙ number_again n (subst (λ m. m < 2 ^ 64) e low))

pub parsed : {E : Type 0} (word : List ℕ) (r : Result ℕ E) → ParsesUnsigned 64 10 word r
    → (get_or word 0 0 ≢ 43) × (get_or word 0 0 ≡ 48 → length word ≡ 1) → result_ok r ≡ number_in word
parsed word (Ok n) (h, e) (no_plus, zeros) =
    let same : without_leading_plus word ≡ word = without_leading_plus_none word no_plus in
    let g : IsNumeral 10 word × (digits_value 10 word < 2 ^ 64) =
    subst (λ w. IsNumeral 10 w × (digits_value 10 w < 2 ^ 64)) same h in
    printed word n g.0.1 g.0.0 zeros g.1 (ap (digits_value 10) (sym same) ∙ sym e)
parsed {E} word (Err e) h plain = none_from (number_in word) (λ n f.
    let (is, low) = number_found word n f in
    let back : Err e ≡ Ok n = parse-decimal {E = E} 64 n word (Err e) low low is h in
    cc)

-- ---- numbers of 32 bits

pub then_some : {A B : Type 0} (o : Option A) (f : A → Option B) (y : B) → option_and_then f o ≡ Some y
    → (x : A) × (o ≡ Some x) × (f x ≡ Some y)
then_some None f y e = absurd cc
then_some (Some x) f y e = (x, refl, e)

picked : (b : Bool) (m n : ℕ) → (if b then Some m else None) ≡ Some n → (b ≡ true) × (m ≡ n)
picked true m n e = (refl, cc)
picked false m n e = absurd cc

limited : (m n : ℕ) → of_32_bits m ≡ Some n → (m ≡ n) × (m < 2 ^ 32)
limited m n e =
    let (low, is) = picked (nat_lt m (2 ^ 32)) m n e in
    (is, ltb-true m (2 ^ 32) low)

pub small_again : (n : ℕ) → n < 2 ^ 32 → small_number (decimal n) ≡ Some n
small_again n h = rw (number_again n (omega arith), lt-ltb n (2 ^ 32) h) refl

pub small_found : (word : List ℕ) (n : ℕ) → small_number word ≡ Some n → (word ≡ decimal n) × (n < 2 ^ 32)
small_found word n e =
    let (m, f, g) = then_some (number_in word) of_32_bits n e in
    let (is, low) = limited m n g in
    (subst (λ k. word ≡ decimal k) is (number_found word m f).0, subst (λ k. k < 2 ^ 32) is low)

-- ---- digits

-- A number that is printed has no space.
pub digits : (n : ℕ) → n < 2 ^ 64 → (i : ℕ) → i < length (decimal n) → get_or (decimal n) i 0 ≢ 32
digits n h = not_in_digits own (decimal n) 32 (decimal_is_IsNumeral n h).0.1 (λ (a, b). omega arith)
