-- Numbers of 32 bits as words.
use Rattle.std.proofs.Common.{◌≡◌, ◌<◌, ◌≤◌, ◌^◌, ℕ, Bool, true, false, cond, [], ◌∷◌, Option, Some, None, Result}
use Rattle.std.proofs.Common.{Ok, Err, refl, sym, ap, subst, ◌∙◌, arith, rules, drop, unwrap_or, if◌then◌else◌}
use Rattle.std.specs.Prelude.{◌==◌, pos, not}
use Rattle.std.specs.List.{slice_index}
use Rattle.std.specs.Option.{option_map_or}
use Rattle.std.specs.Result.{result_unwrap_or}
use Rattle.std.specs.Fmt.{decimal}
use Rattle.std.specs.Str.Parse.{IsNumeral, ParsesUnsigned, digits_value, without_leading_plus}
use Rattle.std.proofs.lemmas.Bool.{ne_eqb}
use Rattle.std.proofs.lemmas.Fmt.{decimal_is_IsNumeral}
use Rattle.std.proofs.lemmas.Str.Parse.{digit_from_value}
use Rattle.clap.specs.Matches.{ReadsOne}
use Rattle.clap.specs.Lexer.{without_minus}
use Rattle.clap.specs.Values.{IsSignedIn}
use Rattle.clap.specs.ValueTests.{accepts, is_unsigned_in}
use Rattle.clap.specs.Walk.{Text}
use Rattle.clap.specs.declared.builder.value_parser.ValueParser.TheVariants.{Signed, Unsigned}
use Rattle.clap.proofs.ValueTestLemmas.{Accepts-accepts, accepts-Accepts}
use Rattle.pp_words.specs.CommandLine.{is_plain_word, number_in}
use Rattle.pp_words.proofs.PlainWalk.{no_hyphen}

-- ---- what `parse` reads

number_read : {E : Type 0} (text : Text) (r : Result ℕ E) → ParsesUnsigned 32 10 text r
    → result_unwrap_or r 0 ≡ number_in text
number_read text (Ok n) h =
    let passes : is_unsigned_in 0 4294967295 text ≡ true =
    Accepts-accepts false (Unsigned 0 4294967295) text
    (h.0.0, omega (arith, h.0.1), omega arith, omega (arith, h.0.1)) in
    h.1 ∙ sym (ap (λ (b : Bool). if b then digits_value 10 (without_leading_plus text) else 0) passes)
number_read text (Err e) h = go (is_unsigned_in 0 4294967295 text) refl
  where
    go : (b : Bool) → is_unsigned_in 0 4294967295 text ≡ b → 0 ≡ number_in text
    go false t = sym (ap (λ (b : Bool). if b then digits_value 10 (without_leading_plus text) else 0) t)
    go true t =
        let a = accepts-Accepts false (Unsigned 0 4294967295) text t in
        absurd (h (a.0, omega (arith, a.3)))

value_read : {E : Type 0} (G : Text → Result ℕ E → Type 0) (text : Text) (r : Option ℕ)
    → ((u : Text) (x : Result ℕ E) → G u x → ParsesUnsigned 32 10 u x)
    → ReadsOne G text r → unwrap_or r 0 ≡ number_in text
value_read {E} G text (Some n) only read = number_read {E = E} text (Ok n) (only text (Ok n) read)
value_read {E} G text None only read = number_read {E = E} text (Err read.0) (only text (Err read.0) read.1)

-- the number that an argument has, where it has one
pub number_given : {E : Type 0} (G : Text → Result ℕ E → Type 0) (given : Option Text) (r : Option ℕ)
    → ((u : Text) (x : Result ℕ E) → G u x → ParsesUnsigned 32 10 u x)
    → (given ≡ None → r ≡ None) → ((text : Text) → given ≡ Some text → ReadsOne G text r)
    → unwrap_or r 0 ≡ option_map_or number_in given 0
number_given G None r only none some = ap (λ (o : Option ℕ). unwrap_or o 0) (none refl)
number_given G (Some text) r only none some = value_read G text r only (some text refl)

-- ---- a number in decimal

no_sign : (sign : ℕ) (ds : Text) → sign < 48 → IsNumeral 10 ds → (slice_index ds 0 == sign) ≡ false
no_sign sign [] low h = absurd (omega (arith, h.0))
no_sign sign (d ∷ ds) low h = ne_eqb _ _ (λ e. omega (arith, digit_from_value d h.1.0))

plain_digits : (ds : Text) → IsNumeral 10 ds → is_plain_word ds ≡ true
plain_digits [] h = refl
plain_digits (d ∷ ds) h = ap not (no_sign 45 (d ∷ ds) (omega arith) h)

pub plain_decimal : (n : ℕ) → n < 2 ^ 32 → is_plain_word (decimal n) ≡ true
plain_decimal n fits =
    let wide : n < 2 ^ 64 = omega arith in plain_digits (decimal n) (decimal_is_IsNumeral n wide).0

pub accepts_decimal : (n : ℕ) → n < 2 ^ 32 → accepts false (Signed (pos 0) (pos 4294967295)) (decimal n) ≡ true
accepts_decimal n fits =
    let wide : n < 2 ^ 64 = omega arith in
    let most : n ≤ 4294967295 = omega arith in
    let read = decimal_is_IsNumeral n wide in
    let minus : (slice_index (decimal n) 0 == 45) ≡ false = no_sign 45 (decimal n) (omega arith) read.0 in
    let plus : (slice_index (decimal n) 0 == 43) ≡ false = no_sign 43 (decimal n) (omega arith) read.0 in
    let within : IsSignedIn (pos 0) (pos 4294967295) (decimal n) =
    rw (minus, plus, read.1) (read.0, search rules, search rules, search rules) in
    Accepts-accepts false (Signed (pos 0) (pos 4294967295)) (decimal n) within

pub number_decimal : (n : ℕ) → n < 2 ^ 32 → number_in (without_minus (decimal n)) ≡ n
number_decimal n fits =
    let wide : n < 2 ^ 64 = omega arith in
    let read = decimal_is_IsNumeral n wide in
    let bare : without_leading_plus (decimal n) ≡ decimal n =
    ap (λ (b : Bool). drop (cond b 1 0) (decimal n)) (no_sign 43 (decimal n) (omega arith) read.0) in
    let value : digits_value 10 (without_leading_plus (decimal n)) ≡ n = ap (digits_value 10) bare ∙ read.1 in
    let passes : is_unsigned_in 0 4294967295 (decimal n) ≡ true =
    Accepts-accepts false (Unsigned 0 4294967295) (decimal n)
    (subst (IsNumeral 10) (sym bare) read.0, omega (arith, value), omega arith, omega (arith, value)) in
    ap (λ (o : Option Text). number_in (unwrap_or o (decimal n))) (no_hyphen (decimal n) (plain_digits (decimal n) read.0))
    ∙ ap (λ (b : Bool). if b then digits_value 10 (without_leading_plus (decimal n)) else 0) passes ∙ value
