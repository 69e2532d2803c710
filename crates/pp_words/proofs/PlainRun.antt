-- What `run` with plain words asks for.
use Rattle.std.proofs.Common.{◌≡◌, ◌<◌, ◌^◌, ℕ, Bool, true, false, List, [], ◌∷◌, ◌++◌, Some, None, codes, refl, ap, ◌∙◌, fold}
use Rattle.std.proofs.Common.{if◌then◌else◌}
use Rattle.std.specs.Prelude.{pos}
use Rattle.std.specs.Fmt.{decimal}
use Rattle.std.specs.List.{All}
use Rattle.clap.specs.Kinds.{Kinds, or_else}
use Rattle.clap.specs.Lexer.{without_minus}
use Rattle.clap.specs.ValueTests.{accepts}
use Rattle.clap.specs.declared.builder.value_parser.ValueParser.TheVariants as value_parser
use Rattle.clap.specs.declared.error.kind.ErrorKind.TheVariants.{ValueValidation}
use Rattle.clap.specs.Walk.{Held, Row, Rule, Text, Walk, arg_by_index, finished, nothing_held}
use Rattle.clap.specs.Walk.{settled, to_positional, value, walk, walked, with_default}
use Rattle.clap.specs.Simple.{Shape, built, new_rule, subcommand_of}
use Rattle.clap.specs.Faults.{level_fault, walk_fault, defaults_fault, check_fault, step_fault}
use Rattle.clap.proofs.OnLiterals.{clap_on_literals}
use Rattle.pp_words.specs.CommandLine.{asked_of, asked_plainly, is_plain_word, IsPlainWord, program, run, run_command}
use Rattle.pp_words.specs.CommandLine.{number_in, unless_faulty}
use Rattle.pp_words.proofs.Numbers.{accepts_decimal, number_decimal, plain_decimal}
use Rattle.pp_words.proofs.PlainWalk.{between, fault_cons, held_after, turn_plain, walked_plain}
use Rattle.pp_words.proofs.PlainPlans.{after_walk, plan_rows, plans_held, among, TakesPlans, end_held, rest_walked}
use Rattle.pp_words.proofs.PlainPlans.{rest_is_right, all_settled, end_is_right, HasCommand, top_is_right, command_is}

-- the fifth of some commands
fifth_shape : List Shape → Shape
fifth_shape (s ∷ t ∷ u ∷ v ∷ w ∷ rest) = w
fifth_shape _ = run_command.top

abbrev run_shape : Shape
unfolding fifth_shape
run_shape = fifth_shape (built program).subs

-- the fifth of some arguments
fifth_rule : List Rule → Rule
fifth_rule (s ∷ t ∷ u ∷ v ∷ w ∷ rest) = w
fifth_rule _ = new_rule []

abbrev plans_rule : Rule
unfolding fifth_shape fifth_rule
plans_rule = fifth_rule run_shape.rules

abbrev held_1 : Text → Held
held_1 a = held_after run_shape 1 a nothing_held

abbrev held_2 : Text → Text → Held
held_2 a b = held_after run_shape 2 b (held_1 a)

abbrev held_3 : Text → Text → Text → Held
held_3 a b n = held_after run_shape 3 n (held_2 a b)

-- the rows of the first three words
abbrev three_rows : Text → Text → Text → List Row
three_rows a b n = (settled run_shape.rules (held_3 a b n)).rows

-- the rows of all words
abbrev all_rows : Text → Text → Text → List Text → List Row
all_rows a b n plans = three_rows a b n ++ plan_rows plans_rule plans

-- ---- what the command's rules show by computing

more : (a b n : Text) (before : List Text) (last word : Text)
    → to_positional run_shape.rules (arg_by_index run_shape.rules 4) word
    (among 4 (plans_held plans_rule (three_rows a b n) before last)) (plans_held plans_rule (three_rows a b n) before last)
    ≡ among 4 (plans_held plans_rule (three_rows a b n) (before ++ last ∷ []) word)
unfolding fifth_shape fifth_rule
more a b n [] last word = refl
more a b n (x ∷ xs) last word = refl

settled_one : (a b n : Text) (before : List Text) (last : Text)
    → (settled run_shape.rules (plans_held plans_rule (three_rows a b n) before last)).rows
    ≡ three_rows a b n ++ plan_rows plans_rule (before ++ last ∷ [])
unfolding fifth_shape fifth_rule
settled_one a b n [] last = refl
settled_one a b n (x ∷ xs) last = refl

takes_plans : (a b n : Text) → TakesPlans run_shape 4 plans_rule (three_rows a b n)
unfolding fifth_shape fifth_rule
takes_plans a b n = record {
  more = more a b n;
  no_fault = λ before last. refl;
  settled_one = settled_one a b n;
  settles = λ before last. refl;
}

has_command : HasCommand program (codes "run") run_shape
unfolding clap_on_literals fifth_shape
has_command = record { read = λ words. refl; met = refl; turn = refl; level = λ behind. refl; rows = λ behind. refl }

rows_are_right : (a b n c : Text) (rest : List Text)
    → or_else (defaults_fault (all_rows a b n (c ∷ rest)) run_shape.rules)
    (check_fault run_shape (fold with_default (all_rows a b n (c ∷ rest)) run_shape.rules) false) ≡ []
unfolding clap_on_literals fifth_shape fifth_rule
rows_are_right a b n c rest = refl

values_are : (a b n c : Text) (rest : List Text)
    → asked_of (Some (codes "run", fold with_default (all_rows a b n (c ∷ rest)) run_shape.rules))
    ≡ Some (run None None a b (number_in (without_minus n)) (c ∷ rest))
unfolding clap_on_literals fifth_shape fifth_rule
values_are a b n c rest = refl

-- ---- its words

first_step : (a : Text) → is_plain_word a ≡ true
    → walked run_shape.rules [] (between nothing_held 1) a ≡ between (held_1 a) 2
unfolding fifth_shape
first_step a p = walked_plain run_shape.rules nothing_held 1 a p

second_step : (a b : Text) → is_plain_word b ≡ true
    → walked run_shape.rules [] (between (held_1 a) 2) b ≡ between (held_2 a b) 3
unfolding fifth_shape
second_step a b p = walked_plain run_shape.rules (held_1 a) 2 b p

third_step : (a b n : Text) → is_plain_word n ≡ true
    → walked run_shape.rules [] (between (held_2 a b) 3) n ≡ between (held_3 a b n) 4
unfolding fifth_shape
third_step a b n p = walked_plain run_shape.rules (held_2 a b) 3 n p

fourth_step : (a b n c : Text) → is_plain_word c ≡ true
    → walked run_shape.rules [] (between (held_3 a b n) 4) c ≡ among 4 (plans_held plans_rule (three_rows a b n) [] c)
unfolding fifth_shape fifth_rule
fourth_step a b n c p = walked_plain run_shape.rules (held_3 a b n) 4 c p

-- the seed is a number of 32 bits
abbrev IsSeed : Text → Type 0
IsSeed n = accepts false (value_parser.Signed (pos 0) (pos 4294967295)) n ≡ true

seed_is_right : (a b n : Text) → IsSeed n → step_fault run_shape 4 (held_3 a b n) value ≡ []
unfolding fifth_shape fifth_rule
seed_is_right a b n fits =
    ap (λ (fits : Bool). or_else (if fits then [] else ValueValidation ∷ []) []) fits

walk_is_right : (a b n c : Text) (rest : List Text) → is_plain_word a ≡ true → is_plain_word b ≡ true
    → is_plain_word n ≡ true → IsSeed n → is_plain_word c ≡ true → All IsPlainWord rest
    → walk_fault run_shape [] (between nothing_held 1) (a ∷ b ∷ n ∷ c ∷ rest) ≡ []
unfolding fifth_shape
walk_is_right a b n c rest p q s fits r plain =
    fault_cons run_shape (between nothing_held 1) (between (held_1 a) 2) a (b ∷ n ∷ c ∷ rest)
    (turn_plain run_shape nothing_held 1 a p) (first_step a p)
    (fault_cons run_shape (between (held_1 a) 2) (between (held_2 a b) 3) b (n ∷ c ∷ rest)
    (turn_plain run_shape (held_1 a) 2 b q) (second_step a b q)
    (fault_cons run_shape (between (held_2 a b) 3) (between (held_3 a b n) 4) n (c ∷ rest)
    (turn_plain run_shape (held_2 a b) 3 n s) (third_step a b n s)
    (fault_cons run_shape (between (held_3 a b n) 4) (among 4 (plans_held plans_rule (three_rows a b n) [] c)) c rest
    (turn_plain run_shape (held_3 a b n) 4 c r ∙ seed_is_right a b n fits) (fourth_step a b n c r)
    (rest_is_right run_shape 4 plans_rule (three_rows a b n) (takes_plans a b n) [] c rest plain))))

-- what is held behind all words
abbrev end : Text → Text → Text → Text → List Text → Held
end a b n c rest = end_held run_shape 4 plans_rule (three_rows a b n) (takes_plans a b n) [] c rest

walk_ends : (a b n c : Text) (rest : List Text) → is_plain_word a ≡ true → is_plain_word b ≡ true
    → is_plain_word n ≡ true → is_plain_word c ≡ true → All IsPlainWord rest
    → walk run_shape.rules [] nothing_held (a ∷ b ∷ n ∷ c ∷ rest) ≡ among 4 (end a b n c rest)
walk_ends a b n c rest p q s r plain =
    ap (λ (v : Walk). fold (walked run_shape.rules [])
    (walked run_shape.rules [] (walked run_shape.rules [] (walked run_shape.rules [] v b) n) c) rest) (first_step a p)
    ∙ ap (λ (v : Walk). fold (walked run_shape.rules [])
    (walked run_shape.rules [] (walked run_shape.rules [] v n) c) rest) (second_step a b q)
    ∙ ap (λ (v : Walk). fold (walked run_shape.rules []) (walked run_shape.rules [] v c) rest) (third_step a b n s)
    ∙ ap (λ (v : Walk). fold (walked run_shape.rules []) v rest) (fourth_step a b n c r)
    ∙ rest_walked run_shape 4 plans_rule (three_rows a b n) (takes_plans a b n) [] c rest plain

level_is_right : (a b n c : Text) (rest : List Text) → is_plain_word a ≡ true → is_plain_word b ≡ true
    → is_plain_word n ≡ true → IsSeed n → is_plain_word c ≡ true → All IsPlainWord rest
    → level_fault run_shape [] nothing_held (a ∷ b ∷ n ∷ c ∷ rest) false [] ≡ []
level_is_right a b n c rest p q s fits r plain =
    ap (λ (kinds : Kinds). or_else kinds
    (after_walk run_shape (walk run_shape.rules [] nothing_held (a ∷ b ∷ n ∷ c ∷ rest)).held))
    (walk_is_right a b n c rest p q s fits r plain)
    ∙ ap (λ (v : Walk). after_walk run_shape v.held) (walk_ends a b n c rest p q s r plain)
    ∙ end_is_right run_shape 4 plans_rule (three_rows a b n) (takes_plans a b n) c rest (rows_are_right a b n c rest)

all_plain : (name a b n c : Text) (rest : List Text) → is_plain_word a ≡ true → is_plain_word b ≡ true
    → is_plain_word n ≡ true → IsSeed n → is_plain_word c ≡ true → All IsPlainWord rest
    → asked_plainly (name ∷ codes "run" ∷ a ∷ b ∷ n ∷ c ∷ rest)
    ≡ Some (run None None a b (number_in (without_minus n)) (c ∷ rest))
all_plain name a b n c rest p q s fits r plain =
    ap (λ (kinds : Kinds).
    unless_faulty kinds (asked_of (subcommand_of program (name ∷ codes "run" ∷ a ∷ b ∷ n ∷ c ∷ rest))))
    (top_is_right program (codes "run") run_shape has_command name (a ∷ b ∷ n ∷ c ∷ rest)
    ∙ ap (λ (kinds : Kinds). or_else kinds []) (level_is_right a b n c rest p q s fits r plain))
    ∙ ap asked_of (command_is program (codes "run") run_shape has_command name (a ∷ b ∷ n ∷ c ∷ rest))
    ∙ ap (λ (v : Walk). asked_of (Some (codes "run", finished run_shape.rules v.held)))
    (walk_ends a b n c rest p q s r plain)
    ∙ ap (λ (rows : List Row). asked_of (Some (codes "run", fold with_default rows run_shape.rules)))
    (all_settled run_shape 4 plans_rule (three_rows a b n) (takes_plans a b n) [] c rest)
    ∙ values_are a b n c rest

pub plain_run : (name a b c : Text) (seed : ℕ) (rest : List Text) → seed < 2 ^ 32 → is_plain_word a ≡ true
    → is_plain_word b ≡ true → is_plain_word c ≡ true → All IsPlainWord rest
    → asked_plainly (name ∷ codes "run" ∷ a ∷ b ∷ decimal seed ∷ c ∷ rest) ≡ Some (run None None a b seed (c ∷ rest))
plain_run name a b c seed rest fits p q r plain =
    all_plain name a b (decimal seed) c rest p q (plain_decimal seed fits) (accepts_decimal seed fits) r plain
    ∙ ap (λ (n : ℕ). Some (run None None a b n (c ∷ rest))) (number_decimal seed fits)
