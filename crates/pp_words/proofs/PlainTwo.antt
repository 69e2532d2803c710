-- What a command of two words and plans behind them asks for, where all are plain words.
use Rattle.std.proofs.Common.{◌≡◌, true, false, List, [], ◌∷◌, ◌++◌, Some, ap, ◌∙◌, fold}
use Rattle.std.specs.List.{All}
use Rattle.clap.specs.Kinds.{Kinds, or_else}
use Rattle.clap.specs.Walk.{Held, Row, Rule, Text, Walk, arg_by_index, finished, nothing_held}
use Rattle.clap.specs.Walk.{settled, to_positional, value, walk, walked, with_default}
use Rattle.clap.specs.Simple.{Shape, subcommand_of}
use Rattle.clap.specs.Faults.{level_fault, walk_fault, defaults_fault, check_fault, step_fault}
use Rattle.pp_words.specs.CommandLine.{Asked, asked_of, asked_plainly, is_plain_word, IsPlainWord, program}
use Rattle.pp_words.specs.CommandLine.{unless_faulty}
use Rattle.pp_words.proofs.PlainWalk.{between, fault_cons, held_after, turn_plain, walked_plain}
use Rattle.pp_words.proofs.PlainPlans.{after_walk, plan_rows, plans_held, among, TakesPlans, end_held, rest_walked}
use Rattle.pp_words.proofs.PlainPlans.{rest_is_right, all_settled, end_is_right, HasCommand, top_is_right, command_is}

abbrev pub held_1 : Shape → Text → Held
held_1 shape a = held_after shape 1 a nothing_held

abbrev pub held_2 : Shape → Text → Text → Held
held_2 shape a b = held_after shape 2 b (held_1 shape a)

-- the rows of the first two words
abbrev pub two_rows : Shape → Text → Text → List Row
two_rows shape a b = (settled shape.rules (held_2 shape a b)).rows

-- the rows of all words
abbrev pub all_rows : Shape → Rule → Text → Text → List Text → List Row
all_rows shape rule a b plans = two_rows shape a b ++ plan_rows rule plans

-- Two words go to a command's first two arguments, and the next one to its plans.
pub record WordsGo (shape : Shape) (rule : Rule) : Type 0 where
  pub first : (a : Text)
      → to_positional shape.rules (arg_by_index shape.rules 1) a (between nothing_held 1) nothing_held
      ≡ between (held_1 shape a) 2
  pub second : (a b : Text)
      → to_positional shape.rules (arg_by_index shape.rules 2) b (between (held_1 shape a) 2) (held_1 shape a)
      ≡ between (held_2 shape a b) 3
  pub third : (a b c : Text)
      → to_positional shape.rules (arg_by_index shape.rules 3) c (between (held_2 shape a b) 3) (held_2 shape a b)
      ≡ among 3 (plans_held rule (two_rows shape a b) [] c)

-- These words are no fault, and with all rows there is none.
pub record NoFaults (shape : Shape) (rule : Rule) : Type 0 where
  pub first : step_fault shape 1 nothing_held value ≡ []
  pub second : (a : Text) → step_fault shape 2 (held_1 shape a) value ≡ []
  pub third : (a b : Text) → step_fault shape 3 (held_2 shape a b) value ≡ []
  pub rows : (a b c : Text) (rest : List Text)
      → or_else (defaults_fault (all_rows shape rule a b (c ∷ rest)) shape.rules)
      (check_fault shape (fold with_default (all_rows shape rule a b (c ∷ rest)) shape.rules) false) ≡ []

-- What a command's rules show by computing: two words go to its first two arguments, and plans to the third. It asks for
-- what these are.
pub record TakesTwo (command : Text) (shape : Shape) (rule : Rule) (asks : Text → Text → List Text → Asked) : Type 0 where
  pub has : HasCommand program command shape
  pub goes : WordsGo shape rule
  pub right : NoFaults shape rule
  pub plans : (a b : Text) → TakesPlans shape 3 rule (two_rows shape a b)
  pub values : (a b c : Text) (rest : List Text)
      → asked_of (Some (command, fold with_default (all_rows shape rule a b (c ∷ rest)) shape.rules))
      ≡ Some (asks a b (c ∷ rest))

module _ (command : Text) (shape : Shape) (rule : Rule) (asks : Text → Text → List Text → Asked)
    (takes : TakesTwo command shape rule asks) (a b c : Text) (rest : List Text) (p : is_plain_word a ≡ true)
    (q : is_plain_word b ≡ true) (r : is_plain_word c ≡ true) (plain : All IsPlainWord rest) where
  abbrev front : List Row
  front = two_rows shape a b

  abbrev end : Held
  end = end_held shape 3 rule front (takes.plans a b) [] c rest

  first_step : walked shape.rules [] (between nothing_held 1) a ≡ between (held_1 shape a) 2
  first_step = walked_plain shape.rules nothing_held 1 a p ∙ takes.goes.first a

  second_step : walked shape.rules [] (between (held_1 shape a) 2) b ≡ between (held_2 shape a b) 3
  second_step = walked_plain shape.rules (held_1 shape a) 2 b q ∙ takes.goes.second a b

  third_step : walked shape.rules [] (between (held_2 shape a b) 3) c ≡ among 3 (plans_held rule front [] c)
  third_step = walked_plain shape.rules (held_2 shape a b) 3 c r ∙ takes.goes.third a b c

  walk_is_right : walk_fault shape [] (between nothing_held 1) (a ∷ b ∷ c ∷ rest) ≡ []
  walk_is_right =
      fault_cons shape (between nothing_held 1) (between (held_1 shape a) 2) a (b ∷ c ∷ rest)
      (turn_plain shape nothing_held 1 a p ∙ takes.right.first) first_step
      (fault_cons shape (between (held_1 shape a) 2) (between (held_2 shape a b) 3) b (c ∷ rest)
      (turn_plain shape (held_1 shape a) 2 b q ∙ takes.right.second a) second_step
      (fault_cons shape (between (held_2 shape a b) 3) (among 3 (plans_held rule front [] c)) c rest
      (turn_plain shape (held_2 shape a b) 3 c r ∙ takes.right.third a b) third_step
      (rest_is_right shape 3 rule front (takes.plans a b) [] c rest plain)))

  walk_ends : walk shape.rules [] nothing_held (a ∷ b ∷ c ∷ rest) ≡ among 3 end
  walk_ends =
      ap (λ (v : Walk). fold (walked shape.rules [])
      (walked shape.rules [] (walked shape.rules [] v b) c) rest) first_step
      ∙ ap (λ (v : Walk). fold (walked shape.rules []) (walked shape.rules [] v c) rest) second_step
      ∙ ap (λ (v : Walk). fold (walked shape.rules []) v rest) third_step
      ∙ rest_walked shape 3 rule front (takes.plans a b) [] c rest plain

  level_is_right : level_fault shape [] nothing_held (a ∷ b ∷ c ∷ rest) false [] ≡ []
  level_is_right =
      ap (λ (kinds : Kinds). or_else kinds
      (after_walk shape (walk shape.rules [] nothing_held (a ∷ b ∷ c ∷ rest)).held)) walk_is_right
      ∙ ap (λ (v : Walk). after_walk shape v.held) walk_ends
      ∙ end_is_right shape 3 rule front (takes.plans a b) c rest (takes.right.rows a b c rest)

  pub plain_two : (name : Text) → asked_plainly (name ∷ command ∷ a ∷ b ∷ c ∷ rest) ≡ Some (asks a b (c ∷ rest))
  plain_two name =
      ap (λ (kinds : Kinds).
      unless_faulty kinds (asked_of (subcommand_of program (name ∷ command ∷ a ∷ b ∷ c ∷ rest))))
      (top_is_right program command shape takes.has name (a ∷ b ∷ c ∷ rest)
      ∙ ap (λ (kinds : Kinds). or_else kinds []) level_is_right)
      ∙ ap asked_of (command_is program command shape takes.has name (a ∷ b ∷ c ∷ rest))
      ∙ ap (λ (v : Walk). asked_of (Some (command, finished shape.rules v.held))) walk_ends
      ∙ ap (λ (found : List Row). asked_of (Some (command, fold with_default found shape.rules)))
      (all_settled shape 3 rule front (takes.plans a b) [] c rest)
      ∙ takes.values a b c rest
