-- What `simulate`, `audit` and `draw` with three plain words or more ask for.
use Rattle.std.proofs.Common.{◌≡◌, true, false, List, [], ◌∷◌, ◌++◌, None, Some, codes, fold, refl}
use Rattle.std.specs.List.{All}
use Rattle.clap.specs.Walk.{Row, Rule, Text, arg_by_index, settled, to_positional, value, with_default}
use Rattle.clap.specs.Simple.{Shape, built, new_rule}
use Rattle.clap.specs.Faults.{settle_fault, step_fault}
use Rattle.clap.proofs.OnLiterals.{clap_on_literals}
use Rattle.pp_words.specs.CommandLine.{Asked, asked_of, asked_plainly, simulate, audit, draw, is_plain_word}
use Rattle.pp_words.specs.CommandLine.{IsPlainWord, program, simulate_command}
use Rattle.pp_words.proofs.PlainPlans.{among, plan_rows, plans_held, TakesPlans, HasCommand}
use Rattle.pp_words.proofs.PlainTwo.{WordsGo, NoFaults, TakesTwo, two_rows, all_rows, plain_two}

pub data Command : Type 0 where
  plays : Command
  audits : Command
  draws : Command

abbrev pub name_of : Command → Text
name_of plays = codes "simulate"
name_of audits = codes "audit"
name_of draws = codes "draw"

abbrev pub asks : Command → Text → Text → List Text → Asked
asks plays = simulate
asks audits = audit false
asks draws = draw None

-- the third, the sixth and the seventh of some commands
shape_among : Command → List Shape → Shape
shape_among plays (s ∷ t ∷ u ∷ rest) = u
shape_among audits (s ∷ t ∷ u ∷ v ∷ w ∷ x ∷ rest) = x
shape_among draws (s ∷ t ∷ u ∷ v ∷ w ∷ x ∷ y ∷ rest) = y
shape_among _ _ = simulate_command.top

abbrev shape : Command → Shape
unfolding shape_among
shape command = shape_among command (built program).subs

-- the third of some arguments
third_rule : List Rule → Rule
third_rule (s ∷ t ∷ u ∷ rest) = u
third_rule _ = new_rule []

abbrev plans_rule : Command → Rule
unfolding shape_among third_rule
plans_rule command = third_rule (shape command).rules

-- the rows of two words
abbrev front : Command → Text → Text → List Row
front command a b = two_rows (shape command) a b

-- ---- what their rules show by computing

more : (command : Command) (a b : Text) (before : List Text) (last word : Text)
    → to_positional (shape command).rules (arg_by_index (shape command).rules 3) word
    (among 3 (plans_held (plans_rule command) (front command a b) before last))
    (plans_held (plans_rule command) (front command a b) before last)
    ≡ among 3 (plans_held (plans_rule command) (front command a b) (before ++ last ∷ []) word)
unfolding shape_among third_rule
more plays a b [] last word = refl
more plays a b (x ∷ xs) last word = refl
more audits a b [] last word = refl
more audits a b (x ∷ xs) last word = refl
more draws a b [] last word = refl
more draws a b (x ∷ xs) last word = refl

no_fault : (command : Command) (a b : Text) (before : List Text) (last : Text)
    → step_fault (shape command) 3 (plans_held (plans_rule command) (front command a b) before last) value ≡ []
unfolding shape_among third_rule
no_fault plays a b before last = refl
no_fault audits a b before last = refl
no_fault draws a b before last = refl

settled_one : (command : Command) (a b : Text) (before : List Text) (last : Text)
    → (settled (shape command).rules (plans_held (plans_rule command) (front command a b) before last)).rows
    ≡ front command a b ++ plan_rows (plans_rule command) (before ++ last ∷ [])
unfolding shape_among third_rule
settled_one plays a b [] last = refl
settled_one plays a b (x ∷ xs) last = refl
settled_one audits a b [] last = refl
settled_one audits a b (x ∷ xs) last = refl
settled_one draws a b [] last = refl
settled_one draws a b (x ∷ xs) last = refl

settles : (command : Command) (a b : Text) (before : List Text) (last : Text)
    → settle_fault (shape command).rules (shape command).args_override_self
    (plans_held (plans_rule command) (front command a b) before last) ≡ []
unfolding shape_among third_rule
settles plays a b before last = refl
settles audits a b before last = refl
settles draws a b before last = refl

takes_plans : (command : Command) (a b : Text) → TakesPlans (shape command) 3 (plans_rule command) (front command a b)
takes_plans command a b = record {
  more = more command a b;
  no_fault = no_fault command a b;
  settled_one = settled_one command a b;
  settles = settles command a b;
}

has_command : (command : Command) → HasCommand program (name_of command) (shape command)
unfolding clap_on_literals shape_among
has_command plays = record {
  read = λ words. refl;
  met = refl;
  turn = refl;
  level = λ behind. refl;
  rows = λ behind. refl;
}
has_command audits = record {
  read = λ words. refl;
  met = refl;
  turn = refl;
  level = λ behind. refl;
  rows = λ behind. refl;
}
has_command draws = record {
  read = λ words. refl;
  met = refl;
  turn = refl;
  level = λ behind. refl;
  rows = λ behind. refl;
}

goes : (command : Command) → WordsGo (shape command) (plans_rule command)
unfolding clap_on_literals shape_among third_rule
goes plays = record { first = λ a. refl; second = λ a b. refl; third = λ a b c. refl }
goes audits = record { first = λ a. refl; second = λ a b. refl; third = λ a b c. refl }
goes draws = record { first = λ a. refl; second = λ a b. refl; third = λ a b c. refl }

right : (command : Command) → NoFaults (shape command) (plans_rule command)
unfolding clap_on_literals shape_among third_rule
right plays = record { first = refl; second = λ a. refl; third = λ a b. refl; rows = λ a b c rest. refl }
right audits = record { first = refl; second = λ a. refl; third = λ a b. refl; rows = λ a b c rest. refl }
right draws = record { first = refl; second = λ a. refl; third = λ a b. refl; rows = λ a b c rest. refl }

values : (command : Command) (a b c : Text) (rest : List Text)
    → asked_of (Some (
      name_of command,
      fold with_default (all_rows (shape command) (plans_rule command) a b (c ∷ rest)) (shape command).rules,
    ))
    ≡ Some (asks command a b (c ∷ rest))
unfolding clap_on_literals shape_among third_rule
values plays a b c rest = refl
values audits a b c rest = refl
values draws a b c rest = refl

takes_two : (command : Command) → TakesTwo (name_of command) (shape command) (plans_rule command) (asks command)
takes_two command = record {
  has = has_command command;
  goes = goes command;
  right = right command;
  plans = takes_plans command;
  values = values command;
}

pub plain_plans : (command : Command) (name a b c : Text) (rest : List Text) → is_plain_word a ≡ true
    → is_plain_word b ≡ true → is_plain_word c ≡ true → All IsPlainWord rest
    → asked_plainly (name ∷ name_of command ∷ a ∷ b ∷ c ∷ rest) ≡ Some (asks command a b (c ∷ rest))
plain_plans command name a b c rest p q r plain =
    plain_two (name_of command) (shape command) (plans_rule command) (asks command) (takes_two command) a b c rest p q r
    plain name
