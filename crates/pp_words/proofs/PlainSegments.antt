-- What an audit of segments asks for whose front has plain words behind its flags.
use Rattle.std.proofs.Common.{◌≡◌, Bool, true, false, List, [], ◌∷◌, ◌++◌, Some, ap, codes, fold}
use Rattle.std.proofs.Common.{◌∙◌, if◌then◌else◌, refl}
use Rattle.std.specs.List.{All, list_any}
use Rattle.clap.specs.Kinds.{Kinds, or_else}
use Rattle.clap.specs.Walk.{Held, Row, Rule, Text, Walk, arg_by_index, finished, nothing_held, reacted}
use Rattle.clap.specs.Walk.{settled, to_positional, value, walk, walked, with_default}
use Rattle.clap.specs.Simple.{Shape, built, new_rule, subcommand_of}
use Rattle.clap.specs.Faults.{level_fault, walk_fault, defaults_fault, check_fault, settle_fault, step_fault}
use Rattle.clap.specs.Faults.{turn_fault}
use Rattle.clap.proofs.OnLiterals.{clap_on_literals}
use Rattle.pp_words.specs.CommandLine.{asked, asked_in_parts, asked_plainly, file_words, front_words, is_dashes}
use Rattle.pp_words.specs.CommandLine.{is_plain_word, is_segments_flag, IsPlainWord, segments, segments_command}
use Rattle.pp_words.specs.CommandLine.{segments_of, segments_program, unless_faulty, wants_segments}
use Rattle.pp_words.proofs.Dashes.{files_are, front_is, two_plain}
use Rattle.pp_words.proofs.PlainWalk.{between, fault_cons, held_after, turn_plain, walked_plain}
use Rattle.pp_words.proofs.PlainPlans.{after_walk, plan_rows, plans_held, among, TakesPlans, end_held, rest_walked}
use Rattle.pp_words.proofs.PlainPlans.{rest_is_right, all_settled, end_is_right, HasCommand, top_is_right, command_is}

-- the only one of some commands that isn't the help
first_shape : List Shape → Shape
first_shape (s ∷ rest) = s
first_shape [] = segments_command.top

abbrev shape : Shape
unfolding first_shape
shape = first_shape (built segments_program).subs

-- the first, the second and the fourth of some arguments
first_rule : List Rule → Rule
first_rule (s ∷ rest) = s
first_rule _ = new_rule []

second_rule : List Rule → Rule
second_rule (s ∷ t ∷ rest) = t
second_rule _ = new_rule []

fourth_rule : List Rule → Rule
fourth_rule (s ∷ t ∷ u ∷ v ∷ rest) = v
fourth_rule _ = new_rule []

abbrev plans_rule : Rule
unfolding first_shape fourth_rule
plans_rule = fourth_rule shape.rules

-- what is held behind the flag `--segments`
abbrev held_begun : Held
unfolding first_shape first_rule
held_begun = reacted shape.rules (first_rule shape.rules) [] nothing_held

-- the flags, with `--ended` or without it
abbrev flags : Bool → List Text
flags false = codes "--segments" ∷ []
flags true = codes "--segments" ∷ codes "--ended" ∷ []

-- what is held behind the flags
abbrev held_0 : Bool → Held
unfolding first_shape second_rule
held_0 false = held_begun
held_0 true = reacted shape.rules (second_rule shape.rules) [] held_begun

abbrev held_1 : Bool → Text → Held
held_1 ended a = held_after shape 1 a (held_0 ended)

-- the rows of the flags and of the settings
abbrev front_rows : Bool → Text → List Row
front_rows ended a = (settled shape.rules (held_1 ended a)).rows

-- the rows of all words
abbrev all_rows : Bool → Text → List Text → List Row
all_rows ended a plans = front_rows ended a ++ plan_rows plans_rule plans

-- ---- what the command's rules show by computing

flag_step : walked shape.rules [] (between nothing_held 1) (codes "--segments") ≡ between held_begun 1
unfolding clap_on_literals first_shape first_rule
flag_step = refl

flag_turn : turn_fault shape [] (between nothing_held 1) (codes "--segments") ≡ []
unfolding clap_on_literals first_shape
flag_turn = refl

ended_step : walked shape.rules [] (between held_begun 1) (codes "--ended") ≡ between (held_0 true) 1
unfolding clap_on_literals first_shape first_rule second_rule
ended_step = refl

ended_turn : turn_fault shape [] (between held_begun 1) (codes "--ended") ≡ []
unfolding clap_on_literals first_shape first_rule
ended_turn = refl

settings_go : (ended : Bool) (a : Text)
    → to_positional shape.rules (arg_by_index shape.rules 1) a (between (held_0 ended) 1) (held_0 ended)
    ≡ between (held_1 ended a) 2
unfolding first_shape first_rule second_rule
settings_go false a = refl
settings_go true a = refl

settings_are_right : (ended : Bool) → step_fault shape 1 (held_0 ended) value ≡ []
unfolding first_shape first_rule second_rule
settings_are_right false = refl
settings_are_right true = refl

plan_goes : (ended : Bool) (a b : Text)
    → to_positional shape.rules (arg_by_index shape.rules 2) b (between (held_1 ended a) 2) (held_1 ended a)
    ≡ among 2 (plans_held plans_rule (front_rows ended a) [] b)
unfolding first_shape first_rule second_rule fourth_rule
plan_goes false a b = refl
plan_goes true a b = refl

plan_is_right : (ended : Bool) (a : Text) → step_fault shape 2 (held_1 ended a) value ≡ []
unfolding first_shape first_rule second_rule
plan_is_right false a = refl
plan_is_right true a = refl

more : (ended : Bool) (a : Text) (before : List Text) (last word : Text)
    → to_positional shape.rules (arg_by_index shape.rules 2) word
    (among 2 (plans_held plans_rule (front_rows ended a) before last))
    (plans_held plans_rule (front_rows ended a) before last)
    ≡ among 2 (plans_held plans_rule (front_rows ended a) (before ++ last ∷ []) word)
unfolding first_shape first_rule second_rule fourth_rule
more false a [] last word = refl
more false a (x ∷ xs) last word = refl
more true a [] last word = refl
more true a (x ∷ xs) last word = refl

no_fault : (ended : Bool) (a : Text) (before : List Text) (last : Text)
    → step_fault shape 2 (plans_held plans_rule (front_rows ended a) before last) value ≡ []
unfolding first_shape first_rule second_rule fourth_rule
no_fault false a before last = refl
no_fault true a before last = refl

settled_one : (ended : Bool) (a : Text) (before : List Text) (last : Text)
    → (settled shape.rules (plans_held plans_rule (front_rows ended a) before last)).rows
    ≡ front_rows ended a ++ plan_rows plans_rule (before ++ last ∷ [])
unfolding first_shape first_rule second_rule fourth_rule
settled_one false a [] last = refl
settled_one false a (x ∷ xs) last = refl
settled_one true a [] last = refl
settled_one true a (x ∷ xs) last = refl

settles : (ended : Bool) (a : Text) (before : List Text) (last : Text)
    → settle_fault shape.rules shape.args_override_self (plans_held plans_rule (front_rows ended a) before last) ≡ []
unfolding first_shape first_rule second_rule fourth_rule
settles false a before last = refl
settles true a before last = refl

takes_plans : (ended : Bool) (a : Text) → TakesPlans shape 2 plans_rule (front_rows ended a)
takes_plans ended a = record {
  more = more ended a;
  no_fault = no_fault ended a;
  settled_one = settled_one ended a;
  settles = settles ended a;
}

has_command : HasCommand segments_program (codes "audit") shape
unfolding clap_on_literals first_shape
has_command = record {
  read = λ words. refl;
  met = refl;
  turn = refl;
  level = λ behind. refl;
  rows = λ behind. refl;
}

rows_are_right : (ended : Bool) (a b : Text) (rest : List Text)
    → or_else (defaults_fault (all_rows ended a (b ∷ rest)) shape.rules)
    (check_fault shape (fold with_default (all_rows ended a (b ∷ rest)) shape.rules) false) ≡ []
unfolding clap_on_literals first_shape first_rule second_rule fourth_rule
rows_are_right false a b rest = refl
rows_are_right true a b rest = refl

values_are : (ended : Bool) (a b file : Text) (rest files : List Text)
    → segments_of (Some (codes "audit", fold with_default (all_rows ended a (b ∷ rest)) shape.rules)) (file ∷ files)
    ≡ Some (segments ended a (b ∷ rest) (file ∷ files))
unfolding clap_on_literals first_shape first_rule second_rule fourth_rule
values_are false a b file rest files = refl
values_are true a b file rest files = refl

-- ---- its words

module _ (a b : Text) (rest : List Text) (p : is_plain_word a ≡ true) (q : is_plain_word b ≡ true)
    (plain : All IsPlainWord rest) where
  -- what is held behind all words
  abbrev end : Bool → Held
  end ended = end_held shape 2 plans_rule (front_rows ended a) (takes_plans ended a) [] b rest

  settings_step : (ended : Bool)
      → walked shape.rules [] (between (held_0 ended) 1) a ≡ between (held_1 ended a) 2
  settings_step ended = walked_plain shape.rules (held_0 ended) 1 a p ∙ settings_go ended a

  plan_step : (ended : Bool) → walked shape.rules [] (between (held_1 ended a) 2) b
      ≡ among 2 (plans_held plans_rule (front_rows ended a) [] b)
  plan_step ended = walked_plain shape.rules (held_1 ended a) 2 b q ∙ plan_goes ended a b

  behind_is_right : (ended : Bool) → walk_fault shape [] (between (held_0 ended) 1) (a ∷ b ∷ rest) ≡ []
  behind_is_right ended =
      fault_cons shape (between (held_0 ended) 1) (between (held_1 ended a) 2) a (b ∷ rest)
      (turn_plain shape (held_0 ended) 1 a p ∙ settings_are_right ended) (settings_step ended)
      (fault_cons shape (between (held_1 ended a) 2) (among 2 (plans_held plans_rule (front_rows ended a) [] b)) b rest
      (turn_plain shape (held_1 ended a) 2 b q ∙ plan_is_right ended a) (plan_step ended)
      (rest_is_right shape 2 plans_rule (front_rows ended a) (takes_plans ended a) [] b rest plain))

  walk_is_right : (ended : Bool)
      → walk_fault shape [] (between nothing_held 1) (flags ended ++ a ∷ b ∷ rest) ≡ []
  unfolding held_begun held_0
  walk_is_right false =
      fault_cons shape (between nothing_held 1) (between held_begun 1) (codes "--segments") (a ∷ b ∷ rest) flag_turn
      flag_step (behind_is_right false)
  walk_is_right true =
      fault_cons shape (between nothing_held 1) (between held_begun 1) (codes "--segments")
      (codes "--ended" ∷ a ∷ b ∷ rest) flag_turn flag_step
      (fault_cons shape (between held_begun 1) (between (held_0 true) 1) (codes "--ended") (a ∷ b ∷ rest) ended_turn
      ended_step (behind_is_right true))

  behind_ends : (ended : Bool)
      → fold (walked shape.rules []) (between (held_0 ended) 1) (a ∷ b ∷ rest) ≡ among 2 (end ended)
  behind_ends ended =
      ap (λ (v : Walk). fold (walked shape.rules []) (walked shape.rules [] v b) rest) (settings_step ended)
      ∙ ap (λ (v : Walk). fold (walked shape.rules []) v rest) (plan_step ended)
      ∙ rest_walked shape 2 plans_rule (front_rows ended a) (takes_plans ended a) [] b rest plain

  walk_ends : (ended : Bool) → walk shape.rules [] nothing_held (flags ended ++ a ∷ b ∷ rest) ≡ among 2 (end ended)
  unfolding held_begun held_0
  walk_ends false =
      ap (λ (v : Walk). fold (walked shape.rules []) v (a ∷ b ∷ rest)) flag_step ∙ behind_ends false
  walk_ends true =
      ap (λ (v : Walk). fold (walked shape.rules []) (walked shape.rules [] v (codes "--ended")) (a ∷ b ∷ rest))
      flag_step
      ∙ ap (λ (v : Walk). fold (walked shape.rules []) v (a ∷ b ∷ rest)) ended_step ∙ behind_ends true

  level_is_right : (ended : Bool)
      → level_fault shape [] nothing_held (flags ended ++ a ∷ b ∷ rest) false [] ≡ []
  level_is_right ended =
      ap (λ (kinds : Kinds). or_else kinds
      (after_walk shape (walk shape.rules [] nothing_held (flags ended ++ a ∷ b ∷ rest)).held)) (walk_is_right ended)
      ∙ ap (λ (v : Walk). after_walk shape v.held) (walk_ends ended)
      ∙ end_is_right shape 2 plans_rule (front_rows ended a) (takes_plans ended a) b rest
      (rows_are_right ended a b rest)

  -- what the front asks for with these files
  front_asks : (ended : Bool) (name file : Text) (files : List Text)
      → asked_in_parts (name ∷ codes "audit" ∷ flags ended ++ a ∷ b ∷ rest) (file ∷ files)
      ≡ Some (segments ended a (b ∷ rest) (file ∷ files))
  front_asks ended name file files =
      ap (λ (kinds : Kinds). unless_faulty kinds
      (segments_of (subcommand_of segments_program (name ∷ codes "audit" ∷ flags ended ++ a ∷ b ∷ rest))
      (file ∷ files)))
      (top_is_right segments_program (codes "audit") shape has_command name (flags ended ++ a ∷ b ∷ rest)
      ∙ ap (λ (kinds : Kinds). or_else kinds []) (level_is_right ended))
      ∙ ap (λ (found : _). segments_of found (file ∷ files))
      (command_is segments_program (codes "audit") shape has_command name (flags ended ++ a ∷ b ∷ rest))
      ∙ ap (λ (v : Walk). segments_of (Some (codes "audit", finished shape.rules v.held)) (file ∷ files))
      (walk_ends ended)
      ∙ ap (λ (rows : List Row). segments_of (Some (codes "audit", fold with_default rows shape.rules)) (file ∷ files))
      (all_settled shape 2 plans_rule (front_rows ended a) (takes_plans ended a) [] b rest)
      ∙ values_are ended a b file rest files

  -- no word of the front is `--`
  front_none : (ended : Bool) → list_any is_dashes (flags ended ++ a ∷ b ∷ rest) ≡ false
  front_none false = two_plain a b rest p q plain
  front_none true = two_plain a b rest p q plain

  is_wanted : (ended : Bool) → list_any is_segments_flag (flags ended ++ a ∷ b ∷ rest) ≡ true
  is_wanted false = refl
  is_wanted true = refl

  abbrev words : Bool → Text → Text → List Text → List Text
  words ended name file files =
      name ∷ codes "audit" ∷ (flags ended ++ a ∷ b ∷ rest) ++ codes "--" ∷ file ∷ files

  wants : (ended : Bool) (name file : Text) (files : List Text) → wants_segments (words ended name file files) ≡ true
  wants ended name file files =
      ap (λ (front : List Text). list_any is_segments_flag front)
      (front_is (flags ended ++ a ∷ b ∷ rest) (file ∷ files) (front_none ended))
      ∙ is_wanted ended

  all_asked : (ended : Bool) (name file : Text) (files : List Text)
      → asked (words ended name file files) ≡ Some (segments ended a (b ∷ rest) (file ∷ files))
  all_asked ended name file files =
      ap (λ (wanted : Bool). if wanted then asked_in_parts (front_words (words ended name file files))
      (file_words (words ended name file files)) else asked_plainly (words ended name file files))
      (wants ended name file files)
      ∙ ap (λ (front : List Text). asked_in_parts (name ∷ codes "audit" ∷ front)
      (file_words (words ended name file files)))
      (front_is (flags ended ++ a ∷ b ∷ rest) (file ∷ files) (front_none ended))
      ∙ ap (λ (behind : List Text). asked_in_parts (name ∷ codes "audit" ∷ flags ended ++ a ∷ b ∷ rest) behind)
      (files_are (flags ended ++ a ∷ b ∷ rest) (file ∷ files) (front_none ended))
      ∙ front_asks ended name file files

pub plain_segments : (ended : Bool) (name a b file : Text) (rest files : List Text) → is_plain_word a ≡ true
    → is_plain_word b ≡ true → All IsPlainWord rest
    → asked (name ∷ codes "audit" ∷ (flags ended ++ a ∷ b ∷ rest) ++ codes "--" ∷ file ∷ files)
    ≡ Some (segments ended a (b ∷ rest) (file ∷ files))
plain_segments ended name a b file rest files p q plain = all_asked a b rest p q plain ended name file files
