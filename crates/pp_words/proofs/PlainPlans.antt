-- Commands whose last words are plans: the plans behind the first one, and a program's level above a command.
use Rattle.std.proofs.Common.{◌≡◌, ℕ, true, false, List, [], ◌∷◌, ◌++◌, Some, None, codes, ap, drop, ◌∙◌, fold}
use Rattle.std.proofs.Common.{append_assoc, append-nil, is_some, refl, sym}
use Rattle.std.specs.List.{All}
use Rattle.std.proofs.lemmas.List.Elements.{All-head, All-tail}
use Rattle.clap.specs.Kinds.{Kinds, or_else}
use Rattle.clap.specs.Walk.{Held, Row, Rule, Step, Text, Walk, after_step, arg_by_index, finished, nothing_held}
use Rattle.clap.specs.Walk.{positional, reading_by, settled, to_positional, value, walk, walked}
use Rattle.clap.specs.Walk.{Names, stop_after, walk_from, with_default, word_met}
use Rattle.clap.specs.Simple.{App, Shape, argument_words, built, entered, names_of, subcommand_of}
use Rattle.clap.specs.Faults.{level_fault, walk_fault, settle_fault, defaults_fault, check_fault, fault_of}
use Rattle.clap.specs.Faults.{built_fault, entered_fault, step_fault, turn_fault, word_fault}
use Rattle.clap.specs.declared.parser.matches.ValueSource.TheVariants.{CommandLine}
use Rattle.pp_words.specs.CommandLine.{is_plain_word, IsPlainWord}
use Rattle.pp_words.proofs.PlainWalk.{fault_cons, no_dashes, no_hyphen, no_more}

-- the steps after a command's walk
abbrev pub after_walk : Shape → Held → Kinds
after_walk shape end = or_else (settle_fault shape.rules shape.args_override_self end)
    (or_else (defaults_fault (settled shape.rules end).rows shape.rules)
    (check_fault shape (finished shape.rules end) false))

-- ---- the plans behind the first

-- the row of the plans whose use is done
abbrev pub plan_rows : Rule → List Text → List Row
plan_rows rule [] = []
plan_rows rule (x ∷ xs) = record {
  id = codes "plans";
  values = x ∷ xs;
  count = None;
  source = Some CommandLine;
  reading = reading_by rule;
} ∷ []

-- what is held where one more plan is pending, behind the rows of the words in front
abbrev pub plans_held : Rule → List Row → List Text → Text → Held
plans_held rule front before last = record {
  rows = front ++ plan_rows rule before;
  pending = Some (codes "plans", last ∷ []);
  skip = 0;
}

-- where the walk stands behind a plan
abbrev pub among : ℕ → Held → Walk
among position h = record { held = h; waiting = positional; position = position; is_trailing = false; stopped = None }

-- What a command's rules show by computing: its plans stand from this position on, and are of this rule.
pub record TakesPlans (shape : Shape) (position : ℕ) (rule : Rule) (front : List Row) : Type 0 where
  pub more : (before : List Text) (last word : Text)
      → to_positional shape.rules (arg_by_index shape.rules position) word
      (among position (plans_held rule front before last)) (plans_held rule front before last)
      ≡ among position (plans_held rule front (before ++ last ∷ []) word)
  pub no_fault : (before : List Text) (last : Text)
      → step_fault shape position (plans_held rule front before last) value ≡ []
  pub settled_one : (before : List Text) (last : Text)
      → (settled shape.rules (plans_held rule front before last)).rows ≡ front ++ plan_rows rule (before ++ last ∷ [])
  pub settles : (before : List Text) (last : Text)
      → settle_fault shape.rules shape.args_override_self (plans_held rule front before last) ≡ []

plan_is_value : (rules : List Rule) (position : ℕ) (word : Text) (h : Held) → is_plain_word word ≡ true
    → word_met rules [] false positional position word h ≡ (h, value)
plan_is_value rules position word h plain = rw (no_dashes word plain, no_hyphen word plain, no_hyphen word plain) refl

plan_is_right : (shape : Shape) (word : Text) (h : Held) → is_plain_word word ≡ true
    → word_fault shape [] false positional word h ≡ []
plan_is_right shape word h plain = rw (no_dashes word plain, no_hyphen word plain, no_hyphen word plain) refl

module _ (shape : Shape) (position : ℕ) (rule : Rule) (front : List Row)
    (takes : TakesPlans shape position rule front) where
  abbrev plans : List Text → Text → Held
  plans before last = plans_held rule front before last

  next_step : (before : List Text) (last word : Text) → is_plain_word word ≡ true
      → walked shape.rules [] (among position (plans before last)) word
      ≡ among position (plans (before ++ last ∷ []) word)
  unfolding walked
  next_step before last word plain =
      ap (λ (met : Held × Step). after_step shape.rules word (among position (plans before last)) met.0 met.1)
      (plan_is_value shape.rules position word (plans before last) plain)
      ∙ takes.more before last word

  next_turn : (before : List Text) (last word : Text) → is_plain_word word ≡ true
      → turn_fault shape [] (among position (plans before last)) word ≡ []
  next_turn before last word plain =
      ap (λ (kinds : Kinds). or_else kinds (step_fault shape position
      (word_met shape.rules [] false positional position word (plans before last)).0
      (word_met shape.rules [] false positional position word (plans before last)).1))
      (plan_is_right shape word (plans before last) plain)
      ∙ ap (λ (met : Held × Step). step_fault shape position met.0 met.1)
      (plan_is_value shape.rules position word (plans before last) plain)
      ∙ takes.no_fault before last

  -- what is held behind the last plan
  pub end_held : List Text → Text → List Text → Held
  end_held before last [] = plans before last
  end_held before last (w ∷ ws) = end_held (before ++ last ∷ []) w ws

  pub rest_walked : (before : List Text) (last : Text) (rest : List Text) → All IsPlainWord rest
      → fold (walked shape.rules []) (among position (plans before last)) rest
      ≡ among position (end_held before last rest)
  unfolding end_held
  rest_walked before last [] plain = refl
  rest_walked before last (w ∷ ws) plain =
      ap (λ (v : Walk). fold (walked shape.rules []) v ws) (next_step before last w (All-head IsPlainWord w ws plain))
      ∙ rest_walked (before ++ last ∷ []) w ws (All-tail IsPlainWord w ws plain)

  pub rest_is_right : (before : List Text) (last : Text) (rest : List Text) → All IsPlainWord rest
      → walk_fault shape [] (among position (plans before last)) rest ≡ []
  rest_is_right before last [] plain = no_more shape (among position (plans before last))
  rest_is_right before last (w ∷ ws) plain =
      fault_cons shape (among position (plans before last)) (among position (plans (before ++ last ∷ []) w)) w ws
      (next_turn before last w (All-head IsPlainWord w ws plain))
      (next_step before last w (All-head IsPlainWord w ws plain))
      (rest_is_right (before ++ last ∷ []) w ws (All-tail IsPlainWord w ws plain))

  pub all_settled : (before : List Text) (last : Text) (rest : List Text)
      → (settled shape.rules (end_held before last rest)).rows ≡ front ++ plan_rows rule (before ++ last ∷ rest)
  unfolding end_held
  all_settled before last [] = takes.settled_one before last
  all_settled before last (w ∷ ws) =
      all_settled (before ++ last ∷ []) w ws
      ∙ ap (λ (all : List Text). front ++ plan_rows rule all) (append_assoc before (last ∷ []) (w ∷ ws))

  end_settles : (before : List Text) (last : Text) (rest : List Text)
      → settle_fault shape.rules shape.args_override_self (end_held before last rest) ≡ []
  unfolding end_held
  end_settles before last [] = takes.settles before last
  end_settles before last (w ∷ ws) = end_settles (before ++ last ∷ []) w ws

  -- no fault shows behind the walk, where none shows of the rows
  pub end_is_right : (last : Text) (rest : List Text)
      → or_else (defaults_fault (front ++ plan_rows rule (last ∷ rest)) shape.rules)
      (check_fault shape (fold with_default (front ++ plan_rows rule (last ∷ rest)) shape.rules) false) ≡ []
      → after_walk shape (end_held [] last rest) ≡ []
  end_is_right last rest rows =
      ap (λ (kinds : Kinds). or_else kinds
      (or_else (defaults_fault (settled shape.rules (end_held [] last rest)).rows shape.rules)
      (check_fault shape (finished shape.rules (end_held [] last rest)) false)))
      (end_settles [] last rest)
      ∙ ap (λ (found : List Row). or_else (defaults_fault found shape.rules)
      (check_fault shape (fold with_default found shape.rules) false))
      (all_settled [] last rest)
      ∙ rows

-- ---- a program's own level

abbrev top_shape : App → Shape
top_shape app = (built app).top

abbrev the_names : App → Names
the_names app = names_of (built app)

-- where the walk stands that has met the command, with these words behind it
abbrev stopped_at : Text → List Text → Walk
stopped_at command behind = record (walk_from nothing_held) { stopped = Some (command, behind) }

stays : (app : App) (command : Text) (before rest : List Text)
    → fold (walked (top_shape app).rules (the_names app)) (stopped_at command before) rest
    ≡ stopped_at command (before ++ rest)
unfolding walked
stays app command before [] = ap (stopped_at command) (sym (append-nil before))
stays app command before (x ∷ xs) =
    stays app command (before ++ x ∷ []) xs ∙ ap (stopped_at command) (append_assoc before (x ∷ []) xs)

stays_right : (app : App) (command : Text) (before rest : List Text)
    → walk_fault (top_shape app) (the_names app) (stopped_at command before) rest ≡ []
unfolding walked walk_fault
stays_right app command before [] = refl
stays_right app command before (x ∷ xs) = stays_right app command (before ++ x ∷ []) xs

-- the faults of the program's level, from those of its walk and from where that ends
abbrev top_fault : App → Kinds → Walk → Kinds
top_fault app faults w = or_else faults
    (or_else (entered_fault (built app) w.stopped)
    (or_else (settle_fault (top_shape app).rules (top_shape app).args_override_self w.held)
    (or_else (defaults_fault (settled (top_shape app).rules w.held).rows (top_shape app).rules)
    (check_fault (top_shape app) (finished (top_shape app).rules w.held)
    (is_some (entered (built app) w.stopped))))))

-- What a program shows by computing: it reads the words behind its own name, and has a command of this name and shape.
pub record HasCommand (app : App) (command : Text) (shape : Shape) : Type 0 where
  pub read : (words : List Text) → argument_words app words ≡ drop 1 words
  pub met : walked (top_shape app).rules (the_names app) (walk_from nothing_held) command ≡ stopped_at command []
  pub turn : turn_fault (top_shape app) (the_names app) (walk_from nothing_held) command ≡ []
  pub level : (behind : List Text) → top_fault app [] (stopped_at command behind)
      ≡ or_else (level_fault shape [] nothing_held behind false []) []
  pub rows : (behind : List Text) → entered (built app) (stopped_at command behind).stopped
      ≡ Some (command, finished shape.rules (walk shape.rules [] nothing_held behind).held)

module _ (app : App) (command : Text) (shape : Shape) (has : HasCommand app command shape) where
  top_walk : (behind : List Text)
      → walk (top_shape app).rules (the_names app) nothing_held (command ∷ behind) ≡ stopped_at command behind
  top_walk behind =
      ap (λ (v : Walk). fold (walked (top_shape app).rules (the_names app)) v behind) has.met
      ∙ stays app command [] behind

  top_walk_right : (behind : List Text)
      → walk_fault (top_shape app) (the_names app) (walk_from nothing_held) (command ∷ behind) ≡ []
  unfolding walk_fault
  top_walk_right behind =
      ap (λ (kinds : Kinds). or_else kinds (walk_fault (top_shape app) (the_names app)
      (walked (top_shape app).rules (the_names app) (walk_from nothing_held) command) behind)) has.turn
      ∙ ap (λ (v : Walk). walk_fault (top_shape app) (the_names app) v behind) has.met
      ∙ stays_right app command [] behind

  pub top_is_right : (name : Text) (behind : List Text) → fault_of app (name ∷ command ∷ behind)
      ≡ or_else (level_fault shape [] nothing_held behind false []) []
  top_is_right name behind =
      ap (built_fault (built app) nothing_held) (has.read (name ∷ command ∷ behind))
      ∙ ap (λ (kinds : Kinds). top_fault app kinds
      (walk (top_shape app).rules (the_names app) nothing_held (command ∷ behind))) (top_walk_right behind)
      ∙ ap (top_fault app []) (top_walk behind) ∙ has.level behind

  pub command_is : (name : Text) (behind : List Text) → subcommand_of app (name ∷ command ∷ behind)
      ≡ Some (command, finished shape.rules (walk shape.rules [] nothing_held behind).held)
  command_is name behind =
      ap (λ (words : List Text). entered (built app) (stop_after (top_shape app).rules (the_names app) words))
      (has.read (name ∷ command ∷ behind))
      ∙ ap (λ (v : Walk). entered (built app) v.stopped) (top_walk behind) ∙ has.rows behind
