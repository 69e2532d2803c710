-- Plain words in clap's walk over the words of a command.
use Rattle.std.proofs.Common.{◌≡◌, ℕ, Bool, true, false, List, [], ◌∷◌, None, refl, sym, ap, ◌∙◌}
use Rattle.std.specs.Prelude.{not, ◌==◌}
use Rattle.std.specs.Str.{bytes_eq}
use Rattle.clap.specs.Lexer.{strip_byte}
use Rattle.clap.specs.Kinds.{Kinds, or_else}
use Rattle.clap.specs.Walk.{Held, Rule, Step, Text, Walk, after_step, arg_by_index, idle, to_positional, value, walked}
use Rattle.clap.specs.Walk.{word_met}
use Rattle.clap.specs.Simple.{Shape}
use Rattle.clap.specs.Faults.{step_fault, turn_fault, walk_fault, word_fault}
use Rattle.pp_words.specs.CommandLine.{is_plain_word}

pub not_true : (b : Bool) → not b ≡ true → b ≡ false
not_true true h = sym h
not_true false h = refl

-- a plain word has no hyphen to take off
pub no_hyphen : (word : Text) → is_plain_word word ≡ true → strip_byte 45 word ≡ None
no_hyphen [] h = refl
no_hyphen (x ∷ xs) h = rw (not_true (x == 45) h) refl

-- a plain word is not `--`
pub no_dashes : (word : Text) → is_plain_word word ≡ true → bytes_eq word (45 ∷ 45 ∷ []) ≡ false
no_dashes [] h = refl
no_dashes (x ∷ xs) h = rw (not_true (x == 45) h) refl

-- a plain word goes to a positional
plain_is_value : (c : List Rule) (position : ℕ) (word : Text) (h : Held) → is_plain_word word ≡ true
    → word_met c [] false idle position word h ≡ (h, value)
plain_is_value c position word h plain = rw (no_dashes word plain, no_hyphen word plain, no_hyphen word plain) refl

-- a plain word is no fault of its own
plain_is_right : (s : Shape) (word : Text) (h : Held) → is_plain_word word ≡ true
    → word_fault s [] false idle word h ≡ []
plain_is_right s word h plain = rw (no_dashes word plain, no_hyphen word plain, no_hyphen word plain) refl

-- where a walk stands between two plain words
abbrev pub between : Held → ℕ → Walk
between h position = record { held = h; waiting = idle; position = position; is_trailing = false; stopped = None }

pub walked_plain : (c : List Rule) (h : Held) (position : ℕ) (word : Text) → is_plain_word word ≡ true
    → walked c [] (between h position) word ≡ to_positional c (arg_by_index c position) word (between h position) h
unfolding walked
walked_plain c h position word plain =
    ap (λ (met : Held × Step). after_step c word (between h position) met.0 met.1)
    (plain_is_value c position word h plain)

pub turn_plain : (s : Shape) (h : Held) (position : ℕ) (word : Text) → is_plain_word word ≡ true
    → turn_fault s [] (between h position) word ≡ step_fault s position h value
turn_plain s h position word plain =
    ap (λ (kinds : Kinds). or_else kinds (step_fault s position (word_met s.rules [] false idle position word h).0
    (word_met s.rules [] false idle position word h).1))
    (plain_is_right s word h plain)
    ∙ ap (λ (met : Held × Step). step_fault s position met.0 met.1) (plain_is_value s.rules position word h plain)

-- a word that is no fault, before words that are none
pub fault_cons : (s : Shape) (w after : Walk) (word : Text) (rest : List Text) → turn_fault s [] w word ≡ []
    → walked s.rules [] w word ≡ after
    → walk_fault s [] after rest ≡ [] → walk_fault s [] w (word ∷ rest) ≡ []
unfolding walk_fault
fault_cons s w after word rest turn step below =
    ap (λ (kinds : Kinds). or_else kinds (walk_fault s [] (walked s.rules [] w word) rest)) turn
    ∙ ap (λ (v : Walk). walk_fault s [] v rest) step ∙ below

-- what is held after a plain word at a position
abbrev pub held_after : Shape → ℕ → Text → Held → Held
held_after s position word h = (to_positional s.rules (arg_by_index s.rules position) word (between h position) h).held

-- no word is no fault
pub no_more : (s : Shape) (w : Walk) → walk_fault s [] w [] ≡ []
unfolding walk_fault
no_more s w = refl
