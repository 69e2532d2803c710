-- What `annotate` and `format` with two plain words ask for.
use Rattle.std.proofs.Common.{◌≡◌, true, false, List, [], ◌∷◌, None, Some, codes, refl, ap, ◌∙◌}
use Rattle.clap.specs.Kinds.{Kinds, or_else}
use Rattle.clap.specs.Walk.{Held, Text, Walk, nothing_held, settled, finished, value, walk, walked}
use Rattle.clap.specs.Simple.{Shape, built, subcommand_of}
use Rattle.clap.specs.Faults.{level_fault, walk_fault, settle_fault, defaults_fault, check_fault, fault_of, step_fault}
use Rattle.clap.proofs.OnLiterals.{clap_on_literals}
use Rattle.pp_words.specs.CommandLine.{Asked, annotate, annotate_command, asked_of, asked_plainly, format}
use Rattle.pp_words.specs.CommandLine.{is_plain_word, program, unless_faulty}
use Rattle.pp_words.proofs.PlainWalk.{between, fault_cons, held_after, no_more, turn_plain, walked_plain}

pub data Command : Type 0 where
  annotates : Command
  formats : Command

abbrev pub name_of : Command → Text
name_of annotates = codes "annotate"
name_of formats = codes "format"

abbrev pub asks : Command → Text → Text → Asked
asks annotates = annotate None
asks formats = format

-- the second and the fourth of some commands
shape_among : Command → List Shape → Shape
shape_among annotates (s ∷ t ∷ rest) = t
shape_among formats (s ∷ t ∷ u ∷ v ∷ rest) = v
shape_among _ _ = annotate_command.top

abbrev shape : Command → Shape
unfolding shape_among
shape command = shape_among command (built program).subs

abbrev held_1 : Command → Text → Held
held_1 command a = held_after (shape command) 1 a nothing_held

abbrev held_2 : Command → Text → Text → Held
held_2 command a b = held_after (shape command) 2 b (held_1 command a)

-- the steps after the walk
abbrev after_walk : Command → Held → Kinds
after_walk command end = or_else (settle_fault (shape command).rules (shape command).args_override_self end)
    (or_else (defaults_fault (settled (shape command).rules end).rows (shape command).rules)
    (check_fault (shape command) (finished (shape command).rules end) false))

abbrev the_words : Command → Text → Text → Text → List Text
the_words command name a b = name ∷ name_of command ∷ a ∷ b ∷ []

-- ---- what their rules show by computing

first_step : (command : Command) (a : Text) → is_plain_word a ≡ true
    → walked (shape command).rules [] (between nothing_held 1) a ≡ between (held_1 command a) 2
unfolding shape_among
first_step annotates a p = walked_plain (shape annotates).rules nothing_held 1 a p
first_step formats a p = walked_plain (shape formats).rules nothing_held 1 a p

second_step : (command : Command) (a b : Text) → is_plain_word b ≡ true
    → walked (shape command).rules [] (between (held_1 command a) 2) b ≡ between (held_2 command a b) 3
unfolding shape_among
second_step annotates a b p = walked_plain (shape annotates).rules (held_1 annotates a) 2 b p
second_step formats a b p = walked_plain (shape formats).rules (held_1 formats a) 2 b p

first_is_right : (command : Command) → step_fault (shape command) 1 nothing_held value ≡ []
unfolding shape_among
first_is_right annotates = refl
first_is_right formats = refl

second_is_right : (command : Command) (a : Text) → step_fault (shape command) 2 (held_1 command a) value ≡ []
unfolding shape_among
second_is_right annotates a = refl
second_is_right formats a = refl

end_is_right : (command : Command) (a b : Text) → after_walk command (held_2 command a b) ≡ []
unfolding clap_on_literals shape_among
end_is_right annotates a b = refl
end_is_right formats a b = refl

top_is_right : (command : Command) (name a b : Text) → fault_of program (the_words command name a b)
    ≡ or_else (level_fault (shape command) [] nothing_held (a ∷ b ∷ []) false []) []
unfolding clap_on_literals shape_among
top_is_right annotates name a b = refl
top_is_right formats name a b = refl

command_is : (command : Command) (name a b : Text) → subcommand_of program (the_words command name a b)
    ≡ Some (
      name_of command,
      finished (shape command).rules
          (walk (shape command).rules [] nothing_held (a ∷ b ∷ [])).held,
    )
unfolding clap_on_literals shape_among
command_is annotates name a b = refl
command_is formats name a b = refl

values_are : (command : Command) (a b : Text)
    → asked_of (Some (name_of command, finished (shape command).rules (held_2 command a b))) ≡ Some (asks command a b)
unfolding clap_on_literals shape_among
values_are annotates a b = refl
values_are formats a b = refl

-- ---- their words

walk_is_right : (command : Command) (a b : Text) → is_plain_word a ≡ true → is_plain_word b ≡ true
    → walk_fault (shape command) [] (between nothing_held 1) (a ∷ b ∷ []) ≡ []
walk_is_right command a b p q =
    fault_cons (shape command) (between nothing_held 1) (between (held_1 command a) 2) a (b ∷ [])
    (turn_plain (shape command) nothing_held 1 a p ∙ first_is_right command) (first_step command a p)
    (fault_cons (shape command) (between (held_1 command a) 2) (between (held_2 command a b) 3) b []
    (turn_plain (shape command) (held_1 command a) 2 b q ∙ second_is_right command a) (second_step command a b q)
    (no_more (shape command) (between (held_2 command a b) 3)))

walk_ends : (command : Command) (a b : Text) → is_plain_word a ≡ true → is_plain_word b ≡ true
    → walk (shape command).rules [] nothing_held (a ∷ b ∷ []) ≡ between (held_2 command a b) 3
walk_ends command a b p q =
    ap (λ (v : Walk). walked (shape command).rules [] v b) (first_step command a p) ∙ second_step command a b q

level_is_right : (command : Command) (a b : Text) → is_plain_word a ≡ true → is_plain_word b ≡ true
    → level_fault (shape command) [] nothing_held (a ∷ b ∷ []) false [] ≡ []
level_is_right command a b p q =
    ap (λ (kinds : Kinds). or_else kinds
    (after_walk command (walk (shape command).rules [] nothing_held (a ∷ b ∷ [])).held))
    (walk_is_right command a b p q)
    ∙ ap (λ (v : Walk). after_walk command v.held) (walk_ends command a b p q) ∙ end_is_right command a b

pub plain_paths : (command : Command) (name a b : Text) → is_plain_word a ≡ true → is_plain_word b ≡ true
    → asked_plainly (the_words command name a b) ≡ Some (asks command a b)
plain_paths command name a b p q =
    ap (λ (kinds : Kinds). unless_faulty kinds (asked_of (subcommand_of program (the_words command name a b))))
    (top_is_right command name a b ∙ ap (λ (kinds : Kinds). or_else kinds []) (level_is_right command a b p q))
    ∙ ap asked_of (command_is command name a b)
    ∙ ap (λ (v : Walk). asked_of (Some (name_of command, finished (shape command).rules v.held)))
    (walk_ends command a b p q)
    ∙ values_are command a b
