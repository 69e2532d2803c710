-- What `check` with three plain words asks for.
use Rattle.std.proofs.Common.{◌≡◌, true, false, List, [], ◌∷◌, Some, codes, refl, ap, ◌∙◌}
use Rattle.clap.specs.Kinds.{Kinds, or_else}
use Rattle.clap.specs.Walk.{Held, Text, Walk, nothing_held, settled, finished, walk, walked}
use Rattle.clap.specs.Simple.{Shape, built, subcommand_of}
use Rattle.clap.specs.Faults.{level_fault, walk_fault, settle_fault, defaults_fault, check_fault, fault_of}
use Rattle.clap.proofs.OnLiterals.{clap_on_literals}
use Rattle.pp_words.specs.CommandLine.{asked_of, asked_plainly, check, check_command, is_plain_word, program}
use Rattle.pp_words.specs.CommandLine.{unless_faulty}
use Rattle.pp_words.proofs.PlainWalk.{between, fault_cons, held_after, no_more, turn_plain, walked_plain}

-- the first of some commands
first_shape : List Shape → Shape
first_shape [] = check_command.top
first_shape (s ∷ rest) = s

abbrev check_shape : Shape
unfolding first_shape
check_shape = first_shape (built program).subs

abbrev held_1 : Text → Held
held_1 a = held_after check_shape 1 a nothing_held

abbrev held_2 : Text → Text → Held
held_2 a b = held_after check_shape 2 b (held_1 a)

abbrev held_3 : Text → Text → Text → Held
held_3 a b c = held_after check_shape 3 c (held_2 a b)

first_step : (a : Text) → is_plain_word a ≡ true
    → walked check_shape.rules [] (between nothing_held 1) a ≡ between (held_1 a) 2
unfolding first_shape
first_step a p = walked_plain check_shape.rules nothing_held 1 a p

second_step : (a b : Text) → is_plain_word b ≡ true
    → walked check_shape.rules [] (between (held_1 a) 2) b ≡ between (held_2 a b) 3
unfolding first_shape
second_step a b p = walked_plain check_shape.rules (held_1 a) 2 b p

third_step : (a b c : Text) → is_plain_word c ≡ true
    → walked check_shape.rules [] (between (held_2 a b) 3) c ≡ between (held_3 a b c) 4
unfolding first_shape
third_step a b c p = walked_plain check_shape.rules (held_2 a b) 3 c p

walk_is_right : (a b c : Text) → is_plain_word a ≡ true → is_plain_word b ≡ true → is_plain_word c ≡ true
    → walk_fault check_shape [] (between nothing_held 1) (a ∷ b ∷ c ∷ []) ≡ []
unfolding first_shape
walk_is_right a b c p q r =
    fault_cons check_shape (between nothing_held 1) (between (held_1 a) 2) a (b ∷ c ∷ [])
    (turn_plain check_shape nothing_held 1 a p) (first_step a p)
    (fault_cons check_shape (between (held_1 a) 2) (between (held_2 a b) 3) b (c ∷ [])
    (turn_plain check_shape (held_1 a) 2 b q) (second_step a b q)
    (fault_cons check_shape (between (held_2 a b) 3) (between (held_3 a b c) 4) c []
    (turn_plain check_shape (held_2 a b) 3 c r) (third_step a b c r)
    (no_more check_shape (between (held_3 a b c) 4))))

walk_ends : (a b c : Text) → is_plain_word a ≡ true → is_plain_word b ≡ true → is_plain_word c ≡ true
    → walk check_shape.rules [] nothing_held (a ∷ b ∷ c ∷ []) ≡ between (held_3 a b c) 4
walk_ends a b c p q r =
    ap (λ (v : Walk). walked check_shape.rules [] (walked check_shape.rules [] v b) c) (first_step a p)
    ∙ ap (λ (v : Walk). walked check_shape.rules [] v c) (second_step a b q) ∙ third_step a b c r

-- the steps after the walk
abbrev after_walk : Held → Kinds
after_walk end = or_else (settle_fault check_shape.rules check_shape.args_override_self end)
    (or_else (defaults_fault (settled check_shape.rules end).rows check_shape.rules)
    (check_fault check_shape (finished check_shape.rules end) false))

end_is_right : (a b c : Text) → after_walk (held_3 a b c) ≡ []
unfolding clap_on_literals first_shape
end_is_right a b c = refl

level_is_right : (a b c : Text) → is_plain_word a ≡ true → is_plain_word b ≡ true → is_plain_word c ≡ true
    → level_fault check_shape [] nothing_held (a ∷ b ∷ c ∷ []) false [] ≡ []
level_is_right a b c p q r =
    ap (λ (kinds : Kinds). or_else kinds (after_walk (walk check_shape.rules [] nothing_held (a ∷ b ∷ c ∷ [])).held))
    (walk_is_right a b c p q r)
    ∙ ap (λ (v : Walk). after_walk v.held) (walk_ends a b c p q r) ∙ end_is_right a b c

abbrev the_words : Text → Text → Text → Text → List Text
the_words name a b c = name ∷ codes "check" ∷ a ∷ b ∷ c ∷ []

top_is_right : (name a b c : Text) → fault_of program (the_words name a b c)
    ≡ or_else (level_fault check_shape [] nothing_held (a ∷ b ∷ c ∷ []) false []) []
unfolding clap_on_literals first_shape
top_is_right name a b c = refl

command_is : (name a b c : Text) → subcommand_of program (the_words name a b c)
    ≡ Some (codes "check", finished check_shape.rules (walk check_shape.rules [] nothing_held (a ∷ b ∷ c ∷ [])).held)
unfolding clap_on_literals first_shape
command_is name a b c = refl

values_are : (a b c : Text) → asked_of (Some (codes "check", finished check_shape.rules (held_3 a b c)))
    ≡ Some (check a b c)
unfolding clap_on_literals first_shape
values_are a b c = refl

pub plain_check : (name a b c : Text) → is_plain_word a ≡ true → is_plain_word b ≡ true → is_plain_word c ≡ true
    → asked_plainly (the_words name a b c) ≡ Some (check a b c)
plain_check name a b c p q r =
    ap (λ (kinds : Kinds). unless_faulty kinds (asked_of (subcommand_of program (the_words name a b c))))
    (top_is_right name a b c ∙ ap (λ (kinds : Kinds). or_else kinds []) (level_is_right a b c p q r))
    ∙ ap asked_of (command_is name a b c)
    ∙ ap (λ (v : Walk). asked_of (Some (codes "check", finished check_shape.rules v.held))) (walk_ends a b c p q r)
    ∙ values_are a b c
