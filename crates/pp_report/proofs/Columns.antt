-- What is printed with a width is what stands in a column of it.
use Rattle.std.proofs.Common.{◌≡◌, refl, sym, ap, ◌∙◌, ℕ, zero, suc, ◌-◌, ◌^◌, List, [], ◌∷◌, ◌++◌, length, replicate, codes}
use Rattle.std.proofs.Common.{false, arith, append-nil, append_assoc}
use Rattle.std.specs.List.{repeat}
use Rattle.std.specs.Char.{encode_utf8}
use Rattle.std.specs.Fmt.{decimal, padded, padded_integral, format_spec, char_count, take_chars, styled_decimal, styled_text}
use Rattle.pp_report.specs.declared.figure.Figure.{Figure}
use Rattle.pp_report.specs.declared.figure.Figure.TheVariants as figure
use Rattle.pp_report.specs.Reports.{right, left, figure_name, figure_words}

repeat_one : (n b : ℕ) → repeat n (b ∷ []) ≡ replicate n b
repeat_one zero b = refl
repeat_one (suc n) b = ap (λ bs. b ∷ bs) (repeat_one n b)

filled : (fill ds : List ℕ) → fill ++ [] ++ [] ++ [] ++ (ds ++ []) ≡ fill ++ ds
filled fill ds =
    ap (λ xs. xs ++ [] ++ [] ++ (ds ++ [])) (append-nil fill)
    ∙ ap (λ xs. xs ++ [] ++ (ds ++ [])) (append-nil fill)
    ∙ ap (λ xs. xs ++ (ds ++ [])) (append-nil fill)
    ∙ ap (λ xs. fill ++ xs) (append-nil ds)

-- Numbers stand at the right end.
number_right : (w : ℕ) (ds : List ℕ) → padded_integral (format_spec 32 3 0 w (2 ^ 64 - 1)) false [] ds ≡ right w ds
unfolding padded_integral char_count encode_utf8
number_right w ds =
    let before : w - length ds - 0 - 0 ≡ w - length ds = omega arith in
    let behind : w - length ds - 0 - 0 - (w - length ds - 0 - 0) ≡ 0 = omega arith in
    (λ i. repeat (before i) (32 ∷ []) ++ [] ++ [] ++ [] ++ (ds ++ repeat (behind i) (32 ∷ [])))
    ∙ filled (repeat (w - length ds) (32 ∷ [])) ds
    ∙ (λ i. repeat_one (w - length ds) 32 i ++ ds)

-- What is printed of a number with this width.
abbrev pub printed : (width : ℕ) → ℕ → List ℕ
printed width n = styled_decimal (format_spec 32 3 0 width (2 ^ 64 - 1)) n

right_5 : (n : ℕ) → printed 5 n ≡ right 5 (decimal n)
right_5 n = number_right 5 (decimal n)

right_7 : (n : ℕ) → printed 7 n ≡ right 7 (decimal n)
right_7 n = number_right 7 (decimal n)

right_9 : (n : ℕ) → printed 9 n ≡ right 9 (decimal n)
right_9 n = number_right 9 (decimal n)

-- Seven parts in a row.
regrouped : (a b c d e f g : List ℕ)
    → a ++ (b ++ (c ++ (d ++ (e ++ (f ++ g))))) ≡ a ++ b ++ c ++ d ++ e ++ f ++ g
regrouped a b c d e f g =
    sym (append_assoc a b (c ++ (d ++ (e ++ (f ++ g)))))
    ∙ sym (append_assoc (a ++ b) c (d ++ (e ++ (f ++ g))))
    ∙ sym (append_assoc (a ++ b ++ c) d (e ++ (f ++ g)))
    ∙ sym (append_assoc (a ++ b ++ c ++ d) e (f ++ g))
    ∙ sym (append_assoc (a ++ b ++ c ++ d ++ e) f g)

-- A plan's line.
pub plan_line : (plan worker steps hits loads : ℕ) (ending : List ℕ)
    → printed 5 plan ++ (printed 7 worker ++ (printed 9 steps ++ (printed 9 hits ++ (printed 9 loads ++ (codes "  " ++ ending)))))
    ≡ right 5 (decimal plan) ++ right 7 (decimal worker) ++ right 9 (decimal steps) ++ right 9 (decimal hits)
    ++ right 9 (decimal loads) ++ codes "  " ++ ending
plan_line plan worker steps hits loads ending =
    (λ i. right_5 plan i ++ (right_7 worker i ++ (right_9 steps i ++ (right_9 hits i ++ (right_9 loads i ++ (codes "  " ++ ending))))))
    ∙ regrouped (right 5 (decimal plan)) (right 7 (decimal worker)) (right 9 (decimal steps)) (right 9 (decimal hits))
    (right 9 (decimal loads)) (codes "  ") ending

-- Names stand at the left end.
name_left : (f : Figure) → padded (format_spec 32 1 0 12 (2 ^ 64 - 1)) (figure_name f) ≡ left 12 (figure_name f)
unfolding padded char_count take_chars encode_utf8
name_left figure.Moves = refl
name_left figure.Hits = refl
name_left figure.Loads = refl
name_left figure.ReadFaults = refl
name_left figure.Misreads = refl
name_left figure.WriteBacks = refl
name_left figure.WriteFaults = refl
name_left figure.Flushes = refl
name_left figure.Dirty = refl

-- A figure's line.
pub figure_line : (f : Figure) (n : ℕ)
    → styled_text (format_spec 32 1 0 12 (2 ^ 64 - 1)) (figure_name f)
    ++ (printed 9 n ++ 10 ∷ [])
    ≡ figure_words f n ++ 10 ∷ []
figure_line f n =
    (λ i. name_left f i ++ (right_9 n i ++ 10 ∷ []))
    ∙ sym (append_assoc (left 12 (figure_name f)) (right 9 (decimal n)) (10 ∷ []))
