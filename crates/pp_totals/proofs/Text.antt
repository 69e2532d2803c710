-- What is printed of totals is their text.
use Rattle.std.proofs.Common.{◌≡◌, refl, sym, ap, ◌∙◌, ℕ, zero, suc, ◌-◌, ◌^◌, List, [], ◌∷◌, ◌++◌, length, replicate}
use Rattle.std.proofs.Common.{codes, flat_map, false, arith, append-nil, append_assoc}
use Rattle.std.specs.List.{repeat}
use Rattle.std.specs.Char.{encode_utf8}
use Rattle.std.specs.Fmt.{decimal, padded_integral, format_spec, char_count, styled_decimal}
use Rattle.pp_report.specs.Reports.{right, left}
use Rattle.pp_totals.specs.declared.totals.Totals.{Totals}
use Rattle.pp_totals.specs.Counting.{named_line, totals_text}

repeat_one : (n b : ℕ) → repeat n (b ∷ []) ≡ replicate n b
repeat_one zero b = refl
repeat_one (suc n) b = ap (λ bs. b ∷ bs) (repeat_one n b)

filled : (fill ds : List ℕ) → fill ++ [] ++ [] ++ [] ++ (ds ++ []) ≡ fill ++ ds
filled fill ds =
    ap (λ xs. xs ++ [] ++ [] ++ (ds ++ [])) (append-nil fill)
    ∙ ap (λ xs. xs ++ [] ++ (ds ++ [])) (append-nil fill)
    ∙ ap (λ xs. xs ++ (ds ++ [])) (append-nil fill)
    ∙ ap (λ xs. fill ++ xs) (append-nil ds)

-- Numbers stand at the right end of their columns.
number_right : (w : ℕ) (ds : List ℕ) → padded_integral (format_spec 32 3 0 w (2 ^ 64 - 1)) false [] ds ≡ right w ds
unfolding padded_integral char_count encode_utf8
number_right w ds =
    let before : w - length ds - 0 - 0 ≡ w - length ds = omega arith in
    let behind : w - length ds - 0 - 0 - (w - length ds - 0 - 0) ≡ 0 = omega arith in
    (λ i. repeat (before i) (32 ∷ []) ++ [] ++ [] ++ [] ++ (ds ++ repeat (behind i) (32 ∷ [])))
    ∙ filled (repeat (w - length ds) (32 ∷ [])) ds
    ∙ (λ i. repeat_one (w - length ds) 32 i ++ ds)

-- What is printed of a number of a total.
abbrev pub printed : ℕ → List ℕ
printed n = styled_decimal (format_spec 32 3 0 9 (2 ^ 64 - 1)) n

right_9 : (n : ℕ) → printed n ≡ right 9 (decimal n)
right_9 n = number_right 9 (decimal n)

-- The lines as they are printed, piece by piece.
abbrev pub pieces : List (List ℕ × ℕ) → List ℕ
pieces [] = []
pieces (p ∷ ps) = left 12 p.0 ++ (printed p.1 ++ (10 ∷ pieces ps))

all_pieces : (ps : List (List ℕ × ℕ)) → pieces ps ≡ flat_map named_line ps
all_pieces [] = refl
all_pieces (p ∷ ps) =
    (λ i. left 12 p.0 ++ (right_9 p.1 i ++ (10 ∷ all_pieces ps i)))
    ∙ sym (append_assoc (left 12 p.0) (right 9 (decimal p.1)) (10 ∷ flat_map named_line ps))
    ∙ sym (append_assoc (left 12 p.0 ++ right 9 (decimal p.1)) (10 ∷ []) (flat_map named_line ps))

more_pieces : (ps qs : List (List ℕ × ℕ)) → pieces (ps ++ qs) ≡ pieces ps ++ pieces qs
more_pieces [] qs = refl
more_pieces (p ∷ ps) qs =
    ap (λ r. left 12 p.0 ++ (printed p.1 ++ (10 ∷ r))) (more_pieces ps qs)
    ∙ ap (λ r. left 12 p.0 ++ r) (sym (append_assoc (printed p.1) (10 ∷ pieces ps) (pieces qs)))
    ∙ sym (append_assoc (left 12 p.0) (printed p.1 ++ (10 ∷ pieces ps)) (pieces qs))

three_parts : (ps qs rs : List (List ℕ × ℕ))
    → pieces ps ++ (pieces qs ++ pieces rs) ≡ flat_map named_line (ps ++ (qs ++ rs))
three_parts ps qs rs =
    ap (λ r. pieces ps ++ r) (sym (more_pieces qs rs))
    ∙ sym (more_pieces ps (qs ++ rs))
    ∙ all_pieces (ps ++ (qs ++ rs))

-- The lines are printed in three parts.
abbrev pub first : Totals → List (List ℕ × ℕ)
first x =
    (codes "submitted", x.submitted) ∷ (codes "taken", x.taken) ∷ (codes "done", x.done) ∷ (codes "gone", x.gone) ∷ []

abbrev pub second : Totals → List (List ℕ × ℕ)
second x =
    (codes "moves", x.moves) ∷ (codes "hits", x.hits) ∷ (codes "loads", x.loads)
    ∷ (codes "readfaults", x.read_faults) ∷ []

abbrev pub third : Totals → List (List ℕ × ℕ)
third x =
    (codes "misreads", x.misreads) ∷ (codes "writebacks", x.write_backs) ∷ (codes "writefaults", x.write_faults)
    ∷ (codes "flushes", x.flushes) ∷ []

pub all_lines : (x : Totals) → pieces (first x) ++ (pieces (second x) ++ pieces (third x)) ≡ totals_text x
all_lines x = three_parts (first x) (second x) (third x)
