-- The lines of texts: each line of a segment is one, and there are no others.
use Rattle.std.proofs.Common.{◌≡◌, ◌≢◌, ◌⊎◌, inl, inr, ℕ, suc, zero, ◌<◌, true, List, [], ◌∷◌, ◌++◌, map, flat_map}
use Rattle.std.proofs.Common.{Option, Some, None, codes, arith, refl, sym, ap, subst, ◌∙◌, append_assoc}
use Rattle.std.specs.Prelude.{slice_index}
use Rattle.std.specs.List.{list_all, AllByRecursion}
use Rattle.std.specs.Str.{IsUtf8}
use Rattle.std.proofs.lemmas.List.{append-nil}
use Rattle.std.proofs.lemmas.Str.{IsUtf8-from_ascii}
use Rattle.pp_report.specs.Journals.{journal_lines}
use Rattle.pp_report.proofs.Plain.{plain, plain_byte, parted}
use Rattle.pp_report.proofs.Splitting.{Lacks, line_ended, has_byte, cut_front, cancel, ended, IsOf, lines_of}
use Rattle.pp_segments.specs.declared.line.SegmentLine.{SegmentLine}
use Rattle.pp_segments.specs.Lines.{left_words, right_words, line_words, FitsLine, Says}
use Rattle.pp_segments.specs.Reading.{line_in}
use Rattle.pp_segments.specs.Segments.{lines_words, SpellsLines, SpellEach}
use Rattle.pp_segments.proofs.Fitting.{left_plain, right_plain}
use Rattle.pp_segments.proofs.Spoken.{line_found}

-- ---- bytes of a line

all_append : (P : ℕ → Type 0) (xs ys : List ℕ) → AllByRecursion P xs → AllByRecursion P ys → AllByRecursion P (xs ++ ys)
all_append P [] ys h k = k
all_append P (x ∷ xs) ys h k = (h.0, all_append P xs ys h.1 k)

all_plain : (P : ℕ → Type 0) → ((b : ℕ) → plain b ≡ true → P b) → (bs : List ℕ) → list_all plain bs ≡ true
    → AllByRecursion P bs
all_plain P given [] e = tt
all_plain P given (b ∷ bs) e =
    let (here, more) = parted (plain b) (list_all plain bs) e in (given b here, all_plain P given bs more)

line_bytes : (P : ℕ → Type 0) → ((b : ℕ) → plain b ≡ true → P b) → P 61 → (l : SegmentLine) → FitsLine l
    → AllByRecursion P (line_words l)
line_bytes P given equals l fits =
    all_append P (left_words l ++ codes " = ") (right_words l)
    (all_append P (left_words l) (codes " = ")
    (all_plain P given (left_words l) (left_plain l fits))
    (given 32 refl, (equals, (given 32 refl, tt))))
    (all_plain P given (right_words l) (right_plain l fits))

one_line : (l : SegmentLine) → FitsLine l → Lacks (line_words l)
one_line l fits = line_bytes (λ b. b ≢ 10) (λ b h. (plain_byte b h).1) (λ e. omega arith) l fits

below : (bs : List ℕ) → AllByRecursion (λ b. b < 128) bs → (i : ℕ) → slice_index bs i < 128
below [] h i = omega arith
below (b ∷ bs) h zero = h.0
below (b ∷ bs) h (suc i) = below bs h.1 i

line_utf8 : (text : List ℕ) (l : SegmentLine) → Says text l → IsUtf8 text
line_utf8 text l (fits, e) =
    let ascii : AllByRecursion (λ b. b < 128) (line_words l) =
    line_bytes (λ b. b < 128) (λ b h. (plain_byte b h).0) (omega arith) l fits in
    IsUtf8-from_ascii text (λ i. rw e (below (line_words l) ascii i))

-- Bytes that are no text are no line.
pub not_text : (bytes : List ℕ) → ¬ IsUtf8 bytes → None ≡ line_in bytes
not_text bytes h = by (line_in bytes) (λ l e. h (line_utf8 bytes l (line_found bytes l e)))
  where
    by : (o : Option SegmentLine) → ((l : SegmentLine) → o ≡ Some l → ⊥) → None ≡ o
    by None h = refl
    by (Some l) h = absurd (h l refl)

-- ---- a text has the lines that it spells

line_parts : (l : SegmentLine) (more : List ℕ) → (line_words l ++ codes "\n") ++ more ≡ line_words l ++ (10 ∷ more)
line_parts l more = append_assoc (line_words l) (codes "\n") more

whole_lines : (ls : List SegmentLine) → AllByRecursion FitsLine ls → journal_lines (lines_words ls) ≡ map line_words ls
whole_lines [] h = refl
whole_lines (l ∷ ls) h =
    ap journal_lines (line_parts l (lines_words ls))
    ∙ line_ended (line_words l) (lines_words ls) (one_line l h.0)
    ∙ ap (λ ts. line_words l ∷ ts) (whole_lines ls h.1)

nonempty : (xs ys zs : List ℕ) (d : ℕ) → ((xs ++ (d ∷ ys)) ++ zs) ≢ []
nonempty [] ys zs d e = absurd cc
nonempty (x ∷ xs) ys zs d e = absurd cc

words_some : (l : SegmentLine) → line_words l ≢ []
words_some l = nonempty (left_words l) (61 ∷ 32 ∷ []) (right_words l) 32

lines_some : (l : SegmentLine) (ls : List SegmentLine) → lines_words (l ∷ ls) ≢ []
lines_some l ls = nonempty (line_words l) [] (lines_words ls) 10

short_lines : (ls : List SegmentLine) (text : List ℕ) → AllByRecursion FitsLine ls → text ++ (10 ∷ []) ≡ lines_words ls
    → journal_lines text ≡ map line_words ls
short_lines [] [] h e = refl
short_lines [] (b ∷ bs) h e = absurd cc
short_lines (l ∷ []) text h f =
    let same : text ≡ line_words l = cancel text (line_words l) (f ∙ append-nil (line_words l ++ codes "\n")) in
    ap journal_lines same ∙ has_byte (line_words l) (one_line l h.0) (words_some l)
short_lines (l ∷ k ∷ ls) text h f =
    let (zs, front, last) =
    cut_front text (line_words l ++ codes "\n") (lines_words (k ∷ ls)) (lines_some k ls) f in
    ap journal_lines (front ∙ line_parts l zs)
    ∙ line_ended (line_words l) zs (one_line l h.0)
    ∙ ap (λ ts. line_words l ∷ ts) (short_lines (k ∷ ls) zs h.1 last)

spelled_lines : (text : List ℕ) (ls : List SegmentLine) → SpellsLines text ls → journal_lines text ≡ map line_words ls
spelled_lines text ls h = by h.text_is
  where
    by : ((text ≡ lines_words ls) ⊎ (text ++ codes "\n" ≡ lines_words ls)) → journal_lines text ≡ map line_words ls
    by (inl e) = ap journal_lines e ∙ whole_lines ls h.fits
    by (inr e) = short_lines ls text h.fits e

-- ---- a text spells the lines that it has

ended_words : (ls : List SegmentLine) → ended (map line_words ls) ≡ lines_words ls
ended_words [] = refl
ended_words (l ∷ ls) =
    ap (λ ts. line_words l ++ (10 ∷ ts)) (ended_words ls) ∙ sym (line_parts l (lines_words ls))

lines_spelled : (text : List ℕ) (ls : List SegmentLine) → AllByRecursion FitsLine ls
    → journal_lines text ≡ map line_words ls → SpellsLines text ls
lines_spelled text ls fits e = by (lines_of text)
  where
    by : IsOf (journal_lines text) text → SpellsLines text ls
    by (inl f) = record { fits = fits; text_is = inl (f ∙ ap ended e ∙ ended_words ls) }
    by (inr f) = record { fits = fits; text_is = inr (f ∙ ap ended e ∙ ended_words ls) }

-- ---- texts, one behind the other

pub map_append : (xs ys : List SegmentLine) → map line_words (xs ++ ys) ≡ map line_words xs ++ map line_words ys
map_append [] ys = refl
map_append (x ∷ xs) ys = ap (λ ts. line_words x ∷ ts) (map_append xs ys)

-- Texts that spell parts have the lines of these.
pub each_lines : (texts : List (List ℕ)) (parts : List (List SegmentLine)) → SpellEach texts parts
    → flat_map journal_lines texts ≡ map line_words (flat_map (λ part. part) parts)
each_lines [] [] h = refl
each_lines [] (part ∷ parts) h = absurd h
each_lines (text ∷ texts) [] h = absurd h
each_lines (text ∷ texts) (part ∷ parts) h =
    ap (λ ts. ts ++ flat_map journal_lines texts) (spelled_lines text part h.0)
    ∙ ap (λ ts. map line_words part ++ ts) (each_lines texts parts h.1)
    ∙ sym (map_append part (flat_map (λ part. part) parts))

fits_append : (xs ys : List SegmentLine) → AllByRecursion FitsLine xs → AllByRecursion FitsLine ys
    → AllByRecursion FitsLine (xs ++ ys)
fits_append [] ys h k = k
fits_append (x ∷ xs) ys h k = (h.0, fits_append xs ys h.1 k)

-- Their lines may stand in segments.
pub each_fits : (texts : List (List ℕ)) (parts : List (List SegmentLine)) → SpellEach texts parts
    → AllByRecursion FitsLine (flat_map (λ part. part) parts)
each_fits [] [] h = tt
each_fits [] (part ∷ parts) h = absurd h
each_fits (text ∷ texts) [] h = absurd h
each_fits (text ∷ texts) (part ∷ parts) h =
    fits_append part (flat_map (λ part. part) parts) h.0.fits (each_fits texts parts h.1)

-- Lines whose words begin so can be parted there.
record Parted (ts us : List (List ℕ)) (ls : List SegmentLine) : Type 0 where
  pub front : List SegmentLine
  pub rest : List SegmentLine
  pub all : ls ≡ front ++ rest
  pub front_is : ts ≡ map line_words front
  pub rest_is : us ≡ map line_words rest

part_at : (ts us : List (List ℕ)) (ls : List SegmentLine) → ts ++ us ≡ map line_words ls → Parted ts us ls
part_at [] us ls e = record { front = []; rest = ls; all = refl; front_is = refl; rest_is = e }
part_at (t ∷ ts) us [] e = absurd cc
part_at (t ∷ ts) us (l ∷ ls) e =
    let head : t ≡ line_words l = cc in
    let p = part_at ts us ls cc in record {
      front = l ∷ p.front;
      rest = p.rest;
      all = ap (λ xs. l ∷ xs) p.all;
      front_is = ap (λ x. x ∷ ts) head ∙ ap (λ xs. line_words l ∷ xs) p.front_is;
      rest_is = p.rest_is;
    }

pub fits_parts : (xs ys : List SegmentLine) → AllByRecursion FitsLine (xs ++ ys)
    → AllByRecursion FitsLine xs × AllByRecursion FitsLine ys
fits_parts [] ys h = (tt, h)
fits_parts (x ∷ xs) ys h = let (a, b) = fits_parts xs ys h.1 in ((h.0, a), b)

-- Texts that have the lines spell them, each a part.
pub each_spelled : (texts : List (List ℕ)) (ls : List SegmentLine) → AllByRecursion FitsLine ls
    → flat_map journal_lines texts ≡ map line_words ls
    → (parts : List (List SegmentLine)) × SpellEach texts parts × (flat_map (λ part. part) parts ≡ ls)
each_spelled [] [] fits e = ([], tt, refl)
each_spelled [] (l ∷ ls) fits e = absurd cc
each_spelled (text ∷ texts) ls fits e =
    let p = part_at (journal_lines text) (flat_map journal_lines texts) ls e in
    let (a, b) = fits_parts p.front p.rest (subst (AllByRecursion FitsLine) p.all fits) in
    let (parts, each, all) = each_spelled texts p.rest b p.rest_is in
    (p.front ∷ parts, (lines_spelled text p.front a p.front_is, each), ap (λ xs. p.front ++ xs) all ∙ sym p.all)
