-- The lines of a journal's text: each event's line is one, and there are no others.
use Rattle.std.proofs.Common.{◌≡◌, ◌≢◌, ◌⊎◌, inl, inr, ℕ, suc, zero, ◌<◌, ◌+◌, Bool, true, false, ◌==◌, List, [], ◌∷◌, ◌++◌, length, map}
use Rattle.std.proofs.Common.{Option, Some, None, get_or, take, drop, nat_lt, ◌≤◌, ◌-◌, cond}
use Rattle.std.proofs.Common.{codes, if◌then◌else◌, arith, refl, sym, ap, ◌∙◌, append_assoc, length-drop, length-take, get_or-take}
use Rattle.std.specs.Prelude.{slice_index}
use Rattle.std.specs.List.{list_all, AllByRecursion, position, position_or_len}
use Rattle.std.specs.Str.{IsUtf8}
use Rattle.std.proofs.lemmas.Bool.Decides.{nat_tests}
use Rattle.std.proofs.lemmas.Bool.{ltb-true}
use Rattle.std.proofs.lemmas.List.{append-nil, take_all}
use Rattle.std.proofs.lemmas.List.Sums.{split_at_first, fails_before_first, passes_at_first}
use Rattle.std.proofs.lemmas.Str.{IsUtf8-from_ascii}
use Rattle.pp_model.specs.declared.event.Event.{Event}
use Rattle.pp_report.specs.declared.line.Line.{Line}
use Rattle.pp_report.specs.Lines.{asked_words, told_words, line_words, line_of, event_words, journal_words, FitsLine}
use Rattle.pp_report.specs.Lines.{FitsEvent, Says, Spells}
use Rattle.pp_report.specs.Journals.{onto_first, journal_lines}
use Rattle.pp_report.specs.Reading.{line_in}
use Rattle.pp_report.proofs.Spoken.{line_found}
use Rattle.pp_report.proofs.Plain.{plain, plain_byte, parted, asked_plain, told_plain}

other : (a b : ℕ) → a ≢ b → (a == b) ≡ false
other a b h = grind (arith, nat_tests)

-- ---- lists of bytes

all_append : (P : ℕ → Type 0) (xs ys : List ℕ) → AllByRecursion P xs → AllByRecursion P ys → AllByRecursion P (xs ++ ys)
all_append P [] ys h k = k
all_append P (x ∷ xs) ys h k = (h.0, all_append P xs ys h.1 k)

all_plain : (P : ℕ → Type 0) → ((b : ℕ) → plain b ≡ true → P b) → (bs : List ℕ) → list_all plain bs ≡ true
    → AllByRecursion P bs
all_plain P given [] e = tt
all_plain P given (b ∷ bs) e =
    let (here, more) = parted (plain b) (list_all plain bs) e in (given b here, all_plain P given bs more)

-- what holds of plain bytes, and of an equals sign between spaces, holds of each byte of a line
line_bytes : (P : ℕ → Type 0) → ((b : ℕ) → plain b ≡ true → P b) → P 61 → (l : Line) → FitsLine l
    → AllByRecursion P (line_words l)
line_bytes P given equals l fits =
    all_append P (asked_words l.asked ++ codes " = ") (told_words l.told)
    (all_append P (asked_words l.asked) (codes " = ")
    (all_plain P given (asked_words l.asked) (asked_plain l.asked fits.0))
    (given 32 refl, (equals, (given 32 refl, tt))))
    (all_plain P given (told_words l.told) (told_plain l.told fits.1))

abbrev pub Lacks : List ℕ → Type 0
Lacks bs = AllByRecursion (λ b. b ≢ 10) bs

pub one_line : (l : Line) → FitsLine l → Lacks (line_words l)
one_line l fits = line_bytes (λ b. b ≢ 10) (λ b h. (plain_byte b h).1) (λ e. omega arith) l fits

below : (bs : List ℕ) → AllByRecursion (λ b. b < 128) bs → (i : ℕ) → slice_index bs i < 128
below [] h i = omega arith
below (b ∷ bs) h zero = h.0
below (b ∷ bs) h (suc i) = below bs h.1 i

-- A line of a journal is text.
pub line_utf8 : (text : List ℕ) (l : Line) → Says text l → IsUtf8 text
line_utf8 text l (fits, e) =
    let ascii : AllByRecursion (λ b. b < 128) (line_words l) =
    line_bytes (λ b. b < 128) (λ b h. (plain_byte b h).0) (omega arith) l fits in
    IsUtf8-from_ascii text (λ i. rw e (below (line_words l) ascii i))

-- ---- lines

pub line_ended : (line rest : List ℕ) → Lacks line → journal_lines (line ++ (10 ∷ rest)) ≡ line ∷ journal_lines rest
line_ended [] rest h = refl
line_ended (b ∷ bs) rest h = rw (other b 10 h.0) (ap (onto_first b) (line_ended bs rest h.1))

pub line_left : (b : ℕ) (bs : List ℕ) → Lacks (b ∷ bs) → journal_lines (b ∷ bs) ≡ (b ∷ bs) ∷ []
line_left b [] h = rw (other b 10 h.0) refl
line_left b (d ∷ bs) h = rw (other b 10 h.0) (ap (onto_first b) (line_left d bs h.1))

-- a line that isn't empty is cut off at the first line feed
abbrev is_feed : ℕ → Bool
is_feed b = b == 10

lacks_from : (xs : List ℕ) → ((k : ℕ) → k < length xs → is_feed (get_or xs k 0) ≡ false) → Lacks xs
lacks_from [] h = tt
lacks_from (x ∷ xs) h = (
  (λ e. let f = h 0 (omega arith) in let t : is_feed x ≡ true = ap is_feed e in absurd cc),
  lacks_from xs (λ k low. h (suc k) (omega arith)),
)

found_at : (p : ℕ) (n : ℕ) (i : ℕ) → cond (nat_lt p n) (Some p) None ≡ Some i → (p < n) × (p ≡ i)
found_at p n i e = by (nat_lt p n) refl e
  where
    by : (b : Bool) → nat_lt p n ≡ b → cond b (Some p) None ≡ Some i → (p < n) × (p ≡ i)
    by true is e = (ltb-true p n is, cc)
    by false is e = absurd cc

found_not : (p n : ℕ) → cond (nat_lt p n) (Some p) None ≡ None → (p < n) → ⊥
found_not p n e low = by (nat_lt p n) (grind (arith, nat_tests)) e
  where
    by : (b : Bool) → b ≡ true → cond b (Some p) None ≡ None → ⊥
    by true is e = absurd cc
    by false is e = absurd cc

before_is : (text : List ℕ) (p : ℕ) → p ≡ position_or_len is_feed text → p ≤ length text
    → Lacks (take p text)
before_is text p e low =
    lacks_from (take p text) (λ k h. ap is_feed (get_or-take p text k 0 (omega (arith, length-take p text)))
    ∙ fails_before_first is_feed text k 0 (omega (arith, length-take p text)))

pub cut_at : (text : List ℕ) (i : ℕ) → Some i ≡ position (λ b. b == 10) text
    → journal_lines text ≡ take i text ∷ journal_lines (take (length text - (i + 1)) (drop (i + 1) text))
cut_at text i e =
    let p : ℕ = position_or_len is_feed text in
    let (low, is) = found_at p (length text) i (sym e) in
    let feed : get_or text p 0 ≡ 10 = ten (get_or text p 0) (passes_at_first is_feed text 0 low) in
    let parts : text ≡ take p text ++ (10 ∷ drop (p + 1) text) =
    split_at_first is_feed text 0 low ∙ ap (λ b. take p text ++ (b ∷ drop (p + 1) text)) feed in
    let whole : drop (i + 1) text ≡ take (length text - (i + 1)) (drop (i + 1) text) =
    sym (take_all (length text - (i + 1)) (drop (i + 1) text) (omega (arith, length-drop (i + 1) text))) in
    ap journal_lines parts
    ∙ line_ended (take p text) (drop (p + 1) text) (before_is text p refl (omega arith))
    ∙ ap (λ k. take k text ∷ journal_lines (drop (k + 1) text)) is
    ∙ ap (λ l. take i text ∷ journal_lines l) whole
  where
    ten : (b : ℕ) → is_feed b ≡ true → b ≡ 10
    ten b h = grind (arith, nat_tests)

pub cut_none : (text : List ℕ) → 0 < length text → None ≡ position (λ b. b == 10) text
    → journal_lines text ≡ text ∷ journal_lines (take (length text - length text) (drop (length text) text))
cut_none text some e =
    let p : ℕ = position_or_len is_feed text in
    let past : p < length text → ⊥ = found_not p (length text) (sym e) in
    let bare : Lacks text = lacks_from text (λ k h. fails_before_first is_feed text k 0 (omega (arith, not_lt p (length text) past))) in
    let zero_left : length text - length text ≡ 0 = omega arith in
    only text some bare ∙ ap (λ n. text ∷ journal_lines (take n (drop (length text) text))) (sym zero_left)
  where
    not_lt : (a b : ℕ) → (a < b → ⊥) → b ≤ a
    not_lt a b h = omega arith

    only : (text : List ℕ) → 0 < length text → Lacks text → journal_lines text ≡ text ∷ []
    only [] some h = absurd (omega arith)
    only (b ∷ bs) some h = line_left b bs h

-- Bytes that are no text are no line.
pub not_text : (bytes : List ℕ) → ¬ IsUtf8 bytes → None ≡ line_in bytes
not_text bytes h = by (line_in bytes) (λ l e. h (line_utf8 bytes l (line_found bytes l e)))
  where
    by : (o : Option Line) → ((l : Line) → o ≡ Some l → ⊥) → None ≡ o
    by None h = refl
    by (Some l) h = absurd (h l refl)

-- ---- a journal's text has the lines of its events

abbrev pub words_of : Event → List ℕ
words_of e = line_words (line_of e)

event_parts : (e : Event) (more : List ℕ) → event_words e ++ more ≡ words_of e ++ (10 ∷ more)
event_parts e more = append_assoc (words_of e) (codes "\n") more

whole_lines : (es : List Event) → AllByRecursion FitsEvent es → journal_lines (journal_words es) ≡ map words_of es
whole_lines [] h = refl
whole_lines (e ∷ es) h =
    ap journal_lines (event_parts e (journal_words es))
    ∙ line_ended (words_of e) (journal_words es) (one_line (line_of e) h.0)
    ∙ ap (λ ls. words_of e ∷ ls) (whole_lines es h.1)

-- what stands before a last byte is cut where the rest begins
pub cut_front : (xs ys js : List ℕ) → js ≢ [] → xs ++ (10 ∷ []) ≡ ys ++ js
    → (zs : List ℕ) × (xs ≡ ys ++ zs) × (zs ++ (10 ∷ []) ≡ js)
cut_front xs [] js some e = (xs, refl, e)
cut_front [] (y ∷ ys) js some e = absurd (some (nothing_behind ys js cc))
  where
    nothing_behind : (ys js : List ℕ) → [] ≡ ys ++ js → js ≡ []
    nothing_behind [] js e = sym e
    nothing_behind (y ∷ ys) js e = absurd cc
cut_front (x ∷ xs) (y ∷ ys) js some e =
    let head : x ≡ y = cc in
    let (zs, f, g) = cut_front xs ys js some cc in
    (zs, ap (λ l. x ∷ l) f ∙ ap (λ z. z ∷ (ys ++ zs)) head, g)

pub cancel : (xs ys : List ℕ) → xs ++ (10 ∷ []) ≡ ys ++ (10 ∷ []) → xs ≡ ys
cancel xs ys e = let (zs, f, g) = cut_front xs ys (10 ∷ []) (λ e. absurd cc) e in
    f ∙ ap (λ l. ys ++ l) (empty zs g) ∙ append-nil ys
  where
    empty : (zs : List ℕ) → zs ++ (10 ∷ []) ≡ 10 ∷ [] → zs ≡ []
    empty [] g = refl
    empty (z ∷ []) g = absurd cc
    empty (z ∷ y ∷ zs) g = absurd cc

-- a line that fits has a byte
pub has_byte : (line : List ℕ) → Lacks line → line ≢ [] → journal_lines line ≡ line ∷ []
has_byte [] h some = absurd (some refl)
has_byte (b ∷ bs) h some = line_left b bs h

nonempty : (xs ys zs : List ℕ) (d : ℕ) → ((xs ++ (d ∷ ys)) ++ zs) ≢ []
nonempty [] ys zs d e = absurd cc
nonempty (x ∷ xs) ys zs d e = absurd cc

pub words_some : (e : Event) → words_of e ≢ []
words_some e = nonempty (asked_words (line_of e).asked) (61 ∷ 32 ∷ []) (told_words (line_of e).told) 32

journal_some : (e : Event) (es : List Event) → journal_words (e ∷ es) ≢ []
journal_some e es = nonempty (words_of e) [] (journal_words es) 10

short_lines : (es : List Event) (text : List ℕ) → AllByRecursion FitsEvent es → text ++ (10 ∷ []) ≡ journal_words es
    → journal_lines text ≡ map words_of es
short_lines [] [] h e = refl
short_lines [] (b ∷ bs) h e = absurd cc
short_lines (e ∷ []) text h f =
    let same : text ≡ words_of e = cancel text (words_of e) (f ∙ append-nil (event_words e)) in
    ap journal_lines same ∙ has_byte (words_of e) (one_line (line_of e) h.0) (words_some e)
short_lines (e ∷ d ∷ es) text h f =
    let (zs, front, last) =
    cut_front text (event_words e) (journal_words (d ∷ es)) (journal_some d es) f in
    ap journal_lines (front ∙ event_parts e zs)
    ∙ line_ended (words_of e) zs (one_line (line_of e) h.0)
    ∙ ap (λ ls. words_of e ∷ ls) (short_lines (d ∷ es) zs h.1 last)

-- The text of these events has their lines.
pub spelled_lines : (text : List ℕ) (es : List Event) → Spells text es → journal_lines text ≡ map words_of es
spelled_lines text es h = by h.text_is
  where
    by : ((text ≡ journal_words es) ⊎ (text ++ codes "\n" ≡ journal_words es)) → journal_lines text ≡ map words_of es
    by (inl e) = ap journal_lines e ∙ whole_lines es h.fits
    by (inr e) = short_lines es text h.fits e

-- ---- a text with the lines of events is theirs

abbrev pub ended : List (List ℕ) → List ℕ
ended [] = []
ended (line ∷ lines) = line ++ (10 ∷ ended lines)

abbrev pub IsOf : List (List ℕ) → List ℕ → Type 0
IsOf lines text = (text ≡ ended lines) ⊎ (text ++ (10 ∷ []) ≡ ended lines)

grow : (b : ℕ) (bs : List ℕ) (lines : List (List ℕ)) → IsOf lines bs → IsOf ([] ∷ lines) (10 ∷ bs)
grow b bs lines (inl e) = inl (ap (λ l. 10 ∷ l) e)
grow b bs lines (inr e) = inr (ap (λ l. 10 ∷ l) e)

longer : (b : ℕ) (bs : List ℕ) (lines : List (List ℕ)) → IsOf lines bs → IsOf (onto_first b lines) (b ∷ bs)
longer b bs (line ∷ lines) (inl e) = inl (ap (λ l. b ∷ l) e)
longer b bs (line ∷ lines) (inr e) = inr (ap (λ l. b ∷ l) e)
longer b [] [] (inl e) = inr refl
longer b (d ∷ bs) [] (inl e) = absurd cc
longer b [] [] (inr e) = absurd cc
longer b (d ∷ bs) [] (inr e) = absurd cc

pub lines_of : (text : List ℕ) → IsOf (journal_lines text) text
lines_of [] = inl refl
lines_of (b ∷ bs) = by (lines_of bs) (b == 10) refl
  where
    by : IsOf (journal_lines bs) bs → (t : Bool) → (b == 10) ≡ t
        → IsOf (if t then [] ∷ journal_lines bs else onto_first b (journal_lines bs)) (b ∷ bs)
    by h true is =
        let ten : b ≡ 10 = grind (arith, nat_tests) in
        rw ten (grow b bs (journal_lines bs) h)
    by h false is = longer b bs (journal_lines bs) h

pub ended_words : (es : List Event) → ended (map words_of es) ≡ journal_words es
ended_words [] = refl
ended_words (e ∷ es) =
    ap (λ l. words_of e ++ (10 ∷ l)) (ended_words es) ∙ sym (event_parts e (journal_words es))

pub lines_spelled : (text : List ℕ) (es : List Event) → AllByRecursion FitsEvent es → journal_lines text ≡ map words_of es
    → Spells text es
lines_spelled text es fits e = by (lines_of text)
  where
    by : IsOf (journal_lines text) text → Spells text es
    by (inl f) = record { fits = fits; text_is = inl (f ∙ ap ended e ∙ ended_words es) }
    by (inr f) = record { fits = fits; text_is = inr (f ∙ ap ended e ∙ ended_words es) }
