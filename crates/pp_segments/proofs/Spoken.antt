-- What is read of a line is what it says, and what it says is read.
use Rattle.std.proofs.Common.{◌≡◌, ℕ, ◌<◌, ◌^◌, Bool, true, false, List, ◌∷◌, ◌++◌, Option, Some, None, codes}
use Rattle.std.proofs.Common.{if◌then◌else◌, refl, sym, ap, subst, ◌∙◌, append_assoc}
use Rattle.std.specs.Prelude.{option_map, option_and_then}
use Rattle.std.specs.Fmt.{decimal}
use Rattle.std.specs.Str.{bytes_eq}
use Rattle.std.proofs.lemmas.Slice.Eq.{bytes_eq-Decides}
use Rattle.pp_text.specs.Parts.{ahead, behind}
use Rattle.pp_text.specs.Numbers.{number_in, small_number}
use Rattle.pp_text.proofs.Cutting.{ahead_at, behind_at, cut_found}
use Rattle.pp_text.proofs.Printed.{digits, number_again, number_found, small_again, small_found, then_some}
use Rattle.pp_model.specs.declared.moves.Move.{Move}
use Rattle.pp_model.specs.declared.moves.Move.TheVariants.{Take, Fix, WriteDone, ReadDone, Unfix, Latch, Unlatch}
use Rattle.pp_model.specs.declared.moves.Move.TheVariants.{Choose, Unwind, Finish, FlushBegin, FlushDone}
use Rattle.pp_model.specs.declared.reply.Reply.TheVariants.{Taken}
use Rattle.pp_model.specs.Words.{move_words}
use Rattle.pp_report.specs.declared.line.Asked.{Asked}
use Rattle.pp_report.specs.declared.line.Asked.TheVariants as asked
use Rattle.pp_report.specs.declared.line.Told.{Told}
use Rattle.pp_report.specs.declared.line.Told.TheVariants.{Answer}
use Rattle.pp_report.specs.Lines.{asked_words, told_words, FitsAsked, FitsMove}
use Rattle.pp_report.specs.Reading.{sides, asked_in, told_in}
use Rattle.pp_report.proofs.Plain.{no_equals}
use Rattle.pp_report.proofs.Sides.{sides_again, sides_found}
use Rattle.pp_report.proofs.Spoken.{asked_again, told_again, asked_found, told_found}
use Rattle.pp_segments.specs.declared.line.SegmentLine.{SegmentLine}
use Rattle.pp_segments.specs.declared.line.SegmentLine.TheVariants.{Head, Submit, Step}
use Rattle.pp_segments.specs.Lines.{left_words, right_words, line_words, FitsAnswered, FitsLine, Says}
use Rattle.pp_segments.specs.Reading.{head_in, submit_of, submit_in, move_of, move_in, taken_in, answered_in, step_in}
use Rattle.pp_segments.specs.Reading.{line_from, line_in}
use Rattle.pp_segments.proofs.Fitting.{answered_by, answered_fits, left_plain}

-- ---- what is spelled is read

head_again : (n k : ℕ) → n < 2 ^ 64 → k < 2 ^ 64 → head_in (decimal n) (decimal k) ≡ Some (Head n k)
head_again n k low low' =
    ap (option_and_then (λ n. option_map (λ k. Head n k) (number_in (decimal k)))) (number_again n low)
    ∙ ap (option_map (λ k. Head n k)) (number_again k low')

submit_again : (k p : ℕ) → k < 2 ^ 64 → p < 2 ^ 32
    → submit_of (decimal k ++ codes " " ++ decimal p) ≡ Some (Submit k p)
submit_again k p low low' =
    let text : List ℕ = decimal k ++ (32 ∷ decimal p) in
    let named : List ℕ → ℕ → Option SegmentLine = λ rest k. option_map (λ p. Submit k p) (small_number rest) in
    ap submit_of (append_assoc (decimal k) (codes " ") (decimal p))
    ∙ ap (option_and_then (λ k. option_and_then (λ rest. named rest k) (behind 32 text)))
    (ap number_in (ahead_at 32 (decimal k) (decimal p) (digits k low)) ∙ number_again k low)
    ∙ ap (option_and_then (λ rest. named rest k)) (behind_at 32 (decimal k) (decimal p) (digits k low))
    ∙ ap (option_map (λ p. Submit k p)) (small_again p low')

move_again : (did : Move) → FitsMove did → move_in (move_words did) ≡ Some did
move_again did fits = ap (option_and_then move_of) (asked_again (asked.Do did) fits)

answered_again : (told : Told) → FitsAnswered told → answered_in (told_words told) ≡ Some told
answered_again =
    answered_by (λ told. answered_in (told_words told) ≡ Some told)
    (λ plan low. ap (option_map (λ plan. Answer (Taken plan))) (number_again plan low))
    (λ told fits apart.
    ap (λ b. if b then taken_in (told_words told) else told_in (told_words told)) apart ∙ told_again told fits)

step_again : (did : Move) (told : Told) → FitsMove did → FitsAnswered told
    → step_in (move_words did) (told_words told) ≡ Some (Step did told)
step_again did told fits fits' =
    ap (option_and_then (λ did. option_map (λ told. Step did told) (answered_in (told_words told))))
    (move_again did fits)
    ∙ ap (option_map (λ told. Step did told)) (answered_again told fits')

-- The word of a move is neither of the other two.
record Moves (did : Move) : Type 0 where
  pub no_head : bytes_eq (ahead 32 (move_words did)) (codes "segment") ≡ false
  pub no_submit : bytes_eq (ahead 32 (move_words did)) (codes "submit") ≡ false

moves : (did : Move) → Moves did
moves (Take w) = record { no_head = refl; no_submit = refl }
moves (Fix w p) = record { no_head = refl; no_submit = refl }
moves (WriteDone w ok) = record { no_head = refl; no_submit = refl }
moves (ReadDone w c) = record { no_head = refl; no_submit = refl }
moves (Unfix w) = record { no_head = refl; no_submit = refl }
moves (Latch w) = record { no_head = refl; no_submit = refl }
moves (Unlatch w) = record { no_head = refl; no_submit = refl }
moves (Choose w i) = record { no_head = refl; no_submit = refl }
moves (Unwind w s) = record { no_head = refl; no_submit = refl }
moves (Finish w) = record { no_head = refl; no_submit = refl }
moves (FlushBegin p) = record { no_head = refl; no_submit = refl }
moves (FlushDone ok) = record { no_head = refl; no_submit = refl }

-- What begins with neither word is a move and what is told of it.
pub line_default : (left right : List ℕ) → bytes_eq (ahead 32 left) (codes "segment") ≡ false
    → bytes_eq (ahead 32 left) (codes "submit") ≡ false → step_in left right ≡ line_from left right
line_default left right a b = rw (a, b) refl

from_again : (l : SegmentLine) → FitsLine l → line_from (left_words l) (right_words l) ≡ Some l
from_again (Head n k) h = head_again n k h.0 h.1
from_again (Submit k p) h = submit_again k p h.0 h.1
from_again (Step did told) h =
    sym (line_default (move_words did) (told_words told) (moves did).no_head (moves did).no_submit)
    ∙ step_again did told h.0 h.1

pub line_again : (text : List ℕ) (l : SegmentLine) → Says text l → line_in text ≡ Some l
line_again text l (h, e) =
    ap (option_and_then (λ (p : List ℕ × List ℕ). line_from p.0 p.1))
    (ap sides (e ∙ append_assoc (left_words l) (codes " = ") (right_words l))
    ∙ sides_again (left_words l) (right_words l) (no_equals (left_words l) (left_plain l h)))
    ∙ from_again l h

-- ---- what is read is spelled

mapped : {A B : Type 0} (o : Option A) (f : A → B) (y : B) → option_map f o ≡ Some y
    → (x : A) × (o ≡ Some x) × (f x ≡ y)
mapped None f y e = absurd cc
mapped (Some x) f y e = (x, refl, cc)

-- an arm of a choice by words: it is taken, or one of those after it
arm : {B : Type 0} (P : B → Type 0) (word key : List ℕ) (here there : Option B) (y : B)
    → (if bytes_eq word key then here else there) ≡ Some y → (word ≡ key → here ≡ Some y → P y)
    → (there ≡ Some y → P y) → P y
arm P word key here there y e now later = by (bytes_eq word key) (bytes_eq-Decides word key).0 e
  where
    by : (b : Bool) → (b ≡ true → word ≡ key) → (if b then here else there) ≡ Some y → P y
    by true is e = now (is refl) e
    by false is e = later e

-- a side is its first word, a space and the rest
led : (side word rest more : List ℕ) → behind 32 side ≡ Some rest → ahead 32 side ≡ word → rest ≡ more
    → side ≡ word ++ (32 ∷ more)
led side word rest more e first is =
    cut_found 32 side rest e ∙ ap (λ xs. xs ++ (32 ∷ rest)) first ∙ ap (λ xs. word ++ (32 ∷ xs)) is

whole : (text left right : List ℕ) (l : SegmentLine) → sides text ≡ Some (left, right) → left ≡ left_words l
    → right ≡ right_words l → text ≡ line_words l
whole text left right l parted e f =
    sides_found text left right parted ∙ ap (λ xs. xs ++ (codes " = " ++ right)) e
    ∙ ap (λ ys. left_words l ++ (codes " = " ++ ys)) f
    ∙ sym (append_assoc (left_words l) (codes " = ") (right_words l))

move_found : (text : List ℕ) (did : Move) → move_in text ≡ Some did → FitsMove did × (text ≡ move_words did)
move_found text did e =
    let (a, is, f) = then_some (asked_in text) move_of did e in
    let (fits, words) = asked_found text a is in by a fits words f
  where
    by : (a : Asked) → FitsAsked a → text ≡ asked_words a → move_of a ≡ Some did
        → FitsMove did × (text ≡ move_words did)
    by (asked.Submit k) fits words f = absurd cc
    by (asked.Do d) fits words f =
        let same : d ≡ did = cc in subst (λ m. FitsMove m × (text ≡ move_words m)) same (fits, words)

answered_found : (text : List ℕ) (told : Told) → answered_in text ≡ Some told
    → FitsAnswered told × (text ≡ told_words told)
answered_found text told e =
    let P : Told → Type 0 = λ t. FitsAnswered t × (text ≡ told_words t) in
    arm P (ahead 32 text) (codes "taken") (taken_in text) (told_in text) told e (λ taken f.
    let (rest, is, g) =
    then_some (behind 32 text) (λ rest. option_map (λ plan. Answer (Taken plan)) (number_in rest)) told f in
    let (plan, number, same) = mapped (number_in rest) (λ plan. Answer (Taken plan)) told g in
    let (a, low) = number_found rest plan number in
    subst P same (low, led text (codes "taken") rest (decimal plan) is taken a)) (λ f.
    let (fits, words) = told_found text told f in (answered_fits told fits, words))

module _ (text left right : List ℕ) (parted : sides text ≡ Some (left, right)) (l : SegmentLine) where
  head_found : ahead 32 left ≡ codes "segment" → option_and_then (λ rest. head_in rest right) (behind 32 left) ≡ Some l
      → Says text l
  head_found first e =
      let (rest, is, f) = then_some (behind 32 left) (λ rest. head_in rest right) l e in
      let (n, number, g) = then_some (number_in rest) (λ n. option_map (λ k. Head n k) (number_in right)) l f in
      let (k, plans, same) = mapped (number_in right) (λ k. Head n k) l g in
      let (a, low) = number_found rest n number in
      let (b, low') = number_found right k plans in
      subst (Says text) same
      ((low, low'), whole text left right (Head n k) parted (led left (codes "segment") rest (decimal n) is first a) b)

  submit_found : ahead 32 left ≡ codes "submit"
      → option_and_then (λ rest. submit_in rest right) (behind 32 left) ≡ Some l → Says text l
  submit_found first e =
      let (rest, is, f) = then_some (behind 32 left) (λ rest. submit_in rest right) l e in
      arm (Says text) right (codes "queued") (submit_of rest) None l f (λ queued f.
      let (k, number, g) =
      then_some (number_in (ahead 32 rest))
      (λ k. option_and_then (λ more. option_map (λ p. Submit k p) (small_number more)) (behind 32 rest)) l f in
      let (more, parts, h) =
      then_some (behind 32 rest) (λ more. option_map (λ p. Submit k p) (small_number more)) l g in
      let (p, name, same) = mapped (small_number more) (λ p. Submit k p) l h in
      let (a, low) = number_found (ahead 32 rest) k number in
      let (b, low') = small_found more p name in
      let numbers : rest ≡ decimal k ++ codes " " ++ decimal p =
      led rest (decimal k) more (decimal p) parts a b ∙ sym (append_assoc (decimal k) (codes " ") (decimal p)) in
      subst (Says text) same (
        (low, low'),
        whole text left right (Submit k p) parted
            (led left (codes "submit") rest (decimal k ++ codes " " ++ decimal p) is first numbers) queued,
      )) (λ f. absurd cc)

  step_found : step_in left right ≡ Some l → Says text l
  step_found e =
      let (did, asks, f) =
      then_some (move_in left) (λ did. option_map (λ told. Step did told) (answered_in right)) l e in
      let (told, tells, same) = mapped (answered_in right) (λ told. Step did told) l f in
      let (fits, a) = move_found left did asks in
      let (fits', b) = answered_found right told tells in
      subst (Says text) same ((fits, fits'), whole text left right (Step did told) parted a b)

  pub from_found : line_from left right ≡ Some l → Says text l
  from_found e =
      let head : Option SegmentLine = option_and_then (λ rest. head_in rest right) (behind 32 left) in
      let submit : Option SegmentLine = option_and_then (λ rest. submit_in rest right) (behind 32 left) in
      arm (Says text) (ahead 32 left) (codes "segment") head _ l e head_found (λ e.
      arm (Says text) (ahead 32 left) (codes "submit") submit (step_in left right) l e submit_found step_found)

pub line_found : (text : List ℕ) (l : SegmentLine) → line_in text ≡ Some l → Says text l
line_found text l e =
    let (p, parted, f) = then_some (sides text) (λ (p : List ℕ × List ℕ). line_from p.0 p.1) l e in
    from_found text p.0 p.1 parted l f
