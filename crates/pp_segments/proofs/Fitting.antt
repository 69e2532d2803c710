-- Which numbers the lines of segments have, and that their words are plain.
use Rattle.std.proofs.Common.{◌≡◌, ℕ, ◌<◌, ◌^◌, true, false, List, ◌++◌, codes, arith, refl, ◌∙◌}
use Rattle.std.specs.List.{list_all}
use Rattle.std.specs.Fmt.{decimal}
use Rattle.std.specs.Str.{bytes_eq}
use Rattle.std.proofs.lemmas.List.Folds.{list_all-append}
use Rattle.pp_text.specs.Parts.{ahead}
use Rattle.pp_model.specs.declared.reply.Ending.TheVariants.{Done, Gone}
use Rattle.pp_model.specs.declared.reply.Reply.TheVariants.{Taken, Hit, MustRead, MustWrite, Failed, Loaded, Did}
use Rattle.pp_model.specs.declared.reply.Reply.TheVariants.{Latched, Unlatched, Finished, Flushing, Flushed, NotNow}
use Rattle.pp_model.specs.declared.reply.Reply.TheVariants.{OffPlan}
use Rattle.pp_report.specs.declared.line.Asked.TheVariants.{Do}
use Rattle.pp_report.specs.declared.line.Told.{Told}
use Rattle.pp_report.specs.declared.line.Told.TheVariants.{Queued, Answer}
use Rattle.pp_report.specs.Lines.{told_words, FitsTold}
use Rattle.pp_report.proofs.Plain.{plain, asked_plain, told_plain}
use Rattle.pp_segments.specs.declared.line.SegmentLine.{SegmentLine}
use Rattle.pp_segments.specs.declared.line.SegmentLine.TheVariants.{Head, Submit, Step}
use Rattle.pp_segments.specs.Lines.{left_words, right_words, FitsAnswered, FitsLine}

-- ---- what a move is told

-- It is a plan, or what a journal tells in another word.
pub answered_by : (P : Told → Type 0) → ((plan : ℕ) → plan < 2 ^ 64 → P (Answer (Taken plan)))
    → ((told : Told) → FitsTold told → bytes_eq (ahead 32 (told_words told)) (codes "taken") ≡ false → P told)
    → (told : Told) → FitsAnswered told → P told
answered_by P taken other Queued h = other Queued h refl
answered_by P taken other (Answer (Taken n)) h = taken n h
answered_by P taken other (Answer (Hit f m)) h = other (Answer (Hit f m)) h refl
answered_by P taken other (Answer (MustRead f)) h = other (Answer (MustRead f)) h refl
answered_by P taken other (Answer (MustWrite f v)) h = other (Answer (MustWrite f v)) h refl
answered_by P taken other (Answer (Failed x)) h = other (Answer (Failed x)) h refl
answered_by P taken other (Answer (Loaded m)) h = other (Answer (Loaded m)) h refl
answered_by P taken other (Answer Did) h = other (Answer Did) h refl
answered_by P taken other (Answer (Latched m)) h = other (Answer (Latched m)) h refl
answered_by P taken other (Answer (Unlatched m)) h = other (Answer (Unlatched m)) h refl
answered_by P taken other (Answer (Finished Done)) h = other (Answer (Finished Done)) h refl
answered_by P taken other (Answer (Finished Gone)) h = other (Answer (Finished Gone)) h refl
answered_by P taken other (Answer (Flushing m)) h = other (Answer (Flushing m)) h refl
answered_by P taken other (Answer (Flushed true)) h = other (Answer (Flushed true)) h refl
answered_by P taken other (Answer (Flushed false)) h = other (Answer (Flushed false)) h refl
answered_by P taken other (Answer (NotNow d)) h = absurd h
answered_by P taken other (Answer (OffPlan c)) h = absurd h

-- What a journal tells may be told here.
pub answered_fits : (told : Told) → FitsTold told → FitsAnswered told
answered_fits Queued h = h
answered_fits (Answer (Taken n)) h = omega arith
answered_fits (Answer (Hit f m)) h = h
answered_fits (Answer (MustRead f)) h = h
answered_fits (Answer (MustWrite f v)) h = h
answered_fits (Answer (Failed x)) h = h
answered_fits (Answer (Loaded m)) h = h
answered_fits (Answer Did) h = h
answered_fits (Answer (Latched m)) h = h
answered_fits (Answer (Unlatched m)) h = h
answered_fits (Answer (Finished x)) h = h
answered_fits (Answer (Flushing m)) h = h
answered_fits (Answer (Flushed x)) h = h
answered_fits (Answer (NotNow d)) h = h
answered_fits (Answer (OffPlan c)) h = h

-- ---- plain words

abbrev IsPlain : List ℕ → Type 0
IsPlain bs = list_all plain bs ≡ true

printed : (n : ℕ) → n < 2 ^ 64 → IsPlain (decimal n)
printed n low = told_plain (Answer (Loaded n)) low

joined : (xs ys : List ℕ) → IsPlain xs → IsPlain ys → IsPlain (xs ++ ys)
joined xs ys p q = list_all-append plain xs ys ∙ rw (p, q) refl

pub left_plain : (l : SegmentLine) → FitsLine l → IsPlain (left_words l)
left_plain (Head n k) h = printed n h.0
left_plain (Submit k p) h =
    joined (decimal k ++ codes " ") (decimal p) (joined (decimal k) (codes " ") (printed k h.0) refl)
    (printed p (omega arith))
left_plain (Step did told) h = asked_plain (Do did) h.0

pub right_plain : (l : SegmentLine) → FitsLine l → IsPlain (right_words l)
right_plain (Head n k) h = printed k h.1
right_plain (Submit k p) h = refl
right_plain (Step did told) h =
    answered_by (λ t. IsPlain (told_words t)) (λ k low. printed k low) (λ t fits apart. told_plain t fits) told h.1
