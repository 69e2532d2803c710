-- The words of a line are printable, and neither side of its equals sign has another one.
use Rattle.std.proofs.Common.{◌≡◌, ◌≢◌, ℕ, suc, ◌<◌, ◌≤◌, ◌^◌, Bool, true, false, not, ◌&&◌, ◌==◌, nat_lt, List, []}
use Rattle.std.proofs.Common.{◌∷◌, ◌++◌, length, get_or, codes, arith, refl, ◌∙◌}
use Rattle.std.specs.List.{list_all, AllByRecursion}
use Rattle.std.specs.Fmt.{decimal}
use Rattle.std.proofs.lemmas.Bool.Decides.{nat_tests}
use Rattle.std.proofs.lemmas.Fmt.{decimal_is_IsNumeral}
use Rattle.std.proofs.lemmas.List.Folds.{list_all-append}
use Rattle.std.proofs.lemmas.Str.Parse.{digit_at}
use Rattle.pp_model.specs.declared.moves.Came.TheVariants.{Fault, Image}
use Rattle.pp_model.specs.declared.moves.Move.TheVariants.{Take, Fix, WriteDone, ReadDone, Unfix, Latch, Unlatch}
use Rattle.pp_model.specs.declared.moves.Move.TheVariants.{Choose, Unwind, Finish, FlushBegin, FlushDone}
use Rattle.pp_model.specs.declared.reply.Failure.TheVariants.{WriteFault, ReadFault, Misread}
use Rattle.pp_model.specs.declared.reply.Ending.TheVariants.{Done, Gone}
use Rattle.pp_model.specs.declared.reply.Reply.TheVariants.{Taken, Hit, MustRead, MustWrite, Failed, Loaded, Did}
use Rattle.pp_model.specs.declared.reply.Reply.TheVariants.{Latched, Unlatched, Finished, Flushing, Flushed, NotNow, OffPlan}
use Rattle.pp_report.specs.declared.line.Asked.{Asked}
use Rattle.pp_report.specs.declared.line.Asked.TheVariants.{Submit, Do}
use Rattle.pp_report.specs.declared.line.Told.{Told}
use Rattle.pp_report.specs.declared.line.Told.TheVariants.{Queued, Answer}
use Rattle.pp_report.specs.Lines.{asked_words, told_words, FitsAsked, FitsTold}

-- Of seven bits, and neither a line feed nor an equals sign.
abbrev pub plain : ℕ → Bool
plain b = nat_lt b 128 && (not (b == 10) && not (b == 61))

abbrev IsPlain : List ℕ → Type 0
IsPlain bs = list_all plain bs ≡ true

pub plain_byte : (b : ℕ) → plain b ≡ true → (b < 128) × (b ≢ 10) × (b ≢ 61)
plain_byte b e = (grind (arith, nat_tests), grind (arith, nat_tests), grind (arith, nat_tests))

plain_digit : (b : ℕ) → 48 ≤ b → b ≤ 57 → plain b ≡ true
plain_digit b low high = grind (arith, nat_tests)

all_from : (bs : List ℕ) → ((i : ℕ) → i < length bs → plain (get_or bs i 0) ≡ true) → IsPlain bs
all_from [] h = refl
all_from (b ∷ bs) h = rw (h 0 (omega arith)) (all_from bs (λ i low. h (suc i) (omega arith)))

printed : (n : ℕ) → n < 2 ^ 64 → IsPlain (decimal n)
printed n low =
    all_from (decimal n) (λ i h. let (a, b) = digit_at (decimal n) i (decimal_is_IsNumeral n low).0.1 h in
    plain_digit (get_or (decimal n) i 0) a b)

joined : (xs ys : List ℕ) → IsPlain xs → IsPlain ys → IsPlain (xs ++ ys)
joined xs ys p q = list_all-append plain xs ys ∙ rw (p, q) refl

-- a number, a space and more
then : (n : ℕ) (more : List ℕ) → n < 2 ^ 64 → IsPlain more → IsPlain (decimal n ++ codes " " ++ more)
then n more low h = joined (decimal n ++ codes " ") more (joined (decimal n) (codes " ") (printed n low) refl) h

pub asked_plain : (a : Asked) → FitsAsked a → list_all plain (asked_words a) ≡ true
asked_plain (Submit n) h = printed n (omega arith)
asked_plain (Do (Take w)) h = printed w (omega arith)
asked_plain (Do (Fix w p)) h = then w (decimal p) (omega arith) (printed p (omega arith))
asked_plain (Do (WriteDone w true)) h = then w (codes "ok") (omega arith) refl
asked_plain (Do (WriteDone w false)) h = then w (codes "bad") (omega arith) refl
asked_plain (Do (ReadDone w Fault)) h = then w (codes "fault") (omega arith) refl
asked_plain (Do (ReadDone w (Image p s))) h =
    then w (decimal p ++ codes " " ++ decimal s) (omega arith) (then p (decimal s) (omega arith) (printed s h.1.1))
asked_plain (Do (Unfix w)) h = printed w (omega arith)
asked_plain (Do (Latch w)) h = printed w (omega arith)
asked_plain (Do (Unlatch w)) h = printed w (omega arith)
asked_plain (Do (Choose w i)) h = then w (decimal i) (omega arith) (printed i (omega arith))
asked_plain (Do (Unwind w s)) h = then w (decimal s) (omega arith) (printed s (omega arith))
asked_plain (Do (Finish w)) h = printed w (omega arith)
asked_plain (Do (FlushBegin p)) h = printed p (omega arith)
asked_plain (Do (FlushDone true)) h = refl
asked_plain (Do (FlushDone false)) h = refl

pub told_plain : (t : Told) → FitsTold t → list_all plain (told_words t) ≡ true
told_plain Queued h = refl
told_plain (Answer (Taken k)) h = printed k (omega arith)
told_plain (Answer (Hit f m)) h = then f (decimal m) (omega arith) (printed m h.1)
told_plain (Answer (MustRead f)) h = printed f (omega arith)
told_plain (Answer (MustWrite f v)) h = then f (decimal v) (omega arith) (printed v (omega arith))
told_plain (Answer (Failed WriteFault)) h = refl
told_plain (Answer (Failed ReadFault)) h = refl
told_plain (Answer (Failed Misread)) h = refl
told_plain (Answer (Loaded m)) h = printed m h
told_plain (Answer Did) h = refl
told_plain (Answer (Latched m)) h = printed m h
told_plain (Answer (Unlatched m)) h = printed m h
told_plain (Answer (Finished Done)) h = refl
told_plain (Answer (Finished Gone)) h = refl
told_plain (Answer (Flushing m)) h = printed m h
told_plain (Answer (Flushed true)) h = refl
told_plain (Answer (Flushed false)) h = refl
told_plain (Answer (NotNow d)) h = absurd h
told_plain (Answer (OffPlan c)) h = absurd h

pub parted : (a b : Bool) → (a && b) ≡ true → (a ≡ true) × (b ≡ true)
parted true b e = (refl, e)
parted false b e = absurd cc

-- No side has an equals sign.
pub no_equals : (bs : List ℕ) → list_all plain bs ≡ true → AllByRecursion (λ b. b ≢ 61) bs
no_equals [] e = tt
no_equals (b ∷ bs) e = let (here, more) = parted (plain b) (list_all plain bs) e in
    ((plain_byte b here).2, no_equals bs more)
