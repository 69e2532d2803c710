-- What is read of a line is what it says, and what it says is read.
use Rattle.std.proofs.Common.{◌≡◌, ℕ, ◌<◌, ◌^◌, Bool, true, false, List, ◌∷◌, ◌++◌, Option, Some, None, codes}
use Rattle.std.proofs.Common.{◌≤◌, length, get_or, if◌then◌else◌, refl, sym, ap, subst, ◌∙◌, append_assoc, arith}
use Rattle.std.specs.Prelude.{option_map, option_and_then}
use Rattle.std.specs.Fmt.{decimal}
use Rattle.std.specs.Str.{bytes_eq}
use Rattle.std.proofs.lemmas.Fmt.{decimal_is_IsNumeral}
use Rattle.std.proofs.lemmas.Slice.Eq.{bytes_eq-Decides}
use Rattle.std.proofs.lemmas.Str.Parse.{digit_at}
use Rattle.std.proofs.Math.ListN.{get_or-append}
use Rattle.pp_text.specs.Parts.{ahead, behind}
use Rattle.pp_text.specs.Numbers.{number_in, small_number}
use Rattle.pp_text.proofs.Cutting.{ahead_at, behind_at, cut_found, cut_whole}
use Rattle.pp_text.proofs.Printed.{digits, number_again, number_found, small_again, small_found, then_some}
use Rattle.pp_model.specs.Words.{written_word, came_words, failure_word}
use Rattle.pp_model.specs.declared.moves.Came.{Came}
use Rattle.pp_model.specs.declared.moves.Came.TheVariants.{Fault, Image}
use Rattle.pp_model.specs.declared.moves.Move.TheVariants.{Take, Fix, WriteDone, ReadDone, Unfix, Latch, Unlatch}
use Rattle.pp_model.specs.declared.moves.Move.TheVariants.{Choose, Unwind, Finish, FlushBegin, FlushDone}
use Rattle.pp_model.specs.declared.reply.Failure.{Failure}
use Rattle.pp_model.specs.declared.reply.Failure.TheVariants.{WriteFault, ReadFault, Misread}
use Rattle.pp_model.specs.declared.reply.Ending.TheVariants.{Done, Gone}
use Rattle.pp_model.specs.declared.reply.Reply.TheVariants.{Taken, Hit, MustRead, MustWrite, Failed, Loaded, Did}
use Rattle.pp_model.specs.declared.reply.Reply.TheVariants.{Latched, Unlatched, Finished, Flushing, Flushed, NotNow, OffPlan}
use Rattle.pp_report.specs.declared.line.Asked.{Asked}
use Rattle.pp_report.specs.declared.line.Asked.TheVariants.{Submit, Do}
use Rattle.pp_report.specs.declared.line.Told.{Told}
use Rattle.pp_report.specs.declared.line.Told.TheVariants.{Queued, Answer}
use Rattle.pp_report.specs.declared.line.Line.{Line}
use Rattle.pp_report.specs.Lines.{asked_words, told_words, FitsCame, FitsAsked, FitsTold, Says}
use Rattle.pp_report.specs.Reading.{sides, leading, written_in, came_in, failure_in, asked_of, asked_after, asked_in}
use Rattle.pp_report.specs.Reading.{told_alone, told_of, told_after, told_by, told_in, line_from, line_in}
use Rattle.pp_report.proofs.Sides.{sides_again, sides_found}
use Rattle.pp_report.proofs.Plain.{asked_plain, no_equals}

-- ---- what is spelled is read

leading_again : (n : ℕ) (rest : List ℕ) → n < 2 ^ 32 → leading (decimal n ++ (32 ∷ rest)) ≡ Some (n, rest)
leading_again n rest low =
    let text : List ℕ = decimal n ++ (32 ∷ rest) in
    ap (λ w. option_and_then (λ m. option_map (λ r. (m, r)) (behind 32 text)) (small_number w))
    (ahead_at 32 (decimal n) rest (digits n (omega arith)))
    ∙ ap (λ o. option_and_then (λ m. option_map (λ r. (m, r)) o) (small_number (decimal n)))
    (behind_at 32 (decimal n) rest (digits n (omega arith)))
    ∙ ap (option_and_then (λ m. Some (m, rest))) (small_again n low)

-- a number, a space and more, as words have them
abbrev trail : ℕ → List ℕ → List ℕ
trail n more = decimal n ++ codes " " ++ more

spaced : (n : ℕ) (more : List ℕ) → trail n more ≡ decimal n ++ (32 ∷ more)
spaced n more = append_assoc (decimal n) (codes " ") more

-- a text that begins with a digit isn't the word `fault`
differs : (b : Bool) → (b ≡ true → ⊥) → b ≡ false
differs true h = absurd (h refl)
differs false h = refl

not_fault : (text : List ℕ) → get_or text 0 0 ≤ 57 → bytes_eq text (codes "fault") ≡ false
not_fault text low = differs (bytes_eq text (codes "fault")) (λ e.
    let is : get_or text 0 0 ≡ 102 = ap (λ l. get_or l 0 0) ((bytes_eq-Decides text (codes "fault")).0 e) in
    absurd (omega arith))

digit_first : (n : ℕ) (more : List ℕ) → n < 2 ^ 64 → get_or (trail n more) 0 0 ≤ 57
digit_first n more low =
    let some : 0 < length (decimal n) = (decimal_is_IsNumeral n low).0.0 in
    let (a, b) = digit_at (decimal n) 0 (decimal_is_IsNumeral n low).0.1 some in
    let same : get_or (trail n more) 0 0 ≡ get_or (decimal n) 0 0 =
    ap (λ l. get_or l 0 0) (spaced n more) ∙ get_or-append (decimal n) (32 ∷ more) 0 0 some in
    omega arith

came_again : (c : Came) → FitsCame c → came_in (came_words c) ≡ Some c
came_again Fault h = refl
came_again (Image page stamp) h =
    let text : List ℕ = trail page (decimal stamp) in
    let other : bytes_eq text (codes "fault") ≡ false = not_fault text (digit_first page (decimal stamp) (omega arith)) in
    ap (λ b. if b then Some Fault
    else option_and_then (λ (p : ℕ × List ℕ). option_map (λ s. Image p.0 s) (number_in p.1)) (leading text)) other
    ∙ ap (option_and_then (λ (p : ℕ × List ℕ). option_map (λ s. Image p.0 s) (number_in p.1)))
    (ap leading (spaced page (decimal stamp)) ∙ leading_again page (decimal stamp) h.0)
    ∙ ap (option_map (λ s. Image page s)) (number_again stamp h.1)

asked_led : (word : List ℕ) (w : ℕ) (more : List ℕ) (a : Asked) → w < 2 ^ 32 → asked_of word w more ≡ Some a
    → option_and_then (λ (p : ℕ × List ℕ). asked_of word p.0 p.1) (leading (trail w more)) ≡ Some a
asked_led word w more a low is =
    ap (option_and_then (λ (p : ℕ × List ℕ). asked_of word p.0 p.1)) (ap leading (spaced w more) ∙ leading_again w more low)
    ∙ is

told_led : (word : List ℕ) (f : ℕ) (more : List ℕ) (t : Told) → f < 2 ^ 32 → told_of word f more ≡ Some t
    → option_and_then (λ (p : ℕ × List ℕ). told_of word p.0 p.1) (leading (trail f more)) ≡ Some t
told_led word f more t low is =
    ap (option_and_then (λ (p : ℕ × List ℕ). told_of word p.0 p.1)) (ap leading (spaced f more) ∙ leading_again f more low)
    ∙ is

pub asked_again : (a : Asked) → FitsAsked a → asked_in (asked_words a) ≡ Some a
asked_again (Submit n) h = ap (option_map (λ n. Submit n)) (small_again n h)
asked_again (Do (Take w)) h = ap (option_map (λ w. Do (Take w))) (small_again w h)
asked_again (Do (Fix w p)) h =
    asked_led (codes "fix") w (decimal p) (Do (Fix w p)) h.0 (ap (option_map (λ p. Do (Fix w p))) (small_again p h.1))
asked_again (Do (WriteDone w true)) h = asked_led (codes "wrote") w (codes "ok") (Do (WriteDone w true)) h refl
asked_again (Do (WriteDone w false)) h = asked_led (codes "wrote") w (codes "bad") (Do (WriteDone w false)) h refl
asked_again (Do (ReadDone w c)) h =
    asked_led (codes "came") w (came_words c) (Do (ReadDone w c)) h.0
    (ap (option_map (λ c. Do (ReadDone w c))) (came_again c h.1))
asked_again (Do (Unfix w)) h = ap (option_map (λ w. Do (Unfix w))) (small_again w h)
asked_again (Do (Latch w)) h = ap (option_map (λ w. Do (Latch w))) (small_again w h)
asked_again (Do (Unlatch w)) h = ap (option_map (λ w. Do (Unlatch w))) (small_again w h)
asked_again (Do (Choose w i)) h =
    asked_led (codes "choose") w (decimal i) (Do (Choose w i)) h.0
    (ap (option_map (λ i. Do (Choose w i))) (small_again i h.1))
asked_again (Do (Unwind w s)) h =
    asked_led (codes "unwind") w (decimal s) (Do (Unwind w s)) h.0
    (ap (option_map (λ s. Do (Unwind w s))) (small_again s h.1))
asked_again (Do (Finish w)) h = ap (option_map (λ w. Do (Finish w))) (small_again w h)
asked_again (Do (FlushBegin p)) h = ap (option_map (λ p. Do (FlushBegin p))) (small_again p h)
asked_again (Do (FlushDone true)) h = refl
asked_again (Do (FlushDone false)) h = refl

pub told_again : (t : Told) → FitsTold t → told_in (told_words t) ≡ Some t
told_again Queued h = refl
told_again (Answer (Taken k)) h = ap (option_map (λ k. Answer (Taken k))) (small_again k h)
told_again (Answer (Hit f m)) h =
    told_led (codes "hit") f (decimal m) (Answer (Hit f m)) h.0
    (ap (option_map (λ m. Answer (Hit f m))) (number_again m h.1))
told_again (Answer (MustRead f)) h = ap (option_map (λ f. Answer (MustRead f))) (small_again f h)
told_again (Answer (MustWrite f v)) h =
    told_led (codes "mustwrite") f (decimal v) (Answer (MustWrite f v)) h.0
    (ap (option_map (λ v. Answer (MustWrite f v))) (small_again v h.1))
told_again (Answer (Failed WriteFault)) h = refl
told_again (Answer (Failed ReadFault)) h = refl
told_again (Answer (Failed Misread)) h = refl
told_again (Answer (Loaded m)) h = ap (option_map (λ m. Answer (Loaded m))) (number_again m h)
told_again (Answer Did) h = refl
told_again (Answer (Latched m)) h = ap (option_map (λ m. Answer (Latched m))) (number_again m h)
told_again (Answer (Unlatched m)) h = ap (option_map (λ m. Answer (Unlatched m))) (number_again m h)
told_again (Answer (Finished Done)) h = refl
told_again (Answer (Finished Gone)) h = refl
told_again (Answer (Flushing m)) h = ap (option_map (λ m. Answer (Flushing m))) (number_again m h)
told_again (Answer (Flushed true)) h = refl
told_again (Answer (Flushed false)) h = refl
told_again (Answer (NotNow d)) h = absurd h
told_again (Answer (OffPlan c)) h = absurd h

pub line_again : (text : List ℕ) (l : Line) → Says text l → line_in text ≡ Some l
line_again text l (h, e) =
    let parted : sides text ≡ Some (asked_words l.asked, told_words l.told) =
    ap sides (e ∙ append_assoc (asked_words l.asked) (codes " = ") (told_words l.told))
    ∙ sides_again (asked_words l.asked) (told_words l.told)
    (no_equals (asked_words l.asked) (asked_plain l.asked h.0)) in
    ap (option_and_then (λ (p : List ℕ × List ℕ). line_from p.0 p.1)) parted
    ∙ ap (option_and_then (λ a. option_map (λ t. record { asked = a; told = t }) (told_in (told_words l.told))))
    (asked_again l.asked h.0)
    ∙ ap (option_map (λ t. record { asked = l.asked; told = t })) (told_again l.told h.1)

-- ---- what is read is spelled

mapped : {A B : Type 0} (o : Option A) (f : A → B) (y : B) → option_map f o ≡ Some y
    → (x : A) × (o ≡ Some x) × (f x ≡ y)
mapped None f y e = absurd cc
mapped (Some x) f y e = (x, refl, cc)

-- an arm of a choice by words: it is taken, or one of those after it
arm : {B : Type 0} (P : B → Type 0) (word key : List ℕ) (here there : Option B) (y : B)
    → (if bytes_eq word key then here else there) ≡ Some y → (word ≡ key → here ≡ Some y → P y)
    → (there ≡ Some y → P y) → P y
arm P word key here there y e now later = by (bytes_eq word key) (bytes_eq-Decides word key).0 e
  where
    by : (b : Bool) → (b ≡ true → word ≡ key) → (if b then here else there) ≡ Some y → P y
    by true is e = now (is refl) e
    by false is e = later e

never : {B : Type 0} (P : B → Type 0) (y : B) → ◌≡◌ {A = Option B} None (Some y) → P y
never P y e = absurd cc

-- an arm that has only to look at the word
lone : {B : Type 0} (P : B → Type 0) (x y : B) → Some x ≡ Some y → P x → P y
lone P x y e h = let same : x ≡ y = cc in subst P same h

small_arm : {B : Type 0} (P : B → Type 0) (text : List ℕ) (f : ℕ → B) (y : B)
    → option_map f (small_number text) ≡ Some y → ((n : ℕ) → n < 2 ^ 32 → text ≡ decimal n → P (f n)) → P y
small_arm P text f y e given =
    let (n, is, same) = mapped (small_number text) f y e in
    let (word, low) = small_found text n is in
    subst P same (given n low word)

number_arm : {B : Type 0} (P : B → Type 0) (text : List ℕ) (f : ℕ → B) (y : B)
    → option_map f (number_in text) ≡ Some y → ((n : ℕ) → n < 2 ^ 64 → text ≡ decimal n → P (f n)) → P y
number_arm P text f y e given =
    let (n, is, same) = mapped (number_in text) f y e in
    let (word, low) = number_found text n is in
    subst P same (given n low word)

leading_found : (text : List ℕ) (n : ℕ) (rest : List ℕ) → leading text ≡ Some (n, rest)
    → (n < 2 ^ 32) × (text ≡ decimal n ++ (32 ∷ rest))
leading_found text n rest e =
    let (m, is, f) = then_some (small_number (ahead 32 text)) (λ m. option_map (λ r. (m, r)) (behind 32 text)) (n, rest) e in
    let (r, found, same) = mapped (behind 32 text) (λ r. (m, r)) (n, rest) f in
    let (word, low) = small_found (ahead 32 text) m is in
    let number : m ≡ n = ap (λ (p : ℕ × List ℕ). p.0) same in
    let after : r ≡ rest = ap (λ (p : ℕ × List ℕ). p.1) same in
    let now : ahead 32 text ≡ decimal n = word ∙ ap decimal number in (
      subst (λ k. k < 2 ^ 32) number low,
      cut_found 32 text r found ∙ ap (λ l. l ++ (32 ∷ r)) now ∙ ap (λ l. decimal n ++ (32 ∷ l)) after,
    )

written_found : (word : List ℕ) (ok : Bool) → written_in word ≡ Some ok → word ≡ written_word ok
written_found word ok e =
    arm (λ b. word ≡ written_word b) word (codes "ok") (Some true) _ ok e
    (λ s f. lone (λ b. word ≡ written_word b) true ok f s) (λ e.
    arm (λ b. word ≡ written_word b) word (codes "bad") (Some false) None ok e
    (λ s f. lone (λ b. word ≡ written_word b) false ok f s) (never (λ b. word ≡ written_word b) ok))

failure_found : (word : List ℕ) (x : Failure) → failure_in word ≡ Some x → word ≡ failure_word x
failure_found word x e =
    let P : Failure → Type 0 = λ y. word ≡ failure_word y in
    arm P word (codes "write") (Some WriteFault) _ x e (λ s f. lone P WriteFault x f s) (λ e.
    arm P word (codes "read") (Some ReadFault) _ x e (λ s f. lone P ReadFault x f s) (λ e.
    arm P word (codes "misread") (Some Misread) None x e (λ s f. lone P Misread x f s) (never P x)))

came_found : (text : List ℕ) (c : Came) → came_in text ≡ Some c → FitsCame c × (text ≡ came_words c)
came_found text c e =
    let P : Came → Type 0 = λ y. FitsCame y × (text ≡ came_words y) in
    arm P text (codes "fault") (Some Fault) _ c e (λ s f. lone P Fault c f (tt, s)) (λ e.
    let (p, led, f) =
    then_some (leading text) (λ (p : ℕ × List ℕ). option_map (λ s. Image p.0 s) (number_in p.1)) c e in
    let (low, is) = leading_found text p.0 p.1 led in
    number_arm P p.1 (λ s. Image p.0 s) c f (λ s small word. (
      (low, small),
      is ∙ ap (λ l. decimal p.0 ++ (32 ∷ l)) word ∙ sym (spaced p.0 (decimal s)),
    )))

-- what the word asks, with a worker and a text behind it
asked_of_found : (word : List ℕ) (w : ℕ) (text : List ℕ) (a : Asked) → w < 2 ^ 32 → asked_of word w text ≡ Some a
    → FitsAsked a × ((word ++ (32 ∷ trail w text)) ≡ asked_words a)
asked_of_found word w text a low e =
    let P : Asked → Type 0 = λ y. FitsAsked y × ((word ++ (32 ∷ trail w text)) ≡ asked_words y) in
    let put : (key more : List ℕ) → word ≡ key → text ≡ more → (word ++ (32 ∷ trail w text)) ≡ (key ++ (32 ∷ trail w more)) =
    λ key more s t. ap (λ k. k ++ (32 ∷ trail w text)) s ∙ ap (λ l. key ++ (32 ∷ trail w l)) t in
    arm P word (codes "fix") _ _ a e (λ s f. small_arm P text (λ p. Do (Fix w p)) a f
    (λ p h t. ((low, h), put (codes "fix") (decimal p) s t))) (λ e.
    arm P word (codes "choose") _ _ a e (λ s f. small_arm P text (λ i. Do (Choose w i)) a f
    (λ i h t. ((low, h), put (codes "choose") (decimal i) s t))) (λ e.
    arm P word (codes "unwind") _ _ a e (λ s f. small_arm P text (λ i. Do (Unwind w i)) a f
    (λ i h t. ((low, h), put (codes "unwind") (decimal i) s t))) (λ e.
    arm P word (codes "wrote") _ _ a e (λ s f.
    let (ok, is, same) = mapped (written_in text) (λ ok. Do (WriteDone w ok)) a f in
    subst P same (low, put (codes "wrote") (written_word ok) s (written_found text ok is))) (λ e.
    arm P word (codes "came") _ None a e (λ s f.
    let (c, is, same) = mapped (came_in text) (λ c. Do (ReadDone w c)) a f in
    let (fits, t) = came_found text c is in
    subst P same ((low, fits), put (codes "came") (came_words c) s t)) (never P a)))))

-- what the word asks, with a text behind it
asked_after_found : (word text : List ℕ) (a : Asked) → asked_after word text ≡ Some a
    → FitsAsked a × ((word ++ (32 ∷ text)) ≡ asked_words a)
asked_after_found word text a e =
    let P : Asked → Type 0 = λ y. FitsAsked y × ((word ++ (32 ∷ text)) ≡ asked_words y) in
    let put : (key more : List ℕ) → word ≡ key → text ≡ more → (word ++ (32 ∷ text)) ≡ (key ++ (32 ∷ more)) =
    λ key more s t. ap (λ k. k ++ (32 ∷ text)) s ∙ ap (λ l. key ++ (32 ∷ l)) t in
    arm P word (codes "submit") _ _ a e (λ s f. small_arm P text (λ n. Submit n) a f
    (λ n h t. (h, put (codes "submit") (decimal n) s t))) (λ e.
    arm P word (codes "take") _ _ a e (λ s f. small_arm P text (λ n. Do (Take n)) a f
    (λ n h t. (h, put (codes "take") (decimal n) s t))) (λ e.
    arm P word (codes "unfix") _ _ a e (λ s f. small_arm P text (λ n. Do (Unfix n)) a f
    (λ n h t. (h, put (codes "unfix") (decimal n) s t))) (λ e.
    arm P word (codes "latch") _ _ a e (λ s f. small_arm P text (λ n. Do (Latch n)) a f
    (λ n h t. (h, put (codes "latch") (decimal n) s t))) (λ e.
    arm P word (codes "unlatch") _ _ a e (λ s f. small_arm P text (λ n. Do (Unlatch n)) a f
    (λ n h t. (h, put (codes "unlatch") (decimal n) s t))) (λ e.
    arm P word (codes "finish") _ _ a e (λ s f. small_arm P text (λ n. Do (Finish n)) a f
    (λ n h t. (h, put (codes "finish") (decimal n) s t))) (λ e.
    arm P word (codes "flush") _ _ a e (λ s f. small_arm P text (λ n. Do (FlushBegin n)) a f
    (λ n h t. (h, put (codes "flush") (decimal n) s t))) (λ e.
    arm P word (codes "flushed") _ _ a e (λ s f.
    let (ok, is, same) = mapped (written_in text) (λ ok. Do (FlushDone ok)) a f in
    subst P same (tt, put (codes "flushed") (written_word ok) s (written_found text ok is))) (λ e.
    let (p, led, f) = then_some (leading text) (λ (p : ℕ × List ℕ). asked_of word p.0 p.1) a e in
    let (low, is) = leading_found text p.0 p.1 led in
    let (fits, same) = asked_of_found word p.0 p.1 a low f in
    (fits, ap (λ l. word ++ (32 ∷ l)) (is ∙ sym (spaced p.0 p.1)) ∙ same)))))))))

pub asked_found : (text : List ℕ) (a : Asked) → asked_in text ≡ Some a → FitsAsked a × (text ≡ asked_words a)
asked_found text a e =
    let (rest, is, f) = then_some (behind 32 text) (λ rest. asked_after (ahead 32 text) rest) a e in
    let (fits, same) = asked_after_found (ahead 32 text) rest a f in
    (fits, cut_found 32 text rest is ∙ same)

-- what the word tells by itself
told_alone_found : (word : List ℕ) (t : Told) → told_alone word ≡ Some t → FitsTold t × (word ≡ told_words t)
told_alone_found word t e =
    let P : Told → Type 0 = λ y. FitsTold y × (word ≡ told_words y) in
    arm P word (codes "queued") (Some Queued) _ t e (λ s f. lone P Queued t f (tt, s)) (λ e.
    arm P word (codes "did") (Some (Answer Did)) _ t e (λ s f. lone P (Answer Did) t f (tt, s)) (λ e.
    arm P word (codes "done") (Some (Answer (Finished Done))) _ t e
    (λ s f. lone P (Answer (Finished Done)) t f (tt, s)) (λ e.
    arm P word (codes "gone") (Some (Answer (Finished Gone))) _ t e
    (λ s f. lone P (Answer (Finished Gone)) t f (tt, s)) (λ e.
    arm P word (codes "clean") (Some (Answer (Flushed true))) _ t e
    (λ s f. lone P (Answer (Flushed true)) t f (tt, s)) (λ e.
    arm P word (codes "dirty") (Some (Answer (Flushed false))) None t e
    (λ s f. lone P (Answer (Flushed false)) t f (tt, s)) (never P t))))))

told_of_found : (word : List ℕ) (n : ℕ) (text : List ℕ) (t : Told) → n < 2 ^ 32 → told_of word n text ≡ Some t
    → FitsTold t × ((word ++ (32 ∷ trail n text)) ≡ told_words t)
told_of_found word n text t low e =
    let P : Told → Type 0 = λ y. FitsTold y × ((word ++ (32 ∷ trail n text)) ≡ told_words y) in
    let put : (key more : List ℕ) → word ≡ key → text ≡ more → (word ++ (32 ∷ trail n text)) ≡ (key ++ (32 ∷ trail n more)) =
    λ key more s t. ap (λ k. k ++ (32 ∷ trail n text)) s ∙ ap (λ l. key ++ (32 ∷ trail n l)) t in
    arm P word (codes "hit") _ _ t e (λ s f. number_arm P text (λ m. Answer (Hit n m)) t f
    (λ m h x. ((low, h), put (codes "hit") (decimal m) s x))) (λ e.
    arm P word (codes "mustwrite") _ None t e (λ s f. small_arm P text (λ v. Answer (MustWrite n v)) t f
    (λ v h x. ((low, h), put (codes "mustwrite") (decimal v) s x))) (never P t))

told_after_found : (word text : List ℕ) (t : Told) → told_after word text ≡ Some t
    → FitsTold t × ((word ++ (32 ∷ text)) ≡ told_words t)
told_after_found word text t e =
    let P : Told → Type 0 = λ y. FitsTold y × ((word ++ (32 ∷ text)) ≡ told_words y) in
    let put : (key more : List ℕ) → word ≡ key → text ≡ more → (word ++ (32 ∷ text)) ≡ (key ++ (32 ∷ more)) =
    λ key more s x. ap (λ k. k ++ (32 ∷ text)) s ∙ ap (λ l. key ++ (32 ∷ l)) x in
    arm P word (codes "taken") _ _ t e (λ s f. small_arm P text (λ n. Answer (Taken n)) t f
    (λ n h x. (h, put (codes "taken") (decimal n) s x))) (λ e.
    arm P word (codes "mustread") _ _ t e (λ s f. small_arm P text (λ n. Answer (MustRead n)) t f
    (λ n h x. (h, put (codes "mustread") (decimal n) s x))) (λ e.
    arm P word (codes "failed") _ _ t e (λ s f.
    let (y, is, same) = mapped (failure_in text) (λ y. Answer (Failed y)) t f in
    subst P same (tt, put (codes "failed") (failure_word y) s (failure_found text y is))) (λ e.
    arm P word (codes "loaded") _ _ t e (λ s f. number_arm P text (λ n. Answer (Loaded n)) t f
    (λ n h x. (h, put (codes "loaded") (decimal n) s x))) (λ e.
    arm P word (codes "latched") _ _ t e (λ s f. number_arm P text (λ n. Answer (Latched n)) t f
    (λ n h x. (h, put (codes "latched") (decimal n) s x))) (λ e.
    arm P word (codes "unlatched") _ _ t e (λ s f. number_arm P text (λ n. Answer (Unlatched n)) t f
    (λ n h x. (h, put (codes "unlatched") (decimal n) s x))) (λ e.
    arm P word (codes "flushing") _ _ t e (λ s f. number_arm P text (λ n. Answer (Flushing n)) t f
    (λ n h x. (h, put (codes "flushing") (decimal n) s x))) (λ e.
    let (p, led, f) = then_some (leading text) (λ (p : ℕ × List ℕ). told_of word p.0 p.1) t e in
    let (low, is) = leading_found text p.0 p.1 led in
    let (fits, same) = told_of_found word p.0 p.1 t low f in
    (fits, ap (λ l. word ++ (32 ∷ l)) (is ∙ sym (spaced p.0 p.1)) ∙ same))))))))

pub told_found : (text : List ℕ) (t : Told) → told_in text ≡ Some t → FitsTold t × (text ≡ told_words t)
told_found text t e = by (behind 32 text) (cut_whole 32 text) (cut_found 32 text) e
  where
    by : (o : Option (List ℕ)) → (o ≡ None → text ≡ ahead 32 text)
        → ((rest : List ℕ) → o ≡ Some rest → text ≡ ahead 32 text ++ (32 ∷ rest))
        → told_by (ahead 32 text) o ≡ Some t → FitsTold t × (text ≡ told_words t)
    by None whole found e =
        let (fits, same) = told_alone_found (ahead 32 text) t e in (fits, whole refl ∙ same)
    by (Some rest) whole found e =
        let (fits, same) = told_after_found (ahead 32 text) rest t e in (fits, found rest refl ∙ same)

pub line_found : (text : List ℕ) (l : Line) → line_in text ≡ Some l → Says text l
line_found text l e =
    let (p, parted, f) = then_some (sides text) (λ (p : List ℕ × List ℕ). line_from p.0 p.1) l e in
    let (a, asks, g) = then_some (asked_in p.0) (λ a. option_map (λ t. record { asked = a; told = t }) (told_in p.1)) l f in
    let (t, tells, same) = mapped (told_in p.1) (λ (t : Told). record { asked = a; told = t }) l g in
    let (fits, left) = asked_found p.0 a asks in
    let (fits', right) = told_found p.1 t tells in
    subst (Says text) same (
      (fits, fits'),
      sides_found text p.0 p.1 parted ∙ ap (λ xs. xs ++ (codes " = " ++ p.1)) left
          ∙ ap (λ ys. asked_words a ++ (codes " = " ++ ys)) right
          ∙ sym (append_assoc (asked_words a) (codes " = ") (told_words t)),
    )
