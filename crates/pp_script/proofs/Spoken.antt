-- What is read of a line is what it says, and what it says is read.
use Rattle.std.proofs.Common.{◌≡◌, ◌≢◌, ℕ, zero, suc, ◌==◌, ◌<◌, ◌^◌, Bool, true, false, not, ◌&&◌, nat_lt}
use Rattle.std.proofs.Common.{List, [], ◌∷◌, length, get_or, Option, Some, None, codes, refl, sym, ap, subst, ◌∙◌}
use Rattle.std.proofs.Common.{arith, if◌then◌else◌}
use Rattle.std.specs.Prelude.{option_and_then}
use Rattle.std.specs.List.{list_all, AllByRecursion}
use Rattle.std.specs.Fmt.{decimal}
use Rattle.std.specs.Str.{bytes_eq}
use Rattle.std.proofs.lemmas.Bool.{ltb-true, lt-ltb}
use Rattle.std.proofs.lemmas.Bool.Decides.{nat_tests}
use Rattle.std.proofs.lemmas.List.Splits.{join_with_byte-slice_split}
use Rattle.std.proofs.lemmas.Slice.Eq.{bytes_eq-Decides}
use Rattle.pp_device.specs.declared.failing.Trouble.TheVariants.{Fail, Lie}
use Rattle.pp_script.specs.declared.cue.Cue.TheVariants.{Take, Fix, Device, Unfix, Latch, Unlatch, Choose, Unwind}
use Rattle.pp_script.specs.declared.cue.Cue.TheVariants.{Finish, Flush, FlushDevice, Write, Look}
use Rattle.pp_script.specs.declared.line.Line.{Line}
use Rattle.pp_script.specs.declared.line.Line.TheVariants.{Blank, Cued, Planted}
use Rattle.pp_script.specs.Cues.{with_spaces}
use Rattle.pp_script.specs.Lines.{words, said_words, FitsLine, Says}
use Rattle.pp_text.specs.Numbers.{number_in, small_number}
use Rattle.pp_script.specs.Reading.{alone, with_one, with_two, with_three, after_two}
use Rattle.pp_script.specs.Reading.{after_one}
use Rattle.pp_script.specs.Reading.{line_in}
use Rattle.pp_text.proofs.Cutting.{parts_one, parts_more}
use Rattle.pp_text.proofs.Printed.{number_again, number_found, small_again, small_found, then_some, digits}

-- ---- words have no space

abbrev HasNoSpace : List ℕ → Type 0
HasNoSpace word = (i : ℕ) → i < length word → get_or word i 0 ≢ 32

plain_head : (b : ℕ) (rest : Bool) → (not (b == 32) && rest) ≡ true → (b ≢ 32) × (rest ≡ true)
plain_head b rest e = grind (arith, nat_tests)

abbrev has_no_space : List ℕ → Bool
has_no_space word = list_all (λ b. not (b == 32)) word

plain : (word : List ℕ) → has_no_space word ≡ true → (i : ℕ) → i < length word → get_or word i 0 ≢ 32
plain [] e i h = absurd (omega arith)
plain (b ∷ bs) e zero h = (plain_head b _ e).0
plain (b ∷ bs) e (suc i) h = plain bs (plain_head b _ e).1 i (omega arith)

-- words with spaces between them are cut into these words
spaced : (word : List ℕ) (more : List (List ℕ)) → AllByRecursion HasNoSpace (word ∷ more)
    → words (with_spaces (word ∷ more)) ≡ word ∷ more
spaced word [] (h, hs) = parts_one 32 word h
spaced word (next ∷ more) (h, hs) =
    parts_more 32 (with_spaces (word ∷ next ∷ more)) word (with_spaces (next ∷ more)) refl h
    ∙ ap (λ ws. word ∷ ws) (spaced next more hs)

-- ---- what a line says is read

one_again : (word : List ℕ) (n : ℕ) (line : Line) (text : List ℕ) → has_no_space word ≡ true → n < 2 ^ 32
    → with_one word n ≡ Some line → text ≡ with_spaces (word ∷ decimal n ∷ []) → line_in (words text) ≡ Some line
one_again word n line text bare low is e =
    ap line_in (ap words e ∙ spaced word (decimal n ∷ []) (plain word bare, (digits n (omega arith), tt)))
    ∙ ap (option_and_then (with_one word)) (small_again n low) ∙ is

two_again : (word : List ℕ) (m n : ℕ) (line : Line) (text : List ℕ) → has_no_space word ≡ true → m < 2 ^ 32 → n < 2 ^ 32
    → with_two word m n ≡ Some line → text ≡ with_spaces (word ∷ decimal m ∷ decimal n ∷ [])
    → line_in (words text) ≡ Some line
two_again word m n line text bare low low' is e =
    ap line_in (ap words e ∙ spaced word (decimal m ∷ decimal n ∷ [])
    (plain word bare, (digits m (omega arith), (digits n (omega arith), tt))))
    ∙ ap (option_and_then (λ l. after_one word l (decimal n ∷ []))) (small_again m low)
    ∙ ap (option_and_then (with_two word m)) (small_again n low') ∙ is

three_again : (word : List ℕ) (l m n : ℕ) (line : Line) (text : List ℕ) → has_no_space word ≡ true → l < 2 ^ 32
    → m < 2 ^ 32 → n < 2 ^ 64 → with_three word l m n ≡ Some line
    → text ≡ with_spaces (word ∷ decimal l ∷ decimal m ∷ decimal n ∷ []) → line_in (words text) ≡ Some line
three_again word l m n line text bare low low' low'' is e =
    ap line_in (ap words e ∙ spaced word (decimal l ∷ decimal m ∷ decimal n ∷ [])
    (plain word bare, (digits l (omega arith), (digits m (omega arith), (digits n low'', tt)))))
    ∙ ap (option_and_then (λ k. after_one word k (decimal m ∷ decimal n ∷ []))) (small_again l low)
    ∙ ap (option_and_then (λ k. after_two word l k (decimal n ∷ []))) (small_again m low')
    ∙ ap (option_and_then (with_three word l m)) (number_again n low'') ∙ is

none_again : (word : List ℕ) (line : Line) (text : List ℕ) → has_no_space word ≡ true
    → alone word ≡ Some line → text ≡ word → line_in (words text) ≡ Some line
none_again word line text bare is e = ap line_in (ap words e ∙ spaced word [] (plain word bare, tt)) ∙ is

chosen : {A : Type 0} (b : Bool) (x : A) → b ≡ true → (if b then Some x else None) ≡ Some x
chosen b x e = ap (λ c. if c then Some x else None) e

pub line_again : (text : List ℕ) (line : Line) → Says text line → line_in (words text) ≡ Some line
line_again text Blank (h, e) = none_again [] Blank text refl refl e
line_again text (Cued (Take w)) (h, e) = one_again (codes "take") w _ text refl h refl e
line_again text (Cued (Fix w p)) (h, e) = two_again (codes "fix") w p _ text refl h.0 h.1 refl e
line_again text (Cued (Device w)) (h, e) = one_again (codes "device") w _ text refl h refl e
line_again text (Cued (Unfix w)) (h, e) = one_again (codes "unfix") w _ text refl h refl e
line_again text (Cued (Latch w)) (h, e) = one_again (codes "latch") w _ text refl h refl e
line_again text (Cued (Unlatch w)) (h, e) = one_again (codes "unlatch") w _ text refl h refl e
line_again text (Cued (Choose w i)) (h, e) = two_again (codes "choose") w i _ text refl h.0 h.1 refl e
line_again text (Cued (Unwind w s)) (h, e) = two_again (codes "unwind") w s _ text refl h.0 h.1 refl e
line_again text (Cued (Finish w)) (h, e) = one_again (codes "finish") w _ text refl h refl e
line_again text (Cued (Flush p)) (h, e) = one_again (codes "flush") p _ text refl h refl e
line_again text (Cued FlushDevice) (h, e) = none_again (codes "flushdevice") _ text refl refl e
line_again text (Cued (Write w s b)) (h, e) =
    three_again (codes "write") w s b _ text refl h.0 h.1 (omega arith)
    (chosen (nat_lt b (2 ^ 8)) (Cued (Write w s b)) (lt-ltb b (2 ^ 8) h.2)) e
line_again text (Cued (Look w s)) (h, e) = two_again (codes "look") w s _ text refl h.0 h.1 refl e
line_again text (Planted n Fail) (h, e) =
    one_again (codes "fail") n _ text refl h.1
    (chosen (nat_lt 0 n) (Planted n Fail) (lt-ltb 0 n (omega arith))) e
line_again text (Planted n (Lie p s)) (h, e) =
    three_again (codes "lie") n p s _ text refl h.1 h.2 h.3
    (chosen (nat_lt 0 n) (Planted n (Lie p s)) (lt-ltb 0 n (omega arith))) e

-- ---- what is read of a line is what it says

-- an arm of a choice by words: it is taken, or one of those after it
arm : (P : Line → Type 0) (word key : List ℕ) (x : Line) (rest : Option Line) (line : Line)
    → (if bytes_eq word key then Some x else rest) ≡ Some line → (word ≡ key → P x) → (rest ≡ Some line → P line)
    → P line
arm P word key x rest line e here there = by (bytes_eq word key) (bytes_eq-Decides word key).0 e
  where
    by : (b : Bool) → (b ≡ true → word ≡ key) → (if b then Some x else rest) ≡ Some line → P line
    by true is e = let same : x ≡ line = cc in subst P same (here (is refl))
    by false is e = there e

-- the last arm, which has a further test
last_arm : (P : Line → Type 0) (word key : List ℕ) (b : Bool) (x line : Line)
    → (if bytes_eq word key && b then Some x else None) ≡ Some line → (word ≡ key → b ≡ true → P x) → P line
last_arm P word key b x line e here = by (bytes_eq word key) b (bytes_eq-Decides word key).0 here e
  where
    by : (a b : Bool) → (a ≡ true → word ≡ key) → (word ≡ key → b ≡ true → P x)
        → (if a && b then Some x else None) ≡ Some line → P line
    by true true is here e = let same : x ≡ line = cc in subst P same (here (is refl) refl)
    by true false is here e = absurd cc
    by false b is here e = absurd cc

never : (P : Line → Type 0) (line : Line) → ◌≡◌ {A = Option Line} None (Some line) → P line
never P line e = absurd cc

-- what the word and the numbers after it say
abbrev Spoken : List (List ℕ) → Line → Type 0
Spoken ws line = FitsLine line × (ws ≡ said_words line)

with_one_found : (w : List ℕ) (n : ℕ) (line : Line) → n < 2 ^ 32 → with_one w n ≡ Some line
    → Spoken (w ∷ decimal n ∷ []) line
with_one_found w n line low e =
    let P : Line → Type 0 = Spoken (w ∷ decimal n ∷ []) in
    let put : (key : List ℕ) → w ≡ key → (w ∷ decimal n ∷ []) ≡ (key ∷ decimal n ∷ []) =
    λ key s. ap (λ v. v ∷ decimal n ∷ []) s in
    arm P w (codes "take") (Cued (Take n)) _ line e (λ s. (low, put _ s)) (λ e.
    arm P w (codes "device") (Cued (Device n)) _ line e (λ s. (low, put _ s)) (λ e.
    arm P w (codes "unfix") (Cued (Unfix n)) _ line e (λ s. (low, put _ s)) (λ e.
    arm P w (codes "latch") (Cued (Latch n)) _ line e (λ s. (low, put _ s)) (λ e.
    arm P w (codes "unlatch") (Cued (Unlatch n)) _ line e (λ s. (low, put _ s)) (λ e.
    arm P w (codes "finish") (Cued (Finish n)) _ line e (λ s. (low, put _ s)) (λ e.
    arm P w (codes "flush") (Cued (Flush n)) _ line e (λ s. (low, put _ s)) (λ e.
    last_arm P w (codes "fail") (nat_lt 0 n) (Planted n Fail) line e (λ s t.
    let some : 0 < n = ltb-true 0 n t in ((omega arith, low), put _ s)))))))))

with_two_found : (w : List ℕ) (m n : ℕ) (line : Line) → m < 2 ^ 32 → n < 2 ^ 32 → with_two w m n ≡ Some line
    → Spoken (w ∷ decimal m ∷ decimal n ∷ []) line
with_two_found w m n line low low' e =
    let P : Line → Type 0 = Spoken (w ∷ decimal m ∷ decimal n ∷ []) in
    let put : (key : List ℕ) → w ≡ key → (w ∷ decimal m ∷ decimal n ∷ []) ≡ (key ∷ decimal m ∷ decimal n ∷ []) =
    λ key s. ap (λ v. v ∷ decimal m ∷ decimal n ∷ []) s in
    arm P w (codes "fix") (Cued (Fix m n)) _ line e (λ s. ((low, low'), put _ s)) (λ e.
    arm P w (codes "choose") (Cued (Choose m n)) _ line e (λ s. ((low, low'), put _ s)) (λ e.
    arm P w (codes "unwind") (Cued (Unwind m n)) _ line e (λ s. ((low, low'), put _ s)) (λ e.
    arm P w (codes "look") (Cued (Look m n)) _ line e (λ s. ((low, low'), put _ s)) (never P line))))

-- the arm of a write: its byte is tested within
write_arm : (P : Line → Type 0) (word key : List ℕ) (b : Bool) (x : Line) (rest : Option Line) (line : Line)
    → (if bytes_eq word key then (if b then Some x else None) else rest) ≡ Some line
    → (word ≡ key → b ≡ true → P x) → (rest ≡ Some line → P line) → P line
write_arm P word key b x rest line e here there =
    by (bytes_eq word key) b (bytes_eq-Decides word key).0 here e
  where
    by : (a b : Bool) → (a ≡ true → word ≡ key) → (word ≡ key → b ≡ true → P x)
        → (if a then (if b then Some x else None) else rest) ≡ Some line → P line
    by true true is here e = let same : x ≡ line = cc in subst P same (here (is refl) refl)
    by true false is here e = absurd cc
    by false b is here e = there e

with_three_found : (w : List ℕ) (l m n : ℕ) (line : Line) → l < 2 ^ 32 → m < 2 ^ 32 → n < 2 ^ 64
    → with_three w l m n ≡ Some line → Spoken (w ∷ decimal l ∷ decimal m ∷ decimal n ∷ []) line
with_three_found w l m n line low low' low'' e =
    let P : Line → Type 0 = Spoken (w ∷ decimal l ∷ decimal m ∷ decimal n ∷ []) in
    let put : (key : List ℕ) → w ≡ key
    → (w ∷ decimal l ∷ decimal m ∷ decimal n ∷ []) ≡ (key ∷ decimal l ∷ decimal m ∷ decimal n ∷ []) =
    λ key s. ap (λ v. v ∷ decimal l ∷ decimal m ∷ decimal n ∷ []) s in
    write_arm P w (codes "write") (nat_lt n (2 ^ 8)) (Cued (Write l m n)) _ line e
    (λ s t. ((low, low', ltb-true n (2 ^ 8) t), put _ s)) (λ e.
    last_arm P w (codes "lie") (nat_lt 0 l) (Planted l (Lie m n)) line e (λ s t.
    let some : 0 < l = ltb-true 0 l t in ((omega arith, low, low', low''), put _ s)))

-- the words, with spaces between them, are what the line says
abbrev SpokenText : List (List ℕ) → Line → Type 0
SpokenText ws line = FitsLine line × (with_spaces ws ≡ with_spaces (said_words line))

alone_found : (w : List ℕ) (line : Line) → alone w ≡ Some line → SpokenText (w ∷ []) line
alone_found w line e =
    arm (SpokenText (w ∷ [])) w [] Blank _ line e (λ s. (tt, s)) (λ e.
    arm (SpokenText (w ∷ [])) w (codes "flushdevice") (Cued FlushDevice) _ line e (λ s. (tt, s))
    (never (SpokenText (w ∷ [])) line))

read_found : (ws : List (List ℕ)) (line : Line) → line_in ws ≡ Some line → SpokenText ws line
read_found [] line e = absurd cc
read_found (w ∷ []) line e = alone_found w line e
read_found (w ∷ a ∷ []) line e =
    let (n, f, g) = then_some (small_number a) (with_one w) line e in
    let (is, low) = small_found a n f in
    let (fits, same) = with_one_found w n line low g in
    (fits, ap (λ v. with_spaces (w ∷ v ∷ [])) is ∙ ap with_spaces same)
read_found (w ∷ a ∷ b ∷ []) line e =
    let (m, f, g) = then_some (small_number a) (λ k. after_one w k (b ∷ [])) line e in
    let (is, low) = small_found a m f in
    let (n, f', g') = then_some (small_number b) (with_two w m) line g in
    let (is', low') = small_found b n f' in
    let (fits, same) = with_two_found w m n line low low' g' in (
      fits,
      ap (λ v. with_spaces (w ∷ v ∷ b ∷ [])) is ∙ ap (λ v. with_spaces (w ∷ decimal m ∷ v ∷ [])) is'
          ∙ ap with_spaces same,
    )
read_found (w ∷ a ∷ b ∷ d ∷ []) line e =
    let (l, f, g) = then_some (small_number a) (λ k. after_one w k (b ∷ d ∷ [])) line e in
    let (is, low) = small_found a l f in
    let (m, f', g') = then_some (small_number b) (λ k. after_two w l k (d ∷ [])) line g in
    let (is', low') = small_found b m f' in
    let (n, f'', g'') = then_some (number_in d) (with_three w l m) line g' in
    let (is'', low'') = number_found d n f'' in
    let (fits, same) = with_three_found w l m n line low low' low'' g'' in (
      fits,
      ap (λ v. with_spaces (w ∷ v ∷ b ∷ d ∷ [])) is ∙ ap (λ v. with_spaces (w ∷ decimal l ∷ v ∷ d ∷ [])) is'
          ∙ ap (λ v. with_spaces (w ∷ decimal l ∷ decimal m ∷ v ∷ [])) is'' ∙ ap with_spaces same,
    )
read_found (w ∷ a ∷ b ∷ d ∷ x ∷ rest) line e =
    let (l, f, g) = then_some (small_number a) (λ k. after_one w k (b ∷ d ∷ x ∷ rest)) line e in
    let (m, f', g') = then_some (small_number b) (λ k. after_two w l k (d ∷ x ∷ rest)) line g in
    never (SpokenText (w ∷ a ∷ b ∷ d ∷ x ∷ rest)) line g'

pub line_found : (text : List ℕ) (line : Line) → line_in (words text) ≡ Some line → Says text line
line_found text line e =
    let (fits, same) = read_found (words text) line e in
    (fits, sym (join_with_byte-slice_split 32 text) ∙ same)
