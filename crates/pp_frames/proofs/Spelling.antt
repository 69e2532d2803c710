-- The words of a set of numbers: what one write leaves of the set, and of the set of words above it.
use Rattle.std.proofs.Common.{◌≡◌, ◌≢◌, ℕ, ◌*◌, ◌/◌, ◌%◌, ◌^◌, ◌<◌, zero, suc, Bool, true, false, eqb, ltb, List}
use Rattle.std.proofs.Common.{length, map, get_or, set, replicate, refl, ap, sym, ◌∙◌, arith, inl, inr, Box, Global}
use Rattle.std.specs.List.{range_with_len}
use Rattle.std.proofs.lemmas.Bool.{cases_lt, cases_eq}
use Rattle.std.proofs.lemmas.List.{get_or_past, get_or-set_same, get_or-set_other, get_or_read, length-set}
use Rattle.std.proofs.lemmas.List.{length-replicate}
use Rattle.std.proofs.lemmas.List.FromFn.{length-map-range_with_len, get_or-map-range_with_len, fill_by_all}
use Rattle.std.proofs.lemmas.Nat.Bits.{bit_at-zero}
use Rattle.pp_frames.specs.declared.number_set.Above.{Above}
use Rattle.pp_frames.specs.declared.number_set.NumberSet.{NumberSet}
use Rattle.pp_frames.specs.declared.number_set.Above.TheVariants.{Nothing, Words}
use Rattle.pp_frames.specs.Numbers.{is_member}
use Rattle.pp_frames.specs.Words.{has_bit, is_set, members_of, IsSpelled, IsSummary, IsSummed}

-- ---- lists made from a function

-- a list made from a function, where that changes at one number
pub table_changed : {A : Type 0} (f g : ℕ → A) (n place : ℕ) (a d : A) → g place ≡ a → ((q : ℕ) → q ≢ place → g q ≡ f q)
    → map g (range_with_len 0 n) ≡ set (map f (range_with_len 0 n)) place a
table_changed {A = A} f g n place a d here others =
    let old : List A = map f (range_with_len 0 n) in
    let len : length old ≡ n = length-map-range_with_len f 0 n in
    sym (fill_by_all g (set old place a) n d (length-set old place a ∙ len) (λ k below. elim (cases_eq k place) [
      | inl same ↦
          rw same (get_or-set_same old place a d (omega (arith, len, same, below)) ∙ sym here)
      | inr away ↦
          get_or-set_other old place k a d away
          ∙ get_or-map-range_with_len f 0 n k k d below (omega arith)
          ∙ sym (others k away)
    ]))

-- ---- members

pub length_members : (limit : ℕ) (words : List ℕ) → length (members_of limit words) ≡ limit
length_members limit words = length-map-range_with_len (is_set words) 0 limit

pub member_is : (limit : ℕ) (words : List ℕ) (k : ℕ) → IsSpelled limit words
    → is_member (members_of limit words) k ≡ is_set words k
member_is limit words k spelled =
    elim (cases_lt k limit) [
      | inl lt ↦ get_or-map-range_with_len (is_set words) 0 limit k k false lt (omega arith)
      | inr le ↦
          get_or_past (members_of limit words) k false (omega (arith, length_members limit words))
          ∙ sym (spelled.past k le)
    ]

-- a member is below the limit
pub member_below : (limit : ℕ) (words : List ℕ) (k : ℕ) → IsSpelled limit words → is_set words k ≡ true → k < limit
member_below limit words k spelled passes =
    elim (cases_lt k limit) [
      | inl lt ↦ lt
      | inr le ↦ let clash : true ≡ false = sym passes ∙ spelled.past k le in absurd (grind (arith, clash))
    ]

-- a word of no bits
pub no_bits : (word bit : ℕ) → word ≡ 0 → has_bit word bit ≡ false
no_bits word bit none = ap (λ w. has_bit w bit) none ∙ ap (λ n. eqb n 1) (bit_at-zero bit)

-- a word with a bit
pub some_bits : (word bit : ℕ) → has_bit word bit ≡ true → 0 < word
some_bits zero bit passes = let clash : true ≡ false = sym passes ∙ no_bits 0 bit refl in absurd (grind (arith, clash))
some_bits (suc word) bit passes = omega arith

-- ---- a write

-- This word, written where the number's is, changes the number alone.
pub record Written (limit : ℕ) (words : List ℕ) (number word : ℕ) (b : Bool) : Type 0 where
  pub spelled : IsSpelled limit words
  pub below : number < limit
  pub here : has_bit word (number % 64) ≡ b
  pub others : (k : ℕ) → k < 64 → k ≢ number % 64 → has_bit word k ≡ has_bit (get_or words (number / 64) 0) k
  pub fits : word < 2 ^ 64

pub written : (limit : ℕ) (words : List ℕ) (set : List Bool) (number old word : ℕ) (b : Bool) → IsSpelled limit words
    → members_of limit words ≡ set → number < length set → old ≡ get_or words (number / 64) old
    → has_bit word (number % 64) ≡ b
    → ((k : ℕ) → k < 64 → k ≢ number % 64 → has_bit word k ≡ has_bit old k) → word < 2 ^ 64
    → Written limit words number word b
written limit words set number old word b spelled is lt read here others fits =
    let below : number < limit = omega (arith, length_members limit words, ap length is) in
    let in_it : number / 64 < length words = omega (arith, spelled.room) in
    let was : old ≡ get_or words (number / 64) 0 = get_or_read words (number / 64) old in_it read 0 in
    record {
      spelled = spelled;
      below = below;
      here = here;
      others = λ k low away. others k low away ∙ ap (λ w. has_bit w k) was;
      fits = fits;
    }

-- the same of a word that is read
pub read_word : (limit : ℕ) (words : List ℕ) (number old : ℕ) → IsSpelled limit words → number < limit
    → old ≡ get_or words (number / 64) old → old ≡ get_or words (number / 64) 0
read_word limit words number old spelled lt read =
    get_or_read words (number / 64) old (omega (arith, spelled.room)) read 0

module _ (limit : ℕ) (words : List ℕ) (number word : ℕ) (b : Bool) (w : Written limit words number word b) where
  pub place_in : number / 64 < length words
  place_in = omega (arith, w.spelled.room, w.below)

  set_here : is_set (set words (number / 64) word) number ≡ b
  set_here = ap (λ w. has_bit w (number % 64)) (get_or-set_same words (number / 64) word 0 place_in) ∙ w.here

  set_others : (q : ℕ) → q ≢ number → is_set (set words (number / 64) word) q ≡ is_set words q
  set_others q away =
      elim (cases_eq (q / 64) (number / 64)) [
        | inl same ↦
            let apart : q % 64 ≢ number % 64 = λ e. away (omega arith) in
            ap (λ p. has_bit (get_or (set words (number / 64) word) p 0) (q % 64)) same
            ∙ ap (λ w. has_bit w (q % 64)) (get_or-set_same words (number / 64) word 0 place_in)
            ∙ w.others (q % 64) (omega arith) apart
            ∙ ap (λ p. has_bit (get_or words p 0) (q % 64)) (sym same)
        | inr other ↦
            ap (λ w. has_bit w (q % 64)) (get_or-set_other words (number / 64) (q / 64) word 0 other)
      ]

  word_fits : (place : ℕ) → get_or (set words (number / 64) word) place 0 < 2 ^ 64
  word_fits place =
      elim (cases_eq place (number / 64)) [
        | inl same ↦ rw (same, get_or-set_same words (number / 64) word 0 place_in) w.fits
        | inr other ↦ rw (get_or-set_other words (number / 64) place word 0 other) (w.spelled.words_fit place)
      ]

  pub spelled_write : IsSpelled limit (set words (number / 64) word)
  spelled_write =
      record {
        limit_fits = w.spelled.limit_fits;
        words_fit = word_fits;
        room = omega (arith, w.spelled.room, length-set words (number / 64) word);
        past = λ k le. set_others k (λ e. absurd (omega (arith, w.below))) ∙ w.spelled.past k le;
      }

  pub members_write : members_of limit (set words (number / 64) word) ≡ set (members_of limit words) number b
  members_write =
      table_changed (is_set words) (is_set (set words (number / 64) word)) limit number b false set_here set_others

-- ---- the set of the words

module _ (limit : ℕ) (words : List ℕ) (place word : ℕ) (within : place < length words) where
  -- a set that says of this word what it is now, and of the others what it said
  pub summary_write : (above over : List Bool) → IsSummary limit words above → length over ≡ length above
      → get_or over place false ≡ ltb 0 word → ((q : ℕ) → q ≢ place → get_or over q false ≡ get_or above q false)
      → IsSummary limit (set words place word) over
  summary_write above over summed len here others =
      record {
        fewer = omega (arith, summed.fewer, length-set words place word);
        each = len ∙ summed.each ∙ sym (length-set words place word);
        says = λ q. elim (cases_eq q place) [
          | inl same ↦
              rw same (here ∙ ap (ltb 0) (sym (get_or-set_same words place word 0 within)))
          | inr away ↦
              others q away ∙ summed.says q ∙ ap (ltb 0) (sym (get_or-set_other words place q word 0 away))
        ];
      }

  -- the word has bits after the write as before it, or none after as before
  pub summed_kept : (above : Above) → IsSummed limit words above → ltb 0 (get_or words place 0) ≡ ltb 0 word
      → IsSummed limit (set words place word) above
  summed_kept Nothing summed same = omega (arith, summed, length-set words place word)
  summed_kept (Words above) summed same =
      summary_write above.value above.value summed refl (summed.says place ∙ same) (λ q away. refl)

  -- there is no level above
  pub summed_alone : (above : Above) → ((words : Box NumberSet Global) → above ≡ Words words → ⊥)
      → IsSummed limit words above
      → IsSummed limit (set words place word) above
  summed_alone Nothing none summed = omega (arith, summed, length-set words place word)
  summed_alone (Words above) none summed = absurd (none above refl)

  pub summary_set : (above : List Bool) (b : Bool) → IsSummary limit words above → ltb 0 word ≡ b
      → IsSummary limit (set words place word) (set above place b)
  summary_set above b summed is =
      summary_write above (set above place b) summed (length-set above place b)
      (get_or-set_same above place b false (omega (arith, within, summed.each)) ∙ sym is)
      (λ q away. get_or-set_other above place q b false away)

-- ---- the empty set

pub at_replicate : {A : Type 0} (n k : ℕ) (a : A) → get_or (replicate n a) k a ≡ a
at_replicate zero k a = refl
at_replicate (suc n) zero a = refl
at_replicate (suc n) (suc k) a = at_replicate n k a

-- a word of which a number is below the limit
pub word_at : (limit : ℕ) (words : List ℕ) (set : List Bool) (place : ℕ) → IsSpelled limit words
    → members_of limit words ≡ set
    → 64 * place < length set → place < length words
word_at limit words set place spelled is lt = omega (arith, spelled.room, length_members limit words, ap length is)

pub below_limit : (limit : ℕ) (words : List ℕ) (set : List Bool) (number : ℕ) → members_of limit words ≡ set
    → number < length set → number < limit
below_limit limit words set number is lt = omega (arith, length_members limit words, ap length is)

pub members_none : (limit count : ℕ) → members_of limit (replicate count 0) ≡ replicate limit false
members_none limit count =
    sym (fill_by_all (is_set (replicate count 0)) (replicate limit false) limit false (length-replicate limit false)
    (λ k lt. at_replicate limit k false
    ∙ sym (no_bits (get_or (replicate count 0) (k / 64) 0) (k % 64) (at_replicate {A = ℕ} count (k / 64) 0))))
