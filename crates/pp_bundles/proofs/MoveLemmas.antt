-- A record goes from the top of one stack to that of another.
use Rattle.std.proofs.Common.{◌≡◌, ◌≢◌, ◌<◌, ◌≤◌, ◌+◌, ◌-◌, ◌^◌, ℕ, suc, List, [], ◌∷◌, length, set, get_or}
use Rattle.std.proofs.Common.{sym, ap, subst, ◌∙◌, arith, inl, inr, get_or-set_same, get_or-set_other, length-set}
use Rattle.std.specs.Prelude.{drop, sum_by}
use Rattle.std.proofs.lemmas.Bool.{cases_eq}
use Rattle.std.proofs.lemmas.List.{ext_get_or}
use Rattle.std.proofs.lemmas.List.Sums.{sum_by-set}
use Rattle.pp_bundles.specs.declared.record.Record.{Record}
use Rattle.pp_bundles.specs.declared.record.Top.{Top}
use Rattle.pp_bundles.specs.Stacks.{stack_at, moved}
use Rattle.pp_bundles.specs.Chains.{Parts, IsKept, IsChain, stacks_in, pages_under, record_at, top_at, walk, blank, empty}
use Rattle.pp_bundles.proofs.ChainLemmas.{but, but_here, read, IsChain-written}
use Rattle.pp_bundles.proofs.LookLemmas.{stack_is, count_is, many, first_of, pages_of}

-- how many records two stacks have together
pub two_counts : (ts : List Top) (i k : ℕ) → i ≢ k → i < length ts → k < length ts
    → (top_at ts i).count + (top_at ts k).count ≤ sum_by (λ t. t.count) ts
two_counts ts i k d li lk =
    let a = sum_by-set (λ (t : Top). t.count) ts i empty empty li in
    let b = sum_by-set (λ (t : Top). t.count) (set ts i empty) k empty empty (omega (arith, length-set ts i empty, lk)) in
    let c : (top_at (set ts i empty) k).count ≡ (top_at ts k).count =
    ap (λ (t : Top). t.count) (get_or-set_other ts i k empty empty (λ e. d (sym e))) in
    omega (arith, a, b, c)

-- the records and the tops after it, by what the code has read
abbrev pub records_by : List Record → (source target : Top) (page : ℕ) → List Record
records_by rs s t page = set rs s.head (record { page = page; next = t.head })

abbrev pub tops_by : List Top → (from to : ℕ) (source target : Top) → Record → List Top
tops_by ts from to s t r =
    set (set ts from (record { head = r.next; count = s.count - 1 })) to (record { head = s.head; count = t.count + 1 })

abbrev pub parts_by : Parts → (from to page : ℕ) (source target : Top) → Record → Parts
parts_by p from to page s t r = record {
  records = records_by p.records s t page;
  tops = tops_by p.tops from to s t r;
}

module _ (p : Parts) (h : IsKept p) (from to page : ℕ) (apart : from ≢ to) (lf : from < length p.tops)
    (lt : to < length p.tops) (some : 0 < (top_at p.tops from).count) where
  abbrev rs : List Record
  rs = p.records

  abbrev ts : List Top
  ts = p.tops

  abbrev source : Top
  source = top_at ts from

  abbrev target : Top
  target = top_at ts to

  abbrev i : ℕ
  i = source.head

  abbrev p2 : Parts
  p2 = parts_by p from to page source target (record_at rs i)

  abbrev stack2 : ℕ → ℕ
  stack2 = but i to h.stack

  abbrev below2 : ℕ → ℕ
  below2 = but i target.count h.below

  abbrev left : Top
  left = record { head = (record_at rs i).next; count = source.count - 1 }

  abbrev raised : Top
  raised = record { head = i; count = target.count + 1 }

  first : (i < length rs) × (h.stack i ≡ from) × (h.below i ≡ source.count - 1)
      × IsChain rs h.stack h.below from (record_at rs i).next (source.count - 1)
  first = first_of rs h.stack h.below from source some (h.chains from lf)

  -- ---- the chains

  abbrev Same : (k head n : ℕ) → Type 0
  Same k head n = IsChain p2.records stack2 below2 k head n × (walk p2.records head n ≡ walk rs head n)

  lower : Same from (record_at rs i).next (source.count - 1)
  lower = IsChain-written rs h.stack h.below i _ to target.count from (record_at rs i).next (source.count - 1)
      (inr (omega (arith, first.2))) first.3

  others : (k : ℕ) → k < length ts → k ≢ from → Same k (top_at ts k).head (top_at ts k).count
  others k l d = IsChain-written rs h.stack h.below i _ to target.count k (top_at ts k).head (top_at ts k).count
      (inl (λ e. d (e ∙ first.1))) (h.chains k l)

  here : record_at p2.records i ≡ record { page = page; next = target.head }
  here = get_or-set_same rs i _ blank first.0

  one_more : suc target.count ≡ target.count + 1
  one_more = omega arith

  higher : IsChain p2.records stack2 below2 to i (target.count + 1)
      × (walk p2.records i (target.count + 1) ≡ page ∷ pages_under rs target)
  higher =
      let all = others to lt (λ e. apart (sym e)) in (
        subst (λ n. IsChain p2.records stack2 below2 to i n) one_more (
          omega (arith, first.0, length-set rs i (record { page = page; next = target.head })),
          but_here i to h.stack,
          but_here i target.count h.below,
          subst (λ q. IsChain p2.records stack2 below2 to q.next target.count) (sym here) all.0,
        ),
        subst (λ n. walk p2.records i n ≡ page ∷ pages_under rs target) one_more
            ((λ j. (here j).page ∷ walk p2.records (here j).next target.count) ∙ ap (λ l. page ∷ l) all.1),
      )

  -- ---- the tops

  long1 : length (set ts from left) ≡ length ts
  long1 = length-set ts from left

  top_to : top_at p2.tops to ≡ raised
  top_to = get_or-set_same (set ts from left) to raised empty (omega (arith, lt, long1))

  top_from : top_at p2.tops from ≡ left
  top_from = get_or-set_other (set ts from left) to from raised empty apart ∙ get_or-set_same ts from left empty lf

  top_other : (k : ℕ) → k ≢ from → k ≢ to → top_at p2.tops k ≡ top_at ts k
  top_other k d e = get_or-set_other (set ts from left) to k raised empty e ∙ get_or-set_other ts from k left empty d

  long : length p2.tops ≡ length ts
  long = length-set (set ts from left) to raised ∙ long1

  by_three : (P : ℕ → Type 0) (k : ℕ) → P to → P from → (k ≢ from → k ≢ to → P k) → P k
  by_three P k a b other = elim (cases_eq k to) [
    | inl e ↦ subst P (sym e) a
    | inr d ↦ elim (cases_eq k from) [ inl e ↦ subst P (sym e) b | inr c ↦ other c d ]
  ]

  abbrev Stands : ℕ → Type 0
  Stands k = IsChain p2.records stack2 below2 k (top_at p2.tops k).head (top_at p2.tops k).count

  abbrev Under : (k : ℕ) → Top → Type 0
  Under k t = IsChain p2.records stack2 below2 k t.head t.count

  stands : (k : ℕ) → k < length ts → Stands k
  stands k l = by_three (λ x. x < length ts → Stands x) k
      (λ m. subst (Under to) (sym top_to) higher.0)
      (λ m. subst (Under from) (sym top_from) lower.0)
      (λ d e m. subst (Under k) (sym (top_other k d e)) (others k m d).0) l

  -- ---- how many records there are

  counts : sum_by (λ t. t.count) p2.tops ≡ sum_by (λ t. t.count) ts
  counts =
      let a = sum_by-set (λ (t : Top). t.count) ts from left empty lf in
      let b = sum_by-set (λ (t : Top). t.count) (set ts from left) to raised empty (omega (arith, lt, long1)) in
      let c : (top_at (set ts from left) to).count ≡ target.count =
      ap (λ (t : Top). t.count) (get_or-set_other ts from to left empty (λ e. apart (sym e))) in
      omega (arith, a, b, c, some)

  same_records : length p2.records ≡ length rs
  same_records = length-set rs i (record { page = page; next = target.head })

  pub kept : IsKept p2
  kept = record {
    stack = stack2;
    below = below2;
    chains = λ k l. stands k (omega (arith, l, long));
    full = counts ∙ h.full ∙ sym same_records;
    fits = subst (λ n. n < 2 ^ 32) (sym same_records) h.fits;
  }

  -- ---- the stacks

  abbrev all : List (List ℕ)
  all = stacks_in p

  abbrev lost : List ℕ
  lost = drop 1 (stack_at all from)

  abbrev won : List ℕ
  won = page ∷ stack_at all to

  long2 : length (set all from lost) ≡ length ts
  long2 = length-set all from lost ∙ many p

  abbrev Goes : ℕ → Type 0
  Goes k = stack_at (stacks_in p2) k ≡ stack_at (moved all from to page) k

  goes_to : Goes to
  goes_to =
      stack_is p2 to ∙ ap (pages_under p2.records) top_to ∙ higher.1 ∙ ap (λ l. page ∷ l) (sym (stack_is p to))
      ∙ sym (get_or-set_same (set all from lost) to won [] (omega (arith, lt, long2)))

  goes_from : Goes from
  goes_from =
      stack_is p2 from ∙ ap (pages_under p2.records) top_from ∙ lower.1
      ∙ sym (ap (drop 1) (stack_is p from ∙ pages_of rs source some))
      ∙ sym (get_or-set_other (set all from lost) to from won [] apart
      ∙ get_or-set_same all from lost [] (omega (arith, lf, many p)))

  goes_other : (k : ℕ) → k < length ts → k ≢ from → k ≢ to → Goes k
  goes_other k l d e =
      stack_is p2 k ∙ ap (pages_under p2.records) (top_other k d e) ∙ (others k l d).1 ∙ sym (stack_is p k)
      ∙ sym (get_or-set_other (set all from lost) to k won [] e ∙ get_or-set_other all from k lost [] d)

  goes : (k : ℕ) → k < length ts → Goes k
  goes k l = by_three (λ x. x < length ts → Goes x) k (λ m. goes_to) (λ m. goes_from)
      (λ d e m. goes_other k m d e) l

  pub is_moved : stacks_in p2 ≡ moved all from to page
  is_moved =
      let long3 : length (stacks_in p2) ≡ length ts = many p2 ∙ long in
      ext_get_or [] (stacks_in p2) (moved all from to page)
      (long3 ∙ sym (length-set (set all from lost) to won ∙ long2))
      (λ k l. goes k (omega (arith, l, long3)))

-- ---- the same by what the code has read: the two tops s and t, and the record r

module _ (p : Parts) (h : IsKept p) (ss : List (List ℕ)) (view : stacks_in p ≡ ss) (from to page : ℕ)
    (apart : from ≢ to) (from_in : from < length ss) (to_in : to < length ss) (filled : 0 < length (stack_at ss from))
    (s t : Top) (es : s ≡ get_or p.tops from s) (et : t ≡ get_or p.tops to t) where
  tops_are : length ss ≡ length p.tops
  tops_are = ap length (sym view) ∙ many p

  lf : from < length p.tops
  lf = omega (arith, from_in, tops_are)

  lt : to < length p.tops
  lt = omega (arith, to_in, tops_are)

  source_is : s ≡ top_at p.tops from
  source_is = read p.tops from s empty lf es

  target_is : t ≡ top_at p.tops to
  target_is = read p.tops to t empty lt et

  some : 0 < (top_at p.tops from).count
  some =
      let e : length (stack_at ss from) ≡ (top_at p.tops from).count =
      ap (λ x. length (stack_at x from)) (sym view) ∙ count_is p from in
      omega (arith, e, filled)

  pub head_in : s.head < length p.records
  head_in =
      subst (λ (x : Top). x.head < length p.records) (sym source_is)
      (first_of p.records h.stack h.below from (top_at p.tops from) some (h.chains from lf)).0

  pub one_more_fits : t.count + 1 < 2 ^ 32
  one_more_fits =
      let e : t.count ≡ (top_at p.tops to).count = ap (λ (x : Top). x.count) target_is in
      let two = two_counts p.tops from to apart lf lt in
      omega (arith, e, two, some, h.full, h.fits)

  record_is : (r : Record) → r ≡ get_or p.records s.head r → r ≡ record_at p.records (top_at p.tops from).head
  record_is r er =
      read p.records s.head r blank head_in er ∙ ap (λ (x : Top). record_at p.records x.head) source_is

  pub kept_by : (r : Record) → r ≡ get_or p.records s.head r → IsKept (parts_by p from to page s t r)
  kept_by r er =
      subst (λ (x : Top). IsKept (parts_by p from to page x t r)) (sym source_is)
      (subst (λ (y : Top). IsKept (parts_by p from to page (top_at p.tops from) y r)) (sym target_is)
      (subst (λ (z : Record). IsKept (parts_by p from to page (top_at p.tops from) (top_at p.tops to) z))
      (sym (record_is r er)) (kept p h from to page apart lf lt some)))

  pub moved_by : (r : Record) → r ≡ get_or p.records s.head r
      → stacks_in (parts_by p from to page s t r) ≡ moved ss from to page
  moved_by r er =
      (λ j. stacks_in (parts_by p from to page (source_is j) (target_is j) (record_is r er j)))
      ∙ is_moved p h from to page apart lf lt some ∙ ap (λ x. moved x from to page) view
