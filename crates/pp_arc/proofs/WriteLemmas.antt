-- Lemmas on writes to the records: what each field of each record is afterwards.
use Rattle.std.proofs.Common.{◌≡◌, ◌≢◌, ℕ, ◌+◌, ◌<◌, zero, suc, List, [], ◌∷◌, length, get_or, set, length-set}
use Rattle.std.proofs.Common.{get_or-set_same, get_or-set_other, refl, arith, ap, sym, ◌∙◌, inl, inr}
use Rattle.std.specs.Prelude.{Option, Some, None}
use Rattle.std.proofs.lemmas.Bool.Decides.{eqb_tells}
use Rattle.pp_arc.specs.declared.list.List.{List as ListName}
use Rattle.pp_arc.specs.declared.links.Record.{Record}
use Rattle.pp_arc.specs.Links.{code}
use Rattle.pp_arc.specs.Table.{head_at, table_of, blank}
use Rattle.pp_arc.proofs.TableLemmas.{PutsFirst, TakesOut}

-- one field of one record is written
abbrev pub with_after : List Record → ℕ → ℕ → List Record
with_after rs i v = set rs i (record (get_or rs i blank) { after = v })

abbrev pub with_before : List Record → ℕ → ℕ → List Record
with_before rs i v = set rs i (record (get_or rs i blank) { before = v })

abbrev pub with_tag : List Record → ℕ → Option ListName → List Record
with_tag rs i v = set rs i (record (get_or rs i blank) { list = v })

-- what is read where the index is in range doesn't depend on the default
pub read : (rs : List Record) (i : ℕ) (r : Record) → i < length rs → r ≡ get_or rs i r → r ≡ get_or rs i blank
read [] i r lt e = absurd (omega arith)
read (q ∷ rs) zero r lt e = e
read (q ∷ rs) (suc i) r lt e = read rs i r (omega arith) e

-- a write of one field, as code writes it
pub after_is : (rs : List Record) (i v : ℕ) (r : Record) → i < length rs → r ≡ get_or rs i r
    → set rs i (record { list = r.list; before = r.before; after = v }) ≡ with_after rs i v
after_is rs i v r lt e = ap (λ q. set rs i (record { list = q.list; before = q.before; after = v })) (read rs i r lt e)

pub before_is : (rs : List Record) (i v : ℕ) (r : Record) → i < length rs → r ≡ get_or rs i r
    → set rs i (record { list = r.list; before = v; after = r.after }) ≡ with_before rs i v
before_is rs i v r lt e = ap (λ q. set rs i (record { list = q.list; before = v; after = q.after })) (read rs i r lt e)

pub tag_is : (rs : List Record) (i : ℕ) (v : Option ListName) (r : Record) → i < length rs → r ≡ get_or rs i r
    → set rs i (record { list = v; before = r.before; after = r.after }) ≡ with_tag rs i v
tag_is rs i v r lt e = ap (λ q. set rs i (record { list = v; before = q.before; after = q.after })) (read rs i r lt e)

-- a field that a write keeps
pub kept : {X : Type 0} (f : Record → X) (rs : List Record) (i j : ℕ) (r : Record) → f r ≡ f (get_or rs i blank)
    → i < length rs
    → f (get_or (set rs i r) j blank) ≡ f (get_or rs j blank)
kept f rs i j r e lt = elim (eqb_tells j i) [
  | inl t ↦ rw t.1 (ap f (get_or-set_same rs i r blank lt) ∙ e)
  | inr t ↦ ap f (get_or-set_other rs i j r blank t.1)
]

-- a record that a write keeps
pub other : {X : Type 0} (f : Record → X) (rs : List Record) (i j : ℕ) (r : Record) → j ≢ i
    → f (get_or (set rs i r) j blank) ≡ f (get_or rs j blank)
other f rs i j r ne = ap f (get_or-set_other rs i j r blank ne)

-- a field that is written
pub written : {X : Type 0} (f : Record → X) (rs : List Record) (i : ℕ) (r : Record) → i < length rs
    → f (get_or (set rs i r) i blank) ≡ f r
written f rs i r lt = ap f (get_or-set_same rs i r blank lt)

-- a page is put at the front
abbrev pub records_put : ℕ → List Record → ListName → ℕ → ℕ → List Record
records_put pages rs l x f = with_before (with_after
    (set rs x (record { list = Some l; before = head_at pages l; after = f })) (head_at pages l) x) f x

pub records_put-is : (pages : ℕ) (rs : List Record) (l : ListName) (x f : ℕ) (q r : Record)
    → head_at pages l < length rs → f < length rs
    → q ≡ get_or (set rs x (record { list = Some l; before = head_at pages l; after = f })) (head_at pages l) q
    → r ≡ get_or (set (set rs x (record { list = Some l; before = head_at pages l; after = f })) (head_at pages l)
    (record { list = q.list; before = q.before; after = x })) f r
    → set (set (set rs x (record { list = Some l; before = head_at pages l; after = f })) (head_at pages l)
    (record { list = q.list; before = q.before; after = x })) f
    (record { list = r.list; before = x; after = r.after })
    ≡ records_put pages rs l x f
records_put-is pages rs l x f q r lh lf eq er =
    before_is _ f x r (simp length-set lf) er ∙ ap (λ rs'. with_before rs' f x)
    (after_is _ (head_at pages l) x q (simp length-set lh) eq)

pub length-records_put : (pages : ℕ) (rs : List Record) (l : ListName) (x f : ℕ)
    → length (records_put pages rs l x f) ≡ length rs
length-records_put pages rs l x f = simp length-set

abbrev pub records_taken : List Record → ℕ → ℕ → ℕ → List Record
records_taken rs x b n = with_tag (with_before (with_after rs b n) n b) x None

pub records_taken-is : (rs : List Record) (x b n : ℕ) (q r v : Record) → b < length rs → n < length rs → x < length rs
    → q ≡ get_or rs b q
    → r ≡ get_or (set rs b (record { list = q.list; before = q.before; after = n })) n r
    → v ≡ get_or (set (set rs b (record { list = q.list; before = q.before; after = n })) n
    (record { list = r.list; before = b; after = r.after })) x v
    → set (set (set rs b (record { list = q.list; before = q.before; after = n })) n
    (record { list = r.list; before = b; after = r.after })) x
    (record { list = None; before = v.before; after = v.after })
    ≡ records_taken rs x b n
records_taken-is rs x b n q r v lb ln lx eq er ev =
    tag_is _ x None v (simp length-set lx) ev
    ∙ ap (λ rs'. with_tag rs' x None) (before_is _ n b r (simp length-set ln) er ∙ ap (λ rs'. with_before rs' n b)
    (after_is rs b n q lb eq))

pub length-records_taken : (rs : List Record) (x b n : ℕ) → length (records_taken rs x b n) ≡ length rs
length-records_taken rs x b n = simp length-set

pub PutsFirst-written : (pages : ℕ) (rs : List Record) (l : ListName) (x f : ℕ) → length rs ≡ pages + 4 → code l < 4
    → x < pages
    → f ≡ (get_or rs (head_at pages l) blank).after → f < length rs → f ≢ x
    → PutsFirst (table_of pages rs) (table_of pages (records_put pages rs l x f)) l x
PutsFirst-written pages rs l x f size small low e lt fx = record {
  pages = refl;
  tag = kept (λ r. r.list) r2 f x _ refl lt2 ∙ kept (λ r. r.list) r1 h x _ refl lt1 ∙ written (λ r. r.list) rs x r lt0;
  tags = λ i ne. kept (λ r. r.list) r2 f i _ refl lt2 ∙ kept (λ r. r.list) r1 h i _ refl lt1 ∙ other (λ r. r.list) rs x
      i r ne;
  head_after = kept (λ r. r.after) r2 f h _ refl lt2 ∙ written (λ r. r.after) r1 h _ lt1;
  after = kept (λ r. r.after) r2 f x _ refl lt2 ∙ other (λ r. r.after) r1 h x _ (λ w. absurd (omega arith)) ∙ written
      (λ r. r.after) rs x r lt0 ∙ e;
  afters = λ i nh nx. kept (λ r. r.after) r2 f i _ refl lt2 ∙ other (λ r. r.after) r1 h i _ nh ∙ other (λ r. r.after) rs
      x i r nx;
  before = other (λ r. r.before) r2 f x _ (λ w. fx (sym w)) ∙ kept (λ r. r.before) r1 h x _ refl lt1 ∙ written
      (λ r. r.before) rs x r lt0;
  first_before = rw (← e) (written (λ r. r.before) r2 f _ lt2);
  befores = λ i nx nf. other (λ r. r.before) r2 f i _ (λ w. nf (w ∙ e)) ∙ kept (λ r. r.before) r1 h i _ refl lt1 ∙ other
      (λ r. r.before) rs x i r nx;
}
  where
    h : ℕ
    h = pages + code l

    r : Record
    r = record { list = Some l; before = h; after = f }

    r1 : List Record
    r1 = set rs x r

    r2 : List Record
    r2 = with_after r1 h x

    lt0 : x < length rs
    lt0 = omega arith

    lt1 : pages + code l < length (set rs x r)
    lt1 = omega (arith, length-set rs x r)

    lt2 : f < length r2
    lt2 = omega (arith, length-set r1 h (record (get_or r1 h blank) { after = x }), length-set rs x r)

-- a page is taken out
pub TakesOut-written : (pages : ℕ) (rs : List Record) (x b n : ℕ) → x < length rs
    → b ≡ (get_or rs x blank).before → b < length rs → n ≡ (get_or rs x blank).after → n < length rs
    → TakesOut (table_of pages rs) (table_of pages (records_taken rs x b n)) x
TakesOut-written pages rs x b n low eb lb en ln = record {
  pages = refl;
  tag = written (λ r. r.list) r2 x _ lt2;
  tags = λ i ne. other (λ r. r.list) r2 x i _ ne ∙ kept (λ r. r.list) r1 n i _ refl lt1 ∙ kept (λ r. r.list) rs b i _
      refl lb;
  after = rw (← eb, ← en) (kept (λ r. r.after) r2 x b _ refl lt2 ∙ kept (λ r. r.after) r1 n b _ refl lt1 ∙ written
      (λ r. r.after) rs b _ lb);
  afters = λ i ne. kept (λ r. r.after) r2 x i _ refl lt2 ∙ kept (λ r. r.after) r1 n i _ refl lt1 ∙ other (λ r. r.after)
      rs b i _ (λ w. ne (w ∙ eb));
  before = rw (← eb, ← en) (kept (λ r. r.before) r2 x n _ refl lt2 ∙ written (λ r. r.before) r1 n _ lt1);
  befores = λ i ne. kept (λ r. r.before) r2 x i _ refl lt2 ∙ other (λ r. r.before) r1 n i _ (λ w. ne (w ∙ en)) ∙ kept
      (λ r. r.before) rs b i _ refl lb;
}
  where
    r1 : List Record
    r1 = with_after rs b n

    r2 : List Record
    r2 = with_before r1 n b

    lt1 : n < length r1
    lt1 = omega (arith, length-set rs b (record (get_or rs b blank) { after = n }))

    lt2 : x < length r2
    lt2 = omega (
      arith,
      length-set r1 n (record (get_or r1 n blank) { before = b }),
      length-set rs b
          (record (get_or rs b blank) { after = n }),
    )
