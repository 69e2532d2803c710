-- Lemmas on the table of four empty lists.
use Rattle.std.proofs.Common.{◌≡◌, ℕ, ◌+◌, ◌^◌, ◌≤◌, ◌<◌, List, [], ◌∷◌, length, get_or, set, replicate, length-set}
use Rattle.std.proofs.Common.{get_or-set_same, get_or-set_other, refl, arith, ap, ◌∙◌, inl}
use Rattle.std.specs.Prelude.{Some}
use Rattle.std.proofs.lemmas.List.{get_or-replicate}
use Rattle.pp_arc.specs.declared.list.List.{List as ListName}
use Rattle.pp_arc.specs.declared.list.List.TheVariants.{T1, T2, B1, B2}
use Rattle.pp_arc.specs.declared.links.Record.{Record}
use Rattle.pp_arc.specs.Pages.{times_in}
use Rattle.pp_arc.specs.FourLists.{list_of}
use Rattle.pp_arc.specs.Table.{Content, Linked, IsSound, head_at, table_of, blank, lists_in}

abbrev pub head_record : ListName → ℕ → Record
head_record l i = record { list = Some l; before = i; after = i }

abbrev pub fresh : ℕ → List Record → Content
fresh pages rs = record {
  pages = pages;
  records = set (set (set (set rs pages (head_record T1 pages)) (pages + 1) (head_record T2 (pages + 1))) (pages + 2)
      (head_record B1 (pages + 2))) (pages + 3) (head_record B2 (pages + 3));
  counts = 0 ∷ 0 ∷ 0 ∷ 0 ∷ [];
}

pub IsSound-fresh : (pages : ℕ) (rs : List Record) → rs ≡ replicate (pages + 4) blank → length rs ≡ pages + 4
    → pages + 4 ≤ 2 ^ 32 → IsSound (fresh pages rs)
IsSound-fresh pages rs e size fits = record {
  size = simp length-set size;
  fits = fits;
  shows = record {
    sizes = refl;
    heads = λ l. ap (λ (w : Record). w.list) (at_head l);
    rings = ring;
    stands = λ l x. inl (none l x);
    tagged = λ l x lt m. clash l x lt m;
  };
}
  where
    r1 : List Record
    r1 = set rs pages (head_record T1 pages)

    r2 : List Record
    r2 = set r1 (pages + 1) (head_record T2 (pages + 1))

    r3 : List Record
    r3 = set r2 (pages + 2) (head_record B1 (pages + 2))

    first : get_or r1 (pages + 0) blank ≡ head_record T1 (pages + 0)
    first = let q : pages + 0 ≡ pages = omega arith in rw q
        (get_or-set_same rs pages (head_record T1 pages) blank (omega arith))

    at_head : (l : ListName) → get_or (fresh pages rs).records (head_at pages l) blank ≡ head_record l (head_at pages l)
    at_head T1 = get_or-set_other r3 (pages + 3) (pages + 0) _ blank (λ w. absurd (omega arith)) ∙ get_or-set_other r2
        (pages + 2) (pages + 0) _ blank (λ w. absurd (omega arith))
        ∙ get_or-set_other r1 (pages + 1) (pages + 0) _ blank (λ w. absurd (omega arith)) ∙ first
    at_head T2 = get_or-set_other r3 (pages + 3) (pages + 1) _ blank (λ w. absurd (omega arith)) ∙ get_or-set_other r2
        (pages + 2) (pages + 1) _ blank (λ w. absurd (omega arith))
        ∙ get_or-set_same r1 (pages + 1) _ blank (simp length-set (omega arith))
    at_head B1 = get_or-set_other r3 (pages + 3) (pages + 2) _ blank (λ w. absurd (omega arith)) ∙ get_or-set_same r2
        (pages + 2) _ blank (simp length-set (omega arith))
    at_head B2 = get_or-set_same r3 (pages + 3) _ blank (simp length-set (omega arith))

    page : (x : ℕ) → x < pages → get_or (fresh pages rs).records x blank ≡ blank
    page x lt = get_or-set_other r3 (pages + 3) x _ blank (λ w. absurd (omega arith)) ∙ get_or-set_other r2 (pages + 2)
        x _ blank (λ w. absurd (omega arith))
        ∙ get_or-set_other r1 (pages + 1) x _ blank (λ w. absurd (omega arith)) ∙ get_or-set_other rs pages x _ blank
        (λ w. absurd (omega arith))
        ∙ rw e (get_or-replicate (pages + 4) x blank blank (omega arith))

    clash : (l : ListName) (x : ℕ) → x < pages → (get_or (fresh pages rs).records x blank).list ≡ Some l
        → times_in (list_of (lists_in (fresh pages rs)) l) x ≡ 1
    clash l x lt m = let m' : (blank).list ≡ Some l = rw (page x lt) at m in absurd (cc)

    ring : (l : ListName)
        → Linked (table_of pages (fresh pages rs).records).after (table_of pages (fresh pages rs).records).before
        (head_at pages l) (list_of (lists_in (fresh pages rs)) l) (head_at pages l)
    ring T1 = (ap (λ (w : Record). w.after) (at_head T1), ap (λ (w : Record). w.before) (at_head T1))
    ring T2 = (ap (λ (w : Record). w.after) (at_head T2), ap (λ (w : Record). w.before) (at_head T2))
    ring B1 = (ap (λ (w : Record). w.after) (at_head B1), ap (λ (w : Record). w.before) (at_head B1))
    ring B2 = (ap (λ (w : Record). w.after) (at_head B2), ap (λ (w : Record). w.before) (at_head B2))

    none : (l : ListName) (x : ℕ) → times_in (list_of (lists_in (fresh pages rs)) l) x ≡ 0
    none T1 x = refl
    none T2 x = refl
    none B1 x = refl
    none B2 x = refl
