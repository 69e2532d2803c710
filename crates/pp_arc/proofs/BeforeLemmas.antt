-- Lemmas on the page that a page's record leads back to.
use Rattle.std.proofs.Common.{◌≡◌, ℕ, ◌<◌, true, List, ◌∷◌, length, get_or, refl, arith, ap, sym, subst}
use Rattle.std.proofs.Common.{inl, inr}
use Rattle.std.specs.Prelude.{Option, Some, None, is_some}
use Rattle.pp_arc.specs.declared.list.List.{List as ListName}
use Rattle.pp_arc.specs.declared.links.Record.{Record}
use Rattle.pp_arc.specs.Pages.{contains, behind}
use Rattle.pp_arc.specs.FourLists.{FourLists, list_of, place}
use Rattle.pp_arc.specs.Links.{page_at}
use Rattle.pp_arc.specs.Table.{Content, Table, IsSound, head_at, table_of, blank, lists_in}
use Rattle.pp_arc.proofs.PageLemmas.{times_in-contains}
use Rattle.pp_arc.proofs.TableLemmas.{once}
use Rattle.pp_arc.proofs.WriteLemmas.{read}
use Rattle.pp_arc.proofs.LookLemmas.{below, page_below, page_past}
use Rattle.pp_arc.proofs.BehindLemmas.{ahead-Linked}
use Rattle.pp_arc.proofs.SearchLemmas.{place-in}

-- the page ahead of x in a list, or that x is the first there
pub record Ahead (xs : List ℕ) (x : ℕ) (o : Option ℕ) : Type 0 where
  pub some : (z : ℕ) → o ≡ Some z → (contains xs z ≡ true) × (behind xs z ≡ x ∷ behind xs x)
  pub none : o ≡ None → xs ≡ x ∷ behind xs x

low : (d : Content) (l : ListName) (x : ℕ) → IsSound d → place (lists_in d) x ≡ Some l → x < d.pages
low d l x h e = below d l x h (times_in-contains (list_of (lists_in d) l) x (place-in (lists_in d) x l e))

pub placed : (d : Content) (s : FourLists) (x : ℕ) → IsSound d → lists_in d ≡ s → is_some (place s x) ≡ true
    → x < length d.records
placed d s x h view some = go (place (lists_in d) x) refl (subst (λ (w : FourLists). is_some (place w x) ≡ true) (sym view) some)
  where
    go : (o : Option ListName) → place (lists_in d) x ≡ o → is_some o ≡ true → x < length d.records
    go None e f = absurd (cc)
    go (Some l) e f = omega (arith, low d l x h e, h.size)

ahead_in : (d : Content) (l : ListName) (x : ℕ) (o : Record) → IsSound d → place (lists_in d) x ≡ Some l
    → o ≡ get_or d.records x o → Ahead (list_of (lists_in d) l) x (page_at d.pages o.before)
ahead_in d l x o h at eo =
    let t : Table = table_of d.pages d.records in
    let xs : List ℕ = list_of (lists_in d) l in
    let e : o ≡ get_or d.records x blank = read d.records x o (omega (arith, low d l x h at, h.size)) eo in
    let b : o.before ≡ t.before x = ap (λ (w : Record). w.before) e in
    subst (λ (i : ℕ). Ahead xs x (page_at d.pages i)) (sym b)
    (elim (ahead-Linked t.after t.before xs (head_at d.pages l) (head_at d.pages l) x
    (λ i. once t (lists_in d) l i h.shows) (h.shows.rings l) (place-in (lists_in d) x l at)) [
      | inl u ↦ let none : page_at d.pages (t.before x) ≡ None = page_past d.pages (t.before x) (omega (arith, u.0)) in
          record { some = λ z f. absurd (cc); none = λ f. u.1 }
      | inr u ↦
          let some : page_at d.pages (t.before x) ≡ Some (t.before x) = page_below d.pages (t.before x)
          (below d l (t.before x) h (times_in-contains xs (t.before x) u.0)) in
          record {
            some = λ z f. let same : t.before x ≡ z = cc in
                subst (λ (i : ℕ). (contains xs i ≡ true) × (behind xs i ≡ x ∷ behind xs x)) same u;
            none = λ f. absurd (cc);
          }
    ])

pub ahead_at : (d : Content) (s : FourLists) (l : ListName) (x : ℕ) (o : Record) → IsSound d → lists_in d ≡ s
    → place s x ≡ Some l → o ≡ get_or d.records x o → Ahead (list_of s l) x (page_at s.pages o.before)
ahead_at d s l x o h view at eo =
    subst (λ (w : FourLists). Ahead (list_of w l) x (page_at w.pages o.before)) view
    (ahead_in d l x o h (subst (λ (w : FourLists). place w x ≡ Some l) (sym view) at) eo)
