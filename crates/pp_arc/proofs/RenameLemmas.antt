-- Lemmas on a page that gets another name: which pages are cached then.
use Rattle.std.proofs.Common.{◌≡◌, ◌≢◌, ◌⊎◌, ℕ, ◌+◌, ◌≤◌, Bool, true, false, cond, eqb, refl, ap, sym, ◌∙◌, arith, inl, inr}
use Rattle.std.proofs.Common.{eq-eqb}
use Rattle.std.specs.Prelude.{Option, Some, None}
use Rattle.std.proofs.lemmas.Bool.{cases_Bool}
use Rattle.std.proofs.lemmas.Bool.Decides.{eqb_tells}
use Rattle.pp_arc.specs.declared.list.List.{List as ListName}
use Rattle.pp_arc.specs.declared.list.List.TheVariants.{T1, T2, B1, B2}
use Rattle.pp_arc.specs.Pages.{contains, without}
use Rattle.pp_arc.specs.FourLists.{FourLists, is_cached, place}
use Rattle.pp_arc.specs.Figure.{forget}
use Rattle.pp_arc.specs.Laws.{CachesRenamed}
use Rattle.pp_arc.specs.Sizes.{renamed, renamed_in}
use Rattle.pp_arc.proofs.PageLemmas.{times_in-without, times_in-without_same, times_in-without_other}
use Rattle.pp_arc.proofs.StepLemmas.{times_in-cached}
use Rattle.pp_arc.proofs.CacheLemmas.{times_cached, is_cached-times}

abbrev pub one_for : Bool → ℕ
one_for b = cond b 1 0

-- whether the list is one of cached pages
abbrev pub in_cache : Option ListName → Bool
in_cache None = false
in_cache (Some T1) = true
in_cache (Some T2) = true
in_cache (Some B1) = false
in_cache (Some B2) = false

pub in_cache-place : (s : FourLists) (x : ℕ) → in_cache (place s x) ≡ is_cached s x
in_cache-place s x = go (contains s.t1 x) (contains s.t2 x) (contains s.b1 x) (contains s.b2 x) refl refl
  where
    go : (p q r t : Bool) → contains s.t1 x ≡ p → contains s.t2 x ≡ q
        → in_cache (cond p (Some T1) (cond q (Some T2) (cond r (Some B1) (cond t (Some B2) None)))) ≡ is_cached s x
    go true q r t e f = rw e refl
    go false true r t e f = rw (e, f) refl
    go false false true t e f = rw (e, f) refl
    go false false false true e f = rw (e, f) refl
    go false false false false e f = rw (e, f) refl

-- how often a page is cached after a put under a name
pub times-renamed_in : (s : FourLists) (name q : ℕ) (list : Option ListName)
    → times_cached (renamed_in list s name) q ≡ cond (in_cache list) (one_for (eqb name q)) 0 + times_cached s q
times-renamed_in s name q None = omega arith
times-renamed_in s name q (Some T1) = omega arith
times-renamed_in s name q (Some T2) = omega arith
times-renamed_in s name q (Some B1) = omega arith
times-renamed_in s name q (Some B2) = omega arith

-- how often it is cached once both pages are forgotten
times-page : (s : FourLists) (page name : ℕ) → times_cached (forget (forget s page) name) page ≡ 0
times-page s page name = omega (
  arith,
  times_in-without (without s.t1 page) name page,
  times_in-without (without s.t2 page) name page,
  times_in-without_same s.t1 page,
  times_in-without_same s.t2 page,
)

times-name : (s : FourLists) (page name : ℕ) → times_cached (forget (forget s page) name) name ≡ 0
times-name s page name = omega (
  arith,
  times_in-without_same (without s.t1 page) name,
  times_in-without_same (without s.t2 page) name,
)

times-other : (s : FourLists) (page name q : ℕ) → q ≢ page → q ≢ name
    → times_cached (forget (forget s page) name) q ≡ times_cached s q
times-other s page name q np nn = omega (
  arith,
  times_in-without_other (without s.t1 page) name q (λ e. nn (sym e)),
  times_in-without_other (without s.t2 page) name q (λ e. nn (sym e)),
  times_in-without_other s.t1 page q (λ e. np (sym e)),
  times_in-without_other s.t2 page q (λ e. np (sym e)),
)

pub CachesRenamed-renamed : (s : FourLists) (page name : ℕ) → CachesRenamed s (renamed s page name) page name
CachesRenamed-renamed s page name q = (forth, back)
  where
    times : times_cached (renamed s page name) q
        ≡ cond (in_cache (place s page)) (one_for (eqb name q)) 0 + times_cached (forget (forget s page) name) q
    times = times-renamed_in (forget (forget s page) name) name q (place s page)

    counts : (b c : Bool) → is_cached s page ≡ b → eqb name q ≡ c
        → cond (in_cache (place s page)) (one_for (eqb name q)) 0 ≡ cond b (one_for c) 0
    counts b c e f = ap (λ x. cond x (one_for (eqb name q)) 0) (in_cache-place s page ∙ e)
        ∙ ap (λ x. cond b (one_for x) 0) f

    forth : is_cached (renamed s page name) q ≡ true
        → ((q ≡ name) × (is_cached s page ≡ true)) ⊎ ((is_cached s q ≡ true) × (q ≢ page) × (q ≢ name))
    forth here =
        let many : 1 ≤ times_cached (renamed s page name) q = times_in-cached (renamed s page name) q here in
        elim (eqb_tells name q) [
          | inl t ↦
              let gone : times_cached (forget (forget s page) name) q ≡ 0 = rw (← t.1) (times-name s page name) in
              elim (cases_Bool (is_cached s page)) [
                | inl e ↦ inl (sym t.1, e)
                | inr e ↦ absurd (omega (arith, many, times, gone, counts false true e t.0))
              ]
          | inr t ↦
              let none : cond (in_cache (place s page)) (one_for (eqb name q)) 0 ≡ 0 =
              elim (cases_Bool (is_cached s page)) [
                | inl e ↦ counts true false e t.0
                | inr e ↦ counts false false e t.0
              ] in
              let np : q ≢ page = λ e.
              let gone : times_cached (forget (forget s page) name) q ≡ 0 = rw e (times-page s page name) in
              omega (arith, many, times, gone, none) in
              let nn : q ≢ name = λ e. t.1 (sym e) in
              inr (
                is_cached-times s q (omega (arith, many, times, none, times-other s page name q np nn)),
                np,
                nn,
              )
        ]

    back : ((q ≡ name) × (is_cached s page ≡ true)) ⊎ ((is_cached s q ≡ true) × (q ≢ page) × (q ≢ name))
        → is_cached (renamed s page name) q ≡ true
    back (inl k) = is_cached-times (renamed s page name) q
        (omega (arith, times, counts true true k.1 (eq-eqb name q (sym k.0))))
    back (inr k) = is_cached-times (renamed s page name) q
        (omega (arith, times, times-other s page name q k.1 k.2, times_in-cached s q k.0))
