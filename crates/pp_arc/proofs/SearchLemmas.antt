-- Lemmas on what a search knows, as pages leave, come, are freed, and are passed over.
use Rattle.std.proofs.Common.{◌≡◌, ◌≢◌, ◌⊎◌, ℕ, ◌+◌, ◌<◌, ◌≤◌, Bool, true, false, cond, eqb, List, [], ◌∷◌, ◌||◌}
use Rattle.std.proofs.Common.{length, refl, arith, ap, sym, subst, ◌∙◌, inl, inr, get_or, set}
use Rattle.std.proofs.Common.{get_or-set_other, get_or-set_same, length-set}
use Rattle.std.proofs.lemmas.List.{get_or_past}
use Rattle.std.specs.Prelude.{Option, None, Some, slice_get, option_and_then, nat_lt, IfSome}
use Rattle.std.specs.Prelude.{sum_by}
use Rattle.std.specs.Option.{option_eq}
use Rattle.std.proofs.lemmas.List.Sums.{sum_by-set}
use Rattle.std.proofs.lemmas.Bool.Decides.{eqb_tells}
use Rattle.std.proofs.lemmas.Bool.{cases_lt, cases_Bool, lt-ltb}
use Rattle.pp_arc.specs.declared.answer.Answer.{Answer}
use Rattle.pp_arc.specs.declared.answer.Answer.TheVariants.{Hit, Free, Evict, AllBusy}
use Rattle.pp_arc.specs.declared.list.List.{List as ListName}
use Rattle.pp_arc.specs.declared.list.List.TheVariants.{T1, T2, B1, B2}
use Rattle.pp_arc.specs.Pages.{contains, times_in, without, behind, next_after, last_page, last_not_busy}
use Rattle.pp_arc.specs.FourLists.{FourLists, list_of, times_named, is_cached, place, after}
use Rattle.pp_arc.specs.Figure.{forget, with_remembered, with_front_of_t1, with_front_of_t2, after_replace}
use Rattle.pp_arc.specs.Links.{with_front}
use Rattle.pp_arc.specs.Sizes.{renamed_in}
use Rattle.pp_arc.specs.Search.{SearchMarks, IsMarkOf, NumbersRise, KnowsList, KnowsCached, KnowsBusy, FoundIn, NoneFreed}
use Rattle.pp_arc.specs.Search.{IsLastFreed, number_of, mark_of, freed_of, without_number, without_victim, with_mark, with_freed}
use Rattle.pp_arc.specs.Search.{passed}
use Rattle.pp_arc.specs.Passed.{counts}
use Rattle.pp_arc.proofs.PageLemmas.{eqb_not, times_in-contains, times_in-contains_not, contains-times_in}
use Rattle.pp_arc.proofs.RingLemmas.{without-absent}
use Rattle.pp_arc.proofs.VictimLemmas.{or_right, contains-last_not_busy}
use Rattle.pp_arc.proofs.BehindLemmas.{contains-front, contains-more, contains-without_in, contains-without_same}
use Rattle.pp_arc.proofs.BehindLemmas.{contains-without_other, behind-in, behind-of, behind-without, behind-next}
use Rattle.pp_arc.proofs.SizeLemmas.{contains-last, last-none}
use Rattle.pp_arc.proofs.BehindLemmas.{next_after-behind, behind-last, last-behind, none-busy}

-- ---- one list

pub clash : {b : Bool} → b ≡ true → b ≡ false → ⊥
clash t f = cc

-- what isn't busy afterwards wasn't before, where what was busy still is
idle : (b c : Bool) → (b ≡ true → c ≡ true) → c ≡ false → b ≡ false
idle true c more q = absurd (clash (more refl) q)
idle false c more q = refl

-- a mark, by cases
mark-more : (o : Option ℕ) (P Q : ℕ → Type 0) → ((m : ℕ) → o ≡ Some m → P m → Q m)
    → ((m : ℕ) → o ≡ Some m → P m) → (m : ℕ) → o ≡ Some m → Q m
mark-more o P Q f h m e = f m e (h m e)

no_mark : (P : ℕ → Type 0) (m : ℕ) → None ≡ Some m → P m
no_mark P m e = absurd (cc)

mark_is : (P : ℕ → Type 0) (z : ℕ) → P z → (m : ℕ) → Some z ≡ Some m → P m
mark_is P z w m e = let same : z ≡ m = cc in subst P same w

-- a number that is taken away
set_cleared : (f : List ℕ) (x : ℕ) → get_or (set f x 0) x 0 ≡ 0
set_cleared f x = elim (cases_lt x (length f)) [
  | inl lt ↦ get_or-set_same f x 0 0 lt
  | inr past ↦ get_or_past (set f x 0) x 0 (omega (arith, length-set f x 0))
]

-- a page without a number isn't among the freed ones
free_none : (xs : List ℕ) (at : Option ℕ) (ns f : List ℕ) (busy : ℕ → Bool) (x : ℕ) → KnowsList xs at ns f busy
    → get_or ns x 0 ≡ 0 → get_or f x 0 ≡ 0
free_none xs at ns f busy x h zero = elim (cases_lt 0 (get_or f x 0)) [
  | inl lt ↦ absurd (omega (arith, (h.freed x lt).1))
  | inr ge ↦ omega arith
]

-- what is known of a list is known of a shorter one, with the same numbers, and while more of its pages are busy
KnowsList-less : (xs ys : List ℕ) (at : Option ℕ) (ns ms f g : List ℕ) (busy other : ℕ → Bool)
    → ((x y : ℕ) → contains (behind ys x) y ≡ true → contains (behind xs x) y ≡ true)
    → ((x : ℕ) → contains ys x ≡ true → contains xs x ≡ true)
    → ((x : ℕ) → contains ys x ≡ true → get_or ms x 0 ≡ get_or ns x 0)
    → ((x : ℕ) → contains ys x ≡ true → get_or g x 0 ≡ get_or f x 0)
    → ((x : ℕ) → 0 < get_or g x 0 → contains ys x ≡ true)
    → ((m : ℕ) → at ≡ Some m → contains xs m ≡ true → contains ys m ≡ true)
    → ((y : ℕ) → contains ys y ≡ true → busy y ≡ true → other y ≡ true)
    → KnowsList xs at ns f busy → KnowsList ys at ms g other
KnowsList-less xs ys at ns ms f g busy other sub inn same kept only stay more h = record {
  rise = λ x y lt b.
      let ex : get_or ms x 0 ≡ get_or ns x 0 = same x (behind-of ys x y b) in
      let ey : get_or ms y 0 ≡ get_or ns y 0 = same y (behind-in ys x y b) in
      let lt' : 0 < get_or ns x 0 = omega arith in
      omega (arith, h.rise x y lt' (sub x y b));
  passed = λ y c lt q.
      let e : get_or ms y 0 ≡ get_or ns y 0 = same y c in
      let lt' : 0 < get_or ns y 0 = omega arith in
      kept y c ∙ h.passed y (inn y c) lt' (idle (busy y) (other y) (more y c) q) ∙ sym e;
  freed = λ y lt.
      let c : contains ys y ≡ true = only y lt in
      let k : get_or g y 0 ≡ get_or f y 0 = kept y c in
      let lt' : 0 < get_or f y 0 = omega arith in
      (c, k ∙ (h.freed y lt').1 ∙ sym (same y c));
  mark = mark-more at (IsMarkOf xs ns) (IsMarkOf ys ms) (λ m e w.
      let there : contains ys m ≡ true = stay m e w.stands in
      let em : get_or ms m 0 ≡ get_or ns m 0 = same m there in
      record { stands = there; numbered = omega (arith, w.numbered) }) h.mark;
}

-- more pages of the list are busy
KnowsList-more : (xs : List ℕ) (at : Option ℕ) (ns f : List ℕ) (busy other : ℕ → Bool)
    → ((y : ℕ) → contains xs y ≡ true → busy y ≡ true → other y ≡ true)
    → KnowsList xs at ns f busy → KnowsList xs at ns f other
KnowsList-more xs at ns f busy other more h = record {
  rise = h.rise;
  passed = λ y c lt q. h.passed y c lt (idle (busy y) (other y) (more y c) q);
  freed = h.freed;
  mark = h.mark;
}

-- a page without a number comes to the front
KnowsList-front : (xs : List ℕ) (x : ℕ) (at : Option ℕ) (ns f : List ℕ) (busy : ℕ → Bool) → get_or ns x 0 ≡ 0
    → KnowsList xs at ns f busy → KnowsList (x ∷ xs) at ns f busy
KnowsList-front xs x at ns f busy zero h = record {
  rise = λ a b lt c. elim (eqb_tells x a) [
    | inl t ↦ let z : get_or ns a 0 ≡ 0 = ap (λ (i : ℕ). get_or ns i 0) (sym t.1) ∙ zero in absurd (omega arith)
    | inr t ↦ let c' : contains (behind xs a) b ≡ true = rw t.0 at c in h.rise a b lt c'
  ];
  passed = λ y c lt. elim (eqb_tells x y) [
    | inl t ↦ let z : get_or ns y 0 ≡ 0 = ap (λ (i : ℕ). get_or ns i 0) (sym t.1) ∙ zero in absurd (omega arith)
    | inr t ↦ let c' : contains xs y ≡ true = rw t.0 at c in h.passed y c' lt
  ];
  freed = λ y lt. (contains-more x y xs (h.freed y lt).0, (h.freed y lt).1);
  mark = mark-more at (IsMarkOf xs ns) (IsMarkOf (x ∷ xs) ns) (λ m e w.
      record { stands = contains-more x m xs w.stands; numbered = w.numbered }) h.mark;
}

-- there is no mark any more
KnowsList-no_mark : (xs : List ℕ) (at : Option ℕ) (ns f : List ℕ) (busy : ℕ → Bool) → KnowsList xs at ns f busy
    → KnowsList xs None ns f busy
KnowsList-no_mark xs at ns f busy h = record {
  rise = h.rise;
  passed = h.passed;
  freed = h.freed;
  mark = no_mark (IsMarkOf xs ns);
}

-- the mark steps off its page
KnowsList-step : (xs : List ℕ) (x : ℕ) (next : Option ℕ) (ns f : List ℕ) (busy : ℕ → Bool)
    → ((i : ℕ) → times_in xs i ≤ 1) → next_after xs x ≡ next → KnowsList xs (Some x) ns f busy
    → KnowsList xs next ns f busy
KnowsList-step xs x None ns f busy once e h = KnowsList-no_mark xs (Some x) ns f busy h
KnowsList-step xs x (Some m) ns f busy once e h = go (behind xs x) refl
  where
    go : (ys : List ℕ) → behind xs x ≡ ys → KnowsList xs (Some m) ns f busy
    go [] is = let c : next_after xs x ≡ None = next_after-behind xs x ∙ ap (λ l. slice_get l 0) is in absurd (cc)
    go (z ∷ zs) is =
        let c : next_after xs x ≡ Some z = next_after-behind xs x ∙ ap (λ l. slice_get l 0) is in
        let same : z ≡ m = cc in
        let r : (contains xs m ≡ true) × (behind xs m ≡ zs) = behind-next xs x m zs once
        (is ∙ ap (λ w. w ∷ zs) same) in
        let b : contains (behind xs x) m ≡ true = rw (is, same) (contains-front m zs) in
        record {
          rise = h.rise;
          passed = h.passed;
          freed = h.freed;
          mark = mark_is (IsMarkOf xs ns) m record {
            stands = r.0;
            numbered = omega (arith, h.rise x m (h.mark x refl).numbered b);
          };
        }

-- a page that was passed over stopped being busy, and is among the freed ones
KnowsList-told : (xs : List ℕ) (x : ℕ) (at : Option ℕ) (ns f : List ℕ) (busy other : ℕ → Bool) → contains xs x ≡ true
    → x < length f → ((y : ℕ) → y ≢ x → busy y ≡ true → other y ≡ true)
    → KnowsList xs at ns f busy → KnowsList xs at ns (set f x (get_or ns x 0)) other
KnowsList-told xs x at ns f busy other here low more h = record {
  rise = h.rise;
  passed = λ y c lt q. elim (eqb_tells y x) [
    | inl t ↦ subst (λ (i : ℕ). get_or (set f x (get_or ns x 0)) i 0 ≡ get_or ns i 0) (sym t.1)
        (get_or-set_same f x (get_or ns x 0) 0 low)
    | inr t ↦ get_or-set_other f x y (get_or ns x 0) 0 t.1
        ∙ h.passed y c lt (idle (busy y) (other y) (more y t.1) q)
  ];
  freed = λ y lt. elim (eqb_tells y x) [
    | inl t ↦ subst (λ (i : ℕ). (contains xs i ≡ true) × (get_or (set f x (get_or ns x 0)) i 0 ≡ get_or ns i 0))
        (sym t.1) (here, get_or-set_same f x (get_or ns x 0) 0 low)
    | inr t ↦
        let e : get_or (set f x (get_or ns x 0)) y 0 ≡ get_or f y 0 = get_or-set_other f x y (get_or ns x 0) 0 t.1 in
        let lt' : 0 < get_or f y 0 = omega arith in
        ((h.freed y lt').0, e ∙ (h.freed y lt').1)
  ];
  mark = h.mark;
}

-- a freed page that is busy again isn't among the freed ones any more
KnowsList-popped : (xs : List ℕ) (x : ℕ) (at : Option ℕ) (ns f : List ℕ) (busy : ℕ → Bool) → busy x ≡ true
    → KnowsList xs at ns f busy → KnowsList xs at ns (set f x 0) busy
KnowsList-popped xs x at ns f busy full h = record {
  rise = h.rise;
  passed = λ y c lt q. elim (eqb_tells y x) [
    | inl t ↦ absurd (clash (ap busy t.1 ∙ full) q)
    | inr t ↦ get_or-set_other f x y 0 0 t.1 ∙ h.passed y c lt q
  ];
  freed = λ y lt. elim (eqb_tells y x) [
    | inl t ↦ let z : get_or (set f x 0) y 0 ≡ 0 = ap (λ (i : ℕ). get_or (set f x 0) i 0) t.1 ∙ set_cleared f x in
        absurd (omega arith)
    | inr t ↦ let e : get_or (set f x 0) y 0 ≡ get_or f y 0 = get_or-set_other f x y 0 0 t.1 in
        let lt' : 0 < get_or f y 0 = omega arith in
        ((h.freed y lt').0, e ∙ (h.freed y lt').1)
  ];
  mark = h.mark;
}

-- the search passes over the page ahead of the mark, which is busy
KnowsList-pass : (xs : List ℕ) (m z : ℕ) (ns ms f : List ℕ) (busy : ℕ → Bool)
    → contains xs z ≡ true → behind xs z ≡ m ∷ behind xs m → busy z ≡ true
    → 0 < get_or ms z 0 → get_or ms z 0 + 1 ≡ get_or ns m 0 → ((y : ℕ) → y ≢ z → get_or ms y 0 ≡ get_or ns y 0)
    → ((y : ℕ) → get_or f y 0 ≡ 0) → KnowsList xs (Some m) ns f busy → KnowsList xs (Some z) ms f busy
KnowsList-pass xs m z ns ms f busy here next full some down same none h = record {
  rise = rise;
  passed = λ y c lt q. elim (eqb_tells y z) [
    | inl t ↦ absurd (clash (ap busy t.1 ∙ full) q)
    | inr t ↦ let e : get_or ms y 0 ≡ get_or ns y 0 = same y t.1 in
        let lt' : 0 < get_or ns y 0 = omega arith in
        h.passed y c lt' q ∙ sym e
  ];
  freed = λ y lt. absurd (omega (arith, none y));
  mark = mark_is (IsMarkOf xs ms) z record { stands = here; numbered = some };
}
  where
    numbered : 0 < get_or ns m 0
    numbered = (h.mark m refl).numbered

    at_or_behind : (y : ℕ) → contains (behind xs z) y ≡ true → (m ≡ y) ⊎ (contains (behind xs m) y ≡ true)
    at_or_behind y b = let b' : contains (m ∷ behind xs m) y ≡ true = rw next at b in
        elim (eqb_tells m y) [
          | inl t ↦ inl t.1
          | inr t ↦ let c : contains (behind xs m) y ≡ true = rw t.0 at b' in inr c
        ]

    -- behind z stands m
    behind_z : contains (behind xs z) m ≡ true
    behind_z = rw next (contains-front m (behind xs m))

    -- a page behind z has no lower number than m
    low : (y : ℕ) → contains (behind xs z) y ≡ true → get_or ns m 0 ≤ get_or ns y 0
    low y b = elim (at_or_behind y b) [
      | inl e ↦ let c : get_or ns m 0 ≡ get_or ns y 0 = ap (λ (i : ℕ). get_or ns i 0) e in omega arith
      | inr c ↦ omega (arith, h.rise m y numbered c)
    ]

    apart : (y : ℕ) → contains (behind xs z) y ≡ true → y ≢ z
    apart y b = λ s. self (rw s at b)
      where
        self : contains (behind xs z) z ≡ true → ⊥
        self c = elim (at_or_behind z c) [
          | inl e ↦ let d : behind xs z ≡ z ∷ behind xs z = next ∙ ap (λ w. w ∷ behind xs w) e in
              absurd (omega (arith, ap (length {A = ℕ}) d))
          | inr d ↦
              let up : get_or ns m 0 < get_or ns z 0 = h.rise m z numbered d in
              let lt : 0 < get_or ns z 0 = omega arith in
              absurd (omega (arith, h.rise z m lt behind_z))
        ]

    -- a page ahead of z with a number has a lower one than m, by two at least
    high : (x : ℕ) → 0 < get_or ns x 0 → contains (behind xs x) z ≡ true → get_or ns x 0 + 1 < get_or ns m 0
    high x lt b =
        let up : get_or ns x 0 < get_or ns z 0 = h.rise x z lt b in
        let lz : 0 < get_or ns z 0 = omega arith in
        omega (arith, h.rise z m lz behind_z)

    rise : NumbersRise xs ms
    rise x y lt b = elim (eqb_tells x z) [
      | inl t ↦
          let b' : contains (behind xs z) y ≡ true = rw t.1 at b in
          let ey : get_or ms y 0 ≡ get_or ns y 0 = same y (apart y b') in
          let ex : get_or ms x 0 ≡ get_or ms z 0 = ap (λ (i : ℕ). get_or ms i 0) t.1 in
          let le : get_or ns m 0 ≤ get_or ns y 0 = low y b' in
          omega arith
      | inr t ↦
          let ex : get_or ms x 0 ≡ get_or ns x 0 = same x t.1 in
          let lx : 0 < get_or ns x 0 = omega arith in
          elim (eqb_tells y z) [
            | inl u ↦
                let b' : contains (behind xs x) z ≡ true = rw u.1 at b in
                let ey : get_or ms y 0 ≡ get_or ms z 0 = ap (λ (i : ℕ). get_or ms i 0) u.1 in
                omega (arith, high x lx b')
            | inr u ↦
                let ey : get_or ms y 0 ≡ get_or ns y 0 = same y u.1 in
                omega (arith, h.rise x y lx b)
          ]
    ]

-- over the last page
KnowsList-start : (xs : List ℕ) (z : ℕ) (at : Option ℕ) (ns ms f : List ℕ) (busy : ℕ → Bool) → contains xs z ≡ true
    → behind xs z ≡ [] → busy z ≡ true → get_or ms z 0 ≡ 4294967295 → get_or ns z 0 < 4294967296
    → ((y : ℕ) → y ≢ z → get_or ms y 0 ≡ get_or ns y 0) → ((y : ℕ) → get_or f y 0 ≡ 0)
    → KnowsList xs at ns f busy → KnowsList xs (Some z) ms f busy
KnowsList-start xs z at ns ms f busy here last full nz low same none h = record {
  rise = rise;
  passed = λ y c lt q. elim (eqb_tells y z) [
    | inl t ↦ absurd (clash (ap busy t.1 ∙ full) q)
    | inr t ↦ let e : get_or ms y 0 ≡ get_or ns y 0 = same y t.1 in
        let lt' : 0 < get_or ns y 0 = omega arith in
        h.passed y c lt' q ∙ sym e
  ];
  freed = λ y lt. absurd (omega (arith, none y));
  mark = mark_is (IsMarkOf xs ms) z record { stands = here; numbered = omega arith };
}
  where
    alone : (y : ℕ) → contains (behind xs z) y ≡ true → ⊥
    alone y b = let b' : contains [] y ≡ true = rw last at b in cc

    rise : NumbersRise xs ms
    rise x y lt b = elim (eqb_tells x z) [
      | inl t ↦ absurd (alone y (rw t.1 at b))
      | inr t ↦
          let ex : get_or ms x 0 ≡ get_or ns x 0 = same x t.1 in
          let lx : 0 < get_or ns x 0 = omega arith in
          elim (eqb_tells y z) [
            | inl u ↦
                let ey : get_or ms y 0 ≡ 4294967295 = ap (λ (i : ℕ). get_or ms i 0) u.1 ∙ nz in
                let b' : contains (behind xs x) z ≡ true = rw u.1 at b in
                omega (arith, h.rise x z lx b')
            | inr u ↦
                let ey : get_or ms y 0 ≡ get_or ns y 0 = same y u.1 in
                omega (arith, h.rise x y lx b)
          ]
    ]

-- where no page was freed, each one that was passed over is busy
passed_busy : (xs : List ℕ) (at : Option ℕ) (ns f : List ℕ) (busy : ℕ → Bool) (y : ℕ) → ((x : ℕ) → get_or f x 0 ≡ 0)
    → KnowsList xs at ns f busy → contains xs y ≡ true → 0 < get_or ns y 0 → busy y ≡ true
passed_busy xs at ns f busy y none h c lt = elim (cases_Bool (busy y)) [
  | inl b ↦ b
  | inr q ↦ let w : get_or f y 0 ≡ get_or ns y 0 = h.passed y c lt q in absurd (omega (arith, none y))
]

-- and so is each one behind the page ahead of one that was passed over
busy_behind : (xs : List ℕ) (m z y : ℕ) (at : Option ℕ) (ns f : List ℕ) (busy : ℕ → Bool)
    → behind xs z ≡ m ∷ behind xs m → ((x : ℕ) → get_or f x 0 ≡ 0) → IsMarkOf xs ns m → KnowsList xs at ns f busy
    → contains (behind xs z) y ≡ true → busy y ≡ true
busy_behind xs m z y at ns f busy next none w h b = let b' : contains (m ∷ behind xs m) y ≡ true = rw next at b in
    elim (eqb_tells m y) [
      | inl t ↦ ap busy (sym t.1) ∙ passed_busy xs at ns f busy m none h w.stands w.numbered
      | inr t ↦
          let c : contains (behind xs m) y ≡ true = rw t.0 at b' in
          passed_busy xs at ns f busy y none h (behind-in xs m y c) (omega (arith, h.rise m y w.numbered c))
    ]

-- the least recent freed page is the last one that isn't busy
last_of_freed : (xs : List ℕ) (at : Option ℕ) (ns f : List ℕ) (busy : ℕ → Bool) (p : ℕ) → KnowsList xs at ns f busy
    → busy p ≡ false → 0 < get_or f p 0 → ((y : ℕ) → get_or f y 0 ≤ get_or f p 0) → last_not_busy xs busy ≡ Some p
last_of_freed xs at ns f busy p h idle lt most =
    let e : get_or f p 0 ≡ get_or ns p 0 = (h.freed p lt).1 in
    let lp : 0 < get_or ns p 0 = omega arith in
    last-behind xs busy p (h.freed p lt).0 idle (λ y b.
    let up : get_or ns p 0 < get_or ns y 0 = h.rise p y lp b in
    let ly : 0 < get_or ns y 0 = omega arith in
    elim (cases_Bool (busy y)) [
      | inl w ↦ w
      | inr q ↦ let w : get_or f y 0 ≡ get_or ns y 0 = h.passed y (behind-in xs p y b) ly q in
          absurd (omega (arith, most y))
    ])

-- ---- both lists

-- which numbers a page's going changes: it has none, and the marks stay
pub record Drops (k l : SearchMarks) (x : ℕ) : Type 0 where
  pub t1 : l.t1 ≡ k.t1
  pub t2 : l.t2 ≡ k.t2
  pub long : length l.numbers ≡ length k.numbers
  pub long_t1 : length l.freed_t1 ≡ length k.freed_t1
  pub long_t2 : length l.freed_t2 ≡ length k.freed_t2
  pub cleared : number_of l x ≡ 0
  pub others : (y : ℕ) → y ≢ x → number_of l y ≡ number_of k y
  pub cleared_t1 : get_or l.freed_t1 x 0 ≡ 0
  pub others_t1 : (y : ℕ) → y ≢ x → get_or l.freed_t1 y 0 ≡ get_or k.freed_t1 y 0
  pub cleared_t2 : get_or l.freed_t2 x 0 ≡ 0
  pub others_t2 : (y : ℕ) → y ≢ x → get_or l.freed_t2 y 0 ≡ get_or k.freed_t2 y 0

pub Drops-same : (s : FourLists) (k : SearchMarks) (busy : ℕ → Bool) (x : ℕ) → number_of k x ≡ 0 → KnowsBusy s k busy
    → Drops k k x
Drops-same s k busy x zero h = record {
  t1 = refl;
  t2 = refl;
  long = refl;
  long_t1 = refl;
  long_t2 = refl;
  cleared = zero;
  others = λ y ne. refl;
  cleared_t1 = free_none s.t1 k.t1 k.numbers k.freed_t1 busy x h.t1 zero;
  others_t1 = λ y ne. refl;
  cleared_t2 = free_none s.t2 k.t2 k.numbers k.freed_t2 busy x h.t2 zero;
  others_t2 = λ y ne. refl;
}

pub Drops-without_number : (s : FourLists) (k : SearchMarks) (busy : ℕ → Bool) (x : ℕ) → KnowsBusy s k busy
    → Drops k (without_number k x) x
Drops-without_number s k busy x h = elim (cases_Bool (nat_lt 0 (number_of k x))) [
  | inl t ↦ rw t cleared
  | inr t ↦ rw t (Drops-same s k busy x (none t) h)
]
  where
    none : nat_lt 0 (number_of k x) ≡ false → number_of k x ≡ 0
    none f = elim (cases_lt 0 (number_of k x)) [
      | inl lt ↦ absurd (clash (lt-ltb 0 (number_of k x) lt) f)
      | inr ge ↦ omega arith
    ]

    cleared : Drops k (record k { numbers = set k.numbers x 0; freed_t1 = set k.freed_t1 x 0; freed_t2 = set k.freed_t2 x 0 }) x
    cleared = record {
      t1 = refl;
      t2 = refl;
      long = length-set k.numbers x 0;
      long_t1 = length-set k.freed_t1 x 0;
      long_t2 = length-set k.freed_t2 x 0;
      cleared = set_cleared k.numbers x;
      others = λ y ne. get_or-set_other k.numbers x y 0 0 ne;
      cleared_t1 = set_cleared k.freed_t1 x;
      others_t1 = λ y ne. get_or-set_other k.freed_t1 x y 0 0 ne;
      cleared_t2 = set_cleared k.freed_t2 x;
      others_t2 = λ y ne. get_or-set_other k.freed_t2 x y 0 0 ne;
    }

-- where the page has no number, nothing changes
pub without_number-none : (k : SearchMarks) (x : ℕ) → number_of k x ≡ 0 → without_number k x ≡ k
without_number-none k x zero = rw zero refl

or_left : (a b : Bool) → a ≡ true → (a || b) ≡ true
or_left a b h = rw h refl

or_false : (a b : Bool) → (a || b) ≡ false → (a ≡ false) × (b ≡ false)
or_false true b h = absurd (cc)
or_false false b h = (refl, h)

-- a page leaves the cache
pub KnowsCached-without : (pages : ℕ) (xs ys : List ℕ) (x : ℕ) (k l : SearchMarks) (busy other : ℕ → Bool) → Drops k l x
    → k.t1 ≢ Some x → k.t2 ≢ Some x → ((y : ℕ) → y ≢ x → busy y ≡ true → other y ≡ true)
    → KnowsCached pages xs ys k busy → KnowsCached pages (without xs x) (without ys x) l other
KnowsCached-without pages xs ys x k l busy other d n1 n2 more h = record {
  room = rw d.long h.room;
  rooms = (d.long_t1 ∙ h.rooms.0 ∙ sym d.long, d.long_t2 ∙ h.rooms.1 ∙ sym d.long);
  fresh = λ y away. elim (eqb_tells y x) [
    | inl t ↦ ap (number_of l) t.1 ∙ d.cleared
    | inr t ↦
        let both : (contains (without xs x) y ≡ false) × (contains (without ys x) y ≡ false) = or_false
        (contains (without xs x) y) (contains (without ys x) y) away in
        let ne : x ≢ y = λ e. t.1 (sym e) in
        let ex : contains xs y ≡ false = sym (contains-without_other xs x y ne) ∙ both.0 in
        let ey : contains ys y ≡ false = sym (contains-without_other ys x y ne) ∙ both.1 in
        d.others y t.1 ∙ h.fresh y (rw (ex, ey) refl)
  ];
  t1 = subst (λ (o : Option ℕ). KnowsList (without xs x) o l.numbers l.freed_t1 other) (sym d.t1)
      (one xs k.t1 k.freed_t1 l.freed_t1 n1 d.cleared_t1 d.others_t1 h.t1);
  t2 = subst (λ (o : Option ℕ). KnowsList (without ys x) o l.numbers l.freed_t2 other) (sym d.t2)
      (one ys k.t2 k.freed_t2 l.freed_t2 n2 d.cleared_t2 d.others_t2 h.t2);
}
  where
    apart : (zs : List ℕ) (y : ℕ) → contains (without zs x) y ≡ true → y ≢ x
    apart zs y c = λ e. let c' : contains (without zs x) x ≡ true = rw e at c in
        let f : contains (without zs x) x ≡ false = contains-without_same zs x in absurd (cc)

    one : (zs : List ℕ) (at : Option ℕ) (f g : List ℕ) → at ≢ Some x → get_or g x 0 ≡ 0
        → ((y : ℕ) → y ≢ x → get_or g y 0 ≡ get_or f y 0)
        → KnowsList zs at k.numbers f busy → KnowsList (without zs x) at l.numbers g other
    one zs at f g ne gone rest w = KnowsList-less zs (without zs x) at k.numbers l.numbers f g busy other
        (λ a b c. behind-without zs x a b c) (λ y c. contains-without_in zs x y c)
        (λ y c. d.others y (apart zs y c)) (λ y c. rest y (apart zs y c))
        (λ y lt. elim (eqb_tells y x) [
          | inl t ↦ let z : get_or g y 0 ≡ 0 = ap (λ (i : ℕ). get_or g i 0) t.1 ∙ gone in absurd (omega arith)
          | inr t ↦ let e : get_or g y 0 ≡ get_or f y 0 = rest y t.1 in
              let lt' : 0 < get_or f y 0 = omega arith in
              contains-without_other zs x y (λ s. t.1 (sym s)) ∙ (w.freed y lt').0
        ])
        (λ m e c. contains-without_other zs x m (λ s. ne (e ∙ ap Some (sym s))) ∙ c)
        (λ y c b. more y (apart zs y c) b) w

-- a page without a number comes to the front of T1, or of T2
pub KnowsCached-front_t1 : (pages : ℕ) (xs ys : List ℕ) (x : ℕ) (k : SearchMarks) (busy : ℕ → Bool) → number_of k x ≡ 0
    → KnowsCached pages xs ys k busy → KnowsCached pages (x ∷ xs) ys k busy
KnowsCached-front_t1 pages xs ys x k busy zero h = record {
  room = h.room;
  rooms = h.rooms;
  fresh = λ y away. elim (eqb_tells x y) [
    | inl t ↦ ap (number_of k) (sym t.1) ∙ zero
    | inr t ↦ let away' : (contains xs y || contains ys y) ≡ false = rw t.0 at away in h.fresh y away'
  ];
  t1 = KnowsList-front xs x k.t1 k.numbers k.freed_t1 busy zero h.t1;
  t2 = h.t2;
}

pub KnowsCached-front_t2 : (pages : ℕ) (xs ys : List ℕ) (x : ℕ) (k : SearchMarks) (busy : ℕ → Bool) → number_of k x ≡ 0
    → KnowsCached pages xs ys k busy → KnowsCached pages xs (x ∷ ys) k busy
KnowsCached-front_t2 pages xs ys x k busy zero h = record {
  room = h.room;
  rooms = h.rooms;
  fresh = λ y away. elim (eqb_tells x y) [
    | inl t ↦ ap (number_of k) (sym t.1) ∙ zero
    | inr t ↦
        let both : (contains xs y ≡ false) × (contains (x ∷ ys) y ≡ false) = or_false (contains xs y)
        (contains (x ∷ ys) y) away in
        let ey : contains ys y ≡ false = rw t.0 at both.1 in
        h.fresh y (rw (both.0, ey) refl)
  ];
  t1 = h.t1;
  t2 = KnowsList-front ys x k.t2 k.numbers k.freed_t2 busy zero h.t2;
}

-- a victim leaves the cache, and its name is remembered
pub KnowsBusy-remembered : (s : FourLists) (v : ℕ) (k l : SearchMarks) (busy : ℕ → Bool)
    → ((x : ℕ) → times_named s x ≤ 1) → Drops k l v
    → k.t1 ≢ Some v → k.t2 ≢ Some v → KnowsBusy s k busy → KnowsBusy (with_remembered s v) l busy
KnowsBusy-remembered s v k l busy once d n1 n2 h = go (contains s.t1 v) refl
  where
    all : KnowsCached s.pages (without s.t1 v) (without s.t2 v) l busy
    all = KnowsCached-without s.pages s.t1 s.t2 v k l busy busy d n1 n2 (λ y ne b. b) h

    go : (b : Bool) → contains s.t1 v ≡ b → KnowsBusy (with_remembered s v) l busy
    go true e = let z : without s.t2 v ≡ s.t2 = without-absent s.t2 v
        (omega (arith, once v, times_in-contains s.t1 v e)) in
        rw e (subst (λ (ys : List ℕ). KnowsCached s.pages (without s.t1 v) ys l busy) z all)
    go false e = let z : without s.t1 v ≡ s.t1 = without-absent s.t1 v (times_in-contains_not s.t1 v e) in
        rw e (subst (λ (xs : List ℕ). KnowsCached s.pages xs (without s.t2 v) l busy) z all)

-- ---- where a page stands

pub place-in : (s : FourLists) (x : ℕ) (l : ListName) → place s x ≡ Some l → contains (list_of s l) x ≡ true
place-in s x l e = go (contains s.t1 x) (contains s.t2 x) (contains s.b1 x) (contains s.b2 x) refl refl refl refl e
  where
    go : (p q r t : Bool) → contains s.t1 x ≡ p → contains s.t2 x ≡ q → contains s.b1 x ≡ r → contains s.b2 x ≡ t
        → cond p (Some T1) (cond q (Some T2) (cond r (Some B1) (cond t (Some B2) None))) ≡ Some l
        → contains (list_of s l) x ≡ true
    go true q r t hp hq hr ht f = let same : T1 ≡ l = cc in
        subst (λ (k : ListName). contains (list_of s k) x ≡ true) same hp
    go false true r t hp hq hr ht f = let same : T2 ≡ l = cc in
        subst (λ (k : ListName). contains (list_of s k) x ≡ true) same hq
    go false false true t hp hq hr ht f = let same : B1 ≡ l = cc in
        subst (λ (k : ListName). contains (list_of s k) x ≡ true) same hr
    go false false false true hp hq hr ht f = let same : B2 ≡ l = cc in
        subst (λ (k : ListName). contains (list_of s k) x ≡ true) same ht
    go false false false false hp hq hr ht f = absurd (cc)

-- a page of one list stands in no other
not_t2 : (s : FourLists) (x : ℕ) → times_named s x ≤ 1 → contains s.t1 x ≡ true → contains s.t2 x ≡ false
not_t2 s x once h = contains-times_in s.t2 x (omega (arith, times_in-contains s.t1 x h))

not_t1 : (s : FourLists) (x : ℕ) → times_named s x ≤ 1 → contains s.t2 x ≡ true → contains s.t1 x ≡ false
not_t1 s x once h = contains-times_in s.t1 x (omega (arith, times_in-contains s.t2 x h))

after-t1 : (s : FourLists) (x : ℕ) → contains s.t1 x ≡ true → after s x ≡ next_after s.t1 x
after-t1 s x h = rw h refl

after-t2 : (s : FourLists) (x : ℕ) → times_named s x ≤ 1 → contains s.t2 x ≡ true → after s x ≡ next_after s.t2 x
after-t2 s x once h = rw (not_t1 s x once h, h) refl

-- no page comes after itself
next-other : (xs : List ℕ) (x : ℕ) → ((i : ℕ) → times_in xs i ≤ 1) → next_after xs x ≢ Some x
next-other xs x once e = go (behind xs x) refl
  where
    go : (ys : List ℕ) → behind xs x ≡ ys → ⊥
    go [] f = let c : next_after xs x ≡ None = next_after-behind xs x ∙ ap (λ l. slice_get l 0) f in cc
    go (z ∷ zs) f =
        let c : next_after xs x ≡ Some z = next_after-behind xs x ∙ ap (λ l. slice_get l 0) f in
        let same : z ≡ x = cc in
        let r : (contains xs x ≡ true) × (behind xs x ≡ zs) = behind-next xs x x zs once (f ∙ ap (λ w. w ∷ zs) same) in
        let twice : z ∷ zs ≡ zs = sym f ∙ r.1 in
        absurd (omega (arith, ap (length {A = ℕ}) twice))

pub once_in : (s : FourLists) (l : ListName) (x : ℕ) → times_named s x ≤ 1 → times_in (list_of s l) x ≤ 1
once_in s T1 x h = omega arith
once_in s T2 x h = omega arith
once_in s B1 x h = omega arith
once_in s B2 x h = omega arith

pub after-other : (s : FourLists) (x : ℕ) → ((i : ℕ) → times_named s i ≤ 1) → after s x ≢ Some x
after-other s x once = go (place s x)
  where
    go : (o : Option ListName) → option_and_then (λ l. next_after (list_of s l) x) o ≢ Some x
    go None e = absurd (cc)
    go (Some l) e = next-other (list_of s l) x (λ i. once_in s l i (once i)) e

-- ---- what happens to a search

-- more pages are busy
pub KnowsBusy-more : (s : FourLists) (k : SearchMarks) (busy other : ℕ → Bool)
    → ((y : ℕ) → busy y ≡ true → other y ≡ true) → KnowsBusy s k busy → KnowsBusy s k other
KnowsBusy-more s k busy other more h = record {
  room = h.room;
  rooms = h.rooms;
  fresh = h.fresh;
  t1 = KnowsList-more s.t1 k.t1 k.numbers k.freed_t1 busy other (λ y c b. more y b) h.t1;
  t2 = KnowsList-more s.t2 k.t2 k.numbers k.freed_t2 busy other (λ y c b. more y b) h.t2;
}

-- a page with a number is cached
pub KnowsBusy-cached : (s : FourLists) (x : ℕ) (k : SearchMarks) (busy : ℕ → Bool) → 0 < number_of k x
    → KnowsBusy s k busy → (contains s.t1 x || contains s.t2 x) ≡ true
KnowsBusy-cached s x k busy lt h = elim (cases_Bool (contains s.t1 x || contains s.t2 x)) [
  | inl e ↦ e
  | inr e ↦ let z : number_of k x ≡ 0 = h.fresh x e in absurd (omega arith)
]

-- a page that stands nowhere has no number
pub KnowsBusy-nowhere : (s : FourLists) (x : ℕ) (k : SearchMarks) (busy : ℕ → Bool) → place s x ≡ None
    → 0 < number_of k x → KnowsBusy s k busy → ⊥
KnowsBusy-nowhere s x k busy none lt h = go (contains s.t1 x) (contains s.t2 x) refl refl (KnowsBusy-cached s x k busy lt h)
  where
    go : (p q : Bool) → contains s.t1 x ≡ p → contains s.t2 x ≡ q → (contains s.t1 x || contains s.t2 x) ≡ true → ⊥
    go true q hp hq c = let at : place s x ≡ Some T1 = rw hp refl in cc
    go false true hp hq c = let at : place s x ≡ Some T2 = rw (hp, hq) refl in cc
    go false false hp hq c = let f : (contains s.t1 x || contains s.t2 x) ≡ false = rw (hp, hq) refl in cc

-- a page for which there is a number
pub numbered : (k : SearchMarks) (x : ℕ) → 0 < number_of k x → x < length k.numbers
numbered k x lt = elim (cases_lt x (length k.numbers)) [
  | inl h ↦ h
  | inr past ↦ absurd (omega (arith, get_or_past k.numbers x 0 past))
]

-- a page that was passed over stops being busy, and is among the freed ones of its list
pub KnowsBusy-told : (s : FourLists) (x : ℕ) (l : ListName) (k : SearchMarks) (busy other : ℕ → Bool)
    → ((i : ℕ) → times_named s i ≤ 1) → place s x ≡ Some l → 0 < number_of k x
    → ((y : ℕ) → y ≢ x → busy y ≡ true → other y ≡ true) → KnowsBusy s k busy
    → KnowsBusy s (with_freed k l x (number_of k x)) other
KnowsBusy-told s x l k busy other once at lt more h = go l (place-in s x l at)
  where
    low : x < length k.numbers
    low = numbered k x lt

    cached : (contains s.t1 x || contains s.t2 x) ≡ true
    cached = KnowsBusy-cached s x k busy lt h

    away : contains s.t1 x ≡ false → contains s.t2 x ≡ false → ⊥
    away a b = let c : (contains s.t1 x || contains s.t2 x) ≡ false = rw (a, b) refl in clash cached c

    others : (zs : List ℕ) → contains zs x ≡ false → (y : ℕ) → contains zs y ≡ true → busy y ≡ true → other y ≡ true
    others zs gone y c b = more y (λ e. clash (subst (λ (i : ℕ). contains zs i ≡ true) e c) gone) b

    go : (i : ListName) → contains (list_of s i) x ≡ true → KnowsBusy s (with_freed k i x (number_of k x)) other
    go T1 here = record {
      room = h.room;
      rooms = (length-set k.freed_t1 x (number_of k x) ∙ h.rooms.0, h.rooms.1);
      fresh = h.fresh;
      t1 = KnowsList-told s.t1 x k.t1 k.numbers k.freed_t1 busy other here (omega (arith, h.rooms.0, low)) more h.t1;
      t2 = KnowsList-more s.t2 k.t2 k.numbers k.freed_t2 busy other (others s.t2 (not_t2 s x (once x) here)) h.t2;
    }
    go T2 here = record {
      room = h.room;
      rooms = (h.rooms.0, length-set k.freed_t2 x (number_of k x) ∙ h.rooms.1);
      fresh = h.fresh;
      t1 = KnowsList-more s.t1 k.t1 k.numbers k.freed_t1 busy other (others s.t1 (not_t1 s x (once x) here)) h.t1;
      t2 = KnowsList-told s.t2 x k.t2 k.numbers k.freed_t2 busy other here (omega (arith, h.rooms.1, low)) more h.t2;
    }
    go B1 here = absurd (away (contains-times_in s.t1 x (omega (arith, once x, times_in-contains s.b1 x here)))
        (contains-times_in s.t2 x (omega (arith, once x, times_in-contains s.b1 x here))))
    go B2 here = absurd (away (contains-times_in s.t1 x (omega (arith, once x, times_in-contains s.b2 x here)))
        (contains-times_in s.t2 x (omega (arith, once x, times_in-contains s.b2 x here))))

-- a freed page is busy again, and isn't among the freed ones any more
pub KnowsBusy-popped : (s : FourLists) (l : ListName) (x : ℕ) (k : SearchMarks) (busy : ℕ → Bool) → busy x ≡ true
    → KnowsBusy s k busy → KnowsBusy s (with_freed k l x 0) busy
KnowsBusy-popped s l x k busy full h = go l
  where
    of_t2 : KnowsBusy s (record k { freed_t2 = set k.freed_t2 x 0 }) busy
    of_t2 = record {
      room = h.room;
      rooms = (h.rooms.0, length-set k.freed_t2 x 0 ∙ h.rooms.1);
      fresh = h.fresh;
      t1 = h.t1;
      t2 = KnowsList-popped s.t2 x k.t2 k.numbers k.freed_t2 busy full h.t2;
    }

    go : (i : ListName) → KnowsBusy s (with_freed k i x 0) busy
    go T1 = record {
      room = h.room;
      rooms = (length-set k.freed_t1 x 0 ∙ h.rooms.0, h.rooms.1);
      fresh = h.fresh;
      t1 = KnowsList-popped s.t1 x k.t1 k.numbers k.freed_t1 busy full h.t1;
      t2 = h.t2;
    }
    go T2 = of_t2
    go B1 = of_t2
    go B2 = of_t2

freed_of-popped : (k : SearchMarks) (l : ListName) (x : ℕ) → freed_of (with_freed k l x 0) l ≡ set (freed_of k l) x 0
freed_of-popped k T1 x = refl
freed_of-popped k T2 x = refl
freed_of-popped k B1 x = refl
freed_of-popped k B2 x = refl

-- then fewer are among them
pub fewer_freed : (k l : SearchMarks) (i : ListName) (x : ℕ) → l ≡ with_freed k i x 0 → IsLastFreed k i x
    → sum_by counts (freed_of l i) < sum_by counts (freed_of k i)
fewer_freed k l i x e w =
    let same : freed_of l i ≡ set (freed_of k i) x 0 = ap (λ (j : SearchMarks). freed_of j i) e ∙ freed_of-popped k i x in
    let low : x < length (freed_of k i) = elim (cases_lt x (length (freed_of k i))) [
      | inl lt ↦ lt
      | inr past ↦ absurd (omega (arith, get_or_past (freed_of k i) x 0 past, w.0))
    ] in
    let one : counts (get_or (freed_of k i) x 0) ≡ 1 = rw (lt-ltb 0 (get_or (freed_of k i) x 0) w.0) refl in
    let zero : counts 0 ≡ 0 = refl in
    rw same (omega (arith, sum_by-set counts (freed_of k i) x 0 0 low))

-- a mark steps off its page
pub KnowsBusy-step_t1 : (s : FourLists) (x : ℕ) (k l : SearchMarks) (busy : ℕ → Bool)
    → ((i : ℕ) → times_named s i ≤ 1) → k.t1 ≡ Some x → l ≡ record k { t1 = after s x }
    → KnowsBusy s k busy → KnowsBusy s l busy
KnowsBusy-step_t1 s x k l busy once at e h =
    let h1 : KnowsList s.t1 (Some x) k.numbers k.freed_t1 busy = subst (λ (o : Option ℕ).
    KnowsList s.t1 o k.numbers k.freed_t1 busy) at h.t1 in
    subst (λ (w : SearchMarks). KnowsBusy s w busy) (sym e) record {
      room = h.room;
      rooms = h.rooms;
      fresh = h.fresh;
      t1 = KnowsList-step s.t1 x (after s x) k.numbers k.freed_t1 busy
          (λ i. once_in s T1 i (once i)) (sym (after-t1 s x (h1.mark x refl).stands)) h1;
      t2 = h.t2;
    }

pub KnowsBusy-step_t2 : (s : FourLists) (x : ℕ) (k l : SearchMarks) (busy : ℕ → Bool)
    → ((i : ℕ) → times_named s i ≤ 1) → k.t2 ≡ Some x → l ≡ record k { t2 = after s x }
    → KnowsBusy s k busy → KnowsBusy s l busy
KnowsBusy-step_t2 s x k l busy once at e h =
    let h2 : KnowsList s.t2 (Some x) k.numbers k.freed_t2 busy = subst (λ (o : Option ℕ).
    KnowsList s.t2 o k.numbers k.freed_t2 busy) at h.t2 in
    subst (λ (w : SearchMarks). KnowsBusy s w busy) (sym e) record {
      room = h.room;
      rooms = h.rooms;
      fresh = h.fresh;
      t1 = h.t1;
      t2 = KnowsList-step s.t2 x (after s x) k.numbers k.freed_t2 busy
          (λ i. once_in s T2 i (once i)) (sym (after-t2 s x (once x) (h2.mark x refl).stands)) h2;
    }

-- ---- the search

pub KnowsBusy-no_mark : (s : FourLists) (l : ListName) (k : SearchMarks) (busy : ℕ → Bool)
    → KnowsBusy s k busy → KnowsBusy s (with_mark k l None) busy
KnowsBusy-no_mark s l k busy h = go l
  where
    t2 : KnowsBusy s (record k { t2 = None }) busy
    t2 = record {
      room = h.room;
      rooms = h.rooms;
      fresh = h.fresh;
      t1 = h.t1;
      t2 = KnowsList-no_mark s.t2 k.t2 k.numbers k.freed_t2 busy h.t2;
    }

    go : (i : ListName) → KnowsBusy s (with_mark k i None) busy
    go T1 = record {
      room = h.room;
      rooms = h.rooms;
      fresh = h.fresh;
      t1 = KnowsList-no_mark s.t1 k.t1 k.numbers k.freed_t1 busy h.t1;
      t2 = h.t2;
    }
    go T2 = t2
    go B1 = t2
    go B2 = t2

-- what is known of the list of a mark
pub knows_at : (s : FourLists) (l : ListName) (k : SearchMarks) (busy : ℕ → Bool) → (l ≡ T1) ⊎ (l ≡ T2)
    → KnowsBusy s k busy → KnowsList (list_of s l) (mark_of k l) k.numbers (freed_of k l) busy
knows_at s T1 k busy which h = h.t1
knows_at s T2 k busy which h = h.t2
knows_at s B1 k busy which h = elim which [ inl e ↦ absurd (cc) | inr e ↦ absurd (cc) ]
knows_at s B2 k busy which h = elim which [ inl e ↦ absurd (cc) | inr e ↦ absurd (cc) ]

pub mark_at : (s : FourLists) (l : ListName) (m : ℕ) (k : SearchMarks) (busy : ℕ → Bool) → (l ≡ T1) ⊎ (l ≡ T2)
    → mark_of k l ≡ Some m → KnowsBusy s k busy → IsMarkOf (list_of s l) k.numbers m
mark_at s l m k busy which is h = (knows_at s l k busy which h).mark m is

-- where no page has a number, there is no mark, and no page was freed
pub blank_mark : (s : FourLists) (l : ListName) (k : SearchMarks) (busy : ℕ → Bool) → (l ≡ T1) ⊎ (l ≡ T2)
    → ((x : ℕ) → number_of k x ≡ 0) → KnowsBusy s k busy → mark_of k l ≡ None
blank_mark s l k busy which blank h = go (mark_of k l) refl
  where
    go : (o : Option ℕ) → mark_of k l ≡ o → o ≡ None
    go None is = refl
    go (Some m) is = absurd (omega (arith, (mark_at s l m k busy which is h).numbered, blank m))

pub blank_freed : (s : FourLists) (l : ListName) (k : SearchMarks) (busy : ℕ → Bool) → (l ≡ T1) ⊎ (l ≡ T2)
    → ((x : ℕ) → number_of k x ≡ 0) → KnowsBusy s k busy → NoneFreed k l
blank_freed s l k busy which blank h x = free_none (list_of s l) (mark_of k l) k.numbers (freed_of k l) busy x
    (knows_at s l k busy which h) (blank x)

-- the list of a page of T1 or T2
pub place_of : (s : FourLists) (l : ListName) (x : ℕ) → times_named s x ≤ 1 → (l ≡ T1) ⊎ (l ≡ T2)
    → contains (list_of s l) x ≡ true → place s x ≡ Some l
place_of s T1 x once which h = rw h refl
place_of s T2 x once which h = rw (not_t1 s x once h, h) refl
place_of s B1 x once which h = elim which [ inl e ↦ absurd (cc) | inr e ↦ absurd (cc) ]
place_of s B2 x once which h = elim which [ inl e ↦ absurd (cc) | inr e ↦ absurd (cc) ]

-- a page of a list below `pages` is one for which there is a number
pub room_for : (s : FourLists) (l : ListName) (x : ℕ) (k : SearchMarks) (busy : ℕ → Bool)
    → ((i : ℕ) → 0 < times_named s i → i < s.pages) → contains (list_of s l) x ≡ true → KnowsBusy s k busy
    → x < length k.numbers
room_for s l x k busy below here h = omega (arith, below x (stands l (times_in-contains (list_of s l) x here)), h.room)
  where
    stands : (i : ListName) → 1 ≤ times_in (list_of s i) x → 0 < times_named s x
    stands T1 w = omega arith
    stands T2 w = omega arith
    stands B1 w = omega arith
    stands B2 w = omega arith

pub mark_of-passed : (k : SearchMarks) (l : ListName) (x n : ℕ) → mark_of (passed k l x n) l ≡ Some x
mark_of-passed k T1 x n = refl
mark_of-passed k T2 x n = refl
mark_of-passed k B1 x n = refl
mark_of-passed k B2 x n = refl

-- what the search finds
pub found_freed : (s : FourLists) (l : ListName) (p : ℕ) (k : SearchMarks) (busy : ℕ → Bool) → (l ≡ T1) ⊎ (l ≡ T2)
    → busy p ≡ false → IsLastFreed k l p → KnowsBusy s k busy → last_not_busy (list_of s l) busy ≡ Some p
found_freed s l p k busy which idle last h =
    last_of_freed (list_of s l) (mark_of k l) k.numbers (freed_of k l) busy p (knows_at s l k busy which h) idle last.0
    last.1

pub found_ahead : (s : FourLists) (l : ListName) (m z : ℕ) (k : SearchMarks) (busy : ℕ → Bool) → (l ≡ T1) ⊎ (l ≡ T2)
    → mark_of k l ≡ Some m → NoneFreed k l → contains (list_of s l) z ≡ true
    → behind (list_of s l) z ≡ m ∷ behind (list_of s l) m → busy z ≡ false
    → KnowsBusy s k busy → last_not_busy (list_of s l) busy ≡ Some z
found_ahead s l m z k busy which is none here next idle h =
    last-behind (list_of s l) busy z here idle (λ y b. busy_behind (list_of s l) m z y (mark_of k l) k.numbers
    (freed_of k l) busy next none (mark_at s l m k busy which is h) (knows_at s l k busy which h) b)

pub found_none : (s : FourLists) (l : ListName) (m : ℕ) (k : SearchMarks) (busy : ℕ → Bool) → (l ≡ T1) ⊎ (l ≡ T2)
    → mark_of k l ≡ Some m → NoneFreed k l → list_of s l ≡ m ∷ behind (list_of s l) m
    → KnowsBusy s k busy → last_not_busy (list_of s l) busy ≡ None
found_none s l m k busy which is none first h =
    let w : IsMarkOf (list_of s l) k.numbers m = mark_at s l m k busy which is h in
    let v : KnowsList (list_of s l) (mark_of k l) k.numbers (freed_of k l) busy = knows_at s l k busy which h in
    none-busy (list_of s l) busy (λ y c.
    let c' : contains (m ∷ behind (list_of s l) m) y ≡ true = subst (λ (xs : List ℕ). contains xs y ≡ true) first c in
    elim (eqb_tells m y) [
      | inl t ↦ ap busy (sym t.1)
          ∙ passed_busy (list_of s l) (mark_of k l) k.numbers (freed_of k l) busy m none v w.stands w.numbered
      | inr t ↦
          let b : contains (behind (list_of s l) m) y ≡ true = rw t.0 at c' in
          passed_busy (list_of s l) (mark_of k l) k.numbers (freed_of k l) busy y none v
          (behind-in (list_of s l) m y b) (omega (arith, v.rise m y w.numbered b))
    ])

pub found_last : (xs : List ℕ) (l : ℕ) (busy : ℕ → Bool) → ((i : ℕ) → times_in xs i ≤ 1) → last_page xs ≡ Some l
    → busy l ≡ false → last_not_busy xs busy ≡ Some l
found_last xs l busy once e idle = last-behind xs busy l (contains-last xs l e) idle
    (λ y b. let b' : contains [] y ≡ true = rw (behind-last xs l once e) at b in absurd (cc))

pub found_in_none : (xs : List ℕ) (busy : ℕ → Bool) → last_page xs ≡ None → last_not_busy xs busy ≡ None
found_in_none xs busy e = rw (last-none xs e) refl

-- a search passes over a page of a list: the other list keeps what is known of it
pass_other : (xs : List ℕ) (z n : ℕ) (at : Option ℕ) (ns f : List ℕ) (busy : ℕ → Bool) → contains xs z ≡ false
    → KnowsList xs at ns f busy → KnowsList xs at (set ns z n) f busy
pass_other xs z n at ns f busy away h = KnowsList-less xs xs at ns (set ns z n) f f busy busy (λ a b c. c) (λ y c. c)
    (λ y c. get_or-set_other ns z y n 0 (λ e. clash (subst (λ (i : ℕ). contains xs i ≡ true) e c) away))
    (λ y c. refl) (λ y lt. (h.freed y lt).0) (λ m e c. c) (λ y c b. b) h

-- what passing over a page of T1 or T2 asks of its list
pub KnowsBusy-passed : (s : FourLists) (l : ListName) (z n : ℕ) (k : SearchMarks) (busy : ℕ → Bool)
    → ((i : ℕ) → times_named s i ≤ 1) → (l ≡ T1) ⊎ (l ≡ T2) → contains (list_of s l) z ≡ true
    → KnowsList (list_of s l) (Some z) (set k.numbers z n) (freed_of k l) busy → KnowsBusy s k busy
    → KnowsBusy s (passed k l z n) busy
KnowsBusy-passed s l z n k busy once which here own h = go l which here own
  where
    rooms : (length k.freed_t1 ≡ length (set k.numbers z n)) × (length k.freed_t2 ≡ length (set k.numbers z n))
    rooms = (h.rooms.0 ∙ sym (length-set k.numbers z n), h.rooms.1 ∙ sym (length-set k.numbers z n))

    fresh : (contains s.t1 z || contains s.t2 z) ≡ true
        → (y : ℕ) → (contains s.t1 y || contains s.t2 y) ≡ false → get_or (set k.numbers z n) y 0 ≡ 0
    fresh c y f = get_or-set_other k.numbers z y n 0
        (λ e. clash (subst (λ (i : ℕ). (contains s.t1 i || contains s.t2 i) ≡ true) (sym e) c) f) ∙ h.fresh y f

    go : (i : ListName) → (i ≡ T1) ⊎ (i ≡ T2) → contains (list_of s i) z ≡ true
        → KnowsList (list_of s i) (Some z) (set k.numbers z n) (freed_of k i) busy → KnowsBusy s (passed k i z n) busy
    go T1 which here own = record {
      room = rw (length-set k.numbers z n) h.room;
      rooms = rooms;
      fresh = fresh (or_left (contains s.t1 z) (contains s.t2 z) here);
      t1 = own;
      t2 = pass_other s.t2 z n k.t2 k.numbers k.freed_t2 busy (not_t2 s z (once z) here) h.t2;
    }
    go T2 which here own = record {
      room = rw (length-set k.numbers z n) h.room;
      rooms = rooms;
      fresh = fresh (or_right (contains s.t1 z) (contains s.t2 z) here);
      t1 = pass_other s.t1 z n k.t1 k.numbers k.freed_t1 busy (not_t1 s z (once z) here) h.t1;
      t2 = own;
    }
    go B1 which here own = elim which [ inl e ↦ absurd (cc) | inr e ↦ absurd (cc) ]
    go B2 which here own = elim which [ inl e ↦ absurd (cc) | inr e ↦ absurd (cc) ]

pub none_passed : (k : SearchMarks) (l : ListName) (z n : ℕ) → NoneFreed k l → NoneFreed (passed k l z n) l
none_passed k T1 z n h = h
none_passed k T2 z n h = h
none_passed k B1 z n h = h
none_passed k B2 z n h = h

-- over the page ahead of the mark
pub KnowsBusy-pass : (s : FourLists) (l : ListName) (m z n : ℕ) (k : SearchMarks) (busy : ℕ → Bool)
    → ((i : ℕ) → times_named s i ≤ 1) → ((i : ℕ) → 0 < times_named s i → i < s.pages) → (l ≡ T1) ⊎ (l ≡ T2)
    → mark_of k l ≡ Some m → NoneFreed k l → busy z ≡ true → contains (list_of s l) z ≡ true
    → behind (list_of s l) z ≡ m ∷ behind (list_of s l) m → 0 < n → n + 1 ≡ number_of k m
    → KnowsBusy s k busy → KnowsBusy s (passed k l z n) busy
KnowsBusy-pass s l m z n k busy once below which is none full here next some en h =
    let same : get_or (set k.numbers z n) z 0 ≡ n = get_or-set_same k.numbers z n 0 (room_for s l z k busy below here h) in
    KnowsBusy-passed s l z n k busy once which here
    (KnowsList-pass (list_of s l) m z k.numbers (set k.numbers z n) (freed_of k l) busy here next full
    (omega arith) (omega arith) (λ y ne. get_or-set_other k.numbers z y n 0 ne) none
    (subst (λ (o : Option ℕ). KnowsList (list_of s l) o k.numbers (freed_of k l) busy) is (knows_at s l k busy which h)))
    h

-- over the last page
pub KnowsBusy-start : (s : FourLists) (l : ListName) (z : ℕ) (k : SearchMarks) (busy : ℕ → Bool)
    → ((i : ℕ) → times_named s i ≤ 1) → ((i : ℕ) → 0 < times_named s i → i < s.pages) → (l ≡ T1) ⊎ (l ≡ T2)
    → NoneFreed k l → busy z ≡ true → number_of k z < 4294967296
    → last_page (list_of s l) ≡ Some z → KnowsBusy s k busy → KnowsBusy s (passed k l z 4294967295) busy
KnowsBusy-start s l z k busy once below which none full low e h =
    let here : contains (list_of s l) z ≡ true = contains-last (list_of s l) z e in
    KnowsBusy-passed s l z 4294967295 k busy once which here
    (KnowsList-start (list_of s l) z (mark_of k l) k.numbers (set k.numbers z 4294967295) (freed_of k l) busy here
    (behind-last (list_of s l) z (λ i. once_in s l i (once i)) e) full
    (get_or-set_same k.numbers z 4294967295 0 (room_for s l z k busy below here h)) low
    (λ y ne. get_or-set_other k.numbers z y 4294967295 0 ne) none (knows_at s l k busy which h))
    h

-- a page that the search found in a list, at which the list's mark isn't, is at no mark
pub no_mark_at : (s : FourLists) (l : ListName) (x : ℕ) (k : SearchMarks) (busy : ℕ → Bool)
    → ((i : ℕ) → times_named s i ≤ 1) → (l ≡ T1) ⊎ (l ≡ T2) → contains (list_of s l) x ≡ true
    → mark_of k l ≢ Some x → KnowsBusy s k busy → (k.t1 ≢ Some x) × (k.t2 ≢ Some x)
no_mark_at s T1 x k busy once which here ne h = (
  ne,
  λ e.
      clash (mark_at s T2 x k busy (inr refl) e h).stands (not_t2 s x (once x) here),
)
no_mark_at s T2 x k busy once which here ne h = (
  λ e.
      clash (mark_at s T1 x k busy (inl refl) e h).stands (not_t1 s x (once x) here),
  ne,
)
no_mark_at s B1 x k busy once which here ne h = elim which [ inl e ↦ absurd (cc) | inr e ↦ absurd (cc) ]
no_mark_at s B2 x k busy once which here ne h = elim which [ inl e ↦ absurd (cc) | inr e ↦ absurd (cc) ]

pub unmarked : (s : FourLists) (l : ListName) (k : SearchMarks) (busy : ℕ → Bool) (o : Option ℕ)
    → ((i : ℕ) → times_named s i ≤ 1) → (l ≡ T1) ⊎ (l ≡ T2) → o ≡ last_not_busy (list_of s l) busy
    → IfSome o (λ x. mark_of k l ≢ Some x) → KnowsBusy s k busy → IfSome o (λ x. (k.t1 ≢ Some x) × (k.t2 ≢ Some x))
unmarked s l k busy None once which e ne h = tt
unmarked s l k busy (Some x) once which e ne h =
    no_mark_at s l x k busy once which (contains-last_not_busy (list_of s l) busy x (sym e)) ne h

-- a mark is at a busy page, where no page was freed
pub busy_mark : (s : FourLists) (l : ListName) (m : ℕ) (k : SearchMarks) (busy : ℕ → Bool) → (l ≡ T1) ⊎ (l ≡ T2)
    → mark_of k l ≡ Some m → NoneFreed k l → KnowsBusy s k busy → busy m ≡ true
busy_mark s l m k busy which is none h =
    let w : IsMarkOf (list_of s l) k.numbers m = mark_at s l m k busy which is h in
    passed_busy (list_of s l) (mark_of k l) k.numbers (freed_of k l) busy m none (knows_at s l k busy which h) w.stands
    w.numbered

-- nothing was passed over yet
pub KnowsBusy-new : (s : FourLists) (k : SearchMarks) (busy : ℕ → Bool) → k.t1 ≡ None → k.t2 ≡ None
    → ((x : ℕ) → number_of k x ≡ 0) → ((x : ℕ) → get_or k.freed_t1 x 0 ≡ 0) → ((x : ℕ) → get_or k.freed_t2 x 0 ≡ 0)
    → length k.freed_t1 ≡ length k.numbers → length k.freed_t2 ≡ length k.numbers → s.pages ≤ length k.numbers
    → KnowsBusy s k busy
KnowsBusy-new s k busy e1 e2 blank n1 n2 l1 l2 room = record {
  room = room;
  rooms = (l1, l2);
  fresh = λ x away. blank x;
  t1 = one s.t1 k.t1 k.freed_t1 e1 n1;
  t2 = one s.t2 k.t2 k.freed_t2 e2 n2;
}
  where
    one : (zs : List ℕ) (at : Option ℕ) (f : List ℕ) → at ≡ None → ((x : ℕ) → get_or f x 0 ≡ 0)
        → KnowsList zs at k.numbers f busy
    one zs at f is none = record {
      rise = λ x y lt b. absurd (omega (arith, blank x));
      passed = λ y c lt. absurd (omega (arith, blank y));
      freed = λ y lt. absurd (omega (arith, none y));
      mark = λ m e. let n : None ≡ Some m = sym is ∙ e in absurd (cc);
    }

-- ---- leaving

-- a page without a number leaves
pub KnowsBusy-gone : (s : FourLists) (x : ℕ) (k : SearchMarks) (busy other : ℕ → Bool) → number_of k x ≡ 0
    → ((y : ℕ) → y ≢ x → busy y ≡ true → other y ≡ true) → KnowsBusy s k busy → KnowsBusy (forget s x) k other
KnowsBusy-gone s x k busy other zero more h =
    KnowsCached-without s.pages s.t1 s.t2 x k k busy other (Drops-same s k busy x zero h) n1 n2 more h
  where
    n1 : k.t1 ≢ Some x
    n1 e = let w : IsMarkOf s.t1 k.numbers x = mark_at s T1 x k busy (inl refl) e h in absurd (omega (arith, w.numbered))

    n2 : k.t2 ≢ Some x
    n2 e = let w : IsMarkOf s.t2 k.numbers x = mark_at s T2 x k busy (inr refl) e h in absurd (omega (arith, w.numbered))

-- a page at which no mark is leaves
pub KnowsBusy-left : (s : FourLists) (x : ℕ) (k l : SearchMarks) (busy other : ℕ → Bool) → k.t1 ≢ Some x → k.t2 ≢ Some x
    → l ≡ without_number k x → ((y : ℕ) → y ≢ x → busy y ≡ true → other y ≡ true)
    → KnowsBusy s k busy → KnowsBusy (forget s x) l other
KnowsBusy-left s x k l busy other n1 n2 e more h =
    subst (λ (w : SearchMarks). KnowsBusy (forget s x) w other) (sym e)
    (KnowsCached-without s.pages s.t1 s.t2 x k (without_number k x) busy other (Drops-without_number s k busy x h) n1 n2
    more h)

-- an option that is told to be a page
pub option_is : (o : Option ℕ) (x : ℕ) (b : Bool) → b ≡ option_eq eqb o (Some x) → b ≡ true → o ≡ Some x
option_is None x b e t = absurd (clash t e)
option_is (Some y) x b e t = elim (eqb_tells y x) [
  | inl u ↦ ap Some u.1
  | inr u ↦ absurd (clash (sym e ∙ t) u.0)
]

-- ---- steps of a directory

-- what is known of lists s is known of lists t, though x may stop being busy
abbrev pub Keeps : FourLists → FourLists → SearchMarks → SearchMarks → ℕ → Type 0
Keeps s t k l x = (busy other : ℕ → Bool) → KnowsBusy s k busy
    → ((y : ℕ) → y ≢ x → busy y ≡ true → other y ≡ true) → KnowsBusy t l other

-- the same, though x and y may stop being busy
abbrev pub KeepsBut : FourLists → FourLists → SearchMarks → SearchMarks → ℕ → ℕ → Type 0
KeepsBut s t k l x y = (busy other : ℕ → Bool) → KnowsBusy s k busy
    → ((i : ℕ) → i ≢ x → i ≢ y → busy i ≡ true → other i ≡ true) → KnowsBusy t l other

-- these pages and one more
abbrev or_page : (ℕ → Bool) → ℕ → ℕ → Bool
or_page busy x y = eqb y x || busy y

or_page-in : (busy other : ℕ → Bool) (x v : ℕ) → ((i : ℕ) → i ≢ x → i ≢ v → busy i ≡ true → other i ≡ true)
    → (y : ℕ) → y ≢ x → busy y ≡ true → or_page other v y ≡ true
or_page-in busy other x v more y ne b = elim (eqb_tells y v) [
  | inl t ↦ rw t.0 refl
  | inr t ↦ or_right (eqb y v) (other y) (more y ne t.1 b)
]

or_page-out : (other : ℕ → Bool) (v y : ℕ) → y ≢ v → or_page other v y ≡ true → other y ≡ true
or_page-out other v y ne b = let b' : other y ≡ true = rw (eqb_not y v ne) at b in b'

-- a page without a number goes to the front of T2, from wherever it stands
pub KnowsBusy-to_t2 : (s : FourLists) (x : ℕ) (k : SearchMarks) (busy other : ℕ → Bool) → number_of k x ≡ 0
    → ((y : ℕ) → y ≢ x → busy y ≡ true → other y ≡ true) → KnowsBusy s k busy → KnowsBusy (with_front_of_t2 s x) k other
KnowsBusy-to_t2 s x k busy other zero more h =
    KnowsCached-front_t2 s.pages (without s.t1 x) (without s.t2 x) x k other zero
    (KnowsBusy-gone s x k busy other zero more h)

-- a page that left its list comes to the front of T2
pub KnowsBusy-moved : (s : FourLists) (x : ℕ) (k : SearchMarks) (busy : ℕ → Bool)
    → KnowsBusy (forget s x) k busy → KnowsBusy (with_front_of_t2 s x) k busy
KnowsBusy-moved s x k busy h =
    KnowsCached-front_t2 s.pages (without s.t1 x) (without s.t2 x) x k busy
    (h.fresh x (rw (contains-without_same s.t1 x, contains-without_same s.t2 x) refl)) h

-- a page without a number comes to the front of a list
pub KnowsBusy-put : (s : FourLists) (l : ListName) (x : ℕ) (k : SearchMarks) (busy : ℕ → Bool) → number_of k x ≡ 0
    → KnowsBusy s k busy → KnowsBusy (with_front s l x) k busy
KnowsBusy-put s T1 x k busy zero h = KnowsCached-front_t1 s.pages s.t1 s.t2 x k busy zero h
KnowsBusy-put s T2 x k busy zero h = KnowsCached-front_t2 s.pages s.t1 s.t2 x k busy zero h
KnowsBusy-put s B1 x k busy zero h = h
KnowsBusy-put s B2 x k busy zero h = h

-- a page under another name
pub KeepsBut-renamed : (s : FourLists) (o : Option ListName) (x y : ℕ) (k j l : SearchMarks)
    → Keeps s (forget s x) k j x → Keeps (forget s x) (forget (forget s x) y) j l y
    → KeepsBut s (renamed_in o (forget (forget s x) y) y) k l x y
KeepsBut-renamed s o x y k j l first second busy other h more =
    go o (second (or_page other y) other (first busy (or_page other y) h (or_page-in busy other x y more))
    (or_page-out other y))
  where
    t : FourLists
    t = forget (forget s x) y

    go : (p : Option ListName) → KnowsBusy (forget (forget s x) y) l other
        → KnowsBusy (renamed_in p (forget (forget s x) y) y) l other
    go None w = w
    go (Some list) w = KnowsBusy-put (forget (forget s x) y) list y l other
        (w.fresh y (rw (contains-without_same (without s.t1 x) y, contains-without_same (without s.t2 x) y) refl)) w

-- a victim comes back in the place of a page
not_in : (xs : List ℕ) (x v : ℕ) → contains xs v ≡ false → contains (without xs x) v ≡ false
not_in xs x v away = elim (cases_Bool (contains (without xs x) v)) [
  | inl e ↦ absurd (clash (contains-without_in xs x v e) away)
  | inr e ↦ e
]

pub KeepsBut-bring_back : (s t : FourLists) (x v : ℕ) (k l : SearchMarks) → is_cached s v ≡ false → t ≡ forget s x
    → Keeps s t k l x → KeepsBut s (with_front_of_t2 t v) k l x v
KeepsBut-bring_back s t x v k l away e keeps busy other h more =
    let w : KnowsBusy t l (or_page other v) = keeps busy (or_page other v) h (or_page-in busy other x v more) in
    let both : (contains s.t1 v ≡ false) × (contains s.t2 v ≡ false) = or_false (contains s.t1 v) (contains s.t2 v)
    away in
    let gone : is_cached t v ≡ false = subst (λ (u : FourLists). is_cached u v ≡ false) (sym e)
    (rw (not_in s.t1 x v both.0, not_in s.t2 x v both.1) refl) in
    KnowsBusy-to_t2 t v l (or_page other v) other (w.fresh v gone) (or_page-out other v) w

-- REPLACE's answer is carried out
pub KnowsBusy-replaced : (s : FourLists) (k : SearchMarks) (busy : ℕ → Bool) (answer : Answer)
    → ((x : ℕ) → times_named s x ≤ 1) → FoundIn s k busy answer
    → KnowsBusy (after_replace s answer) (without_victim k answer) busy
KnowsBusy-replaced s k busy Hit once f = f.knows
KnowsBusy-replaced s k busy Free once f = f.knows
KnowsBusy-replaced s k busy AllBusy once f = f.knows
KnowsBusy-replaced s k busy (Evict v) once f = KnowsBusy-remembered s v k (without_number k v) busy once
    (Drops-without_number s k busy v f.knows) (f.t1 v refl) (f.t2 v refl) f.knows

-- a page that isn't cached has no number after that either
victim_number : (k : SearchMarks) (answer : Answer) (x : ℕ) → number_of k x ≡ 0 → number_of (without_victim k answer) x ≡ 0
victim_number k Hit x e = e
victim_number k Free x e = e
victim_number k AllBusy x e = e
victim_number k (Evict v) x e = elim (cases_Bool (nat_lt 0 (number_of k v))) [
  | inl t ↦ rw t (elim (eqb_tells x v) [
    | inl u ↦ subst (λ (i : ℕ). get_or (set k.numbers v 0) i 0 ≡ 0) (sym u.1) (set_cleared k.numbers v)
    | inr u ↦ get_or-set_other k.numbers v x 0 0 u.1 ∙ e
  ])
  | inr t ↦ rw t e
]

-- a remembered page is cached in the place of a victim
pub KnowsBusy-remembered_page : (s : FourLists) (x : ℕ) (k : SearchMarks) (busy : ℕ → Bool) (answer : Answer)
    → ((i : ℕ) → times_named s i ≤ 1) → 1 ≤ times_in s.b1 x + times_in s.b2 x → FoundIn s k busy answer
    → KnowsBusy (with_front_of_t2 (after_replace s answer) x) (without_victim k answer) busy
KnowsBusy-remembered_page s x k busy answer once named f =
    KnowsBusy-to_t2 (after_replace s answer) x (without_victim k answer) busy busy
    (victim_number k answer x (f.knows.fresh x (rw (
      contains-times_in s.t1 x (omega (arith, once x)),
      contains-times_in s.t2 x (omega (arith, once x)),
    ) refl))) (λ y ne b. b) (KnowsBusy-replaced s k busy answer once f)

-- a new page is cached in the place of a victim, where a name may have been dropped before
pub KnowsBusy-new_page : (s t : FourLists) (x : ℕ) (k : SearchMarks) (busy : ℕ → Bool) (answer : Answer)
    → ((i : ℕ) → times_named t i ≤ 1) → times_named s x ≡ 0 → t.pages ≡ s.pages → t.t1 ≡ s.t1 → t.t2 ≡ s.t2
    → FoundIn s k busy answer → KnowsBusy (with_front_of_t1 (after_replace t answer) x) (without_victim k answer) busy
KnowsBusy-new_page s t x k busy answer once absent pages t1 t2 f =
    KnowsBusy-put (after_replace t answer) T1 x (without_victim k answer) busy
    (victim_number k answer x (f.knows.fresh x (rw (
      contains-times_in s.t1 x (omega arith),
      contains-times_in s.t2 x (omega arith),
    ) refl)))
    (KnowsBusy-replaced t k busy answer once record { knows = same; t1 = f.t1; t2 = f.t2 })
  where
    same : KnowsBusy t k busy
    same = rw (pages, t1, t2) f.knows

-- a new page is cached in the place of a victim that is remembered nowhere
pub KnowsBusy-in_t1 : (s : FourLists) (x v : ℕ) (k : SearchMarks) (busy : ℕ → Bool) → times_named s x ≡ 0
    → k.t1 ≢ Some v → k.t2 ≢ Some v → KnowsBusy s k busy
    → KnowsBusy (with_front_of_t1 (forget s v) x) (without_number k v) busy
KnowsBusy-in_t1 s x v k busy absent n1 n2 h =
    KnowsBusy-put (forget s v) T1 x (without_number k v) busy
    (victim_number k (Evict v) x (h.fresh x (rw (
      contains-times_in s.t1 x (omega arith),
      contains-times_in s.t2 x (omega arith),
    ) refl)))
    (KnowsBusy-left s v k (without_number k v) busy busy n1 n2 refl (λ y ne b. b) h)

-- the same, step by step
pub KeepsBut-rename : (s t u v : FourLists) (o : Option ListName) (x y : ℕ) (k j l : SearchMarks) → t ≡ forget s x
    → u ≡ forget t y → v ≡ renamed_in o u y → Keeps s (forget s x) k j x → Keeps t (forget t y) j l y
    → KeepsBut s v k l x y
KeepsBut-rename s t u v o x y k j l et eu ev first second =
    let second' : Keeps (forget s x) (forget (forget s x) y) j l y = subst (λ (w : FourLists).
    Keeps w (forget w y) j l y) et second in
    subst (λ (w : FourLists). KeepsBut s w k l x y)
    (sym (ev ∙ ap (λ (w : FourLists). renamed_in o w y) (eu ∙ ap (λ (w : FourLists). forget w y) et)))
    (KeepsBut-renamed s o x y k j l first second')
