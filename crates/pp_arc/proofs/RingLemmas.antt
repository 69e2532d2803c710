-- Lemmas on one row of linked nodes: what a put in front, a removal, and a walk find.
use Rattle.std.proofs.Common.{◌≡◌, ◌≢◌, ℕ, ◌+◌, ◌≤◌, List, [], ◌∷◌, length, refl, arith, ap, sym, subst, inl, inr}
use Rattle.std.proofs.lemmas.Bool.Decides.{eqb_tells}
use Rattle.pp_arc.specs.Pages.{times_in, without}
use Rattle.pp_arc.specs.Table.{follow, Linked}

-- who follows the links passes the pages
pub follow-Linked : (after before : ℕ → ℕ) (xs : List ℕ) (a b : ℕ) → Linked after before a xs b
    → follow after (length xs) a ≡ xs
follow-Linked after before [] a b h = refl
follow-Linked after before (x ∷ xs) a b h = rw h.0 (ap (λ l. x ∷ l) (follow-Linked after before xs x b h.2))

-- a page in front stands once more
pub times_in-front : (y : ℕ) (ys : List ℕ) → times_in (y ∷ ys) y ≡ 1 + times_in ys y
times_in-front y ys = elim (eqb_tells y y) [ inl t ↦ rw t.0 refl | inr t ↦ absurd (t.1 refl) ]

pub times_in-other : (y x : ℕ) (ys : List ℕ) → y ≢ x → times_in (y ∷ ys) x ≡ times_in ys x
times_in-other y x ys ne = elim (eqb_tells y x) [ inl t ↦ absurd (ne t.1) | inr t ↦ rw t.0 (omega arith) ]

-- what stands in a list is none of what doesn't
pub apart : (xs : List ℕ) (i j : ℕ) → 1 ≤ times_in xs i → times_in xs j ≡ 0 → i ≢ j
apart xs i j s z = λ e. let s' : 1 ≤ times_in xs j = rw e at s in absurd (omega arith)

-- a row stays where each link that it has stays
pub Linked-same : (n p n' p' : ℕ → ℕ) (xs : List ℕ) (a b : ℕ) → n' a ≡ n a → p' b ≡ p b
    → ((i : ℕ) → 1 ≤ times_in xs i → (n' i ≡ n i) × (p' i ≡ p i)) → Linked n p a xs b → Linked n' p' a xs b
Linked-same n p n' p' [] a b sn sp same h = (cc, cc)
Linked-same n p n' p' (x ∷ xs) a b sn sp same h =
    let here : (n' x ≡ n x) × (p' x ≡ p x) = same x (omega (arith, times_in-front x xs)) in
    (cc, cc, Linked-same n p n' p' xs x b here.0 sp (λ i s. same i (omega arith)) h.2)

-- what comes after the node from which a row leads
pub Linked-after : (P : ℕ → Type 0) (n p : ℕ → ℕ) (xs : List ℕ) (a b : ℕ) → P b → ((i : ℕ) → 1 ≤ times_in xs i → P i)
    → Linked n p a xs b → P (n a) × (p (n a) ≡ a)
Linked-after P n p [] a b pb all h = (rw h.0 pb, rw h.0 h.1)
Linked-after P n p (x ∷ xs) a b pb all h = (rw h.0 (all x (omega (arith, times_in-front x xs))), rw h.0 h.1)

-- the two neighbours of a page of a row
pub record Neighbours (P : ℕ → Type 0) (n p : ℕ → ℕ) (x : ℕ) : Type 0 where
  pub back : n (p x) ≡ x
  pub forth : p (n x) ≡ x
  pub before : P (p x)
  pub after : P (n x)

pub Neighbours-Linked : (P : ℕ → Type 0) (n p : ℕ → ℕ) (xs : List ℕ) (a b x : ℕ) → P a → P b
    → ((i : ℕ) → 1 ≤ times_in xs i → P i)
    → Linked n p a xs b → 1 ≤ times_in xs x → Neighbours P n p x
Neighbours-Linked P n p [] a b x pa pb all h s = absurd (omega arith)
Neighbours-Linked P n p (y ∷ ys) a b x pa pb all h s =
    elim (eqb_tells y x) [
      | inl t ↦ neighbours t.1
      | inr t ↦ let s' : 1 ≤ 0 + times_in ys x = rw t.0 at s in
          Neighbours-Linked P n p ys y b x (all y (omega (arith, times_in-front y ys))) pb (λ i k. all i (omega arith))
          h.2 (omega arith)
    ]
  where
    neighbours : y ≡ x → Neighbours P n p x
    neighbours e = let m : P (n y) × (p (n y) ≡ y) = Linked-after P n p ys y b pb (λ i k. all i (omega arith)) h.2 in
        rw (← e) record { back = rw h.1 h.0; forth = m.1; before = rw h.1 pa; after = m.0 }

-- a list without a page that it lacks
pub without-absent : (xs : List ℕ) (x : ℕ) → times_in xs x ≡ 0 → without xs x ≡ xs
without-absent [] x h = refl
without-absent (y ∷ ys) x h =
    elim (eqb_tells y x) [
      | inl t ↦ let h' : 1 + times_in ys x ≡ 0 = rw t.0 at h in absurd (omega arith)
      | inr t ↦ let h' : 0 + times_in ys x ≡ 0 = rw t.0 at h in rw t.0
          (ap (λ l. y ∷ l) (without-absent ys x (omega arith)))
    ]

-- a list without its first page
without-front : (y x : ℕ) (ys : List ℕ) → y ≡ x → times_in ys x ≡ 0 → without (y ∷ ys) x ≡ ys
without-front y x ys e h = elim (eqb_tells y x) [ inl t ↦ rw t.0 (without-absent ys x h) | inr t ↦ absurd (t.1 e) ]

-- a page is linked in before the first one
pub Linked-put : (n p n' p' : ℕ → ℕ) (xs : List ℕ) (a b x : ℕ)
    → ((i : ℕ) → times_in xs i ≤ 1) → times_in xs a ≡ 0 → times_in xs b ≡ 0 → times_in xs x ≡ 0 → b ≢ x
    → n' a ≡ x → n' x ≡ n a → ((i : ℕ) → i ≢ a → i ≢ x → n' i ≡ n i)
    → p' x ≡ a → p' (n a) ≡ x → ((i : ℕ) → i ≢ x → i ≢ n a → p' i ≡ p i)
    → Linked n p a xs b → Linked n' p' a (x ∷ xs) b
Linked-put n p n' p' [] a b x once fa fb fx bx na nx ns px pf ps h =
    (na, px, (cc, rw h.0 at pf))
Linked-put n p n' p' (y ∷ ys) a b x once fa fb fx bx na nx ns px pf ps h =
    let y1 : 1 ≤ times_in (y ∷ ys) y = omega (arith, times_in-front y ys) in
    let y0 : times_in ys y ≡ 0 = omega (arith, times_in-front y ys, once y) in
    let far : (i : ℕ) → i ≢ y → i ≢ n a = rw h.0 (λ i ne. ne) in (
      na,
      px,
      (
        cc,
        rw h.0 at pf,
        Linked-same n p n' p' ys y b
            (ns y (apart (y ∷ ys) y a y1 fa) (apart (y ∷ ys) y x y1 fx))
            (ps b bx (far b (λ e. apart (y ∷ ys) y b y1 fb (sym e))))
            (λ i s. let s' : 1 ≤ times_in (y ∷ ys) i = omega arith in (
              ns i (apart (y ∷ ys) i a s' fa) (apart (y ∷ ys) i x s' fx),
              ps i (apart (y ∷ ys) i x s' fx)
                  (far i (apart ys i y s y0)),
            ))
            h.2,
      ),
    )

-- a page is taken out
pub Linked-take : (n p n' p' : ℕ → ℕ) (xs : List ℕ) (a b x : ℕ)
    → ((i : ℕ) → times_in xs i ≤ 1) → times_in xs a ≡ 0 → times_in xs b ≡ 0 → times_in xs x ≡ 1
    → n (p x) ≡ x → p (n x) ≡ x
    → n' (p x) ≡ n x → ((i : ℕ) → i ≢ p x → n' i ≡ n i)
    → p' (n x) ≡ p x → ((i : ℕ) → i ≢ n x → p' i ≡ p i)
    → Linked n p a xs b → Linked n' p' a (without xs x) b
Linked-take n p n' p' [] a b x once fa fb one back forth nx ns px ps h = absurd (omega arith)
Linked-take n p n' p' (y ∷ ys) a b x once fa fb one back forth nx ns px ps h =
    elim (eqb_tells y x) [
      | inl t ↦ let e : without (y ∷ ys) x ≡ ys = without-front y x ys t.1 (rw t.1 at y0) in
          let pa : p x ≡ a = cc in
          let nz : n x ≡ n y = cc in
          subst (λ l. Linked n' p' a l b) (sym e) (first ys pa nz (λ i. omega (arith, once i)) (omega arith)
          (omega arith) h.2)
      | inr t ↦ let s : 0 + times_in ys x ≡ 1 = rw t.0 at one in
          let ne : a ≢ p x = λ e. t.1 cc in
          let ny : y ≢ n x = λ e. let ax : a ≡ x = cc in let w : times_in (y ∷ ys) x ≡ 0 = rw ax at fa in absurd
          (omega arith) in
          rw t.0 (
            cc (ns a ne),
            cc (ps y ny),
            Linked-take n p n' p' ys y b x (λ i. omega (arith, once i)) y0
                (omega arith) (omega arith) back forth nx ns px ps h.2,
          )
    ]
  where
    y0 : times_in ys y ≡ 0
    y0 = omega (arith, times_in-front y ys, once y)

    first : (zs : List ℕ) → p x ≡ a → n x ≡ n y → ((i : ℕ) → times_in zs i ≤ 1) → times_in zs a ≡ 0 → times_in zs b ≡ 0
        → Linked n p y zs b → Linked n' p' a zs b
    first [] pa nz once' za zb k = (cc, cc)
    first (z ∷ zs) pa nz once' za zb k =
        let z1 : 1 ≤ times_in (z ∷ zs) z = omega (arith, times_in-front z zs) in
        let z0 : times_in zs z ≡ 0 = omega (arith, times_in-front z zs, once' z) in
        let far : (i : ℕ) → i ≢ z → i ≢ n x = rw (nz, k.0) (λ i ne. ne) in
        let far' : (i : ℕ) → i ≢ a → i ≢ p x = rw pa (λ i ne. ne) in (
          cc,
          cc,
          Linked-same n p n' p' zs z b
              (ns z (far' z (apart (z ∷ zs) z a z1 za)))
              (ps b (far b (λ e. apart (z ∷ zs) z b z1 zb (sym e))))
              (λ i s. (ns i (far' i (apart (z ∷ zs) i a (omega arith) za)), ps i (far i (apart zs i z s z0))))
              k.2,
        )
