-- Lemmas on those that wait, as a list.
use Rattle.std.proofs.Common.{◌≡◌, ◌≢◌, ℕ, zero, suc, ◌+◌, ◌-◌, ◌<◌, ◌≤◌, Bool, true, false, cond, eqb, leb, ltb}
use Rattle.std.proofs.Common.{List, [], ◌∷◌, ◌++◌, length, get_or, take, drop, set, map, append-nil}
use Rattle.std.proofs.Common.{refl, sym, ap, ◌∙◌, inl, inr, arith}
use Rattle.std.specs.Prelude.{◌⊎◌, Option, Some, None, is_some, option_map, slice_get}
use Rattle.std.specs.List.{remove}
use Rattle.std.proofs.lemmas.Bool.{cases_lt, cases_Bool, le-leb, lt-leb, lt-ltb, le-ltb, ne_eqb, eq-eqb, eqb-true}
use Rattle.std.proofs.lemmas.Option.{slice_get-get_or, get_or_from_slice_get}
use Rattle.std.proofs.lemmas.List.{at_drop_more, at_drop_all, get_or-append_right, get_or-drop, get_or_default}
use Rattle.std.proofs.lemmas.List.{length-map, length-append, length-take-le, take-append-drop, take_all, drop_all}
use Rattle.std.proofs.lemmas.List.Edits.{map_over_more}
use Rattle.pp_admission.specs.declared.waiting.Waiting.{Waiting}
use Rattle.pp_admission.specs.Queues.{next_among, holder, is_asleep, without, overtaken_by, marked, awakened}
use Rattle.pp_admission.specs.Queues.{AreRising, AreWithin}
use Rattle.pp_admission.specs.Places.{IsPlaceOf, AreOvertakenBelow}

-- one that was never in a line
abbrev pub blank : Waiting
blank = record { ticket = 0; peak = 0; overtaken = 0; is_asleep = false }

pub none_some : (t : ℕ) → None ≡ Some t → ⊥
none_some t e = cc

pub some_same : (a b : ℕ) → Some a ≡ Some b → a ≡ b
some_same a b e = cc

pub none_one : (w : Waiting) → None ≡ Some w → ⊥
none_one w e = cc

pub one_same : (v w : Waiting) → Some v ≡ Some w → v ≡ w
one_same v w e = cc

-- ---- who is next

pub next_fits : (b r : ℕ) (w : Waiting) (ws : List Waiting) → w.peak ≤ r → next_among b r (w ∷ ws) ≡ Some w.ticket
next_fits b r w ws h = rw (le-leb w.peak r h) refl

pub next_stops : (b r : ℕ) (w : Waiting) (ws : List Waiting) → r < w.peak → b ≤ w.overtaken
    → next_among b r (w ∷ ws) ≡ None
next_stops b r w ws h k = rw (lt-leb w.peak r h, le-ltb w.overtaken b k) refl

pub next_passes : (b r : ℕ) (w : Waiting) (ws : List Waiting) → r < w.peak → w.overtaken < b
    → next_among b r (w ∷ ws) ≡ next_among b r ws
next_passes b r w ws h k = rw (lt-leb w.peak r h, lt-ltb w.overtaken b k) refl

-- it is the first, or is behind the first
pub next_cases : (b r t : ℕ) (w : Waiting) (ws : List Waiting) → next_among b r (w ∷ ws) ≡ Some t
    → ((w.peak ≤ r) × (w.ticket ≡ t)) ⊎ ((r < w.peak) × (w.overtaken < b) × (next_among b r ws ≡ Some t))
next_cases b r t w ws e = elim (cases_lt r w.peak) [
  | inl big ↦ elim (cases_lt w.overtaken b) [
    | inl few ↦ inr (big, few, sym (next_passes b r w ws big few) ∙ e)
    | inr many ↦ absurd (none_some t (sym (next_stops b r w ws big many) ∙ e))
  ]
  | inr fits ↦ inl (fits, some_same w.ticket t (sym (next_fits b r w ws fits) ∙ e))
]

-- ---- tickets that rise

pub rising_le : (from below : ℕ) (ws : List Waiting) → AreRising from below ws → from ≤ below
rising_le from below [] h = h
rising_le from below (w ∷ ws) h = omega (arith, h.0, rising_le (w.ticket + 1) below ws h.1)

pub rising_from : (a b below : ℕ) (ws : List Waiting) → a ≤ b → AreRising b below ws → AreRising a below ws
rising_from a b below [] le h = omega (arith, le, h)
rising_from a b below (w ∷ ws) le h = (omega (arith, le, h.0), h.1)

pub rising_push : (from below : ℕ) (ws : List Waiting) (w : Waiting) → AreRising from below ws → w.ticket ≡ below
    → AreRising from (below + 1) (ws ++ w ∷ [])
rising_push from below [] w h e = (omega (arith, h, e), omega (arith, e))
rising_push from below (x ∷ ws) w h e = (h.0, rising_push (x.ticket + 1) below ws w h.1 e)

pub rising_map : (f : Waiting → Waiting) → ((w : Waiting) → (f w).ticket ≡ w.ticket) → (from below : ℕ)
    (ws : List Waiting) → AreRising from below ws → AreRising from below (map f ws)
rising_map f same from below [] h = h
rising_map f same from below (w ∷ ws) h = rw (same w) (h.0, rising_map f same (w.ticket + 1) below ws h.1)

pub rising_without : (t from below : ℕ) (ws : List Waiting) → AreRising from below ws
    → AreRising from below (without t ws)
rising_without t from below [] h = h
rising_without t from below (w ∷ ws) h = elim (cases_Bool (eqb w.ticket t)) [
  | inl e ↦ rw e (rising_from from (w.ticket + 1) below (without t ws) (omega (arith, h.0))
      (rising_without t (w.ticket + 1) below ws h.1))
  | inr e ↦ rw e (h.0, rising_without t (w.ticket + 1) below ws h.1)
]

-- who is next has one of these tickets
pub next_above : (b r t from below : ℕ) (ws : List Waiting) → AreRising from below ws → next_among b r ws ≡ Some t
    → from ≤ t
next_above b r t from below [] h e = absurd (none_some t e)
next_above b r t from below (w ∷ ws) h e = elim (next_cases b r t w ws e) [
  | inl x ↦ omega (arith, h.0, x.1)
  | inr x ↦ omega (arith, h.0, next_above b r t (w.ticket + 1) below ws h.1 x.2)
]

-- ---- the line without one

pub absent : (t from below : ℕ) (ws : List Waiting) → AreRising from below ws → t < from → without t ws ≡ ws
absent t from below [] h lt = refl
absent t from below (w ∷ ws) h lt =
    let ne : eqb w.ticket t ≡ false = ne_eqb w.ticket t (λ e. absurd (omega (arith, h.0, lt, e))) in
    rw ne (ap (λ xs. w ∷ xs) (absent t (w.ticket + 1) below ws h.1 (omega (arith, h.0, lt))))

pub without_none : (t : ℕ) (ws : List Waiting) → holder t ws ≡ None → without t ws ≡ ws
without_none t [] h = refl
without_none t (w ∷ ws) h = elim (cases_Bool (eqb w.ticket t)) [
  | inl e ↦ absurd (none_one w (sym h ∙ (let s : holder t (w ∷ ws) ≡ Some w = rw e refl in s)))
  | inr e ↦ rw e (ap (λ xs. w ∷ xs) (without_none t ws
      ((let s : holder t ws ≡ holder t (w ∷ ws) = rw e refl in s) ∙ h)))
]

pub above_at : (from below : ℕ) (ws : List Waiting) (k : ℕ) (w : Waiting) → AreRising from below ws
    → slice_get ws k ≡ Some w → from ≤ w.ticket
above_at from below [] k w h e = absurd (none_one w e)
above_at from below (x ∷ ws) zero w h e = omega (arith, h.0, ap (λ (v : Waiting). v.ticket) (one_same x w e))
above_at from below (x ∷ ws) (suc k) w h e = omega (arith, h.0, above_at (x.ticket + 1) below ws k w h.1 e)

pub removed : (t from below : ℕ) (ws : List Waiting) (k : ℕ) (w : Waiting) → AreRising from below ws
    → slice_get ws k ≡ Some w → w.ticket ≡ t → remove ws k ≡ without t ws
removed t from below [] k w h e same = absurd (none_one w e)
removed t from below (x ∷ ws) zero w h e same =
    let here : x.ticket ≡ t = ap (λ (v : Waiting). v.ticket) (one_same x w e) ∙ same in
    rw (eq-eqb x.ticket t here) (sym (absent t (x.ticket + 1) below ws h.1 (omega (arith, here))))
removed t from below (x ∷ ws) (suc k) w h e same =
    let above = above_at (x.ticket + 1) below ws k w h.1 e in
    let ne : eqb x.ticket t ≡ false = ne_eqb x.ticket t (λ d. absurd (omega (arith, d, same, above))) in
    rw ne (ap (λ xs. x ∷ xs) (removed t (x.ticket + 1) below ws k w h.1 e same))

pub fewer : (t : ℕ) (ws : List Waiting) → length (without t ws) ≤ length ws
fewer t [] = omega arith
fewer t (w ∷ ws) = elim (cases_Bool (eqb w.ticket t)) [
  | inl e ↦ rw e (omega (arith, fewer t ws))
  | inr e ↦ rw e (omega (arith, fewer t ws))
]

-- ---- how often they were overtaken

pub within_push : (b : ℕ) (ws : List Waiting) (w : Waiting) → AreWithin b ws → w.overtaken ≤ b
    → AreWithin b (ws ++ w ∷ [])
within_push b [] w h le = (le, tt)
within_push b (x ∷ ws) w h le = (h.0, within_push b ws w h.1 le)

pub within_map : (f : Waiting → Waiting) → ((w : Waiting) → (f w).overtaken ≡ w.overtaken) → (b : ℕ)
    (ws : List Waiting) → AreWithin b ws → AreWithin b (map f ws)
within_map f same b [] h = tt
within_map f same b (w ∷ ws) h = rw (same w) (h.0, within_map f same b ws h.1)

pub within_without : (t b : ℕ) (ws : List Waiting) → AreWithin b ws → AreWithin b (without t ws)
within_without t b [] h = tt
within_without t b (w ∷ ws) h = elim (cases_Bool (eqb w.ticket t)) [
  | inl e ↦ rw e (within_without t b ws h.1)
  | inr e ↦ rw e (h.0, within_without t b ws h.1)
]

none_before : (n t from below : ℕ) (ws : List Waiting) → AreRising from below ws → t ≤ from → AreOvertakenBelow n t ws
none_before n t from below [] h le = tt
none_before n t from below (w ∷ ws) h le =
    (λ lt. absurd (omega (arith, h.0, le, lt)), none_before n t (w.ticket + 1) below ws h.1 (omega (arith, h.0, le)))

-- each one before the next may be overtaken once more
pub passed : (b r t from below : ℕ) (ws : List Waiting) → AreRising from below ws → next_among b r ws ≡ Some t
    → AreOvertakenBelow b t ws
passed b r t from below [] h e = absurd (none_some t e)
passed b r t from below (w ∷ ws) h e = elim (next_cases b r t w ws e) [
  | inl x ↦ (
    λ lt. absurd (omega (arith, x.1, lt)),
    none_before b t (w.ticket + 1) below ws h.1 (omega (arith, x.1)),
  )
  | inr x ↦ (λ lt. x.1, passed b r t (w.ticket + 1) below ws h.1 x.2)
]

pub below_without : (n t u : ℕ) (ws : List Waiting) → AreOvertakenBelow n t ws → AreOvertakenBelow n t (without u ws)
below_without n t u [] h = tt
below_without n t u (w ∷ ws) h = elim (cases_Bool (eqb w.ticket u)) [
  | inl e ↦ rw e (below_without n t u ws h.1)
  | inr e ↦ rw e (h.0, below_without n t u ws h.1)
]

pub below_wider : (m n t : ℕ) (ws : List Waiting) → m ≤ n → AreOvertakenBelow m t ws → AreOvertakenBelow n t ws
below_wider m n t [] le h = tt
below_wider m n t (w ∷ ws) le h = (λ lt. omega (arith, le, h.0 lt), below_wider m n t ws le h.1)

once_more : (b t : ℕ) (w : Waiting) → w.overtaken ≤ b → (w.ticket < t → w.overtaken < b)
    → (overtaken_by t w).overtaken ≤ b
once_more b t w h k = elim (cases_lt w.ticket t) [
  | inl lt ↦ rw (lt-ltb w.ticket t lt) (omega (arith, k lt))
  | inr ge ↦ rw (le-ltb w.ticket t ge) h
]

pub within_overtaken : (b t : ℕ) (ws : List Waiting) → AreWithin b ws → AreOvertakenBelow b t ws
    → AreWithin b (map (overtaken_by t) ws)
within_overtaken b t [] h k = tt
within_overtaken b t (w ∷ ws) h k = (once_more b t w h.0 k.0, within_overtaken b t ws h.1 k.1)

-- ---- what each keeps

pub overtaken_ticket : (t : ℕ) (w : Waiting) → (overtaken_by t w).ticket ≡ w.ticket
overtaken_ticket t w = elim (cases_Bool (ltb w.ticket t)) [ inl e ↦ rw e refl | inr e ↦ rw e refl ]

pub marked_ticket : (t : ℕ) (b : Bool) (w : Waiting) → (marked t b w).ticket ≡ w.ticket
marked_ticket t b w = elim (cases_Bool (eqb w.ticket t)) [ inl e ↦ rw e refl | inr e ↦ rw e refl ]

pub marked_peak : (t : ℕ) (b : Bool) (w : Waiting) → (marked t b w).peak ≡ w.peak
marked_peak t b w = elim (cases_Bool (eqb w.ticket t)) [ inl e ↦ rw e refl | inr e ↦ rw e refl ]

pub marked_overtaken : (t : ℕ) (b : Bool) (w : Waiting) → (marked t b w).overtaken ≡ w.overtaken
marked_overtaken t b w = elim (cases_Bool (eqb w.ticket t)) [ inl e ↦ rw e refl | inr e ↦ rw e refl ]

pub next_map : (f : Waiting → Waiting) → ((w : Waiting) → (f w).ticket ≡ w.ticket)
    → ((w : Waiting) → (f w).peak ≡ w.peak) → ((w : Waiting) → (f w).overtaken ≡ w.overtaken)
    → (b r : ℕ) (ws : List Waiting) → next_among b r (map f ws) ≡ next_among b r ws
next_map f ticket peak overtaken b r [] = refl
next_map f ticket peak overtaken b r (w ∷ ws) = rw (peak w, ticket w, overtaken w)
    (ap (λ o. cond (leb w.peak r) (Some w.ticket) (cond (ltb w.overtaken b) o None))
    (next_map f ticket peak overtaken b r ws))

-- ---- one more behind the others

pub next_stays : (b r t : ℕ) (ws : List Waiting) (x : Waiting) → next_among b r ws ≡ Some t
    → next_among b r (ws ++ x ∷ []) ≡ Some t
next_stays b r t [] x e = absurd (none_some t e)
next_stays b r t (w ∷ ws) x e = elim (next_cases b r t w ws e) [
  | inl c ↦ next_fits b r w (ws ++ x ∷ []) c.0 ∙ ap Some c.1
  | inr c ↦ next_passes b r w (ws ++ x ∷ []) c.0 c.1 ∙ next_stays b r t ws x c.2
]

pub next_new : (b r t : ℕ) (ws : List Waiting) (x : Waiting) → next_among b r (ws ++ x ∷ []) ≡ Some t
    → (next_among b r ws ≡ Some t) ⊎ ((next_among b r ws ≡ None) × (t ≡ x.ticket))
next_new b r t [] x e = elim (next_cases b r t x [] e) [
  | inl c ↦ inr (refl, sym c.1)
  | inr c ↦ absurd (none_some t c.2)
]
next_new b r t (w ∷ ws) x e = elim (next_cases b r t w (ws ++ x ∷ []) e) [
  | inl c ↦ inl (next_fits b r w ws c.0 ∙ ap Some c.1)
  | inr c ↦ elim (next_new b r t ws x c.2) [
    | inl y ↦ inl (next_passes b r w ws c.0 c.1 ∙ y)
    | inr y ↦ inr (next_passes b r w ws c.0 c.1 ∙ y.0, y.1)
  ]
]

-- ---- who has a ticket

pub holder_ticket : (t : ℕ) (ws : List Waiting) (w : Waiting) → holder t ws ≡ Some w → w.ticket ≡ t
holder_ticket t [] w h = absurd (none_one w h)
holder_ticket t (x ∷ ws) w h = elim (cases_Bool (eqb x.ticket t)) [
  | inl e ↦ sym (ap (λ (v : Waiting). v.ticket)
      (one_same x w ((let s : Some x ≡ holder t (x ∷ ws) = rw e refl in s) ∙ h))) ∙ eqb-true x.ticket t e
  | inr e ↦ holder_ticket t ws w ((let s : holder t ws ≡ holder t (x ∷ ws) = rw e refl in s) ∙ h)
]

pub holder_map : (f : Waiting → Waiting) → ((w : Waiting) → (f w).ticket ≡ w.ticket) → (t : ℕ) (ws : List Waiting)
    → holder t (map f ws) ≡ option_map f (holder t ws)
holder_map f same t [] = refl
holder_map f same t (w ∷ ws) = elim (cases_Bool (eqb w.ticket t)) [
  | inl e ↦ (let a : eqb (f w).ticket t ≡ true = ap (λ n. eqb n t) (same w) ∙ e in rw (a, e) refl)
  | inr e ↦ (let a : eqb (f w).ticket t ≡ false = ap (λ n. eqb n t) (same w) ∙ e in
      rw (a, e) (holder_map f same t ws))
]

pub holder_gone : (t : ℕ) (ws : List Waiting) → holder t (without t ws) ≡ None
holder_gone t [] = refl
holder_gone t (w ∷ ws) = elim (cases_Bool (eqb w.ticket t)) [
  | inl e ↦ rw e (holder_gone t ws)
  | inr e ↦ rw (e, e) (holder_gone t ws)
]

pub holder_other : (t u : ℕ) (ws : List Waiting) → u ≢ t → holder u (without t ws) ≡ holder u ws
holder_other t u [] d = refl
holder_other t u (w ∷ ws) d = elim (cases_Bool (eqb w.ticket t)) [
  | inl e ↦ (let ne : eqb w.ticket u ≡ false = ne_eqb w.ticket u (λ s. d (sym s ∙ eqb-true w.ticket t e)) in
      rw (e, ne) (holder_other t u ws d))
  | inr e ↦ rw e (ap (λ o. cond (eqb w.ticket u) (Some w) o) (holder_other t u ws d))
]

-- nobody has a ticket that wasn't given yet
pub holder_past : (t from below : ℕ) (ws : List Waiting) → AreRising from below ws → below ≤ t → holder t ws ≡ None
holder_past t from below [] h le = refl
holder_past t from below (w ∷ ws) h le =
    let low = rising_le (w.ticket + 1) below ws h.1 in
    let ne : eqb w.ticket t ≡ false = ne_eqb w.ticket t (λ e. absurd (omega (arith, low, le, e))) in
    rw ne (holder_past t (w.ticket + 1) below ws h.1 le)

-- one more behind the others
pub push_other : (t : ℕ) (ws : List Waiting) (x : Waiting) → (x.ticket ≡ t → ⊥)
    → holder t (ws ++ x ∷ []) ≡ holder t ws
push_other t [] x d = rw (ne_eqb x.ticket t d) refl
push_other t (w ∷ ws) x d = elim (cases_Bool (eqb w.ticket t)) [
  | inl e ↦ rw e refl
  | inr e ↦ rw e (push_other t ws x d)
]

pub push_same : (ws : List Waiting) (x : Waiting) → holder x.ticket ws ≡ None → holder x.ticket (ws ++ x ∷ []) ≡ Some x
push_same [] x h = rw (eq-eqb x.ticket x.ticket refl) refl
push_same (w ∷ ws) x h = elim (cases_Bool (eqb w.ticket x.ticket)) [
  | inl e ↦ absurd (none_one w (sym h ∙ (let s : holder x.ticket (w ∷ ws) ≡ Some w = rw e refl in s)))
  | inr e ↦ rw e (push_same ws x ((let s : holder x.ticket ws ≡ holder x.ticket (w ∷ ws) = rw e refl in s) ∙ h))
]

-- a mark of one leaves the others as they are
marked_not : (t u : ℕ) (b : Bool) (ws : List Waiting) (o : Option Waiting) → (u ≡ t → ⊥) → holder u ws ≡ o
    → option_map (marked t b) o ≡ o
marked_not t u b ws None d e = refl
marked_not t u b ws (Some w) d e =
    let ne : eqb w.ticket t ≡ false = ne_eqb w.ticket t (λ s. d (sym (holder_ticket u ws w e) ∙ s)) in rw ne refl

pub marked_others : (t u : ℕ) (b : Bool) (ws : List Waiting) → (u ≡ t → ⊥)
    → holder u (map (marked t b) ws) ≡ holder u ws
marked_others t u b ws d =
    holder_map (marked t b) (marked_ticket t b) u ws ∙ marked_not t u b ws (holder u ws) d refl

-- ---- who is asleep

pub asleep_push : (t : ℕ) (ws : List Waiting) (x : Waiting) → x.is_asleep ≡ false
    → is_asleep (holder t (ws ++ x ∷ [])) ≡ is_asleep (holder t ws)
asleep_push t [] x a = elim (cases_Bool (eqb x.ticket t)) [ inl e ↦ rw e a | inr e ↦ rw e refl ]
asleep_push t (w ∷ ws) x a = elim (cases_Bool (eqb w.ticket t)) [
  | inl e ↦ rw e refl
  | inr e ↦ rw e (asleep_push t ws x a)
]

pub asleep_same : (t : ℕ) (ws : List Waiting)
    → is_asleep (holder t (map (marked t true) ws)) ≡ is_some (holder t ws)
asleep_same t [] = refl
asleep_same t (w ∷ ws) = elim (cases_Bool (eqb w.ticket t)) [
  | inl e ↦ rw (e, e) refl
  | inr e ↦ rw (e, e) (asleep_same t ws)
]

pub awake_same : (t : ℕ) (ws : List Waiting) → is_asleep (holder t (map (marked t false) ws)) ≡ false
awake_same t [] = refl
awake_same t (w ∷ ws) = elim (cases_Bool (eqb w.ticket t)) [
  | inl e ↦ rw (e, e) refl
  | inr e ↦ rw (e, e) (awake_same t ws)
]

pub awake_all : (t : ℕ) (ws : List Waiting) → is_asleep (holder t (map awakened ws)) ≡ false
awake_all t [] = refl
awake_all t (w ∷ ws) = elim (cases_Bool (eqb w.ticket t)) [
  | inl e ↦ rw e refl
  | inr e ↦ rw e (awake_all t ws)
]

-- ---- steps of the loops

pub fits_at : (b r : ℕ) (ws : List Waiting) (i : ℕ) (d : Waiting) → i < length ws
    → next_among b r (drop i ws) ≡ next_among b r ws → (get_or ws i d).peak ≤ r
    → Some (get_or ws i d).ticket ≡ next_among b r ws
fits_at b r ws i d lt goes fits = sym (next_fits b r (get_or ws i d) (drop (i + 1) ws) fits)
    ∙ sym (at_drop_more (next_among b r) ws i d lt) ∙ goes

pub stops_at : (b r : ℕ) (ws : List Waiting) (i : ℕ) (d : Waiting) → i < length ws
    → next_among b r (drop i ws) ≡ next_among b r ws → r < (get_or ws i d).peak → b ≤ (get_or ws i d).overtaken
    → None ≡ next_among b r ws
stops_at b r ws i d lt goes big many = sym (next_stops b r (get_or ws i d) (drop (i + 1) ws) big many)
    ∙ sym (at_drop_more (next_among b r) ws i d lt) ∙ goes

pub passes_at : (b r : ℕ) (ws : List Waiting) (i : ℕ) (d : Waiting) → i < length ws
    → next_among b r (drop i ws) ≡ next_among b r ws → r < (get_or ws i d).peak → (get_or ws i d).overtaken < b
    → next_among b r (drop (i + 1) ws) ≡ next_among b r ws
passes_at b r ws i d lt goes big few = sym (next_passes b r (get_or ws i d) (drop (i + 1) ws) big few)
    ∙ sym (at_drop_more (next_among b r) ws i d lt) ∙ goes

pub nobody_next : (b r : ℕ) (ws : List Waiting) (i : ℕ) → length ws ≤ i
    → next_among b r (drop i ws) ≡ next_among b r ws → None ≡ next_among b r ws
nobody_next b r ws i le goes = sym (at_drop_all (next_among b r) ws i le) ∙ goes

pub found_at : (t : ℕ) (ws : List Waiting) (i : ℕ) (d : Waiting) → i < length ws → holder t (drop i ws) ≡ holder t ws
    → (get_or ws i d).ticket ≡ t → IsPlaceOf t ws i
found_at t ws i d lt goes same = record {
  one = get_or ws i d;
  there = slice_get-get_or ws i d lt;
  holds = sym goes ∙ at_drop_more (holder t) ws i d lt
      ∙ (let s : holder t (get_or ws i d ∷ drop (i + 1) ws) ≡ Some (get_or ws i d) =
      rw (eq-eqb (get_or ws i d).ticket t same) refl in s);
}

pub not_at : (t : ℕ) (ws : List Waiting) (i : ℕ) (d : Waiting) → i < length ws → holder t (drop i ws) ≡ holder t ws
    → ((get_or ws i d).ticket ≡ t → ⊥) → holder t (drop (i + 1) ws) ≡ holder t ws
not_at t ws i d lt goes other =
    (let s : holder t (drop (i + 1) ws) ≡ holder t (get_or ws i d ∷ drop (i + 1) ws) =
    rw (ne_eqb (get_or ws i d).ticket t other) refl in s)
    ∙ sym (at_drop_more (holder t) ws i d lt) ∙ goes

pub nobody_holds : (t : ℕ) (ws : List Waiting) (i : ℕ) → length ws ≤ i → holder t (drop i ws) ≡ holder t ws
    → holder t ws ≡ None
nobody_holds t ws i le goes = sym goes ∙ at_drop_all (holder t) ws i le

as_long : (f : Waiting → Waiting) (ws : List Waiting) (i : ℕ)
    → length (map f (take i ws) ++ drop i ws) ≡ length ws
as_long f ws i = length-append (map f (take i ws)) (drop i ws)
    ∙ ap (λ n. n + length (drop i ws)) (length-map (take i ws) f)
    ∙ sym (length-append (take i ws) (drop i ws)) ∙ ap length (take-append-drop i ws)

-- one more was changed, where those before it were
pub one_more : (f : Waiting → Waiting) (ws vs : List Waiting) (i : ℕ) (new d : Waiting) → i < length ws
    → vs ≡ map f (take i ws) ++ drop i ws → new ≡ f (get_or vs i d)
    → set vs i new ≡ map f (take (i + 1) ws) ++ drop (i + 1) ws
one_more f ws vs i new d lt goes is =
    let long : length vs ≡ length ws = ap length goes ∙ as_long f ws i in
    ap (set vs i) is
    ∙ map_over_more f ws vs i (get_or vs i d) lt goes
    (get_or_default vs i d (get_or vs i d) (omega (arith, long, lt)))

-- one that was not passed is as it was
pub as_it_was : (f : Waiting → Waiting) (ws vs : List Waiting) (i : ℕ) (d : Waiting) → i < length ws
    → vs ≡ map f (take i ws) ++ drop i ws → get_or vs i d ≡ get_or ws i d
as_it_was f ws vs i d lt goes =
    let long : length (map f (take i ws)) ≡ i = length-map (take i ws) f ∙ length-take-le i ws (omega arith) in
    ap (λ xs. get_or xs i d) goes ∙ get_or-append_right (map f (take i ws)) (drop i ws) i i d long (omega arith)
    ∙ get_or-drop i ws (i - i) d ∙ ap (λ n. get_or ws n d) (let n : i + (i - i) ≡ i = omega arith in n)

-- all were changed
pub all_changed : (f : Waiting → Waiting) (ws vs : List Waiting) (i : ℕ) → length ws ≤ i
    → vs ≡ map f (take i ws) ++ drop i ws → vs ≡ map f ws
all_changed f ws vs i le goes = goes ∙ ap (λ xs. map f xs ++ drop i ws) (take_all i ws le)
    ∙ ap (λ xs. map f ws ++ xs) (drop_all i ws le) ∙ append-nil (map f ws)

pub below_at : (n t : ℕ) (ws : List Waiting) (i : ℕ) (d : Waiting) → AreOvertakenBelow n t ws → i < length ws
    → (get_or ws i d).ticket < t → (get_or ws i d).overtaken < n
below_at n t [] i d h lt = absurd (omega arith)
below_at n t (x ∷ ws) zero d h lt = h.0
below_at n t (x ∷ ws) (suc i) d h lt = below_at n t ws i d h.1 (omega (arith, lt))

-- ---- the one that has a ticket

pub holder_at : (t : ℕ) (ws : List Waiting) (place : ℕ) (w : Waiting) → IsPlaceOf t ws place
    → w ≡ get_or ws place w → Some w ≡ holder t ws
holder_at t ws place w at e =
    ap Some (e ∙ get_or_from_slice_get ws place at.one w at.there) ∙ sym at.holds

pub is_none : (o : Option Waiting) → is_some o ≡ false → o ≡ None
is_none None e = refl
is_none (Some w) e = absurd cc
