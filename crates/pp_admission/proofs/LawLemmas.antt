-- The laws of the queue.
use Rattle.std.proofs.Common.{◌≡◌, ℕ, ◌+◌, ◌<◌, ◌≤◌, true, false, cond, eqb, ltb, List, [], ◌∷◌, ◌++◌, map}
use Rattle.std.proofs.Common.{refl, sym, ap, subst, ◌∙◌, inl, inr, arith}
use Rattle.std.specs.Prelude.{◌⊎◌, ◌↔◌, Option, Some, None, IsSome, IsSomeAnd, is_some, option_map}
use Rattle.std.proofs.lemmas.Bool.{cases_Bool, cases_eq, cases_lt, cases_order, ne_eqb, eq-eqb, lt-ltb, le-ltb}
use Rattle.std.proofs.lemmas.Bool.{false≢true}
use Rattle.std.proofs.lemmas.List.Sums.{sum_by-cons}
use Rattle.pp_admission.specs.declared.waiting.Waiting.{Waiting}
use Rattle.pp_admission.specs.Queues.{Parts, next_in, next_among, waiting_at, is_waiting, holder, first_ticket, Fits}
use Rattle.pp_admission.specs.Queues.{AllFit, IsSound, AreRising, AreWithin, newcomer, started, left}
use Rattle.pp_admission.specs.Queues.{without, overtaken_by, marked, awakened}
use Rattle.pp_admission.specs.Histories.{IsNext, Call, Enters, Starts, Leaves, Marks, WakesAll, after, IsPossible}
use Rattle.pp_admission.specs.Histories.{after_all, ArePossible, overtakes, overtakings}
use Rattle.pp_admission.proofs.Lines.{none_some, none_one, one_same, next_fits, next_passes, next_cases, next_above}
use Rattle.pp_admission.proofs.Lines.{rising_le, holder_ticket, holder_map, holder_gone, holder_other, holder_past}
use Rattle.pp_admission.proofs.Lines.{push_other, marked_ticket, marked_overtaken, overtaken_ticket}
use Rattle.pp_admission.proofs.Calls.{sound_entered, sound_marked, sound_all_woken, sound_left, sound_overtaken}
use Rattle.pp_admission.proofs.Calls.{may_overtake, started_gone}

-- ---- who is next

-- the same of a line
record IsNextOf (b r t : ℕ) (ws : List Waiting) : Type 0 where
  one : Waiting
  waits : holder t ws ≡ Some one
  fits : one.peak ≤ r
  before : (u : ℕ) (other : Waiting) → holder u ws ≡ Some other → u < t → (r < other.peak) × (other.overtaken < b)

holder_first : (w : Waiting) (ws : List Waiting) → holder w.ticket (w ∷ ws) ≡ Some w
holder_first w ws = rw (eq-eqb w.ticket w.ticket refl) refl

holder_later : (t : ℕ) (w : Waiting) (ws : List Waiting) → (w.ticket ≡ t → ⊥) → holder t (w ∷ ws) ≡ holder t ws
holder_later t w ws d = rw (ne_eqb w.ticket t d) refl

-- one that has a ticket has one of the line's
holder_above : (t from below : ℕ) (ws : List Waiting) (w : Waiting) → AreRising from below ws → holder t ws ≡ Some w
    → (from ≤ t) × (t < below)
holder_above t from below [] w h e = absurd (none_one w e)
holder_above t from below (x ∷ ws) w h e = elim (cases_eq x.ticket t) [
  | inl s ↦ (omega (arith, h.0, s), omega (arith, s, rising_le (x.ticket + 1) below ws h.1))
  | inr d ↦ (let a = holder_above t (x.ticket + 1) below ws w h.1 (sym (holder_later t x ws d) ∙ e) in
      (omega (arith, h.0, a.0), a.1))
]

is_next : (b r t from below : ℕ) (ws : List Waiting) → AreRising from below ws → next_among b r ws ≡ Some t
    → IsNextOf b r t ws
is_next b r t from below [] h e = absurd (none_some t e)
is_next b r t from below (w ∷ ws) h e = elim (next_cases b r t w ws e) [
  | inl x ↦ record {
    one = w;
    waits = subst (λ (u : ℕ). holder u (w ∷ ws) ≡ Some w) x.1 (holder_first w ws);
    fits = x.0;
    before = λ u other k lt. absurd (elim (cases_eq w.ticket u) [
      | inl s ↦ omega (arith, s, lt, x.1)
      | inr d ↦ (let a = holder_above u (w.ticket + 1) below ws other h.1 (sym (holder_later u w ws d) ∙ k) in
          omega (arith, a.0, lt, x.1))
    ]);
  }
  | inr x ↦ (let rest = is_next b r t (w.ticket + 1) below ws h.1 x.2 in
      let above = next_above b r t (w.ticket + 1) below ws h.1 x.2 in record {
        one = rest.one;
        waits = holder_later t w ws (λ s. absurd (omega (arith, s, above))) ∙ rest.waits;
        fits = rest.fits;
        before = λ u other k lt. elim (cases_eq w.ticket u) [
          | inl s ↦ (let same : w ≡ other = one_same w other
              (sym (subst (λ (v : ℕ). holder v (w ∷ ws) ≡ Some w) s (holder_first w ws)) ∙ k) in
              subst (λ (v : Waiting). (r < v.peak) × (v.overtaken < b)) same (x.0, x.1))
          | inr d ↦ rest.before u other (sym (holder_later u w ws d) ∙ k) lt
        ];
      })
]

next_is : (b r t from below : ℕ) (ws : List Waiting) → AreRising from below ws → IsNextOf b r t ws
    → next_among b r ws ≡ Some t
next_is b r t from below [] h n = absurd (none_one n.one n.waits)
next_is b r t from below (w ∷ ws) h n = elim (cases_eq w.ticket t) [
  | inl s ↦ (let same : w ≡ n.one = one_same w n.one
      (sym (subst (λ (v : ℕ). holder v (w ∷ ws) ≡ Some w) s (holder_first w ws)) ∙ n.waits) in
      next_fits b r w ws (subst (λ (v : Waiting). v.peak ≤ r) (sym same) n.fits) ∙ ap Some s)
  | inr d ↦ (let waits = sym (holder_later t w ws d) ∙ n.waits in
      let above = holder_above t (w.ticket + 1) below ws n.one h.1 waits in
      let first = n.before w.ticket w (holder_first w ws) (omega (arith, above.0)) in
      next_passes b r w ws first.0 first.1 ∙ next_is b r t (w.ticket + 1) below ws h.1 (record {
        one = n.one;
        waits = waits;
        fits = n.fits;
        before = λ u other k lt. n.before u other
            (holder_later u w ws (λ s. absurd (omega (
              arith,
              s,
              (holder_above u (w.ticket + 1) below ws other h.1 k).0,
            ))) ∙ k) lt;
      }))
]

pub who_is_next : (q : Parts) (room ticket : ℕ) → IsSound q → (next_in q room ≡ Some ticket) ↔ IsNext q room ticket
who_is_next q room ticket s = (
  λ e. (let n = is_next q.bypass room ticket 0 q.next q.waiting s.rising e in
      record { one = n.one; waits = n.waits; fits = n.fits; before = n.before }),
  λ n. next_is q.bypass room ticket 0 q.next q.waiting s.rising
      (record { one = n.one; waits = n.waits; fits = n.fits; before = n.before }),
)

pub fits_of : (q : Parts) (room t : ℕ) → IsSound q → next_in q room ≡ Some t → Fits q t room
fits_of q room t s e =
    let n = is_next q.bypass room t 0 q.next q.waiting s.rising e in
    subst (λ (o : Option Waiting). IsSomeAnd (option_map (λ w. w.peak) o) (λ peak. peak ≤ room)) (sym n.waits) n.fits

-- ---- the first

pub first_starts : (q : Parts) (room : ℕ) (w : Waiting) (ws : List Waiting) → q.waiting ≡ w ∷ ws → w.peak ≤ room
    → next_in q room ≡ Some w.ticket
first_starts q room w ws e fits = ap (next_among q.bypass room) e ∙ next_fits q.bypass room w ws fits

some_next : (b r t : ℕ) (ws : List Waiting) → is_some (holder t ws) ≡ true → AllFit r ws → IsSome (next_among b r ws)
some_next b r t [] e h = absurd cc
some_next b r t (w ∷ ws) e h = ap is_some (next_fits b r w ws h.0)

pub some_starts : (q : Parts) (room ticket : ℕ) → is_waiting q ticket ≡ true → AllFit room q.waiting
    → IsSome (next_in q room)
some_starts q room ticket e h = some_next q.bypass room ticket q.waiting e h

first_of : (b r t : ℕ) (ws : List Waiting) → b ≡ 0 → next_among b r ws ≡ Some t → first_ticket ws ≡ Some t
first_of b r t [] z e = absurd (none_some t e)
first_of b r t (w ∷ ws) z e = elim (next_cases b r t w ws e) [
  | inl x ↦ ap Some x.1
  | inr x ↦ absurd (omega (arith, x.1, z))
]

pub first_come : (q : Parts) (room ticket : ℕ) → q.bypass ≡ 0 → next_in q room ≡ Some ticket
    → first_ticket q.waiting ≡ Some ticket
first_come q room ticket z e = first_of q.bypass room ticket q.waiting z e

some_of : (o : Option Waiting) → is_some o ≡ true → (w : Waiting) × (o ≡ Some w)
some_of None e = absurd cc
some_of (Some w) e = (w, refl)

pub least : (q : Parts) (room ticket other : ℕ) → IsSound q → q.bypass ≡ 0 → next_in q room ≡ Some ticket
    → is_waiting q other ≡ true → ticket ≤ other
least q room ticket other s z e w = elim (cases_lt other ticket) [
  | inl lt ↦ (let one = some_of (waiting_at q other) w in
      let n = is_next q.bypass room ticket 0 q.next q.waiting s.rising e in
      absurd (omega (arith, z, (n.before other one.0 one.1 lt).1)))
  | inr ge ↦ ge
]

-- ---- calls, one behind the other

sound_after : (q : Parts) (c : Call) → IsSound q → IsPossible q c → IsSound (after q c)
sound_after q (Enters peak) s p = sound_entered q peak s (λ e. p (inl e))
sound_after q (Starts ticket room) s p =
    sound_overtaken (left q ticket) ticket (sound_left q ticket s) (may_overtake q room ticket s p)
sound_after q (Leaves ticket) s p = sound_left q ticket s
sound_after q (Marks ticket asleep) s p = sound_marked q ticket asleep s
sound_after q WakesAll s p = sound_all_woken q s

same_bypass : (q : Parts) (c : Call) → (after q c).bypass ≡ q.bypass
same_bypass q (Enters peak) = refl
same_bypass q (Starts ticket room) = refl
same_bypass q (Leaves ticket) = refl
same_bypass q (Marks ticket asleep) = refl
same_bypass q WakesAll = refl

-- ---- one that is gone doesn't come back

without_gone : (t u : ℕ) (ws : List Waiting) → holder t ws ≡ None → holder t (without u ws) ≡ None
without_gone t u ws e = elim (cases_eq t u) [
  | inl s ↦ subst (λ (v : ℕ). holder t (without v ws) ≡ None) s (holder_gone t ws)
  | inr d ↦ holder_other u t ws d ∙ e
]

map_none : (f : Waiting → Waiting) → ((w : Waiting) → (f w).ticket ≡ w.ticket) → (t : ℕ) (ws : List Waiting)
    → holder t ws ≡ None → holder t (map f ws) ≡ None
map_none f same t ws e = holder_map f same t ws ∙ ap (option_map f) e

gone_after : (q : Parts) (c : Call) (t : ℕ) → waiting_at q t ≡ None → t < q.next
    → (waiting_at (after q c) t ≡ None) × (t < (after q c).next)
gone_after q (Enters peak) t e lt = (
  push_other t q.waiting (newcomer q.next peak) (λ s. absurd (omega (arith, s, lt))) ∙ e,
  omega (arith, lt),
)
gone_after q (Starts ticket room) t e lt = (
  map_none (overtaken_by ticket) (overtaken_ticket ticket) t (without ticket q.waiting)
      (without_gone t ticket q.waiting e),
  lt,
)
gone_after q (Leaves ticket) t e lt = (without_gone t ticket q.waiting e, lt)
gone_after q (Marks ticket asleep) t e lt =
    (map_none (marked ticket asleep) (marked_ticket ticket asleep) t q.waiting e, lt)
gone_after q WakesAll t e lt = (map_none awakened (λ w. refl) t q.waiting e, lt)

never_again : (q : Parts) (cs : List Call) (t : ℕ) → waiting_at q t ≡ None → t < q.next
    → is_waiting (after_all q cs) t ≡ false
never_again q [] t e lt = ap is_some e
never_again q (c ∷ cs) t e lt =
    let g = gone_after q c t e lt in never_again (after q c) cs t g.0 g.1

-- ---- how often one was overtaken

-- one that doesn't wait was never overtaken
abbrev times : Option Waiting → ℕ
times None = 0
times (Some w) = w.overtaken

times_within : (b t : ℕ) (ws : List Waiting) → AreWithin b ws → times (holder t ws) ≤ b
times_within b t [] h = omega arith
times_within b t (w ∷ ws) h = elim (cases_Bool (eqb w.ticket t)) [
  | inl e ↦ rw e h.0
  | inr e ↦ rw e (times_within b t ws h.1)
]

times_push : (t : ℕ) (ws : List Waiting) (x : Waiting) → times (holder t ws) ≤ times (holder t (ws ++ x ∷ []))
times_push t [] x = omega arith
times_push t (w ∷ ws) x = elim (cases_Bool (eqb w.ticket t)) [
  | inl e ↦ rw e (omega arith)
  | inr e ↦ rw e (times_push t ws x)
]

times_kept : (f : Waiting → Waiting) → ((w : Waiting) → (f w).overtaken ≡ w.overtaken) → (o : Option Waiting)
    → times (option_map f o) ≡ times o
times_kept f same None = refl
times_kept f same (Some w) = same w

times_map : (f : Waiting → Waiting) → ((w : Waiting) → (f w).ticket ≡ w.ticket)
    → ((w : Waiting) → (f w).overtaken ≡ w.overtaken) → (t : ℕ) (ws : List Waiting)
    → times (holder t (map f ws)) ≡ times (holder t ws)
times_map f ticket overtaken t ws = ap times (holder_map f ticket t ws) ∙ times_kept f overtaken (holder t ws)

times_more : (u : ℕ) (o : Option Waiting) → times o ≤ times (option_map (overtaken_by u) o)
times_more u None = omega arith
times_more u (Some w) = elim (cases_lt w.ticket u) [
  | inl lt ↦ rw (lt-ltb w.ticket u lt) (omega arith)
  | inr ge ↦ rw (le-ltb w.ticket u ge) (omega arith)
]

-- who may start has a ticket that was given
next_low : (q : Parts) (room t : ℕ) → IsSound q → next_in q room ≡ Some t → t < q.next
next_low q room t s e =
    let n = is_next q.bypass room t 0 q.next q.waiting s.rising e in
    (holder_above t 0 q.next q.waiting n.one s.rising n.waits).1

started_holder : (q : Parts) (t u : ℕ) → (t ≡ u → ⊥)
    → waiting_at (started q u) t ≡ option_map (overtaken_by u) (waiting_at q t)
started_holder q t u d = holder_map (overtaken_by u) (overtaken_ticket u) t (without u q.waiting)
    ∙ ap (option_map (overtaken_by u)) (holder_other u t q.waiting d)

-- a start of one that came later is counted, if this one waits
counted : (t u : ℕ) (ws : List Waiting) (w : Waiting) → t < u → holder t ws ≡ Some w
    → (overtaken_by u w).overtaken ≡ w.overtaken + 1
counted t u ws w lt e =
    rw (lt-ltb w.ticket u (omega (arith, lt, holder_ticket t ws w e))) refl

-- one is gone for ever, or what the call adds to its count is what the call is
abbrev Counts : Parts → Call → ℕ → Type 0
Counts q c t = ((waiting_at (after q c) t ≡ None) × (t < (after q c).next))
    ⊎ (times (waiting_at q t) + cond (overtakes t c) 1 0 ≤ times (waiting_at (after q c) t))

starts_later : (q : Parts) (u room t : ℕ) → IsSound q → next_in q room ≡ Some u → t < u → (o : Option Waiting)
    → waiting_at q t ≡ o → Counts q (Starts u room) t
starts_later q u room t s p lt None e =
    inl (gone_after q (Starts u room) t e (omega (arith, lt, next_low q room u s p)))
starts_later q u room t s p lt (Some w) e =
    let now : times (waiting_at (started q u) t) ≡ w.overtaken + 1 =
    ap times (started_holder q t u (λ d. absurd (omega (arith, d, lt))) ∙ ap (option_map (overtaken_by u)) e)
    ∙ counted t u q.waiting w lt e in
    let one : cond {A = ℕ} (ltb t u) 1 0 ≡ 1 = rw (lt-ltb t u lt) refl in
    inr (omega (arith, now, one, ap times e))

starts_before : (q : Parts) (u room t : ℕ) → u < t → Counts q (Starts u room) t
starts_before q u room t lt =
    let now : times (waiting_at (started q u) t) ≡ times (option_map (overtaken_by u) (waiting_at q t)) =
    ap times (started_holder q t u (λ d. absurd (omega (arith, d, lt)))) in
    let none : cond {A = ℕ} (ltb t u) 1 0 ≡ 0 = rw (le-ltb t u (omega (arith, lt))) refl in
    inr (omega (arith, now, none, times_more u (waiting_at q t)))

counts : (q : Parts) (c : Call) (t : ℕ) → IsSound q → IsPossible q c → Counts q c t
counts q (Enters peak) t s p = inr (omega (arith, times_push t q.waiting (newcomer q.next peak)))
counts q (Starts u room) t s p = elim (cases_order t u) [
  | inl same ↦ inl (
    subst (λ (v : ℕ). waiting_at (started q v) t ≡ None) same (started_gone q t),
    omega (arith, same, next_low q room u s p),
  )
  | inr other ↦ elim other [
    | inl lt ↦ starts_later q u room t s p lt (waiting_at q t) refl
    | inr lt ↦ starts_before q u room t lt
  ]
]
counts q (Leaves u) t s p = elim (cases_eq t u) [
  | inl same ↦ elim (cases_lt t q.next) [
    | inl lt ↦ inl (subst (λ (v : ℕ). waiting_at (left q v) t ≡ None) same (holder_gone t q.waiting), lt)
    | inr ge ↦ inr (omega (arith, ap times (holder_past t 0 q.next q.waiting s.rising ge)))
  ]
  | inr d ↦ inr (omega (arith, ap times (holder_other u t q.waiting d)))
]
counts q (Marks u asleep) t s p =
    inr (omega (arith, times_map (marked u asleep) (marked_ticket u asleep) (marked_overtaken u asleep) t q.waiting))
counts q WakesAll t s p = inr (omega (arith, times_map awakened (λ w. refl) (λ w. refl) t q.waiting))

bounded : (q : Parts) (cs : List Call) (t : ℕ) → IsSound q → ArePossible q cs → is_waiting (after_all q cs) t ≡ true
    → times (waiting_at q t) + overtakings t cs ≤ q.bypass
bounded q [] t s p w = omega (arith, times_within q.bypass t q.waiting s.within)
bounded q (c ∷ cs) t s p w = elim (counts q c t s p.0) [
  | inl gone ↦ absurd (false≢true (sym (never_again (after q c) cs t gone.0 gone.1) ∙ w))
  | inr more ↦ omega (
    arith,
    more,
    bounded (after q c) cs t (sound_after q c s p.0) p.1 w,
    same_bypass q c,
    sum_by-cons (λ (d : Call). cond (overtakes t d) 1 0) c cs,
  )
]

pub nobody_too_often : (q : Parts) (t : ℕ) (cs : List Call) → IsSound q → ArePossible q cs
    → is_waiting (after_all q cs) t ≡ true → overtakings t cs ≤ q.bypass
nobody_too_often q t cs s p w = omega (arith, bounded q cs t s p w)
