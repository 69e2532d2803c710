-- What a list of actions does from one map of slots to another.
use Rattle.std.proofs.Common.{◌≡◌, ℕ, ◌≤◌, Some, List, [], ◌∷◌, ◌++◌, length, refl, sym, ap, subst, ◌∙◌}
use Rattle.pp_settings.specs.Layout.{Geometry}
use Rattle.pp_plan.specs.declared.action.Action.{Action}
use Rattle.pp_plan.specs.declared.action.Action.TheVariants.{Fix, Unfix, Latch, Unlatch, Gather, Scatter, Choose}
use Rattle.pp_cert.specs.Held.{Holdings, held_next, held_after, IsAboveLatched}

-- A latch is of a class above those that are latched.
abbrev pub MayDo : Geometry → Holdings → Action → Type 0
MayDo g hs (Fix s p) = Unit {0}
MayDo g hs (Unfix s) = Unit {0}
MayDo g hs (Latch s m) = IsAboveLatched g hs s
MayDo g hs (Unlatch s) = Unit {0}
MayDo g hs (Gather s p) = Unit {0}
MayDo g hs (Scatter s) = Unit {0}
MayDo g hs (Choose i) = Unit {0}

-- The list is legal from these slots on, ends with those, takes latches in order, and holds at most the peak.
abbrev pub Goes : Geometry → ℕ → Holdings → List Action → Holdings → Type 0
Goes g peak hs [] last = (hs ≡ last) × (length hs ≤ peak)
Goes g peak hs (a ∷ t) last = (length hs ≤ peak) × MayDo g hs a
    × ((m : Holdings) × (held_next hs a ≡ Some m) × Goes g peak m t last)

pub goes_small : (g : Geometry) (peak : ℕ) (hs : Holdings) (t : List Action) (last : Holdings) → Goes g peak hs t last
    → length hs ≤ peak
goes_small g peak hs [] last h = h.1
goes_small g peak hs (a ∷ t) last h = h.0

pub goes_end_small : (g : Geometry) (peak : ℕ) (hs : Holdings) (t : List Action) (last : Holdings)
    → Goes g peak hs t last → length last ≤ peak
goes_end_small g peak hs [] last h = subst (λ x. length x ≤ peak) h.0 h.1
goes_end_small g peak hs (a ∷ t) last h = goes_end_small g peak h.2.0 t last h.2.2

pub goes_on : (g : Geometry) (peak : ℕ) (hs m last : Holdings) (t u : List Action) → Goes g peak hs t m
    → Goes g peak m u last → Goes g peak hs (t ++ u) last
goes_on g peak hs m last [] u h k = subst (λ x. Goes g peak x u last) (sym h.0) k
goes_on g peak hs m last (a ∷ t) u h k = (h.0, h.1, (h.2.0, h.2.1, goes_on g peak h.2.0 m last t u h.2.2 k))

pub goes_split : (g : Geometry) (peak : ℕ) (hs last : Holdings) (t u : List Action) → Goes g peak hs (t ++ u) last
    → (m : Holdings) × Goes g peak hs t m × Goes g peak m u last
goes_split g peak hs last [] u h = (hs, (refl, goes_small g peak hs u last h), h)
goes_split g peak hs last (a ∷ t) u h =
    let p = goes_split g peak h.2.0 last t u h.2.2 in
    (p.0, (h.0, h.1, (h.2.0, h.2.1, p.1)), p.2)

pub goes_held : (g : Geometry) (peak : ℕ) (hs last : Holdings) (t : List Action) → Goes g peak hs t last
    → held_after (Some hs) t ≡ Some last
goes_held g peak hs last [] h = ap Some h.0
goes_held g peak hs last (a ∷ t) h = ap (λ o. held_after o t) h.2.1 ∙ goes_held g peak h.2.0 last t h.2.2
