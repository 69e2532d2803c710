use Rattle.std.proofs.Common.{◌≡◌, ℕ, ◌+◌, Option, refl, ap, ap₂, ◌∙◌, add-one}
use Rattle.std.specs.Option.{option_or}
use Rattle.pp_cert.specs.declared.note.Held.{Held}
use Rattle.pp_model.specs.Pool.{State}
use Rattle.pp_core.specs.Queries.{held_of}
use Rattle.pp_draw.specs.declared.column.Latches.{Latches}
use Rattle.pp_draw.specs.Columns.{latches_below, shared_in, exclusive_in}
use Rattle.pp_draw.proofs.column.latches_of.Goals as goal

one_slot : (s : State) (w n : ℕ) (held : Option (ℕ × Held)) (before : Latches) (a b : Option ℕ)
    → held ≡ held_of s w n → before ≡ latches_below s w n
    → a ≡ option_or (shared_in held) before.shared → b ≡ option_or (exclusive_in held) before.exclusive
    → ◌≡◌ {A = Latches} (record { shared = a; exclusive = b }) (latches_below s w (n + 1))
unfolding latches_below
one_slot s w n held before a b eh el ea eb =
    let p : a ≡ option_or (shared_in (held_of s w n)) (latches_below s w n).shared =
    ea ∙ ap₂ (λ (h : Option (ℕ × Held)) (l : Latches). option_or (shared_in h) l.shared) eh el in
    let q : b ≡ option_or (exclusive_in (held_of s w n)) (latches_below s w n).exclusive =
    eb ∙ ap₂ (λ (h : Option (ℕ × Held)) (l : Latches). option_or (exclusive_in h) l.exclusive) eh el in
    rw add-one (λ i. record { shared = p i; exclusive = q i })

pub loop-slot-init : goal.loop-slot-init
unfolding latches_below
loop-slot-init c = λ s st. refl

pub loop-slot-preserved : goal.loop-slot-preserved
loop-slot-preserved c = λ s st.
    one_slot s c.args.worker c.loop-slot.slot c.held-held.result c.loop-slot.latches _ _ (c.held-held.ensures s st)
    (c.loop-slot.invariant s st)
    (c.or.ensures ∙ ap (λ (x : Option ℕ). option_or x c.loop-slot.latches.shared) c.shared_in.ensures)
    (c.or-in-loop-slot.ensures
    ∙ ap (λ (x : Option ℕ). option_or x c.loop-slot.latches.exclusive) c.exclusive_in.ensures)
