-- The places of guards from which one was taken, and into which one is put again.
use Rattle.std.proofs.Common.{◌≡◌, ◌∙◌, ℕ, false, Option, Some, None, List, refl, ap}
use Rattle.std.specs.Prelude.{slice_set}
use Rattle.pp_vault.specs.declared.guards.PinGuard.{PinGuard}
use Rattle.pp_vault.specs.declared.guards.BundleGuard.{BundleGuard}
use Rattle.pp_vault.specs.declared.guards.Guard.{Guard}
use Rattle.pp_vault.specs.declared.guards.Guard.TheVariants.{Pin, Read, Write, Bundle}
use Rattle.pp_vault.specs.Holding.{slot_by, is_bundle, placed}
use Rattle.pp_play.proofs.Held.{is_pin, put_other, put_back}

-- The guard that was taken is put back.
pub put_again : (places taken now : List (Option Guard)) (slot : ℕ) (g h : Guard) → placed places slot ≡ Some g
    → taken ≡ slice_set places slot None → slot_by g ≡ slot → h ≡ g
    → now ≡ slice_set taken (slot_by h) (Some h) → now ≡ places
put_again places taken now slot g h at gone of same is =
    is ∙ ap (λ k. slice_set taken (slot_by k) (Some k)) same ∙ ap (λ n. slice_set taken n (Some g)) of
    ∙ ap (λ ps. slice_set ps slot (Some g)) gone ∙ put_back places slot g at

-- Another of its slot is put there.
pub put_changed : (places taken now : List (Option Guard)) (slot : ℕ) (h : Guard)
    → taken ≡ slice_set places slot None → slot_by h ≡ slot
    → now ≡ slice_set taken (slot_by h) (Some h) → now ≡ slice_set places slot (Some h)
put_changed places taken now slot h gone of is =
    is ∙ ap (λ n. slice_set taken n (Some h)) of ∙ ap (λ ps. slice_set ps slot (Some h)) gone
    ∙ put_other places slot (Some h)

pub no_pin : (g : Guard) → ((pin : PinGuard) → g ≡ Pin pin → ⊥) → is_pin g ≡ false
no_pin (Pin g) isnt = absurd (isnt g refl)
no_pin (Read g) isnt = refl
no_pin (Write g) isnt = refl
no_pin (Bundle g) isnt = refl

pub no_bundle : (g : Guard) → ((bundle : BundleGuard) → g ≡ Bundle bundle → ⊥) → is_bundle g ≡ false
no_bundle (Pin g) isnt = refl
no_bundle (Read g) isnt = refl
no_bundle (Write g) isnt = refl
no_bundle (Bundle g) isnt = absurd (isnt g refl)
