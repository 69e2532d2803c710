-- The images of a new vault fit the opening state.
use Rattle.std.proofs.Common.{◌≡◌, ◌∙◌, ℕ, ◌<◌, ◌≤◌, true, false, Option, Some, None, List, length, refl, sym, ap}
use Rattle.std.proofs.Common.{subst, arith}
use Rattle.std.specs.Prelude.{not, unwrap_or, nat_lt, Bool}
use Rattle.std.specs.Option.{is_some}
use Rattle.std.proofs.lemmas.Bool.{false≢true}
use Rattle.std.proofs.lemmas.Bool.Decides.{nat_tests}
use Rattle.std.proofs.lemmas.List.{get_or-replicate, length-replicate, get_or_past}
use Rattle.pp_model.specs.Pool.{Settings, opening}
use Rattle.pp_model.proofs.ReadyLaws.{opens_empty}
use Rattle.pp_core.specs.StandsFor as core
use Rattle.pp_vault.specs.Parts.{Parts}
use Rattle.pp_vault.specs.StandsFor.{image_in, ImagesFit, StandsFor}
use Rattle.pp_vault.specs.Opening.{zeros, opening_images}

is_in : (frames n f : ℕ) → f < frames → image_in (opening_images frames n) f ≡ Some (zeros n)
is_in frames n f low = get_or-replicate frames f (Some (zeros n)) None low

is_past : (frames n f : ℕ) → frames ≤ f → image_in (opening_images frames n) f ≡ None
is_past frames n f high =
    get_or_past (opening_images frames n) f None (omega (arith, high, length-replicate frames (Some (zeros n))))

same_image : {a b : List ℕ} → ◌≡◌ {A = Option (List ℕ)} (Some a) (Some b) → a ≡ b
same_image {a} {b} e = ap (λ o. unwrap_or o a) e

long_by : (n : ℕ) (image : List ℕ) → ◌≡◌ {A = Option (List ℕ)} (Some (zeros n)) (Some image) → length image ≡ n
long_by n image e = ap length (sym (same_image e)) ∙ length-replicate n 0

long : (frames n f : ℕ) (image : List ℕ) (b : Bool) → nat_lt f frames ≡ b
    → image_in (opening_images frames n) f ≡ Some image → length image ≡ n
long frames n f image true at e =
    let low : f < frames = grind (arith, nat_tests) in
    long_by n image (sym (is_in frames n f low) ∙ e)
long frames n f image false at e =
    let high : frames ≤ f = grind (arith, nat_tests) in
    absurd (false≢true (ap is_some (sym (is_past frames n f high) ∙ e)))

pub opening_fits : (k : Settings) (n : ℕ) → 64 ≤ n
    → ImagesFit n (opening_images k.layout.frames n) (Some (zeros n)) (opening k)
opening_fits k n wide =
    let frames = k.layout.frames in
    let count = length-replicate frames (Some (zeros n)) in
    record {
      wide = wide;
      frames = count;
      long = λ f image e. long frames n f image (nat_lt f frames) refl e;
      there = λ f low.
          ap is_some (is_in frames n f (subst (λ m. f < m) count low)) ∙ ap not (sym ((opens_empty k).1 f));
      right = λ page x e. absurd (false≢true (ap is_some (sym ((opens_empty k).0 page) ∙ e)));
      spare_there = λ e. refl;
      spare_long = long_by n;
    }

pub opening_stands : (k : Settings) (v : Parts) → core.StandsFor v.core (opening k) → 64 ≤ v.page_bytes
    → v.images ≡ opening_images k.layout.frames v.page_bytes → v.spare ≡ Some (zeros v.page_bytes)
    → StandsFor v (opening k)
opening_stands k v opens wide images spare =
    let n = v.page_bytes in
    record {
      core = opens;
      images =
          subst (λ xs. ImagesFit n xs v.spare (opening k)) (sym images)
          (subst (λ buffer. ImagesFit n (opening_images k.layout.frames n) buffer (opening k)) (sym spare)
          (opening_fits k n wide));
    }
