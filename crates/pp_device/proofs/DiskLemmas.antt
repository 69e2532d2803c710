-- On the images of a device in memory.
use Rattle.std.proofs.Common.{◌≡◌, ℕ, ◌+◌, ◌<◌, List, [], ◌∷◌, ◌++◌, length, map, slice_index_or, All, true, sym, ◌∙◌, ap, subst, zero-add, rules}
use Rattle.std.specs.List.{range_with_len}
use Rattle.std.proofs.lemmas.List.{map-append, get_or-map, length-map}
use Rattle.pp_device.specs.Disk.{Disk, is_served, image_of}
use Rattle.std.proofs.lemmas.List.Elements.{All-append, All-cons, All-nil}
use Rattle.std.proofs.lemmas.List.FromFn.{map-range_with_len_more}

-- One more value, which shows as f of the next number.
pub map-more : {X Y : Type 0} (show : X → Y) (f : ℕ → Y) (xs : List X) (x : X) (n : ℕ)
    → map show xs ≡ map f (range_with_len 0 n) → show x ≡ f n
    → map show (xs ++ x ∷ []) ≡ map f (range_with_len 0 (n + 1))
map-more show f xs x n were is =
    map-append show xs (x ∷ []) ∙ ap (λ ys. ys ++ show x ∷ []) were ∙ ap (λ y. map f (range_with_len 0 n) ++ y ∷ []) is
    ∙ sym (map-range_with_len_more f 0 n n (zero-add n))

-- What holds of each element and of one more value.
pub All-more : {X : Type 0} (P : X → Type 0) (xs : List X) (x : X) → All P xs → P x → All P (xs ++ x ∷ [])
All-more P xs x each one = All-append P xs (x ∷ []) each (All-cons P x [] one (All-nil P))

-- A call that is served names a page that the device has.
pub served-page : (d : Disk) (page len : ℕ) → is_served d page len ≡ true → page < length d.images
served-page d page len is = search rules

-- The image that a served call names, where the device keeps it as x.
pub image_of-served : {X : Type 0} (show : X → List ℕ) (xs : List X) (d : Disk) (page len : ℕ) (x : X)
    → map show xs ≡ d.images → is_served d page len ≡ true → x ≡ slice_index_or xs page x → image_of d page ≡ show x
image_of-served show xs d page len x kept served is =
    let P : List (List ℕ) → Type 0 = λ images. page < length images in
    let below : page < length xs = subst (λ n. page < n) (length-map xs show) (subst P (sym kept) (served-page d page len served)) in
    sym (ap (λ images. slice_index_or images page []) kept) ∙ get_or-map show xs page x [] below ∙ sym (ap show is)
