-- On the head of an image.
use Rattle.std.proofs.Common.{◌≡◌, ℕ, zero, suc, ◌<◌, ◌≤◌, List, [], ◌∷◌, ◌++◌, length, take, drop, slice_index_or, All, refl, sym, ◌∙◌, ap, lit<, arith}
use Rattle.std.specs.Int.{w32, w64, to_be_bytes, from_be_bytes}
use Rattle.std.proofs.lemmas.List.{append_assoc, length-take-le, length-drop, take-append-drop}
use Rattle.std.proofs.lemmas.List.Elements.{All-take, All-drop}
use Rattle.std.proofs.lemmas.Nat.{be_bytes_4, be_bytes_8}
use Rattle.pp_device.specs.Image.{with_head, head_of, body_of}

-- What each element of a list of bytes is.
abbrev IsByte : ℕ → Type 0
IsByte byte = byte < 256

-- Each element of a list of bytes, and the 0 past its end, is a byte.
byte_at : (xs : List ℕ) → All IsByte xs → (i : ℕ) → slice_index_or xs i 0 < 256
byte_at [] each i = lit< tt
byte_at (x ∷ xs) each zero = each 0 0 (omega arith)
byte_at (x ∷ xs) each (suc i) = byte_at xs (λ k d below. each (suc k) d (omega (arith, below))) i

-- Bytes 4 on without 8 of them are the body.
body_of-drop : (image : List ℕ) → drop 8 (drop 4 image) ≡ body_of image
body_of-drop [] = refl
body_of-drop (a ∷ []) = refl
body_of-drop (a ∷ b ∷ []) = refl
body_of-drop (a ∷ b ∷ c ∷ []) = refl
body_of-drop (a ∷ b ∷ c ∷ d ∷ rest) = refl

-- Writing the head that stands there changes nothing.
pub with_head-head_of : (image : List ℕ) → 12 ≤ length image → All (λ byte. byte < 256) image
    → with_head image (head_of image).0 (head_of image).1 ≡ image
with_head-head_of image long bytes =
    let rest : List ℕ = drop 4 image in
    let enough : 4 ≤ length image = omega (arith, long) in
    let more : 8 ≤ length rest = omega (arith, long, length-drop 4 image) in
    let page : to_be_bytes w32 (from_be_bytes w32 (take 4 image)) ≡ take 4 image =
    be_bytes_4 (take 4 image) _ (length-take-le 4 image enough) (byte_at (take 4 image) (All-take IsByte 4 image bytes)) refl in
    let stamp : to_be_bytes w64 (from_be_bytes w64 (take 8 rest)) ≡ take 8 rest =
    be_bytes_8 (take 8 rest) _ (length-take-le 8 rest more)
    (byte_at (take 8 rest) (All-take IsByte 8 rest (All-drop IsByte 4 image bytes))) refl in
    ap (λ front. front ++ to_be_bytes w64 (head_of image).1 ++ body_of image) page
    ∙ ap (λ middle. take 4 image ++ middle ++ body_of image) stamp
    ∙ ap (λ body. take 4 image ++ take 8 rest ++ body) (sym (body_of-drop image))
    ∙ append_assoc (take 4 image) (take 8 rest) (drop 8 rest)
    ∙ ap (λ all. take 4 image ++ all) (take-append-drop 8 rest)
    ∙ take-append-drop 4 image
