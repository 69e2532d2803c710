-- An image that gets another body.
use Rattle.std.proofs.Common.{◌≡◌, ◌∙◌, ◌+◌, ◌-◌, ◌≤◌, ℕ, List, ◌++◌, take, drop, length, refl, sym, ap, arith}
use Rattle.std.specs.Int.{w32, w64, from_be_bytes}
use Rattle.std.specs.List.{length_refill}
use Rattle.std.proofs.lemmas.List.{append_assoc, length-take-le, length-drop, take-append-drop, take-append-le, drop-append-le}
use Rattle.std.proofs.Math.Seq.{take-append_seam, take-append-add, drop-append_seam}
use Rattle.pp_device.specs.Image.{head_of, body_of}
use Rattle.pp_vault.specs.Lending.{behind_head, with_body}

-- The head is in the first twelve bytes.
abbrev head_in : List ℕ → ℕ × ℕ
head_in front = (from_be_bytes w32 (take 4 front), from_be_bytes w64 (take 8 (drop 4 front)))

head_front : (front rest : List ℕ) → length front ≡ 12 → head_of (front ++ rest) ≡ head_in front
head_front front rest long =
    let low : take 4 (front ++ rest) ≡ take 4 front = take-append-le 4 front rest (omega (arith, long)) in
    let high : take 8 (drop 4 (front ++ rest)) ≡ take 8 (drop 4 front) =
    ap (λ l. take 8 l) (drop-append-le 4 front rest (omega (arith, long)))
    ∙ take-append-le 8 (drop 4 front) rest (omega (arith, long, length-drop 4 front)) in
    λ i. (from_be_bytes w32 (low i), from_be_bytes w64 (high i))

module _ (image body : List ℕ) (wide : 12 ≤ length image) where
  front_long : length (take 12 image) ≡ 12
  front_long = length-take-le 12 image wide

  -- What stands behind the head.
  abbrev middle : List ℕ
  middle = body ++ drop (length body) (drop 12 image)

  abbrev rest : List ℕ
  rest = drop (length (behind_head image body)) image

  parted : with_body image body ≡ take 12 image ++ take (length image - 12) (middle ++ rest)
  parted =
      let split : length image ≡ length (take 12 image) + (length image - 12) = omega (arith, wide, front_long) in
      ap (λ l. take (length image) l) (append_assoc (take 12 image) middle rest)
      ∙ ap (λ n. take n (take 12 image ++ (middle ++ rest))) split
      ∙ take-append-add (take 12 image) (middle ++ rest) (length image - 12)

  pub keeps_head : head_of (with_body image body) ≡ head_of image
  keeps_head =
      ap head_of parted ∙ head_front (take 12 image) (take (length image - 12) (middle ++ rest)) front_long
      ∙ sym (head_front (take 12 image) (drop 12 image) front_long) ∙ ap head_of (take-append-drop 12 image)

  pub is_written : length body ≡ length (body_of image) → body_of (with_body image body) ≡ body
  is_written same =
      let left : length image - 12 ≡ length body = omega (arith, wide, same, length-drop 12 image) in
      ap body_of parted
      ∙ ap (λ n. drop n (take 12 image ++ take (length image - 12) (middle ++ rest))) (sym front_long)
      ∙ drop-append_seam (take 12 image) (take (length image - 12) (middle ++ rest))
      ∙ ap (λ n. take n (middle ++ rest)) left
      ∙ ap (λ l. take (length body) l) (append_assoc body (drop (length body) (drop 12 image)) rest)
      ∙ take-append_seam body (drop (length body) (drop 12 image) ++ rest)

pub keeps_length : (image body : List ℕ) → length (with_body image body) ≡ length image
keeps_length image body = sym (length_refill (length image) image (behind_head image body) refl)
