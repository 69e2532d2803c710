-- On the bytes of a device's file.
use Rattle.std.proofs.Common.{◌≡◌, ℕ, zero, suc, ◌+◌, ◌-◌, ◌*◌, ◌<◌, ◌≤◌, List, [], ◌∷◌, ◌++◌, length, map, take, drop, refl, sym, ◌∙◌, ap, append-nil, zero-add, arith, inl, inr}
use Rattle.std.specs.Prelude.{replicate}
use Rattle.std.specs.List.{concat, range_with_len}
use Rattle.std.proofs.lemmas.List.{drop-append-le, length-append, length-drop, length-replicate, take-append-le, take_all}
use Rattle.std.proofs.lemmas.List.Folds.{concat-append}
use Rattle.std.proofs.lemmas.List.FromFn.{map-range_with_len_more}
use Rattle.std.proofs.lemmas.Bool.{cases_lt}
use Rattle.std.proofs.lemmas.Nat.{mul-le}
use Rattle.std.proofs.Math.Seq.{drop-append_seam, take-append_seam}
use Rattle.pp_device.specs.Image.{blank_image, with_head}
use Rattle.pp_device.specs.DeviceFile.{blank_file, page_in_file}

-- One more page stands behind the others.
pub blank_file-more : (page_bytes n : ℕ) → blank_file (n + 1) page_bytes ≡ blank_file n page_bytes ++ blank_image page_bytes n
unfolding blank_file
blank_file-more page_bytes n =
    ap concat (map-range_with_len_more (blank_image page_bytes) 0 n n (zero-add n))
    ∙ concat-append (map (blank_image page_bytes) (range_with_len 0 n)) (blank_image page_bytes n ∷ [])
    ∙ ap (λ bs. concat (map (blank_image page_bytes) (range_with_len 0 n)) ++ bs) (append-nil (blank_image page_bytes n))

-- A head keeps the length of an image that has room for it.
pub length-with_head : (image : List ℕ) (page stamp : ℕ) → 12 ≤ length image → length (with_head image page stamp) ≡ length image
length-with_head image page stamp long =
    let rest : length (drop 12 image) ≡ length image - 12 = length-drop 12 image in omega (arith, long, rest)

-- An image has the bytes of a page.
pub length-blank_image : (page_bytes page : ℕ) → 12 ≤ page_bytes → length (blank_image page_bytes page) ≡ page_bytes
length-blank_image page_bytes page long =
    let zeros : length (replicate page_bytes 0) ≡ page_bytes = length-replicate page_bytes 0 in
    length-with_head (replicate page_bytes 0) page 0 (omega (arith, long, zeros)) ∙ zeros

-- All images together have so many times the bytes of a page.
pub length-blank_file : (page_bytes pages : ℕ) → 12 ≤ page_bytes → length (blank_file pages page_bytes) ≡ pages * page_bytes
unfolding blank_file
length-blank_file page_bytes zero long = omega arith
length-blank_file page_bytes (suc n) long =
    let next : suc n ≡ n + 1 = omega arith in
    let before : length (blank_file n page_bytes) ≡ n * page_bytes = length-blank_file page_bytes n long in
    let last : length (blank_image page_bytes n) ≡ page_bytes = length-blank_image page_bytes n long in
    let all : length (blank_file n page_bytes ++ blank_image page_bytes n) ≡ length (blank_file n page_bytes) + length (blank_image page_bytes n) =
    length-append (blank_file n page_bytes) (blank_image page_bytes n) in
    ap (λ k. length (blank_file k page_bytes)) next ∙ ap length (blank_file-more page_bytes n) ∙ omega (arith, before, last, all)

-- An image that stands before some bytes stands there before more.
page_in_file-append : (page_bytes page : ℕ) (bytes more : List ℕ) → page * page_bytes + page_bytes ≤ length bytes
    → page_in_file (bytes ++ more) page_bytes page ≡ page_in_file bytes page_bytes page
page_in_file-append page_bytes page bytes more within =
    let rest : length (drop (page * page_bytes) bytes) ≡ length bytes - page * page_bytes = length-drop (page * page_bytes) bytes in
    ap (take page_bytes) (drop-append-le (page * page_bytes) bytes more (omega (arith, within)))
    ∙ take-append-le page_bytes (drop (page * page_bytes) bytes) more (omega (arith, within, rest))

-- An image behind so many others.
page_in_file-last : (page_bytes page : ℕ) (bytes image : List ℕ) → length bytes ≡ page * page_bytes → length image ≡ page_bytes
    → page_in_file (bytes ++ image) page_bytes page ≡ image
page_in_file-last page_bytes page bytes image behind whole =
    ap (λ k. take page_bytes (drop k (bytes ++ image))) (sym behind)
    ∙ ap (take page_bytes) (drop-append_seam bytes image)
    ∙ take_all page_bytes image (omega (arith, whole))

-- Each page stands at its place.
pub page_in_file-blank_file : (page_bytes pages page : ℕ) → 12 ≤ page_bytes → page < pages
    → page_in_file (blank_file pages page_bytes) page_bytes page ≡ blank_image page_bytes page
page_in_file-blank_file page_bytes zero page long below = absurd (omega (arith, below))
page_in_file-blank_file page_bytes (suc n) page long below =
    let next : suc n ≡ n + 1 = omega arith in
    let before : length (blank_file n page_bytes) ≡ n * page_bytes = length-blank_file page_bytes n long in
    ap (λ k. page_in_file (blank_file k page_bytes) page_bytes page) next
    ∙ ap (λ bytes. page_in_file bytes page_bytes page) (blank_file-more page_bytes n)
    ∙ elim (cases_lt page n) [
      | inl less ↦ page_in_file-append page_bytes page (blank_file n page_bytes) (blank_image page_bytes n)
          (omega (arith, before, mul-le (page + 1) page_bytes n page_bytes (omega (arith, less)) (omega arith)))
          ∙ page_in_file-blank_file page_bytes n page long less
      | inr least ↦ let same : page ≡ n = omega (arith, below, least) in
          ap (λ k. page_in_file (blank_file n page_bytes ++ blank_image page_bytes n) page_bytes k) same
          ∙ page_in_file-last page_bytes n (blank_file n page_bytes) (blank_image page_bytes n) before (length-blank_image page_bytes n long)
          ∙ ap (blank_image page_bytes) (sym same)
    ]

-- What stands in a buffer of this length once as many bytes are put in the place of its own.
pub replaced : (items new : List ℕ) (len : ℕ) → length new ≡ len → take len (new ++ drop (length new) items) ≡ new
replaced items new len whole =
    ap (λ k. take k (new ++ drop (length new) items)) (sym whole) ∙ take-append_seam new (drop (length new) items)
