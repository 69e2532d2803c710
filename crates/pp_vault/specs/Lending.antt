-- What lends a body of an image ends as.
use Rattle.std.specs.Prelude.{◌≡◌, ◌≤◌, ℕ, List, ◌++◌, take, drop, length}
use Rattle.std.specs.Borrow.{Lends, MutBor, Fml, Array, u8}
use Rattle.pp_device.specs.Image.{head_of, body_of}
use Rattle.pp_vault.specs.contracts.image.Image.{the_row as image_row}
use Rattle.pp_vault.specs.declared.guards.WriteGuard.{WriteGuard}
use Rattle.pp_vault.specs.contracts.guards.WriteGuard.{the_row as guard_row}

-- The head of the image, and behind it these bytes; where they are too few, the last of its own.
abbrev pub behind_head : (image body : List ℕ) → List ℕ
behind_head image body = take 12 image ++ (body ++ drop (length body) (body_of image))

-- The image with this body. A body of another length is cut, or filled up from the old one, so that the length stays.
abbrev pub with_body : (image body : List ℕ) → List ℕ
with_body image body =
    take (length image) (behind_head image body ++ drop (length (behind_head image body)) image)

-- The image ends with the last bytes behind the reference as its body.
abbrev pub LendsBody : MutBor (List ℕ) → MutBor (List ℕ) → Fml
LendsBody image body = Lends image_row (Array u8 0) image body (with_body image.now)

-- The guard ends with the last bytes behind the reference as its image's body, and else as it was.
abbrev pub LendsGuardBody : MutBor WriteGuard → MutBor (List ℕ) → Fml
LendsGuardBody guard body =
    Lends guard_row (Array u8 0) guard body (λ bytes. record guard.now { image = with_body guard.now.image bytes })

-- ---- what an image with another body is

-- It has the head that it had, and its length; and the body, where that is as long as the old one.
abbrev pub BodyKeepsHead : Type 0
BodyKeepsHead = (image body : List ℕ) → 12 ≤ length image → head_of (with_body image body) ≡ head_of image

abbrev pub BodyKeepsLength : Type 0
BodyKeepsLength = (image body : List ℕ) → length (with_body image body) ≡ length image

abbrev pub BodyIsWritten : Type 0
BodyIsWritten =
    (image body : List ℕ) → 12 ≤ length image → length body ≡ length (body_of image)
    → body_of (with_body image body) ≡ body
