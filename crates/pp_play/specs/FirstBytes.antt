-- What writing a byte, and looking at one, do with the guard that is at hand.
use Rattle.std.specs.Prelude.{◌≡◌, ◌≤◌, ℕ, true, false, Option, None, Some, List, length, slice_set}
use Rattle.pp_cert.specs.declared.note.Held.{Held}
use Rattle.pp_model.specs.Pool.{State}
use Rattle.pp_vault.specs.declared.guards.Guard.{Guard}
use Rattle.pp_vault.specs.declared.guards.Guard.TheVariants as guard
use Rattle.pp_vault.specs.Parts.{Parts}
use Rattle.pp_play.specs.declared.line.Line.{Line}
use Rattle.pp_play.specs.declared.line.Line.TheVariants.{Wrote, Looked, NoLatch}
use Rattle.pp_play.specs.Exact.{may_look, Lets, first_of}

-- The line of the first byte of a body, where the body has one.
abbrev pub line_of_first : Option ℕ → Line
line_of_first None = NoLatch
line_of_first (Some byte) = Looked byte

-- A writer's image gets the byte at the front of its body, where it has room for one; other guards stay.
abbrev pub WritesInto : (byte : ℕ) → (old : Guard) → Line → (new : Guard) → Type 0
WritesInto byte (guard.Write g) Wrote new = new ≡ guard.Write (record g { image = slice_set g.image 12 byte })
WritesInto byte (guard.Write g) NoLatch new = (new ≡ guard.Write g) × (length g.image ≤ 12)
WritesInto byte (guard.Pin g) NoLatch new = new ≡ guard.Pin g
WritesInto byte (guard.Read g) NoLatch new = new ≡ guard.Read g
WritesInto byte (guard.Bundle g) NoLatch new = new ≡ guard.Bundle g
WritesInto byte g line new = ⊥

-- The line of a look with this guard: the first byte of the image that it lets its worker see, or none.
abbrev pub SeesWith : Parts → State → Guard → Line → Type 0
SeesWith v s g (Looked byte) = (image : List ℕ) × Lets v s (Some g) image × (first_of image ≡ Some byte)
SeesWith v s g NoLatch = Unit {0}
SeesWith v s g line = ⊥

-- The line of a look with this guard, whose slot is held so.
abbrev pub LooksWith : Parts → State → Option (ℕ × Held) → Guard → Line → Type 0
LooksWith v s held g (Looked byte) =
    (may_look held ≡ true) × ((image : List ℕ) × Lets v s (Some g) image × (first_of image ≡ Some byte))
LooksWith v s held g NoLatch = may_look held ≡ false
LooksWith v s held g line = ⊥
