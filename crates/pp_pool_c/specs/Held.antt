-- What a handle owns: nothing at null, and else the box that its pointer points to.
use base.Fml.{Fml, feq}
use denote.RawPtr.{Ptr, null_ptr}
use Rattle.std.specs.declared.option.Option.{Option}
use Rattle.std.specs.declared.option.Option.TheVariants.{None, Some}
use Rattle.std_alloc.specs.Box.Ownership.{box_owns}
use Rattle.std_heap.specs.declared.Global.{Global}
use Rattle.std_heap.specs.contracts.GlobalAllocator.TheImpl.{ghosts}
use Rattle.pp_pool_c.specs.declared.handle.Kept.{Kept}
use Rattle.pp_pool_c.specs.contracts.handle.Kept.{the_row}

-- The box at a pointer, with what it has.
abbrev pub boxed : Global → Ptr → Kept → Fml
boxed heap = box_owns (ghosts.dealloc_token heap) the_row

-- What a handle owns that has this pointer.
abbrev pub held : Global → Ptr → Option Kept → Fml
held heap at None = feq Ptr at null_ptr
held heap at (Some kept) = boxed heap at kept
