use Rattle.std.proofs.Common.{◌≡◌, replicate}
use Rattle.pp_shared.specs.End.{new_end}
use Rattle.pp_shared.specs.Stores.{is_memory, pages_of, page_bytes_of}
use Rattle.std.specs.Arc.{arc_value}
use Rattle.pp_shared.proofs.shared.SharedDevice.ends_of.Given as goal

abbrev pub invariant-loop-end : goal.invariant-loop-end
invariant-loop-end g l =
    let store = arc_value l.store in
    l.devices.items ≡ replicate l._end (new_end (is_memory store) (pages_of store) (page_bytes_of store))
