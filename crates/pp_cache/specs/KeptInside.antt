-- The parts that the code keeps, as lists.
use Rattle.pp_cache.specs.declared.frames.Frames.TheInside.{Inside}
use Rattle.pp_cache.specs.Kept.{Parts}

abbrev pub parts_of : Inside → Parts
parts_of f = record { pages = f.pages.items; order = f.order.items; taken = f.taken; pinned = f.pinned }
