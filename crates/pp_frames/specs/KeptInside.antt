-- What is kept of the marks, as values.
use Rattle.pp_frames.specs.declared.marks.Marks.TheInside.{Inside}
use Rattle.pp_frames.specs.Kept.{Parts}

abbrev pub parts_of : Inside → Parts
parts_of m = record { marks = m.records; pins = m.pins; dirty = m.dirty; free = m.free; flushable = m.flushable }
