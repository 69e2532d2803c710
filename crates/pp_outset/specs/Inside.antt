-- How an outset is kept: a vector for each of ARC's lists, with room for as long a list as ARC's bounds allow, and a vector of
-- notes.
use Rattle.std.specs.Prelude.{◌*◌, ◌≤◌, map, vec_capacity}
use Rattle.pp_model.specs.Pool as pool
use Rattle.pp_outset.specs.declared.note.Note.{Note}
use Rattle.pp_outset.specs.declared.outset.Outset.TheInside.{Inside}
use Rattle.pp_outset.specs.Outsets.{Outset}

abbrev pub note_as : Note → pool.Note
note_as n = record { frame = n.frame; dirty = n.is_dirty; mark = n.mark }

-- What an outset is to a caller.
abbrev pub outset_in : Inside → Outset
outset_in a =
    record {
      lists = record {
        c = a.frames;
        pages = a.pages;
        target = a.target;
        t1 = a.t1.items;
        t2 = a.t2.items;
        b1 = a.b1.items;
        b2 = a.b2.items;
      };
      notes = map note_as a.notes.items;
    }

-- There is room for lists as long as the bounds allow: T1 with T2, and T1 with B1, have at most c pages, and all four 2c.
pub record IsRoomy (a : Inside) : Type 0 where
  pub t1 : a.frames ≤ vec_capacity a.t1
  pub t2 : a.frames ≤ vec_capacity a.t2
  pub b1 : a.frames ≤ vec_capacity a.b1
  pub b2 : 2 * a.frames ≤ vec_capacity a.b2
