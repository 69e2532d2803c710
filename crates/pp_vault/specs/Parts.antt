-- What clauses see of a vault: what it keeps.
use Rattle.std.specs.Prelude.{ℕ, Option, List}
use Rattle.pp_core.specs.Parts as core
use Rattle.pp_vault.specs.declared.store.Store.{Store}

pub record Parts : Type 0 where
  -- what its core keeps
  pub core : core.Parts
  -- at place f the image in frame f, if it is there
  pub images : List (Option (List ℕ))
  -- the buffer for a flush, if it isn't away
  pub spare : Option (List ℕ)
  -- how many bytes a page has
  pub page_bytes : ℕ

-- The same of a vault's inside.
abbrev pub parts_of : Store → Parts
parts_of s = record {
  core = s.core;
  images = s.images.items;
  spare = s.spare;
  page_bytes = s.page_bytes;
}
