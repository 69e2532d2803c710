-- A tournament, which knows the entrant of the greatest key.
-- (Knuth, The Art of Computer Programming, volume 3, sections 5.2.3 and 5.4.1.)
use Rattle.std.specs.Prelude.{◌≡◌, ◌≢◌, ℕ, ◌+◌, ◌*◌, ◌<◌, ◌≤◌, max, List, length, drop, slice_index, slice_set}
use Rattle.pp_arc.specs.declared.tournament.Tournament.TheInside.{Inside}

-- Each inner node but this one has the greater key of the two nodes below it. Node 1 is the root, below node j stand 2j and
-- 2j + 1, and those from the half on are the leaves.
abbrev pub WinsBut : List ℕ → ℕ → Type 0
WinsBut nodes hole = (j : ℕ) → 1 ≤ j → 2 * j + 1 < length nodes → j ≢ hole
    → slice_index nodes j ≡ max (slice_index nodes (2 * j)) (slice_index nodes (2 * j + 1))

-- each inner node has the greater key of the two nodes below it
abbrev pub Wins : List ℕ → Type 0
Wins nodes = WinsBut nodes 0

-- the keys of the leaves, and that of the entrant who waits outside of the tree
abbrev pub keys_of : Inside → List ℕ
keys_of d = slice_set (drop d.entrants d.nodes.items) d.waiting d.key

pub record IsSound (d : Inside) : Type 0 where
  pub size : length d.nodes.items ≡ 2 * d.entrants
  pub wins : Wins d.nodes.items
  -- who waits has no key in the tree
  pub outside : slice_index (drop d.entrants d.nodes.items) d.waiting ≡ 0
  pub entrant : 0 < d.key + d.entrants → d.waiting < d.entrants
