-- The program's values, as contracts see them.
use Rattle.std.specs.Prelude.{ℕ, List, map}
use Rattle.std.specs.Borrow.{Bor}
use Rattle.pp_text.specs.declared.refusal.About.{About}
use Rattle.pp_text.specs.declared.refusal.About.TheVariants.{Nothing, Key, RegionKey, Top, Region, At, Worker}
use Rattle.pp_text.specs.declared.refusal.Refusal.{Refusal as Inside}
use Rattle.pp_text.specs.Refusals.{Matter, nothing, key, region_key, top, region, at, worker, Row}

-- The texts behind references.
abbrev pub texts : List (Bor (List ℕ)) → List (List ℕ)
texts words = map (λ w. w.now) words

abbrev pub matter_of : About → Matter
matter_of Nothing = nothing
matter_of (Key name) = key name.now
matter_of (RegionKey i name) = region_key i name.now
matter_of Top = top
matter_of (Region i) = region i
matter_of (At place) = at place
matter_of (Worker w) = worker w

abbrev pub row_of_refusal : Inside → Row
row_of_refusal r = record { number = r.number; name = r.name.now; about = matter_of r.about }
