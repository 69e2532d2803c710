-- Laws of outsets.
use Rattle.std.specs.Prelude.{◌≡◌, None, true}
use Rattle.pp_model.specs.Pool.{Settings, State, opening}
use Rattle.pp_model.specs.Renewing.{is_at_rest, renew_error, renewed}
use Rattle.pp_model.specs.Reached.{IsReached}
use Rattle.pp_core.specs.StandsFor.{StandsFor}
use Rattle.pp_core.specs.Parts.{Parts}
use Rattle.pp_outset.specs.Outsets.{Outset, new_outset, outset_of, opens_with, HasRoomFor}

-- A life with a new pool's outset begins in the opening state of the settings.
abbrev pub NewOpens : Settings → Type 0
NewOpens k = opens_with k (new_outset k) ≡ opening k

-- At rest, the state in which the next life begins is the opening state with the outset that this life leaves.
abbrev pub NextOpens : State → Type 0
NextOpens s = IsReached s → is_at_rest s ≡ true → renewed s ≡ opens_with s.settings (outset_of s)

-- The outset that a life leaves is the one that the next begins with.
abbrev pub NextKeeps : State → Type 0
NextKeeps s = outset_of (renewed s) ≡ outset_of s

-- An opening state has the outset that it opens with.
abbrev pub OpensWith : Settings → Outset → Type 0
OpensWith k o = outset_of (opens_with k o) ≡ o

-- Where a pool can be renewed, the opening state with the outset that this life leaves is reached.
abbrev pub NextIsReached : State → Type 0
NextIsReached s = IsReached s → renew_error s ≡ None → IsReached (opens_with s.settings (outset_of s))

-- An outset with which a reached life begins has room for what any core of the same settings leaves.
abbrev pub HasRoom : Settings → Outset → Parts → Type 0
HasRoom k o f =
    (s : State) → IsReached (opens_with k o) → StandsFor f s → s.settings.layout ≡ k.layout → HasRoomFor o f
