-- What a plan's fields are seen as.
use Rattle.std.specs.Prelude.{◌≡◌, ℕ, false, map, string_bytes, slice_index_or}
use Rattle.pp_plan.specs.declared.plan.Plan.TheInside.{Inside}
use Rattle.pp_plan.specs.Terms.{Terms, IsPlan}
use Rattle.pp_plan.specs.Rules.{uses_bundle}
use Rattle.pp_plan.specs.FlatList.{flat_body}

abbrev pub terms_of : Inside → Terms
terms_of p =
    record { version = p.version; layout = p.layout; slots = map string_bytes p.slots.items; body = p.body }

-- What holds of the fields: they are a plan's, the table has for each slot whether the body uses it as a bundle, and the
-- steps are those of the body.
pub record AreFields (p : Inside) : Type 0 where
  pub plan : IsPlan (terms_of p)
  pub bundles : (k : ℕ) → slice_index_or p.bundles k false ≡ uses_bundle p.body k
  pub steps : p.steps.items ≡ flat_body p.body
