-- What is left to show of give: a key that has a name keeps it.
use Rattle.std.proofs.Common.{◌≡◌, ap, refl}
use Rattle.std.proofs.Common.{inl}
use Rattle.std.specs.Prelude.{Some, is_some}
use Rattle.pp_names.specs.Names.{key_of}
use Rattle.pp_names.proofs.TableLemmas.{low_if_some}
use Rattle.pp_keyed.proofs.names.give.Goals as goal

pub returns-in-Some : goal.returns-in-Some
returns-in-Some c =
    let named : key_of c.args.names.now c.in-Some.name ≡ Some c.args.key = (c.in-Some.ensures.exact c.in-Some.name).0 refl in
    record {
      given = record {
        named = named;
        low = low_if_some c.args.names.now c.in-Some.name (ap is_some named);
        way = inl refl;
      };
    }
