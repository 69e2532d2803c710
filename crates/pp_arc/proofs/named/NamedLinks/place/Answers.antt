-- What is left to show of NamedLinks::place.
use Rattle.std.proofs.Common.{◌≡◌, ◌<◌, length, sym, refl, ◌∙◌}
use Rattle.std.specs.Prelude.{Some, None}
use Rattle.pp_arc.specs.Names.{naming_of, HasNode}
use Rattle.pp_arc.proofs.StepLemmas.{place-times_named}
use Rattle.pp_arc.specs.Names.{lists_named}
use Rattle.pp_arc.proofs.NamingLemmas.{place_is, has_name, if_placed}
use Rattle.pp_arc.proofs.named.NamedLinks.place.Goals as goal

pub returns-in-Some-clause-place : goal.returns-in-Some-clause-place
returns-in-Some-clause-place c =
    c.place.ensures.place
    ∙ place_is (naming_of c.self.inside) c.args.self.now c.args.page c.in-Some.node c.self.view_is
    c.in-Some.ensures.naming (c.in-Some.ensures.some c.in-Some.node refl)

pub returns-in-Some-clause-below : goal.returns-in-Some-clause-below
returns-in-Some-clause-below c =
    if_placed c.place.result (c.args.page < length c.args.self.now.names)
    (has_name c.args.self.now c.args.page c.in-Some.node (c.in-Some.ensures.some c.in-Some.node refl))

pub returns-in-None-clause-place : goal.returns-in-None-clause-place
returns-in-None-clause-place c =
    sym (place-times_named (lists_named c.args.self.now) c.args.page (c.in-None.ensures.none refl))
