-- Two desks that differ in no field are the same.
use Rattle.std.proofs.Common.{◌≡◌, []}
use denote.Ref.{NamedLft}
use denote.RattleType.{RattleType}
use denote.Struct.Cover.{Cover-one}
use mir.Syntax.{static}
use Rattle.pp_run.specs.declared.desk.Naming.{Ghosts}
use Rattle.pp_run.specs.declared.desk.RunDesk.{RunDesk}
use Rattle.pp_run.specs.contracts.desk.RunDesk.{the_type, the_values}

-- What a desk is as a value doesn't depend on how long its counter is lent.
for_ever : NamedLft
for_ever = record { mir = static; lft = [] }

pub same_desk : (N : RattleType) (g : Ghosts N.Denot) (x y : RunDesk N.Denot g)
    → ◌≡◌ {A = the_values N.Denot g} (x.site, (x.hands, (x.pages, (x.of, (x.finished, tt))))) (y.site, (y.hands, (y.pages, (y.of, (y.finished, tt)))))
    → x ≡ y
same_desk N g x y e = Cover-one (the_type for_ever N g).cover (the_type for_ever N g).propositions x y e
