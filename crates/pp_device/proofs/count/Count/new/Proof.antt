-- The struct has no bytes, so the count may begin at any number: it begins at 0.
use Rattle.std.proofs.Common.{[], ◌∷◌, refl}
use Rattle.std.proofs.raw_atomic.Walks.{proved}
use base.Fml.{ftrue}
use mir.Val.{vstruct, vnil}
use types.Kit.{‵, raw, ◌$◌, ◌∵◌, !, qed, done, keep, join, suffices}
use types.Part.{agg}
use types.Run.{enter, no_more, returns}
use types.ByLocal.{alloc_all, pass_all, free_all, look_at, sets}
use denote.Shadow.{pure_i}
use denote.Steps.{nothing}
use denote.Triple.Entry.{on_entry}
use denote.Triple.Walked.{Stays, walk_of, says, ends_at}
use Rattle.pp_device.specs.contracts.count.Count.{the_row as R}
use Rattle.pp_device.specs.contracts.count.Count.new as f
use Rattle.pp_device.proofs.count.Count.new.Statement.{statement}
use Rattle.pp_device.proofs.count.Count.new.Code as code

abbrev stayed : Stays f.ended.signature.params f.ended.kept
stayed = tt

pub new_spec : {M : Type 1} → statement M
new_spec 𝓤 𝓛 𝓜 𝓡 wired =
    let c = f.clauses 𝓛 𝓜.mem 𝓡.returns in let W = walk_of 𝓛 f.ended stayed c in
    proved 𝓛 f.ended stayed c 𝓜 𝓡 tt
    f.Key.name code.function (code.unfolded 𝓤 𝓛.H 𝓜 𝓡 wired)
    (λ κs. tt) (λ κs. tt) (λ κs qs bounds a _ are.
    let y : W.Ghost = ((κs, qs, bounds, a, tt), tt) in
    qed 𝓛 (raw (on_entry 𝓛 f.signature κs qs a tt) ∷ ‵ ftrue ∷ []) ∵ keep ! [] $
    enter ! _ _ _ _ _ $ alloc_all ! (λ l. pass_all ! refl tt $
    sets ! (agg ! (no_more !)) refl (tt, tt) $
    returns ! (look_at ! 0 refl) $ free_all ! refl $
    pure_i ! (R.own_val (record { number = 0 }) (vstruct vnil ∷ [])) ((λ vss. (tt, tt)), tt) ((tt, (refl, tt)), tt) $
    suffices ! _ (ends_at 𝓛 f.ended stayed c y (vstruct vnil) (record { number = 0 }) tt tt) $ says ! refl $
    nothing ! $ join ! $ nothing ! $ done !))
