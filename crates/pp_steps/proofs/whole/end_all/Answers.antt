use Rattle.std.proofs.Common.{◌≡◌, ◌∙◌, ◌++◌, ◌∷◌, [], length, subst}
use Rattle.std.specs.Prelude.{IfSome}
use Rattle.pp_steps.specs.Parts.{AreSeated, IsSeated}
use Rattle.pp_steps.proofs.Home.{last_empty, last_parked, parked_vault}
use Rattle.pp_steps.proofs.Places.{each_last}
use Rattle.pp_steps.proofs.whole.end_all.Goals as goal

pub park-requires : goal.park-requires
park-requires c =
    let h = c.loop-place.hall.value in
    let all : AreSeated h (c.pop.new.self.items ++ c.in-Some.place ∷ []) =
    subst (λ places. AreSeated h places) c.in-Some.ensures.items c.loop-place.invariant.seated in (
      length c.pop.new.self.items,
      subst (λ one. IfSome one (IsSeated h (length c.pop.new.self.items))) c.in-Some-seated.is
          (each_last (IsSeated h) c.pop.new.self.items c.in-Some.place all),
    )

pub loop-place-preserved-in-Some-seated : goal.loop-place-preserved-in-Some-seated
loop-place-preserved-in-Some-seated c =
    let h = c.loop-place.hall.value in
    let at = c.in-Some-seated.seated.worker.hand.stage in
    let all : AreSeated h (c.pop.new.self.items ++ c.in-Some.place ∷ []) =
    subst (λ places. AreSeated h places) c.in-Some.ensures.items c.loop-place.invariant.seated in
    let one : IsSeated h (length c.pop.new.self.items) c.in-Some-seated.seated =
    subst (λ one. IfSome one (IsSeated h (length c.pop.new.self.items))) c.in-Some-seated.is
    (each_last (IsSeated h) c.pop.new.self.items c.in-Some.place all) in
    let own = one.rests.own in
    let is = c.park.ensures.is in
    let same : c.park.ensures.chair ≡ length c.pop.new.self.items = cc in
    record {
      seated = last_parked h c.park.new.hall.value at c.park.result c.pop.new.self.items c.in-Some.place c.park.ensures same all;
      vault = parked_vault h c.park.new.hall.value at c.park.result c.park.ensures ∙ c.loop-place.invariant.vault;
    }

pub loop-place-preserved : goal.loop-place-preserved
loop-place-preserved c =
    let h = c.loop-place.hall.value in
    record {
      seated =
          last_empty h c.pop.new.self.items c.in-Some.place
          (subst (λ places. AreSeated h places) c.in-Some.ensures.items c.loop-place.invariant.seated);
      vault = c.loop-place.invariant.vault;
    }
