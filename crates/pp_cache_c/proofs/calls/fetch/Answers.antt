-- What is left to show of fetch: a hit is a page that stands in a frame, and a new page may be brought in.
use Rattle.std.proofs.Common.{◌≡◌, refl, subst, sym, ap, ◌∙◌}
use Rattle.std.specs.Prelude.{Option, None, Some, IsTrue, IsFalse}
use Rattle.std.specs.Option.{IfSome}
use Rattle.pp_cache.specs.declared.create.Create.{Create}
use Rattle.pp_cache.specs.declared.fetched.Fetched.TheVariants.{Hit, New, Nothing, NoRoom}
use Rattle.pp_cache.specs.Frames.{frame_of}
use Rattle.pp_cache.specs.Cache.{may_bring_in}
use Rattle.pp_cache_c.specs.Calls.{place_of}
use Rattle.pp_cache_c.proofs.CallLemmas.{some_is_hit, framed}
use Rattle.pp_cache_c.proofs.calls.fetch.Goals as goal

pub returns-in-Hit-clause-hit : goal.returns-in-Hit-clause-hit
returns-in-Hit-clause-hit c = λ e.
    let at : c.of.result.frame ≡ c.in-Hit.frame = framed c.of.result c.in-Hit.frame None c.of.ensures in (
      (c.in-Hit.ensures.hit c.in-Hit.frame).0 refl ∙ ap Some (sym at),
      c.of.ensures ∙ ap (λ n. place_of n None) (sym at),
      c.in-Hit.ensures.after_hit c.in-Hit.frame refl,
    )

pub returns-in-New-clause-resident : goal.returns-in-New-clause-resident
returns-in-New-clause-resident c = λ below some.
    let is = some_is_hit (New c.in-New.frame c.in-New.left) (frame_of c.args.kept.now.cache.table c.args.key)
    c.in-New.ensures.hit some in
    let n : New c.in-New.frame c.in-New.left ≡ Hit is.0 = is.1 in
    absurd (cc)

pub returns-in-New-clause-new : goal.returns-in-New-clause-new
returns-in-New-clause-new c = λ e.
    let at : c.of-in-New.result.frame ≡ c.in-New.frame = framed c.of-in-New.result c.in-New.frame c.in-New.left
    c.of-in-New.ensures in (
      c.in-New.ensures.key c.in-New.frame c.in-New.left refl,
      rw at (c.in-New.ensures.new c.in-New.frame c.in-New.left refl),
      rw at (c.in-New.ensures.new_is_free c.in-New.frame c.in-New.left refl),
      c.of-in-New.ensures ∙ ap (λ n. place_of n c.in-New.left) (sym at)
          ∙ ap (place_of c.of-in-New.result.frame) (c.in-New.ensures.left c.in-New.frame c.in-New.left refl),
      subst (λ (way : Option Create). IfSome way (λ w. IsTrue (may_bring_in c.args.kept.now.cache w)))
          c.in-Some.ensures.value (c.in-New.ensures.may_be_new c.in-New.frame c.in-New.left refl),
    )

pub returns-in-Nothing-clause-resident : goal.returns-in-Nothing-clause-resident
returns-in-Nothing-clause-resident c = λ below some.
    let is = some_is_hit Nothing (frame_of c.args.kept.now.cache.table c.args.key) c.in-Nothing.ensures.hit some in
    let n : Nothing ≡ Hit is.0 = is.1 in
    absurd (cc)

pub returns-in-Nothing-clause-nothing : goal.returns-in-Nothing-clause-nothing
returns-in-Nothing-clause-nothing c = λ e. (
  c.in-Nothing.ensures.unchanged refl,
  subst (λ (way : Option Create). IfSome way (λ w. IsFalse (may_bring_in c.args.kept.now.cache w)))
      c.in-Some.ensures.value (c.in-Nothing.ensures.nothing.0 refl).1,
)

pub returns-in-NoRoom-clause-resident : goal.returns-in-NoRoom-clause-resident
returns-in-NoRoom-clause-resident c = λ below some.
    let is = some_is_hit NoRoom (frame_of c.args.kept.now.cache.table c.args.key) c.in-NoRoom.ensures.hit some in
    let n : NoRoom ≡ Hit is.0 = is.1 in
    absurd (cc)
