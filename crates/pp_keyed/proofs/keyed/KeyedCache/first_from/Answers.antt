-- What is left to show of KeyedCache::first_from: the names that were passed are all names.
use Rattle.std.proofs.Common.{◌≡◌, ap, sym, subst, ◌∙◌}
use Rattle.std.proofs.Common.{◌+◌, ◌≤◌, arith}
use Rattle.std.specs.Prelude.{None, IfSome, IsSome, is_some}
use Rattle.pp_cache.specs.Frames.{page_of}
use Rattle.pp_names.specs.Names.{key_of}
use Rattle.pp_keyed.specs.Keyed.{Keyed, lower_key}
use Rattle.pp_keyed.proofs.WalkLemmas.{IsLowest, lowest-start, lowest-passed, lowest-next, lowest-end}
use Rattle.pp_keyed.proofs.AnswerLemmas.{framed, if_some}
use Rattle.pp_keyed.proofs.keyed.KeyedCache.first_from.Goals.{then-is_some, else-is_some}
use Rattle.pp_keyed.proofs.keyed.KeyedCache.first_from.Goals as goal

pub loop-name-init : goal.loop-name-init
loop-name-init c = record { lowest = lowest-start c.self.inside.names c.self.inside.cache c.args.from }

pub loop-name-preserved : goal.loop-name-preserved
loop-name-preserved c =
    let framed_is : c.is_some.result ≡ is_some (page_of c.self.inside.cache.table c.loop-name.name) =
    c.is_some.ensures ∙ ap is_some c.frame.ensures.value ∙ framed (page_of c.self.inside.cache.table c.loop-name.name) in
    elim c.if-is_some.branch [
      | then-is_some w ↦
          let lower_is : c.if-is_some.first ≡ lower_key c.loop-name.first c.args.from (key_of c.self.inside.names c.loop-name.name) =
          w.first-is ∙ w.lower-first.ensures ∙ ap (lower_key c.loop-name.first c.args.from) w.key.ensures.value in
          record {
            lowest = subst (IsLowest c.self.inside.names c.self.inside.cache c.args.from (c.loop-name.name + 1)) (sym lower_is)
                (lowest-next c.self.inside.names c.self.inside.cache c.args.from c.loop-name.name c.loop-name.first
                c.self.invariant c.loop-name.invariant.lowest (sym framed_is ∙ w.if-is_some.true));
          }
      | else-is_some w ↦ record {
        lowest = subst (IsLowest c.self.inside.names c.self.inside.cache c.args.from (c.loop-name.name + 1)) (sym w.first-is)
            (lowest-passed c.self.inside.names c.self.inside.cache c.args.from c.loop-name.name c.loop-name.first
            c.loop-name.invariant.lowest (sym framed_is ∙ w.if-is_some.false));
      }
    ]

pub returns-clause-first : goal.returns-clause-first
returns-clause-first c =
    subst (λ (v : Keyed). IfSome c.loop-name.first (λ key. (c.args.from ≤ key) × IsSome (page_of v.cache.table key))) c.self.view_is
    (if_some _ c.loop-name.first c.loop-name.invariant.lowest.found)

pub returns-clause-least : goal.returns-clause-least
returns-clause-least c = λ key le below.
    subst (λ (v : Keyed). page_of v.cache.table key ≡ None) c.self.view_is
    (lowest-end c.self.inside.names c.self.inside.cache c.args.from c.loop-name.name c.loop-name.first key c.self.invariant
    c.loop-name.invariant.lowest
    (omega (arith, c.loop-name-test.false, c.loop-name.auto.name-end, c.len-name-end.ensures.value)) le below)
