-- What is left to show of KeyedCache::truncate: each name whose key is at least the limit is dropped in turn.
use Rattle.std.proofs.Common.{◌≡◌, ℕ, ap, sym, subst, ◌∙◌}
use Rattle.std.proofs.Common.{◌+◌, true, false, List, arith}
use Rattle.std.specs.Prelude.{Option}
use Rattle.pp_names.specs.Names.{key_of}
use Rattle.pp_keyed.specs.Keyed.{Keyed, is_from}
use Rattle.pp_keyed.proofs.WalkLemmas.{IsTruncated, truncated-start, truncated-passed, truncated-dropped, truncated-end}
use Rattle.pp_keyed.proofs.AnswerLemmas.{keyed-sound}
use Rattle.pp_keyed.proofs.keyed.KeyedCache.truncate.Goals.{then-is_from, else-is_from}
use Rattle.pp_keyed.proofs.keyed.KeyedCache.truncate.Goals as goal

pub loop-name-init : goal.loop-name-init
loop-name-init c = record {
  truncated = subst (λ (v : Keyed). IsTruncated v.cache v.room v.used c.args.limit 0 c.self.inside.names c.self.inside.cache)
      c.self.view_is (truncated-start c.self.inside.names c.self.inside.cache c.args.limit c.self.invariant);
}

pub loop-name-preserved : goal.loop-name-preserved
loop-name-preserved c = elim c.if-is_from.branch [
  | then-is_from w ↦
      let from : is_from c.args.limit (key_of c.loop-name.self-inside.names c.loop-name.name) ≡ true =
      sym (c.is_from.ensures ∙ ap (is_from c.args.limit) c.key.ensures.value) ∙ w.if-is_from.true in
      rw w.self-inside-is (record {
        truncated = subst (λ (v : List (Option ℕ)). IsTruncated c.args.self.now.cache c.args.self.now.room c.args.self.now.used
            c.args.limit (c.loop-name.name + 1) v w.drop_page.new.self) (sym w.take_unused.ensures.exact)
            (truncated-dropped c.args.self.now.cache c.args.self.now.room c.args.self.now.used c.args.limit c.loop-name.name
            c.loop-name.self-inside.names c.loop-name.self-inside.cache w.drop_page.new.self c.loop-name.invariant.truncated from
            w.drop_page.ensures.exact w.drop_page.ensures.sound);
      })
  | else-is_from w ↦
      let not_from : is_from c.args.limit (key_of c.loop-name.self-inside.names c.loop-name.name) ≡ false =
      sym (c.is_from.ensures ∙ ap (is_from c.args.limit) c.key.ensures.value) ∙ w.if-is_from.false in
      rw w.self-inside-is (record {
        truncated = truncated-passed c.args.self.now.cache c.args.self.now.room c.args.self.now.used c.args.limit c.loop-name.name
            c.loop-name.self-inside.names c.loop-name.self-inside.cache c.loop-name.invariant.truncated not_from;
      })
]

pub invariant_of-self : goal.invariant_of-self
invariant_of-self c = c.loop-name.invariant.truncated.keyed

pub returns : goal.returns
returns c = record {
  exact = truncated-end c.args.self.now.cache c.args.self.now.room c.args.self.now.used c.args.limit c.loop-name.name
      c.loop-name.self-inside.names c.loop-name.self-inside.cache c.loop-name.invariant.truncated
      (omega (
        arith,
        c.loop-name-test.false,
        c.loop-name.auto.name-end,
        c.len-name-end.ensures.value,
        c.loop-name.invariant.truncated.size,
        ap (λ (v : Keyed). v.room) c.self.view_is,
      ));
  room = c.loop-name.invariant.truncated.size;
  used = c.loop-name.invariant.truncated.fewer;
  sound = keyed-sound c.loop-name.self-inside.names c.loop-name.self-inside.cache c.loop-name.invariant.truncated.keyed;
}
