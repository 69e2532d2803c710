-- What the check leaves to show of NumberSet::contains.
use Rattle.std.proofs.Common.{◌∙◌, ◌/◌, ◌%◌, sym, ap, arith}
use Rattle.std.proofs.lemmas.Bool.{le-ltb}
use Rattle.std.proofs.lemmas.List.{get_or_read}
use Rattle.pp_frames.specs.Numbers.{is_member}
use Rattle.pp_frames.specs.Words.{has_bit}
use Rattle.pp_frames.proofs.Spelling.{member_is}
use Rattle.pp_frames.proofs.number_set.NumberSet.contains.Goals as goal

pub index-requires : goal.index-requires
index-requires c = omega (arith, c.self.invariant.0.room, c.self.inside.words.ok.0)

pub returns-then-number-self : goal.returns-then-number-self
returns-then-number-self c =
    c.has_bit.ensures
    ∙ ap (λ w. has_bit w (c.args.number % 64))
    (get_or_read c.self.inside.words.items (c.args.number / 64) c.index.result.now
    (omega (arith, c.self.invariant.0.room)) c.index.ensures 0)
    ∙ sym (member_is c.self.inside.limit c.self.inside.words.items c.args.number c.self.invariant.0)
    ∙ ap (λ s. is_member s c.args.number) c.self.view_is

pub returns-else-number-self : goal.returns-else-number-self
returns-else-number-self c =
    le-ltb c.args.number c.self.inside.limit c.if-number-self.false
    ∙ sym (c.self.invariant.0.past c.args.number c.if-number-self.false)
    ∙ sym (member_is c.self.inside.limit c.self.inside.words.items c.args.number c.self.invariant.0)
    ∙ ap (λ s. is_member s c.args.number) c.self.view_is
