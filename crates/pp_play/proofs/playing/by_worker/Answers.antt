use Rattle.std.proofs.Common.{◌≡◌, ◌∙◌, None, sym, ap, subst}
use Rattle.std.specs.Prelude.{IfNone, slice_set, Some}
use Rattle.pp_vault.specs.Stages.{put_for}
use Rattle.pp_vault.specs.Holding.{placed}
use Rattle.pp_play.proofs.AllHands.{absent_plays, same_hands, not_there, part_fits, joined_plays}
use Rattle.pp_play.specs.Calling.{is_flush_back}
use Rattle.pp_play.proofs.Called.{not_called, none_of_workers, none_after}
use Rattle.pp_play.proofs.Answered.{lifted, joined_there}
use Rattle.std.proofs.Common.{refl}
use Rattle.pp_contents.specs.ContentLaws.{HandsBack}
use Rattle.pp_play.proofs.Overs.{Laws, quiet_over, worker_over}
use Rattle.pp_play.proofs.playing.by_worker.Goals as goal

pub returns-in_default-clause-plays : goal.returns-in_default-clause-plays
returns-in_default-clause-plays g c fits =
    let hands = c.args.hands.now in
    let none = not_there c.part.result c.in_default.not-Some in
    let same : c.part.new.self.workers ≡ hands.workers =
    subst (λ o. IfNone o (c.part.new.self.workers ≡ hands.workers)) none c.part.ensures.unchanged in
    absent_plays c.args.vault.now hands c.args.worker (sym c.part.ensures.hand ∙ none) fits c.part.new.self
    (same_hands c.part.new.self hands same c.part.ensures.flushing) c.args.cue c.without_hand.result c.requires
    c.without_hand.ensures.tells c.without_hand.ensures.exact

pub returns-clause-plays : goal.returns-clause-plays
returns-clause-plays g c fits =
    let old = c.args.vault.now in
    let hands = c.args.hands.now in
    let w = c.args.worker in
    let hand = c.in-Some.hand in
    let left = c.with_hand-hand.result.0 in
    let there = sym c.part.ensures.hand ∙ c.in-Some.is in
    let joined : c.join.new.self.workers ≡ slice_set (slice_set hands.workers w None) w (Some left) =
    c.in-Ok.ensures.joined ∙ ap (λ o. put_for c.part.new.self.workers left o) c.with_hand-hand.ensures.of
    ∙ ap (λ ws. slice_set ws w (Some left)) c.in-Some.ensures.taken in
    joined_plays old c.with_hand-hand.new.vault c.known.ensures.holds.kept hands c.join.new.self w hand left c.args.cue
    c.with_hand-hand.result.1 c.requires there fits c.with_hand-hand.ensures.comes
    (c.with_hand-hand.ensures.plays (part_fits old hands w hand there fits)) joined
    (c.join.ensures.flushing ∙ c.part.ensures.flushing)

pub returns-in_default-clause-called : goal.returns-in_default-clause-called
returns-in_default-clause-called g c fits none =
    not_called g.D.Device.calls _ c.args.device.now c.without_hand.ensures.quiet

pub returns-in_default-clause-none_back : goal.returns-in_default-clause-none_back
returns-in_default-clause-none_back g c fits none =
    let hands = c.args.hands.now in
    let gone = not_there c.part.result c.in_default.not-Some in
    let same : c.part.new.self.workers ≡ hands.workers =
    subst (λ o. IfNone o (c.part.new.self.workers ≡ hands.workers)) gone c.part.ensures.unchanged in
    none_of_workers hands c.part.new.self none same (ap is_flush_back c.part.ensures.flushing ∙ none.flushing)

pub returns-clause-called : goal.returns-clause-called
returns-clause-called g c fits none =
    let hands = c.args.hands.now in
    let there = sym c.part.ensures.hand ∙ c.in-Some.is in
    c.with_hand-hand.ensures.called (part_fits c.args.vault.now hands c.args.worker c.in-Some.hand there fits)
    (none.workers c.args.worker c.in-Some.hand there)

pub returns-clause-none_back : goal.returns-clause-none_back
returns-clause-none_back g c fits none =
    let hands = c.args.hands.now in
    let w = c.args.worker in
    let hand = c.in-Some.hand in
    let left = c.with_hand-hand.result.0 in
    let there = sym c.part.ensures.hand ∙ c.in-Some.is in
    let joined : c.join.new.self.workers ≡ slice_set (slice_set hands.workers w None) w (Some left) =
    c.in-Ok.ensures.joined ∙ ap (λ o. put_for c.part.new.self.workers left o) c.with_hand-hand.ensures.of
    ∙ ap (λ ws. slice_set ws w (Some left)) c.in-Some.ensures.taken in
    none_after hands c.join.new.self w hand left there none
    (c.with_hand-hand.ensures.forth (part_fits c.args.vault.now hands w hand there fits) (none.workers w hand there))
    joined (c.join.ensures.flushing ∙ c.part.ensures.flushing)

pub returns-in_default-clause-own : goal.returns-in_default-clause-own
returns-in_default-clause-own g c =
    let hands = c.args.hands.now in
    let w = c.args.worker in
    let none = not_there c.part.result c.in_default.not-Some in
    let same : c.part.new.self.workers ≡ hands.workers =
    subst (λ o. IfNone o (c.part.new.self.workers ≡ hands.workers)) none c.part.ensures.unchanged in
    let gone : placed hands.workers w ≡ None = sym c.part.ensures.hand ∙ none in
    lifted c.args.vault.now hands c.part.new.self w None None gone (ap (λ ws. placed ws w) same ∙ gone) c.args.cue
    c.requires c.without_hand.result (c.without_hand.ensures.own c.args.vault.now)

pub returns-clause-own : goal.returns-clause-own
returns-clause-own g c =
    let hands = c.args.hands.now in
    let w = c.args.worker in
    let hand = c.in-Some.hand in
    let left = c.with_hand-hand.result.0 in
    let there = sym c.part.ensures.hand ∙ c.in-Some.is in
    let joined : c.join.new.self.workers ≡ slice_set (slice_set hands.workers w None) w (Some left) =
    c.in-Ok.ensures.joined ∙ ap (λ o. put_for c.part.new.self.workers left o) c.with_hand-hand.ensures.of
    ∙ ap (λ ws. slice_set ws w (Some left)) c.in-Some.ensures.taken in
    lifted c.args.vault.now hands c.join.new.self w (Some hand) (Some left) there
    (joined_there hands.workers c.join.new.self.workers w hand left there joined) c.args.cue c.requires
    c.with_hand-hand.result.1 c.with_hand-hand.ensures.own

pub returns-in_default-clause-over : goal.returns-in_default-clause-over
returns-in_default-clause-over g c fits s st told agrees =
    let old = c.args.vault.now in
    let hands = c.args.hands.now in
    let none = not_there c.part.result c.in_default.not-Some in
    let same : c.part.new.self.workers ≡ hands.workers =
    subst (λ o. IfNone o (c.part.new.self.workers ≡ hands.workers)) none c.part.ensures.unchanged in
    let plays =
    absent_plays old hands c.args.worker (sym c.part.ensures.hand ∙ none) fits c.part.new.self
    (same_hands c.part.new.self hands same c.part.ensures.flushing) c.args.cue c.without_hand.result c.requires
    c.without_hand.ensures.tells c.without_hand.ensures.exact in
    let laws : Laws = record {
      calls = c.contents_are_kept.ensures.calls;
      answers = c.contents_are_kept.ensures.answers;
      flushes = c.contents_are_kept.ensures.flushes;
      flush_answers = c.contents_are_kept.ensures.flush_answers;
      writers = c.contents_are_kept.ensures.writers;
      seen = c.contents_are_kept.ensures.seen;
    } in
    quiet_over g.D.Device.read_gives g.D.Device.write_leaves laws old old hands c.part.new.self c.args.device.now
    c.args.device.now fits s st told agrees c.args.cue c.without_hand.result c.without_hand.ensures.undone refl plays

pub returns-clause-over : goal.returns-clause-over
returns-clause-over g c fits s st told agrees =
    let old = c.args.vault.now in
    let new = c.with_hand-hand.new.vault in
    let hands = c.args.hands.now in
    let w = c.args.worker in
    let hand = c.in-Some.hand in
    let left = c.with_hand-hand.result.0 in
    let line = c.with_hand-hand.result.1 in
    let there = sym c.part.ensures.hand ∙ c.in-Some.is in
    let joined : c.join.new.self.workers ≡ slice_set (slice_set hands.workers w None) w (Some left) =
    c.in-Ok.ensures.joined ∙ ap (λ o. put_for c.part.new.self.workers left o) c.with_hand-hand.ensures.of
    ∙ ap (λ ws. slice_set ws w (Some left)) c.in-Some.ensures.taken in
    let flushing = c.join.ensures.flushing ∙ c.part.ensures.flushing in
    let back : HandsBack hands w left c.join.new.self = record { workers = joined; flushing = flushing } in
    let plays =
    joined_plays old new c.known.ensures.holds.kept hands c.join.new.self w hand left c.args.cue line c.requires there fits
    c.with_hand-hand.ensures.comes (c.with_hand-hand.ensures.plays (part_fits old hands w hand there fits)) joined
    flushing in
    let laws : Laws = record {
      calls = c.contents_are_kept.ensures.calls;
      answers = c.contents_are_kept.ensures.answers;
      flushes = c.contents_are_kept.ensures.flushes;
      flush_answers = c.contents_are_kept.ensures.flush_answers;
      writers = c.contents_are_kept.ensures.writers;
      seen = c.contents_are_kept.ensures.seen;
    } in
    worker_over g.D.Device.read_gives g.D.Device.write_leaves laws old new hands c.join.new.self c.args.device.now
    c.with_hand-hand.new.device fits s st told agrees w hand left there back c.args.cue line c.requires plays
    c.with_hand-hand.ensures.does
