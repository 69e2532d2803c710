use Rattle.pp_play.proofs.FlushHands.{given_back_fits, still_back_fits, back_flush_plays}
use Rattle.pp_play.proofs.Called.{called_once, none_of_workers}
use Rattle.std.proofs.Common.{◌≡◌, ◌∙◌, Some, None, sym, ap}
use Rattle.std.specs.Option.{is_some}
use Rattle.pp_vault.specs.declared.hands.Flushing.TheVariants as flushing
use Rattle.pp_vault.specs.declared.hands.Hands.{Hands}
use Rattle.std.proofs.lemmas.Bool.{false≢true}
use Rattle.pp_play.specs.Calling.{is_flush_back}
use Rattle.pp_play.proofs.Answered.{flush_line}
use Rattle.std.proofs.Common.{refl, rules}
use Rattle.pp_script.specs.declared.cue.Cue.TheVariants as cue
use Rattle.pp_vault.specs.Hands.{IsFlushAway, FlushingFits}
use Rattle.std.proofs.Common.{subst}
use Rattle.pp_play.specs.Moving.{EndsFlush}
use Rattle.pp_play.proofs.Overs.{Laws, quiet_over, flushed_over, flush_off, undone_line, no_worker, answer_line}
use Rattle.pp_play.proofs.devices.flush_work.Goals as goal

pub returns-else-is_some-clause-plays : goal.returns-else-is_some-clause-plays
returns-else-is_some-clause-plays g c fits =
    let old = c.args.vault.now in
    let hands = c.args.hands.now in
    let returned = c.carry_out.result in
    let made = c.carry_out.ensures in
    let back = given_back_fits old hands c.in-Some-Out.errand returned fits (cc) made.duty made.length in
    back_flush_plays old c.flushed.new.vault hands c.flushed.new.hands returned c.flushed.result
    c.known.ensures.holds.kept back (c.flushed.ensures.plays back)

pub returns-else-is_some-2-clause-plays : goal.returns-else-is_some-2-clause-plays
returns-else-is_some-2-clause-plays g c fits =
    let old = c.args.vault.now in
    let hands = c.args.hands.now in
    let returned = c.in-Some-Back.returned in
    back_flush_plays old c.flushed-in-Some-Back.new.vault hands c.flushed-in-Some-Back.new.hands returned
    c.flushed-in-Some-Back.result c.known.ensures.holds.kept (still_back_fits old hands returned fits (cc))
    (c.flushed-in-Some-Back.ensures.plays (still_back_fits old hands returned fits (cc)))

pub returns-else-is_some-clause-called : goal.returns-else-is_some-clause-called
returns-else-is_some-clause-called g c fits none =
    let made = c.carry_out.ensures in
    let back = given_back_fits c.args.vault.now c.args.hands.now c.in-Some-Out.errand c.carry_out.result fits (cc)
    made.duty made.length in
    called_once g.D.Device.calls _ _ _ (c.flushed.ensures.answered back).0 made.called

pub returns-else-is_some-clause-none_back : goal.returns-else-is_some-clause-none_back
returns-else-is_some-clause-none_back g c fits none =
    let made = c.carry_out.ensures in
    let hands = c.args.hands.now in
    let back = given_back_fits c.args.vault.now hands c.in-Some-Out.errand c.carry_out.result fits (cc) made.duty
    made.length in
    let same = (c.flushed.ensures.answered back).1 in
    let left : c.flushed.new.hands.flushing ≡ c.take.new.self = ap (λ (h : Hands). h.flushing) same in
    let gone : c.take.new.self ≡ None = cc in
    none_of_workers hands c.flushed.new.hands none (ap (λ (h : Hands). h.workers) same)
    (ap is_flush_back (left ∙ gone))

pub returns-else-is_some-2-clause-called : goal.returns-else-is_some-2-clause-called
returns-else-is_some-2-clause-called g c fits none =
    let there : c.args.hands.now.flushing ≡ Some (flushing.Back c.in-Some-Back.returned) = cc in
    absurd (false≢true (sym none.flushing ∙ ap is_flush_back there))

pub returns-else-is_some-2-clause-none_back : goal.returns-else-is_some-2-clause-none_back
returns-else-is_some-2-clause-none_back g c fits none =
    let there : c.args.hands.now.flushing ≡ Some (flushing.Back c.in-Some-Back.returned) = cc in
    absurd (false≢true (sym none.flushing ∙ ap is_flush_back there))

pub returns-else-is_some-clause-own : goal.returns-else-is_some-clause-own
returns-else-is_some-clause-own g c =
    let hands = c.args.hands.now in
    let there : hands.flushing ≡ Some (flushing.Out c.in-Some-Out.errand) = cc in
    flush_line c.args.vault.now hands c.flushed.new.hands c.flushed.result (ap is_some there)
    c.flushed.ensures.strangers

pub returns-else-is_some-2-clause-own : goal.returns-else-is_some-2-clause-own
returns-else-is_some-2-clause-own g c =
    let hands = c.args.hands.now in
    let there : hands.flushing ≡ Some (flushing.Back c.in-Some-Back.returned) = cc in
    flush_line c.args.vault.now hands c.flushed-in-Some-Back.new.hands c.flushed-in-Some-Back.result (ap is_some there)
    c.flushed-in-Some-Back.ensures.strangers

pub returns-in-None-clause-over : goal.returns-in-None-clause-over
returns-in-None-clause-over g c fits s st told agrees =
    let old = c.args.vault.now in
    let hands = c.args.hands.now in
    let none : hands.flushing ≡ None = cc in
    let gone : c.take.new.self ≡ None = cc in
    let left : Hands = record { workers = hands.workers; flushing = c.take.new.self } in
    let same : left ≡ hands = ap (λ f. record { workers = hands.workers; flushing = f }) (gone ∙ sym none) in
    let laws : Laws = record {
      calls = c.contents_are_kept.ensures.calls;
      answers = c.contents_are_kept.ensures.answers;
      flushes = c.contents_are_kept.ensures.flushes;
      flush_answers = c.contents_are_kept.ensures.flush_answers;
      writers = c.contents_are_kept.ensures.writers;
      seen = c.contents_are_kept.ensures.seen;
    } in
    quiet_over g.D.Device.read_gives g.D.Device.write_leaves laws old old hands left c.args.device.now c.args.device.now
    fits s st told agrees cue.FlushDevice c.off_plan.result
    (undone_line _ _ c.off_plan.result c.off_plan.ensures) refl
    (flush_off old hands left c.off_plan.result fits none same c.off_plan.ensures)

pub returns-then-is_some-clause-over : goal.returns-then-is_some-clause-over
returns-then-is_some-clause-over g c fits s st told agrees =
    let old = c.args.vault.now in
    let there : c.args.hands.now.flushing ≡ Some (flushing.Out c.in-Some-Out.errand) = cc in
    let away : IsFlushAway old.page_bytes s c.in-Some-Out.errand.duty c.in-Some-Out.errand.image =
    subst (λ f. FlushingFits old.page_bytes s f) there (fits s st).flushing in
    absurd (false≢true (sym (no_worker old.page_bytes s _ _ away) ∙ search rules))

pub returns-then-is_some-2-clause-over : goal.returns-then-is_some-2-clause-over
returns-then-is_some-2-clause-over g c fits s st told agrees =
    let there : c.args.hands.now.flushing ≡ Some (flushing.Back c.in-Some-Back.returned) = cc in
    absurd (agrees.flush_answered c.in-Some-Back.returned there)

pub returns-else-is_some-2-clause-over : goal.returns-else-is_some-2-clause-over
returns-else-is_some-2-clause-over g c fits s st told agrees =
    let there : c.args.hands.now.flushing ≡ Some (flushing.Back c.in-Some-Back.returned) = cc in
    absurd (agrees.flush_answered c.in-Some-Back.returned there)

pub returns-else-is_some-clause-over : goal.returns-else-is_some-clause-over
returns-else-is_some-clause-over g c fits s st told agrees =
    let old = c.args.vault.now in
    let new = c.flushed.new.vault in
    let hands = c.args.hands.now in
    let left = c.flushed.new.hands in
    let errand = c.in-Some-Out.errand in
    let returned = c.carry_out.result in
    let made = c.carry_out.ensures in
    let line = c.flushed.result in
    let there : hands.flushing ≡ Some (flushing.Out errand) = cc in
    let gone : c.take.new.self ≡ None = cc in
    let back = given_back_fits old hands errand returned fits there made.duty made.length in
    let plays = back_flush_plays old new hands left returned line c.known.ensures.holds.kept back (c.flushed.ensures.plays back) in
    let so = answer_line line (c.flushed.ensures.answered back).0 in
    let ends : EndsFlush old returned (record hands { flushing = None }) line new left =
    subst (λ f. EndsFlush old returned (record { workers = hands.workers; flushing = f }) line new left) gone
    c.flushed.ensures.ends in
    let laws : Laws = record {
      calls = c.contents_are_kept.ensures.calls;
      answers = c.contents_are_kept.ensures.answers;
      flushes = c.contents_are_kept.ensures.flushes;
      flush_answers = c.contents_are_kept.ensures.flush_answers;
      writers = c.contents_are_kept.ensures.writers;
      seen = c.contents_are_kept.ensures.seen;
    } in
    flushed_over g.D.Device.read_gives g.D.Device.write_leaves laws old new hands left c.args.device.now
    c.carry_out.new.device fits s st told agrees errand returned line so.m so.reply there made.duty made.made plays so.is
    (subst (λ l. EndsFlush old returned (record hands { flushing = None }) l new left) so.is ends)
