use Rattle.pp_model.specs.declared.refusals.Delay.TheVariants.{FlushBusy}
use Rattle.pp_vault.specs.declared.refusal.Refusal.TheVariants.{NotNow}
use Rattle.pp_script.specs.declared.cue.Cue.TheVariants as cue
use Rattle.pp_play.proofs.Done.{done_comes}
use Rattle.pp_play.proofs.Asked.{flush_done as begun}
use Rattle.pp_play.proofs.Others.{still_fits}
use Rattle.pp_play.proofs.FlushHands.{flush_plays, flush_refused}
use Rattle.std.proofs.Common.{◌≡◌, None, refl, sym, subst, rules}
use Rattle.pp_model.specs.Pool.{State}
use Rattle.pp_vault.specs.StandsFor.{StandsFor}
use Rattle.pp_contents.specs.ContentLaws.{KeepsContents}
use Rattle.pp_play.specs.Exact.{Plays}
use Rattle.pp_play.specs.Plays.{Tells}
use Rattle.pp_play.specs.Following.{FlusherFollows}
use Rattle.pp_play.proofs.Overs.{Laws, flush_kept, flush_done, flush_stays}
use Rattle.pp_play.proofs.devices.flush.Goals as goal

pub returns-in-Ok-clause-comes : goal.returns-in-Ok-clause-comes
returns-in-Ok-clause-comes c =
    let old = c.args.vault.now in
    let new = c.flush.new.self in
    done_comes old new (cue.Flush c.args.page) c.did.result
    (begun old new c.args.page c.known.ensures.holds.kept c.in-Ok.ensures.ok c.in-Ok.ensures.done) c.did.ensures

pub returns-in-Ok-clause-plays : goal.returns-in-Ok-clause-plays
returns-in-Ok-clause-plays c fits =
    let laws = c.hands_still_fit.ensures in
    flush_plays (still_fits laws.others laws.slots laws.flushing) c.args.vault.now c.flush.new.self
    c.known.ensures.holds.kept c.args.page c.in-Ok.errand c.args.hands.now c.put_flushing.new.hands c.did.result fits
    c.in-Ok.ensures.ok c.in-Ok.ensures.errand c.in-Ok.ensures.copied.duty c.put_flushing.ensures
    c.in-Ok.ensures.done c.did.ensures

pub returns-in-Err-clause-plays : goal.returns-in-Err-clause-plays
returns-in-Err-clause-plays c fits =
    flush_refused c.args.vault.now c.flush.new.self c.args.page c.args.hands.now c.in-Err.refusal fits
    c.in-Err.ensures.err c.in-Err.ensures.unchanged

pub returns-then-is_some-clause-contents : goal.returns-then-is_some-clause-contents
returns-then-is_some-clause-contents c =
    let laws : Laws = record {
      calls = c.contents_are_kept.ensures.calls;
      answers = c.contents_are_kept.ensures.answers;
      flushes = c.contents_are_kept.ensures.flushes;
      flush_answers = c.contents_are_kept.ensures.flush_answers;
      writers = c.contents_are_kept.ensures.writers;
      seen = c.contents_are_kept.ensures.seen;
    } in
    flush_stays laws c.args.vault.now c.args.vault.now c.args.hands.now c.args.hands.now c.args.page c.args.vault.now
    c.args.hands.now (cue.Flush c.args.page) (NotNow FlushBusy) refl

pub returns-in-Ok-clause-contents : goal.returns-in-Ok-clause-contents
returns-in-Ok-clause-contents c fits s st told agrees =
    let old = c.args.vault.now in
    let new = c.flush.new.self in
    let hands = c.args.hands.now in
    let left = c.put_flushing.new.hands in
    let page = c.args.page in
    let laws = c.hands_still_fit.ensures in
    let plays =
    flush_plays (still_fits laws.others laws.slots laws.flushing) old new c.known.ensures.holds.kept page c.in-Ok.errand hands
    left c.did.result fits c.in-Ok.ensures.ok c.in-Ok.ensures.errand c.in-Ok.ensures.copied.duty c.put_flushing.ensures
    c.in-Ok.ensures.done c.did.ensures in
    let d = c.in-Ok.done in
    let none : hands.flushing ≡ None = search rules in
    let contents : Laws = record {
      calls = c.contents_are_kept.ensures.calls;
      answers = c.contents_are_kept.ensures.answers;
      flushes = c.contents_are_kept.ensures.flushes;
      flush_answers = c.contents_are_kept.ensures.flush_answers;
      writers = c.contents_are_kept.ensures.writers;
      seen = c.contents_are_kept.ensures.seen;
    } in
    subst
    (λ l. (t : State) × Tells s (cue.Flush page) l t × StandsFor new t × FlusherFollows old s hands (cue.Flush page) l left
    × (new.page_bytes ≡ old.page_bytes) × KeepsContents old s hands told new t left told)
    (sym c.did.ensures)
    (flush_done contents old new hands left page c.in-Ok.errand d.0 d.1 none c.in-Ok.ensures.ok
    c.in-Ok.ensures.copied c.put_flushing.ensures c.in-Ok.ensures.done fits
    (subst (λ l. Plays old hands (cue.Flush page) l new left) c.did.ensures plays) s st told agrees)

pub returns-in-Err-clause-contents : goal.returns-in-Err-clause-contents
returns-in-Err-clause-contents c fits s st told agrees =
    let old = c.args.vault.now in
    let new = c.flush.new.self in
    let hands = c.args.hands.now in
    let page = c.args.page in
    let laws : Laws = record {
      calls = c.contents_are_kept.ensures.calls;
      answers = c.contents_are_kept.ensures.answers;
      flushes = c.contents_are_kept.ensures.flushes;
      flush_answers = c.contents_are_kept.ensures.flush_answers;
      writers = c.contents_are_kept.ensures.writers;
      seen = c.contents_are_kept.ensures.seen;
    } in
    flush_kept laws old new hands hands page (cue.Flush page) c.in-Err.refusal
    (flush_refused old new page hands c.in-Err.refusal fits c.in-Err.ensures.err c.in-Err.ensures.unchanged) s st told
    agrees
