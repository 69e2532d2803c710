use Rattle.std.proofs.Common.{◌≡◌, refl, sym, subst, rules}
use Rattle.pp_script.specs.declared.cue.Cue.TheVariants as cue
use Rattle.pp_play.specs.Plays.{ComesTo}
use Rattle.pp_play.specs.Exact.{Plays}
use Rattle.pp_play.specs.AnyHands.{IsHandsLine}
use Rattle.pp_play.proofs.Called.{quiet}
use Rattle.pp_play.specs.Moving.{PlaysFromAll}
use Rattle.pp_play.proofs.Overs.{Laws, flush_over}
use Rattle.pp_play.proofs.playing.by_tokens.Goals as goal

pub returns-in-Flush-clause-comes : goal.returns-in-Flush-clause-comes
returns-in-Flush-clause-comes g c =
    subst (λ q. ComesTo c.args.vault.now q c.flush.result c.flush.new.vault) (sym c.in-Flush.is) c.flush.ensures.comes

pub returns-in-Flush-clause-called : goal.returns-in-Flush-clause-called
returns-in-Flush-clause-called g c fits none =
    quiet g.D.Device.calls c.args.vault.now c.flush.new.vault c.known.ensures.holds.kept (cue.Flush c.in-Flush.page)
    c.flush.result c.args.device.now refl c.flush.ensures.comes

pub returns-in-Flush-clause-plays : goal.returns-in-Flush-clause-plays
returns-in-Flush-clause-plays g c fits =
    subst (λ q. Plays c.args.vault.now c.args.hands.now q c.flush.result c.flush.new.vault c.flush.new.hands)
    (sym c.in-Flush.is) (c.flush.ensures.plays fits)

pub returns-in-Flush-clause-own : goal.returns-in-Flush-clause-own
returns-in-Flush-clause-own g c =
    subst (λ q. IsHandsLine c.args.vault.now c.args.hands.now c.flush.new.hands q c.flush.result) (sym c.in-Flush.is) tt

pub returns-in-FlushDevice-clause-own : goal.returns-in-FlushDevice-clause-own
returns-in-FlushDevice-clause-own g c =
    subst (λ q. IsHandsLine c.args.vault.now c.args.hands.now c.flush_work.new.hands q c.flush_work.result)
    (sym c.in-FlushDevice.is) c.flush_work.ensures.own

pub returns-in-Flush-clause-over : goal.returns-in-Flush-clause-over
returns-in-Flush-clause-over g c =
    let laws : Laws = record {
      calls = c.contents_are_kept.ensures.calls;
      answers = c.contents_are_kept.ensures.answers;
      flushes = c.contents_are_kept.ensures.flushes;
      flush_answers = c.contents_are_kept.ensures.flush_answers;
      writers = c.contents_are_kept.ensures.writers;
      seen = c.contents_are_kept.ensures.seen;
    } in
    let old = c.args.vault.now in
    let hands = c.args.hands.now in
    let device = c.args.device.now in
    subst
    (λ q. PlaysFromAll g.D.Device.read_gives g.D.Device.write_leaves old hands device q c.flush.result c.flush.new.vault
    c.flush.new.hands device)
    (sym c.in-Flush.is)
    (flush_over laws old c.flush.new.vault hands c.flush.new.hands c.in-Flush.page g.D.Device.read_gives
    g.D.Device.write_leaves device c.flush.result c.flush.ensures.plays c.flush.ensures.contents)

pub returns-in-FlushDevice-clause-over : goal.returns-in-FlushDevice-clause-over
returns-in-FlushDevice-clause-over g c =
    subst
    (λ q. PlaysFromAll g.D.Device.read_gives g.D.Device.write_leaves c.args.vault.now c.args.hands.now
    c.args.device.now q c.flush_work.result c.flush_work.new.vault c.flush_work.new.hands c.flush_work.new.device)
    (sym c.in-FlushDevice.is) c.flush_work.ensures.over

pub returns-in-Take-clause-over : goal.returns-in-Take-clause-over
returns-in-Take-clause-over g c =
    let same : c.in-Take.cue ≡ c.args.cue = search rules in
    subst
    (λ q. PlaysFromAll g.D.Device.read_gives g.D.Device.write_leaves c.args.vault.now c.args.hands.now
    c.args.device.now q c.by_worker.result c.by_worker.new.vault c.by_worker.new.hands c.by_worker.new.device)
    same c.by_worker.ensures.over

pub returns-in-Take-clause-comes : goal.returns-in-Take-clause-comes
returns-in-Take-clause-comes g c =
    let same : c.in-Take.cue ≡ c.args.cue = search rules in
    subst (λ q. ComesTo c.args.vault.now q c.by_worker.result c.by_worker.new.vault) same c.by_worker.ensures.comes
