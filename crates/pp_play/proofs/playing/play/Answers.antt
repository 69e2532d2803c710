use Rattle.std.proofs.Common.{◌≡◌, ◌∙◌, ◌++◌, ◌∷◌, [], length, drop, length-append, refl, ap, arith, rules}
use Rattle.std.proofs.Math.Seq.{take-length}
use Rattle.std.proofs.lemmas.List.{take-append-le, drop_all}
use Rattle.pp_play.specs.Calling.{answers}
use Rattle.pp_play.proofs.Runs.{goes_on, went}
use Rattle.pp_play.proofs.Scripts.{plays_on, all_played, still_fit}
use Rattle.pp_play.proofs.Called.{calls_on}
use Rattle.pp_play.proofs.OverScripts.{over_opens, over_on, all_over}
use Rattle.pp_play.proofs.Honestly.{is_honest}
use Rattle.pp_play.proofs.Answered.{answers_on, all_answered}
use Rattle.pp_play.proofs.playing.play.Goals as goal

pub loop-cue-init : goal.loop-cue-init
loop-cue-init g c =
    let before = c.args.lines.now.items in
    let same : c.reserve.new.self.items ≡ before = search rules in
    let none_yet : answers (drop (length before) before) ≡ 0 =
    ap answers (drop_all (length before) before (omega arith)) in
    record {
      room = search rules;
      count = search rules;
      behind = rw same (take-length before);
      goes = search rules;
      answered = search rules;
      plays = search rules;
      over =
          rw same
          (over_opens g.D.Device.read_gives g.D.Device.write_leaves c.args.vault.now c.args.hands.now c.args.device.now
          c.args.cues.now before);
      calls = λ fit none. rw same (omega (arith, none_yet));
      back = λ fit none. none;
    }

pub loop-cue-preserved : goal.loop-cue-preserved
loop-cue-preserved g c =
    let line = c.play_one-line.result in
    let before = c.args.lines.now.items in
    let now = c.loop-cue.lines.items in
    let pushed : c.push_reserved.new.self.items ≡ now ++ line ∷ [] = search rules in
    let count = c.loop-cue.invariant.count in
    record {
      room =
          omega (
            arith,
            c.loop-cue.invariant.room,
            c.push_reserved.ensures.len,
            c.push_reserved.ensures.capacity,
            c.loop-cue-test.true,
          );
      count = rw pushed (omega (arith, length-append now (line ∷ []), count));
      behind =
          rw pushed
          (take-append-le (length before) now (line ∷ []) (omega (arith, count)) ∙ c.loop-cue.invariant.behind);
      goes =
          rw pushed
          (goes_on _ _ _ _ _ _ _ c.loop-cue.cue-index _ _ c.loop-cue-test.true refl c.loop-cue.invariant.goes
          c.play_one-line.ensures.comes);
      answered =
          rw pushed
          (answers_on _ _ _ _ _ _ _ _ _ _ c.loop-cue.cue-index _ _ c.loop-cue-test.true refl
          c.loop-cue.invariant.answered
          (record { comes = c.play_one-line.ensures.comes; exact = c.play_one-line.ensures.exact }));
      plays =
          rw pushed
          (plays_on _ _ _ _ _ _ _ _ _ _ c.loop-cue.cue-index _ _ c.loop-cue-test.true refl c.loop-cue.invariant.plays
          c.play_one-line.ensures.plays);
      over =
          rw pushed
          (over_on g.D.Device.read_gives g.D.Device.write_leaves _ _ _ _ _ _ _ _ _ _ _ _ _ c.loop-cue.cue-index _ _
          c.loop-cue-test.true refl c.loop-cue.invariant.over c.play_one-line.ensures.over);
      calls = λ fit none.
          rw pushed
          (calls_on g.D.Device.calls _ c.loop-cue.device c.play_one-line.new.device (length before) now line
          (omega (arith, count)) (c.loop-cue.invariant.calls fit none)
          (c.play_one-line.ensures.called (c.loop-cue.invariant.plays fit).fit (c.loop-cue.invariant.back fit none)));
      back = λ fit none.
          c.play_one-line.ensures.none_back (c.loop-cue.invariant.plays fit).fit (c.loop-cue.invariant.back fit none);
    }

pub returns-clause-plays : goal.returns-clause-plays
returns-clause-plays g c =
    went c.args.vault.now c.args.cues.now c.args.lines.now.items c.loop-cue.vault c.loop-cue.lines.items
    c.loop-cue.cue-index (search rules) c.loop-cue.invariant.goes

pub returns-clause-exact : goal.returns-clause-exact
returns-clause-exact g c =
    all_answered c.args.vault.now c.args.hands.now c.args.cues.now c.args.lines.now.items c.loop-cue.vault
    c.loop-cue.hands c.loop-cue.lines.items c.loop-cue.cue-index (search rules) c.loop-cue.invariant.answered

pub returns-clause-fitting : goal.returns-clause-fitting
returns-clause-fitting g c =
    all_played c.args.vault.now c.args.hands.now c.args.cues.now c.args.lines.now.items c.loop-cue.vault
    c.loop-cue.hands c.loop-cue.lines.items c.loop-cue.cue-index (search rules) c.loop-cue.invariant.plays

pub returns-clause-fit : goal.returns-clause-fit
returns-clause-fit g c =
    still_fit c.args.vault.now c.args.hands.now c.args.cues.now c.args.lines.now.items c.loop-cue.vault
    c.loop-cue.hands c.loop-cue.lines.items c.loop-cue.cue-index (search rules) c.loop-cue.invariant.plays

pub returns-clause-follows : goal.returns-clause-follows
returns-clause-follows g c =
    all_over g.D.Device.read_gives g.D.Device.write_leaves c.args.vault.now c.args.hands.now c.args.device.now
    c.args.cues.now c.args.lines.now.items c.loop-cue.vault c.loop-cue.hands c.loop-cue.device c.loop-cue.lines.items
    c.loop-cue.cue-index (search rules) c.loop-cue.invariant.over

pub returns-clause-honest : goal.returns-clause-honest
returns-clause-honest g c =
    let follows =
    all_over g.D.Device.read_gives g.D.Device.write_leaves c.args.vault.now c.args.hands.now c.args.device.now
    c.args.cues.now c.args.lines.now.items c.loop-cue.vault c.loop-cue.hands c.loop-cue.device c.loop-cue.lines.items
    c.loop-cue.cue-index (search rules) c.loop-cue.invariant.over in
    is_honest g.D.Device.read_gives g.D.Device.write_leaves c.args.vault.now c.args.hands.now c.args.device.now
    c.args.cues.now c.args.lines.now.items c.loop-cue.lines.items c.loop-cue.vault c.loop-cue.hands c.loop-cue.device
    c.honest_devices_tell_what_they_keep.ensures c.contents_are_kept.ensures.loaded follows
