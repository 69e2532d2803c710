use Rattle.std.proofs.Common.{sym, subst}
use Rattle.pp_play.specs.Exact.{Plays}
use Rattle.pp_play.specs.Calling.{tells_answer, IsCalled}
use Rattle.pp_play.proofs.Answered.{told_comes, told_exact, told_same}
use Rattle.std.specs.Prelude.{ℕ, List}
use Rattle.pp_model.specs.Pool.{State}
use Rattle.pp_play.specs.Following.{PlaysOver}
use Rattle.pp_play.proofs.playing.play_one.Goals as goal

pub returns-clause-comes : goal.returns-clause-comes
returns-clause-comes g c =
    told_comes c.args.vault.now c.by_tokens-line.new.vault c.args.cue c.by_tokens-line.result c.told.result
    c.by_tokens-line.ensures.comes c.told.ensures

pub returns-clause-exact : goal.returns-clause-exact
returns-clause-exact g c s st =
    told_exact c.args.vault.now c.by_tokens-line.new.vault c.args.hands.now c.by_tokens-line.new.hands c.told.result s st
    c.args.cue c.by_tokens-line.result c.by_tokens-line.ensures.comes c.by_tokens-line.ensures.own c.told.ensures

pub returns-clause-plays : goal.returns-clause-plays
returns-clause-plays g c fits =
    let old = c.args.vault.now in
    let mid = c.by_tokens-line.new.vault in
    let hands = c.args.hands.now in
    let left = c.by_tokens-line.new.hands in
    let plays = c.by_tokens-line.ensures.plays fits in
    let same = told_same old mid hands left c.args.cue c.by_tokens-line.result c.told.result c.known.ensures.holds.kept plays
    c.told.ensures in
    subst (λ l. Plays old hands c.args.cue l mid left) (sym same) plays

pub returns-clause-called : goal.returns-clause-called
returns-clause-called g c fits none =
    let old = c.args.vault.now in
    let mid = c.by_tokens-line.new.vault in
    let hands = c.args.hands.now in
    let left = c.by_tokens-line.new.hands in
    let plays = c.by_tokens-line.ensures.plays fits in
    let same = told_same old mid hands left c.args.cue c.by_tokens-line.result c.told.result c.known.ensures.holds.kept plays
    c.told.ensures in
    subst (λ l. IsCalled g.D.Device.calls (tells_answer l) c.args.device.now c.by_tokens-line.new.device) (sym same)
    (c.by_tokens-line.ensures.called fits none)

pub returns-clause-over : goal.returns-clause-over
returns-clause-over g c fits s st now agrees =
    let old = c.args.vault.now in
    let mid = c.by_tokens-line.new.vault in
    let hands = c.args.hands.now in
    let left = c.by_tokens-line.new.hands in
    let plays = c.by_tokens-line.ensures.plays fits in
    let same = told_same old mid hands left c.args.cue c.by_tokens-line.result c.told.result c.known.ensures.holds.kept plays
    c.told.ensures in
    subst
    (λ l. (t : State) × (next : ℕ → List ℕ)
    × PlaysOver g.D.Device.read_gives g.D.Device.write_leaves old s hands c.args.device.now now c.args.cue l mid t left
    c.by_tokens-line.new.device next) (sym same) (c.by_tokens-line.ensures.over fits s st now agrees)
