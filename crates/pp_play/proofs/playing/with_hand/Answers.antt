use Rattle.std.proofs.Common.{◌∙◌, refl, sym, ap, subst}
use Rattle.pp_script.specs.declared.cue.Cue.TheVariants as cue
use Rattle.std.specs.Prelude.{Some}
use Rattle.pp_play.specs.Plays.{ComesTo}
use Rattle.pp_play.specs.AnyHands.{IsHandLine}
use Rattle.pp_play.specs.Doing.{cue_worker, HandPlays}
use Rattle.pp_play.proofs.Asked.{same}
use Rattle.pp_play.proofs.Called.{quiet, asks_device}
use Rattle.pp_play.specs.Moving.{hand_errand, DoesWith}
use Rattle.pp_play.proofs.Moved.{byte_moves}
use Rattle.pp_play.proofs.playing.with_hand.Goals as goal

pub returns-in-Fix-clause-comes : goal.returns-in-Fix-clause-comes
returns-in-Fix-clause-comes g c =
    let of = same _ _ (sym (ap cue_worker c.in-Fix.is) ∙ c.requires.cue) in
    subst (λ q. ComesTo c.args.vault.now q c.fix.result.1 c.fix.new.vault)
    (ap (λ w. cue.Fix w c.in-Fix.page) (sym of) ∙ sym c.in-Fix.is) c.fix.ensures.comes

pub returns-in-Unwind-clause-comes : goal.returns-in-Unwind-clause-comes
returns-in-Unwind-clause-comes g c =
    let of = same _ _ (sym (ap cue_worker c.in-Unwind.is) ∙ c.requires.cue) in
    subst (λ q. ComesTo c.args.vault.now q c.unwind.result.1 c.unwind.new.vault)
    (ap (λ w. cue.Unwind w c.in-Unwind.slot) (sym of) ∙ sym c.in-Unwind.is) c.unwind.ensures.comes

pub returns-in-Fix-clause-plays : goal.returns-in-Fix-clause-plays
returns-in-Fix-clause-plays g c fits =
    let of = same _ _ (sym (ap cue_worker c.in-Fix.is) ∙ c.requires.cue) in
    subst
    (λ q. HandPlays c.args.vault.now c.args.worker c.args.hand q c.fix.result.1 c.fix.new.vault c.fix.result.0)
    (ap (λ w. cue.Fix w c.in-Fix.page) (sym of) ∙ sym c.in-Fix.is) (c.fix.ensures.plays fits)

pub returns-in-Device-clause-plays : goal.returns-in-Device-clause-plays
returns-in-Device-clause-plays g c fits =
    let of = same _ _ (sym (ap cue_worker c.in-Device.is) ∙ c.requires.cue) in
    subst
    (λ q. HandPlays c.args.vault.now c.args.worker c.args.hand q c.work.result.1 c.work.new.vault c.work.result.0)
    (ap (λ w. cue.Device w) (sym of) ∙ sym c.in-Device.is) (c.work.ensures.plays fits)

pub returns-in-Unwind-clause-plays : goal.returns-in-Unwind-clause-plays
returns-in-Unwind-clause-plays g c fits =
    let of = same _ _ (sym (ap cue_worker c.in-Unwind.is) ∙ c.requires.cue) in
    subst
    (λ q. HandPlays c.args.vault.now c.args.worker c.args.hand q c.unwind.result.1 c.unwind.new.vault c.unwind.result.0)
    (ap (λ w. cue.Unwind w c.in-Unwind.slot) (sym of) ∙ sym c.in-Unwind.is) (c.unwind.ensures.plays fits)

pub returns-in-Write-clause-plays : goal.returns-in-Write-clause-plays
returns-in-Write-clause-plays g c fits =
    let of = same _ _ (sym (ap cue_worker c.in-Write.is) ∙ c.requires.cue) in
    subst
    (λ q. HandPlays c.args.vault.now c.args.worker c.args.hand q c.write.result.1 c.args.vault.now c.write.result.0)
    (ap (λ w. cue.Write w c.in-Write.slot c.in-Write.byte) (sym of) ∙ sym c.in-Write.is)
    (c.write.ensures.plays c.args.vault.now c.args.worker fits)

pub returns-in-Look-clause-plays : goal.returns-in-Look-clause-plays
returns-in-Look-clause-plays g c fits =
    let of = same _ _ (sym (ap cue_worker c.in-Look.is) ∙ c.requires.cue) in
    subst
    (λ q. HandPlays c.args.vault.now c.args.worker c.args.hand q c.look.result.1 c.args.vault.now c.look.result.0)
    (ap (λ w. cue.Look w c.in-Look.slot) (sym of) ∙ sym c.in-Look.is) (c.look.ensures.plays c.args.worker fits)

pub returns-in-Take-clause-called : goal.returns-in-Take-clause-called
returns-in-Take-clause-called g c fits none =
    quiet g.D.Device.calls c.args.vault.now c.act.new.vault c.requires.kept c.args.cue c.act.result.1
    c.args.device.now (ap asks_device c.in-Take.is) c.act.ensures.comes

pub returns-in-Fix-clause-called : goal.returns-in-Fix-clause-called
returns-in-Fix-clause-called g c fits none =
    quiet g.D.Device.calls c.args.vault.now c.fix.new.vault c.requires.kept (cue.Fix c.args.worker c.in-Fix.page)
    c.fix.result.1 c.args.device.now refl c.fix.ensures.comes

pub returns-in-Unfix-clause-called : goal.returns-in-Unfix-clause-called
returns-in-Unfix-clause-called g c fits none =
    quiet g.D.Device.calls c.args.vault.now c.use_slot.new.vault c.requires.kept c.args.cue c.use_slot.result.1
    c.args.device.now (ap asks_device c.in-Unfix.is) c.use_slot.ensures.comes

pub returns-in-Latch-clause-called : goal.returns-in-Latch-clause-called
returns-in-Latch-clause-called g c fits none =
    quiet g.D.Device.calls c.args.vault.now c.use_slot-in-Latch.new.vault c.requires.kept c.args.cue c.use_slot-in-Latch.result.1
    c.args.device.now (ap asks_device c.in-Latch.is) c.use_slot-in-Latch.ensures.comes

pub returns-in-Unlatch-clause-called : goal.returns-in-Unlatch-clause-called
returns-in-Unlatch-clause-called g c fits none =
    quiet g.D.Device.calls c.args.vault.now c.use_slot-in-Unlatch.new.vault c.requires.kept c.args.cue c.use_slot-in-Unlatch.result.1
    c.args.device.now (ap asks_device c.in-Unlatch.is) c.use_slot-in-Unlatch.ensures.comes

pub returns-in-Choose-clause-called : goal.returns-in-Choose-clause-called
returns-in-Choose-clause-called g c fits none =
    quiet g.D.Device.calls c.args.vault.now c.act-in-Choose.new.vault c.requires.kept c.args.cue c.act-in-Choose.result.1
    c.args.device.now (ap asks_device c.in-Choose.is) c.act-in-Choose.ensures.comes

pub returns-in-Unwind-clause-called : goal.returns-in-Unwind-clause-called
returns-in-Unwind-clause-called g c fits none =
    quiet g.D.Device.calls c.args.vault.now c.unwind.new.vault c.requires.kept (cue.Unwind c.args.worker c.in-Unwind.slot)
    c.unwind.result.1 c.args.device.now refl c.unwind.ensures.comes

pub returns-in-Finish-clause-called : goal.returns-in-Finish-clause-called
returns-in-Finish-clause-called g c fits none =
    quiet g.D.Device.calls c.args.vault.now c.act-in-Finish.new.vault c.requires.kept c.args.cue c.act-in-Finish.result.1
    c.args.device.now (ap asks_device c.in-Finish.is) c.act-in-Finish.ensures.comes

pub returns-in-Write-clause-called : goal.returns-in-Write-clause-called
returns-in-Write-clause-called g c fits none =
    let asked = cue.Write c.args.worker c.in-Write.slot c.in-Write.byte in
    quiet g.D.Device.calls c.args.vault.now c.args.vault.now c.requires.kept asked c.write.result.1 c.args.device.now
    refl (λ s st. (s, c.write.ensures.tells asked refl s, st))

pub returns-in-Look-clause-called : goal.returns-in-Look-clause-called
returns-in-Look-clause-called g c fits none =
    let asked = cue.Look c.args.worker c.in-Look.slot in
    quiet g.D.Device.calls c.args.vault.now c.args.vault.now c.requires.kept asked c.look.result.1 c.args.device.now
    refl (λ s st. (s, c.look.ensures.tells asked refl s, st))

pub returns-in-Take-clause-own : goal.returns-in-Take-clause-own
returns-in-Take-clause-own g c =
    subst (λ q. IsHandLine c.args.vault.now (Some c.args.hand) (Some c.act.result.0) q c.act.result.1) (sym c.in-Take.is) tt

pub returns-in-Fix-clause-own : goal.returns-in-Fix-clause-own
returns-in-Fix-clause-own g c =
    subst (λ q. IsHandLine c.args.vault.now (Some c.args.hand) (Some c.fix.result.0) q c.fix.result.1) (sym c.in-Fix.is) tt

pub returns-in-Unfix-clause-own : goal.returns-in-Unfix-clause-own
returns-in-Unfix-clause-own g c =
    subst (λ q. IsHandLine c.args.vault.now (Some c.args.hand) (Some c.use_slot.result.0) q c.use_slot.result.1) (sym c.in-Unfix.is) tt

pub returns-in-Latch-clause-own : goal.returns-in-Latch-clause-own
returns-in-Latch-clause-own g c =
    subst (λ q. IsHandLine c.args.vault.now (Some c.args.hand) (Some c.use_slot-in-Latch.result.0) q c.use_slot-in-Latch.result.1) (sym c.in-Latch.is) tt

pub returns-in-Unlatch-clause-own : goal.returns-in-Unlatch-clause-own
returns-in-Unlatch-clause-own g c =
    subst (λ q. IsHandLine c.args.vault.now (Some c.args.hand) (Some c.use_slot-in-Unlatch.result.0) q c.use_slot-in-Unlatch.result.1) (sym c.in-Unlatch.is) tt

pub returns-in-Choose-clause-own : goal.returns-in-Choose-clause-own
returns-in-Choose-clause-own g c =
    subst (λ q. IsHandLine c.args.vault.now (Some c.args.hand) (Some c.act-in-Choose.result.0) q c.act-in-Choose.result.1) (sym c.in-Choose.is) tt

pub returns-in-Unwind-clause-own : goal.returns-in-Unwind-clause-own
returns-in-Unwind-clause-own g c =
    subst (λ q. IsHandLine c.args.vault.now (Some c.args.hand) (Some c.unwind.result.0) q c.unwind.result.1) (sym c.in-Unwind.is) tt

pub returns-in-Finish-clause-own : goal.returns-in-Finish-clause-own
returns-in-Finish-clause-own g c =
    subst (λ q. IsHandLine c.args.vault.now (Some c.args.hand) (Some c.act-in-Finish.result.0) q c.act-in-Finish.result.1) (sym c.in-Finish.is) tt

pub returns-in-Device-clause-own : goal.returns-in-Device-clause-own
returns-in-Device-clause-own g c =
    let of = same _ _ (sym (ap cue_worker c.in-Device.is) ∙ c.requires.cue) in
    subst (λ q. IsHandLine c.args.vault.now (Some c.args.hand) (Some c.work.result.0) q c.work.result.1)
    (ap (λ w. cue.Device w) (sym of) ∙ sym c.in-Device.is) c.work.ensures.own

pub returns-in-Write-clause-own : goal.returns-in-Write-clause-own
returns-in-Write-clause-own g c =
    let of = same _ _ (sym (ap cue_worker c.in-Write.is) ∙ c.requires.cue) in
    subst (λ q. IsHandLine c.args.vault.now (Some c.args.hand) (Some c.write.result.0) q c.write.result.1)
    (ap (λ w. cue.Write w c.in-Write.slot c.in-Write.byte) (sym of) ∙ sym c.in-Write.is)
    (c.write.ensures.own c.args.vault.now c.args.worker)

pub returns-in-Look-clause-own : goal.returns-in-Look-clause-own
returns-in-Look-clause-own g c =
    let of = same _ _ (sym (ap cue_worker c.in-Look.is) ∙ c.requires.cue) in
    subst (λ q. IsHandLine c.args.vault.now (Some c.args.hand) (Some c.look.result.0) q c.look.result.1)
    (ap (λ w. cue.Look w c.in-Look.slot) (sym of) ∙ sym c.in-Look.is) (c.look.ensures.own c.args.worker)

pub returns-in-Take-clause-does : goal.returns-in-Take-clause-does
returns-in-Take-clause-does g c fits none =
    subst
    (λ q. DoesWith g.D.Device.read_gives g.D.Device.write_leaves (hand_errand c.args.hand q) c.args.vault.now
    c.args.hand c.args.device.now c.act.result.1 c.act.new.vault c.act.result.0 c.args.device.now)
    (sym c.in-Take.is) (refl, c.act.ensures.moves)

pub returns-in-Fix-clause-does : goal.returns-in-Fix-clause-does
returns-in-Fix-clause-does g c fits none =
    subst
    (λ q. DoesWith g.D.Device.read_gives g.D.Device.write_leaves (hand_errand c.args.hand q) c.args.vault.now
    c.args.hand c.args.device.now c.fix.result.1 c.fix.new.vault c.fix.result.0 c.args.device.now)
    (sym c.in-Fix.is) (refl, c.fix.ensures.moves)

pub returns-in-Unfix-clause-does : goal.returns-in-Unfix-clause-does
returns-in-Unfix-clause-does g c fits none =
    subst
    (λ q. DoesWith g.D.Device.read_gives g.D.Device.write_leaves (hand_errand c.args.hand q) c.args.vault.now
    c.args.hand c.args.device.now c.use_slot.result.1 c.use_slot.new.vault c.use_slot.result.0 c.args.device.now)
    (sym c.in-Unfix.is) (refl, c.use_slot.ensures.moves)

pub returns-in-Latch-clause-does : goal.returns-in-Latch-clause-does
returns-in-Latch-clause-does g c fits none =
    subst
    (λ q. DoesWith g.D.Device.read_gives g.D.Device.write_leaves (hand_errand c.args.hand q) c.args.vault.now
    c.args.hand c.args.device.now c.use_slot-in-Latch.result.1 c.use_slot-in-Latch.new.vault c.use_slot-in-Latch.result.0 c.args.device.now)
    (sym c.in-Latch.is) (refl, c.use_slot-in-Latch.ensures.moves)

pub returns-in-Unlatch-clause-does : goal.returns-in-Unlatch-clause-does
returns-in-Unlatch-clause-does g c fits none =
    subst
    (λ q. DoesWith g.D.Device.read_gives g.D.Device.write_leaves (hand_errand c.args.hand q) c.args.vault.now
    c.args.hand c.args.device.now c.use_slot-in-Unlatch.result.1 c.use_slot-in-Unlatch.new.vault c.use_slot-in-Unlatch.result.0 c.args.device.now)
    (sym c.in-Unlatch.is) (refl, c.use_slot-in-Unlatch.ensures.moves)

pub returns-in-Choose-clause-does : goal.returns-in-Choose-clause-does
returns-in-Choose-clause-does g c fits none =
    subst
    (λ q. DoesWith g.D.Device.read_gives g.D.Device.write_leaves (hand_errand c.args.hand q) c.args.vault.now
    c.args.hand c.args.device.now c.act-in-Choose.result.1 c.act-in-Choose.new.vault c.act-in-Choose.result.0 c.args.device.now)
    (sym c.in-Choose.is) (refl, c.act-in-Choose.ensures.moves)

pub returns-in-Unwind-clause-does : goal.returns-in-Unwind-clause-does
returns-in-Unwind-clause-does g c fits none =
    subst
    (λ q. DoesWith g.D.Device.read_gives g.D.Device.write_leaves (hand_errand c.args.hand q) c.args.vault.now
    c.args.hand c.args.device.now c.unwind.result.1 c.unwind.new.vault c.unwind.result.0 c.args.device.now)
    (sym c.in-Unwind.is) (refl, c.unwind.ensures.moves)

pub returns-in-Finish-clause-does : goal.returns-in-Finish-clause-does
returns-in-Finish-clause-does g c fits none =
    subst
    (λ q. DoesWith g.D.Device.read_gives g.D.Device.write_leaves (hand_errand c.args.hand q) c.args.vault.now
    c.args.hand c.args.device.now c.act-in-Finish.result.1 c.act-in-Finish.new.vault c.act-in-Finish.result.0 c.args.device.now)
    (sym c.in-Finish.is) (refl, c.act-in-Finish.ensures.moves)

pub returns-in-Device-clause-does : goal.returns-in-Device-clause-does
returns-in-Device-clause-does g c fits none =
    subst
    (λ q. DoesWith g.D.Device.read_gives g.D.Device.write_leaves (hand_errand c.args.hand q) c.args.vault.now
    c.args.hand c.args.device.now c.work.result.1 c.work.new.vault c.work.result.0 c.work.new.device)
    (sym c.in-Device.is) (c.work.ensures.does fits none)

pub returns-in-Write-clause-does : goal.returns-in-Write-clause-does
returns-in-Write-clause-does g c fits none =
    let asked = cue.Write c.args.worker c.in-Write.slot c.in-Write.byte in
    let s = c.requires.kept.state in
    let old = c.args.vault.now in
    subst
    (λ q. DoesWith g.D.Device.read_gives g.D.Device.write_leaves (hand_errand c.args.hand q) old c.args.hand
    c.args.device.now c.write.result.1 old c.write.result.0 c.args.device.now)
    (sym c.in-Write.is)
    (refl, byte_moves old old c.args.hand c.write.result.0 asked c.write.result.1 s s refl (c.write.ensures.tells asked refl s))

pub returns-in-Look-clause-does : goal.returns-in-Look-clause-does
returns-in-Look-clause-does g c fits none =
    let asked = cue.Look c.args.worker c.in-Look.slot in
    let s = c.requires.kept.state in
    let old = c.args.vault.now in
    subst
    (λ q. DoesWith g.D.Device.read_gives g.D.Device.write_leaves (hand_errand c.args.hand q) old c.args.hand
    c.args.device.now c.look.result.1 old c.look.result.0 c.args.device.now)
    (sym c.in-Look.is)
    (refl, byte_moves old old c.args.hand c.look.result.0 asked c.look.result.1 s s refl (c.look.ensures.tells asked refl s))

pub returns-in-Device-clause-comes : goal.returns-in-Device-clause-comes
returns-in-Device-clause-comes g c =
    let of = same _ _ (sym (ap cue_worker c.in-Device.is) ∙ c.requires.cue) in
    subst (λ q. ComesTo c.args.vault.now q c.work.result.1 c.work.new.vault)
    (ap (λ w. cue.Device w) (sym of) ∙ sym c.in-Device.is) c.work.ensures.comes
