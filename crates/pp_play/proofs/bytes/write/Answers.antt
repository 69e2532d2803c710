use Rattle.std.proofs.Common.{◌≡◌, ◌∙◌, None, Some, Option, List, ap, subst}
use Rattle.std.specs.Prelude.{slice_set}
use Rattle.pp_vault.specs.declared.guards.Guard.{Guard}
use Rattle.pp_vault.specs.Holding.{placed, slot_by}
use Rattle.pp_script.specs.declared.cue.Cue.TheVariants as cue
use Rattle.pp_play.specs.declared.line.Line.TheVariants.{NoLatch}
use Rattle.pp_play.specs.Doing.{HandPlays}
use Rattle.pp_play.specs.AnyHands.{IsWriteLine}
use Rattle.pp_play.proofs.FirstBytes.{put_again, write_none, write_plays}
use Rattle.pp_play.proofs.Answered.{write_line}
use Rattle.pp_play.proofs.bytes.write.Goals.{in-Some, in-None}
use Rattle.pp_play.proofs.bytes.write.Goals as goal

pub returns-clause-plays : goal.returns-clause-plays
returns-clause-plays c v w fits =
    let hand = c.args.hand in
    let slot = c.args.slot in
    let byte = c.args.byte in
    let now = c.match-take.guards in
    elim c.match-take.branch [
      | in-Some b ↦
          let g = b.written-guard.result.0 in
          let there : placed hand.guards slot ≡ Some b.in-Some.guard = cc in
          let line : b.written-guard.result.1 ≡ c.match-take.line = cc in
          let put : now ≡ slice_set c.take.new.self (slot_by g) (Some g) = cc b.put.ensures in
          subst (λ l. HandPlays v w hand (cue.Write w slot byte) l v (record { stage = hand.stage; guards = now })) line
          (write_plays v w hand slot byte fits now b.in-Some.guard g b.written-guard.result.1
          b.written-guard.ensures.into there (b.written-guard.ensures.slot ∙ b.in-Some.ensures.slot)
          (put ∙ ap (λ (l : List (Option Guard)). slice_set l (slot_by g) (Some g)) b.in-Some.ensures.taken))
      | in-None b ↦
          let none : placed hand.guards slot ≡ None = cc in
          let line : NoLatch ≡ c.match-take.line = cc in
          let same : now ≡ hand.guards = cc b.in-None.ensures.unchanged in
          subst (λ l. HandPlays v w hand (cue.Write w slot byte) l v (record { stage = hand.stage; guards = now })) line
          (write_none v w hand slot fits byte now none same)
    ]

pub returns-clause-own : goal.returns-clause-own
returns-clause-own c v w =
    let hand = c.args.hand in
    let slot = c.args.slot in
    let byte = c.args.byte in
    let now = c.match-take.guards in
    elim c.match-take.branch [
      | in-Some b ↦
          let g = b.written-guard.result.0 in
          let there : placed hand.guards slot ≡ Some b.in-Some.guard = cc in
          let line : b.written-guard.result.1 ≡ c.match-take.line = cc in
          let put : now ≡ slice_set c.take.new.self (slot_by g) (Some g) = cc b.put.ensures in
          subst (λ l. IsWriteLine slot byte hand.guards now l) line
          (write_line slot byte hand.guards now b.in-Some.guard g b.written-guard.result.1 b.written-guard.ensures.into
          there (put_again hand.guards now slot (slot_by g) g (b.written-guard.ensures.slot ∙ b.in-Some.ensures.slot)
          (put ∙ ap (λ (l : List (Option Guard)). slice_set l (slot_by g) (Some g)) b.in-Some.ensures.taken)))
      | in-None b ↦
          let line : NoLatch ≡ c.match-take.line = cc in
          let same : now ≡ hand.guards = cc b.in-None.ensures.unchanged in
          subst (λ l. IsWriteLine slot byte hand.guards now l) line same
    ]
