use Rattle.std.proofs.Common.{◌≡◌, ◌∙◌, None, Some, Option, List, ap, subst}
use Rattle.std.specs.Prelude.{slice_set}
use Rattle.pp_vault.specs.declared.guards.Guard.{Guard}
use Rattle.pp_vault.specs.Holding.{placed, slot_by}
use Rattle.pp_script.specs.declared.cue.Cue.TheVariants as cue
use Rattle.pp_play.specs.declared.line.Line.TheVariants.{NoLatch}
use Rattle.pp_play.specs.Doing.{HandPlays}
use Rattle.pp_play.specs.AnyHands.{IsLookLine}
use Rattle.pp_play.proofs.FirstBytes.{put_again, look_none, look_plays}
use Rattle.pp_play.proofs.Answered.{look_line}
use Rattle.pp_play.proofs.bytes.look.Goals.{in-Some, in-None}
use Rattle.pp_play.proofs.bytes.look.Goals as goal

pub returns-clause-plays : goal.returns-clause-plays
returns-clause-plays c w fits =
    let v = c.args.vault.now in
    let hand = c.args.hand in
    let slot = c.args.slot in
    let now = c.match-take.guards in
    elim c.match-take.branch [
      | in-Some b ↦
          let g = b.in-Some.guard in
          let there : placed hand.guards slot ≡ Some g = cc in
          let line : b.looked-line.result ≡ c.match-take.line = cc in
          let put : now ≡ slice_set c.take.new.self (slot_by g) (Some g) = cc b.put.ensures in
          subst (λ l. HandPlays v w hand (cue.Look w slot) l v (record { stage = hand.stage; guards = now })) line
          (look_plays v w hand slot fits now g b.looked-line.result b.looked-line.ensures.looks there
          b.in-Some.ensures.slot
          (put ∙ ap (λ (l : List (Option Guard)). slice_set l (slot_by g) (Some g)) b.in-Some.ensures.taken))
      | in-None b ↦
          let none : placed hand.guards slot ≡ None = cc in
          let line : NoLatch ≡ c.match-take.line = cc in
          let same : now ≡ hand.guards = cc b.in-None.ensures.unchanged in
          subst (λ l. HandPlays v w hand (cue.Look w slot) l v (record { stage = hand.stage; guards = now })) line
          (look_none v w hand slot fits now none same)
    ]

pub returns-clause-own : goal.returns-clause-own
returns-clause-own c w s st =
    let v = c.args.vault.now in
    let hand = c.args.hand in
    let slot = c.args.slot in
    let now = c.match-take.guards in
    elim c.match-take.branch [
      | in-Some b ↦
          let g = b.in-Some.guard in
          let there : placed hand.guards slot ≡ Some g = cc in
          let line : b.looked-line.result ≡ c.match-take.line = cc in
          let put : now ≡ slice_set c.take.new.self (slot_by g) (Some g) = cc b.put.ensures in
          subst (λ l. IsLookLine v s slot hand.guards now l) line
          (look_line v s slot hand.guards now g b.looked-line.result (b.looked-line.ensures.sees s st) there
          (put_again hand.guards now slot (slot_by g) g b.in-Some.ensures.slot
          (put ∙ ap (λ (l : List (Option Guard)). slice_set l (slot_by g) (Some g)) b.in-Some.ensures.taken)))
      | in-None b ↦
          let line : NoLatch ≡ c.match-take.line = cc in
          let same : now ≡ hand.guards = cc b.in-None.ensures.unchanged in
          subst (λ l. IsLookLine v s slot hand.guards now l) line same
    ]
