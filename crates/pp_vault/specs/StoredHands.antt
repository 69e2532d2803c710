-- What a worker's tokens are that are stored as plain data.
use Rattle.pp_vault.specs.declared.stage.Stage.{Stage}
use Rattle.pp_vault.specs.declared.stage.Stage.TheVariants as stage
use Rattle.pp_vault.specs.declared.stage.Hand.{Hand}
use Rattle.pp_vault.specs.declared.stored.StoredStage.{StoredStage}
use Rattle.pp_vault.specs.declared.stored.StoredStage.TheVariants.{Idle, In, Out, Back, Leaving}
use Rattle.pp_vault.specs.declared.stored.StoredHand.TheInside as stored_hand

-- The stage with its token that was stored.
abbrev pub stage_of : StoredStage → Stage
stage_of (Idle worker) = stage.Idle (record { worker = worker })
stage_of (In worker ask) = stage.In (record { worker = worker; ask = ask })
stage_of (Out duty image) = stage.Out (record { duty = duty; image = image })
stage_of (Back duty image answer) = stage.Back (record { duty = duty; image = image; answer = answer })
stage_of (Leaving worker) = stage.Leaving (record { worker = worker })

-- The hand that was stored.
abbrev pub hand_of : stored_hand.Inside → Hand
hand_of k = record { stage = stage_of k.stage; guards = k.guards.value }
