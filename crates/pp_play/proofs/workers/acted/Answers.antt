use Rattle.std.proofs.Common.{refl, rules}
use Rattle.pp_play.proofs.Fitting.{Laws}
use Rattle.pp_play.proofs.Acting.{is_take, is_choose, is_finish, take_acts, choose_acts, finish_acts, end_acts}
use Rattle.pp_play.proofs.Acting.{take_refuses, choose_refuses, finish_refuses, end_refuses, take_off, choose_off, finish_off}
use Rattle.pp_play.proofs.workers.acted.Goals as goal

pub returns-in-Ok-clause-ok : goal.returns-in-Ok-clause-ok
returns-in-Ok-clause-ok c w acts of =
    let laws : Laws = record {
      others = c.hands_still_fit.ensures.others;
      slots = c.hands_still_fit.ensures.slots;
      flushing = c.hands_still_fit.ensures.flushing;
    } in
    take_acts laws c.args.vault.now c.take.new.self c.requires w c.args.stage c.args.cue of c.in-Ok.done
    (is_take w c.args.cue _ c.in-Take.is acts) c.in-Idle.chair c.in-Idle.is c.in-Ok.session c.in-Ok.ensures.ok
    c.in-Ok.ensures.session c.in-Ok.ensures.images c.in-Ok.ensures.done

pub returns-in-Err-clause-err : goal.returns-in-Err-clause-err
returns-in-Err-clause-err c w acts of =
    take_refuses c.args.vault.now w c.args.stage c.args.cue of c.in-Err.refusal (is_take w c.args.cue _ c.in-Take.is acts)
    c.in-Idle.chair c.in-Idle.is c.in-Err.ensures.err

pub returns-in_default-stage : goal.returns-in_default-stage
returns-in_default-stage c = record {
  ok = tt;
  err = λ w acts of.
      take_off c.args.vault.now w c.args.stage c.args.cue (is_take w c.args.cue _ c.in-Take.is acts)
      c.in_default-stage.not-Idle;
  back = search rules;
  unchanged = refl;
}

pub returns-in-Ok-choose-clause-ok : goal.returns-in-Ok-choose-clause-ok
returns-in-Ok-choose-clause-ok c w acts of =
    let laws : Laws = record {
      others = c.hands_still_fit.ensures.others;
      slots = c.hands_still_fit.ensures.slots;
      flushing = c.hands_still_fit.ensures.flushing;
    } in
    choose_acts laws c.args.vault.now c.choose.new.self c.requires w c.args.stage c.args.cue of c.in-Ok-choose.done
    c.in-Choose.branch (is_choose w c.args.cue _ _ c.in-Choose.is acts) c.in-In.session c.in-In.is c.in-Ok-choose.session
    c.in-Ok-choose.ensures.ok c.in-Ok-choose.ensures.session c.in-Ok-choose.ensures.images c.in-Ok-choose.ensures.done

pub returns-in-Err-choose-clause-err : goal.returns-in-Err-choose-clause-err
returns-in-Err-choose-clause-err c w acts of =
    choose_refuses c.args.vault.now w c.args.stage c.args.cue of c.in-Err-choose.refusal c.in-Choose.branch
    (is_choose w c.args.cue _ _ c.in-Choose.is acts) c.in-In.session c.in-In.is c.in-Err-choose.ensures.err

pub returns-in_default-stage-2 : goal.returns-in_default-stage-2
returns-in_default-stage-2 c = record {
  ok = tt;
  err = λ w acts of.
      choose_off c.args.vault.now w c.args.stage c.args.cue c.in-Choose.branch
      (is_choose w c.args.cue _ _ c.in-Choose.is acts) c.in_default-stage-2.not-In;
  back = search rules;
  unchanged = refl;
}

pub returns-in-Ok-finish : goal.returns-in-Ok-finish
returns-in-Ok-finish c =
    let laws : Laws = record {
      others = c.hands_still_fit.ensures.others;
      slots = c.hands_still_fit.ensures.slots;
      flushing = c.hands_still_fit.ensures.flushing;
    } in
    record {
      ok = λ w acts of.
          finish_acts laws c.args.vault.now c.finish.new.self c.requires w c.args.stage c.args.cue of c.in-Ok-finish.done
          (is_finish w c.args.cue c.in_default.not-Take c.in_default.not-Choose acts) c.in-In-stage.session
          c.in-In-stage.is c.in-Ok-finish.chair c.in-Ok-finish.ensures.ok c.in-Ok-finish.ensures.chair
          c.in-Ok-finish.ensures.images c.in-Ok-finish.ensures.done;
      err = tt;
      back = tt;
      unchanged = tt;
    }

pub returns-in-Err-finish : goal.returns-in-Err-finish
returns-in-Err-finish c = record {
  ok = tt;
  err = λ w acts of.
      finish_refuses c.args.vault.now w c.args.stage c.args.cue of c.in-Err-finish.refusal
      (is_finish w c.args.cue c.in_default.not-Take c.in_default.not-Choose acts) c.in-In-stage.session c.in-In-stage.is
      c.in-Err-finish.ensures.err;
  back = search rules;
  unchanged = c.in-Err-finish.ensures.unchanged;
}

pub returns-in-Ok-end : goal.returns-in-Ok-end
returns-in-Ok-end c =
    let laws : Laws = record {
      others = c.hands_still_fit.ensures.others;
      slots = c.hands_still_fit.ensures.slots;
      flushing = c.hands_still_fit.ensures.flushing;
    } in
    record {
      ok = λ w acts of.
          end_acts laws c.args.vault.now c.end.new.self c.requires w c.args.stage c.args.cue of c.in-Ok-end.done
          (is_finish w c.args.cue c.in_default.not-Take c.in_default.not-Choose acts) c.in-Leaving.leaver
          c.in-Leaving.is c.in-Ok-end.chair c.in-Ok-end.ensures.ok c.in-Ok-end.ensures.chair c.in-Ok-end.ensures.images
          c.in-Ok-end.ensures.done;
      err = tt;
      back = tt;
      unchanged = tt;
    }

pub returns-in-Err-end : goal.returns-in-Err-end
returns-in-Err-end c = record {
  ok = tt;
  err = λ w acts of.
      end_refuses c.args.vault.now w c.args.stage c.args.cue of c.in-Err-end.refusal
      (is_finish w c.args.cue c.in_default.not-Take c.in_default.not-Choose acts) c.in-Leaving.leaver c.in-Leaving.is
      c.in-Err-end.ensures.err;
  back = search rules;
  unchanged = c.in-Err-end.ensures.unchanged;
}

pub returns-in_default-stage-3 : goal.returns-in_default-stage-3
returns-in_default-stage-3 c = record {
  ok = tt;
  err = λ w acts of.
      finish_off c.args.vault.now w c.args.stage c.args.cue
      (is_finish w c.args.cue c.in_default.not-Take c.in_default.not-Choose acts) c.in_default-stage-3.not-In
      c.in_default-stage-3.not-Leaving;
  back = search rules;
  unchanged = refl;
}
