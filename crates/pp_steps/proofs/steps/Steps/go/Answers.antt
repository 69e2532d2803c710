use Rattle.std.proofs.Common.{◌≡◌, Bool, false, Some, Ok, Err, rules, sym, subst}
use Rattle.std.specs.Prelude.{Result}
use Rattle.pp_steps.specs.declared.error.GoError.{GoError}
use Rattle.pp_steps.specs.declared.going.Came.{Came}
use Rattle.pp_steps.specs.Calls.{TurnIn, GoIs}
use Rattle.pp_steps.specs.Parts.{Parts, is_flushers}
use Rattle.pp_steps.specs.Seats.{seated_at}
use Rattle.pp_steps.proofs.Turns.{came_there, goes_on, goes_held}
use Rattle.pp_steps.proofs.steps.Steps.go.Goals as goal

pub after-requires : goal.after-requires
after-requires c =
    let old : Parts = c.args.self.now in
    let mid : Parts = c.replace_with-came.new.dest in
    let came : c.replace_with-came.result ≡ Ok c.in-Ok.came = c.in-Ok.is in
    let turns : TurnIn (seated_at old.seats c.args.pass) old.seats c.args.pass old.hall c.args.argument
    c.replace_with-came.result mid.hall mid.seats = search rules in
    came_there old.seats mid.seats c.args.pass old.hall mid.hall c.args.argument c.in-Ok.came
    (subst (λ (r : Result Came GoError). TurnIn (seated_at old.seats c.args.pass) old.seats c.args.pass old.hall
    c.args.argument r mid.hall mid.seats) came turns)

pub returns-in-Ok : goal.returns-in-Ok
returns-in-Ok c =
    let old : Parts = c.args.self.now in
    let mid : Parts = c.replace_with-came.new.dest in
    let other : is_flushers old c.args.pass ≡ false = search rules in
    let came : c.replace_with-came.result ≡ Ok c.in-Ok.came = c.in-Ok.is in
    let turns : TurnIn (seated_at old.seats c.args.pass) old.seats c.args.pass old.hall c.args.argument
    c.replace_with-came.result mid.hall mid.seats = search rules in
    let rest : mid ≡ record old { hall = mid.hall; seats = mid.seats } = search rules in
    subst (λ (b : Bool). GoIs b old c.args.pass c.args.argument c.after.result.0 c.after.result.1 c.after.new.self)
    (sym other)
    (goes_on old mid c.args.pass c.args.argument c.in-Ok.came c.after.result.0 c.after.result.1 c.after.new.self
    (subst (λ (r : Result Came GoError). TurnIn (seated_at old.seats c.args.pass) old.seats c.args.pass old.hall
    c.args.argument r mid.hall mid.seats) came turns) rest c.after.ensures)

pub returns-in-Err : goal.returns-in-Err
returns-in-Err c =
    let old : Parts = c.args.self.now in
    let mid : Parts = c.replace_with-came.new.dest in
    let other : is_flushers old c.args.pass ≡ false = search rules in
    let there : seated_at old.seats c.args.pass ≡ Some c.in-Some.field-0.now = search rules in
    let why : c.replace_with-came.result ≡ Err c.in-Err.error = c.in-Err.is in
    let turns : TurnIn (seated_at old.seats c.args.pass) old.seats c.args.pass old.hall c.args.argument
    c.replace_with-came.result mid.hall mid.seats = search rules in
    let rest : mid ≡ record old { hall = mid.hall; seats = mid.seats } = search rules in
    subst (λ (b : Bool). GoIs b old c.args.pass c.args.argument (Err c.in-Err.error) c.nobody-in-Err.result mid)
    (sym other)
    (goes_held old mid c.args.pass c.args.argument c.in-Some.field-0.now c.in-Err.error c.nobody-in-Err.result there
    (subst (λ (r : Result Came GoError). TurnIn (seated_at old.seats c.args.pass) old.seats c.args.pass old.hall
    c.args.argument r mid.hall mid.seats) why turns) rest c.nobody-in-Err.ensures)
