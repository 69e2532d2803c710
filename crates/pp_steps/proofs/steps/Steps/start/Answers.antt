use Rattle.std.proofs.Common.{◌≡◌, ◌∙◌, true, false, Some, Ok, Err, sym, ap, subst}
use Rattle.std.proofs.lemmas.Bool.{false≢true}
use Rattle.pp_vault.specs.Stages.{is_chair, stage_worker}
use Rattle.pp_hall.specs.Halls as halls
use Rattle.pp_hall.specs.Calls as hall
use Rattle.pp_steps.specs.declared.error.GoError.TheVariants as go_error
use Rattle.pp_steps.specs.Calls.{StartOf}
use Rattle.pp_steps.specs.Lines as lines
use Rattle.pp_steps.specs.Lines.{waiter_at}
use Rattle.pp_steps.specs.Parts.{Parts, IsSteps}
use Rattle.pp_steps.specs.Ringing.{AreRings}
use Rattle.pp_steps.proofs.Home.{broken_steps, line_taken, not_idle, start_free, started_steps, starts_broken, starts_out, starts_seated}
use Rattle.pp_steps.proofs.steps.Steps.start.Goals as goal
use Rattle.pp_steps.proofs.steps.Steps.start.Goals.{in-Idle, in_default-matches}

pub bring_back-requires : goal.bring_back-requires
bring_back-requires c =
    let x : Parts = record {
      hall = c.self.inside.hall.value;
      plans = c.self.inside.plans.items;
      line = c.self.inside.line;
      seats = c.self.inside.seats;
      flushed = c.self.inside.flushed;
      flusher = c.self.inside.flusher;
    } in
    let is : halls.IsHall x.hall = subst (λ (h : halls.Parts). halls.IsHall h) c.deref.ensures c.known.ensures.hall in
    let starts : hall.Starts x.hall c.in-Some.waiter.ticket (stage_worker c.in-Takes.post.hand.stage) c.in-Takes.told c.start.new.self =
    subst (λ (h : halls.Parts). hall.Starts h c.in-Some.waiter.ticket (stage_worker c.in-Takes.post.hand.stage) c.in-Takes.told c.start.new.self)
    c.deref_mut.ensures.value c.in-Takes.ensures in
    starts_out x.hall c.in-Some.waiter.ticket c.in-Takes.post.hand.stage c.in-Takes.told c.start.new.self is starts

pub invariant_of-self : goal.invariant_of-self
invariant_of-self c =
    let x : Parts = record {
      hall = c.self.inside.hall.value;
      plans = c.self.inside.plans.items;
      line = c.self.inside.line;
      seats = c.self.inside.seats;
      flushed = c.self.inside.flushed;
      flusher = c.self.inside.flusher;
    } in
    let starts : hall.Starts x.hall c.in-Some.waiter.ticket (stage_worker c.in-Takes.post.hand.stage) c.in-Takes.told c.start.new.self =
    subst (λ (h : halls.Parts). hall.Starts h c.in-Some.waiter.ticket (stage_worker c.in-Takes.post.hand.stage) c.in-Takes.told c.start.new.self)
    c.deref_mut.ensures.value c.in-Takes.ensures in
    broken_steps x c.in-Some.waiter.ticket c.in-Takes.post.hand.stage c.in-Takes.told c.bring_back.result c.start.new.self
    c.bring_back.new.hall.value c.take.new.self c.self.invariant starts c.bring_back.ensures

pub returns-then-not-matches : goal.returns-then-not-matches
returns-then-not-matches c =
    let x : Parts = record {
      hall = c.self.inside.hall.value;
      plans = c.self.inside.plans.items;
      line = c.self.inside.line;
      seats = c.self.inside.seats;
      flushed = c.self.inside.flushed;
      flusher = c.self.inside.flusher;
    } in
    let starts : hall.Starts x.hall c.in-Some.waiter.ticket (stage_worker c.in-Takes.post.hand.stage) c.in-Takes.told c.start.new.self =
    subst (λ (h : halls.Parts). hall.Starts h c.in-Some.waiter.ticket (stage_worker c.in-Takes.post.hand.stage) c.in-Takes.told c.start.new.self)
    c.deref_mut.ensures.value c.in-Takes.ensures in
    let waits : waiter_at x.line c.args.pass ≡ Some c.in-Some.waiter = sym c.get.ensures ∙ c.in-Some.is in
    let line : c.take.new.self ≡ lines.without x.line c.args.pass =
    line_taken x.line c.take.new.self c.args.pass c.in-Some.waiter c.take.result c.take.ensures.is waits c.take.ensures.taken in
    let busy : is_chair c.in-Takes.post.hand.stage ≡ false =
    elim c.match-matches.branch [
      | in-Idle w ↦ absurd (false≢true (sym c.if-not-matches.true ∙ w.matches-is))
      | in_default-matches w ↦ not_idle c.in-Takes.post.hand.stage w.in_default-matches.not-Idle
    ] in
    subst (λ (z : Parts). StartOf (waiter_at z.line c.args.pass) z c.args.pass (Err go_error.Broken) c.rings.result
    (record x { hall = c.bring_back.new.hall.value; line = c.take.new.self })) c.self.view_is
    (starts_broken x c.args.pass c.in-Some.waiter c.in-Takes.post.hand.stage c.in-Takes.told c.bring_back.result
    c.and-told.result c.start.new.self c.bring_back.new.hall.value c.rings.result
    (record x { hall = c.bring_back.new.hall.value; line = c.take.new.self }) waits busy starts c.bring_back.ensures
    (record {
      workers = c.and-told.ensures.workers;
      next = c.and-told.ensures.next;
      all = c.and-told.ensures.all;
      flusher = c.and-told.ensures.flusher;
    }) (ap (λ l. record x { hall = c.bring_back.new.hall.value; line = l }) line)
    (subst (λ (l : lines.Parts). AreRings l c.and-told.result c.rings.result) line c.rings.ensures))

pub seat-next-requires : goal.seat-next-requires
seat-next-requires c =
    let x : Parts = record {
      hall = c.self.inside.hall.value;
      plans = c.self.inside.plans.items;
      line = c.self.inside.line;
      seats = c.self.inside.seats;
      flushed = c.self.inside.flushed;
      flusher = c.self.inside.flusher;
    } in
    let starts : hall.Starts x.hall c.in-Some.waiter.ticket (stage_worker c.in-Takes.post.hand.stage) c.in-Takes.told c.start.new.self =
    subst (λ (h : halls.Parts). hall.Starts h c.in-Some.waiter.ticket (stage_worker c.in-Takes.post.hand.stage) c.in-Takes.told c.start.new.self)
    c.deref_mut.ensures.value c.in-Takes.ensures in (
      starts.chair,
      starts.is,
      start_free x c.in-Some.waiter.ticket (stage_worker c.in-Takes.post.hand.stage) c.in-Takes.told c.start.new.self
          c.self.invariant starts,
    )

pub invariant_of-self-in-Takes : goal.invariant_of-self-in-Takes
invariant_of-self-in-Takes c =
    let x : Parts = record {
      hall = c.self.inside.hall.value;
      plans = c.self.inside.plans.items;
      line = c.self.inside.line;
      seats = c.self.inside.seats;
      flushed = c.self.inside.flushed;
      flusher = c.self.inside.flusher;
    } in
    let is : halls.IsHall x.hall = subst (λ (h : halls.Parts). halls.IsHall h) c.deref.ensures c.known.ensures.hall in
    let starts : hall.Starts x.hall c.in-Some.waiter.ticket (stage_worker c.in-Takes.post.hand.stage) c.in-Takes.told c.start.new.self =
    subst (λ (h : halls.Parts). hall.Starts h c.in-Some.waiter.ticket (stage_worker c.in-Takes.post.hand.stage) c.in-Takes.told c.start.new.self)
    c.deref_mut.ensures.value c.in-Takes.ensures in
    let one = c.seat-next.ensures.seat in
    let own = c.seat-next.ensures.own in
    let chair = starts.is in
    let same : starts.chair ≡ c.seat-next.result.bell = cc in
    subst (λ seats. IsSteps (record x { hall = c.start.new.self; line = c.take.new.self; seats = seats })) (sym one.new_is)
    (started_steps x c.in-Some.waiter.ticket (stage_worker c.in-Takes.post.hand.stage) c.in-Takes.told c.start.new.self
    c.take.new.self c.seat-next.result one.one c.self.invariant is starts same one.rests)

pub returns-else-not-matches : goal.returns-else-not-matches
returns-else-not-matches c =
    let x : Parts = record {
      hall = c.self.inside.hall.value;
      plans = c.self.inside.plans.items;
      line = c.self.inside.line;
      seats = c.self.inside.seats;
      flushed = c.self.inside.flushed;
      flusher = c.self.inside.flusher;
    } in
    let starts : hall.Starts x.hall c.in-Some.waiter.ticket (stage_worker c.in-Takes.post.hand.stage) c.in-Takes.told c.start.new.self =
    subst (λ (h : halls.Parts). hall.Starts h c.in-Some.waiter.ticket (stage_worker c.in-Takes.post.hand.stage) c.in-Takes.told c.start.new.self)
    c.deref_mut.ensures.value c.in-Takes.ensures in
    let waits : waiter_at x.line c.args.pass ≡ Some c.in-Some.waiter = sym c.get.ensures ∙ c.in-Some.is in
    let line : c.take.new.self ≡ lines.without x.line c.args.pass =
    line_taken x.line c.take.new.self c.args.pass c.in-Some.waiter c.take.result c.take.ensures.is waits c.take.ensures.taken in
    let idle : is_chair c.in-Takes.post.hand.stage ≡ true =
    elim c.match-matches.branch [
      | in-Idle w ↦ ap is_chair w.in-Idle.is
      | in_default-matches w ↦ absurd (false≢true (sym w.matches-is ∙ c.if-not-matches.false))
    ] in
    let y : Parts = record x { hall = c.start.new.self; line = c.take.new.self; seats = c.seat-next.new.seats } in
    subst (λ (z : Parts). StartOf (waiter_at z.line c.args.pass) z c.args.pass (Ok c.seat-next.result)
    c.rings-in-Takes.result y) c.self.view_is
    (starts_seated x c.args.pass c.seat-next.result c.in-Some.waiter c.in-Takes.post.hand c.in-Takes.told c.start.new.self
    c.seat-next.new.seats c.rings-in-Takes.result y waits starts idle c.seat-next.ensures.own c.seat-next.ensures.seat
    (ap (λ l. record x { hall = c.start.new.self; line = l; seats = c.seat-next.new.seats }) line)
    (subst (λ (l : lines.Parts). AreRings l c.in-Takes.told c.rings-in-Takes.result) line c.rings-in-Takes.ensures))
