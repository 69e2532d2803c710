use Rattle.std.proofs.Common.{◌≡◌, ◌∙◌, ◌+◌, ◌++◌, Some, length, length-append, refl, sym, ap, subst, arith}
use Rattle.std.specs.Prelude.{slice_set}
use Rattle.pp_vault.specs.declared.tokens.Session.{Session}
use Rattle.pp_vault.specs.declared.guards.ReadGuard.{ReadGuard}
use Rattle.pp_vault.specs.declared.guards.Guard.TheVariants as guard
use Rattle.pp_vault.specs.declared.stage.Stage.TheVariants as stages
use Rattle.pp_pool.specs.declared.turned.Turned.TheVariants.{Done}
use Rattle.pp_pool.specs.Readings.{read_events}
use Rattle.pp_pool.specs.Turns.{LooksAt}
use Rattle.pp_pool.specs.ShortTurns.{TurnsAtOnce}
use Rattle.pp_pool.proofs.ShortTurns.{asked_turn, two_turns, four_turns}
use Rattle.pp_pool.proofs.reading.read.Goals as goal

pub returns-in-Err-clause-turns : goal.returns-in-Err-clause-turns
returns-in-Err-clause-turns g c layout before step consults =
    asked_turn g.S.Site g.W.Work layout (length c.args.seen.now.items) c.args.session c.in-Err.session c.in-Err.ensures.back
    c.args.page c.args.guards.now c.made.new.guards c.args.site.now c.read.new.self c.made.new.site c.in-Err.ensures.same
    c.args.log.now c.made.new.log before c.args.work.now c.made.new.work c.made.result.1 c.made.result.0 step consults
    c.requires.prepares (omega (arith, c.requires.room)) c.made.ensures.memory c.made.ensures.comes

pub returns-then-not-ends_behind-clause-turns : goal.returns-then-not-ends_behind-clause-turns
returns-then-not-ends_behind-clause-turns g c layout before step consults =
    let log = c.args.log.now.items in
    two_turns g.S.Site g.W.Work layout (length c.args.seen.now.items) c.args.session c.args.page c.args.guards.now
    c.args.site.now c.read.new.self c.see-turned.new.site c.args.log.now c.note_read.new.journal before c.args.work.now step
    consults c.requires.prepares c.in-Ok.session c.in-Ok.guard c.in-Ok.frame c.in-Ok.ensures.given c.see-turned.ensures.site
    (omega (arith, c.requires.room))
    (c.note_read.ensures.journal
    ∙ ap (λ w. log ++ read_events w c.args.page c.in-Ok.frame c.mark.result) c.worker-worker.ensures
    ∙ ap (λ m. log ++ read_events c.args.session.worker c.args.page c.in-Ok.frame m) c.mark.ensures)
    c.note_read.ensures.memory c.see-turned.result c.see-turned.new.work
    (subst (λ xs. LooksAt g.S.Site g.W.Work c.read.new.self (length xs) c.in-Ok.guard c.args.work.now c.see-turned.result
    c.see-turned.new.work) c.deref_mut.ensures.value c.see-turned.ensures.looks)
    c.put.new.guards c.put.ensures

pub returns-in-Ok-end_read-clause-turns : goal.returns-in-Ok-end_read-clause-turns
returns-in-Ok-end_read-clause-turns g c layout before step consults =
    let log = c.args.log.now.items in
    let events = read_events c.args.session.worker c.args.page c.in-Ok.frame c.in-Ok.guard.mark in
    let grows : c.note_read.new.journal.items ≡ log ++ events
    = c.note_read.ensures.journal
    ∙ ap (λ w. log ++ read_events w c.args.page c.in-Ok.frame c.mark.result) c.worker-worker.ensures
    ∙ ap (λ m. log ++ read_events c.args.session.worker c.args.page c.in-Ok.frame m) c.mark.ensures in
    let memory = c.note_read.ensures.memory in
    let long : length c.note_read.new.journal.items ≡ length log + 2 = ap length grows ∙ length-append log events in
    four_turns g.S.Site g.W.Work layout (length c.args.seen.now.items) c.args.session c.args.page c.args.guards.now
    c.args.site.now c.read.new.self c.see-turned.new.site c.args.log.now c.note_read.new.journal before c.args.work.now step
    consults c.requires.prepares c.in-Ok.session c.in-Ok.guard c.in-Ok.frame c.in-Ok.ensures.given c.see-turned.ensures.site
    (omega (arith, c.requires.room)) grows memory c.see-turned.new.work
    (subst (λ t. LooksAt g.S.Site g.W.Work c.read.new.self (length c.args.seen.now.items) c.in-Ok.guard c.args.work.now t
    c.see-turned.new.work) (c.if-not-ends_behind.ensures.shown refl)
    (subst (λ xs. LooksAt g.S.Site g.W.Work c.read.new.self (length xs) c.in-Ok.guard c.args.work.now c.see-turned.result
    c.see-turned.new.work) c.deref_mut.ensures.value c.see-turned.ensures.looks))
    c.worker-worker.result c.worker-worker.ensures c.end_read.new.self c.note_end.new.journal c.in-Ok-end_read.session
    c.in-Ok-end_read.mark c.in-Ok-end_read.ensures.given (c.if-not-ends_behind.ensures.asks refl)
    (omega (arith, long, memory, c.requires.room)) c.note_end.ensures.journal c.note_end.ensures.memory

pub returns-in-Err-end_read-clause-turns : goal.returns-in-Err-end_read-clause-turns
returns-in-Err-end_read-clause-turns g c layout before step consults =
    let log = c.args.log.now.items in
    let back = c.in-Err-end_read.ensures.back in
    subst (λ (p : Session × ReadGuard). TurnsAtOnce g.S.Site g.W.Work layout (length c.args.seen.now.items)
    (record {
      stage = stages.In c.args.session;
      places = c.args.guards.now;
      site = c.args.site.now;
      log = c.args.log.now;
      work = before;
    }) Done
    (record {
      stage = stages.In p.0;
      places = c.put-in-Err-end_read.new.guards;
      site = c.end_read.new.self;
      log = c.note_read.new.journal;
      work = c.see-turned.new.work;
    })) (sym back)
    (two_turns g.S.Site g.W.Work layout (length c.args.seen.now.items) c.args.session c.args.page c.args.guards.now
    c.args.site.now c.read.new.self c.end_read.new.self c.args.log.now c.note_read.new.journal before c.args.work.now step
    consults c.requires.prepares c.in-Ok.session c.in-Ok.guard c.in-Ok.frame c.in-Ok.ensures.given
    (c.in-Err-end_read.ensures.same ∙ c.see-turned.ensures.site) (omega (arith, c.requires.room))
    (c.note_read.ensures.journal
    ∙ ap (λ w. log ++ read_events w c.args.page c.in-Ok.frame c.mark.result) c.worker-worker.ensures
    ∙ ap (λ m. log ++ read_events c.args.session.worker c.args.page c.in-Ok.frame m) c.mark.ensures)
    c.note_read.ensures.memory Done c.see-turned.new.work
    (subst (λ t. LooksAt g.S.Site g.W.Work c.read.new.self (length c.args.seen.now.items) c.in-Ok.guard c.args.work.now t
    c.see-turned.new.work) (c.if-not-ends_behind.ensures.shown refl)
    (subst (λ xs. LooksAt g.S.Site g.W.Work c.read.new.self (length xs) c.in-Ok.guard c.args.work.now c.see-turned.result
    c.see-turned.new.work) c.deref_mut.ensures.value c.see-turned.ensures.looks))
    c.put-in-Err-end_read.new.guards
    (c.put-in-Err-end_read.ensures
    ∙ ap (λ (p : Session × ReadGuard). slice_set c.args.guards.now p.1.slot (Some (guard.Read p.1))) back))
