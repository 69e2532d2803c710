use Rattle.std.proofs.Common.{◌≡◌, ◌∙◌, List, Option, length, refl, sym, ap, subst, inl, inr, false}
use Rattle.pp_vault.specs.declared.guards.Guard.{Guard}
use Rattle.pp_vault.specs.declared.stage.Stage.{Stage}
use Rattle.pp_pool.specs.Turns.{Asks, Consults, worker_with, can_ask_at, keeps_place}
use Rattle.pp_pool.proofs.Turning.{turns}
use Rattle.pp_pool.proofs.Keeping.{keeps_worker, keeps_after}
use Rattle.pp_pool.proofs.Lent.{keeps_reworked, refused_stays}
use Rattle.pp_pool.proofs.worker.asked.Goals as goal

pub returns-in-Ok-clause-worker : goal.returns-in-Ok-clause-worker
returns-in-Ok-clause-worker g c =
    let t = c.made_any.ensures.comes.comes in
    keeps_worker g.S.Site g.W.Work g.D.Device.read_gives g.D.Device.write_leaves g.D.Device.calls g.D.Device.failures
    c.args.layout.now c.args.stage c.made_any.result.0 c.args.device.now c.in-Ok.request c.next.new.device t.response _ _ _ t.ends
    t.after _ c.in-Ok.ensures.asks t.fits t.uses t.stage

pub returns-in-Ok-clause-keeps : goal.returns-in-Ok-clause-keeps
returns-in-Ok-clause-keeps g c kept =
    let t = c.made_any.ensures.comes.comes in
    keeps_after g.S.Site g.W.Work _ _ _ t.ends _ c.rework.new.guards c.next.new.guards c.in-Ok.request
    c.in-Ok.ensures.prepares t.response.answer t.after _ _ t.fits.tokens t.fits.slot t.uses t.stage t.guards

pub returns-in-Ok-clause-turn : goal.returns-in-Ok-clause-turn
returns-in-Ok-clause-turn g c w layout room =
    let told = c.made_any.ensures.comes in
    let t = told.comes in
    turns g.S.Site g.D.Device g.W.Work
    (worker_with w c.args.stage c.args.guards.now c.args.site.now c.args.device.now c.args.log.now c.args.kept.now.end)
    (worker_with w c.made_any.result.0 c.made_any.new.guards c.made_any.new.site c.next.new.device c.made_any.new.log
    c.made_any.new.end)
    c.args.work.now c.rework.new.work c.next.new.work told.used c.made_any.new.work c.rework.new.guards c.in-Ok.request
    t.response t.after c.next.new.guards c.made_any.new.site (length c.args.seen.now.items) t.is_logged t.ends
    c.made_any.result.1
    c.rework.ensures.reworks
    (subst (λ l. Asks g.D.Device.read_gives g.D.Device.write_leaves g.D.Device.calls g.D.Device.failures l c.args.stage
    c.args.device.now c.in-Ok.request c.next.new.device) (sym layout) c.in-Ok.ensures.asks)
    (subst (λ l. Consults g.W.Work l c.rework.new.work c.in-Ok.request c.next.new.work) (sym layout)
    c.in-Ok.ensures.consults)
    c.in-Ok.ensures.prepares
    (subst (λ x. g.S.Site.gives x c.in-Ok.request t.response c.made_any.new.site)
    (c.rework.ensures.site ∙ c.let_go_unless_at_once.ensures) t.given)
    t.fits refl t.grows room t.uses told.tells t.stage t.guards c.requires.room t.full t.ended

pub returns-in-Err-clause-turn : goal.returns-in-Err-clause-turn
returns-in-Err-clause-turn g c w layout room =
    let guards = c.in-Err.ensures.guards in
    let no : can_ask_at c.args.layout.now c.rework.new.guards c.args.stage ≡ false = c.in-Err.ensures.err in
    let same = refused_stays g.W.Work c.args.work.now c.rework.new.work c.args.layout.now c.args.guards.now
    c.rework.new.guards c.args.stage c.rework.ensures.reworks no in
    let hand : c.next.new.guards ≡ c.args.guards.now = guards ∙ same.1 in
    inr (record {
      may =
          inl (subst (λ l. can_ask_at l c.args.guards.now c.args.stage ≡ false) (sym layout)
          (subst (λ ps. can_ask_at c.args.layout.now ps c.args.stage ≡ false) same.1 no));
      site = c.rework.ensures.site ∙ c.let_go_unless_at_once.ensures;
      device = c.in-Err.ensures.device;
      hand =
          ap (λ (at : Stage). record { stage = at; guards = c.next.new.guards }) c.in-Err.ensures.back
          ∙ ap (λ (ps : List (Option Guard)). record { stage = c.args.stage; guards = ps }) hand;
      log = refl;
      end = refl;
      work = c.in-Err.ensures.work ∙ same.0;
    })

pub returns-in-Err-clause-keeps : goal.returns-in-Err-clause-keeps
returns-in-Err-clause-keeps g c kept =
    ap (λ (at : Stage). keeps_place c.next.new.guards at) c.in-Err.ensures.back
    ∙ ap (λ ps. keeps_place ps c.args.stage) c.in-Err.ensures.guards
    ∙ keeps_reworked g.W.Work c.args.work.now c.rework.new.work c.args.stage c.args.guards.now
    c.rework.new.guards c.rework.ensures.reworks kept
