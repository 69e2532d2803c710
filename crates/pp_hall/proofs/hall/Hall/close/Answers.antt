use Rattle.std.proofs.Common.{◌∙◌, subst, rules}
use Rattle.pp_hall.specs.declared.error.CloseError.TheVariants.{Busy}
use Rattle.pp_hall.specs.Halls.{Parts}
use Rattle.pp_hall.specs.Closing.{IsBack, IsClosed}
use Rattle.pp_hall.proofs.Kept.{kept_with}
use Rattle.pp_hall.proofs.Ending.{back_with_chair, back_without_flusher, back_changed, homes_after, closed}
use Rattle.pp_hall.proofs.hall.Hall.close.Goals as goal

pub returns-then-not-is_all_home-clause-err : goal.returns-then-not-is_all_home-clause-err
returns-then-not-is_all_home-clause-err g c =
    let h : Parts = record {
      seating = c.self.inside.seating;
      waiters = c.self.inside.waiters;
      posts = c.self.inside.posts;
      policy = c.self.inside.policy;
    } in
    subst (λ (p : Parts). IsBack p Busy h) c.self.view_is
    (back_with_chair h c.is_all_home.result (search rules) c.is_all_home.ensures)

pub returns-in_default-clause-err : goal.returns-in_default-clause-err
returns-in_default-clause-err g c =
    let h : Parts = record {
      seating = c.self.inside.seating;
      waiters = c.self.inside.waiters;
      posts = c.self.inside.posts;
      policy = c.self.inside.policy;
    } in
    subst (λ (p : Parts). IsBack p Busy (record h { posts = c.take_flusher.new.self })) c.self.view_is
    (back_without_flusher h c.take_flusher.new.self (search rules) c.take_flusher.ensures.gone)

pub invariant_of-hall-in-Err-flushed : goal.invariant_of-hall-in-Err-flushed
invariant_of-hall-in-Err-flushed g c =
    let h : Parts = record {
      seating = c.self.inside.seating;
      waiters = c.self.inside.waiters;
      posts = c.self.inside.posts;
      policy = c.self.inside.policy;
    } in
    kept_with (record {
      seating = c.over-flusher-2.result.1;
      waiters = c.settle.new.self;
      posts = c.put_flusher.new.self;
      policy = c.self.inside.policy;
    }) c.settle.ensures.awake
    (homes_after h c.self.invariant c.take_flusher.new.self c.put_flusher.new.self c.take_flusher.ensures.gone
    c.in-Ok.ensures.home c.over-flusher.result.0.site c.flush_all-flushed.new.flusher.site c.over-flusher-2.result.1
    c.over-flusher.ensures.site c.flush_all-flushed.ensures.by c.over-flusher-2.ensures.before)

pub returns-in-Ok-flushed-clause-ok : goal.returns-in-Ok-flushed-clause-ok
returns-in-Ok-flushed-clause-ok g c =
    let h : Parts = record {
      seating = c.self.inside.seating;
      waiters = c.self.inside.waiters;
      posts = c.self.inside.posts;
      policy = c.self.inside.policy;
    } in
    subst (λ (p : Parts). IsClosed p c.stats_of-stats.result) c.self.view_is
    (closed h c.is_all_home.result (search rules) c.is_all_home.ensures c.in-Some.ensures.some
    c.over-flusher.result.0.site c.flush_all-flushed.new.flusher.site c.over-flusher-2.result.1
    c.over-flusher.ensures.site c.flush_all-flushed.ensures.by c.over-flusher-2.ensures.before
    c.in-Ok-flushed.ensures.clean c.stats_of-stats.result
    (record {
      counts = c.stats_of-stats.ensures.counts;
      dirty = c.stats_of-stats.ensures.dirty;
      running_peaks = c.stats_of-stats.ensures.running_peaks;
      waiting = c.stats_of-stats.ensures.waiting;
      chairs = c.stats_of-stats.ensures.chairs;
    })
    c.stats_of-stats.ensures.clean)

pub returns-in-Err-flushed-clause-err : goal.returns-in-Err-flushed-clause-err
returns-in-Err-flushed-clause-err g c =
    let h : Parts = record {
      seating = c.self.inside.seating;
      waiters = c.self.inside.waiters;
      posts = c.self.inside.posts;
      policy = c.self.inside.policy;
    } in
    subst (λ (p : Parts). IsBack p c.in-Err-flushed.error (record {
      seating = c.over-flusher-2.result.1;
      waiters = c.settle.new.self;
      posts = c.put_flusher.new.self;
      policy = c.self.inside.policy;
    })) c.self.view_is
    (back_changed h c.is_all_home.result (search rules) c.is_all_home.ensures c.in-Some.ensures.some
    c.take_flusher.new.self c.put_flusher.new.self c.take_flusher.ensures.gone c.in-Ok.ensures.home
    c.over-flusher.result.0.site c.flush_all-flushed.new.flusher.site c.over-flusher-2.result.1
    c.over-flusher.ensures.site c.flush_all-flushed.ensures.by c.over-flusher-2.ensures.before c.settle.new.self
    c.in-Err-flushed.error c.in-Err-flushed.ensures.error c.in-Err-flushed.ensures.spent)
