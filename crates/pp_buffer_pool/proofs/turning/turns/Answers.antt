use Rattle.std.proofs.Common.{rules, ◌≡◌, ◌++◌, ℕ, true, false, Option, [], ◌∷◌, length, refl, sym, subst}
use Rattle.std.proofs.lemmas.Bool.Decides.{nat_tests}
use Rattle.pp_vault.specs.Stages.{is_chair}
use Rattle.pp_pool.specs.Turns.{IsReach}
use Rattle.pp_buffer_pool.specs.Running.{noted_calls}
use Rattle.pp_buffer_pool.proofs.Rounds.{rounds_on}
use Rattle.pp_buffer_pool.proofs.turning.turns.Goals as goal

pub loop-init : goal.loop-init
loop-init g c = (
  subst (λ (o : Option ℕ). IsReach g.W.Work o c.args.work.now.work) (sym c.requires.reach) tt,
  ([], (refl, refl)),
)

pub quick_turns-requires : goal.quick_turns-requires
quick_turns-requires g c = c.loop.invariant.0

pub loop-preserved : goal.loop-preserved
loop-preserved g c =
    let busy : is_chair c.quick_turns.new.self.hand.stage ≡ false = grind rules in
    let r = c.loop.invariant.1 in (
      c.in-Done.ensures.reach,
      (
        r.0 ++ (c.quick_turns.new.self, c.quick_turns.new.work) ∷ [],
        rounds_on g.S.Site g.D.Device (noted_calls g.W.Work) c.args.worker.now c.args.work.now r.0 c.loop.worker c.loop.work
            c.quick_turns.new.self c.quick_turns.new.work r.1 c.in-Done.ensures.turns busy,
      ),
    )

pub returns-then-is_idle : goal.returns-then-is_idle
returns-then-is_idle g c =
    let home : is_chair c.quick_turns.new.self.hand.stage ≡ true = grind rules in
    let r = c.loop.invariant.1 in (
      record {
        idle = c.requires.idle;
        worker = c.loop.worker;
        work = c.loop.work;
        rounds = r.0;
        led = r.1;
        last = c.in-Done.ensures.turns;
      },
      home,
    )

pub returns-then-is_empty : goal.returns-then-is_empty
returns-then-is_empty g c =
    let none : length c.quick_turns.new.self.log.items ≡ 0 = grind (rules, nat_tests) in
    let r = c.loop.invariant.1 in (
      record {
        idle = c.requires.idle;
        worker = c.loop.worker;
        work = c.loop.work;
        rounds = r.0;
        led = r.1;
        last = c.in-NoMemory.ensures.turns;
      },
      none,
    )
