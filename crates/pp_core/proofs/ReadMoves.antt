-- A fix and a latch S that are made at once, and an unlatch and an unfix: what they are answered, and where they lead.
use Rattle.std.proofs.Common.{◌≡◌, ◌∙◌, ℕ, ◌+◌, ◌<◌, ◌≤◌, Bool, true, false, not, Option, Some, None, refl, sym, ap, subst, arith}
use Rattle.std.specs.Prelude.{◌&&◌, IsSome, IfSome, IfNone, is_some, cond}
use Rattle.std.proofs.lemmas.Bool.{false≢true}
use Rattle.pp_plan.specs.declared.mode.Mode.TheVariants as mode
use Rattle.pp_plan.specs.declared.action.Ask.{Ask}
use Rattle.pp_plan.specs.declared.action.Ask.TheVariants as ask
use Rattle.pp_cert.specs.declared.note.Held.TheVariants.{Free, S}
use Rattle.pp_model.specs.declared.moves.Move.{Move}
use Rattle.pp_model.specs.declared.moves.Move.TheVariants as move
use Rattle.pp_model.specs.declared.refusals.Cause.{Cause}
use Rattle.pp_model.specs.declared.reply.Reply.{Reply}
use Rattle.pp_model.specs.declared.reply.Reply.TheVariants as reply
use Rattle.pp_model.specs.Pool.{Running, State, mark_at}
use Rattle.pp_model.specs.Holders.{page_in}
use Rattle.pp_model.specs.Outcome.{Outcome}
use Rattle.pp_model.specs.Using.{goes_with, latch_where, latch_asked, unlatched, unlatch_asked, unfix_asked}
use Rattle.pp_model.specs.Moves.{asked_by, seat_of, outcome_of, reply_of, next_of, is_refusal, is_possible}
use Rattle.pp_core.specs.Parts.{Parts}
use Rattle.pp_core.specs.StandsFor.{StandsFor, IsKept, Moves, Asks, CannotAct}
use Rattle.pp_core.specs.Effects.{IsPageIn, IsHeldIn}
use Rattle.pp_core.specs.Queries.{ask_of, held_of, ask_holding}
use Rattle.pp_core.specs.AfterMoves.{Acts, HasFixed, HasLatched, NowHeld}
use Rattle.pp_core.specs.Reading.{MovesTwo, asks_fix, asks_share, asks_unlatch, asks_unfix, is_hit, can_read, can_end_read}
use Rattle.pp_core.proofs.AfterMoves.{after_moves}
use Rattle.pp_core.proofs.ReadAsks.{fix_asked, share_asked, unlatch_is_asked, unfix_is_asked}
use Rattle.pp_core.proofs.Alike.{same_ask}
use Rattle.pp_core.proofs.HoldingTies.{acts_so, told_both, asks_told, asks_so, page_so, held_so, page_held}
use Rattle.pp_core.proofs.QueryTies.{none_told}
use Rattle.pp_core.proofs.ReadTies.{unlatch_few}
use Rattle.pp_core.proofs.Standing.{kept_after, budget_falls}
use Rattle.pp_core.proofs.Ties.{acted_outcome}

-- ---- tests taken apart

pub record All (a b c d : Bool) : Type 0 where
  pub one : a ≡ true
  pub two : b ≡ true
  pub three : c ≡ true
  pub four : d ≡ true

pub all : (a b c d : Bool) → (a && b && c && d) ≡ true → All a b c d
all true true true d e = record { one = refl; two = refl; three = refl; four = e }
all true true false d e = absurd (false≢true e)
all true false c d e = absurd (false≢true e)
all false b c d e = absurd (false≢true e)

pub both_of : (a b : Bool) → (a && b) ≡ true → (a ≡ true) × (b ≡ true)
both_of true b e = (refl, e)
both_of false b e = absurd (false≢true e)

-- ---- what a worker is answered whose plan asks this

module _ (s : State) (w slot : ℕ) where
  latched_by : (r : Running) (b : Bool) → outcome_of s (move.Latch w) ≡ latch_where s w r slot mode.S b
      → is_possible s (move.Latch w) ≡ true → (m : ℕ) × (reply_of s (move.Latch w) ≡ reply.Latched m)
  latched_by r true is can = (mark_at s (page_in r slot), ap (λ (o : Outcome). o.reply) is)
  latched_by r false is can =
      absurd (false≢true (sym (ap (λ (o : Outcome). not (is_refusal o.reply)) is) ∙ can))

  pub latch_told : ask_of s w ≡ Some (ask.Latch slot mode.S) → is_possible s (move.Latch w) ≡ true
      → (m : ℕ) × (reply_of s (move.Latch w) ≡ reply.Latched m)
  latch_told asks can =
      let a = acts_so s w (ask.Latch slot mode.S) (seat_of s w) refl asks in
      latched_by a.0 (goes_with s mode.S (page_in a.0 slot))
      (acted_outcome s w a.0 (λ q. latch_asked s w q (asked_by q)) a.1 ∙ ap (latch_asked s w a.0) a.2) can

  pub unlatch_told : ask_of s w ≡ Some (ask.Unlatch slot) → (m : ℕ) × (reply_of s (move.Unlatch w) ≡ reply.Unlatched m)
  unlatch_told asks =
      let a = acts_so s w (ask.Unlatch slot) (seat_of s w) refl asks in (
        mark_at (unlatched s a.0 slot) (page_in a.0 slot),
        ap (λ (o : Outcome). o.reply)
            (acted_outcome s w a.0 (λ q. unlatch_asked s w q (asked_by q)) a.1 ∙ ap (unlatch_asked s w a.0) a.2),
      )

  pub unfix_told : ask_of s w ≡ Some (ask.Unfix slot) → reply_of s (move.Unfix w) ≡ reply.Did
  unfix_told asks =
      let a = acts_so s w (ask.Unfix slot) (seat_of s w) refl asks in
      ap (λ (o : Outcome). o.reply)
      (acted_outcome s w a.0 (λ q. unfix_asked s w q (asked_by q)) a.1 ∙ ap (unfix_asked s w a.0) a.2)

-- A worker that acts in the state isn't told why it couldn't.
pub no_cause : (f : Parts) (s : State) (w : ℕ) (cause : Cause) → StandsFor f s → Acts s w → CannotAct f w cause → ⊥
no_cause f s w cause st acts cannot =
    let none = none_told f s w cause st cannot in false≢true (subst IsSome (sym none) acts)

same_mark : (a b : ℕ) → ◌≡◌ {A = Option ℕ} (Some a) (Some b) → a ≡ b
same_mark a b e = cc

-- ---- a fix and a latch S

module _ (f : Parts) (k : IsKept f) (w slot page : ℕ)
    (can : (s : State) → StandsFor f s → can_read s w slot page ≡ true) where
  abbrev fixed : State
  fixed = next_of k.state (move.Fix w page)

  tests : All (asks_fix slot (ask_of k.state w)) (is_hit (reply_of k.state (move.Fix w page)))
      (asks_share slot (ask_of (next_of k.state (move.Fix w page)) w))
      (is_possible (next_of k.state (move.Fix w page)) (move.Latch w))
  tests =
      all (asks_fix slot (ask_of k.state w)) (is_hit (reply_of k.state (move.Fix w page)))
      (asks_share slot (ask_of (next_of k.state (move.Fix w page)) w))
      (is_possible (next_of k.state (move.Fix w page)) (move.Latch w)) (can k.state k.stands)

  module _ (g : Parts) (frame mark : ℕ) (first : Moves f (move.Fix w page) (reply.Hit frame mark) g) where
    region_there : (region : ℕ) × (ask_of k.state w ≡ Some (ask.Fix slot region))
    region_there = fix_asked slot (ask_of k.state w) tests.one

    has_fixed : HasFixed k.state fixed w slot page mark
    has_fixed =
        (after_moves k.state k.stands.reached).hit w page slot region_there.0 frame mark
        (sym (first.replies k.state k.stands)) region_there.1

    there : StandsFor g fixed
    there = first.stands k.state k.stands

    pub read_kept_between : IsKept g
    read_kept_between = kept_after f g (move.Fix w page) (reply.Hit frame mark) k first

    shares : ask_of fixed w ≡ Some (ask.Latch slot mode.S)
    shares = share_asked slot (ask_of fixed w) tests.three

    pub latch_asks : Asks g w (ask.Latch slot mode.S)
    latch_asks = asks_told g w (ask.Latch slot mode.S) (λ t st. same_ask g t fixed st there w ∙ shares)

    pub page_fixed : IsPageIn g w slot page
    page_fixed = page_held g fixed w slot page Free there has_fixed.held

    told : (m : ℕ) × (reply_of fixed (move.Latch w) ≡ reply.Latched m)
    told = latch_told fixed w slot shares tests.four

    has_latched : HasLatched fixed (next_of fixed (move.Latch w)) w slot page told.0 mode.S
    has_latched =
        (after_moves fixed there.reached).latched w slot page told.0 mode.S told.1 shares has_fixed.held

    module _ (h : Parts) (two : Reply) (second : Moves g (move.Latch w) two h) where
      two_is : two ≡ reply.Latched mark
      two_is =
          second.replies fixed there ∙ told.1
          ∙ ap reply.Latched (same_mark told.0 mark (sym has_latched.known ∙ has_fixed.known))

      pub read_moves : MovesTwo f (move.Fix w page) (reply.Hit frame mark) (move.Latch w) (reply.Latched mark) h
      read_moves =
          record {
            between = g;
            kept = read_kept_between;
            begins = first;
            goes_on = subst (λ (r : Reply). Moves g (move.Latch w) r h) two_is second;
          }

      pub read_acts : (cause : Cause) → CannotAct h w cause → ⊥
      read_acts cause cannot =
          no_cause h (next_of fixed (move.Latch w)) w cause (second.stands fixed there) has_latched.now.acts cannot

-- ---- an unlatch and an unfix

module _ (f : Parts) (k : IsKept f) (w slot page : ℕ)
    (can : (s : State) → StandsFor f s → can_end_read s w slot page ≡ true) where
  abbrev freed : State
  freed = next_of k.state (move.Unlatch w)

  ends : (asks_unlatch slot (ask_holding k.state w slot page S) ≡ true)
      × (asks_unfix slot (ask_of (next_of k.state (move.Unlatch w)) w) ≡ true)
  ends =
      both_of (asks_unlatch slot (ask_holding k.state w slot page S))
      (asks_unfix slot (ask_of (next_of k.state (move.Unlatch w)) w)) (can k.state k.stands)

  holding : (s : State) → StandsFor f s → ask_holding s w slot page S ≡ Some (ask.Unlatch slot)
  holding s st =
      unlatch_is_asked slot (ask_holding s w slot page S)
      (both_of (asks_unlatch slot (ask_holding s w slot page S)) (asks_unfix slot (ask_of (next_of s (move.Unlatch w)) w))
      (can s st)).0

  asks_it : (ask_of k.state w ≡ Some (ask.Unlatch slot)) × (held_of k.state w slot ≡ Some (page, S))
  asks_it = told_both k.state w slot page S (ask.Unlatch slot) (holding k.state k.stands)

  pub unlatch_asks : Asks f w (ask.Unlatch slot)
  unlatch_asks = asks_so f w slot page S (ask.Unlatch slot) holding

  pub page_there : IsPageIn f w slot page
  page_there = page_so f w slot page S (ask.Unlatch slot) holding k

  pub held_there : IsHeldIn f w slot S
  held_there = held_so f w slot page S (ask.Unlatch slot) holding k

  pub end_few : slot < 32
  end_few = unlatch_few f w slot page holding unlatch_asks k

  -- The unlatch is done.
  pub unlatch_goes : (g : Parts) (one : Reply) → Moves f (move.Unlatch w) one g → (m : ℕ) × (one ≡ reply.Unlatched m)
  unlatch_goes g one moves =
      let t = unlatch_told k.state w slot asks_it.0 in (t.0, moves.replies k.state k.stands ∙ t.1)

  module _ (g : Parts) (mark : ℕ) (first : Moves f (move.Unlatch w) (reply.Unlatched mark) g) where
    stands_there : StandsFor g freed
    stands_there = first.stands k.state k.stands

    pub end_kept_between : IsKept g
    end_kept_between = kept_after f g (move.Unlatch w) (reply.Unlatched mark) k first

    unfixes : ask_of freed w ≡ Some (ask.Unfix slot)
    unfixes = unfix_is_asked slot (ask_of freed w) ends.1

    pub unfix_asks : Asks g w (ask.Unfix slot)
    unfix_asks = asks_told g w (ask.Unfix slot) (λ t st. same_ask g t freed st stands_there w ∙ unfixes)

    has_freed : NowHeld k.state freed w slot page mark Free
    has_freed =
        (after_moves k.state k.stands.reached).unlatched w slot page mark S (sym (first.replies k.state k.stands)) asks_it.0
        asks_it.1

    pub page_stays : IsPageIn g w slot page
    page_stays = page_held g freed w slot page Free stands_there has_freed.held

    module _ (h : Parts) (two : Reply) (second : Moves g (move.Unfix w) two h) where
      did_it : two ≡ reply.Did
      did_it = second.replies freed stands_there ∙ unfix_told freed w slot unfixes

      pub end_moves : MovesTwo f (move.Unlatch w) (reply.Unlatched mark) (move.Unfix w) reply.Did h
      end_moves =
          record {
            between = g;
            kept = end_kept_between;
            begins = first;
            goes_on = subst (λ (r : Reply). Moves g (move.Unfix w) r h) did_it second;
          }

      pub end_acts : (cause : Cause) → CannotAct h w cause → ⊥
      end_acts cause cannot =
          no_cause h (next_of freed (move.Unfix w)) w cause (second.stands freed stands_there)
          ((after_moves freed stands_there.reached).unfixed w slot (unfix_told freed w slot unfixes) unfixes).acts cannot

-- ---- what two moves leave

module _ (f g : Parts) (m n : Move) (one two : Reply) (k : IsKept f)
    (moves : MovesTwo f m one n two g) where
  pub kept_two : IsKept g
  kept_two = kept_after moves.between g n two moves.kept moves.goes_on

  pub budget_two : is_refusal one ≡ false → is_refusal two ≡ false → g.budget + 2 ≤ f.budget
  budget_two done next =
      omega (
        arith,
        budget_falls f moves.between m one k moves.begins,
        budget_falls moves.between g n two moves.kept moves.goes_on,
        ap {B = ℕ} (λ b. cond b 0 1) done,
        ap {B = ℕ} (λ b. cond b 0 1) next,
      )

-- What the calls leave, by what they answer.
pub read_kept : (f g : Parts) (w page : ℕ) (o : Option (ℕ × ℕ × Ask)) → IsKept f
    → IfSome o (λ now. MovesTwo f (move.Fix w page) (reply.Hit now.0 now.1) (move.Latch w) (reply.Latched now.1) g)
    → IfNone o (g ≡ f) → IsKept g
read_kept f g w page (Some now) k moves same =
    kept_two f g (move.Fix w page) (move.Latch w) (reply.Hit now.0 now.1) (reply.Latched now.1) k moves
read_kept f g w page None k moves same = subst IsKept (sym same) k

pub end_kept : (f g : Parts) (w : ℕ) (o : Option (ℕ × Ask)) → IsKept f
    → IfSome o (λ now. MovesTwo f (move.Unlatch w) (reply.Unlatched now.0) (move.Unfix w) reply.Did g)
    → IfNone o (g ≡ f) → IsKept g
end_kept f g w (Some now) k moves same =
    kept_two f g (move.Unlatch w) (move.Unfix w) (reply.Unlatched now.0) reply.Did k moves
end_kept f g w None k moves same = subst IsKept (sym same) k

pub read_budget : (f g : Parts) (w page : ℕ) (o : Option (ℕ × ℕ × Ask)) → IsKept f
    → IfSome o (λ now. MovesTwo f (move.Fix w page) (reply.Hit now.0 now.1) (move.Latch w) (reply.Latched now.1) g)
    → IfNone o (g ≡ f) → g.budget + cond (is_some o) 2 0 ≤ f.budget
read_budget f g w page (Some now) k moves same =
    budget_two f g (move.Fix w page) (move.Latch w) (reply.Hit now.0 now.1) (reply.Latched now.1) k moves refl refl
read_budget f g w page None k moves same = omega (arith, ap (λ (x : Parts). x.budget) same)

pub end_budget : (f g : Parts) (w : ℕ) (o : Option (ℕ × Ask)) → IsKept f
    → IfSome o (λ now. MovesTwo f (move.Unlatch w) (reply.Unlatched now.0) (move.Unfix w) reply.Did g)
    → IfNone o (g ≡ f) → g.budget + cond (is_some o) 2 0 ≤ f.budget
end_budget f g w (Some now) k moves same =
    budget_two f g (move.Unlatch w) (move.Unfix w) (reply.Unlatched now.0) reply.Did k moves refl refl
end_budget f g w None k moves same = omega (arith, ap (λ (x : Parts). x.budget) same)
