-- A reading that is begun or ended by one call: the vault between its two moves.
use Rattle.std.proofs.Common.{◌≡◌, ◌∙◌, ℕ, Bool, true, false, Some, None, Result, Ok, Err, refl, sym, ap, subst, arith}
use Rattle.std.specs.Prelude.{◌&&◌, ◌==◌, if◌then◌else◌, IfOk, OnErr}
use Rattle.std.proofs.lemmas.Bool.{false≢true}
use Rattle.std.proofs.lemmas.Bool.Decides.{nat_tests}
use Rattle.pp_plan.specs.declared.mode.Mode.TheVariants as mode
use Rattle.pp_plan.specs.declared.action.Ask.{Ask}
use Rattle.pp_plan.specs.declared.action.Ask.TheVariants as ask
use Rattle.pp_cert.specs.declared.note.Held.TheVariants.{Free, S}
use Rattle.pp_model.specs.declared.moves.Move.TheVariants as move
use Rattle.pp_model.specs.declared.reply.Reply.TheVariants as reply
use Rattle.pp_model.specs.Pool.{State}
use Rattle.pp_model.specs.Moves.{reply_of, next_of, is_possible}
use Rattle.pp_core.specs.StandsFor as core
use Rattle.pp_core.specs.Queries.{ask_of, held_of, ask_holding}
use Rattle.pp_core.specs.Reading.{MovesTwo, asks_fix, asks_share, asks_unlatch, asks_unfix, is_hit, can_read, can_end_read}
use Rattle.pp_core.proofs.Alike.{same_ask}
use Rattle.pp_core.proofs.ReadAsks.{fix_asked, share_asked, unlatch_is_asked, unfix_is_asked}
use Rattle.pp_vault.specs.declared.tokens.Session.{Session}
use Rattle.pp_vault.specs.declared.guards.PinGuard.{PinGuard}
use Rattle.pp_vault.specs.declared.guards.ReadGuard.{ReadGuard}
use Rattle.pp_vault.specs.Parts.{Parts}
use Rattle.pp_vault.specs.StandsFor.{StandsFor, IsKept}
use Rattle.pp_vault.specs.Steps.{Stepped}
use Rattle.pp_vault.specs.Fits.{is_acting_by, is_held_by, IsEmpty, fix_slot, asked_at, fits_both, asks_latch, ask_fitting}
use Rattle.pp_vault.specs.Fits.{asks_unfix as unfix_wants, asks_unlatch as unlatch_wants}
use Rattle.pp_vault.specs.Tokens.{SessionFits}
use Rattle.pp_vault.specs.Fixes.{IsHit}
use Rattle.pp_vault.specs.Uses.{UnlatchesShared}
use Rattle.pp_vault.specs.Reads.{Reads, EndsRead}
use Rattle.pp_vault.proofs.Asked.{fit, unlatch_wanted, asks_its_latch, asks_its_unfix}
use Rattle.pp_vault.proofs.Done.{tells_asked}
use Rattle.pp_vault.proofs.FixSteps as fixing
use Rattle.pp_vault.proofs.Kept.{holds, kept_after}
use Rattle.pp_vault.proofs.Using as using

-- ---- tests

same_number : (n : ℕ) → (n == n) ≡ true
same_number n = grind (arith, nat_tests)

number_is : (a b : ℕ) → (a == b) ≡ true → a ≡ b
number_is a b e = grind (arith, nat_tests)

first_three : (a b c d : Bool) → (a && b && c && d) ≡ true → (a ≡ true) × (c ≡ true)
first_three true true true d e = (refl, refl)
first_three true true false d e = absurd (false≢true e)
first_three true false c d e = absurd (false≢true e)
first_three false b c d e = absurd (false≢true e)

both : (a b : Bool) → (a && b) ≡ true → (a ≡ true) × (b ≡ true)
both true b e = (refl, e)
both false b e = absurd (false≢true e)

-- A guard of another worker, and one of this worker.
pub other_worker : (a b : ℕ) (t : Bool) → (a ≡ b → ⊥) → false ≡ ((a == b) && t)
other_worker a b t isnt = go (a == b) refl
  where
    go : (d : Bool) → (a == b) ≡ d → false ≡ ((a == b) && t)
    go true is = absurd (isnt (number_is a b is))
    go false is = ap (λ d. d && t) (sym is)

pub own_worker : (a b : ℕ) (t u : Bool) → a ≡ b → u ≡ t → u ≡ ((a == b) && t)
own_worker a b t u same e =
    e ∙ ap (λ d. d && t) (sym (ap (λ n. n == b) same ∙ same_number b))

-- A session and a guard fit where the plan asks something and the slot holds the page so.
fit_free : (s : State) (w slot page : ℕ) (a : Ask) → ask_of s w ≡ Some a → held_of s w slot ≡ Some (page, Free)
    → fits_both s w w slot page Free ≡ true
fit_free s w slot page a asks held =
    (λ i. is_acting_by (asks i) && same_number w i && is_held_by page Free (held i))
    ∙ ap (λ b. b && true) (same_number page)

module _ (old new : Parts) (x : Session) (kept : IsKept old) (next : Ask)
    (rest : new ≡ record old { core = new.core })
    (asks_now : (s : State) → core.StandsFor new.core s → ask_of s x.worker ≡ Some next) where
  abbrev w : ℕ
  w = x.worker

  abbrev last : Session
  last = record { worker = w; ask = next }

  last_fits : SessionFits new w last
  last_fits = record { worker = refl; ask = λ s st. asks_now s st.core }

  -- ---- a fix and a latch S

  module _ (page frame mark : ℕ)
      (moves : MovesTwo old.core (move.Fix w page) (reply.Hit frame mark) (move.Latch w) (reply.Latched mark) new.core)
      (can : (s : State) → core.StandsFor old.core s → can_read s w (fix_slot x.ask) page ≡ true) where
    abbrev slot : ℕ
    slot = fix_slot x.ask

    abbrev fixed : Parts
    fixed = record old { core = moves.between }

    first : Stepped old fixed (move.Fix w page) (reply.Hit frame mark)
    first = record { moves = moves.begins; done = refl; rest = refl }

    second : Stepped fixed new (move.Latch w) (reply.Latched mark)
    second = record { moves = moves.goes_on; done = refl; rest = rest }

    parts_can : (asks_fix slot (ask_of kept.state w) ≡ true) × (asks_share slot (ask_of (next_of kept.state (move.Fix w page)) w) ≡ true)
    parts_can =
        first_three (asks_fix slot (ask_of kept.state w)) (is_hit (reply_of kept.state (move.Fix w page)))
        (asks_share slot (ask_of (next_of kept.state (move.Fix w page)) w))
        (is_possible (next_of kept.state (move.Fix w page)) (move.Latch w)) (can kept.state kept.stands.core)

    region_there : (region : ℕ) × (ask_of kept.state w ≡ Some (ask.Fix slot region))
    region_there = fix_asked slot (ask_of kept.state w) parts_can.0

    abbrev wants : Ask
    wants = ask.Fix slot region_there.0

    told : (s : State) → StandsFor old s → asked_at slot (ask_of s w) ≡ Some wants
    told s st =
        ap (asked_at slot) (same_ask old.core s kept.state st.core kept.stands.core w ∙ region_there.1)
        ∙ ap (λ b. if b then Some wants else None) (same_number slot)

    plain : (n region : ℕ) → wants ≡ ask.Gather n region → ⊥
    plain n region e = cc

    fixed_kept : IsKept fixed
    fixed_kept = fixing.hit_kept old fixed w slot page (reply.Hit frame mark) first wants told frame mark refl kept

    shares : (s : State) → StandsFor fixed s → ask_of s w ≡ Some (ask.Latch slot mode.S)
    shares s st =
        same_ask moves.between s (next_of kept.state (move.Fix w page)) st.core
        (moves.begins.stands kept.state kept.stands.core) w
        ∙ share_asked slot (ask_of (next_of kept.state (move.Fix w page)) w) parts_can.1

    abbrev between : Session
    between = record { worker = w; ask = ask.Latch slot mode.S }

    between_fits : SessionFits fixed w between
    between_fits = record { worker = refl; ask = shares }

    abbrev pin : PinGuard
    pin = record { worker = w; slot = slot; page = page }

    hit : IsHit old fixed w page between pin
    hit =
        fixing.hit_is old fixed w slot page (reply.Hit frame mark) first wants told frame mark refl kept
        between between_fits plain

    fit_then : (s : State) → StandsFor fixed s → fits_both s w w slot page Free ≡ true
    fit_then s st = fit_free s w slot page (ask.Latch slot mode.S) (shares s st) (hit.guard.held s st)

    wanted_then : (s : State) → StandsFor fixed s → asks_latch slot mode.S (ask_of s w) ≡ true
    wanted_then s st = asks_its_latch slot mode.S (ask_of s w) (shares s st)

    pub reads : Reads old x page new last (record { worker = w; slot = slot; page = page; mark = mark }) frame
    reads =
        record {
          between = fixed;
          session = between;
          guard = pin;
          holds = holds fixed fixed_kept;
          fixes = (
            fixing.hit_does old fixed w slot page (reply.Hit frame mark) first wants told frame mark refl,
            hit,
            refl,
          );
          fix_told = fixing.fix_tells old fixed w slot page (reply.Hit frame mark) first wants told;
          latches = using.latches fixed new between pin (reply.Latched mark) fixed_kept second fit_then wanted_then last last_fits;
          latch_told = tells_asked fixed new (move.Latch w) (reply.Latched mark) second
              (λ s. fits_both s w w slot page Free) (λ s. asks_latch slot mode.S (ask_of s w)) fit_then wanted_then;
        }

    -- The same, where the slot has another name.
    pub reads_at : (n : ℕ) → n ≡ fix_slot x.ask
        → Reads old x page new last (record { worker = w; slot = n; page = page; mark = mark }) frame
    reads_at n is =
        subst (λ k. Reads old x page new last (record { worker = w; slot = k; page = page; mark = mark }) frame) (sym is)
        reads

  -- ---- an unlatch and an unfix

  module _ (g : ReadGuard) (own : g.worker ≡ w) (mark : ℕ)
      (moves : MovesTwo old.core (move.Unlatch w) (reply.Unlatched mark) (move.Unfix w) reply.Did new.core)
      (can : (s : State) → core.StandsFor old.core s → can_end_read s w g.slot g.page ≡ true) where
    abbrev freed : Parts
    freed = record old { core = moves.between }

    goes : Stepped old freed (move.Unlatch w) (reply.Unlatched mark)
    goes = record { moves = moves.begins; done = refl; rest = refl }

    leaves : Stepped freed new (move.Unfix w) reply.Did
    leaves = record { moves = moves.goes_on; done = refl; rest = rest }

    parts_end : (s : State) → core.StandsFor old.core s → (asks_unlatch g.slot (ask_holding s w g.slot g.page S) ≡ true)
        × (asks_unfix g.slot (ask_of (next_of s (move.Unlatch w)) w) ≡ true)
    parts_end s st =
        both (asks_unlatch g.slot (ask_holding s w g.slot g.page S)) (asks_unfix g.slot (ask_of (next_of s (move.Unlatch w)) w))
        (can s st)

    holding : (s : State) → core.StandsFor old.core s → ask_fitting s w g.worker g.slot g.page S ≡ Some (ask.Unlatch g.slot)
    holding s st =
        ap (λ n. if n == w then ask_holding s w g.slot g.page S else None) own
        ∙ ap (λ b. if b then ask_holding s w g.slot g.page S else None) (same_number w)
        ∙ unlatch_is_asked g.slot (ask_holding s w g.slot g.page S) (parts_end s st).0

    fit_end : (s : State) → StandsFor old s → fits_both s w g.worker g.slot g.page S ≡ true
    fit_end = fit old w g.worker g.slot g.page S (ask.Unlatch g.slot) holding

    wanted_end : (s : State) → StandsFor old s → unlatch_wants g.slot (ask_of s w) ≡ true
    wanted_end = unlatch_wanted old w g.worker g.slot g.page S holding

    freed_kept : IsKept freed
    freed_kept = using.unlatch_kept old freed x g (reply.Unlatched mark) kept goes fit_end wanted_end

    unfixes_then : (s : State) → StandsFor freed s → ask_of s w ≡ Some (ask.Unfix g.slot)
    unfixes_then s st =
        same_ask moves.between s (next_of kept.state (move.Unlatch w)) st.core
        (moves.begins.stands kept.state kept.stands.core) w
        ∙ unfix_is_asked g.slot (ask_of (next_of kept.state (move.Unlatch w)) w) (parts_end kept.state kept.stands.core).1

    abbrev midway : Session
    midway = record { worker = w; ask = ask.Unfix g.slot }

    midway_fits : SessionFits freed w midway
    midway_fits = record { worker = refl; ask = unfixes_then }

    abbrev held : PinGuard
    held = record { worker = w; slot = g.slot; page = g.page }

    unlatches : UnlatchesShared old x g freed midway held
    unlatches =
        using.unlatches old freed x g (reply.Unlatched mark) kept goes fit_end wanted_end midway midway_fits

    fit_last : (s : State) → StandsFor freed s → fits_both s w w g.slot g.page Free ≡ true
    fit_last s st = fit_free s w g.slot g.page (ask.Unfix g.slot) (unfixes_then s st) (unlatches.guard.held s st)

    wanted_last : (s : State) → StandsFor freed s → unfix_wants g.slot (ask_of s w) ≡ true
    wanted_last s st = asks_its_unfix g.slot (ask_of s w) (unfixes_then s st)

    pub ends : EndsRead old x g new last mark
    ends =
        record {
          between = freed;
          session = midway;
          guard = held;
          holds = holds freed freed_kept;
          unlatches = unlatches;
          unlatch_told = tells_asked old freed (move.Unlatch w) (reply.Unlatched mark) goes
              (λ s. fits_both s w g.worker g.slot g.page S) (λ s. unlatch_wants g.slot (ask_of s w)) fit_end wanted_end;
          unfixes = using.unfixes freed new midway held reply.Did freed_kept leaves fit_last wanted_last last last_fits;
          unfix_told = tells_asked freed new (move.Unfix w) reply.Did leaves
              (λ s. fits_both s w w g.slot g.page Free) (λ s. unfix_wants g.slot (ask_of s w)) fit_last wanted_last;
        }

    pub ends_empty : (s : State) → StandsFor new s → IsEmpty s w g.slot
    ends_empty = using.unfix_empty freed new midway held reply.Did freed_kept leaves fit_last wanted_last

-- ---- what is kept

pub read_kept : (old new : Parts) (x : Session) (page : ℕ) (r : Result (Session × ReadGuard × ℕ) Session) → IsKept old
    → IfOk r (λ y. Reads old x page new y.0 y.1 y.2) → OnErr r (new ≡ old) → IsKept new
read_kept old new x page (Ok y) k ok same = kept_after ok.between new _ ok.holds.kept ok.latches.does
read_kept old new x page (Err e) k ok same = subst IsKept (sym same) k

pub end_kept : (old new : Parts) (x : Session) (g : ReadGuard) (r : Result (Session × ℕ) (Session × ReadGuard)) → IsKept old
    → IfOk r (λ y. EndsRead old x g new y.0 y.1) → OnErr r (new ≡ old) → IsKept new
end_kept old new x g (Ok y) k ok same = kept_after ok.between new _ ok.holds.kept ok.unfixes.does
end_kept old new x g (Err e) k ok same = subst IsKept (sym same) k
