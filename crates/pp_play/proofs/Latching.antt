-- What the calls that latch a page, and take a latch off, do to the guard of its slot.
use Rattle.std.proofs.Common.{◌≡◌, Some, refl, subst}
use Rattle.pp_plan.specs.declared.mode.Mode.TheVariants as mode
use Rattle.pp_cert.specs.declared.note.Held.TheVariants.{Free, S, X}
use Rattle.pp_core.specs.Queries.{held_of}
use Rattle.pp_vault.specs.declared.refusal.Refusal.TheVariants.{Stranger}
use Rattle.pp_vault.specs.declared.tokens.Session.{Session}
use Rattle.pp_vault.specs.declared.guards.PinGuard.{PinGuard}
use Rattle.pp_vault.specs.declared.guards.ReadGuard.{ReadGuard}
use Rattle.pp_vault.specs.declared.guards.WriteGuard.{WriteGuard}
use Rattle.pp_vault.specs.declared.guards.Guard.{Guard}
use Rattle.pp_vault.specs.declared.guards.Guard.TheVariants.{Pin, Read, Write, Bundle}
use Rattle.pp_vault.specs.Parts.{Parts}
use Rattle.pp_vault.specs.Events.{Refuses}
use Rattle.pp_vault.specs.Fits.{latch_call}
use Rattle.pp_vault.specs.Uses.{LatchesShared, LatchesExclusive, UnlatchesShared, UnlatchesExclusive}
use Rattle.pp_play.specs.Guarding.{unlatch_with, ChangesGuard}

module _ (old new : Parts) (x y : Session) where
  pub shared : (g : PinGuard) (h : ReadGuard) → LatchesShared old x g new y h
      → ChangesGuard old (latch_call mode.S x.worker g.worker g.slot g.page) x.worker g.slot new y (Read h)
  shared g h did =
      record {
        does = did.does;
        session_fits = did.session;
        guard_fits = λ s st. record {
          worker = did.guard.worker;
          of_slot = did.same.0;
          held = subst (λ k. held_of s x.worker k ≡ Some (h.page, S)) did.same.0 (did.guard.held s st);
          mark = did.guard.mark s st;
        };
      }

  pub exclusive : (g : PinGuard) (h : WriteGuard) → LatchesExclusive old x g new y h
      → ChangesGuard old (latch_call mode.X x.worker g.worker g.slot g.page) x.worker g.slot new y (Write h)
  exclusive g h did =
      record {
        does = did.does;
        session_fits = did.session;
        guard_fits = λ s st. record {
          worker = did.guard.worker;
          of_slot = did.same.0;
          held = subst (λ k. held_of s x.worker k ≡ Some (h.page, X)) did.same.0 (did.guard.held s st);
          mark = did.guard.mark s st;
          head = did.guard.head;
          long = did.guard.long;
        };
      }

  pub shared_off : (g : ReadGuard) (h : PinGuard) → UnlatchesShared old x g new y h
      → ChangesGuard old (unlatch_with old x (Read g)) x.worker g.slot new y (Pin h)
  shared_off g h did =
      record {
        does = did.does;
        session_fits = did.session;
        guard_fits = λ s st. record {
          worker = did.guard.worker;
          of_slot = did.same.0;
          held = subst (λ k. held_of s x.worker k ≡ Some (h.page, Free)) did.same.0 (did.guard.held s st);
        };
      }

  pub exclusive_off : (g : WriteGuard) (h : PinGuard) → UnlatchesExclusive old x g new y h
      → ChangesGuard old (unlatch_with old x (Write g)) x.worker g.slot new y (Pin h)
  exclusive_off g h did =
      record {
        does = did.does;
        session_fits = did.session;
        guard_fits = λ s st. record {
          worker = did.guard.worker;
          of_slot = did.same.0;
          held = subst (λ k. held_of s x.worker k ≡ Some (h.page, Free)) did.same.0 (did.guard.held s st);
        };
      }

-- A guard that isn't of a latch is a stranger's.
pub none_latched : (v : Parts) (x : Session) (g : Guard) → ((h : ReadGuard) → g ≡ Read h → ⊥)
    → ((h : WriteGuard) → g ≡ Write h → ⊥) → Refuses v (unlatch_with v x g) Stranger
none_latched v x (Pin g) shared exclusive s st = refl
none_latched v x (Read g) shared exclusive s st = absurd (shared g refl)
none_latched v x (Write g) shared exclusive s st = absurd (exclusive g refl)
none_latched v x (Bundle g) shared exclusive s st = refl
