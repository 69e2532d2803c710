-- A book after a renewal.
use Rattle.std.proofs.Common.{◌≡◌, ◌∙◌, ◌≤◌, ◌*◌, ℕ, List, [], refl, sym, ap, subst, arith}
use Rattle.pp_settings.specs.Layout.{Geometry}
use Rattle.pp_settings.specs.declared.span.Span.TheVariants.{Bounded}
use Rattle.pp_model.specs.declared.event.Event.{Event}
use Rattle.pp_model.specs.Pool.{State, Settings}
use Rattle.std.specs.Prelude.{All}
use Rattle.pp_cert.specs.Accepted.{IsAccepted}
use Rattle.pp_model.specs.Lives.{IsLife}
use Rattle.pp_model.specs.Renewing.{renewed}
use Rattle.pp_model.specs.Reached.{IsReached}
use Rattle.pp_model.proofs.Rest.{bound_renews}
use Rattle.pp_core.specs.Parts.{Parts as Core}
use Rattle.pp_core.specs.StandsFor as core
use Rattle.pp_outset.specs.Outsets.{Outset, outset_of, opens_with, HasRoomFor}
use Rattle.pp_outset.proofs.Beginning.{next_begins, has_room}
use Rattle.pp_vault.specs.Parts as vault
use Rattle.pp_vault.specs.Renewals as vault_renewals
use Rattle.pp_vault.specs.StandsFor.{StandsFor}
use Rattle.pp_settings.specs.declared.span.Span.{Span}
use Rattle.pp_core.specs.Renewals.{kept_plans}
use Rattle.pp_pool.specs.Parts.{Parts, settings_of, plans_of, opening_of, state_of}
use Rattle.pp_pool.specs.Books.{IsBook}
use Rattle.pp_pool.proofs.Growing.{Leads, plans_are, state_settings, book_is, state_is}

-- The book whose vault is renewed, with an empty journal, and the outset that the vault's core leaves.
module _ (b : Parts) (k : IsBook b) (v : vault.Parts) (r : vault_renewals.Renews b.vault v) where
  stands : StandsFor v (renewed (state_of b))
  stands = r.stands (state_of b) k.stands

  -- What is over is a life.
  pub is_life : IsLife (opening_of b) (record { plans = plans_of b; journal = b.journal })
  is_life = record {
    accepted = subst (All IsAccepted) (sym (plans_are b k)) k.stands.core.reached.accepted;
    is_true = k.is_true;
    submitted = sym (plans_are b k);
    renews = r.allowed (state_of b) k.stands;
  }

  pub plans_gone : v.core.plans ≡ []
  plans_gone =
      ap (λ (x : vault.Parts). x.core.plans) r.parts
      ∙ ap (λ (x : Span). kept_plans x b.vault.core.plans) (k.stands.core.span ∙ ap (λ (j : Settings). j.span) (state_settings b))

  abbrev settings_by : Geometry → Settings
  settings_by layout = record { layout = layout; workers = b.workers; flushes = b.flushes; span = Bounded }

  pub settings_kept : settings_by v.core.layout ≡ settings_of b
  settings_kept = ap (λ (x : vault.Parts). settings_by x.core.layout) r.parts

  -- The outset has room for what the core leaves.
  pub has_room_for : (f : Core) → f ≡ v.core → HasRoomFor b.began f
  has_room_for f same =
      has_room (settings_of b) b.began f (renewed (state_of b)) k.opened
      (subst (λ x. core.StandsFor x (renewed (state_of b))) (sym same) stands.core)
      (ap (λ (j : Settings). j.layout) (state_settings b))

  module _ (f : Core) (same : f ≡ v.core) (o : Outset) (left : (s : State) → core.StandsFor f s → o ≡ outset_of s)
      (capacity : ℕ) (room : 2 * b.flushes ≤ capacity) where
    abbrev first : Parts
    first = record b { vault = v; journal = []; capacity = capacity; most = 0; began = o }

    pub is_outset : o ≡ outset_of (state_of b)
    is_outset =
        left (renewed (state_of b)) (subst (λ x. core.StandsFor x (renewed (state_of b))) (sym same) stands.core)

    opens : opens_with (state_of b).settings o ≡ renewed (state_of b)
    opens =
        ap (opens_with (state_of b).settings) is_outset
        ∙ sym (next_begins (state_of b) k.stands.core.reached (r.allowed (state_of b) k.stands))

    leads : Leads first (renewed (state_of b))
    leads = record {
      stands = stands;
      bounded = ap (λ (j : Settings). j.span) (state_settings b);
      workers = sym (ap (λ (j : Settings). j.workers) (state_settings b));
      flushes = sym (ap (λ (j : Settings). j.flushes) (state_settings b));
      opened = subst IsReached (sym opens) stands.core.reached;
      told = record { is_true = tt; leads_here = opens };
      room = omega (
        arith,
        room,
        bound_renews (state_of b) (r.allowed (state_of b) k.stands),
        ap (λ (j : Settings). j.flushes) (state_settings b),
      );
      most = refl;
    }

    module _ (journal : List Event) (empty : journal ≡ []) where
      abbrev pub book_renewed : Parts
      book_renewed = record b { vault = v; journal = journal; capacity = capacity; most = 0; began = o }

      leads_again : Leads book_renewed (renewed (state_of b))
      leads_again = subst (λ es. Leads (record first { journal = es }) (renewed (state_of b))) (sym empty) leads

      pub book_again : IsBook book_renewed
      book_again = book_is book_renewed (renewed (state_of b)) leads_again

      pub state_again : state_of book_renewed ≡ renewed (state_of b)
      state_again = state_is book_renewed (renewed (state_of b)) leads_again
