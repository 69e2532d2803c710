-- A book in which nothing was done yet.
use Rattle.std.proofs.Common.{◌≡◌, ◌≤◌, ◌+◌, ℕ, List, [], sym, ap, subst, refl, arith}
use Rattle.pp_settings.specs.Settings.{Configuration}
use Rattle.pp_settings.specs.declared.span.Span.TheVariants.{Bounded}
use Rattle.pp_model.specs.declared.event.Event.{Event}
use Rattle.pp_model.specs.Pool.{State, opening}
use Rattle.pp_model.specs.Budget.{bound}
use Rattle.pp_core.specs.Opening.{kept_of}
use Rattle.pp_outset.specs.Outsets.{Outset, new_outset}
use Rattle.pp_vault.specs.Parts as vault
use Rattle.pp_vault.specs.StandsFor.{StandsFor}
use Rattle.pp_pool.specs.Parts.{Parts, settings_of}
use Rattle.pp_pool.specs.Books.{IsBook}
use Rattle.pp_pool.proofs.Growing.{Leads, kept_settings, book_is}

-- An empty journal leaves all room.
all_room : (n m : ℕ) → n ≤ m → 0 + n ≤ m
all_room n m h = omega (arith, h)

-- Its vault stands for the opening state of the settings, its outset is a new one, and it has room for what can come.
module _ (c : Configuration) (bounded : c.span ≡ Bounded) (v : vault.Parts) (st : StandsFor v (opening (kept_of c)))
    (workers flushes : ℕ) (crew : workers ≡ c.workers) (few : flushes ≡ c.flushes)
    (capacity : ℕ) (room : bound (opening (kept_of c)) ≤ capacity) where
  abbrev pub book_first : Parts
  book_first = record {
    vault = v;
    workers = workers;
    journal = [];
    capacity = capacity;
    most = 0;
    flushes = flushes;
    began = new_outset (kept_of c);
  }

  leads_first : Leads book_first (opening (kept_of c))
  leads_first = record {
    stands = st;
    bounded = bounded;
    workers = crew;
    flushes = few;
    opened = st.core.reached;
    told = record { is_true = tt; leads_here = refl };
    room = all_room (bound (opening (kept_of c))) capacity room;
    most = refl;
  }

  pub first_settings : settings_of book_first ≡ kept_of c
  first_settings = kept_settings v workers flushes (opening (kept_of c)) st bounded crew few

  module _ (journal : List Event) (empty : journal ≡ []) (began : Outset) (new : began ≡ new_outset (kept_of c)) where
    abbrev pub book_opened : Parts
    book_opened = record book_first { journal = journal; began = began }

    pub is_opened : IsBook book_opened
    is_opened =
        subst (λ o. IsBook (record book_first { journal = journal; began = o })) (sym new)
        (subst (λ es. IsBook (record book_first { journal = es })) (sym empty)
        (book_is book_first (opening (kept_of c)) leads_first))
