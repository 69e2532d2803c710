-- The code of an outset, by which proofs tell its values apart: each record is stored as its fields.
use Rattle.std.specs.Prelude.{ℕ, Bool, Option, List, refl}
use Rattle.std.specs.Coded.{Coded, code_by, coded×, coded_ℕ, coded_bool, coded_list, coded_option}
use Rattle.pp_arc.specs.FourLists.{FourLists}
use Rattle.pp_model.specs.Pool.{Note}
use Rattle.pp_outset.specs.Outsets.{Outset}

abbrev coded_lists : Coded FourLists
coded_lists =
    code_by (ℕ × (ℕ × (ℕ × (List ℕ × (List ℕ × (List ℕ × List ℕ))))))
    (coded× coded_ℕ (coded× coded_ℕ (coded× coded_ℕ (coded× (coded_list coded_ℕ) (coded× (coded_list coded_ℕ)
    (coded× (coded_list coded_ℕ) (coded_list coded_ℕ)))))))
    (λ l. (l.c, (l.pages, (l.target, (l.t1, (l.t2, (l.b1, l.b2)))))))
    (λ p. record {
      c = p.0;
      pages = p.1.0;
      target = p.1.1.0;
      t1 = p.1.1.1.0;
      t2 = p.1.1.1.1.0;
      b1 = p.1.1.1.1.1.0;
      b2 = p.1.1.1.1.1.1;
    })
    (λ _. refl)

abbrev coded_note : Coded Note
coded_note =
    code_by (Option ℕ × (Bool × Option ℕ)) (coded× (coded_option coded_ℕ) (coded× coded_bool (coded_option coded_ℕ)))
    (λ n. (n.frame, (n.dirty, n.mark))) (λ p. record { frame = p.0; dirty = p.1.0; mark = p.1.1 }) (λ _. refl)

abbrev pub coded_outset : Coded Outset
coded_outset =
    code_by (FourLists × List Note) (coded× coded_lists (coded_list coded_note)) (λ o. (o.lists, o.notes))
    (λ p. record { lists = p.0; notes = p.1 }) (λ _. refl)
