-- Runs over one pool are its lives.
use Rattle.std.proofs.Common.{◌≡◌, ◌∙◌, List, [], ◌∷◌, ◌++◌, refl, sym, ap, subst}
use Rattle.pp_cert.specs.Accepted.{Acceptance}
use Rattle.pp_core.specs.Opening.{kept_of}
use Rattle.pp_model.specs.declared.event.Event.{Event}
use Rattle.pp_model.specs.Pool.{State, opening}
use Rattle.pp_model.specs.Lives.{Life, IsLife, AreLives, after_lives, life_end}
use Rattle.pp_model.specs.Renewing.{renewed}
use Rattle.pp_settings.specs.Settings.{Configuration}
use Rattle.pp_report.specs.Audits.{IsOver}
use Rattle.pp_report.specs.Lives.{AreWholeJournals, journals_of, plans_of}
use Rattle.pp_run.specs.Rested.{Rested, opening_of}
use Rattle.pp_run.specs.RunLives.{HasLived, NewHasNotLived, RunsAreLives}
use Rattle.pp_run.proofs.Ran.{opened_new}

after_one_more : (o : State) (ls : List Life) (l : Life)
    → after_lives o (ls ++ l ∷ []) ≡ renewed (life_end (after_lives o ls) l)
after_one_more o [] l = refl
after_one_more o (x ∷ ls) l = after_one_more (renewed (life_end o x)) ls l

one_more : (o : State) (ls : List Life) (l : Life) → AreLives o ls → IsLife (after_lives o ls) l → AreLives o (ls ++ l ∷ [])
one_more o [] l are is = (is, tt)
one_more o (x ∷ ls) l are is = (are.0, one_more (renewed (life_end o x)) ls l are.1 is)

pub new_has_not : NewHasNotLived
new_has_not c p of_settings began = record { over = tt; next = opened_new (kept_of c) p of_settings began }

pub goes_on : RunsAreLives
goes_on c lives p q l lived is back = record {
  over = one_more (opening (kept_of c)) lives l lived.over (subst (λ s. IsLife s l) lived.next is);
  next = back.opens ∙ (ap (λ s. renewed (life_end s l)) lived.next ∙ sym (after_one_more (opening (kept_of c)) lives l));
}

pub whole_journals : (c : Configuration) (lives : List Life) (p : Rested) (plans : List Acceptance)
    (journals : List (List Event)) (last : List Event) → HasLived c lives p → journals_of lives ≡ journals
    → IsLife (opening_of p) (record { plans = plans; journal = last })
    → IsOver plans (life_end (opening_of p) (record { plans = plans; journal = last }))
    → AreWholeJournals c (plans_of lives ++ plans) journals last
whole_journals c lives p plans journals last lived are life over = record {
  lives = lives;
  rest = plans;
  journals_are = sym are;
  whole = record {
    are_true = record {
      over = lived.over;
      is_true = (subst (λ s. IsLife s (record { plans = plans; journal = last })) lived.next life).is_true;
      plans_are = refl;
    };
    over = subst (λ s. IsOver plans (life_end s (record { plans = plans; journal = last }))) lived.next over;
  };
}
