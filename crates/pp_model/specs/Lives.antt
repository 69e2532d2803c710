-- The lives of a pool. A life is what a pool does from one opening state on until it is at rest and is renewed. The first
-- one begins in the opening state of the settings, each other one where the pool was renewed after the life before.
use Rattle.std.specs.Prelude.{◌≡◌, None, List, [], ◌∷◌, All}
use Rattle.pp_cert.specs.Accepted.{Acceptance, IsAccepted}
use Rattle.pp_model.specs.declared.event.Event.{Event}
use Rattle.pp_model.specs.Pool.{State}
use Rattle.pp_model.specs.Journals.{replay, IsTrueFrom}
use Rattle.pp_model.specs.Renewing.{renew_error, renewed}

-- A life that is over: the plans that were submitted in it, and its journal.
pub record Life : Type 0 where
  pub plans : List Acceptance
  pub journal : List Event

-- The state in which a life ends that begins in this one.
abbrev pub life_end : State → Life → State
life_end o l = replay l.plans o l.journal

-- From the state o on the life's journal is true. Its plans were accepted by the checker, and are those that were submitted
-- in it, in order. The pool could be renewed at its end.
pub record IsLife (o : State) (l : Life) : Type 0 where
  pub accepted : All IsAccepted l.plans
  pub is_true : IsTrueFrom l.plans o l.journal
  pub submitted : (life_end o l).plans ≡ l.plans
  pub renews : renew_error (life_end o l) ≡ None

-- Each is a life, the first from this state on, and each other one from where the pool was renewed after the life before.
abbrev pub AreLives : State → List Life → Type 0
AreLives o [] = Unit {0}
AreLives o (l ∷ ls) = IsLife o l × AreLives (renewed (life_end o l)) ls

-- The opening state of the life that follows these.
abbrev pub after_lives : State → List Life → State
after_lives o [] = o
after_lives o (l ∷ ls) = after_lives (renewed (life_end o l)) ls
