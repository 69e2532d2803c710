-- A list of moves, on the core's side and on the state's.
use Rattle.std.proofs.Common.{◌≡◌, ◌∙◌, ℕ, suc, ◌+◌, ◌<◌, ◌≤◌, List, [], ◌∷◌, ◌++◌, length, drop, drop-cons}
use Rattle.std.proofs.Common.{append_assoc}
use Rattle.std.proofs.Common.{append-nil, get_or, add-one, sym, ap, subst, arith}
use Rattle.std.proofs.lemmas.List.{drop_all}
use Rattle.pp_model.specs.declared.moves.Move.{Move}
use Rattle.pp_model.specs.declared.reply.Reply.{Reply}
use Rattle.pp_model.specs.Pool.{State}
use Rattle.pp_model.specs.Moves.{reply_of, next_of}
use Rattle.pp_model.specs.Runs.{replies_to, state_after}
use Rattle.pp_model.proofs.BoundLaws.{done_within}
use Rattle.pp_core.specs.Parts.{Parts}
use Rattle.pp_core.specs.StandsFor.{StandsFor, Moves}
use Rattle.pp_core.specs.Runs.{MovesAll}

-- For every state at the start there is one now, from which what is left leads where all of it leads.
abbrev pub Goes : Parts → List Move → List Reply → Parts → List Move → List Reply → Type 0
Goes old moves before new left now =
    (s : State) → StandsFor old s
    → (mid : State) × StandsFor new mid × (state_after mid left ≡ state_after s moves)
    × (now ++ replies_to mid left ≡ before ++ replies_to s moves) × (new.plans ≡ old.plans)

-- One move more.
pub goes_on : (old : Parts) (moves : List Move) (before : List Reply) (f g : Parts) (now : List Reply) (reply : Reply)
    (i : ℕ) (move d : Move) → i < length moves → move ≡ get_or moves i d → Goes old moves before f (drop i moves) now
    → Moves f move reply g → Goes old moves before g (drop (i + 1) moves) (now ++ reply ∷ [])
goes_on old moves before f g now reply i move d lt is goes step s st =
    let w = goes s st in
    let mid : State = w.0 in
    let left : drop i moves ≡ move ∷ drop (i + 1) moves =
    rw add-one (drop-cons moves i d lt ∙ ap (λ (m : Move). m ∷ drop (suc i) moves) (sym is)) in
    let told : reply ≡ reply_of mid move = step.replies mid w.1 in
    let rest = drop (i + 1) moves in (
      next_of mid move,
      step.stands mid w.1,
      ap (state_after mid) (sym left) ∙ w.2,
      append_assoc now (reply ∷ []) (replies_to (next_of mid move) rest)
          ∙ (ap (λ (r : Reply). now ++ (r ∷ replies_to (next_of mid move) rest)) told
          ∙ (ap (λ (ms : List Move). now ++ replies_to mid ms) (sym left) ∙ w.3)),
      step.plans mid w.1 ∙ w.4,
    )

-- None is left.
pub went : (old : Parts) (moves : List Move) (before : List Reply) (new : Parts) (now : List Reply) (i : ℕ)
    → length moves ≤ i → Goes old moves before new (drop i moves) now → MovesAll old moves before new now
went old moves before new now i le goes =
    let none : drop i moves ≡ [] = drop_all i moves le in
    let stands : (s : State) → StandsFor old s → StandsFor new (state_after s moves) =
    λ s st. let w = goes s st in subst (StandsFor new) (ap (state_after w.0) (sym none) ∙ w.2) w.1 in
    record {
      stands = stands;
      replies = λ s st.
          let w = goes s st in
          sym (append-nil now) ∙ (ap (λ (ms : List Move). now ++ replies_to w.0 ms) (sym none) ∙ w.3);
      plans = λ s st. (goes s st).4;
      within = λ s st. omega (arith, done_within s moves st.reached, st.budget, (stands s st).budget);
    }
