-- The hands of a new vault fit.
use Rattle.std.proofs.Common.{◌≡◌, ◌∙◌, ℕ, zero, suc, ◌+◌, ◌<◌, Bool}
use Rattle.std.proofs.Common.{true, false, Option, Some, None, List, [], ◌∷◌, ◌++◌, length, replicate, nat_lt}
use Rattle.std.proofs.Common.{refl, sym, ap, subst, arith}
use Rattle.std.specs.Prelude.{slice_get, unwrap_or}
use Rattle.std.proofs.lemmas.Bool.Decides.{nat_tests}
use Rattle.std.proofs.lemmas.List.{length-replicate, get_or_append_left, length-append}
use Rattle.std.proofs.Math.Seq.{get_or-append_seam}
use Rattle.pp_model.specs.Pool.{Settings, opening}
use Rattle.pp_core.specs.Gathered.{bundle_in}
use Rattle.pp_core.specs.Queries.{idle_by, held_by}
use Rattle.pp_core.proofs.Alike.{same_flushed}
use Rattle.pp_vault.specs.declared.hands.Hands.{Hands}
use Rattle.pp_vault.specs.declared.stage.Hand.{Hand}
use Rattle.pp_vault.specs.declared.guards.Guard.{Guard}
use Rattle.pp_vault.specs.Parts.{Parts}
use Rattle.pp_vault.specs.StandsFor.{StandsFor}
use Rattle.pp_vault.specs.Fits.{IsEmpty}
use Rattle.pp_vault.specs.Holding.{placed}
use Rattle.pp_vault.specs.Stages.{idle_hand, AllIdle}
use Rattle.pp_vault.specs.Hands.{PlaceFits, HandFits, FlushingFits, HandsFit}
use Rattle.pp_vault.proofs.Placed.{none_there}
use Rattle.pp_vault.proofs.StillFits.{fits_all}

-- ---- workers that sit down one after the other

abbrev pub chair_of : ℕ → Hand
chair_of w = idle_hand (record { worker = w })

idle_at : (n : ℕ) (xs : List (Option Hand)) (all : AllIdle n xs) (w : ℕ) (b : Bool) → nat_lt w n ≡ b → w < n + 1
    → placed (xs ++ Some (chair_of n) ∷ []) w ≡ Some (chair_of w)
idle_at n xs all w true at low =
    let below : w < n = grind (arith, nat_tests) in
    get_or_append_left xs (Some (chair_of n) ∷ []) None w (omega (arith, below, all.long)) ∙ all.idle w below
idle_at n xs all w false at low =
    let is : w ≡ n = grind (arith, nat_tests) in
    ap (λ i. placed (xs ++ Some (chair_of n) ∷ []) i) (is ∙ sym all.long)
    ∙ get_or-append_seam xs (Some (chair_of n)) [] None ∙ ap (λ k. Some (chair_of k)) (sym is)

pub one_more : (n : ℕ) (xs : List (Option Hand)) → AllIdle n xs → AllIdle (n + 1) (xs ++ Some (chair_of n) ∷ [])
one_more n xs all =
    record {
      long = omega (arith, length-append xs (Some (chair_of n) ∷ []), all.long);
      idle = λ w low. idle_at n xs all w (nat_lt w n) refl low;
    }

-- ---- the opening state

idle_seat : {T : Type 0} (n w : ℕ) → w < n → slice_get {X = Option T} (replicate n None) w ≡ Some None
idle_seat zero w low = absurd (omega (arith, low))
idle_seat (suc n) zero low = refl
idle_seat (suc n) (suc w) low = idle_seat n w (omega (arith, low))

-- An idle worker's slots are empty.
opening_empty : (k : Settings) (w slot : ℕ) → slice_get (opening k).seats w ≡ Some None → IsEmpty (opening k) w slot
opening_empty k w slot seat =
    record {
      no_page = ap (λ o. held_by o slot) seat;
      no_bundle = ap (λ o. nat_lt 0 (length (bundle_in (unwrap_or o None) slot))) seat;
    }

opening_hand : (n : ℕ) (k : Settings) (w : ℕ) → w < k.workers → HandFits n (opening k) w (chair_of w)
opening_hand n k w low =
    let seat : slice_get (opening k).seats w ≡ Some None = idle_seat k.workers w low in
    record {
      stage = (refl, ap idle_by seat);
      places = length-replicate {A = Option Guard} 32 None;
      guards =
          λ slot.
          subst (λ o. PlaceFits n (opening k) w slot o) (sym (none_there 32 slot)) (opening_empty k w slot seat);
    }

pub opening_hands : (v : Parts) (k : Settings) (hands : Hands) → StandsFor v (opening k)
    → AllIdle k.workers hands.workers → hands.flushing ≡ None → HandsFit v hands
opening_hands v k hands stands all none s st =
    let seats : length s.seats ≡ k.workers =
    sym st.core.seats.size ∙ stands.core.seats.size ∙ length-replicate k.workers None in
    record {
      places = all.long ∙ sym seats;
      each =
          λ w low.
          let below : w < k.workers = omega (arith, low, seats) in
          record {
            hand = chair_of w;
            there = all.idle w below;
            fits = fits_all v (opening k) stands w (chair_of w) (opening_hand v.page_bytes k w below) s st;
          };
      flushing =
          subst (λ o. FlushingFits v.page_bytes s o) (sym none)
          (same_flushed v.core s (opening k) st.core stands.core);
    }
