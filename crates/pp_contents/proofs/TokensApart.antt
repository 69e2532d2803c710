-- What a hand that fits says of the pages whose images it has, and that no page has two of them.
use Rattle.std.proofs.Common.{◌≡◌, ◌≢◌, ◌∙◌, ℕ, zero, suc, ◌+◌, ◌<◌, ◌≤◌, Bool, true, false, Option, Some, None, List, []}
use Rattle.std.proofs.Common.{◌∷◌, refl, sym, ap, subst, arith}
use Rattle.std.specs.Prelude.{slice_get, sum_by, if◌then◌else◌, ◌==◌, IsSome}
use Rattle.std.proofs.lemmas.Bool.{false≢true}
use Rattle.std.proofs.lemmas.List.Sums.{sum_by-cons}
use Rattle.pp_cert.specs.declared.note.Held.{Held}
use Rattle.pp_cert.specs.declared.note.Held.TheVariants.{Free, S, X}
use Rattle.pp_arc.specs.FourLists.{is_cached}
use Rattle.pp_model.specs.Pool.{writing, reading, Running, State, frame_of, frame_at}
use Rattle.pp_model.specs.Holders.{times}
use Rattle.pp_model.specs.Moves.{seat_of}
use Rattle.pp_model.specs.Reached.{IsReached}
use Rattle.pp_model.specs.Ready.{is_away, ready_at, frame_if}
use Rattle.pp_model.proofs.Framed.{framed, sent_one, loads_one, held_one}
use Rattle.pp_model.proofs.ReadyLaws.{exclusive_are_away}
use Rattle.pp_model.proofs.ReadyPages.{away_none, frameless_none, loading_is_away}
use Rattle.pp_model.proofs.Requests.{Which, same, other, which}
use Rattle.pp_model.proofs.Soundness.{sound}
use Rattle.pp_model.proofs.Sums.{sum_by-term, itself, times-cons}
use Rattle.pp_model.proofs.Totals.{weight, on_page, loads_of, seat_victims, victims_of}
use Rattle.pp_core.specs.Queries.{errand_of, held_of}
use Rattle.pp_core.proofs.AfterMoves.{after_moves}
use Rattle.pp_vault.specs.declared.tokens.Duty.{Duty}
use Rattle.pp_vault.specs.declared.tokens.Duty.TheVariants as duty
use Rattle.pp_vault.specs.declared.guards.Guard.{Guard}
use Rattle.pp_vault.specs.declared.guards.Guard.TheVariants.{Pin, Read, Write, Bundle}
use Rattle.pp_vault.specs.declared.guards.WriteGuard.{WriteGuard}
use Rattle.pp_vault.specs.declared.stage.Stage.{Stage}
use Rattle.pp_vault.specs.declared.stage.Stage.TheVariants.{Idle, In, Out, Back, Leaving}
use Rattle.pp_vault.specs.declared.stage.Hand.{Hand}
use Rattle.pp_vault.specs.Hands.{StageFits, PlaceFits, GuardFits, HandFits}
use Rattle.pp_vault.specs.Tokens.{IsOut}
use Rattle.pp_vault.specs.Duties.{duty_worker}
use Rattle.pp_vault.specs.Stages.{stage_worker}
use Rattle.pp_vault.specs.Fits.{is_gathered, IsEmpty}
use Rattle.pp_vault.specs.Holding.{placed}
use Rattle.pp_contents.specs.Content.{victim_of, victim_by}
use Rattle.pp_contents.proofs.AgreementPlaces.{stage_fits}
use Rattle.pp_vault.proofs.ErrandSteps.{is_writing, is_reading}
use Rattle.pp_vault.proofs.FitTests.{none_some, some_some, nat_is}
use Rattle.pp_vault.proofs.GoingBack.{HoldsSo, in_seat, writer_framed}
use Rattle.pp_contents.proofs.ImageSteps.{TokenIn, guarded, sent}

-- ---- a hand, in a state

-- For worker w this page is written back as a victim.
pub record Sends (s : State) (w page : ℕ) : Type 0 where
  pub slot : ℕ
  pub loaded : ℕ
  pub out : errand_of s w ≡ Some (slot, loaded, Some page)

-- What the guard of a slot is about is so in the state.
abbrev pub StandsSo : State → (w slot : ℕ) → Guard → Type 0
StandsSo s w slot (Pin g) = held_of s w slot ≡ Some (g.page, Free)
StandsSo s w slot (Read g) = held_of s w slot ≡ Some (g.page, S)
StandsSo s w slot (Write g) = held_of s w slot ≡ Some (g.page, X)
StandsSo s w slot (Bundle g) = is_gathered s w slot ≡ true

-- What the tokens of worker w's hand are about is so in the state.
pub record Stands (s : State) (w : ℕ) (hand : Hand) : Type 0 where
  pub worker : stage_worker hand.stage ≡ Some w
  pub slots : (slot : ℕ) (guard : Guard) → placed hand.guards slot ≡ Some guard
      → StandsSo s w slot guard
  pub sends : (page : ℕ) (image : List ℕ) → victim_by page hand.stage ≡ Some image → Sends s w page

-- ---- a hand that fits stands

-- The image of the page is the errand's, if the victim is the page.
pub victim_is : (page victim : ℕ) (image b : List ℕ) (w slot loaded : ℕ)
    → victim_of page (duty.Write w slot loaded victim) image ≡ Some b → (victim ≡ page) × (image ≡ b)
victim_is page victim image b w slot loaded e = go (victim == page) refl e
  where
    go : (t : Bool) → (victim == page) ≡ t → (if t then Some image else None) ≡ Some b → (victim ≡ page) × (image ≡ b)
    go true is f = (nat_is victim page is, some_some image image b f)
    go false is f = absurd (none_some f)

duty_sends : (s : State) (w page : ℕ) (image b : List ℕ) (d : Duty) → duty_worker d ≡ Some w → IsOut s d
    → victim_of page d image ≡ Some b → Sends s w page
duty_sends s w page image b (duty.Read v slot p) of out e = absurd (none_some e)
duty_sends s w page image b (duty.Write v slot p victim) of out e =
    let same : v ≡ w = some_some v v w of in
    let is = victim_is page victim image b v slot p e in
    record {
      slot = slot;
      loaded = p;
      out = subst (λ u. errand_of s u ≡ Some (slot, p, Some page)) same
          (out ∙ ap (λ q. Some (slot, p, Some q)) is.0);
    }
duty_sends s w page image b (duty.Flush p) of out e = absurd (none_some e)

stage_sends : (n : ℕ) (s : State) (w : ℕ) (x : Stage) → StageFits n s w x → (page : ℕ) (image : List ℕ)
    → victim_by page x ≡ Some image → Sends s w page
stage_sends n s w (Idle chair) fits page image e = absurd (none_some e)
stage_sends n s w (In session) fits page image e = absurd (none_some e)
stage_sends n s w (Out errand) fits page image e =
    duty_sends s w page errand.image image errand.duty fits.worker fits.out e
stage_sends n s w (Back returned) fits page image e =
    duty_sends s w page returned.image image returned.duty fits.worker fits.out e
stage_sends n s w (Leaving leaver) fits page image e = absurd (none_some e)

guard_stands : (n : ℕ) (s : State) (w slot : ℕ) (g : Guard) → GuardFits n s w slot g → StandsSo s w slot g
guard_stands n s w slot (Pin g) fits = fits.held
guard_stands n s w slot (Read g) fits = fits.held
guard_stands n s w slot (Write g) fits = fits.held
guard_stands n s w slot (Bundle g) fits = fits.gathered

pub stands : (n : ℕ) (s : State) (w : ℕ) (hand : Hand) → HandFits n s w hand → Stands s w hand
stands n s w hand fits =
    record {
      worker = stage_fits n s w hand.stage fits.stage;
      slots = λ slot g at. guard_stands n s w slot g (subst (PlaceFits n s w slot) at (fits.guards slot));
      sends = stage_sends n s w hand.stage fits.stage;
    }

-- The place of a slot that is empty has no guard.
guard_holds : (s : State) (w slot : ℕ) (g : Guard) → StandsSo s w slot g → IsEmpty s w slot → ⊥
guard_holds s w slot (Pin g) so empty = none_some (sym empty.no_page ∙ so)
guard_holds s w slot (Read g) so empty = none_some (sym empty.no_page ∙ so)
guard_holds s w slot (Write g) so empty = none_some (sym empty.no_page ∙ so)
guard_holds s w slot (Bundle g) so empty = false≢true (sym empty.no_bundle ∙ so)

pub empty_place : (s : State) (w : ℕ) (hand : Hand) → Stands s w hand → (slot : ℕ) → IsEmpty s w slot
    → placed hand.guards slot ≡ None
empty_place s w hand a slot empty = go (placed hand.guards slot) refl
  where
    go : (o : Option Guard) → placed hand.guards slot ≡ o → placed hand.guards slot ≡ None
    go None at = at
    go (Some g) at = absurd (guard_holds s w slot g (a.slots slot g at) empty)

-- An errand that was carried out is of the same worker, and stands as before it was.
pub stands_back : (n : ℕ) (s : State) (w : ℕ) (hand : Hand) (d : Duty) (image : List ℕ) (back : Stage)
    → HandFits n s w hand → duty_worker d ≡ Some w → IsOut s d → stage_worker back ≡ duty_worker d
    → ((page : ℕ) → victim_by page back ≡ victim_of page d image) → Stands s w (record hand { stage = back })
stands_back n s w hand d image back fits of out worker alike =
    record {
      worker = worker ∙ of;
      slots = (stands n s w hand fits).slots;
      sends = λ page b e. duty_sends s w page image b d of out (sym (alike page) ∙ e);
    }

-- ---- what is away isn't ready

-- Two places of a list weigh at most what all weigh.
two_places : {A : Type 0} (f : A → ℕ) (xs : List A) (i j : ℕ) (x y : A) → j ≢ i → slice_get xs i ≡ Some x
    → slice_get xs j ≡ Some y → f x + f y ≤ sum_by f xs
two_places f [] i j x y ne a b = cc
two_places f (z ∷ xs) zero zero x y ne a b = absurd (ne refl)
two_places f (z ∷ xs) zero (suc j) x y ne a b =
    let same : z ≡ x = cc in omega (arith, sum_by-cons f z xs, ap f same, sum_by-term f xs j y b)
two_places f (z ∷ xs) (suc i) zero x y ne a b =
    let same : z ≡ y = cc in omega (arith, sum_by-cons f z xs, ap f same, sum_by-term f xs i x a)
two_places f (z ∷ xs) (suc i) (suc j) x y ne a b =
    omega (arith, sum_by-cons f z xs, two_places f xs i j x y (λ e. ne (ap suc e)) a b)

module _ (s : State) (reached : IsReached s) where
  away_if : (away : Bool) (o : Option ℕ) (f : ℕ) → frame_if away o ≡ Some f → away ≡ true
  away_if true o f e = refl
  away_if false o f e = absurd (none_some e)

  -- A page that is held X.
  pub written_unready : (w slot page : ℕ) → held_of s w slot ≡ Some (page, X) → ready_at s page ≡ None
  written_unready w slot page e =
      let has : HoldsSo s w slot page X = in_seat s w slot page X (seat_of s w) refl e in
      subst (λ p. ready_at s p ≡ None) has.page_is
      (away_none s has.holding.page
      (away_if (is_away s has.holding.page) (frame_of s has.holding.page) (frame_at s has.holding.page)
      (exclusive_are_away s reached w slot has.by has.holding has.seat has.found has.held_is)))

  frame_none : (o : Option ℕ) → (IsSome o → ⊥) → o ≡ None
  frame_none None isnt = refl
  frame_none (Some f) isnt = absurd (isnt refl)

  -- A victim that is written back: it isn't cached, and has no frame.
  sends_one : (w page : ℕ) → Sends s w page → 0 < victims_of s page
  sends_one w page x =
      let at = is_writing s w x.slot x.loaded page x.out in
      sent_one s w at.running (writing x.slot x.loaded page) page (record { seat = at.seat; stage = at.stage }) refl

  sent_uncached : (w page : ℕ) → Sends s w page → is_cached s.lists page ≡ false
  sent_uncached w page x = ((sound s reached).away page (sends_one w page x)).0

  sent_frameless : (w page : ℕ) → Sends s w page → frame_of s page ≡ None
  sent_frameless w page x =
      frame_none (frame_of s page)
      (λ some. false≢true (sym (sent_uncached w page x) ∙ (framed s reached).cached page some))

  pub sent_unready : (w page : ℕ) → Sends s w page → ready_at s page ≡ None
  sent_unready w page x = frameless_none s page (sent_frameless w page x)

  -- A page that is read for a worker isn't ready, held by nobody, and written back for nobody.
  module _ (w slot page : ℕ) (out : errand_of s w ≡ Some (slot, page, None)) where
    loads_page : 0 < loads_of s page
    loads_page =
        let at = is_reading s w slot page out in
        loads_one s w at.running (reading slot page) page (record { seat = at.seat; stage = at.stage }) refl

    pub loaded_unready : ready_at s page ≡ None
    loaded_unready = away_none s page (loading_is_away s page loads_page)

    pub loaded_unheld : (v k : ℕ) (how : Held) → held_of s v k ≡ Some (page, how) → ⊥
    loaded_unheld v k how e =
        let has : HoldsSo s v k page how = in_seat s v k page how (seat_of s v) refl e in
        let one = subst (λ p. 0 < weight s (on_page p)) has.page_is
        (held_one s v has.by k has.holding has.seat has.found) in
        absurd (omega (arith, one, (sound s reached).fresh page loads_page))

    pub loaded_unsent : (v : ℕ) → Sends s v page → ⊥
    loaded_unsent v x = absurd (omega (arith, sends_one v page x, loads_page, (sound s reached).alone page))

  -- ---- no page has two

  sends_at : (w page : ℕ) (x : Sends s w page) (r : Running) → r.stage ≡ writing x.slot x.loaded page
      → times page (seat_victims (Some r)) ≡ 1
  sends_at w page x r e =
      ap (λ g. times page (seat_victims (Some (record r { stage = g })))) e
      ∙ omega (arith, times-cons page page [], itself page)

  pub one_sends : (v w page : ℕ) → Sends s v page → Sends s w page → v ≡ w
  one_sends v w page x y = go (which v w)
    where
      go : Which v w → v ≡ w
      go (same e k) = e
      go (other ne k) =
          let a = is_writing s v x.slot x.loaded page x.out in
          let b = is_writing s w y.slot y.loaded page y.out in
          absurd (omega (
            arith,
            two_places (λ o. times page (seat_victims o)) s.seats w v (Some b.running) (Some a.running) ne b.seat a.seat,
            sends_at v page x a.running a.stage,
            sends_at w page y b.running b.stage,
            (sound s reached).alone page,
          ))

  -- A page that is held X isn't written back.
  pub written_unsent : (v w slot page : ℕ) → held_of s w slot ≡ Some (page, X) → Sends s v page → ⊥
  written_unsent v w slot page e x =
      none_some (sym (sent_frameless v page x) ∙ writer_framed s reached w slot page e)

  -- ---- tokens of hands

  module _ (w : ℕ) (hand : Hand) (at : Stands s w hand) where
    pub writes : (slot page : ℕ) (g : WriteGuard) → placed hand.guards slot ≡ Some (Write g) → g.page ≡ page
        → held_of s w slot ≡ Some (page, X)
    writes slot page g there is = at.slots slot (Write g) there ∙ ap (λ p. Some (p, X)) is

    -- A page whose image a hand has isn't ready.
    pub token_unready : (page : ℕ) (image : List ℕ) → TokenIn hand page image → ready_at s page ≡ None
    token_unready page image (guarded slot g there is has) = written_unready w slot page (writes slot page g there is)
    token_unready page image (sent e) = sent_unready w page (at.sends page image e)

    pub token_unloaded : (v slot page : ℕ) (image : List ℕ) → errand_of s v ≡ Some (slot, page, None)
        → TokenIn hand page image → ⊥
    token_unloaded v slot page image out (guarded k g there is has) =
        loaded_unheld v slot page out w k X (writes k page g there is)
    token_unloaded v slot page image out (sent e) = loaded_unsent v slot page out w (at.sends page image e)

  -- Two hands that have an image of one page are one worker's.
  module _ (w u : ℕ) (hand and : Hand) (a : Stands s w hand) (b : Stands s u and) (page : ℕ) (one two : List ℕ) where
    pub token_worker : TokenIn hand page one → TokenIn and page two → w ≡ u
    token_worker (guarded k g there is has) (guarded l h place on had) =
        ((after_moves s reached).alone u l w k page (writes u and b l page h place on) X (λ e. absurd (cc))
        (writes w hand a k page g there is)).0
    token_worker (guarded k g there is has) (sent e) =
        absurd (written_unsent u w k page (writes w hand a k page g there is) (b.sends page two e))
    token_worker (sent e) (guarded l h place on had) =
        absurd (written_unsent w u l page (writes u and b l page h place on) (a.sends page one e))
    token_worker (sent e) (sent f) = one_sends w u page (a.sends page one e) (b.sends page two f)

  -- A hand has one image of a page.
  module _ (w : ℕ) (hand : Hand) (a : Stands s w hand) (page : ℕ) (one two : List ℕ) where
    guard_once : (k l : ℕ) (g h : WriteGuard) → k ≡ l → placed hand.guards k ≡ Some (Write g)
        → placed hand.guards l ≡ Some (Write h) → g.image ≡ h.image
    guard_once k l g h e f i =
        let both : ◌≡◌ {A = Option Guard} (Some (Write g)) (Some (Write h)) =
        sym f ∙ ap (placed hand.guards) e ∙ i in
        let same : g ≡ h = cc in
        ap (λ (x : WriteGuard). x.image) same

    pub token_once : TokenIn hand page one → TokenIn hand page two → one ≡ two
    token_once (guarded k g there is has) (guarded l h place on had) =
        let here = ((after_moves s reached).alone w l w k page (writes w hand a l page h place on) X (λ e. absurd (cc))
        (writes w hand a k page g there is)).1 in
        sym has ∙ guard_once k l g h here there place ∙ had
    token_once (guarded k g there is has) (sent e) =
        absurd (written_unsent w w k page (writes w hand a k page g there is) (a.sends page two e))
    token_once (sent e) (guarded l h place on had) =
        absurd (written_unsent w w l page (writes w hand a l page h place on) (a.sends page one e))
    token_once (sent e) (sent f) = some_some one one two (sym e ∙ f)
