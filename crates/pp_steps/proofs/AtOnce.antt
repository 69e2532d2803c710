-- What a reading that is begun or ended by one call comes to.
use Rattle.std.proofs.Common.{◌≡◌, ◌∙◌, ℕ, ◌+◌, ◌-◌, Bool, true, false, List, length, Option, Some, None, Result, Ok, refl, sym, ap, subst, inl, inr, arith, length-drop}
use Rattle.std.specs.Prelude.{◌==◌, ◌&&◌, nat_le, slice_set, IfSome, IfNone}
use Rattle.std.proofs.lemmas.Bool.{false≢true}
use Rattle.std.proofs.lemmas.Bool.Decides.{nat_tests}
use Rattle.pp_cert.specs.declared.note.Held.{Held}
use Rattle.pp_cert.specs.declared.note.Held.TheVariants.{S}
use Rattle.pp_model.specs.Pool.{State}
use Rattle.pp_core.specs.Queries.{held_of}
use Rattle.pp_plan.specs.declared.mode.Mode.TheVariants as mode
use Rattle.pp_plan.specs.declared.action.Ask.{Ask}
use Rattle.pp_plan.specs.declared.action.Ask.TheVariants as ask
use Rattle.pp_vault.specs.declared.guards.Guard.{Guard}
use Rattle.pp_vault.specs.declared.guards.ReadGuard.{ReadGuard}
use Rattle.pp_vault.specs.declared.stage.Hand.{Hand}
use Rattle.pp_vault.specs.declared.stage.Stage.{Stage}
use Rattle.pp_vault.specs.declared.stage.Stage.TheVariants as stage
use Rattle.pp_vault.specs.declared.tokens.Session.{Session}
use Rattle.pp_vault.specs.Calls.{after_call}
use Rattle.pp_vault.specs.Fits.{fix_slot, is_held_by, latch_call}
use Rattle.pp_vault.specs.Flushes.{IsImageOf}
use Rattle.pp_vault.specs.Holding.{is_free}
use Rattle.pp_vault.specs.Looks.{may_see, ShowsBody}
use Rattle.pp_vault.specs.Parts as vault
use Rattle.pp_vault.specs.Stages.{stage_worker}
use Rattle.pp_vault.specs.StandsFor.{StandsFor}
use Rattle.pp_hall.specs.declared.told.Told.{Told}
use Rattle.pp_hall.specs.Halls as halls
use Rattle.pp_hall.specs.Calls as hall
use Rattle.pp_steps.specs.declared.pass.Pass.{Pass}
use Rattle.pp_steps.specs.declared.reading.Begun.{Begun}
use Rattle.pp_steps.specs.declared.reading.Ended.{Ended}
use Rattle.pp_steps.specs.declared.seated.Seated.{Seated}
use Rattle.pp_steps.specs.Bytes.{CannotSee, lies_in}
use Rattle.pp_steps.specs.Parts.{Parts, IsSteps}
use Rattle.pp_steps.specs.declared.seats.Place.{Place}
use Rattle.pp_steps.specs.Reading.{can_get, may_begin, BeginsBy, Gets, EndsBy, Puts, Begins, Ends, GetIs, GetsIf, PutIs}
use Rattle.pp_steps.specs.Ringing.{AreRings}
use Rattle.pp_steps.specs.declared.error.AtOnceError.{AtOnceError}
use Rattle.pp_steps.specs.declared.rings.Rings.{Rings}
use Rattle.pp_steps.specs.declared.step.Step.{Step}
use Rattle.pp_steps.specs.Seats.{seated_at, with_seat}
use Rattle.pp_steps.specs.Sites.{SameOut}
use Rattle.pp_steps.proofs.Halls.{steps_kept}
use Rattle.pp_steps.proofs.Home.{changed_steps}
use Rattle.pp_steps.proofs.Places.{Stands, seat_changed, seated_same}

-- ---- what can be seen

-- A slot that holds the page latched S holds it so.
at_page : (b : Bool) → b ≡ true → (b && true) ≡ true
at_page true e = refl
at_page false e = cc

held_so : (page : ℕ) (o : Option (ℕ × Held)) → o ≡ Some (page, S) → is_held_by page S o ≡ true
held_so page o e =
    subst (λ (o : Option (ℕ × Held)). is_held_by page S o ≡ true) (sym e) (at_page (page == page) (grind (arith, nat_tests)))

-- A body that is shown has all bytes of a page but those of the head.
body_long : (v : vault.Parts) (s : State) (page : ℕ) (body : List ℕ) → StandsFor v s → ShowsBody v page body
    → length body ≡ v.page_bytes - 12
body_long v s page body stands h =
    let at : IsImageOf v s page h.image = h.shown.copy s stands in
    ap length h.body_is ∙ length-drop 12 h.image ∙ ap (λ n. n - 12) (stands.images.long at.frame h.image at.there)

-- The guard of a reading that was begun is one of the vault's, so bytes that lie in a body can be read.
pub can_see : (h h' : halls.Parts) (at at' : Stage) (page : ℕ) (got : ReadGuard) (told : Told) (from count : ℕ)
    → BeginsBy at h page got told h' at' → lies_in h.seating.vault.page_bytes from count ≡ true
    → CannotSee h'.seating.vault got from count → ⊥
can_see h h' at at' page got told from count b lies cannot =
    elim cannot [
      | inl none ↦ false≢true (sym (none state stands) ∙ fits)
      | inr short ↦
          let long : length short.0 ≡ h'.seating.vault.page_bytes - 12 =
          body_long h'.seating.vault state got.page short.0 stands short.1 in
          false≢true (sym short.2 ∙ ap (λ n. nat_le (from + count) n) (long ∙ ap (λ n. n - 12) bytes) ∙ lies)
    ]
  where
    r : hall.Reads h b.session page b.next got b.frame told h'
    r = b.reads

    same : h'.seating.vault ≡ r.seating.vault
    same = ap (λ (q : halls.Parts). q.seating.vault) r.settles.rest

    before : State
    before = r.reads.holds.kept.state

    state : State
    state = after_call before (latch_call mode.S r.reads.session.worker r.reads.guard.worker r.reads.guard.slot r.reads.guard.page before)

    there : StandsFor r.seating.vault state
    there = r.reads.latches.does.stands before r.reads.holds.kept.stands

    stands : StandsFor h'.seating.vault state
    stands = subst (λ (v : vault.Parts). StandsFor v state) (sym same) there

    fits : may_see got state ≡ true
    fits =
        subst (λ (w : ℕ). is_held_by got.page S (held_of state w got.slot) ≡ true) (sym r.reads.latches.guard.worker)
        (held_so got.page (held_of state r.reads.session.worker got.slot) (r.reads.latches.guard.held state there))

    bytes : h'.seating.vault.page_bytes ≡ h.seating.vault.page_bytes
    bytes =
        ap (λ (v : vault.Parts). v.page_bytes) same ∙ r.reads.latches.does.page_bytes ∙ r.reads.fixes.0.page_bytes

-- ---- of a pool

-- The same chairs are out.
gets_out : (h h' : halls.Parts) (x y : Session) (page frame : ℕ) (got : ReadGuard) (told : Told)
    → hall.Reads h x page y got frame told h' → SameOut h h'
gets_out h h' x y page frame got told r = record {
  peaks = ap (λ (q : halls.Parts). q.seating.peaks) r.settles.rest ∙ ap (λ q. q.peaks) r.rest;
  posts = ap (λ (q : halls.Parts). q.posts) r.settles.rest;
}

ends_out : (h h' : halls.Parts) (x y : Session) (off : ReadGuard) (mark : ℕ) (told : Told)
    → hall.EndsRead h x off y mark told h' → SameOut h h'
ends_out h h' x y off mark told r = record {
  peaks = ap (λ (q : halls.Parts). q.seating.peaks) r.settles.rest ∙ ap (λ q. q.peaks) r.rest;
  posts = ap (λ (q : halls.Parts). q.posts) r.settles.rest;
}

-- It is the same worker.
of_worker : (at new : Stage) (x y : Session) → at ≡ stage.In x → new ≡ stage.In y → y.worker ≡ x.worker
    → stage_worker new ≡ stage_worker at
of_worker at new x y was is same = ap stage_worker is ∙ ap (λ (w : ℕ). Some w) same ∙ sym (ap stage_worker was)

-- The pool's own facts stay.
pub begun_steps : (x : Parts) (pass : Pass) (s t : Seated) (h : halls.Parts) (page from : ℕ) (bytes : List ℕ) (begun : Begun)
    → IsSteps x → seated_at x.seats pass ≡ Some s → Begins s x.hall page from begun bytes h t
    → IsSteps (record x { hall = h; seats = with_seat x.seats pass t })
begun_steps x pass s t h page from bytes begun i there b =
    let g : Gets s.worker.hand x.hall page from bytes begun.told h b.hand = b.gets in
    let y : BeginsBy s.worker.hand.stage x.hall page g.got begun.told h b.hand.stage = g.begins in
    let r : hall.Reads x.hall y.session page y.next g.got y.frame begun.told h = y.reads in
    changed_steps (record x { hall = h }) pass s t
    (steps_kept x h (gets_out x.hall h y.session y.next page y.frame g.got begun.told r) i) there
    (ap (λ (q : Seated). q.worker.site) b.left_is)
    (ap (λ (q : Seated). stage_worker q.worker.hand.stage) b.left_is
    ∙ of_worker s.worker.hand.stage b.hand.stage y.session y.next y.acts y.stays
    (r.reads.latches.session.worker ∙ r.reads.fixes.1.session.worker))

pub ended_steps : (x : Parts) (pass : Pass) (s t : Seated) (h : halls.Parts) (ended : Ended)
    → IsSteps x → seated_at x.seats pass ≡ Some s → Ends s x.hall ended h t
    → IsSteps (record x { hall = h; seats = with_seat x.seats pass t })
ended_steps x pass s t h ended i there b =
    let p : Puts s.worker.hand x.hall ended.told h b.hand = b.puts in
    let y : EndsBy s.worker.hand.stage x.hall p.off ended.told h b.hand.stage = p.ends in
    let r : hall.EndsRead x.hall y.session p.off y.next y.mark ended.told h = y.ends in
    changed_steps (record x { hall = h }) pass s t
    (steps_kept x h (ends_out x.hall h y.session y.next p.off y.mark ended.told r) i) there
    (ap (λ (q : Seated). q.worker.site) b.left_is)
    (ap (λ (q : Seated). stage_worker q.worker.hand.stage) b.left_is
    ∙ of_worker s.worker.hand.stage b.hand.stage y.session y.next y.acts y.stays
    (r.ends.unfixes.session.worker ∙ r.ends.unlatches.session.worker))

-- ---- of one that is seated

-- It has begun a reading, or ended one.
abbrev pub HasBegun : List (Place Seated) → Pass → halls.Parts → (page from : ℕ) → Begun → List ℕ → halls.Parts → List (Place Seated)
    → Type 0
HasBegun places pass h page from begun bytes h' after =
    (s : Seated) × (seated_at places pass ≡ Some s)
    × (t : Seated) × Begins s h page from begun bytes h' t × (after ≡ with_seat places pass t)

abbrev pub HasEnded : List (Place Seated) → Pass → halls.Parts → Ended → halls.Parts → List (Place Seated) → Type 0
HasEnded places pass h ended h' after =
    (s : Seated) × (seated_at places pass ≡ Some s)
    × (t : Seated) × Ends s h ended h' t × (after ≡ with_seat places pass t)

if_some : {A : Type 0} (o : Option A) (P Q : A → Type 0) → ((a : A) → P a → Q a) → IfSome o P → IfSome o Q
if_some None P Q f i = tt
if_some (Some a) P Q f i = f a i

pub seat_begun : (inside places after : List (Place Seated)) (pass : Pass) (h h' : halls.Parts) (page from : ℕ) (bytes : List ℕ)
    (s r t : Seated) (p : Place Seated) (result : Option Begun) → Stands inside places pass s p → p.seated ≡ Some r
    → IfSome result (λ begun. Begins r h page from begun bytes h' t)
    → after ≡ slice_set inside pass.bell (record { turn = p.turn; seated = Some t })
    → IfSome result (λ begun. HasBegun places pass h page from begun bytes h' after)
seat_begun inside places after pass h h' page from bytes s r t p result k f begins put =
    let one : r ≡ s = seated_same inside places pass s r p k f in
    if_some result (λ begun. Begins r h page from begun bytes h' t)
    (λ begun. HasBegun places pass h page from begun bytes h' after)
    (λ begun b. (r, k.there ∙ ap (λ q. Some q) (sym one), t, b, seat_changed inside places after pass s t p k put)) begins

pub seat_ended : (inside places after : List (Place Seated)) (pass : Pass) (h h' : halls.Parts)
    (s r t : Seated) (p : Place Seated) (result : Option Ended) → Stands inside places pass s p → p.seated ≡ Some r
    → IfSome result (λ ended. Ends r h ended h' t)
    → after ≡ slice_set inside pass.bell (record { turn = p.turn; seated = Some t })
    → IfSome result (λ ended. HasEnded places pass h ended h' after)
seat_ended inside places after pass h h' s r t p result k f ends put =
    let one : r ≡ s = seated_same inside places pass s r p k f in
    if_some result (λ ended. Ends r h ended h' t) (λ ended. HasEnded places pass h ended h' after)
    (λ ended b. (r, k.there ∙ ap (λ q. Some q) (sym one), t, b, seat_changed inside places after pass s t p k put)) ends

-- The pool answers so.
pub get_begun : (x y : Parts) (pass : Pass) (page from : ℕ) (before bytes : List ℕ) (begun : Begun) (h : halls.Parts)
    (places : List (Place Seated)) (result : Result Step AtOnceError) (rings : Rings) (new : Parts) → x ≡ y
    → HasBegun x.seats pass x.hall page from begun bytes h places
    → lies_in x.hall.seating.vault.page_bytes from (length before) ≡ true → result ≡ Ok begun.step
    → AreRings x.line begun.told rings → new ≡ record x { hall = h; seats = places }
    → GetIs (seated_at y.seats pass) y pass page from before result rings bytes new
get_begun x y pass page from before bytes begun h places result rings new same b lies is told now =
    subst (λ (z : Parts). GetIs (seated_at z.seats pass) z pass page from before result rings bytes new) same
    (subst (λ (o : Option Seated). GetIs o x pass page from before result rings bytes new) (sym b.1)
    (subst (λ (l : Bool). GetsIf l x pass b.0 page from before result rings bytes new) (sym lies)
    (inl (record {
      begun = begun;
      hall = h;
      left = b.2;
      begins = b.3;
      result_is = is;
      rings_are = told;
      new_is = now ∙ ap (λ (ps : List (Place Seated)). record x { hall = h; seats = ps }) b.4;
    }))))

pub put_ended : (x y : Parts) (pass : Pass) (ended : Ended) (h : halls.Parts) (places : List (Place Seated))
    (result : Result Step AtOnceError) (rings : Rings) (new : Parts) → x ≡ y → HasEnded x.seats pass x.hall ended h places
    → result ≡ Ok ended.step → AreRings x.line ended.told rings → new ≡ record x { hall = h; seats = places }
    → PutIs (seated_at y.seats pass) y pass result rings new
put_ended x y pass ended h places result rings new same b is told now =
    subst (λ (z : Parts). PutIs (seated_at z.seats pass) z pass result rings new) same
    (subst (λ (o : Option Seated). PutIs o x pass result rings new) (sym b.1)
    (inl (record {
      ended = ended;
      hall = h;
      left = b.2;
      ends = b.3;
      result_is = is;
      rings_are = told;
      new_is = now ∙ ap (λ (ps : List (Place Seated)). record x { hall = h; seats = ps }) b.4;
    })))

-- What is so of the one in the place is so of the one with the pass.
pub seat_fact : {A : Type 0} (P : Seated → Type 0) (inside places : List (Place Seated)) (pass : Pass) (s r : Seated) (p : Place Seated)
    (result : Option A) → Stands inside places pass s p → p.seated ≡ Some r → IfNone result (P r)
    → IfNone result ((q : Seated) → seated_at places pass ≡ Some q → P q)
seat_fact P inside places pass s r p None k f fact = λ q e.
    let one : r ≡ s = seated_same inside places pass s r p k f in
    let other : s ≡ q = let same : Some s ≡ Some q = sym k.there ∙ e in cc in
    subst P (one ∙ other) fact
seat_fact P inside places pass s r p (Some a) k f fact = tt
