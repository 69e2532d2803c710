-- Bytes of bodies, guards that are taken out and put back, and bytes that one has who is seated.
use Rattle.std.proofs.Common.{◌≡◌, ◌∙◌, ℕ, zero, suc, ◌+◌, ◌-◌, Bool, true, List, [], ◌∷◌, ◌++◌, length, take, drop, Option, Some, None, Result, Ok, Err, refl, sym, ap, subst, arith}
use Rattle.std.specs.Prelude.{IfSome, IfOk, IfErr, OnOk, slice_set}
use Rattle.std.proofs.lemmas.List.{append-nil, drop-drop, set-set, take-append-drop}
use Rattle.std.proofs.Math.Seq.{drop-length, take-length}
use borrow.Rule.Slice.PartMut.{put_mid}
use Rattle.pp_device.specs.Image.{body_of}
use Rattle.pp_vault.specs.Holding.{placed}
use Rattle.pp_vault.specs.Lending.{behind_head, with_body}
use Rattle.pp_vault.specs.declared.guards.Guard.{Guard}
use Rattle.pp_vault.specs.declared.guards.Guard.TheVariants as guard
use Rattle.pp_vault.specs.declared.guards.ReadGuard.{ReadGuard}
use Rattle.pp_vault.specs.declared.guards.WriteGuard.{WriteGuard}
use Rattle.pp_vault.specs.Parts as vault
use Rattle.pp_steps.specs.declared.error.PassError.{PassError}
use Rattle.pp_steps.specs.declared.error.PassError.TheVariants as pass_error
use Rattle.pp_steps.specs.declared.lent.Lent.{Lent}
use Rattle.pp_steps.specs.declared.pass.Pass.{Pass}
use Rattle.pp_steps.specs.declared.seats.Place.{Place}
use Rattle.pp_steps.specs.declared.seated.Seated.{Seated}
use Rattle.pp_steps.specs.Bytes.{Brings, CannotRead, CannotWrite, lies_in, part_of, with_part, with_bytes, ReadsGuard, ReadsShared, ReadsBody, WritesSlot, WritesSeat}
use Rattle.pp_steps.specs.Lending.{LendsSlot, LendsBody, CannotLend}
use Rattle.pp_steps.specs.Parts.{Parts}
use Rattle.pp_steps.specs.Seats.{seated_at, with_seat}
use Rattle.pp_steps.proofs.Places.{Stands, seat_changed, seated_same}

-- ---- guards

-- What is put where it is already changes nothing.
set_same : {T : Type 0} (places : List (Option T)) (k : ℕ) (one : T) → placed places k ≡ Some one
    → slice_set places k (Some one) ≡ places
set_same [] k one e = cc
set_same (p ∷ ps) zero one e = ap (λ q. q ∷ ps) (sym e)
set_same (p ∷ ps) (suc k) one e = ap (λ qs. p ∷ qs) (set_same ps k one e)

-- A guard was taken out, and another put into its place.
guard_put : {T : Type 0} (guards taken after : List (Option T)) (slot at : ℕ) (g : T)
    → taken ≡ slice_set guards slot None → at ≡ slot → after ≡ slice_set taken at (Some g)
    → after ≡ slice_set guards slot (Some g)
guard_put guards taken after slot at g out is put =
    put ∙ ap (λ k. slice_set taken k (Some g)) is ∙ ap (λ ps. slice_set ps slot (Some g)) out
    ∙ set-set guards slot None (Some g)

-- A guard was taken out, and put back.
pub guard_back : {T : Type 0} (guards taken after : List (Option T)) (slot at : ℕ) (g : T)
    → Some g ≡ placed guards slot → taken ≡ slice_set guards slot None → at ≡ slot → after ≡ slice_set taken at (Some g)
    → after ≡ guards
guard_back guards taken after slot at g was out is put =
    guard_put guards taken after slot at g out is put ∙ set_same guards slot g (sym was)

-- ---- bodies

-- An image with the body that it has.
same_body : (image : List ℕ) → with_body image (body_of image) ≡ image
same_body image =
    let whole : behind_head image (body_of image) ≡ image =
    ap (λ l. take 12 image ++ (body_of image ++ l)) (drop-length (body_of image))
    ∙ ap (λ l. take 12 image ++ l) (append-nil (body_of image)) ∙ take-append-drop 12 image in
    ap (λ l. take (length image) (l ++ drop (length l) image)) whole
    ∙ ap (λ l. take (length image) (image ++ l)) (drop-length image)
    ∙ ap (λ l. take (length image) l) (append-nil image) ∙ take-length image

-- Bytes were written into a body.
part_put : (body bytes : List ℕ) (from n : ℕ) → n ≡ length bytes → put_mid from n body bytes ≡ with_part body from bytes
part_put body bytes from n e =
    ap (λ l. take from body ++ (bytes ++ l)) (drop-drop n from body ∙ ap (λ m. drop (from + m) body) e)

-- ---- a slot

-- What was copied out of the body of the page that is latched S, or X.
pub reads_shared : (v : vault.Parts) (guards : List (Option Guard)) (slot from : ℕ) (g : ReadGuard) (given bytes : List ℕ)
    → placed guards slot ≡ Some (guard.Read g) → ReadsShared v g from given → bytes ≡ given
    → ReadsGuard v (placed guards slot) from bytes
reads_shared v guards slot from g given bytes is read same =
    subst (λ (o : Option Guard). ReadsGuard v o from bytes) (sym is)
    (subst (λ (l : List ℕ). ReadsShared v g from l) (sym same) read)

pub reads_exclusive : (v : vault.Parts) (guards : List (Option Guard)) (slot from : ℕ) (g : WriteGuard) (body given bytes : List ℕ)
    → placed guards slot ≡ Some (guard.Write g) → body ≡ body_of g.image → given ≡ part_of body from (length given) → bytes ≡ given
    → ReadsGuard v (placed guards slot) from bytes
reads_exclusive v guards slot from g body given bytes is under e same =
    subst (λ (o : Option Guard). ReadsGuard v o from bytes) (sym is)
    (subst (λ (l : List ℕ). l ≡ part_of (body_of g.image) from (length l)) (sym same)
    (e ∙ ap (λ l. part_of l from (length given)) under))

-- The page that is latched X has other bytes, and its guard is back.
pub writes_slot : (guards taken after : List (Option Guard)) (slot from : ℕ) (body given bytes : List ℕ) (g h : WriteGuard)
    → placed guards slot ≡ Some (guard.Write g) → taken ≡ slice_set guards slot None → g.slot ≡ slot
    → body ≡ body_of g.image → given ≡ bytes
    → h ≡ record g { image = with_body g.image (put_mid from (from + length bytes - from) body given) }
    → after ≡ slice_set taken h.slot (Some (guard.Write h)) → WritesSlot guards slot from bytes after
writes_slot guards taken after slot from body given bytes g h is out at under same other put =
    let n : from + length bytes - from ≡ length bytes = omega arith in
    let whole : h ≡ with_bytes g from bytes =
    other
    ∙ ap (λ l. record g { image = with_body g.image (put_mid from (from + length bytes - from) l given) }) under
    ∙ ap (λ l. record g { image = with_body g.image (put_mid from (from + length bytes - from) (body_of g.image) l) }) same
    ∙ ap (λ l. record g { image = with_body g.image l }) (part_put (body_of g.image) bytes from (from + length bytes - from) n) in
    record {
      g = g;
      there = is;
      new_is =
          guard_put guards taken after slot h.slot (guard.Write h) out (ap (λ (w : WriteGuard). w.slot) whole ∙ at) put
          ∙ ap (λ w. slice_set guards slot (Some (guard.Write w))) whole;
    }

-- The page keeps its bytes, and its guard is back.
pub keeps_slot : (guards taken after : List (Option Guard)) (slot : ℕ) (body : List ℕ) (g h : WriteGuard)
    → placed guards slot ≡ Some (guard.Write g) → taken ≡ slice_set guards slot None → g.slot ≡ slot
    → body ≡ body_of g.image → h ≡ record g { image = with_body g.image body }
    → after ≡ slice_set taken h.slot (Some (guard.Write h)) → after ≡ guards
keeps_slot guards taken after slot body g h is out at under other put =
    let whole : h ≡ g =
    other ∙ ap (λ l. record g { image = with_body g.image l }) under
    ∙ ap (λ l. record g { image = l }) (same_body g.image) in
    guard_back guards taken after slot g.slot (guard.Write g) (sym is) out at
    (put ∙ ap (λ (w : WriteGuard). slice_set taken w.slot (Some (guard.Write w))) whole)

-- ---- one that is seated

-- Its device has these bytes.
abbrev pub Brought : List (Place Seated) → Pass → List ℕ → List (Place Seated) → Result (Unit {0}) PassError → Type 0
Brought places pass bytes after brought =
    (s : Seated) × (seated_at places pass ≡ Some s)
    × (t : Seated) × Brings s bytes brought t × (after ≡ with_seat places pass t)

pub seat_brought : (inside places after : List (Place Seated)) (pass : Pass) (bytes : List ℕ) (s r t : Seated)
    (p : Place Seated) (came : Result (Unit {0}) PassError) (result : Option (Result (Unit {0}) PassError))
    → Stands inside places pass s p → p.seated ≡ Some r → Brings r bytes came t
    → after ≡ slice_set inside pass.bell (record { turn = p.turn; seated = Some t }) → result ≡ Some came
    → IfSome result (Brought places pass bytes after)
seat_brought inside places after pass bytes s r t p came result k f brings put is =
    subst (λ (o : Option (Result (Unit {0}) PassError)). IfSome o (Brought places pass bytes after)) (sym is) (
      s,
      k.there,
      t,
      subst (λ (q : Seated). Brings q bytes came t) (seated_same inside places pass s r p k f) brings,
      seat_changed inside places after pass s t p k put,
    )

-- Bytes of a body of its were read, or can't be read.
abbrev pub HasRead : vault.Parts → List (Place Seated) → Pass → (slot from count : ℕ) → List ℕ
    → Result (Unit {0}) PassError → Type 0
HasRead v places pass slot from count bytes read =
    (s : Seated) × (seated_at places pass ≡ Some s)
    × OnOk read (ReadsGuard v (placed s.worker.hand.guards slot) from bytes)
    × IfErr read (λ e. (e ≡ pass_error.WrongStep) × CannotRead v (placed s.worker.hand.guards slot) from count)

pub seat_read : (v : vault.Parts) (inside places : List (Place Seated)) (pass : Pass) (slot from count : ℕ)
    (given bytes : List ℕ) (s r : Seated) (p : Place Seated) (read : Result (Unit {0}) PassError)
    (result : Option (Result (Unit {0}) PassError)) → Stands inside places pass s p → p.seated ≡ Some r
    → OnOk read (ReadsGuard v (placed r.worker.hand.guards slot) from given)
    → IfErr read (λ e. (e ≡ pass_error.WrongStep) × CannotRead v (placed r.worker.hand.guards slot) from count)
    → bytes ≡ given → result ≡ Some read → IfSome result (HasRead v places pass slot from count bytes)
seat_read v inside places pass slot from count given bytes s r p read result k f reads why same is =
    let one : r ≡ s = seated_same inside places pass s r p k f in
    subst (λ (o : Option (Result (Unit {0}) PassError)). IfSome o (HasRead v places pass slot from count bytes)) (sym is)
    (subst (λ (l : List ℕ). HasRead v places pass slot from count l read) (sym same)
    (r, k.there ∙ ap (λ q. Some q) (sym one), reads, why))

-- Whether the body of a page of the one with this pass is lent.
abbrev pub HasLent : vault.Parts → List (Place Seated) → Pass → (slot : ℕ) → Result Lent PassError → Type 0
HasLent v places pass slot lent =
    (s : Seated) × (seated_at places pass ≡ Some s)
    × IfOk lent (LendsSlot v (placed s.worker.hand.guards slot))
    × IfErr lent (λ e. (e ≡ pass_error.WrongStep) × CannotLend v (placed s.worker.hand.guards slot))

pub seat_lent : (v : vault.Parts) (inside places : List (Place Seated)) (pass : Pass) (slot : ℕ) (s r : Seated) (p : Place Seated)
    (lent : Result Lent PassError) (result : Option (Result Lent PassError)) → Stands inside places pass s p → p.seated ≡ Some r
    → IfOk lent (LendsSlot v (placed r.worker.hand.guards slot))
    → IfErr lent (λ e. (e ≡ pass_error.WrongStep) × CannotLend v (placed r.worker.hand.guards slot))
    → result ≡ Some lent → IfSome result (HasLent v places pass slot)
seat_lent v inside places pass slot s r p lent result k f lends why is =
    let one : r ≡ s = seated_same inside places pass s r p k f in
    subst (λ (o : Option (Result Lent PassError)). IfSome o (HasLent v places pass slot)) (sym is)
    (r, k.there ∙ ap (λ q. Some q) (sym one), lends, why)

-- The pool lends what one has who is seated in it.
pub lent_in : (x now : Parts) (pass : Pass) (slot : ℕ) (lent : Result Lent PassError) → x ≡ now
    → HasLent x.hall.seating.vault x.seats pass slot lent → IfOk lent (LendsBody now pass slot)
lent_in x now pass slot (Ok one) same h =
    subst (λ (y : Parts). LendsBody y pass slot one) same (record { seated = h.0; there = h.1; lends = h.2 })
lent_in x now pass slot (Err e) same h = tt

-- The same one, with these guards.
abbrev pub guarded : Seated → List (Option Guard) → Seated
guarded s guards = record s { worker = record s.worker { hand = record s.worker.hand { guards = guards } } }

on_ok : (r : Result (Unit {0}) PassError) (P Q : Type 0) → (P → Q) → OnOk r P → OnOk r Q
on_ok (Ok u) P Q f p = f p
on_ok (Err e) P Q f p = tt

-- Why they can't be written.
abbrev pub HasNotWritten : List (Place Seated) → Pass → (slot from count : ℕ) → Result (Unit {0}) PassError → Type 0
HasNotWritten places pass slot from count written =
    (s : Seated) × (seated_at places pass ≡ Some s)
    × IfErr written (λ e. CannotWrite (placed s.worker.hand.guards slot) from count e)

pub seat_unwritten : (inside places : List (Place Seated)) (pass : Pass) (slot from count : ℕ) (s r : Seated)
    (p : Place Seated) (written : Result (Unit {0}) PassError) (result : Option (Result (Unit {0}) PassError))
    → Stands inside places pass s p → p.seated ≡ Some r
    → IfErr written (λ e. CannotWrite (placed r.worker.hand.guards slot) from count e) → result ≡ Some written
    → IfSome result (HasNotWritten places pass slot from count)
seat_unwritten inside places pass slot from count s r p written result k f why is =
    let one : r ≡ s = seated_same inside places pass s r p k f in
    subst (λ (o : Option (Result (Unit {0}) PassError)). IfSome o (HasNotWritten places pass slot from count)) (sym is)
    (r, k.there ∙ ap (λ q. Some q) (sym one), why)

-- Bytes of a body of its were written.
pub seat_written : (inside places after : List (Place Seated)) (pass : Pass) (slot from : ℕ) (bytes : List ℕ)
    (guards : List (Option Guard)) (s r : Seated) (p : Place Seated) (written : Result (Unit {0}) PassError)
    (result : Option (Result (Unit {0}) PassError)) → Stands inside places pass s p → p.seated ≡ Some r
    → OnOk written (WritesSlot r.worker.hand.guards slot from bytes guards)
    → after ≡ slice_set inside pass.bell (record { turn = p.turn; seated = Some (guarded r guards) })
    → result ≡ Some written
    → IfSome result (λ written. OnOk written (WritesSeat places pass slot from bytes after))
seat_written inside places after pass slot from bytes guards s r p written result k f writes put is =
    let same : r ≡ s = seated_same inside places pass s r p k f in
    subst (λ (o : Option (Result (Unit {0}) PassError)).
    IfSome o (λ written. OnOk written (WritesSeat places pass slot from bytes after))) (sym is)
    (on_ok written (WritesSlot r.worker.hand.guards slot from bytes guards) (WritesSeat places pass slot from bytes after)
    (λ (w : WritesSlot r.worker.hand.guards slot from bytes guards). record {
      seated = r;
      there = k.there ∙ ap (λ q. Some q) (sym same);
      left = guarded r guards;
      writes = w;
      rest = refl;
      new_is = seat_changed inside places after pass s (guarded r guards) p k put;
    }) writes)

-- ---- the pool

-- The one with the pass has the bytes.
pub brought_in : (x y : Parts) (pass : Pass) (bytes : List ℕ) (brought : Result (Unit {0}) PassError)
    (seats : List (Place Seated)) → x ≡ y → Brought x.seats pass bytes seats brought → (s : Seated)
    → seated_at y.seats pass ≡ Some s
    → (t : Seated) × Brings s bytes brought t × (record x { seats = seats } ≡ record y { seats = with_seat y.seats pass t })
brought_in x y pass bytes brought seats same b s e =
    let there : seated_at y.seats pass ≡ Some b.0 = ap (λ (z : Parts). seated_at z.seats pass) (sym same) ∙ b.1 in
    let one : b.0 ≡ s = cc in (
      b.2,
      subst (λ (q : Seated). Brings q bytes brought b.2) one b.3,
      ap (λ l. record x { seats = l }) b.4
          ∙ ap (λ (z : Parts). record z { seats = with_seat z.seats pass b.2 }) same,
    )

-- Bytes of a body were read.
pub read_in : (x y : Parts) (pass : Pass) (slot from count : ℕ) (bytes : List ℕ) (read : Result (Unit {0}) PassError) → x ≡ y
    → HasRead x.hall.seating.vault x.seats pass slot from count bytes read → length bytes ≡ count
    → lies_in x.hall.seating.vault.page_bytes from count ≡ true → OnOk read (ReadsBody y pass slot from bytes)
read_in x y pass slot from count bytes read same h long lies =
    on_ok read (ReadsGuard x.hall.seating.vault (placed h.0.worker.hand.guards slot) from bytes)
    (ReadsBody y pass slot from bytes)
    (λ r. subst (λ (z : Parts). ReadsBody z pass slot from bytes) same (record {
      seated = h.0;
      there = h.1;
      lies = subst (λ n. lies_in x.hall.seating.vault.page_bytes from n ≡ true) (sym long) lies;
      reads = r;
    })) h.2
