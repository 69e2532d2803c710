-- What a crash may leave behind a log and with check sums.
use Rattle.std.proofs.Common.{◌≡◌, ◌≢◌, ℕ, zero, suc, ◌<◌, ◌≤◌, Bool, true, List, [], ◌∷◌, take, length, refl, sym, ◌∙◌, ap, inl, inr, subst, arith}
use Rattle.std.specs.Prelude.{Ok, Err, None, slice_get}
use Rattle.std.proofs.lemmas.Bool.{cases_lt}
use Rattle.std.proofs.lemmas.Option.{slice_get_past}
use Rattle.std.proofs.lemmas.List.{length-take}
use Rattle.std.proofs.Math.Seq.{take-append_seam}
use Rattle.pp_device.specs.Answers.{Answer}
use Rattle.pp_durable.specs.Syncing.{SyncAnswer}
use Rattle.pp_durable.specs.Ahead.{WritesOnce}
use Rattle.pp_durable.specs.Checked.{is_as_long, sum_bytes, with_sum}
use Rattle.pp_durable.specs.Crash.{IsTorn, IsDurable, AheadIsDurable, CheckedIsDurable}
use Rattle.pp_durable.proofs.HonestLemmas.{by_length, as-long, front-same, read-inside, write-inside}

-- An image that stays is torn between itself and another.
torn-old : (old new : List ℕ) → IsTorn old new old
torn-old old new = record { each = λ k. inl refl }

-- ---- behind a log, by what it answered

once-others : {D : Type 0} {are : D → Bool} {reads : D → ℕ → List ℕ → Answer → List ℕ → D → Type 0}
    {writes : D → ℕ → List ℕ → Answer → D → Type 0} {syncs : D → SyncAnswer → D → Type 0} {kept : D → ℕ → List ℕ}
    {may_leave : D → ℕ → List ℕ → Type 0} → IsDurable are reads writes syncs kept may_leave
    → (told : SyncAnswer) (number newest after : ℕ) (d e : D) (page other : ℕ) (slice image : List ℕ) (answer : Answer)
    → are d ≡ true → WritesOnce writes told number newest d page slice answer e after → other ≢ page
    → may_leave e other image → may_leave d other image
once-others durable (Ok _) number newest after d e page other slice image answer is r ne left =
    durable.others d e page other slice image answer is r.0 ne left
once-others {may_leave = may_leave} durable (Err _) number newest after d e page other slice image answer is r ne left =
    subst (λ x. may_leave x other image) r.1 left

once-torn : {D : Type 0} {are : D → Bool} {reads : D → ℕ → List ℕ → Answer → List ℕ → D → Type 0}
    {writes : D → ℕ → List ℕ → Answer → D → Type 0} {syncs : D → SyncAnswer → D → Type 0} {kept : D → ℕ → List ℕ}
    {may_leave : D → ℕ → List ℕ → Type 0} → IsDurable are reads writes syncs kept may_leave
    → (told : SyncAnswer) (number newest after : ℕ) (d e : D) (page : ℕ) (slice image : List ℕ) (answer : Answer)
    → are d ≡ true → WritesOnce writes told number newest d page slice answer e after → may_leave e page image
    → (old : List ℕ) × may_leave d page old × IsTorn old slice image
once-torn durable (Ok _) number newest after d e page slice image answer is r left =
    durable.torn d e page slice image answer is r.0 left
once-torn {may_leave = may_leave} durable (Err _) number newest after d e page slice image answer is r left =
    (image, subst (λ x. may_leave x page image) r.1 left, torn-old image slice)

once-after : {D : Type 0} {are : D → Bool} {reads : D → ℕ → List ℕ → Answer → List ℕ → D → Type 0}
    {writes : D → ℕ → List ℕ → Answer → D → Type 0} {syncs : D → SyncAnswer → D → Type 0} {kept : D → ℕ → List ℕ}
    {may_leave : D → ℕ → List ℕ → Type 0} → IsDurable are reads writes syncs kept may_leave
    → (told : SyncAnswer) (number newest after : ℕ) (d e : D) (page : ℕ) (image : List ℕ) (answer : Answer)
    → are d ≡ true → WritesOnce writes told number newest d page image answer e after → are e ≡ true
once-after durable (Ok _) number newest after d e page image answer is r = durable.after_write d e page image answer is r.0
once-after {are = are} durable (Err _) number newest after d e page image answer is r = ap are r.1 ∙ is

pub ahead-durable : {D L : Type 0} (number_in : List ℕ → ℕ) (durable_to : L → ℕ) (forces : L → ℕ → SyncAnswer → L → Type 0)
    (reads : D → ℕ → List ℕ → Answer → List ℕ → D → Type 0) (writes : D → ℕ → List ℕ → Answer → D → Type 0)
    (syncs : D → SyncAnswer → D → Type 0) (may_leave : D → ℕ → List ℕ → Type 0)
    → AheadIsDurable number_in durable_to forces reads writes syncs may_leave
ahead-durable number_in durable_to forces reads writes syncs may_leave = λ are kept durable.
    record {
      synced = λ d e page image is r left. durable.synced d.device e.device page image is r.device_syncs left;
      sync_keeps = λ d e page answer is r. durable.sync_keeps d.device e.device page answer is r.device_syncs;
      sync_adds = λ d e page image answer is r left.
          durable.sync_adds d.device e.device page image answer is r.device_syncs left;
      read_adds = λ d e page other slice given image answer is r left.
          durable.read_adds d.device e.device page other slice given image answer is r.device_reads left;
      others = λ d e page other slice image answer is r ne left.
          once-others durable r.told (number_in slice) d.newest e.newest d.device e.device page other slice image answer is
          r.written ne left;
      torn = λ d e page slice image answer is r left.
          once-torn durable r.told (number_in slice) d.newest e.newest d.device e.device page slice image answer is r.written
          left;
      after_sync = λ d e answer is r. durable.after_sync d.device e.device answer is r.device_syncs;
      after_read = λ d e page slice given answer is r.
          durable.after_read d.device e.device page slice given answer is r.device_reads;
      after_write = λ d e page image answer is r.
          once-after durable r.told (number_in image) d.newest e.newest d.device e.device page image answer is r.written;
    }

-- ---- with check sums

-- A byte of a list's front.
front-get : {A : Type 0} (n k : ℕ) (xs : List A) → k < n → slice_get (take n xs) k ≡ slice_get xs k
front-get zero k xs below = absurd (omega arith)
front-get (suc n) k [] below = refl
front-get (suc n) zero (x ∷ xs) below = refl
front-get (suc n) (suc k) (x ∷ xs) below = front-get n k xs (omega arith)

front-past : {A : Type 0} (n k : ℕ) (xs : List A) → n ≤ k → slice_get (take n xs) k ≡ None
front-past n k xs past = slice_get_past (take n xs) k (omega (arith, length-take n xs))

-- The fronts of torn images are torn.
torn-front : (n : ℕ) (old new image : List ℕ) → IsTorn old new image → IsTorn (take n old) (take n new) (take n image)
torn-front n old new image torn =
    record {
      each = λ k.
          elim (cases_lt k n) [
            | inl below ↦
                elim (torn.each k) [
                  | inl same ↦ inl (front-get n k image below ∙ same ∙ sym (front-get n k old below))
                  | inr same ↦ inr (front-get n k image below ∙ same ∙ sym (front-get n k new below))
                ]
            | inr past ↦ inl (front-past n k image past ∙ sym (front-past n k old past))
          ];
    }

pub checked-durable : {D : Type 0} (reads : D → ℕ → List ℕ → Answer → List ℕ → D → Type 0)
    (writes : D → ℕ → List ℕ → Answer → D → Type 0) (syncs : D → SyncAnswer → D → Type 0)
    (may_leave : D → ℕ → List ℕ → Type 0) → CheckedIsDurable reads writes syncs may_leave
checked-durable reads writes syncs may_leave = λ are kept durable.
    record {
      synced = λ d e page bytes is r left.
          left.2 ∙ front-same e.page_bytes d.page_bytes left.0 (kept d.device page) (ap (λ x. x.page_bytes) r.others_are)
          (durable.synced d.device e.device page left.0 is r.device_syncs left.1);
      sync_keeps = λ d e page answer is r.
          front-same e.page_bytes d.page_bytes (kept e.device page) (kept d.device page) (ap (λ x. x.page_bytes) r.others_are)
          (durable.sync_keeps d.device e.device page answer is r.device_syncs);
      sync_adds = λ d e page bytes answer is r left. (
        left.0,
        durable.sync_adds d.device e.device page left.0 answer is r.device_syncs left.1,
        left.2 ∙ ap (λ n. take n left.0) (ap (λ x. x.page_bytes) r.others_are),
      );
      read_adds = λ d e page other slice given bytes answer is r left. (
        left.0,
        read-inside (λ x. may_leave x other left.0 → may_leave d.device other left.0) d e page slice given answer r (λ same. same)
            (λ buffer image told read. durable.read_adds d.device e.device page other buffer image left.0 told is read) left.1,
        left.2 ∙ ap (λ n. take n left.0) r.counts.page_bytes_are,
      );
      others = λ d e page other slice bytes answer is r ne left. (
        left.0,
        write-inside (λ x. may_leave x other left.0 → may_leave d.device other left.0) d e page slice answer r (λ same. same)
            (λ written. durable.others d.device e.device page other (with_sum slice) left.0 answer is written ne) left.1,
        left.2 ∙ ap (λ n. take n left.0) r.counts.page_bytes_are,
      );
      torn = λ d e page slice bytes answer is r left.
          by_length (is_as_long d (length slice))
          (λ long.
          let inside : (old : List ℕ) × may_leave d.device page old × IsTorn old (with_sum slice) left.0 =
          durable.torn d.device e.device page (with_sum slice) left.0 answer is (r.served long) left.1 in
          let whole : take d.page_bytes (with_sum slice) ≡ slice =
          ap (λ n. take n (with_sum slice)) (sym (as-long (length slice) d.page_bytes long))
          ∙ take-append_seam slice (sum_bytes slice) in
          let front : take d.page_bytes left.0 ≡ bytes = sym (left.2 ∙ ap (λ n. take n left.0) r.counts.page_bytes_are) in (
            take d.page_bytes inside.0,
            (inside.0, inside.1, refl),
            subst (λ b. IsTorn (take d.page_bytes inside.0) slice b) front
                (subst (λ s. IsTorn (take d.page_bytes inside.0) s (take d.page_bytes left.0)) whole
                (torn-front d.page_bytes inside.0 (with_sum slice) left.0 inside.2)),
          ))
          (λ short. (
            bytes,
            (
              left.0,
              subst (λ x. may_leave x page left.0) (r.refused short).1 left.1,
              left.2 ∙ ap (λ n. take n left.0) r.counts.page_bytes_are,
            ),
            torn-old bytes slice,
          ));
      after_sync = λ d e answer is r. durable.after_sync d.device e.device answer is r.device_syncs;
      after_read = λ d e page slice given answer is r.
          read-inside (λ x. are x ≡ true) d e page slice given answer r is
          (λ buffer image told read. durable.after_read d.device e.device page buffer image told is read);
      after_write = λ d e page image answer is r.
          write-inside (λ x. are x ≡ true) d e page image answer r is
          (λ written. durable.after_write d.device e.device page (with_sum image) answer is written);
    }
