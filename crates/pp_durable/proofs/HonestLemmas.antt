-- What a device keeps, it keeps behind a log and with check sums.
use Rattle.std.proofs.Common.{◌≡◌, ◌≢◌, ℕ, Bool, true, false, List, take, length, refl, sym, ◌∙◌, ap, inl, inr, subst, rules}
use Rattle.std.specs.Prelude.{Ok, Err, ◌==◌}
use Rattle.std.proofs.Math.Seq.{take-append_seam}
use Rattle.pp_device.specs.declared.fault.Fault.{Fault}
use Rattle.pp_device.specs.Answers.{Answer}
use Rattle.pp_device.specs.Honest.{IsHonest}
use Rattle.pp_durable.specs.Syncing.{SyncAnswer}
use Rattle.pp_durable.specs.Ahead.{WritesOnce}
use Rattle.pp_durable.specs.Checked.{Checked, TakenAs, CheckedReads, CheckedWrites, is_as_long, sum_bytes, with_sum}
use Rattle.pp_durable.specs.Honest.{AheadIsHonest, CheckedIsHonest}

-- ---- behind a log, by what it answered

once-written : {D : Type 0} {are : D → Bool} {reads : D → ℕ → List ℕ → Answer → List ℕ → D → Type 0}
    {writes : D → ℕ → List ℕ → Answer → D → Type 0} {kept : D → ℕ → List ℕ} → IsHonest are reads writes kept
    → (told : SyncAnswer) (number newest after : ℕ) (d e : D) (page : ℕ) (image : List ℕ) → are d ≡ true
    → WritesOnce writes told number newest d page image (Ok tt) e after → kept e page ≡ image
once-written honest (Ok _) number newest after d e page image is r = honest.written d e page image is r.0
once-written honest (Err _) number newest after d e page image is r = let told = r.0 in cc

once-others : {D : Type 0} {are : D → Bool} {reads : D → ℕ → List ℕ → Answer → List ℕ → D → Type 0}
    {writes : D → ℕ → List ℕ → Answer → D → Type 0} {kept : D → ℕ → List ℕ} → IsHonest are reads writes kept
    → (told : SyncAnswer) (number newest after : ℕ) (d e : D) (page other : ℕ) (image : List ℕ) → are d ≡ true
    → WritesOnce writes told number newest d page image (Ok tt) e after → other ≢ page → kept e other ≡ kept d other
once-others honest (Ok _) number newest after d e page other image is r ne = honest.others d e page other image is r.0 ne
once-others honest (Err _) number newest after d e page other image is r ne = let told = r.0 in cc

once-failed : {D : Type 0} {are : D → Bool} {reads : D → ℕ → List ℕ → Answer → List ℕ → D → Type 0}
    {writes : D → ℕ → List ℕ → Answer → D → Type 0} {kept : D → ℕ → List ℕ} → IsHonest are reads writes kept
    → (told : SyncAnswer) (number newest after : ℕ) (d e : D) (page other : ℕ) (image : List ℕ) (fault : Fault)
    → are d ≡ true → WritesOnce writes told number newest d page image (Err fault) e after
    → kept e other ≡ kept d other
once-failed honest (Ok _) number newest after d e page other image fault is r =
    honest.failed d e page other image fault is r.0
once-failed {kept = kept} honest (Err _) number newest after d e page other image fault is r =
    ap (λ x. kept x other) r.1

once-after : {D : Type 0} {are : D → Bool} {reads : D → ℕ → List ℕ → Answer → List ℕ → D → Type 0}
    {writes : D → ℕ → List ℕ → Answer → D → Type 0} {kept : D → ℕ → List ℕ} → IsHonest are reads writes kept
    → (told : SyncAnswer) (number newest after : ℕ) (d e : D) (page : ℕ) (image : List ℕ) (answer : Answer)
    → are d ≡ true → WritesOnce writes told number newest d page image answer e after → are e ≡ true
once-after honest (Ok _) number newest after d e page image answer is r = honest.after_write d e page image answer is r.0
once-after {are = are} honest (Err _) number newest after d e page image answer is r = ap are r.1 ∙ is

pub ahead-honest : {D L : Type 0} (number_in : List ℕ → ℕ) (durable : L → ℕ) (forces : L → ℕ → SyncAnswer → L → Type 0)
    (reads : D → ℕ → List ℕ → Answer → List ℕ → D → Type 0) (writes : D → ℕ → List ℕ → Answer → D → Type 0)
    → AheadIsHonest number_in durable forces reads writes
ahead-honest number_in durable forces reads writes = λ are kept honest.
    record {
      read_gives = λ d e page slice given is r. honest.read_gives d.device e.device page slice given is r.device_reads;
      read_keeps = λ d e page other slice given answer is r.
          honest.read_keeps d.device e.device page other slice given answer is r.device_reads;
      written = λ d e page image is r.
          once-written honest r.told (number_in image) d.newest e.newest d.device e.device page image is r.written;
      others = λ d e page other image is r ne.
          once-others honest r.told (number_in image) d.newest e.newest d.device e.device page other image is r.written ne;
      failed = λ d e page other image fault is r.
          once-failed honest r.told (number_in image) d.newest e.newest d.device e.device page other image fault is r.written;
      after_read = λ d e page slice given answer is r.
          honest.after_read d.device e.device page slice given answer is r.device_reads;
      after_write = λ d e page image answer is r.
          once-after honest r.told (number_in image) d.newest e.newest d.device e.device page image answer is r.written;
    }

-- ---- with check sums

-- A slice that is as long as a page, or not.
pub by_length : {A : Type 0} (b : Bool) → (b ≡ true → A) → (b ≡ false → A) → A
by_length true long short = long refl
by_length false long short = short refl

-- What was taken is the front of what the device gave.
taken-front : (told : Answer) (image slice given : List ℕ) → TakenAs told image slice (Ok tt) given
    → (told ≡ Ok tt) × (given ≡ take (length slice) image)
taken-front (Ok _) image slice given (inl r) = (refl, r.2)
taken-front (Ok _) image slice given (inr r) = let refused = r.1 in cc
taken-front (Err fault) image slice given r = let refused = r.0 in cc

pub as-long : (len page_bytes : ℕ) → (len == page_bytes) ≡ true → len ≡ page_bytes
as-long len page_bytes is = search rules

-- The front of what is kept is that of what was kept.
pub front-same : (n m : ℕ) (xs ys : List ℕ) → n ≡ m → xs ≡ ys → take n xs ≡ take m ys
front-same n m xs ys same are = ap (λ k. take k xs) same ∙ ap (take m) are

-- The front of bytes with their sum are the bytes.
take-with_sum : (n : ℕ) (image kept : List ℕ) → n ≡ length image → kept ≡ with_sum image → take n kept ≡ image
take-with_sum n image kept long are = ap (λ k. take k kept) long ∙ ap (take (length image)) are ∙ take-append_seam image (sum_bytes image)

-- What the device inside keeps of a page, whether it was read or not.
pub read-inside : {D : Type 0} {reads : D → ℕ → List ℕ → Answer → List ℕ → D → Type 0} (P : D → Type 0) (c e : Checked D)
    (page : ℕ) (slice given : List ℕ) (answer : Answer) → CheckedReads reads c page slice answer given e → P c.device
    → ((buffer image : List ℕ) (told : Answer) → reads c.device page buffer told image e.device → P e.device)
    → P e.device
read-inside P c e page slice given answer r before after =
    by_length (is_as_long c (length slice))
    (λ long.
    after (r.served long).buffer (r.served long).reads_so.image (r.served long).reads_so.told
    (r.served long).reads_so.device_reads)
    (λ short. subst P (sym (r.refused short).2) before)

pub write-inside : {D : Type 0} {writes : D → ℕ → List ℕ → Answer → D → Type 0} (P : D → Type 0) (c e : Checked D) (page : ℕ)
    (image : List ℕ) (answer : Answer) → CheckedWrites writes c page image answer e → P c.device
    → (writes c.device page (with_sum image) answer e.device → P e.device) → P e.device
write-inside P c e page image answer r before after =
    by_length (is_as_long c (length image)) (λ long. after (r.served long))
    (λ short. subst P (sym (r.refused short).1) before)

pub checked-honest : {D : Type 0} (reads : D → ℕ → List ℕ → Answer → List ℕ → D → Type 0)
    (writes : D → ℕ → List ℕ → Answer → D → Type 0) → CheckedIsHonest reads writes
checked-honest reads writes = λ are kept honest.
    record {
      read_gives = λ d e page slice given is r.
          by_length (is_as_long d (length slice))
          (λ long.
          let so = (r.served long).reads_so in
          let front = taken-front so.told so.image slice given so.taken in
          let read : reads d.device page (r.served long).buffer (Ok tt) so.image e.device =
          subst (λ told. reads d.device page (r.served long).buffer told so.image e.device) front.0 so.device_reads in
          front.1
          ∙ front-same (length slice) d.page_bytes so.image (kept d.device page) (as-long (length slice) d.page_bytes long)
          (honest.read_gives d.device e.device page (r.served long).buffer so.image is read))
          (λ short. let refused = (r.refused short).0 in cc);
      read_keeps = λ d e page other slice given answer is r.
          front-same e.page_bytes d.page_bytes (kept e.device other) (kept d.device other) r.counts.page_bytes_are
          (read-inside (λ x. kept x other ≡ kept d.device other) d e page slice given answer r refl
          (λ buffer image told read. honest.read_keeps d.device e.device page other buffer image told is read));
      written = λ d e page image is r.
          by_length (is_as_long d (length image))
          (λ long.
          take-with_sum e.page_bytes image (kept e.device page)
          (r.counts.page_bytes_are ∙ sym (as-long (length image) d.page_bytes long))
          (honest.written d.device e.device page (with_sum image) is (r.served long)))
          (λ short. let refused = (r.refused short).0 in cc);
      others = λ d e page other image is r ne.
          front-same e.page_bytes d.page_bytes (kept e.device other) (kept d.device other) r.counts.page_bytes_are
          (write-inside (λ x. kept x other ≡ kept d.device other) d e page image (Ok tt) r refl
          (λ written. honest.others d.device e.device page other (with_sum image) is written ne));
      failed = λ d e page other image fault is r.
          front-same e.page_bytes d.page_bytes (kept e.device other) (kept d.device other) r.counts.page_bytes_are
          (write-inside (λ x. kept x other ≡ kept d.device other) d e page image (Err fault) r refl
          (λ written. honest.failed d.device e.device page other (with_sum image) fault is written));
      after_read = λ d e page slice given answer is r.
          read-inside (λ x. are x ≡ true) d e page slice given answer r is
          (λ buffer image told read. honest.after_read d.device e.device page buffer image told is read);
      after_write = λ d e page image answer is r.
          write-inside (λ x. are x ≡ true) d e page image answer r is
          (λ written. honest.after_write d.device e.device page (with_sum image) answer is written);
    }
