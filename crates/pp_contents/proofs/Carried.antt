-- A device that keeps every byte tells what it keeps.
use Rattle.std.proofs.Common.{◌≡◌, ◌≢◌, ◌∙◌, ℕ, Bool, true, List, Ok, Err, sym, ap}
use Rattle.std.specs.Prelude.{◌==◌, if◌then◌else◌}
use Rattle.pp_model.proofs.Requests.{same, other, which}
use Rattle.pp_device.specs.declared.fault.Fault.{Fault}
use Rattle.pp_device.specs.Answers.{Answer}
use Rattle.pp_device.specs.Honest.{IsHonest}
use Rattle.pp_vault.specs.declared.tokens.Duty.{Duty}
use Rattle.pp_vault.specs.declared.tokens.Duty.TheVariants.{Read, Write, Flush}
use Rattle.pp_vault.specs.Carrying.{CarriesOut}
use Rattle.pp_contents.specs.Told.{told_with, TellsWhatItKeeps, HonestTellsWhatItKeeps}
use Rattle.pp_contents.proofs.Finding.{test_same, test_apart}

module _ {D : Type 0} (reads : D → ℕ → List ℕ → Answer → List ℕ → D → Type 0)
    (writes : D → ℕ → List ℕ → Answer → D → Type 0) (are : D → Bool) (kept : D → ℕ → List ℕ)
    (honest : IsHonest are reads writes kept) (d e : D) (image given : List ℕ) (good : are d ≡ true) where
  told_here : (page q : ℕ) (b c : List ℕ) → q ≡ page → (if q == page then b else c) ≡ b
  told_here page q b c same_page = ap (λ t. if t then b else c) (test_same q page same_page)

  told_there : (page q : ℕ) (b c : List ℕ) → q ≢ page → (if q == page then b else c) ≡ c
  told_there page q b c apart = ap (λ t. if t then b else c) (test_apart q page apart)

  -- A reading gives what is kept, and changes nothing.
  read_tells : (w slot page : ℕ) (answer : Answer) → reads d page image answer given e
      → TellsWhatItKeeps are kept (Read w slot page) d answer given e
  read_tells w slot page (Ok done) does =
      record {
        kept_is = λ q.
            honest.read_keeps d e page q image given (Ok done) good does
            ∙ elim (which q page) [
              | same f k ↦ ap (kept d) f ∙ sym gives ∙ sym (told_here page q given (kept d q) f)
              | other f k ↦ sym (told_there page q given (kept d q) f)
            ];
        read_is = λ v k p is done_so. gives ∙ ap (kept d) (same_page w slot page v k p is);
        stays = honest.after_read d e page image given (Ok done) good does;
      }
    where
      gives : given ≡ kept d page
      gives = honest.read_gives d e page image given good does

      same_page : (w slot page v k p : ℕ) → Read w slot page ≡ Read v k p → page ≡ p
      same_page w slot page v k p is = cc
  read_tells w slot page (Err why) does =
      record {
        kept_is = λ q. honest.read_keeps d e page q image given (Err why) good does;
        read_is = λ v k p is done. absurd (err_ok why done);
        stays = honest.after_read d e page image given (Err why) good does;
      }
    where
      err_ok : (why : Fault) → ◌≡◌ {A = Answer} (Err why) (Ok tt) → ⊥
      err_ok why f = cc

  -- A writing that is done makes the bytes what is kept of its page.
  write_kept : (page : ℕ) (answer : Answer) → writes d page image answer e → given ≡ image → (q : ℕ)
      → kept e q ≡ elim answer as (λ _. List ℕ) [ Ok done ↦ told_with (kept d) page given q | Err why ↦ kept d q ]
  write_kept page (Ok done) does is q =
      elim (which q page) [
        | same f k ↦
            ap (kept e) f ∙ honest.written d e page image good does ∙ sym is ∙ sym (told_here page q given (kept d q) f)
        | other f k ↦ honest.others d e page q image good does f ∙ sym (told_there page q given (kept d q) f)
      ]
  write_kept page (Err why) does is q = honest.failed d e page q image why good does

  victim_tells : (w slot page victim : ℕ) (answer : Answer) → writes d victim image answer e → given ≡ image
      → TellsWhatItKeeps are kept (Write w slot page victim) d answer given e
  victim_tells w slot page victim (Ok done) does is =
      record {
        kept_is = write_kept victim (Ok done) does is;
        read_is = λ v k p f done_so. absurd (write_read w slot page victim v k p f);
        stays = honest.after_write d e victim image (Ok done) good does;
      }
    where
      write_read : (w slot page victim v k p : ℕ) → Write w slot page victim ≡ Read v k p → ⊥
      write_read w slot page victim v k p f = cc
  victim_tells w slot page victim (Err why) does is =
      record {
        kept_is = write_kept victim (Err why) does is;
        read_is = λ v k p f done. absurd (write_read w slot page victim v k p f);
        stays = honest.after_write d e victim image (Err why) good does;
      }
    where
      write_read : (w slot page victim v k p : ℕ) → Write w slot page victim ≡ Read v k p → ⊥
      write_read w slot page victim v k p f = cc

  flush_tells : (page : ℕ) (answer : Answer) → writes d page image answer e → given ≡ image
      → TellsWhatItKeeps are kept (Flush page) d answer given e
  flush_tells page (Ok done) does is =
      record {
        kept_is = write_kept page (Ok done) does is;
        read_is = λ v k p f done_so. absurd (flush_read page v k p f);
        stays = honest.after_write d e page image (Ok done) good does;
      }
    where
      flush_read : (page v k p : ℕ) → Flush page ≡ Read v k p → ⊥
      flush_read page v k p f = cc
  flush_tells page (Err why) does is =
      record {
        kept_is = write_kept page (Err why) does is;
        read_is = λ v k p f done. absurd (flush_read page v k p f);
        stays = honest.after_write d e page image (Err why) good does;
      }
    where
      flush_read : (page v k p : ℕ) → Flush page ≡ Read v k p → ⊥
      flush_read page v k p f = cc

  pub duty_tells : (duty : Duty) (answer : Answer) → CarriesOut reads writes duty d image answer given e
      → TellsWhatItKeeps are kept duty d answer given e
  duty_tells (Read w slot page) answer does = read_tells w slot page answer does
  duty_tells (Write w slot page victim) answer does = victim_tells w slot page victim answer does.0 does.1
  duty_tells (Flush page) answer does = flush_tells page answer does.0 does.1

pub tells : {D : Type 0} (reads : D → ℕ → List ℕ → Answer → List ℕ → D → Type 0)
    (writes : D → ℕ → List ℕ → Answer → D → Type 0) → HonestTellsWhatItKeeps reads writes
tells {D} reads writes are kept honest duty d e image given answer good does =
    duty_tells reads writes are kept honest d e image given good duty answer does
