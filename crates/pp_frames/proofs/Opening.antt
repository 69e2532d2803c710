-- What is kept of a pool in which nothing was done yet.
use Rattle.std.proofs.Common.{◌≡◌, ℕ, zero, suc, ◌<◌, ◌^◌, Bool, true, false, List, length, replicate}
use Rattle.std.proofs.Common.{Some, None, refl, ap, sym, ◌∙◌, arith}
use Rattle.std.proofs.lemmas.List.{length-replicate}
use Rattle.std.proofs.lemmas.List.FromFn.{fill_by_all}
use Rattle.std.specs.List.{sum_by, count_by}
use Rattle.pp_frames.specs.Numbers.{is_member}
use Rattle.pp_frames.specs.Marks.{latch_count, PageMarks, untouched_marks, opening, marks_of, frame_of, pins_of}
use Rattle.pp_frames.specs.Marks.{is_flushable, IsSound}
use Rattle.pp_frames.specs.Kept.{Parts, IsKept}
use Rattle.pp_frames.proofs.Spelling.{at_replicate}

-- a list in which each number below n is a member
pub all_members : (s : List Bool) (n : ℕ) → length s ≡ n → ((k : ℕ) → k < n → is_member s k ≡ true)
    → s ≡ replicate n true
all_members s n len each =
    fill_by_all (λ (k : ℕ). true) s n false len each
    ∙ sym (fill_by_all (λ (k : ℕ). true) (replicate n true) n true (length-replicate n true)
    (λ k _. at_replicate n k true))

member_of_all : (n k : ℕ) → k < n → is_member (replicate n true) k ≡ true
member_of_all zero k lt = absurd (omega arith)
member_of_all (suc n) zero lt = refl
member_of_all (suc n) (suc k) lt = member_of_all n k (omega arith)

no_pins : (n : ℕ) → sum_by (λ (marks : PageMarks). marks.pins) (replicate n untouched_marks) ≡ 0
no_pins zero = refl
no_pins (suc n) = omega (arith, no_pins n)

none_dirty : (n : ℕ) → count_by (λ (marks : PageMarks). marks.dirty) (replicate n untouched_marks) ≡ 0
none_dirty zero = refl
none_dirty (suc n) = omega (arith, none_dirty n)

untouched : (frames pages k : ℕ) → marks_of (opening frames pages) k ≡ untouched_marks
untouched frames pages k = at_replicate pages k untouched_marks

nowhere : (frames pages k frame : ℕ) → frame_of (opening frames pages) k ≡ Some frame → ⊥
nowhere frames pages k frame there =
    let none : None ≡ Some frame = sym (ap (λ (a : PageMarks). a.frame) (untouched frames pages k)) ∙ there in
    grind (arith, none)

unpinned : (frames pages k : ℕ) → pins_of (opening frames pages) k ≡ 0
unpinned frames pages k = ap (λ (a : PageMarks). a.pins) (untouched frames pages k)

sound_opening : (frames pages : ℕ) → IsSound (opening frames pages)
sound_opening frames pages =
    record {
      in_range = λ k frame there. absurd (nowhere frames pages k frame there);
      no_frame_twice = λ p q frame there too. absurd (nowhere frames pages p frame there);
      pinned_is_placed = λ k some. absurd (omega (arith, unpinned frames pages k));
      latched_is_pinned = λ k. omega (arith, ap (λ (a : PageMarks). latch_count a.latches) (untouched frames pages k));
      pins_fit = omega (arith, no_pins pages);
    }

abbrev pub opened : ℕ → ℕ → Parts
opened frames pages =
    record {
      marks = opening frames pages;
      pins = 0;
      dirty = 0;
      free = replicate frames true;
      flushable = replicate pages false;
    }

pub kept_opened : (frames pages : ℕ) → frames < 2 ^ 32 → pages < 2 ^ 32 → IsKept (opened frames pages)
kept_opened frames pages fits pages_few =
    record {
      sound = sound_opening frames pages;
      pins = sym (no_pins pages);
      dirty = sym (none_dirty pages);
      frames = length-replicate frames true;
      free = λ frame below. (
        λ is k there. nowhere frames pages k frame there,
        λ free. member_of_all frames frame (omega (arith, length-replicate frames true)),
      );
      pages = length-replicate pages false ∙ sym (length-replicate pages untouched_marks);
      flushable = λ k. at_replicate pages k false ∙ ap is_flushable (sym (untouched frames pages k));
      frames_fit = omega (arith, length-replicate frames true);
      pages_fit = omega (arith, pages_few, length-replicate pages false);
    }
