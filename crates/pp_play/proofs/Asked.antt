-- What each call of the vault does for the cue that asks it.
use Rattle.std.proofs.Common.{◌≡◌, ◌∙◌, ℕ, Bool, Some, List, refl, ap, inl, inr}
use Rattle.pp_cert.specs.declared.note.Held.{Held}
use Rattle.pp_plan.specs.declared.mode.Mode.{Mode}
use Rattle.pp_model.specs.declared.moves.Move.{Move}
use Rattle.pp_model.specs.declared.moves.Move.TheVariants as move
use Rattle.pp_model.specs.declared.reply.Reply.{Reply}
use Rattle.pp_vault.specs.Parts.{Parts}
use Rattle.pp_vault.specs.StandsFor.{IsKept}
use Rattle.pp_vault.specs.Events.{Does, Tells}
use Rattle.pp_vault.specs.Fits.{take_call, end_call, finish_call, fix_call, choose_call}
use Rattle.pp_vault.specs.Fits.{unfix_call, scatter_call, latch_call, unlatch_call, put_back_call, unwind_call}
use Rattle.pp_vault.specs.Fits.{unwind_bundle_call}
use Rattle.pp_vault.specs.Flushes.{flush_call}
use Rattle.pp_vault.specs.Answers.{read_call, write_call, flushed_call, came_of}
use Rattle.pp_device.specs.Image.{head_of}
use Rattle.pp_script.specs.declared.cue.Cue.TheVariants as cue
use Rattle.pp_play.specs.Doing.{IsDone}
use Rattle.pp_play.proofs.Done.{is_done, asks_if, asks_guard}

pub same : (v w : ℕ) → Some v ≡ Some w → v ≡ w
same v w e = cc

module _ (old new : Parts) (kept : IsKept old) (v w : ℕ) (e : v ≡ w) {done : Move × Reply} where
  pub take_done : Does old (take_call v) new → Tells old (take_call v) done → IsDone old (cue.Take w) done new
  take_done does tells =
      is_done old new (take_call v) (cue.Take w) does (λ s. asks_if _ (cue.Take w) _ (ap move.Take e)) _ tells kept

  pub choose_done : (branch : ℕ) → Does old (choose_call v branch) new → Tells old (choose_call v branch) done
      → IsDone old (cue.Choose w branch) done new
  choose_done b does tells =
      is_done old new (choose_call v b) (cue.Choose w b) does
      (λ s. asks_if _ (cue.Choose w b) _ (ap (λ x. move.Choose x b) e)) _ tells kept

  pub finish_done : Does old (finish_call v) new → Tells old (finish_call v) done → IsDone old (cue.Finish w) done new
  finish_done does tells =
      is_done old new (finish_call v) (cue.Finish w) does
      (λ s. asks_if _ (cue.Finish w) _ (ap move.Finish e)) _ tells kept

  pub end_done : Does old (end_call v) new → Tells old (end_call v) done → IsDone old (cue.Finish w) done new
  end_done does tells =
      is_done old new (end_call v) (cue.Finish w) does
      (λ s. asks_if _ (cue.Finish w) _ (ap move.Finish e)) _ tells kept

  pub fix_done : (slot page : ℕ) → Does old (fix_call v slot page) new → Tells old (fix_call v slot page) done
      → IsDone old (cue.Fix w page) done new
  fix_done k p does tells =
      is_done old new (fix_call v k p) (cue.Fix w p) does
      (λ s. asks_if _ (cue.Fix w p) _ (ap (λ x. move.Fix x p) e)) _ tells kept

  pub unfix_done : (of slot page : ℕ) → Does old (unfix_call v of slot page) new
      → Tells old (unfix_call v of slot page) done → IsDone old (cue.Unfix w) done new
  unfix_done of k p does tells =
      is_done old new (unfix_call v of k p) (cue.Unfix w) does
      (λ s. asks_guard _ _ (cue.Unfix w) _ (ap move.Unfix e)) _ tells kept

  pub scatter_done : (of slot : ℕ) → Does old (scatter_call v of slot) new → Tells old (scatter_call v of slot) done
      → IsDone old (cue.Unfix w) done new
  scatter_done of k does tells =
      is_done old new (scatter_call v of k) (cue.Unfix w) does
      (λ s. asks_guard _ _ (cue.Unfix w) _ (ap move.Unfix e)) _ tells kept

  pub latch_done : (m : Mode) (of slot page : ℕ) → Does old (latch_call m v of slot page) new
      → Tells old (latch_call m v of slot page) done → IsDone old (cue.Latch w) done new
  latch_done m of k p does tells =
      is_done old new (latch_call m v of k p) (cue.Latch w) does
      (λ s. asks_guard _ _ (cue.Latch w) _ (ap move.Latch e)) _ tells kept

  pub unlatch_done : (h : Held) (of slot page : ℕ) → Does old (unlatch_call h v of slot page) new
      → Tells old (unlatch_call h v of slot page) done → IsDone old (cue.Unlatch w) done new
  unlatch_done h of k p does tells =
      is_done old new (unlatch_call h v of k p) (cue.Unlatch w) does
      (λ s. asks_guard _ _ (cue.Unlatch w) _ (ap move.Unlatch e)) _ tells kept

  pub put_back_done : (long : Bool) (of slot page : ℕ) → Does old (put_back_call long v of slot page) new
      → Tells old (put_back_call long v of slot page) done → IsDone old (cue.Unlatch w) done new
  put_back_done long of k p does tells =
      is_done old new (put_back_call long v of k p) (cue.Unlatch w) does
      (λ s. asks_guard _ _ (cue.Unlatch w) _ (ap move.Unlatch e)) _ tells kept

  pub unwind_done : (long : Bool) (h : Held) (of slot k page : ℕ) → slot ≡ k
      → Does old (unwind_call long h v of slot page) new → Tells old (unwind_call long h v of slot page) done
      → IsDone old (cue.Unwind w k) done new
  unwind_done long h of slot k p same_slot does tells =
      is_done old new (unwind_call long h v of slot p) (cue.Unwind w k) does
      (λ s. asks_if _ (cue.Unwind w k) (move.Unwind v slot)
      (ap (λ x. move.Unwind x slot) e ∙ ap (move.Unwind w) same_slot)) _ tells kept

  pub unwind_bundle_done : (of slot k : ℕ) → slot ≡ k → Does old (unwind_bundle_call v of slot) new
      → Tells old (unwind_bundle_call v of slot) done → IsDone old (cue.Unwind w k) done new
  unwind_bundle_done of slot k same_slot does tells =
      is_done old new (unwind_bundle_call v of slot) (cue.Unwind w k) does
      (λ s. asks_if _ (cue.Unwind w k) (move.Unwind v slot)
      (ap (λ x. move.Unwind x slot) e ∙ ap (move.Unwind w) same_slot)) _ tells kept

  pub read_done : (bytes slot page : ℕ) (image : List ℕ) (ok : Bool)
      → Does old (read_call bytes v slot page image ok) new → Tells old (read_call bytes v slot page image ok) done
      → IsDone old (cue.Device w) done new
  read_done bytes k p image ok does tells =
      is_done old new (read_call bytes v k p image ok) (cue.Device w) does
      (λ s. asks_if _ (cue.Device w) (move.ReadDone v (came_of ok (head_of image)))
      (inr (came_of ok (head_of image), ap (λ x. move.ReadDone x (came_of ok (head_of image))) e))) _ tells kept

  pub write_done : (bytes slot page victim : ℕ) (image : List ℕ) (ok : Bool)
      → Does old (write_call bytes v slot page victim image ok) new
      → Tells old (write_call bytes v slot page victim image ok) done → IsDone old (cue.Device w) done new
  write_done bytes k p x image ok does tells =
      is_done old new (write_call bytes v k p x image ok) (cue.Device w) does
      (λ s. asks_if _ (cue.Device w) (move.WriteDone v ok) (inl (ok, ap (λ y. move.WriteDone y ok) e))) _ tells kept

pub flush_done : (old new : Parts) (page : ℕ) {done : Move × Reply} → IsKept old → Does old (flush_call page) new
    → Tells old (flush_call page) done → IsDone old (cue.Flush page) done new
flush_done old new page kept does tells =
    is_done old new (flush_call page) (cue.Flush page) does (λ s. refl) _ tells kept

pub flushed_done : (old new : Parts) (bytes page : ℕ) (image : List ℕ) (ok : Bool) {done : Move × Reply} → IsKept old
    → Does old (flushed_call bytes page image ok) new → Tells old (flushed_call bytes page image ok) done
    → IsDone old cue.FlushDevice done new
flushed_done old new bytes p image ok kept does tells =
    is_done old new (flushed_call bytes p image ok) cue.FlushDevice does
    (λ s. asks_if _ cue.FlushDevice (move.FlushDone ok) (ok, refl)) _ tells kept
