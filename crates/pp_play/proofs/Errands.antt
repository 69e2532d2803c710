-- Errands that are out: each answer of a device to one is taken.
use Rattle.std.proofs.Common.{◌≡◌, ℕ, Bool, true, false, Option, Some, None, List, length, refl, sym, ap}
use Rattle.std.proofs.Common.{subst, arith}
use Rattle.std.specs.Prelude.{◌&&◌, ◌==◌, if◌then◌else◌, option_map, unwrap_or}
use Rattle.std.specs.Option.{is_some}
use Rattle.std.proofs.lemmas.Bool.{false≢true}
use Rattle.std.proofs.lemmas.Bool.Decides.{nat_tests}
use Rattle.pp_model.specs.declared.moves.Came.{Came}
use Rattle.pp_model.specs.declared.moves.Came.TheVariants.{Fault, Image}
use Rattle.pp_model.specs.declared.moves.Move.{Move}
use Rattle.pp_model.specs.declared.moves.Move.TheVariants as move
use Rattle.pp_model.specs.Pool.{Stage, acting, writing, reading, leaving, Running, Flush, State, known_mark}
use Rattle.pp_model.specs.Moves.{reply_of, seat_of}
use Rattle.pp_model.specs.Answers.{write_in, write_by, is_misread, read_where, read_came, read_in, read_by}
use Rattle.pp_model.specs.Flushing.{is_clean, flushed_where, flushed_by}
use Rattle.pp_core.specs.Queries.{errand_in, errand_by, errand_of, flushed_page}
use Rattle.pp_device.specs.Image.{head_of}
use Rattle.pp_vault.specs.declared.tokens.Duty.{Duty}
use Rattle.pp_vault.specs.declared.tokens.Duty.TheVariants as duty
use Rattle.pp_vault.specs.Calls.{asks, stranger, refusal_in, refusal_of}
use Rattle.pp_vault.specs.Answers.{is_of_read, is_of_write, is_of_flush, is_head_of, came_of, duty_call}
use Rattle.pp_vault.specs.Answers.{is_read_out, is_write_out, is_flush_out}
use Rattle.pp_vault.specs.Tokens.{IsOut, IsHeaded}

pub same_number : (n : ℕ) → (n == n) ≡ true
same_number n = grind (arith, nat_tests)

-- ---- how an answer is answered

-- Whether a victim is written back before.
abbrev has_victim : Option (ℕ × ℕ × Option ℕ) → Bool
has_victim None = false
has_victim (Some (slot, page, None)) = false
has_victim (Some (slot, page, Some victim)) = true

module _ (s : State) (w slot page victim : ℕ) where
  write_at : (ok : Bool) (r : Running) (x : Stage) → errand_in x ≡ Some (slot, page, Some victim)
      → refusal_in (write_in s w ok r x).reply ≡ None
  write_at ok r acting e = absurd (false≢true (ap has_victim e))
  write_at true r (writing k p v) e = refl
  write_at false r (writing k p v) e = refl
  write_at ok r (reading k p) e = absurd (false≢true (ap has_victim e))
  write_at ok r (leaving given) e = absurd (false≢true (ap has_victim e))

  write_by_seat : (ok : Bool) (o : Option (Option Running)) → errand_by o ≡ Some (slot, page, Some victim)
      → refusal_in (write_by s w ok o).reply ≡ None
  write_by_seat ok None e = absurd (false≢true (ap has_victim e))
  write_by_seat ok (Some None) e = absurd (false≢true (ap has_victim e))
  write_by_seat ok (Some (Some r)) e = write_at ok r r.stage e

  pub write_taken : (ok : Bool) → errand_of s w ≡ Some (slot, page, Some victim)
      → refusal_in (reply_of s (move.WriteDone w ok)) ≡ None
  write_taken ok e = write_by_seat ok (seat_of s w) e

-- Whether a page is read.
abbrev is_reading : Option (ℕ × ℕ × Option ℕ) → Bool
is_reading None = false
is_reading (Some (slot, page, None)) = true
is_reading (Some (slot, page, Some victim)) = false

module _ (s : State) (w slot page : ℕ) where
  where_taken : (r : Running) (k p mark : ℕ) (misread : Bool)
      → refusal_in (read_where s w r k p mark misread).reply ≡ None
  where_taken r k p mark true = refl
  where_taken r k p mark false = refl

  came_taken : (r : Running) (k p : ℕ) (came : Came) → refusal_in (read_came s w r k p came).reply ≡ None
  came_taken r k p Fault = refl
  came_taken r k p (Image named mark) = where_taken r k p mark (is_misread s p named mark)

  read_at : (came : Came) (r : Running) (x : Stage) → errand_in x ≡ Some (slot, page, None)
      → refusal_in (read_in s w came r x).reply ≡ None
  read_at came r acting e = absurd (false≢true (ap is_reading e))
  read_at came r (writing k p v) e = absurd (false≢true (ap is_reading e))
  read_at came r (reading k p) e = came_taken r k p came
  read_at came r (leaving given) e = absurd (false≢true (ap is_reading e))

  read_by_seat : (came : Came) (o : Option (Option Running)) → errand_by o ≡ Some (slot, page, None)
      → refusal_in (read_by s w came o).reply ≡ None
  read_by_seat came None e = absurd (false≢true (ap is_reading e))
  read_by_seat came (Some None) e = absurd (false≢true (ap is_reading e))
  read_by_seat came (Some (Some r)) e = read_at came r r.stage e

  pub read_taken : (came : Came) → errand_of s w ≡ Some (slot, page, None)
      → refusal_in (reply_of s (move.ReadDone w came)) ≡ None
  read_taken came e = read_by_seat came (seat_of s w) e

-- ---- a flush

flush_clean : (s : State) (page : ℕ) (clean : Bool) → refusal_in (flushed_where s page clean).reply ≡ None
flush_clean s page true = refl
flush_clean s page false = refl

flush_by_flight : (s : State) (ok : Bool) (page : ℕ) (o : Option Flush)
    → option_map (λ (f : Flush). f.page) o ≡ Some page → refusal_in (flushed_by s ok o).reply ≡ None
flush_by_flight s ok page None e = absurd (false≢true (ap is_some e))
flush_by_flight s ok page (Some f) e = flush_clean s f.page (is_clean s ok f)

-- ---- the call

module _ (s : State) (bytes : ℕ) (image : List ℕ) where
  long_so : length image ≡ bytes → (length image == bytes) ≡ true
  long_so e = subst (λ n. (length image == n) ≡ true) e (same_number (length image))

  read_is_out : (w slot page : ℕ) → errand_of s w ≡ Some (slot, page, None) → length image ≡ bytes
      → is_read_out bytes w slot page image s ≡ true
  read_is_out w slot page e long =
      subst (λ o. is_of_read slot page (length image == bytes) o ≡ true) (sym e)
      (grind (arith, same_number slot, same_number page, long_so long))

  headed_so : (victim : ℕ) (head : ℕ × ℕ) (o : Option ℕ) → Some head ≡ option_map (λ mark. (victim, mark)) o
      → is_head_of victim head o ≡ true
  headed_so victim head None e = absurd (false≢true (ap is_some (sym e)))
  headed_so victim head (Some mark) e =
      let is : head ≡ (victim, mark) = ap (λ o. unwrap_or o head) e in
      subst (λ (h : ℕ × ℕ). ((h.0 == victim) && (h.1 == mark)) ≡ true) (sym is)
      (grind (arith, same_number victim, same_number mark))

  write_is_out : (w slot page victim : ℕ) → errand_of s w ≡ Some (slot, page, Some victim) → length image ≡ bytes
      → IsHeaded s (duty.Write w slot page victim) image → is_write_out bytes w slot page victim image s ≡ true
  write_is_out w slot page victim e long headed =
      let names = headed_so victim (head_of image) (known_mark s victim) headed in
      subst (λ o. is_of_write slot page victim
      ((length image == bytes) && is_head_of victim (head_of image) (known_mark s victim)) o ≡ true) (sym e)
      (grind (arith, same_number slot, same_number page, same_number victim, long_so long, names))

  flush_is_out : (page : ℕ) → flushed_page s ≡ Some page → length image ≡ bytes
      → is_flush_out bytes page image s ≡ true
  flush_is_out page e long =
      subst (λ o. is_of_flush page (length image == bytes) o ≡ true) (sym e)
      (grind (arith, same_number page, long_so long))

  asked_where : (b : Bool) (m : Move) → b ≡ true → refusal_in (reply_of s m) ≡ None
      → refusal_of s (if b then asks m else stranger) ≡ None
  asked_where b m e allowed = subst (λ t. refusal_of s (if t then asks m else stranger) ≡ None) (sym e) allowed

  -- The answer to an errand that is out is taken.
  pub answer_taken : (d : Duty) (ok : Bool) → IsOut s d → IsHeaded s d image → length image ≡ bytes
      → refusal_of s (duty_call bytes d image ok s) ≡ None
  answer_taken (duty.Read w slot page) ok out headed long =
      asked_where _ (move.ReadDone w (came_of ok (head_of image))) (read_is_out w slot page out long)
      (read_taken s w slot page (came_of ok (head_of image)) out)
  answer_taken (duty.Write w slot page victim) ok out headed long =
      asked_where _ (move.WriteDone w ok) (write_is_out w slot page victim out long headed)
      (write_taken s w slot page victim ok out)
  answer_taken (duty.Flush page) ok out headed long =
      asked_where _ (move.FlushDone ok) (flush_is_out page out long) (flush_by_flight s ok page s.flush out)
