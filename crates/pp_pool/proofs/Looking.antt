-- What is looked at names its page, and is as long as it has to be.
use Rattle.std.proofs.Common.{◌≡◌, ◌∙◌, ◌≤◌, ◌<◌, ◌^◌, ◌-◌, ◌++◌, ℕ, Bool, true, false, List, length, refl, sym, ap, arith, inl, inr, length-drop}
use Rattle.std.specs.Prelude.{◌&&◌, nat_le, take}
use Rattle.std.proofs.lemmas.Bool.{cases_lt, lt-leb, le-leb, false≢true}
use Rattle.std.specs.Int.{w32, w64, to_be_bytes}
use Rattle.pp_device.specs.Image.{head_of, body_of}
use Rattle.pp_vault.proofs.Heads.{head_written}
use Rattle.pp_model.specs.Pool.{State}
use Rattle.pp_vault.specs.declared.guards.ReadGuard.{ReadGuard}
use Rattle.pp_vault.specs.Parts.{Parts}
use Rattle.pp_vault.specs.StandsFor.{StandsFor}
use Rattle.pp_vault.specs.Flushes.{IsImageOf}
use Rattle.pp_vault.specs.Looks.{ShowsBody, may_see}
use Rattle.pp_pool.specs.Fronts.{ShowsPageIn}

-- Bytes that begin with a head have that head.
pub head_made : (bytes rest : List ℕ) (page stamp : ℕ) → bytes ≡ to_be_bytes w32 page ++ to_be_bytes w64 stamp ++ rest
    → page < 2 ^ 32 → stamp < 2 ^ 64 → head_of bytes ≡ (page, stamp)
head_made bytes rest page stamp e p s =
    ap head_of e ∙ head_written (to_be_bytes w32 page ++ to_be_bytes w64 stamp ++ rest) page stamp p s

-- A body that is shown has all bytes of a page but those of the head.
body_long : (v : Parts) (s : State) (page : ℕ) (body : List ℕ) → StandsFor v s → ShowsBody v page body
    → length body ≡ v.page_bytes - 12
body_long v s page body st h =
    let at : IsImageOf v s page h.image = h.shown.copy s st in
    ap length h.body_is ∙ length-drop 12 h.image ∙ ap (λ n. n - 12) (st.images.long at.frame h.image at.there)

-- So many bytes are no more than a page has exactly where those behind the head are no more than the body has.
cut_le : (n p : ℕ) → 64 ≤ p → (nat_le 64 n && nat_le (n - 12) (p - 12)) ≡ (nat_le 64 n && nat_le n p)
cut_le n p wide =
    elim (cases_lt p n) [
      | inl more ↦ ap (λ b. nat_le 64 n && b) (lt-leb (n - 12) (p - 12) (omega (arith, more, wide)) ∙ sym (lt-leb n p more))
      | inr fits ↦ ap (λ b. nat_le 64 n && b) (le-leb (n - 12) (p - 12) (omega (arith, fits)) ∙ sym (le-leb n p fits))
    ]

-- The front of a body that is there is shown where it can be copied.
pub shows_page : (v : Parts) (s : State) (guard : ReadGuard) (body before after : List ℕ) (shown : Bool) → StandsFor v s
    → may_see guard s ≡ true → ShowsBody v guard.page body
    → shown ≡ (nat_le 64 (length before) && nat_le (length before - 12) (length body))
    → (shown ≡ true → head_of after ≡ (guard.page, guard.mark))
    → (shown ≡ true → body_of after ≡ take (length before - 12) body) → (shown ≡ true → 64 ≤ length after)
    → (shown ≡ false → after ≡ before) → length after ≡ length before → ShowsPageIn v s guard before shown after
shows_page v s guard body before after shown st may there copied head front long unchanged same =
    record {
      exact =
          copied
          ∙ ap (λ n. nat_le 64 (length before) && nat_le (length before - 12) n) (body_long v s guard.page body st there)
          ∙ cut_le (length before) v.page_bytes st.images.wide
          ∙ sym (ap (λ t. t && (nat_le 64 (length before) && nat_le (length before) v.page_bytes)) may);
      front = λ yes. record {
        long = long yes;
        head = head yes;
        body = body;
        shown = there;
        front = front yes ∙ ap (λ n. take (n - 12) body) (sym same);
      };
      length = same;
      unchanged = unchanged;
    }

-- Nothing is shown to a guard that isn't one of the state.
pub no_page : (v : Parts) (s : State) (guard : ReadGuard) (bytes : List ℕ) → may_see guard s ≡ false
    → ShowsPageIn v s guard bytes false bytes
no_page v s guard bytes stranger =
    record {
      exact = sym (ap (λ t. t && (nat_le 64 (length bytes) && nat_le (length bytes) v.page_bytes)) stranger);
      front = λ yes. absurd (false≢true yes);
      length = refl;
      unchanged = λ _. refl;
    }
