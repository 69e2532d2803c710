-- How a handle lies in memory, and what it owns: what the walks of this crate take apart and put together.
use Rattle.std.proofs.Common.{◌≡◌, ℕ, List, [], ◌∷◌, ◌++◌, refl, subst, lit<}
use seplogic.Ra.Ura.{Ura}
use mir.Raw.{raw as bare}
use mir.Val.{Val, vptr, vnull, vstruct, vcons, vnil, of_list}
use base.Fraction.{full_share}
use base.Logic.{ent, guard, via, snd∗, never, fst∗, guard_i}
use types.Kit.{Item, Goal, Seq, Step, step, ‵, given, ◌$◌, drop, learn, use1, fsplit, fjoin, fpick, fpack, feq_i, feq_l}
use types.Logic.{Logic, sem}
use contract.Monad.{fact_use}
use denote.Builtin.{RawPtr}
use denote.Memory.{lone}
use denote.Param.{layout}
use denote.RattleType.{RattleType, Valss}
use denote.RawPtr.{Ptr, block_ptr, null_ptr, ptr_val, lies_at, in_a_block, Testable}
use denote.Steps.{nothing}
use denote.Struct.Owning.{shape}
use denote.Struct.Struct.{within}
use Rattle.std.proofs.GlobalToken.{dealloc_token-Testable}
use Rattle.std.proofs.cell.Inside.{Good}
use Rattle.std.specs.declared.option.Option.{Option}
use Rattle.std.specs.declared.option.Option.TheVariants.{None, Some}
use Rattle.std_heap.specs.contracts.GlobalAllocator.TheImpl.{ghosts}
use Rattle.std_heap.specs.declared.Global.{Global}
use Rattle.pp_pool_c.specs.Held.{boxed, held}
use Rattle.pp_pool_c.specs.contracts.handle.Handle as handle
use Rattle.pp_pool_c.specs.contracts.handle.Kept as kept
use Rattle.pp_pool_c.specs.declared.handle.Kept.{Kept}

-- a handle as the machine has it: one word
abbrev pub one_word : Val → Val
one_word at = vstruct (vcons at vnil)

pub block-good : (block offset : ℕ) → Good (layout handle.the_row) (one_word (vptr block offset))
block-good block offset = (tt, (tt, tt))

pub null-good : Good (layout handle.the_row) (one_word vnull)
null-good = (tt, (record { fits = lit< tt }, tt))

-- who may free a box may compare its pointer with null
testable : {M : Type 1} {𝓤 : Ura M} (𝓛 : Logic 𝓤) (heap : Global) (at : Ptr) (x : Kept)
    → ent 𝓤 (sem 𝓛 (boxed heap at x)) (guard 𝓤 (Testable at) (sem 𝓛 (boxed heap at x)))
testable {𝓤 = 𝓤} 𝓛 heap at x =
    let Value : RattleType = kept.the_row in
    let may_free = sem 𝓛 (ghosts.dealloc_token heap (bare (lone Value.mir)) at) in
    fact_use 𝓤 (Testable at)
    (via 𝓤 _ (snd∗ 𝓤 (sem 𝓛 (lies_at Value full_share at x)) may_free)
    (dealloc_token-Testable 𝓛 heap (bare (lone Value.mir)) at))
    (guard_i 𝓤 (Testable at) (sem 𝓛 (boxed heap at x)))

module _ {M : Type 1} {𝓤 : Ura M} {𝓛 : Logic 𝓤} {K : Type 0} {Γ : List (Item 𝓤)} {G : Goal 𝓤 𝓛.H} where
  by_value : K → (heap : Global) (at : Ptr) (value : Option Kept)
      → (at ≡ null_ptr → value ≡ None → Seq K 𝓛 Γ G)
      → ((block offset : ℕ) (x : Kept) → at ≡ block_ptr block offset → value ≡ Some x → Testable (block_ptr block offset)
      → Seq K 𝓛 (‵ (boxed heap (block_ptr block offset) x) ∷ Γ) G)
      → Seq K 𝓛 (‵ (held heap at value) ∷ Γ) G
  by_value t heap at None null box = feq_l t (λ is. null is refl)
  by_value t heap at (Some x) null box =
      in_a_block t at (λ p. boxed heap p x)
      (fst∗ 𝓤 (never 𝓤) (sem 𝓛 (ghosts.dealloc_token heap (bare (lone kept.the_row.mir)) null_ptr))) (λ block offset is.
      use1 𝓛 (given (Testable (block_ptr block offset)) (‵ (boxed heap (block_ptr block offset) x)))
      (testable 𝓛 heap (block_ptr block offset) x) $ learn t (λ tests. box block offset x is refl tests))

  -- a handle taken apart: it is null and owns nothing, or what its box owned stands first
  pub handle_out : K → (d : handle.the_row.Denot) (words : List Val)
      → (d.value ≡ None → words ≡ one_word vnull ∷ [] → Seq K 𝓛 Γ G)
      → ((block offset : ℕ) (x : Kept) → d.value ≡ Some x → words ≡ one_word (vptr block offset) ∷ []
      → Testable (block_ptr block offset) → Seq K 𝓛 (‵ (boxed d.heap (block_ptr block offset) x) ∷ Γ) G)
      → Seq K 𝓛 (‵ (handle.the_row.own_val d words) ∷ Γ) G
  handle_out t d words null box =
      fsplit t $ fpick t (λ fields. fsplit t $ feq_l t (λ whole. fsplit t $ feq_l t (λ first. drop t $
      let told : words ≡ one_word (ptr_val d.at) ∷ [] =
      subst (λ (row : List Val). words ≡ vstruct (of_list (row ++ [])) ∷ []) first whole in
      let at : Ptr → Type 0 = λ p. words ≡ one_word (ptr_val p) ∷ [] in
      by_value t d.heap d.at d.value (λ is none. null none (subst at is told))
      (λ block offset x is some tests. box block offset x some (subst at is told) tests))))

  -- and put together, with a box
  pub handle_in : K → (block offset : ℕ) (heap : Global) (x : Kept)
      → Step K 𝓛
      (‵ (handle.the_row.own_val (record { at = block_ptr block offset; value = Some x; heap = heap })
      (one_word (vptr block offset) ∷ [])) ∷ Γ) G
      (‵ (boxed heap (block_ptr block offset) x) ∷ Γ) G
  handle_in t block offset heap x = step (λ next. let word : Val = one_word (vptr block offset) in
      nothing t $ feq_i t (List Val) (vptr block offset ∷ []) (vptr block offset ∷ []) refl $ fjoin t $
      feq_i t (List Val) (word ∷ []) (word ∷ []) refl $ fjoin t $
      fpack t (Valss (RawPtr ∷ [])) (within (shape handle.the_type) (block_ptr block offset, tt) (word ∷ []))
      (vptr block offset ∷ [], tt) $ fjoin t $ next)

  -- and a null one
  pub null_in : K → (heap : Global)
      → Step K 𝓛
      (‵ (handle.the_row.own_val (record { at = null_ptr; value = None; heap = heap }) (one_word vnull ∷ [])) ∷ Γ) G Γ G
  null_in t heap = step (λ next. let word : Val = one_word vnull in
      feq_i t Ptr null_ptr null_ptr refl $ nothing t $ feq_i t (List Val) (vnull ∷ []) (vnull ∷ []) refl $ fjoin t $
      feq_i t (List Val) (word ∷ []) (word ∷ []) refl $ fjoin t $
      fpack t (Valss (RawPtr ∷ [])) (within (shape handle.the_type) (null_ptr, tt) (word ∷ [])) (vnull ∷ [], tt) $
      fjoin t $ next)
