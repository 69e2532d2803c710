-- How the two parts of a box lie in memory, and what they own: what the walks of this crate and of its users take apart and
-- put together. Its form is that of the kit's once_cell (MIT or Apache-2.0), whose own is private.
use Rattle.std.proofs.Common.{◌≡◌, ℕ, List, [], ◌∷◌, ◌++◌, refl, subst}
use mathlib.Core.Bool.{true, ◌&&◌}
use lib.Dec.{T}
use seplogic.Ra.Ura.{Ura}
use mir.Raw.{raw as bare}
use mir.Syntax.{impl, tnil, dnil}
use mir.Val.{Val, vptr, vstruct, vcons, vnil, of_list, has_ty, WT}
use base.Logic.{never, fst∗}
use types.Logic.{Logic, sem}
use types.Kit.{Item, Goal, Seq, Step, step, ‵, ◌$◌, move, drop, fsplit, fjoin, fpick, fpack, feq_i, feq_l}
use denote.Builtin.{RawPtr}
use denote.Memory.{lone}
use denote.Param.{layout}
use denote.Param.Laws.{Laws}
use denote.RattleType.{RattleType, Valss}
use denote.RawPtr.{Ptr, block_ptr, null_ptr, ptr_val, in_a_block}
use denote.Steps.{nothing}
use denote.Struct.Owning.{shape}
use denote.Struct.Struct.{within}
use Rattle.std.specs.declared.alloc.Allocator.{Ghosts}
use Rattle.std.proofs.alloc.Calls.{Al, handle_tells}
use Rattle.std.proofs.cell.Inside.{Good}
use Rattle.std_alloc.proofs.ResultValues.{and_tt}
use Rattle.std_alloc.specs.Box.Ownership.{box_owns}
use Rattle.pp_handle.specs.contracts.parts.BoxParts as parts

-- two words as the machine has them, one after the other
abbrev pub two : Val → Val → Val
two first second = vstruct (vcons first (vcons second vnil))

module _ (Value Alloc : RattleType) (laws : Laws Alloc) (ghosts : Ghosts Alloc.Denot) where
  abbrev pub Parts : RattleType
  Parts = parts.the_row Value Alloc ghosts

  abbrev pub allocator : Al
  allocator = record { row = Alloc; laws = laws; g = ghosts; d = impl [] tnil dnil; drops = impl [] tnil dnil }

  pub two-good : (block offset : ℕ) (handle : Val) → Good (layout Alloc) handle
      → T (has_ty (layout Alloc) handle && true) × WT (two (vptr block offset) handle)
  two-good block offset handle good = (and_tt (has_ty (layout Alloc) handle) good.0, (tt, (good.1, tt)))

  module _ {M : Type 1} {𝓤 : Ura M} {𝓛 : Logic 𝓤} {K : Type 0} {Γ : List (Item 𝓤)} {G : Goal 𝓤 𝓛.H} where
    -- parts taken apart: the pointer is in a block, and what the box owned stands first
    pub parts_out : K → (d : Parts.Denot) (words : List Val)
        → ((block offset : ℕ) (handle : Val) → d.at ≡ block_ptr block offset
        → words ≡ two (vptr block offset) handle ∷ [] → Good (layout Alloc) handle
        → Seq K 𝓛
        (‵ (box_owns (ghosts.dealloc_token d.alloc) Value (block_ptr block offset) d.value)
        ∷ ‵ (Alloc.own_val d.alloc (handle ∷ [])) ∷ Γ) G)
        → Seq K 𝓛 (‵ (Parts.own_val d words) ∷ Γ) G
    parts_out t d words next =
        fsplit t $ fpick t (λ fields. fsplit t $ feq_l t (λ whole. fsplit t $ feq_l t (λ first. fsplit t
        $ handle_tells allocator t d.alloc fields.1.0 (λ handle second good. move t (1 ∷ []) $ drop t $ move t (1 ∷ [])
        $ in_a_block t d.at (λ p. box_owns (ghosts.dealloc_token d.alloc) Value p d.value)
        (fst∗ 𝓤 (never 𝓤) (sem 𝓛 (ghosts.dealloc_token d.alloc (bare (lone Value.mir)) null_ptr))) (λ block offset is.
        let by_rows : words ≡ vstruct (of_list (ptr_val d.at ∷ (fields.1.0 ++ []))) ∷ [] =
        subst (λ (row : List Val). words ≡ vstruct (of_list (row ++ (fields.1.0 ++ []))) ∷ []) first whole in
        let by_handle : words ≡ vstruct (of_list (ptr_val d.at ∷ handle ∷ [])) ∷ [] =
        subst (λ (row : List Val). words ≡ vstruct (of_list (ptr_val d.at ∷ (row ++ []))) ∷ []) second by_rows in
        next block offset handle is
        (subst (λ (p : Ptr). words ≡ vstruct (of_list (ptr_val p ∷ handle ∷ [])) ∷ []) is by_handle) good)))))

    -- and put together
    pub parts_in : K → (block offset : ℕ) (handle : Val) (a : Alloc.Denot) (x : Value.Denot)
        → Step K 𝓛
        (‵ (Parts.own_val (record { at = block_ptr block offset; alloc = a; value = x }) (two (vptr block offset) handle ∷ []))
        ∷ Γ) G
        (‵ (box_owns (ghosts.dealloc_token a) Value (block_ptr block offset) x) ∷ ‵ (Alloc.own_val a (handle ∷ [])) ∷ Γ) G
    parts_in t block offset handle a x = step (λ next. let word : Val = two (vptr block offset) handle in
        nothing t $ move t (2 ∷ 0 ∷ []) $ fjoin t $ feq_i t (List Val) (vptr block offset ∷ []) (vptr block offset ∷ []) refl
        $ fjoin t $ feq_i t (List Val) (word ∷ []) (word ∷ []) refl $ fjoin t
        $ fpack t (Valss (RawPtr ∷ Alloc ∷ []))
        (within (shape (parts.the_type Value Alloc ghosts)) (block_ptr block offset, (a, tt)) (word ∷ []))
        (vptr block offset ∷ [], (handle ∷ [], tt)) $ fjoin t $ next)
