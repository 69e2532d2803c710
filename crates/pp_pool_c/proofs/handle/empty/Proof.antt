-- `empty` makes a null handle, which owns nothing.
use Rattle.std.proofs.Common.{◌≡◌, List, [], ◌∷◌, ◌++◌, refl, sym, subst}
use mir.Val.{Val, vnull}
use base.Fml.{ftrue}
use base.Logic.{SProp, ent, emp, id⊢}
use prog.Wp.{WpFn}
use types.ByLocal.{alloc_all, pass_all, free_all, look_at, sets}
use types.Kit.{‵, raw, ◌⊛◌, ◌$◌, ◌∵◌, !, qed, by, move, keep, split, fsplit, fjoin, suffices, use0}
use types.Part.{agg}
use types.Run.{lit, no_more, and_then, returns, enter}
use contract.Monad.{fact, fact_i}
use contract.Running.{tables}
use denote.Exit.{yes}
use denote.RattleType.{RattleType, owns}
use denote.RawPtr.{null_ptr}
use denote.Signature.{types_at, plain}
use denote.Steps.{nothing}
use denote.Triple.Walked.{Stays, stay_dropped, Goes-dropped, walk_of}
use Rattle.std.proofs.alloc.Calls.{handle_tells}
use Rattle.std.proofs.raw_atomic.Walks.{proved_at, leaves}
use Rattle.std.specs.declared.option.Option.{Option}
use Rattle.std.specs.declared.option.Option.TheVariants.{None}
use Rattle.std_heap.proofs.Global.TheLaws as heap_laws
use Rattle.std_heap.specs.contracts.Global as heap
use Rattle.std_heap.specs.contracts.GlobalAllocator.TheImpl.{ghosts}
use Rattle.pp_handle.proofs.PartsLemmas.{allocator}
use Rattle.pp_pool_c.proofs.HandleLemmas.{one_word, null-good, null_in}
use Rattle.pp_pool_c.proofs.handle.empty.Code as code
use Rattle.pp_pool_c.proofs.handle.empty.Statement.{statement}
use Rattle.pp_pool_c.specs.contracts.handle.Kept as kept
use Rattle.pp_pool_c.specs.contracts.handle.empty.{ended, clauses}
use Rattle.pp_pool_c.specs.contracts.handle.empty.Key.{name as #self}
use Rattle.pp_pool_c.specs.declared.handle.Kept.{Kept}

abbrev no_pool : Option Kept
no_pool = None

pub empty_spec : {M : Type 1} → statement M
empty_spec 𝓤 𝓛 𝓜 𝓡 wired =
    let H = 𝓛.H in
    let 𝓣 = tables 𝓤 H 𝓜 𝓡 𝓡.env in
    let Alloc : RattleType = heap.the_row in
    let c = clauses 𝓛 𝓜.mem 𝓡.returns in
    let fn = code.function in
    let stays : Stays ended.signature.params ended.kept = (stay_dropped (plain (λ _. Alloc)) yes, tt) in
    proved_at 𝓛 ended stays c 𝓜 𝓡 (Goes-dropped 𝓛 0 (plain (λ _. Alloc)) yes (λ κs x f. refl), tt) #self fn
    (code.unfolded 𝓤 H 𝓜 𝓡 wired) (λ z are.
    let κs = z.0.0 in
    let a = z.0.3.0 in
    let Post : Val → SProp 𝓤 = (walk_of 𝓛 ended stays c).post z in
    let Run : List Val → SProp 𝓤 = λ words. WpFn 𝓤 H 𝓣.C 𝓣.Λ fn words Post in
    qed 𝓛 ((‵ ftrue ⊛ ‵ (owns (types_at ended.signature.params κs) z.0.3 z.0.4)) ∷ raw ((c κs z.0.3).requires z.1) ∷ [])
    ∵ split ! $ move ! (1 ∷ []) $ fsplit ! $
    handle_tells (allocator kept.the_row Alloc heap_laws.the_row_laws ghosts) ! a z.0.4.0 (λ h us good.
    suffices ! (Run (h ∷ []))
    (subst (λ (xs : List Val). ent 𝓤 (Run (h ∷ [])) (Run xs)) (sym (λ i. us i ++ [])) (id⊢ 𝓤 (Run (h ∷ [])))) $
    enter ! 𝓣.C 𝓣.Λ fn (h ∷ []) Post $ alloc_all ! (λ l. pass_all ! refl (good, tt) $
    sets ! (agg ! (and_then ! (lit ! tt) (no_more !))) refl null-good $
    -- [the allocator; no other parameter; no token; no requires]
    null_in ! a $ use0 𝓛 (raw (fact 𝓤 (no_pool ≡ no_pool))) (fact_i 𝓤 (no_pool ≡ no_pool) (emp 𝓤) refl) $
    nothing ! $ nothing ! $ fjoin ! $
    returns ! (look_at ! 0 refl) $ free_all ! refl $ keep ! (5 ∷ 0 ∷ 2 ∷ 1 ∷ []) $
    by ! (leaves 𝓛 ended stays c z (one_word vnull) (record { at = null_ptr; value = None; heap = a }) _ (tt, tt)))))
