-- `done` lets a handle go that owns nothing.
use Rattle.std.proofs.Common.{List, [], ◌∷◌, ◌++◌, refl, sym, subst}
use mir.Val.{Val, vunit}
use base.Fml.{ftrue}
use base.Logic.{SProp, ent, id⊢}
use prog.Wp.{WpFn}
use types.ByLocal.{alloc_all, pass_all, free_all, look_at, sets}
use types.Kit.{‵, raw, ◌⊛◌, ◌$◌, ◌∵◌, !, qed, by, move, keep, split, fsplit, fjoin, suffices, feq_i}
use types.Run.{of_opd, unit_lit, returns, enter}
use contract.Running.{tables}
use denote.Exit.{yes}
use denote.RattleType.{RattleType, owns}
use denote.Signature.{types_at, plain}
use denote.Steps.{nothing}
use denote.Triple.Walked.{Stays, stay_dropped, Goes-dropped, walk_of}
use Rattle.std.proofs.alloc.Calls.{handle_tells}
use Rattle.std.proofs.raw_atomic.Walks.{proved_at, leaves}
use Rattle.pp_handle.proofs.PartsLemmas.{allocator}
use Rattle.pp_pool_c.proofs.handle.Handle.TheLaws as handle_laws
use Rattle.pp_pool_c.proofs.handle.done.Code as code
use Rattle.pp_pool_c.proofs.handle.done.Statement.{statement}
use Rattle.pp_pool_c.specs.contracts.handle.Handle as handle
use Rattle.pp_pool_c.specs.contracts.handle.Kept as kept
use Rattle.pp_pool_c.specs.contracts.handle.done.{ended, clauses}
use Rattle.pp_pool_c.specs.contracts.handle.done.Key.{name as #self}

pub done_spec : {M : Type 1} → statement M
done_spec 𝓤 𝓛 𝓜 𝓡 wired =
    let H = 𝓛.H in
    let 𝓣 = tables 𝓤 H 𝓜 𝓡 𝓡.env in
    let Given : RattleType = handle.the_row in
    let c = clauses 𝓛 𝓜.mem 𝓡.returns in
    let fn = code.function in
    let stays : Stays ended.signature.params ended.kept = (stay_dropped (plain (λ _. Given)) yes, tt) in
    proved_at 𝓛 ended stays c 𝓜 𝓡 (Goes-dropped 𝓛 0 (plain (λ _. Given)) yes (λ κs x f. refl), tt) #self fn
    (code.unfolded 𝓤 H 𝓜 𝓡 wired) (λ z are.
    let κs = z.0.0 in
    let Post : Val → SProp 𝓤 = (walk_of 𝓛 ended stays c).post z in
    let Run : List Val → SProp 𝓤 = λ words. WpFn 𝓤 H 𝓣.C 𝓣.Λ fn words Post in
    qed 𝓛 ((‵ ftrue ⊛ ‵ (owns (types_at ended.signature.params κs) z.0.3 z.0.4)) ∷ raw ((c κs z.0.3).requires z.1) ∷ [])
    ∵ split ! $ move ! (1 ∷ []) $ fsplit ! $
    handle_tells (allocator kept.the_row Given handle_laws.the_row_laws (record { dealloc_token = λ a σ p. ftrue })) !
    z.0.3.0 z.0.4.0 (λ h us good.
    suffices ! (Run (h ∷ []))
    (subst (λ (xs : List Val). ent 𝓤 (Run (h ∷ [])) (Run xs)) (sym (λ i. us i ++ [])) (id⊢ 𝓤 (Run (h ∷ [])))) $
    enter ! 𝓣.C 𝓣.Λ fn (h ∷ []) Post $ alloc_all ! (λ l. pass_all ! refl (good, tt) $
    sets ! (of_opd ! (unit_lit !)) refl (tt, tt) $
    -- [what the handle owned; no other parameter; no token; that it is null]
    feq_i ! (List Val) (vunit ∷ []) (vunit ∷ []) refl $ nothing ! $ nothing ! $ fjoin ! $
    returns ! (look_at ! 0 refl) $ free_all ! refl $ keep ! (4 ∷ 0 ∷ 1 ∷ 5 ∷ []) $
    by ! (leaves 𝓛 ended stays c z vunit tt _ (tt, tt)))))
