-- A cached page that is asked for: the request is a hit.
use Rattle.std.proofs.Common.{◌≡◌, ◌≢◌, ℕ, Bool, true, false, cond, ap, sym, subst, ◌∙◌, inl, inr}
use Rattle.std.specs.Prelude.{IsSome}
use Rattle.pp_arc.specs.declared.answer.Answer.{Answer}
use Rattle.pp_arc.specs.declared.answer.Answer.TheVariants.{Hit, AllBusy}
use Rattle.pp_arc.specs.FourLists.{FourLists}
use Rattle.pp_arc.specs.Bounds.{IsWithinBounds}
use Rattle.pp_arc.specs.Laws.{CachesInstead}
use Rattle.pp_arc.proofs.CacheLemmas.{CachesInstead-request, SameSizes-request}
use Rattle.pp_cache.specs.Frames.{page_of, is_pinned, with_pinned}
use Rattle.pp_cache.specs.Cache.{PageCache, IsTogether, after_pin, asked}
use Rattle.pp_cache.proofs.CacheLemmas.{together-pin}

pub pin-touched : (s : PageCache) (key : ℕ) (lists : FourLists) → is_pinned s.table key ≡ false → asked s key ≡ (Hit, lists)
    → (let t : PageCache = record { lists = lists; table = with_pinned s.table key true } in t) ≡ after_pin s key
pin-touched s key lists free e =
    ap (λ (l : FourLists). record { lists = l; table = with_pinned s.table key true }) (sym (ap (λ (p : Answer × FourLists). p.1) e))
    ∙ sym (ap (λ (b : Bool). cond b s (record { lists = (asked s key).1; table = with_pinned s.table key true })) free)

pub together-touched : (s : PageCache) (key : ℕ) (lists : FourLists) → IsTogether s → IsWithinBounds s.lists
    → IsSome (page_of s.table key) → asked s key ≡ (Hit, lists)
    → IsTogether (record { lists = lists; table = with_pinned s.table key true })
together-touched s key lists h b some e = together-pin s lists key h some pages
    (λ x c. elim ((instead x).0 c) [ inl i ↦ inl i | inr w ↦ inr w.0 ])
    (λ x c. (instead x).1 (inr (c, λ n. cc)))
  where
    instead : CachesInstead s.lists lists key Hit
    instead = subst (λ (p : Answer × FourLists). p.0 ≢ AllBusy → CachesInstead s.lists p.1 key p.0) e
        (CachesInstead-request s.lists key (is_pinned s.table) b) (λ n. cc)

    pages : lists.pages ≡ s.lists.pages
    pages = subst (λ (p : Answer × FourLists). p.1.pages ≡ s.lists.pages) e ((SameSizes-request s.lists key (is_pinned s.table)).1)
