-- What is left to show of Cache::fetch: where the page stands in no frame, pin changes nothing.
use Rattle.std.proofs.Common.{◌≡◌, ℕ, subst, ap, ◌∙◌}
use Rattle.std.specs.Prelude.{Option, is_some, if◌then◌else◌}
use Rattle.pp_cache.specs.declared.fetched.Fetched.TheVariants.{New}
use Rattle.pp_cache.specs.declared.left.Left.{Left}
use Rattle.pp_cache.specs.Frames.{IsFree}
use Rattle.pp_cache.specs.Cache.{PageCache, after_pin, with_room, asked, without_victim}
use Rattle.pp_cache.proofs.cache.Cache.fetch.Goals as goal

pub returns-in-None-clause-new_is_free : goal.returns-in-None-clause-new_is_free
returns-in-None-clause-new_is_free c =
    let s : PageCache = c.args.self.now in
    let key : ℕ = c.args.key in
    let same : c.pin.new.self ≡ s =
    c.pin.ensures.exact ∙ ap (λ (found : Option ℕ). if is_some found then after_pin s key else s) c.in-None.is in
    subst (λ (w : PageCache). (frame : ℕ) (left : Option Left) → c.fetch_absent.result ≡ New frame left
    → IsFree (without_victim (with_room w key).table (asked (with_room w key) key).0) frame) same
    c.fetch_absent.ensures.new_is_free
