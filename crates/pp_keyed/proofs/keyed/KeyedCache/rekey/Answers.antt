-- What is left to show of KeyedCache::rekey: what had the new key is dropped, and then the page moves.
use Rattle.std.proofs.Common.{◌≡◌, ap, sym, ◌∙◌}
use Rattle.std.proofs.Common.{true, false, not}
use Rattle.std.specs.Prelude.{is_some, is_none}
use Rattle.pp_arc.specs.FourLists.{place}
use Rattle.pp_cache.specs.Frames.{page_of}
use Rattle.pp_cache.specs.Cache.{PageCache, moved_page}
use Rattle.pp_keyed.proofs.RekeyLemmas.{gone-forget, moved-dropped}
use Rattle.pp_keyed.proofs.AnswerLemmas.{some_page, rekey-moved}
use Rattle.pp_keyed.proofs.keyed.KeyedCache.rekey.Goals as goal

pub move_page-requires-clause-unnamed : goal.move_page-requires-clause-unnamed
move_page-requires-clause-unnamed c = ap (λ (s : PageCache). is_some (place s.lists c.args.new)) c.drop_page.ensures.exact
    ∙ gone-forget c.args.self.now.cache.lists c.args.new

pub returns-clause-exact : goal.returns-clause-exact
returns-clause-exact c =
    let not_none : is_none c.frame-frame.result ≡ false = ap not c.if-is_none.ensures in
    let some : is_some (page_of c.args.self.now.cache.table c.args.old) ≡ true =
    some_page (page_of c.args.self.now.cache.table c.args.old) c.frame-frame.result c.frame-frame.ensures.value not_none in
    c.move_page.ensures.exact
    ∙ ap (λ (s : PageCache). moved_page s c.args.old c.args.new) c.drop_page.ensures.exact
    ∙ moved-dropped c.args.self.now.cache c.args.old c.args.new c.if-old-new.false
    ∙ sym (rekey-moved c.args.self.now.cache c.args.old c.args.new c.if-old-new.false some)
