use Rattle.std.proofs.Common.{◌≡◌, ◌+◌, ℕ, Some, ap, sym, subst, arith}
use Rattle.std.specs.Prelude.{◌↔◌, slice_get}
use Rattle.pp_vault.specs.Parts as vault
use Rattle.pp_hall.specs.Halls.{Parts}
use Rattle.pp_hall.specs.Closing.{IsDirtyPage, IsListed}
use Rattle.pp_hall.proofs.Listing.{listed_more, one_mark, all_with, all_without}
use Rattle.pp_hall.proofs.hall.Hall.dirty_pages.Goals as goal
use Rattle.pp_hall.proofs.hall.Hall.dirty_pages.Goals.{in-Some, in_default}

pub loop-page-preserved : goal.loop-page-preserved
loop-page-preserved g c =
    let same = ap (λ (h : Parts). h.seating.vault) c.self.view_is in
    let told : (mark : ℕ) → (c.dirty_mark.result ≡ Some mark)
    ↔ IsDirtyPage c.args.self.now.seating.vault c.loop-page.page mark =
    λ mark. subst (λ (v : vault.Parts). (c.dirty_mark.result ≡ Some mark) ↔ IsDirtyPage v c.loop-page.page mark) same
    (c.dirty_mark.ensures mark) in
    elim c.match-dirty_mark.branch [
      | in-Some w ↦ record {
        few = omega (arith, w.count-is);
        each = λ k page mark less e.
            listed_more (IsDirtyPage c.args.self.now.seating.vault) c.loop-page.into c.loop-page.count c.loop-page.page
            w.in-Some.mark c.loop-page.invariant.each ((told w.in-Some.mark).0 w.in-Some.is) k page mark
            (omega (arith, less, w.count-is)) (subst (λ xs. slice_get xs k ≡ Some (page, mark)) w.into-is e);
        all = λ page mark less d.
            subst (λ n. IsListed n c.match-dirty_mark.into page mark) (sym w.count-is)
            (subst (λ xs. IsListed (c.loop-page.count + 1) xs page mark) (sym w.into-is)
            (all_with (IsDirtyPage c.args.self.now.seating.vault) c.loop-page.into c.loop-page.count c.loop-page.page
            w.in-Some.mark (omega (arith, c.if-count-into.false, c.loop-page.invariant.few))
            (λ m newer. one_mark c.dirty_mark.result w.in-Some.mark w.in-Some.is m ((told m).1 newer))
            c.loop-page.invariant.all page mark less d));
      }
      | in_default w ↦ record {
        few = omega (arith, w.count-is);
        each = λ k page mark less e.
            c.loop-page.invariant.each k page mark (omega (arith, less, w.count-is))
            (subst (λ xs. slice_get xs k ≡ Some (page, mark)) w.into-is e);
        all = λ page mark less d.
            subst (λ n. IsListed n c.match-dirty_mark.into page mark) (sym w.count-is)
            (subst (λ xs. IsListed c.loop-page.count xs page mark) (sym w.into-is)
            (all_without (IsDirtyPage c.args.self.now.seating.vault) c.loop-page.into c.loop-page.count c.loop-page.page
            (λ m newer. w.in_default.not-Some m ((told m).1 newer)) c.loop-page.invariant.all page mark less d));
      }
    ]
