use Rattle.std.proofs.Common.{◌≡◌, ℕ, ◌<◌, true, false, Some, None, refl, rules}
use Rattle.pp_frames.specs.Least.{least_below, first, nowhere}
use Rattle.pp_frames.specs.KeptInside.{parts_of}
use Rattle.pp_frames.specs.Marks.{PageMap, page_count, stamp_of, has_reached}
use Rattle.pp_frames.proofs.Firsts.{same_first, least_first}
use Rattle.pp_frames.proofs.marks.Marks.first_stamped.Goals as goal

pub returns-then-has_reached-clause-exact : goal.returns-then-has_reached-clause-exact
returns-then-has_reached-clause-exact c =
    let m = c.args.self.now in
    let page = c.loop-page.page in
    let lt : page < page_count m = search rules in
    let is : has_reached c.args.limit (stamp_of m page) ≡ true = search rules in
    same_first (λ k. has_reached c.args.limit (stamp_of m k)) (page_count m) (Some page) _
    (first page refl lt is c.loop-page.invariant)
    (least_first (λ k. has_reached c.args.limit (stamp_of m k)) (page_count m))

pub returns-clause-exact : goal.returns-clause-exact
returns-clause-exact c =
    let m = c.args.self.now in
    let all : (k : ℕ) → k < page_count m → has_reached c.args.limit (stamp_of m k) ≡ false =
    λ k lt. c.loop-page.invariant k (search rules) in
    same_first (λ k. has_reached c.args.limit (stamp_of m k)) (page_count m) None _ (nowhere refl all)
    (least_first (λ k. has_reached c.args.limit (stamp_of m k)) (page_count m))

pub returns-then-not-may_have_reached-clause-exact : goal.returns-then-not-may_have_reached-clause-exact
returns-then-not-may_have_reached-clause-exact c =
    let m : PageMap = (parts_of c.self.inside).marks in
    let all : (k : ℕ) → k < page_count m → has_reached c.args.limit (stamp_of m k) ≡ false =
    λ k lt. c.may_have_reached.ensures c.if-not-may_have_reached.true k in
    rw (← c.self.view_is)
    (same_first (λ k. has_reached c.args.limit (stamp_of m k)) (page_count m) None
    (least_below (λ k. has_reached c.args.limit (stamp_of m k)) (page_count m)) (nowhere refl all)
    (least_first (λ k. has_reached c.args.limit (stamp_of m k)) (page_count m)))
