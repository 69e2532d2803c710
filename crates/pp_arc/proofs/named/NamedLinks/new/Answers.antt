-- What is left to show of NamedLinks::new: no page has a node, and each node is free.
use Rattle.std.proofs.Common.{◌≡◌, ℕ, length, arith, ap, refl, ◌∙◌}
use Rattle.std.specs.Prelude.{replicate}
use Rattle.std.proofs.lemmas.List.{length-replicate}
use Rattle.pp_arc.proofs.NamingLemmas.{IsNaming-new}
use Rattle.pp_arc.proofs.named.NamedLinks.new.Goals as goal

pub invariant_of-result : goal.invariant_of-result
invariant_of-result c =
    let names : c.in_ok-vec.field-0.items ≡ replicate c.args.pages 0 =
    c.in_ok-vec.ensures.items_if_clones_equal (λ y e. e) in
    let pages : c.in_ok-vec-2.field-0.items ≡ replicate c.args.nodes 0 =
    c.in_ok-vec-2.ensures.items_if_clones_equal (λ y e. e) in
    IsNaming-new _ c.args.nodes c.args.pages c.in_ok-new.ensures.empty
    (ap (length {A = ℕ}) pages ∙ length-replicate {A = ℕ} c.args.nodes 0) c.loop-node.invariant.size refl
    c.requires.fits (λ k lt. c.loop-node.invariant.filled k (omega arith)) names
