use Rattle.std.proofs.Common.{◌≡◌, ◌∙◌, ◌-◌, ◌++◌, ap, refl, ℕ, List, take, drop, length}
use Rattle.std.proofs.lemmas.List.{take_rest}
use Rattle.pp_vault.specs.Lending.{behind_head, with_body}
use Rattle.pp_vault.proofs.image.Image.body_mut.Goals as goal

pub returns : goal.returns
returns c =
    let items : List ℕ = c.self.inside.bytes.items in
    let same : items ≡ c.args.self.now = c.self.view_is in
    let long : c.self.inside.bytes.len ≡ length items = c.self.inside.bytes.ok.0 in (
      (
        refl,
        λ w.
            ap (λ n. take n (behind_head items w ++ drop (length (behind_head items w)) items)) long
            ∙ ap (λ xs. with_body xs w) same,
      ),
      record {
        writes_back = tt;
        body =
            c.slice_mut.ensures.value ∙ ap (λ n. take (n - 12) (drop 12 items)) long ∙ take_rest items 12
            ∙ ap (λ xs. drop 12 xs) same;
      },
    )
