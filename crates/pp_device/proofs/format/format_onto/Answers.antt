use Rattle.std.proofs.Common.{rules, ◌≡◌, ℕ, ◌++◌, List, length, take, drop, sym, ap, subst, vec_len, ◌∙◌}
use Rattle.std.specs.Prelude.{replicate}
use Rattle.std.specs.Io.KnownBytes.{Appends}
use Rattle.std.proofs.KnownBytes.{Appends-nil, Appends-trans}
use Rattle.pp_device.specs.Image.{blank_image, with_head}
use Rattle.pp_device.specs.DeviceFile.{blank_file}
use Rattle.pp_device.proofs.Files.{blank_file-more, replaced}
use Rattle.pp_device.proofs.format.format_onto.Goals as goal

pub loop-page-init : goal.loop-page-init
unfolding blank_file
loop-page-init g c =
    let items : c.args.image.items ≡ replicate (vec_len c.args.image) 0 = search rules in
    (search rules, (λ page. ap (λ bytes. with_head bytes page 0) items), Appends-nil (g.W.Write.contents c.args.out.now))

pub loop-page-preserved : goal.loop-page-preserved
loop-page-preserved g c =
    let made : c.make.new.image ≡ with_head c.loop-page.image.items c.loop-page.page 0 = search rules in
    let whole : length c.make.new.image ≡ c.loop-page.image.len = search rules in
    let blank : c.make.new.image ≡ blank_image (vec_len c.args.image) c.loop-page.page = made ∙ c.loop-page.invariant.1 c.loop-page.page in
    let after : take c.loop-page.image.len (c.make.new.image ++ drop (length c.make.new.image) c.loop-page.image.items) ≡ c.make.new.image =
    replaced c.loop-page.image.items c.make.new.image c.loop-page.image.len whole in
    let added : List ℕ → Type 0 = λ bytes. Appends (g.W.Write.contents c.loop-page.out) (g.W.Write.contents c.write_all.new.self) bytes in
    let all : List ℕ → Type 0 = λ bytes. Appends (g.W.Write.contents c.args.out.now) (g.W.Write.contents c.write_all.new.self) bytes in (
      c.loop-page.invariant.0,
      (λ page. ap (λ bytes. with_head bytes page 0) (after ∙ made) ∙ c.loop-page.invariant.1 page),
      subst all (sym (blank_file-more (vec_len c.args.image) c.loop-page.page))
          (Appends-trans _ _ _ _ _ c.loop-page.invariant.2 (subst added (c.deref.ensures.value ∙ after ∙ blank) c.in_ok-write_all.ensures.bytes)),
    )
