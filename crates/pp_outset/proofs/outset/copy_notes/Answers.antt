-- What is left to show of copy_notes: one note more is copied, and there is room for it.
use Rattle.std.proofs.Common.{◌∙◌, ◌∷◌, ◌++◌, [], ap, sym, length, arith}
use Rattle.std.specs.Prelude.{map}
use Rattle.std.specs.List.{range_with_len}
use Rattle.std.proofs.lemmas.List.{map-append, length-map}
use Rattle.std.proofs.lemmas.List.FromFn.{length-map-range_with_len, map-range_with_len_more}
use Rattle.pp_outset.specs.Inside.{note_as}
use Rattle.pp_outset.specs.Outsets.{note_in}
use Rattle.pp_outset.proofs.outset.copy_notes.Goals as goal

pub push_reserved-requires : goal.push_reserved-requires
push_reserved-requires c =
    omega (
      arith,
      ap length c.loop-page.invariant.notes,
      length-map c.loop-page.into.items note_as,
      length-map-range_with_len (note_in c.args.marks.now) 0 c.loop-page.page,
      c.requires,
      c.pages-page-end.ensures.value,
      c.loop-page-test.true,
      c.loop-page.invariant.room,
    )

pub loop-page-preserved : goal.loop-page-preserved
loop-page-preserved c = record {
  notes =
      ap (map note_as) c.push_reserved.ensures.items ∙ map-append note_as c.loop-page.into.items (c.of.result ∷ [])
      ∙ ap (λ ns. ns ++ note_as c.of.result ∷ []) c.loop-page.invariant.notes
      ∙ ap (λ n. map (note_in c.args.marks.now) (range_with_len 0 c.loop-page.page) ++ n ∷ []) c.of.ensures
      ∙ sym (map-range_with_len_more (note_in c.args.marks.now) 0 c.loop-page.page c.loop-page.page (omega arith));
  room = c.push_reserved.ensures.capacity ∙ c.loop-page.invariant.room;
}
