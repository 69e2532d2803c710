-- What is left to show of Outset::leave.
use Rattle.std.proofs.Common.{◌∙◌, sym, ap}
use Rattle.pp_arc.specs.FourLists.{FourLists}
use Rattle.pp_frames.specs.Marks.{PageMap}
use Rattle.pp_outset.specs.Outsets.{Outset, notes_in}
use Rattle.pp_outset.proofs.Noting.{noted}
use Rattle.pp_outset.proofs.outset.Outset.leave.Goals as goal

pub copy_lists-requires : goal.copy_lists-requires
copy_lists-requires c =
    let k = c.known.ensures.kept in
    let same = k.stands.lists ∙ sym (c.directory.ensures k.state k.stands) in
    record {
      frames = c.requires.frames ∙ ap (λ (l : FourLists). l.c) same;
      pages = c.requires.pages ∙ ap (λ (l : FourLists). l.pages) same;
    }

pub returns : goal.returns
returns c = λ s stands.
    c.copy_notes.ensures
    ∙ ap (λ (o : Outset). record o { notes = notes_in c.marks.result.now }) c.copy_lists.ensures
    ∙ ap (λ (l : FourLists). record { lists = l; notes = notes_in c.marks.result.now }) (c.directory.ensures s stands)
    ∙ ap (λ (m : PageMap). record { lists = s.lists; notes = notes_in m }) (c.marks.ensures s stands)
    ∙ ap (λ ns. record { lists = s.lists; notes = ns }) (noted s)
