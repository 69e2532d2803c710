use Rattle.std.proofs.Common.{◌∙◌, sym}
use Rattle.serde_json.specs.View.{view}
use Rattle.pp_text.specs.Views.{texts}
use Rattle.pp_text.proofs.Trees.{only_some}
use Rattle.pp_text.proofs.objects.has_only_keys.Goals as goal

pub returns-in-Some : goal.returns-in-Some
returns-in-Some c =
    c.are_keys.ensures
    ∙ only_some (texts c.args.known.now) (view c.args.value.now) c.in-Some.members.now
    (sym (rw c.in-Some.is at c.as_object.ensures))
