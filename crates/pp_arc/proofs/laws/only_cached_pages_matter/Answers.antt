-- A request looks at cached pages alone.
use Rattle.pp_arc.proofs.RequestLemmas.{request-agrees}
use Rattle.pp_arc.proofs.laws.only_cached_pages_matter.Goals as goal

pub returns : goal.returns
returns c = request-agrees
