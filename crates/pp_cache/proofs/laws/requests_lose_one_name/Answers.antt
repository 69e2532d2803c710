-- A request names its page, and loses one name at most.
use Rattle.pp_cache.proofs.NameLemmas.{instead-request}
use Rattle.pp_cache.proofs.laws.requests_lose_one_name.Goals as goal

pub returns : goal.returns
returns c = instead-request
