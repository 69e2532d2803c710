-- What a request does to the cache.
use Rattle.pp_arc.proofs.CacheLemmas.{CachesInstead-request, SameSizes-request}
use Rattle.pp_arc.proofs.RequestLemmas.{unchanged-request, front-request}
use Rattle.pp_arc.proofs.laws.request_does_so.Goals as goal

pub returns-clause-unchanged : goal.returns-clause-unchanged
returns-clause-unchanged c = unchanged-request

pub returns-clause-front : goal.returns-clause-front
returns-clause-front c = front-request

pub returns-clause-cache : goal.returns-clause-cache
returns-clause-cache c = CachesInstead-request

pub returns-clause-fixed : goal.returns-clause-fixed
returns-clause-fixed c = SameSizes-request
