-- What a search knows stays right where more pages are busy.
use Rattle.pp_arc.proofs.SearchLemmas.{KnowsBusy-more}
use Rattle.pp_arc.proofs.laws.a_search_stays_right.Goals as goal

pub returns : goal.returns
returns c = λ s k busy other h more. KnowsBusy-more s k busy other more h
