-- What a site gives that threads share.
use Rattle.pp_pool.specs.declared.request.Request.{Request}
use Rattle.pp_pool.specs.declared.response.Response.{Response}
use Rattle.pp_pool.specs.Replies.{Replies}

-- The response fits the request, and some desk of this type can give it to this request. Which desk, and what it was before, isn't
-- said: what lies under a lock is in no contract, and others move between two calls.
abbrev pub IsGiven : {B : Type 0} → (gives : B → Request → Response → B → Type 0) → Request → Response → Type 0
IsGiven {B = B} gives asked response =
    Replies asked response × ((before : B) × (after : B) × gives before asked response after)
