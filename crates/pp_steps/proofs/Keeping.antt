-- What a hall's calls leave of who is out, and what a turn does.
use Rattle.std.proofs.Common.{◌≡◌, ◌∙◌, ℕ, Bool, true, false, Option, Some, None, inl, inr, refl, sym, ap, subst}
use Rattle.pp_device.specs.declared.device.Device as Device
use Rattle.pp_vault.specs.declared.tokens.Chair.{Chair}
use Rattle.pp_pool.specs.declared.request.Request.{Request}
use Rattle.pp_pool.specs.declared.response.Response.{Response}
use Rattle.pp_pool.specs.declared.turned.Turned.{Turned}
use Rattle.pp_pool.specs.declared.work.Work as Work
use Rattle.pp_pool.specs.declared.worker.Worker.{Worker}
use Rattle.pp_pool.specs.Turns.{TurnIs}
use Rattle.pp_hall.specs.declared.told.Told.{Told}
use Rattle.pp_hall.specs.Halls as halls
use Rattle.pp_hall.specs.Calls.{TakeIs, Performs}
use Rattle.pp_pool.specs.Performing.{is_no}
use Rattle.pp_steps.specs.declared.plans.KeptPlan.{KeptPlan}
use Rattle.pp_steps.specs.Sites.{Parts, SameOut, Refuses, Does, GivesIf, StepGives, has_plan, step_site}

-- ---- a hall's calls

pub take_same : (refused : Bool) (old : halls.Parts) (chair : Chair) (place : ℕ) (response : Response) (told : Told) (new : halls.Parts)
    → TakeIs refused old chair place response told new → SameOut old new
take_same false old chair place response told new t = record {
  peaks = ap (λ (h : halls.Parts). h.seating.peaks) t.settles.rest ∙ ap (λ s. s.peaks) t.takes.rest;
  posts = ap (λ (h : halls.Parts). h.posts) t.settles.rest;
}
take_same true old chair place response told new t = record {
  peaks = ap (λ (h : halls.Parts). h.seating.peaks) t.settles.rest;
  posts = ap (λ (h : halls.Parts). h.posts) t.settles.rest;
}

pub perform_same : (old : halls.Parts) (asked : Request) (response : Response) (told : Told) (new : halls.Parts)
    → Performs old asked response told new → SameOut old new
perform_same old asked response told new p = record {
  peaks = ap (λ (h : halls.Parts). h.seating.peaks) p.settles.rest ∙ ap (λ s. s.peaks) p.performs.rest;
  posts = ap (λ (h : halls.Parts). h.posts) p.settles.rest;
}

-- ---- a turn

-- The site has a hall of which the same are out.
pub record StaysOut (h : halls.Parts) (y : Parts) : Type 0 where
  pub after : halls.Parts
  pub hall : y.hall ≡ Some after
  pub out : SameOut h after

same_out : (h : halls.Parts) → SameOut h h
same_out h = record { peaks = refl; posts = refl }

refused_stays : (x : Parts) (asked : Request) (response : Response) (y : Parts) (h : halls.Parts) → x.hall ≡ Some h
    → Refuses x asked response y → StaysOut h y
refused_stays x asked response y h is r =
    record { after = h; hall = ap (λ (p : Parts). p.hall) r.same ∙ is; out = same_out h }

some_same : (k h : halls.Parts) → Some k ≡ Some h → k ≡ h
some_same k h e = cc

given_stays : (o : Option halls.Parts) (b : Bool) (x : Parts) (asked : Request) (response : Response) (y : Parts)
    (h : halls.Parts) → o ≡ Some h → x.hall ≡ Some h → GivesIf o b x asked response y → StaysOut h y
given_stays None b x asked response y h known is g = refused_stays x asked response y h is g
given_stays (Some k) false x asked response y h known is g = refused_stays x asked response y h is g
given_stays (Some k) true x asked response y h known is g =
    record { after = g.after; hall = g.hall; out = subst (λ (p : halls.Parts). SameOut p g.after) (some_same k h known) g.out }

-- Over each turn the site keeps its hall, and the same are out.
pub turn_stays : {D W : Type 0} (d : Device.Ghosts D) (k : Work.Ghosts W) (old : Worker Parts D) (before : W) (turned : Turned)
    (new : Worker Parts D) (left : W) (h : halls.Parts) → old.site.hall ≡ Some h
    → TurnIs step_site d k old before turned new left → StaysOut h new.site
turn_stays d k old before turned new left h is (inl (inl t)) =
    given_stays old.site.hall (has_plan old.site.plan t.makes.asked) old.site t.makes.asked t.makes.response new.site h is is t.makes.given
turn_stays d k old before turned new left h is (inl (inr t)) =
    given_stays old.site.hall (has_plan old.site.plan t.makes.makes.asked) old.site t.makes.makes.asked t.makes.makes.response
    new.site h is is t.makes.makes.given
turn_stays d k old before turned new left h is (inr w) =
    record { after = h; hall = ap (λ (p : Parts). p.hall) w.site ∙ is; out = same_out h }

-- ---- what a site gives

pub step_refused : (x : Parts) (asked : Request) (response : Response) (y : Parts) → has_plan x.plan asked ≡ false
    → Refuses x asked response y → StepGives x asked response y
step_refused x asked response y lacks r = go x.hall
  where
    go : (o : Option halls.Parts) → GivesIf o (has_plan x.plan asked) x asked response y
    go None = r
    go (Some h) = subst (λ (b : Bool). GivesIf (Some h) b x asked response y) (sym lacks) r

pub step_lacking : (x : Parts) (asked : Request) (response : Response) (y : Parts) → x.hall ≡ None
    → Refuses x asked response y → StepGives x asked response y
step_lacking x asked response y lacks r =
    subst (λ (o : Option halls.Parts). GivesIf o (has_plan x.plan asked) x asked response y) (sym lacks) r

pub step_given : (x : Parts) (h : halls.Parts) (asked : Request) (response : Response) (y : Parts) → x.hall ≡ Some h
    → has_plan x.plan asked ≡ true → Does x h asked response y → StepGives x asked response y
step_given x h asked response y is has d =
    subst (λ (o : Option halls.Parts). GivesIf o (has_plan x.plan asked) x asked response y) (sym is)
    (subst (λ (b : Bool). GivesIf (Some h) b x asked response y) (sym has) d)

-- ---- a hall's call

pub does_take : (plan : KeptPlan) (h : halls.Parts) (chair : Chair) (response : Response) (told : Told) (h' : halls.Parts)
    → TakeIs (is_no response.answer) h chair plan.prepared response told h' → SameOut h h'
does_take plan h chair response told h' t = take_same (is_no response.answer) h chair plan.prepared response told h' t
