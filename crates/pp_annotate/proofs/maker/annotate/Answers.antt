use Rattle.std.proofs.Common.{◌≡◌, Err, Option, ap, sym, subst, ◌∙◌}
use Rattle.pp_settings.specs.Layout.{Geometry}
use Rattle.pp_settings.specs.Settings.{geometry_of}
use Rattle.pp_plan.specs.Terms.{Terms}
use Rattle.pp_cert.specs.declared.check_error.CheckError.{CheckError}
use Rattle.pp_cert.specs.Claims.{AreClaims}
use Rattle.pp_cert.specs.Walk.{Claims, Certifies, first_fault, fault_of}
use Rattle.pp_annotate.specs.Annotation.{counted_tests, IsTight, IsLeast}
use Rattle.pp_annotate.proofs.Least.{made_least, none_accepted}
use Rattle.pp_annotate.proofs.Told.{made_told}
use Rattle.pp_annotate.proofs.Faults.{made_faults}
use Rattle.pp_annotate.proofs.Same.{made_same}
use Rattle.pp_annotate.proofs.Own.{made_own, made_wall}
use Rattle.pp_annotate.proofs.Tight.{tight}
use Rattle.pp_annotate.proofs.Writable.{writable}
use Rattle.pp_annotate.proofs.maker.annotate.Goals as goal

-- what the test of the certificate answered is the verdict on what is made
verdict : (p : Terms) (g h : Geometry) (c d : Claims) (answer : Option CheckError) → h ≡ g → c ≡ d
    → answer ≡ first_fault h c (counted_tests p) → first_fault g d (counted_tests p) ≡ answer
verdict p g h c d answer layouts claims e =
    sym (e ∙ (λ i. first_fault (layouts i) (claims i) (counted_tests p)))

pub returns-in-None-clause-accepted : goal.returns-in-None-clause-accepted
returns-in-None-clause-accepted c =
    let p = c.args.plan.now in
    let g : Geometry = geometry_of c.args.settings.now in
    let made_is = c.in_ok-certificate.ensures.is in
    let ok = verdict p g _ _ _ _ c.layout-layout.ensures.is made_is c.in-None.ensures in
    subst (λ (x : Claims). Certifies g p x) (sym made_is) (made_told g p c.in_ok-certificate.ensures.facts ok)

pub returns-in-Some-clause-only : goal.returns-in-Some-clause-only
returns-in-Some-clause-only c =
    let e =
    verdict c.args.plan.now (geometry_of c.args.settings.now) _ _ _ _ c.layout-layout.ensures.is
    c.in_ok-certificate.ensures.is c.in-Some.ensures in
    none_accepted (geometry_of c.args.settings.now) c.args.plan.now c.in_ok-certificate.ensures.facts c.in-Some.fault e

pub returns-in-Some-clause-faults : goal.returns-in-Some-clause-faults
returns-in-Some-clause-faults c =
    let e =
    verdict c.args.plan.now (geometry_of c.args.settings.now) _ _ _ _ c.layout-layout.ensures.is
    c.in_ok-certificate.ensures.is c.in-Some.ensures in
    made_faults (geometry_of c.args.settings.now) c.args.plan.now c.in_ok-certificate.ensures.facts c.in-Some.fault e

pub returns-in-None-clause-tight : goal.returns-in-None-clause-tight
returns-in-None-clause-tight c =
    let p = c.args.plan.now in
    let g : Geometry = geometry_of c.args.settings.now in
    let made_is = c.in_ok-certificate.ensures.is in
    let facts = c.in_ok-certificate.ensures.facts in
    let ok = verdict p g _ _ _ _ c.layout-layout.ensures.is made_is c.in-None.ensures in
    subst (λ (x : Claims). IsTight p x) (sym made_is)
    (tight g p facts (made_told g p facts ok) c.in_ok-certificate.ensures.longest)

pub returns-in-None-clause-least : goal.returns-in-None-clause-least
returns-in-None-clause-least c =
    subst (λ (x : Claims). IsLeast (geometry_of c.args.settings.now) c.args.plan.now x)
    (sym c.in_ok-certificate.ensures.is)
    (made_least (geometry_of c.args.settings.now) c.args.plan.now c.in_ok-certificate.ensures.facts)

pub returns-in-None-clause-writable : goal.returns-in-None-clause-writable
returns-in-None-clause-writable c =
    let p = c.args.plan.now in
    let made_is = c.in_ok-certificate.ensures.is in
    let ok =
    verdict p (geometry_of c.args.settings.now) _ _ _ _ c.layout-layout.ensures.is made_is c.in-None.ensures in
    subst (λ (x : Claims). AreClaims c.args.settings.now p x) (sym made_is)
    (writable c.args.settings.now p c.in_ok-certificate.ensures.facts ok)

pub returns-in-Some-clause-same : goal.returns-in-Some-clause-same
returns-in-Some-clause-same c = λ one d fault pages e own.
    let p = c.args.plan.now in
    let g : Geometry = geometry_of c.args.settings.now in
    let own_fault = made_same g p c.in_ok-certificate.ensures.facts one d fault pages e own in
    let answered =
    verdict p g _ _ _ _ c.layout-layout.ensures.is c.in_ok-certificate.ensures.is c.in-Some.ensures in
    let is : fault ≡ c.in-Some.fault = cc in
    ap Err is

pub returns-in-None-clause-same : goal.returns-in-None-clause-same
returns-in-None-clause-same c = λ one d fault pages e own.
    let p = c.args.plan.now in
    let g : Geometry = geometry_of c.args.settings.now in
    let own_fault = made_same g p c.in_ok-certificate.ensures.facts one d fault pages e own in
    let answered =
    verdict p g _ _ _ _ c.layout-layout.ensures.is c.in_ok-certificate.ensures.is c.in-None.ensures in
    absurd (cc)

pub returns-in-Some-clause-own : goal.returns-in-Some-clause-own
returns-in-Some-clause-own c = λ few d test owns failed of_plan.
    let p = c.args.plan.now in
    let g : Geometry = geometry_of c.args.settings.now in
    let own_fault = made_own g p c.in_ok-certificate.ensures.facts d test few owns failed of_plan in
    let answered =
    verdict p g _ _ _ _ c.layout-layout.ensures.is c.in_ok-certificate.ensures.is c.in-Some.ensures in
    let is : fault_of test ≡ c.in-Some.fault = cc in
    ap Err is

pub returns-in-None-clause-own : goal.returns-in-None-clause-own
returns-in-None-clause-own c = λ few d test owns failed of_plan.
    let p = c.args.plan.now in
    let g : Geometry = geometry_of c.args.settings.now in
    let own_fault = made_own g p c.in_ok-certificate.ensures.facts d test few owns failed of_plan in
    let answered =
    verdict p g _ _ _ _ c.layout-layout.ensures.is c.in_ok-certificate.ensures.is c.in-None.ensures in
    absurd (cc)

pub returns-in-Some-clause-wall : goal.returns-in-Some-clause-wall
returns-in-Some-clause-wall c = λ before.
    let p = c.args.plan.now in
    let g : Geometry = geometry_of c.args.settings.now in
    let e =
    verdict p g _ _ _ _ c.layout-layout.ensures.is c.in_ok-certificate.ensures.is c.in-Some.ensures in
    made_wall g p c.in_ok-certificate.ensures.facts c.in-Some.fault before e
