use Rattle.std.proofs.Common.{string_bytes}
use Rattle.serde_json.specs.View.{view}
use Rattle.pp_cert.specs.Claims.{claims_of}
use Rattle.pp_cert.proofs.Spelled.{reads_as}
use Rattle.pp_cert.proofs.Written.{text_is}
use Rattle.pp_cert.proofs.certificate.Certificate.to_text.Goals as goal

pub returns-clause-text : goal.returns-clause-text
returns-clause-text c =
    text_is c.args.settings.now c.args.plan.now c.layout.ensures.settings c.body.ensures.facts
    (claims_of c.args.self.now) c.requires (view c.in_ok-value.value) (string_bytes c.in_ok-to_string.field-0)
    c.in_ok-value.ensures c.in_ok-to_string.ensures.text

pub returns-clause-reads_back : goal.returns-clause-reads_back
returns-clause-reads_back c =
    reads_as c.args.settings.now c.args.plan.now c.layout.ensures.settings c.body.ensures.facts
    (claims_of c.args.self.now) c.requires (view c.in_ok-value.value) (string_bytes c.in_ok-to_string.field-0)
    c.in_ok-value.ensures c.in_ok-to_string.ensures.reads_back
