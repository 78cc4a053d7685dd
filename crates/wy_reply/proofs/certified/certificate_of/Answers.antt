use Rattle.std.proofs.Math.Path.{fun_ext}
use Rattle.std.proofs.Common.{IfOk, subst}
use Rattle.wy_event.specs.Sources.{Owners}
use Rattle.wy_cert.specs.Goodness.{Certifies}
use Rattle.wy_reply.proofs.certified.certificate_of.Goals as goal

pub returns-clause-certificate : goal.returns-clause-certificate
returns-clause-certificate g c = λ rs is.
    subst (λ (owner : Owners). IfOk c.certify.result (λ bytes. Certifies owner rs c.args.seal.now c.args.event bytes.items)) (fun_ext c.requires.opened.owners) (c.certify.ensures.certificate rs is)
