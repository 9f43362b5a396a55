use Rattle.lms_sign.proofs.public.LmsPublic.signature_len.Goals as goal

pub returns-in_err-kind-clause-unknown : goal.returns-in_err-kind-clause-unknown
returns-in_err-kind-clause-unknown c = rw (c.from_residual.ensures, ← c.self.view_is) c.in_err-kind.ensures.none
