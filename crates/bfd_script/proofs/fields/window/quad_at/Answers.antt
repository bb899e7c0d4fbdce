use Rattle.bfd_script.proofs.FieldsCommon.{arith}
use Rattle.bfd_script.proofs.Quads.{quad_ends}
use Rattle.bfd_script.proofs.fields.window.quad_at.Goals as goal

pub returns-clause-says : goal.returns-clause-says
returns-clause-says c some = quad_ends
    (c.octet_at-a.ensures.says (omega (arith, c.if-second-eq0.false)))
    (c.octet_at-b.ensures.says (omega (arith, c.if-third-eq0.false)))
    (c.octet_at-c.ensures.says (omega (arith, c.if-fourth-eq0.false)))
    (c.octet_at-d.ensures.says some)
    (omega (arith, c.octet_at-a.ensures.near, c.octet_at-b.ensures.near, c.octet_at-c.ensures.near, c.octet_at-d.ensures.near))
