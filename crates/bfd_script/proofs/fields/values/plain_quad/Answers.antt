use Rattle.bfd_script.proofs.Octets.{quad_by_parts}
use Rattle.bfd_script.proofs.fields.values.plain_quad.Goals as goal

pub returns-clause-value : goal.returns-clause-value
returns-clause-value c = quad_by_parts c.args.field.now c.in_ok-a.rest.now c.in_ok-b.rest.now c.in_ok-c.rest.now
    c.in_ok-a.ensures.part c.in_ok-b.ensures.part c.in_ok-c.ensures.part c.in_ok-d.ensures.value
