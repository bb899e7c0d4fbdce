use Rattle.bfd_script.proofs.FieldsCommon.{arith}
use Rattle.bfd_script.proofs.UsualRows.{point_begins}
use Rattle.bfd_script.proofs.line.usual_rows.point_at.Goals as goal

pub returns-clause-begins : goal.returns-clause-begins
returns-clause-begins c live = rw c.config.ensures.value (point_begins _ _ (omega (arith, c.told-text))
    c.if-text-ne112.false c.if-text-ne50.false c.if-text-ne112-2.false c.if-text-ne32.false c.in_ok-discr.ensures.says
    c.in_ok-role.ensures.says c.in_ok-iface.ensures.says c.in_ok-local.ensures.says c.in_ok-remote.ensures.says
    c.in_ok-active.ensures.says c.in_ok-tx.ensures.says c.in_ok-rx.ensures.says c.in_ok-mult.ensures.says c.in_ok-echo.ensures.says
    c.in_ok-seed.ensures.says (omega (
      arith,
      c.in_ok-discr.ensures.near,
      c.in_ok-role.ensures.near,
      c.in_ok-iface.ensures.near,
      c.in_ok-local.ensures.near,
      c.in_ok-remote.ensures.near,
      c.in_ok-active.ensures.near,
      c.in_ok-tx.ensures.near,
      c.in_ok-rx.ensures.near,
      c.in_ok-mult.ensures.near,
      c.in_ok-echo.ensures.near,
      c.in_ok-seed.ensures.near,
    )) live)
