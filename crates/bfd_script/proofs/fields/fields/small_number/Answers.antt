use Rattle.bfd_script.proofs.FieldsCommon.{length, arith, rules, nat_tests}
use Rattle.std.proofs.lemmas.Grind.{common_steps}
use Rattle.bfd_script.proofs.Decimal.{room_first, room_more, room_now}
use Rattle.bfd_script.proofs.fields.fields.small_number.Goals as goal

pub loop-rest-init : goal.loop-rest-init
loop-rest-init c = (search rules, search rules, room_first (length c.args.field.now) (omega arith))

pub overflow_mul-n : goal.overflow_mul-n
overflow_mul-n c = let room = room_now c.loop-rest.n (length c.loop-rest.rest.now) c.loop-rest.invariant.2 in omega (arith, room)

pub overflow_add-n : goal.overflow_add-n
overflow_add-n c = let room = room_now c.loop-rest.n (length c.loop-rest.rest.now) c.loop-rest.invariant.2 in grind (arith, nat_tests, room)

pub loop-rest-preserved : goal.loop-rest-preserved
loop-rest-preserved c = (
  grind (arith, common_steps),
  grind (arith, common_steps),
  room_more c.loop-rest.n _ _ (length c.loop-rest.rest.now) (grind (arith, nat_tests)) (omega arith) c.loop-rest.invariant.2,
)
