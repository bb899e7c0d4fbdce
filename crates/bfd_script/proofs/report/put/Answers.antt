use Rattle.bfd_script.proofs.Common.{◌-◌, arith, length}
use Rattle.bfd_script.proofs.Rooms.{put_at}
use Rattle.bfd_script.proofs.report.put.Goals as goal

pub returns-clause-text : goal.returns-clause-text
returns-clause-text c = put_at (c.args.at - length c.args.word.now) (c.args.at - (c.args.at - length c.args.word.now)) c.args.at
    c.args.room.now c.copy_from_slice.new.self (omega arith) (omega arith) c.copy_from_slice.ensures.after
