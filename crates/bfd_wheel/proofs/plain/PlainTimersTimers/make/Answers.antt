use Rattle.bfd_wheel.proofs.Views.{none_yet}
use Rattle.bfd_wheel.proofs.plain.PlainTimersTimers.make.Goals as goal

pub returns : goal.returns
returns c = none_yet c.args.count _ c.in_ok-dues.ensures
