use Rattle.bfd_script.proofs.Continuing.{closed}
use Rattle.std.proofs.Common.{rules}
use Rattle.bfd_script.proofs.reader.Reader.close.Goals as goal

pub returns-else-is_empty : goal.returns-else-is_empty
returns-else-is_empty c =
    closed c.end.result c.args.self.now c.end.new.self (search rules) (search rules) c.end.ensures.begun c.end.ensures.told
