-- The id of the key at a place names it.
use Rattle.bfd_packet.proofs.KeyRules.{names_itself}
use Rattle.bfd_packet.proofs.keys.Keys.key_at.Goals as goal

pub returns-clause-named : goal.returns-clause-named
returns-clause-named c = names_itself c.args.self.now.list c.nth.ensures.ids c.requires c.nth.ensures.value
