-- A tick by which nothing is due rests.
use Rattle.bfd_instance.proofs.Resting.{rests}
use Rattle.bfd_instance.proofs.world.pass.Goals as goal

pub returns-clause-rests : goal.returns-clause-rests
returns-clause-rests g c =
    rests c.args.t c.args.sessions.now.last c.args.sessions.now.sessions c.apply.new.self.sessions c.args.outs.now.items
    c.apply.new.outs.items c.sessions.ensures.sound c.requires.empty c.apply.ensures.sessions c.apply.ensures.items
