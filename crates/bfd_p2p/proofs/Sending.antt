-- A packet goes out plain where the session has no keys, and else sealed.
use Rattle.std.proofs.Common.{◌≡◌, Bool, refl, List, [], None, Some}
use Rattle.bfd_packet.specs.KeyChain.{KeyChain}
use Rattle.bfd_packet.specs.Layout.{text_of}
use Rattle.bfd_auth.specs.Sealed.{sealed, sealed_seq}
use Rattle.bfd_rules.specs.declared.config.Config.{Config}
use Rattle.bfd_rules.specs.declared.outputs.Out.{Out}
use Rattle.bfd_rules.specs.declared.variables.Vars.{Vars}
use Rattle.bfd_rules.specs.declared.variables.Mark.{Mark}
use Rattle.bfd_rules.specs.EventFrame.{course, sends}
use Rattle.bfd_p2p.specs.Transmit.{datagram_of, packet_of, transmits}

pub sends_plain : (c : Config) (poll fin : Bool) (v : Vars) (m : Mark) (os : List Out) → c.keys ≡ None
    → transmits c poll fin (course v m os) ≡ sends c.discr (datagram_of c (text_of (packet_of c v poll fin) [])) (course v m os)
unfolding transmits
sends_plain c poll fin v m os plain = rw plain refl

pub sends_sealed : (c : Config) (poll fin : Bool) (v : Vars) (m : Mark) (os : List Out) (keys : KeyChain) → c.keys ≡ Some keys
    → transmits c poll fin (course v m os)
    ≡ sends c.discr (datagram_of c (sealed keys v.sending v.seq (packet_of c v poll fin)))
    (course (record v { seq = sealed_seq keys v.seq }) m os)
unfolding transmits
sends_sealed c poll fin v m os keys there = rw there refl
