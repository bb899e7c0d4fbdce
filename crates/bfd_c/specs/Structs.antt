-- What C reads of an output, of an answer and of a fault, field by field. What a kind doesn't use is 0.
use Rattle.std.specs.Prelude.{ℕ, ◌-◌, ◌++◌, List, length, replicate}
use Rattle.bfd_packet.specs.Layout.{state_number}
use Rattle.bfd_packet.specs.TestNames.{name_of}
use Rattle.bfd_rules.specs.declared.commands.Refusal.{Refusal}
use Rattle.bfd_rules.specs.declared.commands.Refusal.TheVariants.{PollBusy, WrongState, OutOfRange, WrongKind, UnknownSession}
use Rattle.bfd_rules.specs.declared.outputs.Out.{Out}
use Rattle.bfd_rules.specs.declared.outputs.Out.TheVariants.{Changed, Sent}
use Rattle.bfd_session.specs.declared.event.Answer.{Answer}
use Rattle.bfd_session.specs.declared.event.Answer.TheVariants.{Handled, Ticked, Dropped, Refused, Shown as Showing}
use Rattle.bfd_session.specs.declared.event.Shown.{Shown}
use Rattle.bfd_script.specs.declared.fields.fault.LineFault.{LineFault}
use Rattle.bfd_script.specs.declared.fields.fault.LineFault.TheVariants as faults
use Rattle.bfd_script.specs.declared.fields.fault.BadLine.{BadLine}
use Rattle.bfd_c.specs.declared.opening.Complaint.{Complaint}
use Rattle.bfd_rules.specs.Names.{refusal_name}
use Rattle.bfd_c.specs.declared.structs.Output.{Output}
use Rattle.bfd_c.specs.declared.structs.Answered.{Answered}
use Rattle.bfd_c.specs.declared.wire.Address.{Address}
use Rattle.bfd_c.specs.Wire.{address_for_c}
use Rattle.bfd_c.specs.Records.{test_number}
use Rattle.bfd_c.specs.Sizes.{answered_size, complaint_size, output_size}

-- bytes with zeros behind them
abbrev pub zero_filled : ℕ → List ℕ → List ℕ
zero_filled size bytes = bytes ++ replicate (size - length bytes) 0

-- a name in an array of 20
abbrev pub name_bytes : List ℕ → List ℕ
name_bytes name = zero_filled 20 name

-- the address when nothing is sent
abbrev pub nowhere : Address
nowhere = record { family = 0; bytes = replicate 16 0 }

-- a change of state has the kind 1, a packet to send the kind 2
abbrev pub output_of : Out → Output
output_of (Changed discr old new diag) = record {
  size = output_size;
  kind = 1;
  discr = discr;
  was = state_number old;
  state = state_number new;
  diag = diag;
  ttl = 0;
  iface = 0;
  sport = 0;
  dport = 0;
  src = nowhere;
  dst = nowhere;
  len = 0;
  bytes = replicate 52 0;
}
output_of (Sent discr d) = record {
  size = output_size;
  kind = 2;
  discr = discr;
  was = 0;
  state = 0;
  diag = 0;
  ttl = d.ttl;
  iface = d.iface;
  sport = d.sport;
  dport = d.dport;
  src = address_for_c d.src;
  dst = address_for_c d.dst;
  len = length d.bytes;
  bytes = zero_filled 52 d.bytes;
}

-- the number of a refusal
abbrev pub refusal_number : Refusal → ℕ
refusal_number PollBusy = 1
refusal_number WrongState = 2
refusal_number OutOfRange = 3
refusal_number WrongKind = 4
refusal_number UnknownSession = 5

-- an answer without a view: 0 handled, 1 ticked, 2 dropped by a test, 3 refused; and the session to which the event came
abbrev pub plain_answer : ℕ → ℕ → List ℕ → ℕ → Answered
plain_answer kind code name discr = record {
  size = answered_size;
  kind = kind;
  code = code;
  name = name;
  discr = discr;
  state = 0;
  diag = 0;
  remote_state = 0;
  poll = 0;
  remote_discr = 0;
  adv_tx = 0;
  used_tx = 0;
  used_rx = 0;
  detect = 0;
}

-- what a session shows has the kind 4
abbrev pub view_of : Shown → Answered
view_of s = record {
  size = answered_size;
  kind = 4;
  code = 0;
  name = replicate 20 0;
  discr = s.discr;
  state = state_number s.state;
  diag = s.diag;
  remote_state = state_number s.remote_state;
  poll = s.poll;
  remote_discr = s.remote_discr;
  adv_tx = s.adv_tx;
  used_tx = s.used_tx;
  used_rx = s.used_rx;
  detect = s.detect;
}

-- the answer to an event that came to the session of a discriminator, or to none
abbrev pub answer_for_c : ℕ → Answer → Answered
answer_for_c discr Handled = plain_answer 0 0 (replicate 20 0) discr
answer_for_c discr Ticked = plain_answer 1 0 (replicate 20 0) discr
answer_for_c discr (Dropped test) = plain_answer 2 (test_number test) (name_bytes (name_of test)) discr
answer_for_c discr (Refused refusal) = plain_answer 3 (refusal_number refusal) (name_bytes (refusal_name refusal)) discr
answer_for_c discr (Showing s) = view_of s

-- the number of a line's fault
abbrev pub fault_number : LineFault → ℕ
fault_number faults.NotAscii = 1
fault_number faults.TooLong = 2
fault_number faults.UnknownWord = 3
fault_number faults.FieldCount = 4
fault_number faults.BadNumber = 5
fault_number faults.OutOfRange = 6
fault_number faults.BadHex = 7
fault_number faults.BadAddress = 8
fault_number faults.SameDiscr = 9
fault_number faults.SameAddresses = 10
fault_number faults.NoSuchSession = 11
fault_number faults.Order = 12
fault_number faults.MissingEnd = 13
fault_number faults.TooMany = 14
fault_number faults.SameKey = 16

-- a complaint about a text
abbrev pub complaint_of : BadLine → Complaint
complaint_of bad = record { size = complaint_size; fault = fault_number bad.fault; line = bad.line }
