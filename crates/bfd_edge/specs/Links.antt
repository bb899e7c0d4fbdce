-- What is observed of a link, and how each answer changes it.
use Rattle.std.specs.Prelude.{◌≡◌, ◌⊎◌, ℕ, true, false, List, [], ◌∷◌, ◌++◌, Option, Some, None, Result, Ok, Err}
use Rattle.bfd_packet.specs.declared.arrival.Arrival.{Arrival}
use Rattle.bfd_packet.specs.declared.arrival.Datagram.{Datagram}
use Rattle.bfd_edge.specs.declared.fault.Fault.{Fault}
use Rattle.bfd_edge.specs.declared.fault.Fault.TheVariants as fault
use Rattle.bfd_edge.specs.declared.link.LinkCounts.{LinkCounts}
use Rattle.bfd_edge.specs.declared.link.Received.{Received}
use Rattle.bfd_edge.specs.declared.link.Received.TheVariants.{Got, Quiet, Ended, Failed, Memory}
use Rattle.bfd_edge.specs.Faults.{risen}

-- the packets that a link received, each with its moment in microseconds, and those that it sent, in order
pub record Traffic : Type 0 where
  pub received : List (ℕ × Arrival)
  pub sent : List Datagram

-- what is observed of a link: always the number by which it was opened and its counts; its traffic if it keeps that
pub record LinkObserved : Type 0 where
  pub number : ℕ
  pub traffic : Option Traffic
  pub counts : LinkCounts

-- the counts of a link that was never called
abbrev pub no_counts : LinkCounts
no_counts = record { receive_faults = 0; send_faults = 0; gave = 0; over = false }

-- a link that was never called
pub record IsNewLink (observed : LinkObserved) : Type 0 where
  pub counts : observed.counts ≡ no_counts
  pub traffic : (observed.traffic ≡ None) ⊎ (observed.traffic ≡ Some (record { received = []; sent = [] }))

-- more was received and sent, if the link keeps its traffic
abbrev pub more_traffic : List (ℕ × Arrival) → List Datagram → Option Traffic → Option Traffic
more_traffic received sent None = None
more_traffic received sent (Some traffic) =
    Some (record { received = traffic.received ++ received; sent = traffic.sent ++ sent })

-- the packet that an answer brings
abbrev pub packets_of : Received → List (ℕ × Arrival)
packets_of (Got moment arrival) = (moment, arrival) ∷ []
packets_of received = []

abbrev pub counts_after_receive : Received → LinkCounts → LinkCounts
counts_after_receive (Got moment arrival) counts = record counts { gave = risen counts.gave 1 }
counts_after_receive Quiet counts = record counts { gave = risen counts.gave 1 }
counts_after_receive Ended counts = record counts { over = true }
counts_after_receive Failed counts = record counts { receive_faults = risen counts.receive_faults 1 }
counts_after_receive Memory counts = counts

abbrev pub counts_after_send : Result (Unit {0}) Fault → LinkCounts → LinkCounts
counts_after_send (Ok done) counts = counts
counts_after_send (Err fault.Failed) counts = record counts { send_faults = risen counts.send_faults 1 }
counts_after_send (Err fault.Memory) counts = counts

-- what is observed of a link after an answer to a receive
abbrev pub after_receive : Received → LinkObserved → LinkObserved
after_receive received observed = record observed {
  traffic = more_traffic (packets_of received) [] observed.traffic;
  counts = counts_after_receive received observed.counts;
}

-- the datagram of a send that succeeded
abbrev pub sent_by : Datagram → Result (Unit {0}) Fault → List Datagram
sent_by datagram (Ok done) = datagram ∷ []
sent_by datagram (Err fault) = []

-- what is observed of a link after an answer to a send
abbrev pub after_send : Datagram → Result (Unit {0}) Fault → LinkObserved → LinkObserved
after_send datagram sent observed = record observed {
  traffic = more_traffic [] (sent_by datagram sent) observed.traffic;
  counts = counts_after_send sent observed.counts;
}
