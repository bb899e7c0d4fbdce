-- Each packet that a report counts has text of its own.
use Rattle.bfd_script.proofs.Common.{◌≤◌, ◌++◌, ℕ, List, [], ◌∷◌, length, arith, length-append, sum_by, flat_map, packets_sent_by}
use Rattle.bfd_script.proofs.Common.{item_line}
use Rattle.std.specs.Fmt.{decimal}
use Rattle.std.proofs.lemmas.List.Sums.{sum_by-cons}
use Rattle.bfd_rules.specs.declared.outputs.Out.{Out}
use Rattle.bfd_rules.specs.declared.outputs.Out.TheVariants.{Changed, Sent}

-- a text with a byte in it has one
pub some_after : (a b : List ℕ) (x : ℕ) → 1 ≤ length (a ++ (x ∷ b))
some_after a b x = simp length-append (omega arith)

-- an output that is a packet has a line
pub item_some : (n : ℕ) (o : Out) → packets_sent_by o ≤ length (item_line n o)
item_some n (Changed discr before after diag) = omega arith
item_some n (Sent discr datagram) = some_after (decimal n) _ 32

-- so the lines of outputs are at least as long as their packets are many
pub sent_short : (n : ℕ) (os : List Out) → sum_by packets_sent_by os ≤ length (flat_map (item_line n) os)
sent_short n [] = omega arith
sent_short n (o ∷ os) =
    omega (
      arith,
      sum_by-cons packets_sent_by o os,
      item_some n o,
      sent_short n os,
      length-append (item_line n o) (flat_map (item_line n) os),
    )
