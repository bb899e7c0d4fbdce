-- Each output of a head or a tail names its discriminator: what is true of each output that does stays true of all outputs.
use Rattle.bfd_mp.proofs.Common.{ℕ, Bool, true, false, List, is_some, Control, fields_of, floor_tick, has_come, Cmd, Out, is_admin_down}
use Rattle.bfd_mp.proofs.Common.{Course, changes, is_unannounced, based, redrawn, OfOwn, own_name, chosen_names, changes_names, sends_names}
use Rattle.bfd_mp.proofs.Common.{HeadConfig, TailConfig, deadline, transmits, head_refusal, head_commanded, head_done, tail_refusal}
use Rattle.bfd_mp.proofs.Common.{tail_commanded, tail_done}
use Rattle.std.specs.List.{AllByRecursion}
use Rattle.bfd_mp.specs.HeadSettle as head
use Rattle.bfd_mp.specs.HeadFinish as finishing
use Rattle.bfd_mp.specs.TailSettle as tail
use Rattle.bfd_mp.specs.TailReceive as receiving
use Rattle.bfd_rules.specs.Names.{AllNamed}

-- a head

transmits_names : (c : HeadConfig) (P : Out → Type 0) (poll : Bool) (s : Course) → OfOwn c.discr P → AllByRecursion P s.outs
    → AllByRecursion P (transmits c poll s).outs
unfolding transmits
transmits_names c P poll s own h = sends_names _ P _ _ own h

periodic_packet_names : (c : HeadConfig) (P : Out → Type 0) (eff : ℕ) (s : Course) → OfOwn c.discr P → AllByRecursion P s.outs
    → AllByRecursion P (head.periodic_packet c eff s).outs
unfolding head.periodic_packet
periodic_packet_names c P eff s own h = transmits_names c P _ s own h

pub head_settle_names : (c : HeadConfig) (P : Out → Type 0) (limit eff : ℕ) (s : Course) → OfOwn c.discr P → AllByRecursion P s.outs
    → AllByRecursion P (head.settle c limit eff s).outs
unfolding head.settle
head_settle_names c P limit eff s own h =
    chosen_names P (has_come (floor_tick limit) s.vars.tx_due) (head.periodic_packet c eff s) s (periodic_packet_names c P eff s own h) h

pub head_commanded_names : (c : HeadConfig) (P : Out → Type 0) (cmd : Cmd) (s : Course) → OfOwn c.discr P → AllByRecursion P s.outs
    → AllByRecursion P (head_commanded c cmd s).outs
unfolding head_commanded
head_commanded_names c P cmd s own h =
    chosen_names P (is_some (head_refusal s.vars cmd)) s (changes c.discr (head_done cmd s.vars) s) h
    (changes_names _ P (head_done cmd s.vars) s own h)

extra_names : (c : HeadConfig) (P : Out → Type 0) (eff : ℕ) (s : Course) → OfOwn c.discr P → AllByRecursion P s.outs
    → AllByRecursion P (finishing.extra c eff s).outs
unfolding finishing.extra
extra_names c P eff s own h = chosen_names P (is_unannounced true s.mark s.vars) (based eff (transmits c false s)) s
    (transmits_names c P false s own h) h

pub head_finish_names : (c : HeadConfig) (P : Out → Type 0) (eff : ℕ) (s : Course) → OfOwn c.discr P → AllByRecursion P s.outs
    → AllByRecursion P (finishing.finish c eff s).outs
unfolding finishing.finish redrawn
head_finish_names c P eff s own h = extra_names c P eff s own h

-- a tail

pub tail_settle_names : (c : TailConfig) (P : Out → Type 0) (limit : ℕ) (s : Course) → OfOwn c.discr P → AllByRecursion P s.outs
    → AllByRecursion P (tail.settle c limit s).outs
unfolding tail.settle
tail_settle_names c P limit s own h =
    chosen_names P (has_come limit (deadline s.vars)) (changes c.discr (tail.silenced s.vars) s) s
    (changes_names _ P (tail.silenced s.vars) s own h) h

accepted_names : (c : TailConfig) (P : Out → Type 0) (eff : ℕ) (packet : Control) (s : Course) → OfOwn c.discr P → AllByRecursion P s.outs
    → AllByRecursion P (receiving.accepted c eff packet s).outs
unfolding receiving.accepted receiving.keeps_fields receiving.moves_state
accepted_names c P eff packet s own h =
    let t : Course = receiving.keeps_fields eff packet s in
    chosen_names P (is_admin_down t.vars.state) t (receiving.moves_state c packet t) h
    (changes_names _ P (receiving.machine t.vars.state packet.state t.vars) t own h)

pub received_names : (c : TailConfig) (P : Out → Type 0) (eff : ℕ) (raw : List ℕ) (s : Course) → OfOwn c.discr P → AllByRecursion P s.outs
    → AllByRecursion P (receiving.received c eff raw s).outs
unfolding receiving.received
received_names c P eff raw s own h =
    chosen_names P (fields_of raw).auth s (receiving.accepted c eff (fields_of raw) s) h (accepted_names c P eff (fields_of raw) s own h)

pub tail_commanded_names : (c : TailConfig) (P : Out → Type 0) (cmd : Cmd) (s : Course) → OfOwn c.discr P → AllByRecursion P s.outs
    → AllByRecursion P (tail_commanded c cmd s).outs
unfolding tail_commanded
tail_commanded_names c P cmd s own h =
    chosen_names P (is_some (tail_refusal s.vars cmd)) s (changes c.discr (tail_done cmd s.vars) s) h
    (changes_names _ P (tail_done cmd s.vars) s own h)

-- so the discriminators that they name are the session's

pub head_settle_named : (c : HeadConfig) (limit eff : ℕ) (s : Course) → AllNamed c.discr s.outs
    → AllNamed c.discr (head.settle c limit eff s).outs
head_settle_named c limit eff s h = head_settle_names c _ limit eff s (own_name c.discr) h

pub head_commanded_named : (c : HeadConfig) (cmd : Cmd) (s : Course) → AllNamed c.discr s.outs
    → AllNamed c.discr (head_commanded c cmd s).outs
head_commanded_named c cmd s h = head_commanded_names c _ cmd s (own_name c.discr) h

pub head_finish_named : (c : HeadConfig) (eff : ℕ) (s : Course) → AllNamed c.discr s.outs → AllNamed c.discr (finishing.finish c eff s).outs
head_finish_named c eff s h = head_finish_names c _ eff s (own_name c.discr) h

pub tail_settle_named : (c : TailConfig) (limit : ℕ) (s : Course) → AllNamed c.discr s.outs → AllNamed c.discr (tail.settle c limit s).outs
tail_settle_named c limit s h = tail_settle_names c _ limit s (own_name c.discr) h

pub received_named : (c : TailConfig) (eff : ℕ) (raw : List ℕ) (s : Course) → AllNamed c.discr s.outs
    → AllNamed c.discr (receiving.received c eff raw s).outs
received_named c eff raw s h = received_names c _ eff raw s (own_name c.discr) h

pub tail_commanded_named : (c : TailConfig) (cmd : Cmd) (s : Course) → AllNamed c.discr s.outs
    → AllNamed c.discr (tail_commanded c cmd s).outs
tail_commanded_named c cmd s h = tail_commanded_names c _ cmd s (own_name c.discr) h
