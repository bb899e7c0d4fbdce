-- Each output of an initiator names its discriminator: what is true of each output that does stays true of all outputs.
use Rattle.bfd_sbfd.proofs.Common.{◌&&◌, ℕ, true, List, is_some, Control, fields_of, floor_tick, has_come, Cmd, Out, Vars, may_send}
use Rattle.bfd_sbfd.proofs.Common.{is_admin_down, Course, is_unannounced, based, redrawn, InitiatorConfig, deadline, moves, transmits}
use Rattle.bfd_sbfd.proofs.Common.{refusal}
use Rattle.bfd_sbfd.proofs.Common.{commanded, done, OfOwn, own_name, chosen_names, changes_names, sends_names, AllByRecursion}
use Rattle.bfd_sbfd.specs.Settle as settling
use Rattle.bfd_sbfd.specs.Receive as receiving
use Rattle.bfd_sbfd.specs.Finish as finishing
use Rattle.bfd_rules.specs.Names.{AllNamed}

moves_names : {discr : ℕ} (P : Out → Type 0) (v : Vars) (s : Course) → OfOwn discr P → AllByRecursion P s.outs
    → AllByRecursion P (moves discr v s).outs
unfolding moves
moves_names {discr} P v s own h = changes_names _ P _ s own h

transmits_names : (c : InitiatorConfig) (P : Out → Type 0) (s : Course) → OfOwn c.discr P → AllByRecursion P s.outs
    → AllByRecursion P (transmits c s).outs
unfolding transmits
transmits_names c P s own h = sends_names _ P _ _ own h

detection_names : (c : InitiatorConfig) (P : Out → Type 0) (limit : ℕ) (s : Course) → OfOwn c.discr P → AllByRecursion P s.outs
    → AllByRecursion P (settling.detection c limit s).outs
unfolding settling.detection
detection_names c P limit s own h =
    chosen_names P (has_come limit (deadline s.vars)) (moves c.discr (settling.silenced s.vars) s) s
    (moves_names P (settling.silenced s.vars) s own h) h

periodic_packet_names : (c : InitiatorConfig) (P : Out → Type 0) (eff : ℕ) (s : Course) → OfOwn c.discr P → AllByRecursion P s.outs
    → AllByRecursion P (settling.periodic_packet c eff s).outs
unfolding settling.periodic_packet
periodic_packet_names c P eff s own h = transmits_names c P s own h

periodic_names : (c : InitiatorConfig) (P : Out → Type 0) (limit eff : ℕ) (s : Course) → OfOwn c.discr P → AllByRecursion P s.outs
    → AllByRecursion P (settling.periodic c limit eff s).outs
unfolding settling.periodic
periodic_names c P limit eff s own h =
    chosen_names P (has_come (floor_tick limit) s.vars.tx_due && may_send true s.vars) (settling.periodic_packet c eff s) s
    (periodic_packet_names c P eff s own h) h

pub settle_names : (c : InitiatorConfig) (P : Out → Type 0) (limit eff : ℕ) (s : Course) → OfOwn c.discr P → AllByRecursion P s.outs
    → AllByRecursion P (settling.settle c limit eff s).outs
unfolding settling.settle
settle_names c P limit eff s own h = periodic_names c P limit eff (settling.detection c limit s) own (detection_names c P limit s own h)

accepted_names : (c : InitiatorConfig) (P : Out → Type 0) (eff : ℕ) (packet : Control) (s : Course) → OfOwn c.discr P
    → AllByRecursion P s.outs
    → AllByRecursion P (receiving.accepted c eff packet s).outs
unfolding receiving.accepted receiving.keeps_fields receiving.moves_state
accepted_names c P eff packet s own h =
    let t : Course = receiving.keeps_fields eff packet s in
    chosen_names P (is_admin_down t.vars.state) t (receiving.moves_state c packet t) h
    (moves_names P (receiving.machine t.vars.state packet.state t.vars) t own h)

pub received_names : (c : InitiatorConfig) (P : Out → Type 0) (eff : ℕ) (raw : List ℕ) (s : Course) → OfOwn c.discr P
    → AllByRecursion P s.outs
    → AllByRecursion P (receiving.received c eff raw s).outs
unfolding receiving.received
received_names c P eff raw s own h =
    chosen_names P (fields_of raw).auth s (receiving.accepted c eff (fields_of raw) s) h (accepted_names c P eff (fields_of raw) s own h)

pub commanded_names : (c : InitiatorConfig) (P : Out → Type 0) (cmd : Cmd) (s : Course) → OfOwn c.discr P → AllByRecursion P s.outs
    → AllByRecursion P (commanded c cmd s).outs
unfolding commanded
commanded_names c P cmd s own h =
    chosen_names P (is_some (refusal s.vars cmd)) s (moves c.discr (done cmd s.vars) s) h (moves_names P (done cmd s.vars) s own h)

extra_names : (c : InitiatorConfig) (P : Out → Type 0) (eff : ℕ) (s : Course) → OfOwn c.discr P → AllByRecursion P s.outs
    → AllByRecursion P (finishing.extra c eff s).outs
unfolding finishing.extra
extra_names c P eff s own h = chosen_names P (is_unannounced true s.mark s.vars) (based eff (transmits c s)) s (transmits_names c P s own h)
    h

pub finish_names : (c : InitiatorConfig) (P : Out → Type 0) (eff : ℕ) (s : Course) → OfOwn c.discr P → AllByRecursion P s.outs
    → AllByRecursion P (finishing.finish c eff s).outs
unfolding finishing.finish redrawn
finish_names c P eff s own h = extra_names c P eff s own h

-- so the discriminators that they name are the initiator's

pub settle_named : (c : InitiatorConfig) (limit eff : ℕ) (s : Course) → AllNamed c.discr s.outs
    → AllNamed c.discr (settling.settle c limit eff s).outs
settle_named c limit eff s h = settle_names c _ limit eff s (own_name c.discr) h

pub received_named : (c : InitiatorConfig) (eff : ℕ) (raw : List ℕ) (s : Course) → AllNamed c.discr s.outs
    → AllNamed c.discr (receiving.received c eff raw s).outs
received_named c eff raw s h = received_names c _ eff raw s (own_name c.discr) h

pub commanded_named : (c : InitiatorConfig) (cmd : Cmd) (s : Course) → AllNamed c.discr s.outs → AllNamed c.discr (commanded c cmd s).outs
commanded_named c cmd s h = commanded_names c _ cmd s (own_name c.discr) h

pub finish_named : (c : InitiatorConfig) (eff : ℕ) (s : Course) → AllNamed c.discr s.outs → AllNamed c.discr (finishing.finish c eff s).outs
finish_named c eff s h = finish_names c _ eff s (own_name c.discr) h
