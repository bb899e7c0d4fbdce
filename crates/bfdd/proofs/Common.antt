-- Names that proofs of this crate cite, passed on from one place. Declares nothing.
pub use Rattle.std.proofs.Common.{List, None, Ok, Option, Some, [], append-nil, arith, false, inl, inr, length, refl, subst, sym, true, ℕ}
pub use Rattle.std.proofs.Common.{◌∙◌, ◌≡◌, ◌≢◌, ◌≤◌, ◌⊎◌}
pub use Rattle.std.specs.Prelude.{IfSome, min, ◌+◌, ◌-◌, ◌^◌}
pub use Rattle.bfd_edge.specs.Faults.{Rose, risen}
pub use Rattle.bfdd.specs.Serving.{Comes, Edges, HasNoScript, HasServedScript, IsServed, IsServedToFinish, edges_of}
pub use Rattle.bfdd.specs.Sources.{IsFaulty, IsOverlong}
pub use Rattle.bfdd.specs.Serving.{status_of}
pub use Rattle.bfdd.specs.Text.{Wanted, complaint_line, most_bytes, wanted, wanted_of}
pub use Rattle.bfdd.specs.Words.{OfServing, is_reading, reads, serves}
pub use Rattle.bfdd.specs.declared.job.status.Status.{Status}
pub use Rattle.bfdd.specs.declared.job.status.Status.TheVariants.{BadLine, ClockFault, Done, JournalFull, LinkFault, Memory, NoMember}
pub use Rattle.bfdd.specs.declared.job.status.Status.TheVariants.{PortFault, ReadFault, TooLarge, Turns, Usage, WriteFault}
pub use Rattle.bfdd.specs.declared.words.job.Job.{Job}
pub use Rattle.bfdd.specs.Status.{IsDecided, IsEndOf, IsWrittenBy, OnBadLine, UnlessWriting, WhereUnopened, WhereUnwritten}
pub use Rattle.bfd_script.specs.Reading.{Lists, script_of}
pub use Rattle.bfdd.specs.declared.words.job.Job.TheVariants.{Load, Pair, Replay, Serve, Watch}
pub use Rattle.bfdd.specs.Reports.{Reports, ReportsBytes}
pub use Rattle.std.specs.Io.KnownBytes.{Appends}
pub use Rattle.bfd_replay.specs.Written.{TookFront}
pub use Rattle.bfd_replay.proofs.Written.{took_nothing}
