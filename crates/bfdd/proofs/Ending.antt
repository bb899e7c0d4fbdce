-- How a job may end.
use Rattle.bfdd.proofs.Common.{◌≡◌, ◌≢◌, ◌⊎◌, ℕ, true, false, List, Option, Some, inl, inr, refl, sym, subst, Job, Status, Done, Usage}
use Rattle.bfdd.proofs.Common.{BadLine, ReadFault, WriteFault, TooLarge, Memory, NoMember, Comes, Edges, IsFaulty, IsOverlong, status_of}
use Rattle.bfdd.proofs.Common.{IsDecided, IsEndOf, WhereUnopened, Wanted, reads, serves, Lists, Replay, Serve, Load, Pair, Watch, Reports}
use Rattle.bfdd.proofs.Common.{ReportsBytes}
use Rattle.bfd_serve.specs.declared.run.finish.Finish.{Finish}
use Rattle.bfd_serve.specs.declared.run.finish.Finish.TheVariants as finish
use Rattle.bfdd.proofs.Answering.{each_answer}

-- what the bytes alone decide
bytes_so : {job : Job} {left right : Option (List ℕ)} {w : Wanted} → ReportsBytes job left right w → IsEndOf (Some job) w.status
bytes_so {job} {w} (inl known) = each_answer job (λ v. IsEndOf (Some job) v.status) (λ text. tt) (λ reading bad. reading)
    (λ watching discr. watching)
    known.bytes w known.spelled
bytes_so (inr (reading, long)) = rw long.nothing reading

finish_so : (job : Job) → serves job ≡ true → (end : Finish) → IsEndOf (Some job) (status_of end)
finish_so job serving finish.Done = tt
finish_so job serving end = serving

comes_so : (job : Job) (script : Lists) (old new : Edges) (w : Wanted) → serves job ≡ true → Comes job script old new w
    → IsEndOf (Some job) w.status
comes_so job script old new w serving (inl served) = rw served.status (finish_so job serving served.end)
comes_so job script old new w serving (inr portless) = rw portless.nothing serving

unread_so : (job : Job) {left right : Option (List ℕ)} {w : Wanted} → reads job ≡ true → IsFaulty true left right w ⊎ IsOverlong left right w
    → IsEndOf (Some job) w.status
unread_so job reading (inl faulty) = rw faulty.complained reading
unread_so job reading (inr long) = rw long.nothing reading

-- what a job has to report goes with a status of its own
pub ends_so : (job : Job) (left right : Option (List ℕ)) (old new : Edges) (w : Wanted) → Reports job left right old new w
    → IsEndOf (Some job) w.status
ends_so (Replay hands) left right old new w reports = bytes_so reports
ends_so (Watch need members shards) left right old new w reports = bytes_so reports
ends_so (Load sessions ticks seed hands) left right old new w reports = bytes_so reports
ends_so (Pair events seed) left right old new w reports = bytes_so reports
ends_so (Serve hands turns ticks journal) left right old new w (inl served) =
    comes_so (Serve hands turns ticks journal) served.script old new w refl served.comes
ends_so (Serve hands turns ticks journal) left right old new w (inr none) = unread_so (Serve hands turns ticks journal) refl none.unread

-- and so does a run where that is decided
pub ended : (given : Option Job) (result want : Status) → IsDecided result want → (result ≡ ReadFault → ⊥) → IsEndOf given want
    → IsEndOf given result
ended given Done want is reads fact = tt
ended given Usage want is reads fact = tt
ended given ReadFault want is reads fact = absurd (reads refl)
ended given WriteFault want is reads fact = tt
ended given Memory want is reads fact = tt
ended given result want is reads fact = subst (λ status. IsEndOf given status) (sym is) fact

-- the status of a run that was served comes after ports were opened
finish_opened : (end : Finish) (P : Type 0) → WhereUnopened (status_of end) P
finish_opened finish.Done P = tt
finish_opened end P = tt

comes_opened : {job : Job} {script : Lists} {old new : Edges} {w : Wanted} (P : Type 0) → Comes job script old new w
    → WhereUnopened w.status P
comes_opened P (inl served) = rw served.status (finish_opened served.end P)
comes_opened P (inr portless) = rw portless.nothing tt

all_unopened : (status : Status) (P : Type 0) → P → WhereUnopened status P
all_unopened Usage P fact = fact
all_unopened ReadFault P fact = fact
all_unopened TooLarge P fact = fact
all_unopened (BadLine line fault) P fact = fact
all_unopened (NoMember discr) P fact = fact
all_unopened status P fact = tt

reports_unopened : (job : Job) (left right : Option (List ℕ)) {old new : Edges} (w : Wanted) → (serves job ≡ false → new ≡ old)
    → Reports job left right old new w → WhereUnopened w.status (new ≡ old)
reports_unopened (Serve hands turns ticks journal) left right {old} {new} w idle (inl served) = comes_opened (new ≡ old) served.comes
reports_unopened (Serve hands turns ticks journal) left right {old} {new} w idle (inr none) = all_unopened w.status (new ≡ old) none.same
reports_unopened (Replay hands) left right {old} {new} w idle reports = all_unopened w.status (new ≡ old) (idle refl)
reports_unopened (Watch need members shards) left right {old} {new} w idle reports = all_unopened w.status (new ≡ old) (idle refl)
reports_unopened (Load sessions ticks seed hands) left right {old} {new} w idle reports = all_unopened w.status (new ≡ old) (idle refl)
reports_unopened (Pair events seed) left right {old} {new} w idle reports = all_unopened w.status (new ≡ old) (idle refl)

-- the outside is as it was, where the status comes before any port is opened
pub unopened : (job : Job) (left right : Option (List ℕ)) {old new : Edges} (w : Wanted) (result : Status) → IsDecided result w.status
    → result ≢ ReadFault
    → (serves job ≡ false → new ≡ old) → Reports job left right old new w → WhereUnopened result (new ≡ old)
unopened job left right w ReadFault is reads idle reports = absurd (reads refl)
unopened job left right w WriteFault is reads idle reports = tt
unopened job left right w Memory is reads idle reports = tt
unopened job left right {old} {new} w result is reads idle reports =
    subst (λ status. WhereUnopened status (new ≡ old)) (sym is) (reports_unopened job left right w idle reports)
