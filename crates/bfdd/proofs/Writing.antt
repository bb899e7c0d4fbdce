-- The outcome of writing an answer, clause by clause of a run.
use Rattle.bfdd.proofs.Common.{◌≡◌, ◌≢◌, ◌⊎◌, ℕ, List, [], Option, inl, inr, refl, sym, ◌∙◌, subst, append-nil, Rose, Status, Done, Usage}
use Rattle.bfdd.proofs.Common.{BadLine, ReadFault, WriteFault, PortFault, LinkFault, TooLarge, JournalFull, Turns, ClockFault, Memory}
use Rattle.bfdd.proofs.Common.{NoMember, IsDecided, IsWrittenBy, OnBadLine, UnlessWriting, WhereUnwritten, Wanted, complaint_line, Appends}
use Rattle.bfdd.proofs.Common.{TookFront, took_nothing}
use Rattle.std.proofs.KnownBytes.{Appends-nil}
use Rattle.bfd_script.specs.declared.fields.fault.BadLine.{BadLine as FaultyLine}
use Rattle.bfdd.specs.Answers.{HasText, IsAnswer}
use Rattle.bfdd.specs.Writing.{Writes, broken_off}

-- by the statuses that have a text

own_decided : (status : Status) (text : List ℕ) → HasText status text → IsDecided status status
own_decided ReadFault text goes = tt
own_decided Memory text goes = tt
own_decided WriteFault text goes = absurd goes
own_decided status text goes = refl

broken_decided : (status : Status) (text : List ℕ) → HasText status text → IsDecided (broken_off status) status
broken_decided Done text goes = refl
broken_decided status text goes = own_decided status text goes

whole_by : (status : Status) (old new : Option (List ℕ)) (before now : ℕ) (text : List ℕ) → HasText status text → Appends old new text
    → IsWrittenBy status old new before now text
whole_by Done old new before now text goes whole = whole
whole_by WriteFault old new before now text goes whole = absurd goes
whole_by Memory old new before now text goes whole = absurd goes
whole_by status old new before now text goes whole = inl whole

broken_by : (status : Status) (old new : Option (List ℕ)) (before : ℕ) {now : ℕ} {text : List ℕ} → HasText status text
    → Rose before now × TookFront old new text → IsWrittenBy (broken_off status) old new before now text
broken_by Done old new before goes broken = broken
broken_by WriteFault old new before goes broken = broken
broken_by Memory old new before goes broken = absurd goes
broken_by status old new before goes broken = inr broken

-- a status with a text that isn't empty is none of those with which nothing is written
something_written : (status : Status) {text : List ℕ} (P : Type 0) → HasText status text → text ≢ [] → WhereUnwritten status P
something_written Usage P goes some = absurd goes
something_written ReadFault P goes some = absurd goes
something_written PortFault P goes some = absurd (some goes)
something_written TooLarge P goes some = absurd (some goes)
something_written (NoMember discr) P goes some = absurd (some goes)
something_written status P goes some = tt

broken_written : (status : Status) {text : List ℕ} (P : Type 0) → HasText status text → text ≢ [] → WhereUnwritten (broken_off status) P
broken_written Done P goes some = tt
broken_written status P goes some = something_written status P goes some

unwritten_by : (status : Status) (P : Type 0) → P → WhereUnwritten status P
unwritten_by Usage P fact = fact
unwritten_by ReadFault P fact = fact
unwritten_by PortFault P fact = fact
unwritten_by TooLarge P fact = fact
unwritten_by (NoMember discr) P fact = fact
unwritten_by status P fact = tt

calm_by : (status : Status) (P : Type 0) → P → UnlessWriting status P
calm_by WriteFault P fact = tt
calm_by (BadLine line fault) P fact = tt
calm_by (LinkFault number) P fact = tt
calm_by (JournalFull shard) P fact = tt
calm_by (Turns number) P fact = tt
calm_by ClockFault P fact = tt
calm_by status P fact = fact

broken_calm : (status : Status) {text : List ℕ} (P : Type 0) → HasText status text → text ≢ [] → UnlessWriting (broken_off status) P
broken_calm Done P goes some = tt
broken_calm (BadLine line fault) P goes some = tt
broken_calm (LinkFault number) P goes some = tt
broken_calm (JournalFull shard) P goes some = tt
broken_calm (Turns number) P goes some = tt
broken_calm ClockFault P goes some = tt
broken_calm WriteFault P goes some = tt
broken_calm PortFault P goes some = absurd (some goes)
broken_calm TooLarge P goes some = absurd (some goes)
broken_calm (NoMember discr) P goes some = absurd (some goes)
broken_calm status P goes some = absurd goes

-- a status that goes with a text is none of those that no answer has, and where the sink failed it isn't Done
unlike : (status : Status) (text : List ℕ) → HasText status text → (status ≢ Usage) × (status ≢ ReadFault) × (status ≢ WriteFault)
unlike Usage text goes = absurd goes
unlike ReadFault text goes = absurd goes
unlike WriteFault text goes = absurd goes
unlike status text goes = (λ is. cc, λ is. cc, λ is. cc)

broken_unlike : (status : Status) (text : List ℕ) → HasText status text
    → (broken_off status ≢ Usage) × (broken_off status ≢ ReadFault) × (broken_off status ≢ Done)
broken_unlike Usage text goes = absurd goes
broken_unlike ReadFault text goes = absurd goes
broken_unlike status text goes = (λ is. cc, λ is. cc, λ is. cc)

-- the text of a faulty line is its complaint
complained : (status : Status) (text : List ℕ) (P : List ℕ → Type 0) (bad : FaultyLine) → BadLine bad.line bad.fault ≡ status
    → HasText status text
    → P text → P (complaint_line bad)
complained status text P bad is goes fact =
    let same = subst (λ s. HasText s text) (sym is) goes in subst P same fact

-- clause by clause, where the answer's text goes with its status
module _ (w : Wanted) (result : Status) (old new : Option (List ℕ)) (before now : ℕ) (goes : IsAnswer w) where
  pub decided : Writes w result old new before now → IsDecided result w.status
  decided (inl (inl silent)) = rw silent.status (own_decided w.status w.text goes)
  decided (inl (inr whole)) = rw whole.status (own_decided w.status w.text goes)
  decided (inr (inl broken)) = rw broken.status (broken_decided w.status w.text goes)
  decided (inr (inr cut)) = rw cut.status tt

  pub front : Writes w result old new before now → TookFront old new w.text
  front (inl (inl silent)) = rw silent.same (took_nothing old w.text)
  front (inl (inr whole)) = ([], (w.text, whole.whole, sym (append-nil w.text)))
  front (inr (inl broken)) = broken.front
  front (inr (inr cut)) = cut.front

  appended_none : w.text ≡ [] → new ≡ old → Appends old new w.text
  appended_none nothing same = rw same (rw nothing (Appends-nil old))

  pub written : Writes w result old new before now → IsWrittenBy result old new before now w.text
  written (inl (inl silent)) = rw silent.status (whole_by w.status old new before now w.text goes
      (appended_none silent.nothing silent.same))
  written (inl (inr whole)) = rw whole.status (whole_by w.status old new before now w.text goes whole.whole)
  written (inr (inl broken)) = rw broken.status (broken_by w.status old new before goes (broken.rose, broken.front))
  written (inr (inr cut)) = rw cut.status cut.front

  pub unwritten : Writes w result old new before now → WhereUnwritten result (new ≡ old)
  unwritten (inl (inl silent)) = rw silent.status (unwritten_by w.status (new ≡ old) silent.same)
  unwritten (inl (inr whole)) = rw whole.status (something_written w.status (new ≡ old) goes whole.something)
  unwritten (inr (inl broken)) = rw broken.status (broken_written w.status (new ≡ old) goes broken.something)
  unwritten (inr (inr cut)) = rw cut.status tt

  pub calm : Writes w result old new before now → UnlessWriting result (now ≡ before)
  calm (inl (inl silent)) = rw silent.status (calm_by w.status (now ≡ before) silent.calm)
  calm (inl (inr whole)) = rw whole.status (calm_by w.status (now ≡ before) whole.calm)
  calm (inr (inl broken)) = rw broken.status (broken_calm w.status (now ≡ before) goes broken.something)
  calm (inr (inr cut)) = rw cut.status cut.calm

  pub written_whole : Writes w result old new before now → result ≡ Done → Appends old new w.text
  written_whole (inl (inl silent)) is = appended_none silent.nothing silent.same
  written_whole (inl (inr whole)) is = whole.whole
  written_whole (inr (inl broken)) is = absurd ((broken_unlike w.status w.text goes).2 (sym broken.status ∙ is))
  written_whole (inr (inr cut)) is = cc

  pub no_usage : Writes w result old new before now → result ≢ Usage
  no_usage (inl (inl silent)) is = (unlike w.status w.text goes).0 (sym silent.status ∙ is)
  no_usage (inl (inr whole)) is = (unlike w.status w.text goes).0 (sym whole.status ∙ is)
  no_usage (inr (inl broken)) is = (broken_unlike w.status w.text goes).0 (sym broken.status ∙ is)
  no_usage (inr (inr cut)) is = cc

  pub no_read_fault : Writes w result old new before now → result ≢ ReadFault
  no_read_fault (inl (inl silent)) is = (unlike w.status w.text goes).1 (sym silent.status ∙ is)
  no_read_fault (inl (inr whole)) is = (unlike w.status w.text goes).1 (sym whole.status ∙ is)
  no_read_fault (inr (inl broken)) is = (broken_unlike w.status w.text goes).1 (sym broken.status ∙ is)
  no_read_fault (inr (inr cut)) is = cc

  pub write_fault : Writes w result old new before now → result ≡ WriteFault → Rose before now
  write_fault (inl (inl silent)) is = absurd ((unlike w.status w.text goes).2 (sym silent.status ∙ is))
  write_fault (inl (inr whole)) is = absurd ((unlike w.status w.text goes).2 (sym whole.status ∙ is))
  write_fault (inr (inl broken)) is = broken.rose
  write_fault (inr (inr cut)) is = cc

-- a faulty line is reported, or a prefix of that if the sink failed
pub bad_text : (w : Wanted) (result : Status) (old new : Option (List ℕ)) (before now : ℕ) → IsAnswer w → IsDecided result w.status
    → IsWrittenBy result old new before now w.text
    → OnBadLine result (λ bad. Appends old new (complaint_line bad) ⊎ (Rose before now × TookFront old new (complaint_line bad)))
bad_text w (BadLine line fault) old new before now goes is written =
    complained w.status w.text (λ text. Appends old new text ⊎ (Rose before now × TookFront old new text))
    (record { line = line; fault = fault }) is goes written
bad_text w result old new before now goes is written = tt
