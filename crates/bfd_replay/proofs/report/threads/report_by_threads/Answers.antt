-- The texts are that of the whole replay.
use Rattle.bfd_replay.proofs.ReportCommon.{◌∙◌, IsSpread, refl, subst, sym}
use Rattle.bfd_replay.proofs.Seams.{text_more}
use Rattle.bfd_replay.proofs.Dealing.{deal_all}
use Rattle.bfd_replay.proofs.Whole.{parts_spread, whole_counts, whole_report}
use Rattle.bfd_replay.proofs.report.threads.report_by_threads.Goals as goal

pub returns-clause-texts : goal.returns-clause-texts
returns-clause-texts g c = λ shards last hs ss count parts.
    let dealt = deal_all shards 1 last hs ss in
    let reported = c.in_ok-texts.ensures dealt (subst (IsSpread dealt) (sym c.in_ok-rests.ensures) (parts_spread parts)) in
    whole_report _ last hs ss _ _ count reported.0 reported.1 reported.2 (c.as_bytes.ensures.value ∙ c.in_ok-done_text.ensures)
    (text_more (λ t. t.items) c.in_ok-texts.field-0.texts.items c.push.new.self.items _ _ c.in_ok-push.ensures.items refl
    c.new-last.ensures.items c.in_ok-extend_from_slice.ensures.items)

pub returns-clause-counts : goal.returns-clause-counts
returns-clause-counts g c = λ shards last hs ss count parts.
    let dealt = deal_all shards 1 last hs ss in
    let reported = c.in_ok-texts.ensures dealt (subst (IsSpread dealt) (sym c.in_ok-rests.ensures) (parts_spread parts)) in
    whole_counts shards last hs ss count reported.1 reported.2
