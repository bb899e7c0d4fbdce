-- The event is the schedule's next, and its packet and its changes to Up are counted.
use Rattle.std.proofs.Common.{◌≡◌, ◌++◌, length, ap, ◌∙◌, arith}
use Rattle.bfd_pair.specs.Run.{Both, pair_run, turn}
use Rattle.bfd_pair.specs.Line.{rises_in}
use Rattle.bfd_pair.proofs.Played.{plays}
use Rattle.bfd_pair.proofs.schedule.playing.play_next.Goals as goal

pub returns-clause-played : goal.returns-clause-played
returns-clause-played c seed h =
    let w : Both = pair_run c.args.pair.now.left c.args.pair.now.right c.args.pair.now.past in
    let given =
    c.given_in.ensures.given w c.in_ok-answer.ensures.answer in
    let outs = c.items.ensures.items ∙ (c.in_ok-answer.ensures.outs
    ∙ ap (λ o. o.items ++ ((turn c.event_by-event.result w).left_items ++ (turn c.event_by-event.result w).right_items)) c.clear.ensures) in
    let rises : c.rises.result ≡ rises_in c.event_by-event.result (turn c.event_by-event.result w) =
    cc in
    let one = c.given_in.ensures.most in
    let most = c.rises.ensures.most in
    let same : length c.items.result.now ≡ length c.step.new.outs.items = cc in
    let whole = c.items.ensures.whole in
    let room = c.step.ensures.room in
    let cleared = ap (λ o. o.room) c.clear.ensures in
    let ten = c.requires.room in
    plays h c.in_ok-answer.ensures.past c.next_j-tally.ensures c.event_by-event.ensures (cc) (cc) (omega arith) (omega arith)
