-- A whole run, put together.
use Rattle.bfd_serve.proofs.RunCommon.{◌≡◌, ℕ, ◌<◌, ◌≤◌, List, ◌∷◌, length, map, slice_index_or, Some, ap, sym, ◌∙◌, arith, All, All-cons}
use Rattle.bfd_serve.proofs.RunCommon.{All-get_or, dite, dec_lt, Shard, Line, LinkObserved, IsNewLink, TickerObserved, Shards, End, Limits}
use Rattle.bfd_serve.proofs.RunCommon.{finish_from, HadMemory, IsUncalled, IsOpenTo, AreShut, AreTheirs, history_at, observed_on_link}
use Rattle.bfd_serve.proofs.RunCommon.{HaveRun}
use Rattle.bfd_serve.proofs.RunCommon.{IsOpened, AreClosedShards, Finish, PortsObserved, Lists}
use Rattle.bfd_serve.specs.Served.{shard_history, served}
use Rattle.bfd_serve.specs.Wholes.{HasRun}
use Rattle.bfd_serve.proofs.Causes.{cause, completes}
use Rattle.bfd_serve.proofs.Entered.{timely, judged}

-- every link that was opened was shut
pub all_shut : {L : Type 0} (observed : L → LinkObserved) {own : L} (back links : List L) {workers : ℕ} {first p : PortsObserved}
    (q : PortsObserved)
    → IsOpenTo workers first p → length links ≡ workers → length back ≡ length links
    → ((n : ℕ) → q.opened n ≡ p.opened n) → ((n : ℕ) → n ≤ length back → q.shut n ≡ Some (observed (slice_index_or (own ∷ back) n own)))
    → AreShut q
all_shut observed {own} back links {workers} q opened long same_long same shut = record {
  shut = λ n h. dite (dec_lt workers n) (λ far. absurd (cc (sym h ∙ (same n ∙ opened.others n far))))
      (λ near. (observed (slice_index_or (own ∷ back) n own), shut n (omega (arith, near, long, same_long))));
}

-- the same links were opened after they were shut
pub still_open : {last : ℕ} {first p : PortsObserved} (q : PortsObserved) → IsOpenTo last first p → ((n : ℕ) → q.opened n ≡ p.opened n)
    → q.faults ≡ p.faults → IsOpenTo last first q
still_open q opened same faults = record {
  open_is = λ n h. same n ∙ opened.open_is n h;
  others = λ n h. same n ∙ opened.others n h;
  faults = cc;
}

pub whole_run : {L : Type 0} (observed : L → LinkObserved) {own own2 : L}
    (links back : List L) {given script : Lists} {orders : List Line} {shards workers journal : ℕ} {limits : Limits} (q : PortsObserved) {c
    d : TickerObserved} {engine : Shards} {states : List Shard} {text : List ℕ} {ends : List End} {lost : ℕ} {finish : Finish}
    → IsOpened engine given shards journal → given ≡ script → orders ≡ given.events → AreClosedShards engine states
    → text ≡ served (map shard_history states) lost
    → AreTheirs observed own links → IsNewLink (observed own) → All (IsUncalled observed) links → length links ≡ workers
    → length back ≡ length links
    → ((n : ℕ) → n ≤ length back → q.shut n ≡ Some (observed (slice_index_or (own2 ∷ back) n own2)))
    → HaveRun engine (history_at states) orders (length links) limits (observed_on_link observed own links)
    (observed_on_link observed own2 back) c d ends
    lost
    → limits.turns ≤ 1000000000 → 0 < journal → All HadMemory ends → finish ≡ finish_from 0 ends
    → HasRun script shards workers journal limits q c d states text lost finish
whole_run observed {own} {own2} links back {script} {workers} {journal} {limits} q {c} {d} {engine} {states} {ends} {lost} opened same
    orders_are closed text_is theirs own_new new long same_long shut run turns_few some plain finish_is =
    let all : HaveRun engine (history_at states) script.events workers limits (observed_on_link observed own links)
    (observed_on_link observed own2 back) c
    d ends lost =
    rw (← long) (rw (← orders_are ∙ ap (λ (s : Lists). s.events) same) run) in
    let all_new : (n : ℕ) → n ≤ workers → IsNewLink (observed_on_link observed own links n) =
    (λ n h. All-get_or (IsUncalled observed) (own ∷ links) n
    own (omega (arith, h, long)) (All-cons (IsUncalled observed) own links own_new new)) in record {
      engine = engine;
      opened = rw (← same) opened;
      closed = closed;
      timely = timely closed;
      judged = judged engine states script.events workers limits (observed_on_link observed own links) (observed_on_link observed own2 back)
          c d ends lost
          closed all;
      text_is = text_is;
      before = observed_on_link observed own links;
      after = observed_on_link observed own2 back;
      new = all_new;
      numbered = λ n h. theirs.at n (omega (arith, h, long));
      shut = λ n h. shut n (omega (arith, h, long, same_long));
      ends = ends;
      run = all;
      plain = plain;
      finish_is = finish_is;
      cause = cause engine states script.events workers limits (observed_on_link observed own links) (observed_on_link observed own2 back) c
          d ends lost all
          all_new turns_few journal opened.limit some closed plain finish_is;
      complete = completes engine states script.events workers limits (observed_on_link observed own links)
          (observed_on_link observed own2 back) c d ends
          lost all all_new turns_few journal opened.limit some closed plain finish_is;
    }
