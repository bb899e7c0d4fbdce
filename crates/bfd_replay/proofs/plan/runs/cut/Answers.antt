-- One more run was cut, and so many lines fewer are left.
use Rattle.std.proofs.Common.{◌*◌, ◌/◌}
use Rattle.bfd_replay.proofs.PlanCommon.{rules, ◌≡◌, ◌+◌, ◌<◌, ◌≤◌, ◌∙◌, ℕ, [], length, arith, ap, reverse, refl, sym, subst}
use Rattle.bfd_replay.proofs.PlanCommon.{reverse-append, AreRuns, common_steps}
use Rattle.bfd_replay.proofs.Parting.{cut_apart, cut_more, cut_end}
use Rattle.bfd_replay.proofs.plan.runs.cut.Goals as goal

run_more : (k next size left rest all : ℕ) → next ≡ k + 1 → left ≡ rest + size → k * size + left ≡ all → next * size + rest ≡ all
run_more k next size left rest all is split long = rw is (omega arith)

-- runs of that length are no more than so many
few_runs : (k : ℕ) {n size : ℕ} (left : ℕ) {all count : ℕ} → size ≡ all / count + 1 → 0 < count → k * size + left ≡ all → n ≡ k + 1
    → n ≤ count
few_runs k left is some long more = grind arith

pub runs-preserved : goal.runs-preserved
runs-preserved c =
    let front = c.split_off.new.self.items in
    let tail = c.in_ok-tail.tail.items in
    record {
      cut = cut_more _ _ front tail _ _ (cut_apart _ c.runs.left.items _ tail c.in_ok-tail.ensures.items c.in_ok-tail.ensures.tail)
          (ap reverse c.in_ok-push.ensures.items ∙ reverse-append c.runs.runs.items _) (search rules) refl c.runs.invariant.cut;
      long = run_more (length c.runs.runs.items) (length c.push.new.self.items) (c.len.result / c.args.count + 1) (length c.runs.left.items)
          (length front) (length c.args.lines.items)
          (grind (arith, common_steps)) (grind (arith, common_steps)) c.runs.invariant.long;
    }

pub returns-clause-most : goal.returns-clause-most
returns-clause-most c = few_runs (length c.runs.runs.items) (length c.runs.left.items)
    (grind (arith, common_steps)) c.requires.some c.runs.invariant.long (grind (arith, common_steps))

pub returns-clause-runs : goal.returns-clause-runs
returns-clause-runs c = subst (AreRuns c.args.lines.items) (sym c.reverse.ensures.items)
    (cut_end (cut_more _ _ [] c.runs.left.items _ _ refl
    (ap reverse c.in_ok-push-2.ensures.items ∙ reverse-append c.runs.runs.items _) refl refl c.runs.invariant.cut))
