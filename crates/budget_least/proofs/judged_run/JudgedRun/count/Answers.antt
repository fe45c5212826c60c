-- A component's lines are one more.
use Rattle.std.proofs.Common.{arith, ◌≡◌, ℕ, List, ap, sym}
use Rattle.budget_search.proofs.ChangeLemmas.{changed_past}
use Rattle.budget_least.specs.LineErrors.{judging_of, one_more}
use Rattle.budget_least.proofs.JudgedLemmas.{got_at, set_at}
use Rattle.budget_least.proofs.judged_run.JudgedRun.count.Goals as goal

pub returns-then-component-len-clause-counted : goal.returns-then-component-len-clause-counted
returns-then-component-len-clause-counted c =
    ap (λ (counts : List ℕ). record (judging_of c.args.self.now) { counts = counts })
    (sym (changed_past one_more c.args.self.now.counts.items c.args.component
    (omega (arith, c.if-component-len.true, c.len.ensures, c.args.self.now.counts.ok.0))))

pub returns-clause-place : goal.returns-clause-place
returns-clause-place c =
    got_at c.args.self.now.counts.items c.args.component c.index-place.result.now
    (omega (arith, c.if-component-len.false, c.len.ensures, c.args.self.now.counts.ok.0)) c.index-place.ensures

pub returns-clause-counted : goal.returns-clause-counted
returns-clause-counted c =
    let place = c.index-place.result.now in
    let more : c.saturating_add.result ≡ one_more place = omega (arith, c.saturating_add.ensures) in
    ap (λ (counts : List ℕ). record (judging_of c.args.self.now) { counts = counts })
    (set_at one_more c.args.self.now.counts.items c.args.component place c.saturating_add.result
    (omega (arith, c.if-component-len.false, c.len.ensures, c.args.self.now.counts.ok.0)) c.index-place.ensures more)
