-- The sessions of one component more.
use Rattle.std.proofs.Common.{arith, ◌≡◌, ◌+◌, ◌∷◌, [], length, sym, ap, subst, ◌∙◌}
use Rattle.std.proofs.lemmas.List.{flat_map_more, length-append}
use Rattle.std.specs.Prelude.{flat_map}
use Rattle.budget_least.proofs.AccountLemmas.{one_more, written_at}
use Rattle.budget_least.specs.ComponentLines.{AreWritten}
use Rattle.budget_least.specs.ComponentAccounts.{steps_at, AreSessionsFrom, IsSessionsOf}
use Rattle.budget_least.specs.LineDonations.{sessions_of, HoldsFor}
use Rattle.budget_search.proofs.FaultLemmas.{passed_on}
use Rattle.budget_least.proofs.report.BudgetReport.sessions.Goals as goal

pub loop-component-preserved : goal.loop-component-preserved
loop-component-preserved c =
    let list = c.args.self.now.list.now in
    let steps = c.args.self.now.scene.steps.items in
    let scripts = c.loop-component.scripts.items in
    let place : c.loop-component.component ≡ 0 + length scripts = omega (arith, c.loop-component.invariant.count) in
    record {
      sessions =
          subst (λ xs. AreSessionsFrom list steps 0 xs) (sym c.in_ok-push.ensures.items)
          (one_more list steps 0 scripts c.in_ok-script.script c.loop-component.invariant.sessions
          (subst (λ n. IsSessionsOf list n (steps_at steps n) c.in_ok-script.script) place
          (subst (λ lines. IsSessionsOf list c.loop-component.component lines c.in_ok-script.script) c.of.ensures.steps c.in_ok-script.ensures.sessions)));
      holds = λ first.
          subst (λ xs. HoldsFor c.add_donations.new.donations (flat_map sessions_of xs)) (sym c.in_ok-push.ensures.items)
          (subst (HoldsFor c.add_donations.new.donations) (flat_map_more sessions_of [] scripts c.in_ok-script.script)
          (c.in_ok-add_donations.ensures.holds (flat_map sessions_of scripts) (c.loop-component.invariant.holds first)));
      choice = c.add_donations.ensures.choice ∙ c.loop-component.invariant.choice;
      count = ap length c.in_ok-push.ensures.items ∙ length-append scripts (c.in_ok-script.script ∷ []) ∙ ap (λ n. n + 1) c.loop-component.invariant.count;
    }

pub returns-in_err-script-clause-fault : goal.returns-in_err-script-clause-fault
returns-in_err-script-clause-fault c =
    passed_on _ _ c.from_residual.result c.from_residual.ensures.1 c.in_err-script.ensures.fault

pub sessions_of-requires-clause-written : goal.sessions_of-requires-clause-written
sessions_of-requires-clause-written c =
    subst AreWritten (sym c.of.ensures.steps) (written_at c.args.self.now.scene.steps.items c.requires c.loop-component.component)
