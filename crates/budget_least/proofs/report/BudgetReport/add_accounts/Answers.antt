-- The accounts of the components, by what their sessions need.
use Rattle.std.proofs.Common.{length, sym, ap, subst, ◌∙◌, Bor}
use Rattle.std.specs.Prelude.{flat_map}
use Rattle.own_model.specs.Listed.{Listed}
use Rattle.budget_least.proofs.AccountLemmas.{sessions_still}
use Rattle.budget_least.proofs.SessionLemmas.{donations_had}
use Rattle.budget_least.specs.ComponentAccounts.{AreSessionsFrom}
use Rattle.budget_least.specs.ComponentLines.{AreAllWritten}
use Rattle.budget_least.specs.LineDonations.{sessions_of, AreAllDonated}
use Rattle.budget_least.specs.declared.lines_by_component.LinesByComponent.{LinesByComponent}
use Rattle.budget_least.specs.declared.report.BudgetReport.{BudgetReport}
use Rattle.budget_search.proofs.FaultLemmas.{passed_on}
use Rattle.budget_least.proofs.report.BudgetReport.add_accounts.Goals as goal

pub add_components-requires-clause-sessions : goal.add_components-requires-clause-sessions
add_components-requires-clause-sessions c =
    let list = c.args.self.now.list in
    subst (λ (list : Bor Listed). AreSessionsFrom list.now c.donate.new.self.scene.steps.items 0 c.in_ok-scripts.scripts.items) (sym c.donate.ensures.list)
    (sessions_still list.now c.args.self.now.scene.steps.items c.donate.new.self.scene.steps.items c.in_ok-donate.ensures.lines 0 c.in_ok-scripts.scripts.items
    c.in_ok-scripts.ensures.sessions)

pub add_components-requires-clause-count : goal.add_components-requires-clause-count
add_components-requires-clause-count c = c.in_ok-scripts.ensures.count ∙ ap (λ (list : Bor Listed). length list.now.entries) (sym c.donate.ensures.list)

pub returns-clause-donations : goal.returns-clause-donations
returns-clause-donations c =
    donations_had c.args.as_donated c.sessions.new.donations.choice (flat_map sessions_of c.in_ok-scripts.scripts.items) c.add_components.new.self
    (c.add_components.ensures.choice ∙ c.donate.ensures.choice ∙ sym (c.sessions.ensures.choice ∙ c.new-donations.ensures.choice))
    c.in_ok-add_components.ensures.added
    (λ is. subst (λ (scene : LinesByComponent). AreAllWritten scene.steps.items) (sym (c.add_components.ensures.scene ∙ ap (λ (r : BudgetReport). r.scene) (c.donate.ensures.same is)))
    c.requires.written)
    (λ is. subst (λ (scene : LinesByComponent). AreAllDonated c.sessions.new.donations.choice (flat_map sessions_of c.in_ok-scripts.scripts.items) scene.steps.items)
    (sym c.add_components.ensures.scene)
    (c.in_ok-donate.ensures.donated is (flat_map sessions_of c.in_ok-scripts.scripts.items) (c.in_ok-scripts.ensures.holds c.new-donations.ensures.holds) c.requires.written))

pub returns-in_err-scripts-clause-fault : goal.returns-in_err-scripts-clause-fault
returns-in_err-scripts-clause-fault c =
    passed_on _ _ c.from_residual.result c.from_residual.ensures.1 c.in_err-scripts.ensures.fault

pub returns-in_err-add_components-clause-fault : goal.returns-in_err-add_components-clause-fault
returns-in_err-add_components-clause-fault c =
    passed_on _ _ c.from_residual-in_err-add_components.result c.from_residual-in_err-add_components.ensures.1 (rw c.in_ok-donate.ensures.list at c.in_err-add_components.ensures.fault)
