-- The accounts of one component more, and of all.
use Rattle.std.proofs.Common.{arith, ◌≡◌, ◌+◌, ◌++◌, length, refl, sym, ap, subst, ◌∙◌, Bor}
use Rattle.std.specs.Prelude.{flat_map}
use Rattle.std.specs.Vec.Iter.{into_iter_items}
use Rattle.own_model.specs.Listed.{Listed}
use Rattle.budget_search.specs.NoBudgets.{LacksBudgets}
use Rattle.budget_search.proofs.FaultLemmas.{passed_on}
use Rattle.budget_least.proofs.AccountLemmas.{sessions_after}
use Rattle.budget_least.proofs.SessionLemmas.{all_added, next_added}
use Rattle.budget_least.specs.ComponentAccounts.{AreSessionsFrom}
use Rattle.budget_least.specs.LineDonations.{sessions_in, sessions_of}
use Rattle.budget_least.specs.ReportOf.{HasAccounts}
use Rattle.budget_least.specs.declared.lines_by_component.LinesByComponent.{LinesByComponent}
use Rattle.budget_least.proofs.report.BudgetReport.add_components.Goals as goal

pub overflow_add-component : goal.overflow_add-component
overflow_add-component c =
    let longer = ap length c.in-Some.ensures.steps.0 in
    let entries = ap (λ (list : Bor Listed). length list.now.entries) c.loop-script.invariant.list in
    omega (arith, longer, entries, c.loop-script.invariant.count, c.count-few.ensures.value, c.count-few.ensures.most)

pub add_component-requires-clause-there : goal.add_component-requires-clause-there
add_component-requires-clause-there c =
    let longer = ap length c.in-Some.ensures.steps.0 in
    omega (arith, longer, c.loop-script.invariant.count)

pub add_component-requires-clause-sessions : goal.add_component-requires-clause-sessions
add_component-requires-clause-sessions c =
    (sessions_after c.loop-script.self.list.now c.loop-script.self.scene.steps.items c.loop-script.component c.in-Some.script (into_iter_items c.loop-script.script-iterator) (into_iter_items c.next.new.self)
    c.in-Some.ensures.steps.0 c.loop-script.invariant.left).0

pub loop-script-preserved : goal.loop-script-preserved
loop-script-preserved c =
    let was = c.loop-script.self in
    let rest = into_iter_items c.next.new.self in
    let steps = c.in-Some.ensures.steps.0 in
    let longer = ap length steps in
    let entries = ap (λ (list : Bor Listed). length list.now.entries) c.add_component.ensures.list in
    record {
      list = c.add_component.ensures.list ∙ c.loop-script.invariant.list;
      choice = c.add_component.ensures.choice ∙ c.loop-script.invariant.choice;
      scene = c.add_component.ensures.scene ∙ c.loop-script.invariant.scene;
      accounts = c.in_ok-add_component.ensures.accounts;
      left =
          subst (λ (scene : LinesByComponent). AreSessionsFrom c.add_component.new.self.list.now scene.steps.items (c.loop-script.component + 1) rest)
          (sym c.add_component.ensures.scene)
          (subst (λ (list : Bor Listed). AreSessionsFrom list.now was.scene.steps.items (c.loop-script.component + 1) rest) (sym c.add_component.ensures.list)
          (sessions_after was.list.now was.scene.steps.items c.loop-script.component c.in-Some.script (into_iter_items c.loop-script.script-iterator) rest steps c.loop-script.invariant.left).1);
      added =
          next_added (sessions_in was.accounts.items) (sessions_in c.add_component.new.self.accounts.items) (into_iter_items c.loop-script.script-iterator) rest
          c.in-Some.script steps c.in_ok-add_component.ensures.added
          ∙ c.loop-script.invariant.added;
      count = omega (arith, longer, entries, c.loop-script.invariant.count);
      exact = omega (arith, longer, c.in-Some.ensures.steps.1, c.loop-script.invariant.exact);
    }

pub returns-clause-accounts : goal.returns-clause-accounts
returns-clause-accounts c =
    let self = c.loop-script.self in
    let all : c.loop-script.component ≡ length self.list.now.entries =
    omega (arith, c.in-None.ensures.steps.0, c.loop-script.invariant.exact, c.loop-script.invariant.count) in
    subst (λ n. HasAccounts self n) all c.loop-script.invariant.accounts

pub returns-clause-added : goal.returns-clause-added
returns-clause-added c =
    let none : length (into_iter_items c.loop-script.script-iterator) ≡ 0 = omega (arith, c.in-None.ensures.steps.0, c.loop-script.invariant.exact) in
    all_added (sessions_in c.loop-script.self.accounts.items) (into_iter_items c.loop-script.script-iterator) none
    ∙ c.loop-script.invariant.added
    ∙ ap (λ scripts. flat_map sessions_of scripts) c.into_iter-script-iterator.ensures.into_iter_gives.0

pub loop-script-init : goal.loop-script-init
loop-script-init c =
    let scripts = c.into_iter-script-iterator.ensures.into_iter_gives.0 in
    let added = ap (λ accounts. sessions_in accounts ++ flat_map sessions_of (into_iter_items c.into_iter-script-iterator.result)) c.requires.none in
    record {
      list = refl;
      choice = refl;
      scene = refl;
      accounts = c.requires.none;
      left = subst (λ xs. AreSessionsFrom c.args.self.now.list.now c.args.self.now.scene.steps.items 0 xs) (sym scripts) c.requires.sessions;
      added = added;
      count = omega (arith, ap length scripts, c.requires.count);
      exact = omega (arith, c.into_iter-script-iterator.ensures.into_iter_gives.1, ap length scripts, c.args.scripts.ok.0);
    }

pub returns-in_err-add_component-clause-fault : goal.returns-in_err-add_component-clause-fault
returns-in_err-add_component-clause-fault c =
    passed_on _ _ c.from_residual.result c.from_residual.ensures.1
    (λ other. subst (λ (list : Bor Listed). LacksBudgets list.now c.in_err-add_component.field-0.0) c.loop-script.invariant.list (c.in_err-add_component.ensures.fault other))
