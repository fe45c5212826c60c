-- The policy was read for the list after, and has no fault.
use Rattle.std.proofs.Common.{◌≡◌, ◌∙◌, ap, inl, inr, map, sym, true}
use Rattle.std.specs.Prelude.{◌⊎◌, List, is_err}
use Rattle.std.proofs.lemmas.Result.{IfErr-weaker, IfOk-at_ok}
use Rattle.list_policy.specs.Components.{fault_at}
use Rattle.list_policy.specs.Reading.{Reads}
use Rattle.list_policy.specs.declared.fault.PolicyFault.{PolicyFault}
use Rattle.list_policy.specs.declared.policy_text.Policy.{Policy}
use Rattle.cli_lists.specs.Comparison.{AreBreachesOf, HasPolicyFault}
use Rattle.cli_lists.specs.declared.diff_policy.PolicyBreaches.{PolicyBreaches}
use Rattle.cli_base.proofs.MadeLemmas.{on_made}
use Rattle.cli_lists.proofs.ComparisonLemmas.{no_faults, some_faults}
use Rattle.cli_lists.proofs.diff_policy.breaches_of.Goals as goal

pub returns-then-not-is_empty-clause-stopped : goal.returns-then-not-is_empty-clause-stopped
returns-then-not-is_empty-clause-stopped c =
    let reads : Reads c.args.lists.after.list.now c.args.text.now c.in_ok-policy.policy =
    IfOk-at_ok (λ (policy : Policy). Reads c.args.lists.after.list.now c.args.text.now policy) c.in_ok-policy.ensures.ok c.read.ensures in
    inr (
      c.refuse_policy.ensures,
      some_faults c.faults-faults.result.now _ c.is_empty.result
          (ap (λ (fs : List PolicyFault). map fault_at fs) c.faults-faults.ensures ∙ reads.faults) c.is_empty.ensures c.if-not-is_empty.true,
    )

pub breaches_by-requires-clause-reads : goal.breaches_by-requires-clause-reads
breaches_by-requires-clause-reads c =
    IfOk-at_ok (λ (policy : Policy). Reads c.args.lists.after.list.now c.args.text.now policy) c.in_ok-policy.ensures.ok c.read.ensures

pub breaches_by-requires-clause-faults : goal.breaches_by-requires-clause-faults
breaches_by-requires-clause-faults c = sym c.faults-faults.ensures ∙ no_faults _ _ c.is_empty.ensures c.if-not-is_empty.false

pub returns-clause-found : goal.returns-clause-found
returns-clause-found c =
    on_made
    (λ (found : PolicyBreaches). AreBreachesOf c.args.text.now c.args.lists.before.list.now c.args.lists.after.list.now found.before.items found.after.items)
    c.made_or_status-2.result c.breaches_by.result c.made_or_status-2.ensures.ok c.breaches_by.ensures

pub returns-clause-stopped : goal.returns-clause-stopped
returns-clause-stopped c =
    IfErr-weaker c.made_or_status-2.result (λ status. (status ≡ 1) × (is_err c.breaches_by.result ≡ true))
    (λ status. (status ≡ 1) ⊎ (status ≡ 2) × HasPolicyFault c.args.text.now c.args.lists.after.list.now) (λ status is. inl is.0)
    c.made_or_status-2.ensures.err
