-- By whether the component is an init.
use Rattle.std.proofs.Common.{Some, true, false, rules, sym, ap, ◌∙◌}
use Rattle.run_scenario.proofs.CallerLemmas.{heard_here}
use Rattle.run_scenario.proofs.text.caller_of.Goals as goal

pub returns-then-is_init-clause-heard : goal.returns-then-is_init-clause-heard
returns-then-is_init-clause-heard c = λ call.
    heard_here c.args.list.now c.in_ok-component.component (search rules) c.args.name.now call true (sym c.in_ok-component.ensures.listed)
    (c.is_init.ensures ∙ ap Some c.if-is_init.true)

pub returns-else-is_init-clause-heard : goal.returns-else-is_init-clause-heard
returns-else-is_init-clause-heard c = λ call.
    heard_here c.args.list.now c.in_ok-component.component (search rules) c.args.name.now call false (sym c.in_ok-component.ensures.listed)
    (c.is_init.ensures ∙ ap Some c.if-is_init.false)
