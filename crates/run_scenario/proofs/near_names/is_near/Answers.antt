-- An init is not near, and another component is by its path.
use Rattle.std.proofs.Common.{Some, sym, ap, ◌∙◌}
use Rattle.run_scenario.proofs.TextLemmas.{near_init, near_path}
use Rattle.run_scenario.proofs.near_names.is_near.Goals as goal

pub returns-then-is_init : goal.returns-then-is_init
returns-then-is_init c = near_init c.args.name.now _ (c.is_init.ensures ∙ ap Some c.if-is_init.true)

pub returns : goal.returns
returns c = near_path c.args.name.now _ _ (c.is_init.ensures ∙ ap Some c.if-is_init.false) c.name.ensures.value ∙ ap Some (sym c.is_one_edit.ensures)
