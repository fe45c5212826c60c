-- The least gap in the rising keys.
use Rattle.own_model.proofs.NewSelector.{IsLeastUnused-new_selector}
use Rattle.own_model.proofs.calls.new_selector_is_least_unused.Goals as goal

pub returns : goal.returns
returns c = λ s. IsLeastUnused-new_selector s.selectors
