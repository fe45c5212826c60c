-- By the lines that reach the session.
use Rattle.std.proofs.Common.{rules, tests, sym, ◌∙◌}
use Rattle.std.proofs.lemmas.Iterator.{YieldsList-from_slice}
use Rattle.std.proofs.lemmas.Iterator.Search.{any_from_yields_List}
use Rattle.budget_search.proofs.SessionLineLemmas.{session_none, skips}
use Rattle.budget_search.proofs.session_trial.SessionLines.leaves_out.Goals as goal

pub returns : goal.returns
returns c = λ made session donation.
    let steps = c.args.self.steps.now in
    let places = c.args.self.opened.now.steps.items in
    session_none steps c.args.self.opened.now.step places session donation
    (sym (any_from_yields_List (skips steps) _ _ c.any.result c.any.ensures.ran (YieldsList-from_slice places cc) (λ x b q k. search (rules, tests))) ∙ made)
