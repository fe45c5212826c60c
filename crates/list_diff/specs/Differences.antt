-- That two start lists, and the runs of a scenario on both, don't differ.
use Rattle.std.specs.Prelude.{◌==◌, ◌&&◌, Bool, true, false, List, [], ◌∷◌}
use Rattle.own_model.specs.Listed.{Listed}
use Rattle.list_diff.specs.declared.differences.ListDifferences.{ListDifferences}

-- both lists have the same pages and capabilities
abbrev pub same_machine : Listed → Listed → Bool
same_machine before after = before.pages == after.pages && before.caps == after.caps

-- a list has no element
abbrev pub is_bare : {A : Type 0} → List A → Bool
is_bare [] = true
is_bare (one ∷ more) = false

-- no part differs: the machine, the entries, the routes, the breaches of a policy, the budgets that suffice, the replies
abbrev pub nothing_differs : ListDifferences → Bool
nothing_differs told =
    same_machine told.before.now told.after.now
    && (is_bare told.changes.now && (is_bare told.leads.now && (is_bare told.breaches.now
    && (is_bare told.lacks.now && is_bare told.replies.now))))
