-- By the texts of replies.
use Rattle.budget_theorems.proofs.ToldLemmas.{wants_told}
use Rattle.budget_theorems.proofs.accounts.replies_show_shortfalls.Goals as goal

pub returns : goal.returns
returns c = wants_told
