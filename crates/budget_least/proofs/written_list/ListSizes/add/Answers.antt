-- One value more.
use Rattle.budget_least.proofs.SizeLemmas.{sizes_more}
use Rattle.budget_least.proofs.written_list.ListSizes.add.Goals as goal

pub returns : goal.returns
returns c = λ all.
    rw c.in_ok-push-2.ensures.items (sizes_more c.args.self.now.values.items _ c.in_ok-steps.steps.items c.args.name c.in_ok-push.ensures.items c.requires all)
