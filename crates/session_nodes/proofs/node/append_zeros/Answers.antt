-- A part of zeros is zeros.
use Rattle.std.proofs.Common.{◌++◌, ap, ◌∙◌}
use Rattle.session_nodes.proofs.RankLemmas.{zeros_part}
use Rattle.session_nodes.proofs.node.append_zeros.Goals as goal

pub returns-clause-items : goal.returns-clause-items
returns-clause-items c = c.append.ensures.items ∙ ap (λ l. c.args.bytes.now.items ++ l) (zeros_part c.args.count c.requires.few)
