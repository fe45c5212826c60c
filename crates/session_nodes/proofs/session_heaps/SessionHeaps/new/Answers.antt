-- A new heap has no chunk, and an account that has nothing but sliced blocks holds none.
use Rattle.std.proofs.Common.{refl, ◌∙◌}
use Rattle.session_nodes.proofs.BeginLemmas.{new_keeps, new_shape, alone_not_lent}
use Rattle.session_nodes.proofs.session_heaps.SessionHeaps.new.Goals as goal

pub returns-clause-kept : goal.returns-clause-kept
returns-clause-kept c share alone linked = record {
  payer = refl;
  same_payer = c.new-nodes.ensures.payer ∙ c.account.ensures;
  linked = linked;
  nodes = new_keeps c.new-nodes.result c.new-nodes.ensures.laid c.new-nodes.ensures.empty share alone;
}

pub returns-clause-empty : goal.returns-clause-empty
returns-clause-empty c share = new_shape c.new-nodes.result c.new-nodes.ensures.empty share

pub returns-clause-not_lent : goal.returns-clause-not_lent
returns-clause-not_lent c share alone possible = alone_not_lent share possible alone
