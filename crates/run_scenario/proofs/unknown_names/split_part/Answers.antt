-- The first part ends at a comma, or the text does.
use Rattle.session_proto.proofs.PieceLemmas.{cut_at, cut_none}
use Rattle.run_scenario.proofs.unknown_names.split_part.Goals as goal

pub returns-then-end-text-clause-pieces : goal.returns-then-end-text-clause-pieces
returns-then-end-text-clause-pieces c = cut_at _ _ c.part_length-end.ensures.value c.if-end-text.true

pub returns-else-end-text-clause-pieces : goal.returns-else-end-text-clause-pieces
returns-else-end-text-clause-pieces c = cut_none _ _ c.part_length-end.ensures.value c.if-end-text.false
