-- What is lent goes, and then the nodes.
use Rattle.session_nodes.proofs.ReadyLemmas.{are_sound, is_lent}
use Rattle.session_nodes.specs.Frame.{keeps_then}
use Rattle.file_service.proofs.service.FileServiceService.end.Goals as goal

pub give_any-requires-clause-furnished : goal.give_any-requires-clause-furnished
give_any-requires-clause-furnished c = are_sound _ _ _ c.requires.account c.requires.kept.heaps c.lies_apart.ensures.sound

pub give_any-requires-clause-lent : goal.give_any-requires-clause-lent
give_any-requires-clause-lent c = is_lent _ _ _ c.requires.account c.requires.kept.heaps c.args.session.now.buffer c.requires.kept.buffer

pub returns-clause-others : goal.returns-clause-others
returns-clause-others c = keeps_then _ _ _ _ _ _ _ c.give_any.ensures.stays.others c.end.ensures.others
