-- The buffer is a script's.
use Rattle.pd_core.proofs.LentGoneLemmas.{drops}
use Rattle.pd_core.proofs.component.Component.drop_buffer.Goals as goal

pub returns : goal.returns
returns c =
    drops c.args.self.now c.in-Script.script c.args.space.0 c.take_buffer.new.self c.detach_all.new.self c.take_buffer.result c.in-Script.is c.requires.lent c.take_buffer.ensures.found c.take_buffer.ensures.first
    c.take_buffer.ensures.gone c.take_buffer.ensures.none c.detach_all.ensures
