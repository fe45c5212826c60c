-- The argument whose name no file may read is one of these.
use Rattle.cli_base.proofs.UnreadLemmas.{unread_one}
use Rattle.cli_base.proofs.unread_names.unread_argument.Goals as goal

pub returns-then-is_read_nowhere : goal.returns-then-is_read_nowhere
returns-then-is_read_nowhere g c =
    unread_one (g.H.Host.text_at c.args.host.now) c.args.paths.now c.args.arguments.now c.loop-argument.argument-index _ c.name_given.result.now
    c.loop-argument-test.true c.name_given.ensures (c.is_read_nowhere.ensures c.if-is_read_nowhere.true)
