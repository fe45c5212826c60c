use Rattle.std.proofs.Common.{sym}
use Rattle.run_devices.proofs.LineLemmas.{line_length-none}
use Rattle.line_rounds.proofs.lines.line_length.Goals as goal

pub returns-in-None-clause-count : goal.returns-in-None-clause-count
returns-in-None-clause-count c = line_length-none c.args.text.now (sym c.in-None.ensures.place)
