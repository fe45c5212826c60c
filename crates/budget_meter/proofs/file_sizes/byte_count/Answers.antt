-- Half as many as the digits.
use Rattle.budget_meter.proofs.HexLemmas.{hex_counted}
use Rattle.budget_meter.proofs.file_sizes.byte_count.Goals as goal

pub returns : goal.returns
returns c = hex_counted c.args.hex.now c.requires
