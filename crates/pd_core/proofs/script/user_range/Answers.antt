-- Before the heap window only a user region holds the range, and in it none does.
use Rattle.std.proofs.Common.{sym, ◌∙◌, arith}
use Rattle.pd_core.proofs.UserRangeLemmas.{user_alone, no_user}
use Rattle.pd_core.proofs.script.user_range.Goals as goal

pub returns-then-address-lt-HEAP_LOW : goal.returns-then-address-lt-HEAP_LOW
returns-then-address-lt-HEAP_LOW c = c.resolve.ensures.found ∙ user_alone c.args.regions.now c.args.address c.args.count c.resolve.ensures.sound c.if-address-lt-HEAP_LOW.true

pub returns-else-address-lt-HEAP_LOW : goal.returns-else-address-lt-HEAP_LOW
returns-else-address-lt-HEAP_LOW c = let past = c.if-address-lt-HEAP_LOW.false in sym (no_user c.args.regions.now c.args.address c.args.count c.lies_apart.ensures.sound (omega arith))
