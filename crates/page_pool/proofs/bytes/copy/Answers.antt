-- The bytes are put behind their range or before it.
use Rattle.std.proofs.Common.{ℕ, ◌+◌, ◌-◌, ◌<◌, ◌≤◌, arith}
use Rattle.std.proofs.lemmas.Bool.{cases_lt}
use Rattle.std.proofs.lemmas.Bool.Decides.{nat_tests}
use Rattle.page_pool.proofs.ByteLemmas.{copied_behind, copied_before}
use Rattle.page_pool.proofs.bytes.copy.Goals as goal

before : (from to count : ℕ) → from < to → (to < from + count → to + count ≤ from) → from + count ≤ to
before from to count less apart = grind (arith, nat_tests, cases_lt)

behind : (from to count : ℕ) → to ≤ from → (to < from + count → to + count ≤ from) → to + count ≤ from
behind from to count least apart = grind (arith, nat_tests, cases_lt)

pub returns-then-from-to : goal.returns-then-from-to
returns-then-from-to c =
    let split = c.split_at_mut-front.ensures in
    copied_behind c.args.bytes.now _ _ _ c.args.from c.args.to c.args.count split.front split.back c.copy_from_slice.ensures.after
    (before c.args.from c.args.to c.args.count c.if-from-to.true c.requires.apart) c.requires.target

pub returns-else-from-to : goal.returns-else-from-to
returns-else-from-to c =
    let split = c.split_at_mut-front-else-from-to.ensures in
    copied_before c.args.bytes.now _ _ _ c.args.from c.args.to c.args.count (c.args.to + c.args.count - c.args.to) split.front split.back c.copy_from_slice-else-from-to.ensures.after
    (omega arith) (behind c.args.from c.args.to c.args.count c.if-from-to.false c.requires.apart) c.requires.source
