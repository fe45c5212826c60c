-- Each byte is printed where it was copied.
use Rattle.std.proofs.Common.{sym, subst, arith, ◌≡◌, ◌<◌, length, set, map, take, drop, get_or, ◌++◌, ◌+◌}
use Rattle.std.proofs.lemmas.List.{get_or_default}
use Rattle.std.proofs.lemmas.List.Edits.{map_over_more}
use Rattle.own_model.specs.Reply.{printed}
use Rattle.core_calls.proofs.bounded_bytes.print_over.Goals as goal

pub loop-byte-preserved : goal.loop-byte-preserved
loop-byte-preserved c =
    let others = c.loop-byte.others in
    let i = c.loop-byte.byte-index in
    let there : i < length others = omega (arith, c.loop-byte-test.true, c.loop-byte.auto.others) in
    let within : i < length c.args.bytes.now = omega (arith, c.loop-byte-test.true, c.copy_from_slice.ensures.len, c.requires) in
    subst (λ b. set others i b ≡ map printed (take (i + 1) c.args.bytes.now) ++ drop (i + 1) c.args.bytes.now) (sym c.printed.ensures)
    (map_over_more printed c.args.bytes.now others i (get_or others i 0) within c.loop-byte.invariant (get_or_default others i 0 (get_or others i 0) there))
