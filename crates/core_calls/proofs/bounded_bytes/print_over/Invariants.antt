-- The bytes so far are as the log prints them, and the others as they were copied.
use Rattle.std.proofs.Common.{◌≡◌, ◌++◌, map, take, drop}
use Rattle.own_model.specs.Reply.{printed}
use Rattle.core_calls.proofs.bounded_bytes.print_over.Given as goal

abbrev pub invariant-loop-byte : goal.invariant-loop-byte
invariant-loop-byte l = l.others ≡ map printed (take l.byte-index l.fn.bytes) ++ drop l.byte-index l.fn.bytes
