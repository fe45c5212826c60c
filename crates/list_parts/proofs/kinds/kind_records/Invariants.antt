-- The records so far, and those of the others.
use Rattle.std.proofs.Common.{◌≡◌, ◌++◌, drop, map}
use Rattle.list_parts.specs.Kinds.{kind_record}
use Rattle.view_records.specs.Lists.{records_of}
use Rattle.list_parts.proofs.kinds.kind_records.Given as goal

abbrev pub invariant-loop-kind : goal.invariant-loop-kind
invariant-loop-kind l = records_of l.records ++ map kind_record (drop l.kind-index l.kinds) ≡ map kind_record l.kinds
