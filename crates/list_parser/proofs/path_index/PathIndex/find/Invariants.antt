use Rattle.std.specs.Str.{bytes_eq}
use Rattle.list_parser.proofs.FinderLemmas.{NoneBefore}
use Rattle.list_parser.proofs.path_index.PathIndex.find.Given as goal

-- no entry before has the path
abbrev pub invariant-loop-place : goal.invariant-loop-place
invariant-loop-place l = NoneBefore (λ entry. bytes_eq entry.path l.path) l.entries l.place
