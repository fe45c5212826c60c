use Rattle.std.proofs.Common.{◌≡◌, drop, map}
use Rattle.std.specs.List.{list_any}
use Rattle.std.specs.Str.{bytes_eq}
use Rattle.list_findings.proofs.members.is_among.Given as goal

abbrev pub invariant-loop-known : goal.invariant-loop-known
invariant-loop-known l =
    list_any (λ known. bytes_eq known l.word) (map (λ known. known.now) (drop l.known-index l.words))
    ≡ list_any (λ known. bytes_eq known l.word) (map (λ known. known.now) l.words)
