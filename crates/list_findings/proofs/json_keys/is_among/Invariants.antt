use Rattle.std.proofs.Common.{◌≡◌, map, drop}
use Rattle.std.specs.List.{list_any}
use Rattle.std.specs.Str.{bytes_eq}
use Rattle.list_findings.proofs.json_keys.is_among.Given as goal

-- none of the members that are passed has the name
abbrev pub invariant-loop-member : goal.invariant-loop-member
invariant-loop-member l =
    list_any (bytes_eq l.name) (map (λ member. member.0.now) l.members)
    ≡ list_any (bytes_eq l.name) (map (λ member. member.0.now) (drop l.member-index l.members))
