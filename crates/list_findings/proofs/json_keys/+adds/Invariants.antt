-- What is added so far and what is to be added of the rest.
use Rattle.std.proofs.Common.{◌≡◌, ◌++◌, [], drop, map, take}
use Rattle.json.specs.Value.{items_view, members_view}
use Rattle.list_findings.specs.JsonKeys.{keys_behind, keys_in, seen}
use Rattle.list_findings.proofs.json_keys.+adds.Given as goal

abbrev pub invariant-add_items-loop-item : goal.invariant-add_items-loop-item
invariant-add_items-loop-item l =
    map seen l.found.items ++ keys_in (items_view (drop l.item-index l.item-items))
    ≡ map seen l.initial.found.items ++ keys_in (items_view l.item-items)

abbrev pub invariant-add_members-loop-place : goal.invariant-add_members-loop-place
invariant-add_members-loop-place l =
    map seen l.found.items
    ++ keys_behind (map (λ member. member.0.now) (take l.place l.member-items)) (members_view (drop l.place l.member-items))
    ≡ map seen l.initial.found.items ++ keys_behind [] (members_view l.member-items)
