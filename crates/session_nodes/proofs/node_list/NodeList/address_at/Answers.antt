-- The walk from the remembered file, or from the first one, leads to the place.
use Rattle.std.proofs.Common.{◌≤◌, ◌-◌, sym, ap, ◌∙◌, arith}
use Rattle.std.proofs.lemmas.Option.{same_Some}
use Rattle.session_nodes.specs.SessionHeaps.{stock_of}
use Rattle.session_nodes.specs.SoundHeaps.{Stock}
use Rattle.session_nodes.specs.declared.recent.RecentNode.{RecentNode}
use Rattle.session_nodes.proofs.AddressLemmas.{back_found, back_way, first_found, first_way, recent_found, recent_way}
use Rattle.session_nodes.proofs.node_list.NodeList.address_at.Goals as goal

pub follow-requires-clause-there : goal.follow-requires-clause-there
follow-requires-clause-there c =
    let s = c.args.self.now in
    let has : Stock = stock_of s.heaps c.args.memory.now c.args.map.now in
    let recent = c.in-Some.recent in
    recent_way s.first s.last s.root has.nodes has.contents c.requires.files recent c.in-Some.is (c.args.place - recent.place)

pub follow-requires-in-Some-2-clause-there : goal.follow-requires-in-Some-2-clause-there
follow-requires-in-Some-2-clause-there c =
    let s = c.args.self.now in
    let has : Stock = stock_of s.heaps c.args.memory.now c.args.map.now in
    let recent = c.in-Some-2.recent in
    back_way s.first s.last s.root has.nodes has.contents c.requires.files recent c.in-Some-2.is (recent.place - c.args.place) (omega arith)

pub follow-requires-in_default-clause-there : goal.follow-requires-in_default-clause-there
follow-requires-in_default-clause-there c =
    let s = c.args.self.now in
    let has : Stock = stock_of s.heaps c.args.memory.now c.args.map.now in
    first_way s.first s.last s.root has.nodes has.contents c.requires.files c.args.place

pub returns-in-Some : goal.returns-in-Some
returns-in-Some c =
    let s = c.args.self.now in
    let has : Stock = stock_of s.heaps c.args.memory.now c.args.map.now in
    c.follow.ensures ∙ recent_found s.first s.last s.root has.nodes has.contents c.requires.files c.in-Some.recent c.in-Some.is c.args.place (omega arith)

pub returns-in-Some-2 : goal.returns-in-Some-2
returns-in-Some-2 c =
    let s = c.args.self.now in
    let has : Stock = stock_of s.heaps c.args.memory.now c.args.map.now in
    let same = ap (λ (r : RecentNode). r.place) (same_Some c.in-Some.recent c.in-Some-2.recent (sym c.in-Some.is ∙ c.in-Some-2.is)) in
    let low : c.args.place ≤ c.in-Some-2.recent.place = omega (arith, same) in
    c.follow-in-Some-2.ensures ∙ back_found s.first s.last s.root has.nodes has.contents c.requires.files c.in-Some-2.recent c.in-Some-2.is c.args.place low

pub returns-in_default : goal.returns-in_default
returns-in_default c =
    let s = c.args.self.now in
    let has : Stock = stock_of s.heaps c.args.memory.now c.args.map.now in
    c.follow-in_default.ensures ∙ first_found s.first s.last s.root has.nodes has.contents c.requires.files c.args.place
