-- The page of the first link has those of the others that lie in it.
use Rattle.std.proofs.Common.{◌≡◌, ◌≢◌, ℕ, ◌+◌, ◌-◌, ◌%◌, arith}
use Rattle.session_nodes.specs.Index.{word_at}
use Rattle.session_nodes.specs.Links.{followed}
use Rattle.session_nodes.specs.SessionHeaps.{stock_of}
use Rattle.session_nodes.proofs.PageLemmas.{node_is_in, word_in_page}
use Rattle.session_nodes.proofs.session_heaps.SessionHeaps.follow_in_page.Goals as goal

pub find_node-at-requires-clause-there : goal.find_node-at-requires-clause-there
find_node-at-requires-clause-there c = c.requires.there 0 c.requires.some c.requires.block

pub page-page-requires-clause-exists : goal.page-page-requires-clause-exists
page-page-requires-clause-exists c = (c.find_node-at.ensures.found 0 96 (omega arith) (omega arith)).there.exists

pub page-page-requires-clause-range : goal.page-page-requires-clause-range
page-page-requires-clause-range c =
    let found = c.find_node-at.ensures.found 0 96 (omega arith) (omega arith) in
    omega (arith, found.there.within, c.requires.within)

pub overflow_sub-front : goal.overflow_sub-front
overflow_sub-front c =
    let found = c.find_node-at.ensures.found 0 96 (omega arith) (omega arith) in
    let here = node_is_in c.requires.furnished _ _ _ found.held in
    omega (arith, here.at, here.above, c.requires.within)

pub follow_links-requires-clause-above : goal.follow_links-requires-clause-above
follow_links-requires-clause-above c =
    let found = c.find_node-at.ensures.found 0 96 (omega arith) (omega arith) in
    let here = node_is_in c.requires.furnished _ _ _ found.held in
    omega (arith, here.at, here.above, c.requires.within)

pub follow_links-requires-clause-high : goal.follow_links-requires-clause-high
follow_links-requires-clause-high c =
    let found = c.find_node-at.ensures.found 0 96 (omega arith) (omega arith) in
    let here = node_is_in c.requires.furnished _ _ _ found.held in
    omega (arith, here.at, here.above, c.requires.within, c.requires.aligned, c.find_node-at.ensures.even)

pub returns-clause-address : goal.returns-clause-address
returns-clause-address c =
    let found = c.find_node-at.ensures.found 0 96 (omega arith) (omega arith) in
    let here = node_is_in c.requires.furnished _ _ _ found.held in
    let at = c.find_node-at.result.1 in
    let front : ℕ = c.args.from - (at + c.args.link) % 4096 in
    let link : ℕ → ℕ = word_at (stock_of c.args.self.now c.args.memory.now c.args.map.now).nodes c.args.link in
    let front_is : front + (at + c.args.link) % 4096 ≡ c.args.from = omega (arith, here.at, here.above, c.requires.within) in
    c.follow_links.ensures.address link
    (λ k less low high.
    let some : followed link k c.args.from ≢ 0 = λ (e : followed link k c.args.from ≡ 0). absurd (omega (arith, low, e, here.at, here.above, c.requires.within)) in
    word_in_page c.requires.furnished c.lies_apart.ensures.sound _ at c.args.from c.args.link c.requires.within here c.page-page.result.now c.page-page.ensures.bytes
    front (followed link k c.args.from) front_is (c.requires.there k less some) low high)
