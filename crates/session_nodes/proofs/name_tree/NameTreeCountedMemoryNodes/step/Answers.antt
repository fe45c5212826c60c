-- The key is compared with the words of the name, and the link on that side is read.
use Rattle.std.proofs.Common.{◌∙◌, ◌+◌, ◌≤◌, ◌<◌, length, sym, ap, subst, arith}
use Rattle.std.specs.Prelude.{slice_index}
use Rattle.dataspace_core.specs.Store.{Store, Exists, space_at}
use Rattle.session_nodes.specs.Node.{rank_by, word_from}
use Rattle.session_nodes.proofs.NameReadLemmas.{names_after, name_low, rank_read, word_read}
use Rattle.session_nodes.proofs.RankLemmas.{cmp_is_less, cmp_is_equal, cmp_is_more}
use Rattle.session_nodes.specs.Index.{names_in}
use Rattle.session_nodes.specs.SessionHeaps.{stock_of}
use Rattle.session_nodes.proofs.name_tree.NameTreeCountedMemoryNodes.step.Goals as goal

pub order-requires-clause-range : goal.order-requires-clause-range
order-requires-clause-range g c = let found = c.find_node-at.ensures.found 24 40 (omega arith) (omega arith) in omega (arith, found.there.within)

pub order-requires-clause-words : goal.order-requires-clause-words
order-requires-clause-words g c = name_low c.requires c.find_node-at.result.0.0 c.find_node-at.result.1 c.find_node-at.ensures.found

pub load-requires-clause-exists : goal.load-requires-clause-exists
load-requires-clause-exists g c =
    let found = c.find_node-at.ensures.found 64 8 (omega arith) (omega arith) in subst (λ (m : Store). Exists m c.find_node-at.result.0.0) (sym c.order.ensures.memory) found.there.exists

pub load-requires-clause-range : goal.load-requires-clause-range
load-requires-clause-range g c =
    let found = c.find_node-at.ensures.found 64 8 (omega arith) (omega arith) in
    subst (λ (m : Store). c.find_node-at.result.1 + 64 + 8 ≤ length (space_at m c.find_node-at.result.0.0).bytes) (sym c.order.ensures.memory) found.there.within

pub load-requires-in-Greater-clause-exists : goal.load-requires-in-Greater-clause-exists
load-requires-in-Greater-clause-exists g c =
    let found = c.find_node-at.ensures.found 72 8 (omega arith) (omega arith) in subst (λ (m : Store). Exists m c.find_node-at.result.0.0) (sym c.order.ensures.memory) found.there.exists

pub load-requires-in-Greater-clause-range : goal.load-requires-in-Greater-clause-range
load-requires-in-Greater-clause-range g c =
    let found = c.find_node-at.ensures.found 72 8 (omega arith) (omega arith) in
    subst (λ (m : Store). c.find_node-at.result.1 + 72 + 8 ≤ length (space_at m c.find_node-at.result.0.0).bytes) (sym c.order.ensures.memory) found.there.within

pub returns-in-Less-clause-step : goal.returns-in-Less-clause-step
returns-in-Less-clause-step g c =
    let ds = c.find_node-at.result.0.0 in
    let at = c.find_node-at.result.1 in
    let found = c.find_node-at.ensures.found in
    let less = cmp_is_less _ _ c.in-Less.ensures.order in (
      subst (λ n. rank_by (slice_index c.args.key.words) < n) (rank_read c.requires ds at found) less,
      sym (c.load.ensures.value ∙ ap (λ (m : Store). word_from (space_at m ds).bytes (at + 64)) c.order.ensures.memory ∙ word_read c.requires ds at found 64 (omega arith)),
    )

pub returns-in-Equal-clause-step : goal.returns-in-Equal-clause-step
returns-in-Equal-clause-step g c =
    let ds = c.find_node-at.result.0.0 in
    let at = c.find_node-at.result.1 in
    let found = c.find_node-at.ensures.found in
    sym (cmp_is_equal _ _ c.in-Equal.ensures.order ∙ rank_read c.requires ds at found)

pub returns-in-Greater-clause-step : goal.returns-in-Greater-clause-step
returns-in-Greater-clause-step g c =
    let ds = c.find_node-at.result.0.0 in
    let at = c.find_node-at.result.1 in
    let found = c.find_node-at.ensures.found in
    let more = cmp_is_more _ _ c.in-Greater.ensures.order in (
      subst (λ n. n < rank_by (slice_index c.args.key.words)) (rank_read c.requires ds at found) more,
      sym (c.load-in-Greater.ensures.value ∙ ap (λ (m : Store). word_from (space_at m ds).bytes (at + 72)) c.order.ensures.memory ∙ word_read c.requires ds at found 72 (omega arith)),
    )

pub order-requires-clause-exists : goal.order-requires-clause-exists
order-requires-clause-exists g c = (c.find_node-at.ensures.found 24 40 (omega arith) (omega arith)).there.exists

pub returns-in-Less-clause-view : goal.returns-in-Less-clause-view
returns-in-Less-clause-view g c = ap (λ m. names_in m (stock_of c.args.self.now.heaps.now m c.args.self.now.map.now).nodes) (c.load.ensures.memory ∙ c.order.ensures.memory)

pub returns-in-Less-clause-keeps : goal.returns-in-Less-clause-keeps
returns-in-Less-clause-keeps g c = (c.load.ensures.same_reference ∙ c.order.ensures.same_reference, names_after c.args.self.now.heaps.now.nodes c.args.self.now.heaps.now.contents c.args.self.now.map.now (c.load.ensures.memory ∙ c.order.ensures.memory))

pub returns-in-Equal-clause-view : goal.returns-in-Equal-clause-view
returns-in-Equal-clause-view g c = ap (λ m. names_in m (stock_of c.args.self.now.heaps.now m c.args.self.now.map.now).nodes) (c.order.ensures.memory)

pub returns-in-Equal-clause-keeps : goal.returns-in-Equal-clause-keeps
returns-in-Equal-clause-keeps g c = (c.order.ensures.same_reference, names_after c.args.self.now.heaps.now.nodes c.args.self.now.heaps.now.contents c.args.self.now.map.now c.order.ensures.memory)

pub returns-in-Greater-clause-view : goal.returns-in-Greater-clause-view
returns-in-Greater-clause-view g c = ap (λ m. names_in m (stock_of c.args.self.now.heaps.now m c.args.self.now.map.now).nodes) (c.load-in-Greater.ensures.memory ∙ c.order.ensures.memory)

pub returns-in-Greater-clause-keeps : goal.returns-in-Greater-clause-keeps
returns-in-Greater-clause-keeps g c = (c.load-in-Greater.ensures.same_reference ∙ c.order.ensures.same_reference, names_after c.args.self.now.heaps.now.nodes c.args.self.now.heaps.now.contents c.args.self.now.map.now (c.load-in-Greater.ensures.memory ∙ c.order.ensures.memory))
