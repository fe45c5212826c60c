-- The links stand behind the bytes that stand for the node.
use Rattle.std.proofs.Common.{◌∙◌, ◌+◌, ◌≤◌, length, sym, ap, subst, arith}
use Rattle.dataspace_core.specs.Store.{Store, Exists, space_at}
use Rattle.session_nodes.specs.Node.{word_from}
use Rattle.session_nodes.proofs.NameReadLemmas.{names_after, word_read}
use Rattle.session_nodes.specs.Index.{names_in}
use Rattle.session_nodes.specs.SessionHeaps.{stock_of}
use Rattle.session_nodes.proofs.name_tree.NameTreeCountedMemoryNodes.links.Goals as goal

pub load-left-requires-clause-range : goal.load-left-requires-clause-range
load-left-requires-clause-range g c = let found = c.find_node-at.ensures.found 64 8 (omega arith) (omega arith) in omega (arith, found.there.within)

pub load-right-requires-clause-exists : goal.load-right-requires-clause-exists
load-right-requires-clause-exists g c =
    let found = c.find_node-at.ensures.found 72 8 (omega arith) (omega arith) in subst (λ (m : Store). Exists m c.find_node-at.result.0.0) (sym c.load-left.ensures.memory) found.there.exists

pub load-right-requires-clause-range : goal.load-right-requires-clause-range
load-right-requires-clause-range g c =
    let found = c.find_node-at.ensures.found 72 8 (omega arith) (omega arith) in
    subst (λ (m : Store). c.find_node-at.result.1 + 72 + 8 ≤ length (space_at m c.find_node-at.result.0.0).bytes) (sym c.load-left.ensures.memory) found.there.within

pub load-high-requires-clause-exists : goal.load-high-requires-clause-exists
load-high-requires-clause-exists g c =
    let found = c.find_node-at.ensures.found 80 8 (omega arith) (omega arith) in
    subst (λ (m : Store). Exists m c.find_node-at.result.0.0) (sym (c.load-right.ensures.memory ∙ c.load-left.ensures.memory)) found.there.exists

pub load-high-requires-clause-range : goal.load-high-requires-clause-range
load-high-requires-clause-range g c =
    let found = c.find_node-at.ensures.found 80 8 (omega arith) (omega arith) in
    subst (λ (m : Store). c.find_node-at.result.1 + 80 + 8 ≤ length (space_at m c.find_node-at.result.0.0).bytes) (sym (c.load-right.ensures.memory ∙ c.load-left.ensures.memory)) found.there.within

pub returns-clause-links : goal.returns-clause-links
returns-clause-links g c =
    let ds = c.find_node-at.result.0.0 in
    let at = c.find_node-at.result.1 in
    let found = c.find_node-at.ensures.found in
    let left = c.load-left.ensures.value ∙ word_read c.requires ds at found 64 (omega arith) in
    let right = c.load-right.ensures.value ∙ ap (λ (m : Store). word_from (space_at m ds).bytes (at + 72)) c.load-left.ensures.memory ∙ word_read c.requires ds at found 72 (omega arith) in
    let high = c.load-high.ensures.value ∙ ap (λ (m : Store). word_from (space_at m ds).bytes (at + 80)) (c.load-right.ensures.memory ∙ c.load-left.ensures.memory) ∙ word_read c.requires ds at found 80 (omega arith) in
    λ i. record { left = left i; right = right i; high = high i }

pub load-left-requires-clause-exists : goal.load-left-requires-clause-exists
load-left-requires-clause-exists g c = (c.find_node-at.ensures.found 64 8 (omega arith) (omega arith)).there.exists

pub returns-clause-view : goal.returns-clause-view
returns-clause-view g c = ap (λ m. names_in m (stock_of c.args.self.now.heaps.now m c.args.self.now.map.now).nodes) (c.load-high.ensures.memory ∙ c.load-right.ensures.memory ∙ c.load-left.ensures.memory)

pub returns-clause-keeps : goal.returns-clause-keeps
returns-clause-keeps g c = (c.load-high.ensures.same_reference ∙ c.load-right.ensures.same_reference ∙ c.load-left.ensures.same_reference, names_after c.args.self.now.heaps.now.nodes c.args.self.now.heaps.now.contents c.args.self.now.map.now (c.load-high.ensures.memory ∙ c.load-right.ensures.memory ∙ c.load-left.ensures.memory))
