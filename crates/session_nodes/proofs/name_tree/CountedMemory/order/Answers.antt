-- The first words that differ decide.
use Rattle.std.proofs.Common.{◌≡◌, ◌∙◌, ◌+◌, ◌*◌, ℕ, List, sym, ap, arith}
use Rattle.std.specs.Prelude.{slice_index}
use Rattle.std.specs.Ordering.{nat_cmp}
use Rattle.dataspace_core.specs.Store.{Store, space_at}
use Rattle.session_nodes.specs.Node.{word_from}
use Rattle.session_nodes.proofs.RankLemmas.{order_by}
use Rattle.session_nodes.proofs.name_tree.CountedMemory.order.Goals as goal

pub returns-then-other-word-clause-order : goal.returns-then-other-word-clause-order
returns-then-other-word-clause-order g c =
    let words : List ℕ = c.args.words.now in
    let w : ℕ → ℕ = λ i. word_from (space_at c.args.self.now.memory.now c.args.ds.0).bytes (c.args.offset + 8 * i) in
    let inv = c.loop-i.invariant in
    let value : c.load-word.result ≡ w c.loop-i.i =
    c.load-word.ensures.value ∙ ap (λ (m : Store). word_from (space_at m c.args.ds.0).bytes (c.args.offset + 8 * c.loop-i.i)) inv.memory in
    c.cmp.ensures ∙ ap (nat_cmp (slice_index words c.loop-i.i)) value
    ∙ order_by (slice_index words) w c.loop-i.i c.loop-i-test.true (λ j few. omega (arith, c.type_inv.words j)) c.requires.words inv.same (λ e. c.if-other-word.true (e ∙ sym value))
