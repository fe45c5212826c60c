-- No text below the text is one of the label.
use Rattle.std.proofs.Common.{◌∙◌, ap, arith, sym}
use Rattle.list_classes.specs.Trees.{has_at}
use Rattle.list_classes.proofs.TreeLemmas.{longest_just}
use Rattle.list_classes.proofs.text_tree.TextTree.is_longest.Goals as goal

pub returns-then-has : goal.returns-then-has
returns-then-has c =
    let tree = c.args.self.now in
    longest_just tree.side tree.texts.items tree.below.items c.args.label.now c.args.place c.goes_below.result tree.formed (omega arith)
    (sym (c.has.ensures ∙ ap (λ t. has_at tree.side c.args.label.now t) c.text.ensures.text) ∙ c.if-has.true) c.goes_below.ensures
