-- The first path that is meant.
use Rattle.std.proofs.Common.{◌≡◌, ◌∙◌, Some, ap, sym}
use Rattle.text_near_words.specs.Near.{is_away}
use Rattle.list_reach.proofs.NamedLemmas.{path_found}
use Rattle.list_reach.proofs.near_path.path_away.Goals as goal

pub returns-then-branch : goal.returns-then-branch
returns-then-branch c =
    let is : c.as_str.result.now ≡ c.entry-item.result.path = c.as_str.ensures.text ∙ c.to_path-path.ensures in
    ap Some c.to_path-path.ensures
    ∙ path_found (is_away c.args.edits c.args.written.now) c.args.sought c.args.entries.now c.loop-entry.entry-index c.entry-item.result
    c.loop-entry-test.true c.entry-item.is (sym c.is_sought.ensures ∙ c.if-is_sought.true)
    (sym (c.in_ok-is_away.ensures ∙ ap (is_away c.args.edits c.args.written.now) is) ∙ c.if-branch.true)
    ∙ c.loop-entry.invariant
