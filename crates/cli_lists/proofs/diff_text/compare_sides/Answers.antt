-- The text is that of all differences.
use Rattle.std.proofs.Common.{◌∙◌}
use Rattle.cli_lists.proofs.ComparisonLemmas.{all_found, text_is}
use Rattle.cli_lists.proofs.diff_text.compare_sides.Goals as goal

pub returns : goal.returns
returns c =
    text_is c.args.so_far c.with_lists-found.result c.of.result
    (all_found c.args.so_far c.with_lists-found.result c.args.was c.args.now c.in_ok-changes.changes.items c.in_ok-leads.leads.items
    c.with_lists-found.ensures.so_far (c.with_lists-found.ensures.changes ∙ c.as_slice.ensures.value)
    (c.with_lists-found.ensures.leads ∙ c.as_slice-2.ensures.value) c.in_ok-changes.ensures c.in_ok-leads.ensures
    c.requires.was c.requires.now)
    c.of.ensures
