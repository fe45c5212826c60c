-- The text goes on behind a name with its value.
use Rattle.std.proofs.Common.{◌∙◌, ◌+◌, ◌≤◌, drop, length, arith, subst, sym, ap, take}
use Rattle.std.proofs.lemmas.List.{length-drop, take_rest}
use Rattle.line_names.specs.Lists.{filled_from}
use Rattle.line_names.proofs.ListLemmas.{name_next}
use Rattle.line_names.proofs.list_filling.fill_list.Goals as goal

pub loop-at-preserved-in-Some-value : goal.loop-at-preserved-in-Some-value
loop-at-preserved-in-Some-value c =
    let text = c.args.text.now in
    let at = c.loop-at.at in
    let size = length c.in-Some.name.now + 3 in
    let long : size ≤ length (drop at text) = subst (λ rest. size ≤ length rest) (take_rest text at) c.in-Some.ensures.within in (
      ap (λ made. filled_from c.args.known.now (take (at + size) text) 0 made (drop (at + size) text)) c.in_ok-extend_from_slice-in-Some-value.ensures.items
          ∙ name_next c.args.known.now text c.loop-at.made.items c.in-Some.name.now c.in-Some-value.value.now at (sym c.in-Some.ensures.value)
          (sym c.in-Some-value.ensures) c.in-Some.ensures.within
          ∙ c.loop-at.invariant.0,
      omega (arith, long, length-drop at text, c.loop-at.invariant.1),
    )
