-- The end is added if the bytes before it are an end of the names.
use Rattle.std.proofs.Common.{◌∙◌, ap, sym}
use Rattle.std.proofs.lemmas.List.{take_rest}
use Rattle.std.specs.Str.{bytes_eq}
use Rattle.list_labels.specs.KnownLabels.{is_tail_after}
use Rattle.std.proofs.lemmas.Result.{on_ok_weaker}
use Rattle.list_labels.proofs.KnownLemmas.{added_as, tail_as}
use Rattle.list_labels.proofs.known_labels.add_tail.Goals as goal

pub returns-then-ends_with : goal.returns-then-ends_with
returns-then-ends_with c =
    on_ok_weaker c.add.result
    (λ added. added_as _ (is_tail_after c.args.before.now c.args.suffix.now c.args.cut) c.args.known.now.items c.add.new.known.items added
    (λ label filled. tail_as c.args.before.now c.args.suffix.now c.args.cut label c.requires.some c.requires.within
    (sym c.ends_with.ensures.value ∙ c.if-ends_with.true)
    ∙ ap (λ t. bytes_eq t label) (sym (take_rest c.args.suffix.now c.args.cut))))
    c.add.ensures
