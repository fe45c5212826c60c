-- The label is what follows the names in the text.
use Rattle.std.proofs.Common.{◌∙◌, ap, drop, length, nat_eq, sym}
use Rattle.std.specs.List.{starts_with}
use Rattle.std.specs.Option.{option_copied}
use Rattle.std.specs.Str.{bytes_eq}
use Rattle.list_labels.specs.Asked.{is_whole}
use Rattle.std.proofs.lemmas.Result.{on_ok_weaker}
use Rattle.list_labels.proofs.KnownLemmas.{added_as, added_none, whole_as, whole_lost}
use Rattle.list_labels.proofs.known_labels.add_whole.Goals as goal

pub returns-in-Some : goal.returns-in-Some
returns-in-Some c =
    let before = c.args.before.now in
    let asked = c.in-Some.label.now in
    on_ok_weaker c.add.result
    (λ added. added_as _ (λ label. is_whole before label (option_copied c.args.asked)) c.args.known.now.items c.add.new.known.items added
    (λ label filled. ap (λ o. is_whole before label o) (ap option_copied c.in-Some.is)
    ∙ (whole_as before asked label
    (ap (λ t. starts_with nat_eq t before) (sym c.as_bytes.ensures.value) ∙ (sym c.starts_with.ensures.value ∙ c.if-starts_with.true))
    ∙ ap (λ t. bytes_eq t label)
    (sym (c.text_behind.ensures ∙ ap (λ t. drop (length before) t) c.as_bytes-in-Some.ensures.value)))))
    c.add.ensures

pub returns-in_default : goal.returns-in_default
returns-in_default c =
    let before = c.args.before.now in
    let asked = c.in-Some.label.now in
    added_none (λ label. is_whole before label (option_copied c.args.asked)) c.args.known.now.items
    (λ label filled. ap (λ o. is_whole before label o) (ap option_copied c.in-Some.is)
    ∙ whole_lost before asked label
    (ap (λ t. starts_with nat_eq t before) (sym c.as_bytes.ensures.value) ∙ (sym c.starts_with.ensures.value ∙ c.if-starts_with.false)))
