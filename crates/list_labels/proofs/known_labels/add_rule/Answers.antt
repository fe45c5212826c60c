-- Both texts of a rule for the service.
use Rattle.std.proofs.Common.{◌∙◌, sym}
use Rattle.std.specs.Option.{option_copied}
use Rattle.list_labels.specs.Asked.{is_known, is_tail, is_whole}
use Rattle.std.proofs.lemmas.Result.{on_ok_weaker}
use Rattle.list_labels.proofs.KnownLemmas.{added_none, added_then, known_else, known_when}
use Rattle.list_labels.proofs.known_labels.add_rule.Goals as goal

pub returns : goal.returns
returns c =
    let service = c.args.service.now in
    let before = c.args.before.now in
    on_ok_weaker c.add_tails.result
    (λ added. added_then (λ label. is_whole before label (option_copied c.label.result))
    (λ label. is_tail before label (option_copied c.label_suffix.result)) (λ label. is_known service before label c.args.rule.now)
    c.args.known.now.items c.add_whole.new.known.items c.add_tails.new.known.items c.in_ok-add_whole.ensures added
    (λ label filled. known_when service before label c.args.rule.now (option_copied c.label.result) (option_copied c.label_suffix.result)
    c.label.ensures c.label_suffix.ensures (sym c.asks_service.ensures ∙ c.if-not-asks_service.false)))
    c.add_tails.ensures

pub returns-then-not-asks_service : goal.returns-then-not-asks_service
returns-then-not-asks_service c =
    added_none (λ label. is_known c.args.service.now c.args.before.now label c.args.rule.now) c.args.known.now.items
    (λ label filled. known_else c.args.service.now c.args.before.now label c.args.rule.now
    (sym c.asks_service.ensures ∙ c.if-not-asks_service.true))
