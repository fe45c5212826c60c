-- One rule after another.
use Rattle.std.proofs.Common.{◌+◌, ap, arith, refl, sym, take}
use Rattle.std.specs.List.{list_any}
use Rattle.std.proofs.lemmas.List.{take_all}
use Rattle.list_labels.specs.Asked.{is_known}
use Rattle.list_labels.proofs.KnownLemmas.{added_as, added_then, rules_then}
use Rattle.list_labels.proofs.known_labels.add_by.Goals as goal

pub loop-place-preserved : goal.loop-place-preserved
loop-place-preserved c =
    let service = c.args.service.now in
    let before = c.args.before.now in
    let rules = c.args.rules.now in
    let place = c.loop-place.place in
    added_then (λ label. list_any (is_known service before label) (take place rules))
    (λ label. is_known service before label c.index-rules-place.result)
    (λ label. list_any (is_known service before label) (take (place + 1) rules))
    c.args.known.now.items c.loop-place.known.items c.add_rule.new.known.items c.loop-place.invariant c.in_ok-add_rule.ensures
    (λ label filled. rules_then service before rules c.index-rules-place.result place (place + 1) label refl c.loop-place-test.true
    c.index-rules-place.is)

pub returns : goal.returns
returns c =
    let service = c.args.service.now in
    let before = c.args.before.now in
    added_as (λ label. list_any (is_known service before label) (take c.loop-place.place c.args.rules.now))
    (λ label. list_any (is_known service before label) c.args.rules.now)
    c.args.known.now.items c.loop-place.known.items c.loop-place.invariant
    (λ label filled. ap (λ rs. list_any (is_known service before label) rs)
    (sym (take_all c.loop-place.place c.args.rules.now (omega (arith, c.loop-place-test.false)))))
