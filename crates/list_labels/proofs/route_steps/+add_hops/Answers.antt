-- What each list decides, and the lists around it.
use Rattle.std.proofs.Common.{◌∙◌, ap, arith, inl, inr, sym}
use Rattle.own_model.specs.Listed.{init_entry}
use Rattle.own_model.specs.Routes.{label_with}
use Rattle.list_labels.proofs.HopLemmas.{hops_end, hops_on}
use Rattle.std.proofs.lemmas.Result.{on_ok_weaker}
use Rattle.list_labels.proofs.route_steps.+add_hops.Goals as goal

pub returns-then-not-leads_out : goal.returns-then-not-leads_out
returns-then-not-leads_out t c =
    hops_end c.args.lists c.args.list.now c.args.entry.now c.args.service.now c.args.seen.now c.copied.result.items
    c.rules_of-rules.result.now c.first_match-rule.result c.args.hops.now.items c.push.new.self.items (omega arith) c.copied.ensures
    c.rules_of-rules.ensures c.first_match-rule.ensures c.in_ok-push.ensures.items (inl (cc))

pub returns-in-None : goal.returns-in-None
returns-in-None t c =
    hops_end c.args.lists c.args.list.now c.args.entry.now c.args.service.now c.args.seen.now c.copied.result.items
    c.rules_of-rules.result.now c.first_match-rule.result c.args.hops.now.items c.push.new.self.items (omega arith) c.copied.ensures
    c.rules_of-rules.ensures c.first_match-rule.ensures c.in_ok-push.ensures.items
    (inr (sym (c.in-None.ensures ∙ ap (λ n. init_entry c.args.list.now n) c.home.ensures)))

pub returns-in-Some : goal.returns-in-Some
returns-in-Some t c =
    on_ok_weaker c.add_hops.result
    (λ goes. hops_on c.args.lists _ c.args.list.now c.args.entry.now c.in-Some.init.now c.args.service.now c.args.seen.now
    c.copied.result.items c.as_slice.result.now c.rules_of-rules.result.now c.first_match-rule.result c.args.hops.now.items
    c.push.new.self.items c.add_hops.new.hops.items (omega arith) c.copied.ensures c.rules_of-rules.ensures c.first_match-rule.ensures
    c.in_ok-push.ensures.items (cc) (sym (c.in-Some.ensures ∙ ap (λ n. init_entry c.args.list.now n) c.home.ensures))
    (c.as_slice.ensures.value ∙ (c.label_with-outer.ensures ∙ ap (λ n. label_with n c.args.seen.now) c.name.ensures.name))
    goes)
    c.add_hops.ensures
