-- The rules of a route path, one after another.
use Rattle.std.proofs.Common.{◌≡◌, rules, [], ◌++◌, Some, None, ap, ◌∙◌}
use Rattle.std.proofs.Output.{has_written_append, has_written_of_eq}
use Rattle.std.specs.List.{slice_get}
use Rattle.std.specs.Option.{option_copied}
use Rattle.own_model.specs.Listed.{ListedEntry, init_entry}
use Rattle.list_reach.specs.RuleTexts.{step_text, summarized, summary_text}
use Rattle.list_reach.proofs.SummaryLemmas.{all_steps, looked_up, nobody, one_step}
use Rattle.list_reach.proofs.route_summary.RouteSummaryDisplay.fmt.Goals as goal

pub loop-place-init : goal.loop-place-init
loop-place-init g c = λ plain.
    let list = c.list-list.result.now in
    let asked : option_copied c.get-asks.result ≡ slice_get list.entries c.client.result =
    looked_up c.entries.result.now c.client.result c.get-asks.result c.get-asks.ensures.lookup ∙ ap (λ entries. slice_get entries c.client.result) c.entries.ensures in (
      [],
      search rules,
      all_steps (summarized c.args.self.now) list (option_copied c.get-asks.result) c.client.result c.hops-hops.result.now
          c.list-list.ensures c.hops-hops.ensures c.client.ensures asked,
    )

pub returns-in_default-clause-writes : goal.returns-in_default-clause-writes
returns-in_default-clause-writes g c = λ plain _.
    let so_far = c.loop-place.invariant plain in
    let none : option_copied c.loop-place.asks ≡ None = search rules in
    has_written_of_eq _ _ _ _ _
    (nobody c.list-list.result.now (option_copied c.loop-place.asks) c.loop-place.is_first c.hops-hops.result.now c.loop-place.place so_far.0
    (summary_text (summarized c.args.self.now)) so_far.2 none)
    so_far.1

pub loop-place-preserved : goal.loop-place-preserved
loop-place-preserved g c = λ plain.
    let so_far = c.loop-place.invariant plain in
    let step = c.index-hops-place.result in
    let entry : ListedEntry = c.in-Some.entry.now in
    let asked : option_copied c.loop-place.asks ≡ Some entry = search rules in
    let next : option_copied c.init_entry-asks.result ≡ init_entry c.list-list.result.now entry.home = search rules in (
      so_far.0 ++ step_text entry step.rule c.loop-place.is_first,
      has_written_append _ _ _ _ _ _ so_far.1 (search rules),
      one_step c.list-list.result.now (option_copied c.loop-place.asks) c.loop-place.is_first c.hops-hops.result.now c.loop-place.place so_far.0
          (summary_text (summarized c.args.self.now)) so_far.2 entry (option_copied c.init_entry-asks.result) step asked
          c.loop-place-test.true c.index-hops-place.is next,
    )
