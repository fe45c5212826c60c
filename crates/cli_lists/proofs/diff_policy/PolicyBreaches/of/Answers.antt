-- The breaches are those by the text of the file.
use Rattle.std.proofs.Common.{ap}
use Rattle.std.specs.Option.{option_copied}
use Rattle.cli_base.specs.PolicyVerdict.{policy_lacks_memory}
use Rattle.cli_lists.proofs.ComparisonLemmas.{ok_by_text, path_refused, text_refused}
use Rattle.cli_lists.proofs.diff_policy.PolicyBreaches.of.Goals as goal

pub returns-in-Ok-clause-found : goal.returns-in-Ok-clause-found
returns-in-Ok-clause-found g c =
    ok_by_text (g.H.Host.text_at c.args.host.now) (option_copied c.args.path) c.in-Some.path.now c.in-Ok.text.items c.as_slice.result.now
    c.args.lists.before.list.now c.args.lists.after.list.now c.breaches_of.result (ap option_copied c.in-Some.is) c.in-Ok.ensures.text
    c.as_slice.ensures.value c.breaches_of.ensures.found

pub returns-in-Ok-clause-stopped : goal.returns-in-Ok-clause-stopped
returns-in-Ok-clause-stopped g c =
    text_refused (g.H.Host.text_at c.args.host.now) (option_copied c.args.path) c.in-Some.path.now c.in-Ok.text.items c.as_slice.result.now
    c.args.lists.after.list.now c.breaches_of.result (ap option_copied c.in-Some.is) c.in-Ok.ensures.text c.as_slice.ensures.value
    c.breaches_of.ensures.stopped

pub returns-in-Err-clause-stopped : goal.returns-in-Err-clause-stopped
returns-in-Err-clause-stopped g c =
    path_refused (g.H.Host.text_at c.args.host.now) (option_copied c.args.path) c.in-Some.path.now c.args.lists.after.list.now
    (policy_lacks_memory c.in-Err.why) c.exit_status.result (ap option_copied c.in-Some.is) c.in-Err.ensures.failed c.exit_status.ensures
