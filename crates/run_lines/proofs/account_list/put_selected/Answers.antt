-- The line of a session, or nothing.
use Rattle.own_model.specs.Transcript.{state_at}
use Rattle.run_lines.specs.Accounts.{listed_at}
use Rattle.run_lines.proofs.AccountLemmas.{entries_within, told_as, told_by}
use Rattle.run_lines.proofs.ComponentLines.{listed_name, selected_none, selected_some}
use Rattle.run_devices.proofs.GatheredLemmas.{Tells-none}
use Rattle.run_lines.proofs.account_list.put_selected.Goals as goal

pub returns-in_default-clause-told : goal.returns-in_default-clause-told
returns-in_default-clause-told g c =
    told_by (selected_none (listed_at c.args.list.now c.args.component).path c.args.selector (state_at c.args.core.now.states c.args.component) c.in_default.ensures)
    (Tells-none _ _)

pub returns-clause-told : goal.returns-clause-told
returns-clause-told g c =
    let within = entries_within c.args.list.now c.args.core.now c.requires.listed c.requires.component in
    told_as c.put_session.result _ _ _ _
    (selected_some (listed_at c.args.list.now c.args.component).path c.args.selector (state_at c.args.core.now.states c.args.component)
    (listed_name c.args.list.now c.args.component within c.name.ensures.value) c.in-Some.ensures)
    c.put_session.ensures.told
