-- The account's line is told, and then that of the reserve or nothing.
use Rattle.own_model.specs.Transcript.{state_at}
use Rattle.own_model.specs.World.{account_at}
use Rattle.core_calls.specs.Quotas.{reserve_amounts}
use Rattle.run_lines.specs.Accounts.{listed_at}
use Rattle.run_lines.proofs.AccountLemmas.{entries_within, told_as, told_by, told_first}
use Rattle.run_lines.proofs.ComponentLines.{account_first, listed_gives, listed_name, reserve_then, reserve_untold}
use Rattle.run_devices.proofs.GatheredLemmas.{told_err, told_more}
use Rattle.run_lines.proofs.account_list.put_component.Goals as goal

pub returns-in_err-put_account-clause-told : goal.returns-in_err-put_account-clause-told
returns-in_err-put_account-clause-told g c =
    let within = entries_within c.args.list.now c.args.core.now c.requires.listed c.requires.component in
    told_err _ _ _ c.from_residual.ensures.1
    (told_first _ (account_first (listed_at c.args.list.now c.args.component) (account_at c.args.core.now c.args.component) (state_at c.args.core.now.states c.args.component).reserve (listed_name c.args.list.now c.args.component within c.name-name.ensures.value) c.account.ensures.value)
    c.in_err-put_account.ensures.told)

pub returns-then-reserve-gt0-2-clause-told : goal.returns-then-reserve-gt0-2-clause-told
returns-then-reserve-gt0-2-clause-told g c =
    let within = entries_within c.args.list.now c.args.core.now c.requires.listed c.requires.component in
    told_as c.put_reserve.result _ _ _ _
    (reserve_then (listed_at c.args.list.now c.args.component) (account_at c.args.core.now c.args.component) (state_at c.args.core.now.states c.args.component).reserve (reserve_amounts c.reserve-reserve.result)
    (listed_name c.args.list.now c.args.component within c.name-name.ensures.value) c.account.ensures.value
    (listed_gives c.args.list.now c.args.component within c.gives_reserve.ensures) c.reserve-reserve.ensures c.if-reserve-gt0-2.either)
    (told_more _ _ _ c.put_reserve.result c.in_ok-put_account.ensures.told c.put_reserve.ensures.told)

pub returns-else-reserve-gt0-2-clause-told : goal.returns-else-reserve-gt0-2-clause-told
returns-else-reserve-gt0-2-clause-told g c =
    let within = entries_within c.args.list.now c.args.core.now c.requires.listed c.requires.component in
    told_by
    (reserve_untold (listed_at c.args.list.now c.args.component) (account_at c.args.core.now c.args.component) (state_at c.args.core.now.states c.args.component).reserve (reserve_amounts c.reserve-reserve.result)
    (listed_name c.args.list.now c.args.component within c.name-name.ensures.value) c.account.ensures.value
    (listed_gives c.args.list.now c.args.component within c.gives_reserve.ensures) c.reserve-reserve.ensures c.if-reserve-gt0-2.false)
    c.in_ok-put_account.ensures.told
