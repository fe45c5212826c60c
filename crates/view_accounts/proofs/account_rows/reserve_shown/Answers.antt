-- The reserve, or none.
use Rattle.own_model.specs.Transcript.{state_at}
use Rattle.core_calls.specs.Quotas.{reserve_amounts}
use Rattle.run_lines.specs.Accounts.{listed_at}
use Rattle.run_lines.proofs.ComponentLines.{listed_gives}
use Rattle.view_accounts.proofs.RowLemmas.{reserve_is_hidden, reserve_is_shown}
use Rattle.view_accounts.proofs.account_rows.reserve_shown.Goals as goal

pub returns-then-reserve-gt0-2 : goal.returns-then-reserve-gt0-2
returns-then-reserve-gt0-2 g c =
    reserve_is_shown (listed_at c.args.list.now c.args.component).reserve (state_at c.args.core.now.states c.args.component).reserve (reserve_amounts c.reserve-reserve.result)
    (listed_gives c.args.list.now c.args.component c.requires.component c.gives_reserve.ensures) c.reserve-reserve.ensures c.if-reserve-gt0-2.either

pub returns-else-reserve-gt0-2 : goal.returns-else-reserve-gt0-2
returns-else-reserve-gt0-2 g c =
    reserve_is_hidden (listed_at c.args.list.now c.args.component).reserve (state_at c.args.core.now.states c.args.component).reserve (reserve_amounts c.reserve-reserve.result)
    (listed_gives c.args.list.now c.args.component c.requires.component c.gives_reserve.ensures) c.reserve-reserve.ensures c.if-reserve-gt0-2.false
