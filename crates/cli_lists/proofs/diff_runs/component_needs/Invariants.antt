-- The needs so far, and those by the accounts that are left.
use Rattle.std.proofs.Common.{◌≡◌, ◌++◌, drop, map}
use Rattle.std.specs.List.{flat_map}
use Rattle.cli_lists.specs.ComparedRuns.{need_at, needs_by}
use Rattle.cli_lists.proofs.diff_runs.component_needs.Given as goal

abbrev pub invariant-loop-account : goal.invariant-loop-account
invariant-loop-account l =
    map need_at l.needs.items ++ flat_map (needs_by l.list) (drop l.account-index l.accounts) ≡ flat_map (needs_by l.list) l.accounts
