-- What so many selectors name is told, and no write failed yet.
use Rattle.std.proofs.Common.{◌≡◌, false}
use Rattle.std.specs.FinMap.{get}
use Rattle.own_model.specs.AccountList.{object_line}
use Rattle.own_model.specs.Transcript.{state_at}
use Rattle.run_lines.specs.Accounts.{listed_at}
use Rattle.run_devices.specs.RunOutput.{Tells}
use Rattle.run_lines.proofs.AccountLemmas.{told_from}
use Rattle.run_lines.proofs.account_list.put_sessions_of.Given as goal

abbrev pub invariant-loop-selector : goal.invariant-loop-selector
invariant-loop-selector g l = record {
  told : Tells (g.K.Sink.contents l.fn.sink) l.fn.gathered (g.K.Sink.contents l.sink) l.gathered
      (told_from (object_line (listed_at l.list l.component).path)
      (λ k. get (state_at l.core.states l.component).selectors k) 0 l.selector);
  works : g.K.Sink.has_failed l.sink ≡ false;
}
