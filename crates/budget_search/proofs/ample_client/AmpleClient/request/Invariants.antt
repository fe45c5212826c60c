-- What is still to be asked.
use Rattle.std.proofs.Common.{◌≡◌, ◌≤◌, ◌-◌}
use Rattle.own_model.specs.Call.Call.{CallSession}
use Rattle.budget_search.specs.AmpleCalls.{asked_up, made_with_enough}
use Rattle.budget_search.proofs.ample_client.AmpleClient.request.Given as goal

abbrev pub invariant-loop-made : goal.invariant-loop-made
invariant-loop-made g l = record {
  few : l.made ≤ 32;
  left : asked_up l.selector (CallSession l.selector l.request) (32 - l.made) l.times l.self ≡ made_with_enough (CallSession l.selector l.request) l.fn.self;
}
