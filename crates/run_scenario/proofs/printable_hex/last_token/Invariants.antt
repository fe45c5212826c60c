-- The token that was found so far is followed by the rest of the text.
use Rattle.std.proofs.Common.{◌≡◌, ◌≤◌, drop}
use Rattle.run_scenario.specs.Complaints.{last_token, token_after}
use Rattle.run_scenario.proofs.printable_hex.last_token.Given as goal

abbrev pub invariant-loop-place : goal.invariant-loop-place
invariant-loop-place l = record {
  within : l.start ≤ l.place;
  token : token_after (drop l.start l.text) (drop l.place l.text) ≡ last_token l.text;
}
