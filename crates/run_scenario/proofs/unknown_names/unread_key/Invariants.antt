-- What is left has a key that isn't read exactly if the arguments have.
use Rattle.std.proofs.Common.{◌≡◌, ◌+◌, length}
use Rattle.std.specs.List.{list_any}
use Rattle.std.specs.Option.{option_copied, option_map_or}
use Rattle.session_proto.specs.Pieces.{pieces_after}
use Rattle.run_scenario.specs.UnknownNames.{has_unread_key, have_unread_key}
use Rattle.run_scenario.proofs.unknown_names.unread_key.Given as goal

abbrev pub invariant-loop-rest : goal.invariant-loop-rest
invariant-loop-rest l = list_any has_unread_key (pieces_after (option_copied l.rest)) ≡ have_unread_key l.args

abbrev pub decreases-loop-rest : goal.decreases-loop-rest
decreases-loop-rest l = option_map_or (λ text. length text.now + 1) l.rest 0
