-- What is known and the rest of the text make the arguments of the text.
use Rattle.std.proofs.Common.{◌≡◌, ◌+◌, length}
use Rattle.own_model.specs.SessionArgs.{arguments_of}
use Rattle.std.specs.Option.{option_copied, option_map_or}
use Rattle.session_proto.specs.Pairs.{known}
use Rattle.session_proto.proofs.ArgsLemmas.{arguments_from}
use Rattle.session_proto.proofs.args.read_arguments.Given as goal

abbrev pub invariant-loop-rest : goal.invariant-loop-rest
invariant-loop-rest l = arguments_from (known l.found) (option_copied l.rest) ≡ arguments_of l.text

abbrev pub decreases-loop-rest : goal.decreases-loop-rest
decreases-loop-rest l = option_map_or (λ text. length text.now + 1) l.rest 0
