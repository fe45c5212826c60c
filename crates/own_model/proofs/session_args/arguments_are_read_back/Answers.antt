-- The writing is cut into its three pairs, and each is read.
use Rattle.own_model.proofs.SessionArgsLemmas.{arguments_of-text}
use Rattle.own_model.proofs.session_args.arguments_are_read_back.Goals as goal

pub returns : goal.returns
returns c = arguments_of-text
