-- What is known of a memory after a call.
use Rattle.trade_base.proofs.BytesLemmas.{length-with_bytes}
use Rattle.trade_base.proofs.WordLemmas.{length-word_bytes}
use Rattle.own_model.proofs.NatMapLemmas.{natmaps}
use Rattle.own_model.proofs.StepUseLemmas.{length-zeros}

-- what maps have after a change, and how long written bytes are
pub ruleset store_laws = (natmaps, length-zeros, length-with_bytes, length-word_bytes)
