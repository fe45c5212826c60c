-- What the readers hold, in the terms of the model.
use Rattle.std.specs.Prelude.{codes}
use Rattle.own_model.specs.SessionArgs.{Arguments}
use Rattle.own_model.specs.SessionArgs as model
use Rattle.session_proto.specs.declared.pair.Pair.{Pair}
use Rattle.session_proto.specs.declared.pair.Value.{Value}
use Rattle.session_proto.specs.declared.plain.PlainPair.{PlainPair}
use Rattle.session_proto.specs.declared.plain.PlainPair.TheVariants.{Ram, Caps, Label}
use Rattle.session_proto.specs.declared.pair.Value.TheVariants.{Bare, Quoted}

-- a value, by its bytes
abbrev pub model_value : Value → model.Value
model_value (Bare text) = model.Value.Bare text.now
model_value (Quoted text) = model.Value.Quoted text.now

-- a pair, by its bytes
abbrev pub model_pair : Pair → model.Pair
model_pair pair = record { key = pair.key.now; value = model_value pair.value }

-- a pair of a known key, with its key
abbrev pub plain_pair : PlainPair → model.Pair
plain_pair (Ram text) = record { key = codes "ram_quota"; value = model.Value.Bare text.now }
plain_pair (Caps text) = record { key = codes "cap_quota"; value = model.Value.Bare text.now }
plain_pair (Label text) = record { key = codes "label"; value = model.Value.Quoted text.now }
