-- A declared server's requests, in the terms of the model.
use Rattle.own_model.specs.BufferService as buffers
use Rattle.own_model.specs.ObjectSession.{HoldingRequest}
use Rattle.own_model.specs.ObjectSession.HoldingRequest.{OfObjects, OfBuffer}
use Rattle.own_model.specs.ObjectText as model
use Rattle.session_proto.specs.declared.object.ObjectRequest.{ObjectRequest}
use Rattle.session_proto.specs.declared.object.ObjectRequest.TheVariants.{Make, Resize, Drop, Count, CountKind, Name, Stat, Buffer, Unbuffer}

-- a request, by its bytes
abbrev pub model_request : ObjectRequest → HoldingRequest
model_request (Make kind name) = OfObjects (model.ObjectRequest.Make kind.now name.now)
model_request (Resize name units) = OfObjects (model.ObjectRequest.Resize name.now units)
model_request (Drop name) = OfObjects (model.ObjectRequest.Drop name.now)
model_request Count = OfObjects model.ObjectRequest.Count
model_request (CountKind kind) = OfObjects (model.ObjectRequest.CountKind kind.now)
model_request (Name index) = OfObjects (model.ObjectRequest.Name index)
model_request Stat = OfObjects model.ObjectRequest.Stat
model_request (Buffer bytes) = OfBuffer (buffers.BufferRequest.Make bytes)
model_request Unbuffer = OfBuffer buffers.BufferRequest.GiveBack
