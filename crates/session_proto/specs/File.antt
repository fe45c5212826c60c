-- The file service's requests, in the terms of the model.
use Rattle.std.specs.Prelude.{ℕ, List, IsSome}
use Rattle.own_model.specs.BufferService as model
use Rattle.own_model.specs.BufferService.{SessionRequest}
use Rattle.own_model.specs.BufferService.SessionRequest.{OfFiles, OfBuffer}
use Rattle.own_model.specs.FileText as files
use Rattle.own_model.specs.Text.{bytes_of_hex, hex_bytes}
use Rattle.session_proto.specs.declared.buffer.BufferTransfer.{BufferTransfer}
use Rattle.session_proto.specs.declared.file.FileRequest.{FileRequest}
use Rattle.session_proto.specs.declared.file.FileRequest.TheVariants.{Create, Write, Read, Size, Clear, Drop, Name, Stat, Buffer, Unbuffer, Put, Get}

-- a request, by its bytes
abbrev pub model_request : FileRequest → SessionRequest
model_request (Create file) = OfFiles (files.FileRequest.Create file.now)
model_request (Write file offset hex) = OfFiles (files.FileRequest.Write file.now offset (hex_bytes hex.now))
model_request (Read file offset len) = OfFiles (files.FileRequest.Read file.now offset len)
model_request (Size file) = OfFiles (files.FileRequest.Size file.now)
model_request (Clear file) = OfFiles (files.FileRequest.Clear file.now)
model_request (Drop file) = OfFiles (files.FileRequest.Drop file.now)
model_request (Name index) = OfFiles (files.FileRequest.Name index)
model_request Stat = OfFiles files.FileRequest.Stat
model_request (Buffer bytes) = OfBuffer (model.BufferRequest.Make bytes)
model_request Unbuffer = OfBuffer model.BufferRequest.GiveBack
model_request (Put file offset place len) = OfBuffer (model.BufferRequest.Put file.now offset place len)
model_request (Get file offset place len) = OfBuffer (model.BufferRequest.Get file.now offset place len)

-- the text of a request that writes is hexadecimal digits
abbrev pub HasHex : FileRequest → Type 0
HasHex (Write file offset hex) = IsSome (bytes_of_hex hex.now)
HasHex _ = Unit {0}

-- a request of these bytes, at these places
abbrev pub request_of_move : (List ℕ → ℕ → ℕ → ℕ → model.BufferRequest) → BufferTransfer → model.BufferRequest
request_of_move request move = request move.file.now move.offset move.place move.len
