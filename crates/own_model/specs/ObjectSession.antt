-- A session of a declared server: its objects, and the buffer that it shares with its client. Requests of the buffer do what they
-- do in a session of files that has none.
use Rattle.std.specs.Prelude.{ℕ, List, Option, Some, None}
use Rattle.std.specs.Option.{option_map, option_or, option_and_then}
use Rattle.own_model.specs.Account.{Account}
use Rattle.own_model.specs.BufferService.{BufferRequest, BufferServed, buffer_request, buffer_served}
use Rattle.own_model.specs.BufferService.BufferRequest.{Make, GiveBack, Put, Get}
use Rattle.own_model.specs.FileService.{no_files}
use Rattle.own_model.specs.ObjectKinds.{ObjectKind}
use Rattle.own_model.specs.ObjectService.{Objects, ObjectServed, told, request_served}
use Rattle.own_model.specs.ObjectText.{ObjectRequest, object_request}
use Rattle.own_model.specs.ObjectText.ObjectError.{Shared}
use Rattle.own_model.specs.ObjectText.ObjectReply.{Refused}
use Rattle.own_model.specs.FileText.FileError.{BadRequest}

-- a request of a session: of its objects, or of its buffer
pub data HoldingRequest : Type 0 where
  OfObjects : ObjectRequest → HoldingRequest
  OfBuffer : BufferRequest → HoldingRequest

-- a request of the buffer alone: no bytes go between it and the contents of an object
abbrev pub of_buffer_alone : BufferRequest → Option BufferRequest
of_buffer_alone (Make n) = Some (Make n)
of_buffer_alone GiveBack = Some GiveBack
of_buffer_alone (Put file offset place count) = None
of_buffer_alone (Get file offset place count) = None

-- the request that a text is
abbrev pub holding_request : List ℕ → Option HoldingRequest
holding_request text =
    option_or (option_map OfObjects (object_request text)) (option_map OfBuffer (option_and_then of_buffer_alone (buffer_request text)))

-- what a request is answered, and the account, the objects and the buffer's bytes after it, if there is a buffer then
pub record HoldingServed : Type 0 where
  pub reply : List ℕ
  pub account : Account
  pub objects : Objects
  pub buffer : Option (List ℕ)

-- what leaves the buffer
abbrev pub beside : Option (List ℕ) → ObjectServed → HoldingServed
beside buffer o = record { reply = o.reply; account = o.account; objects = o.objects; buffer = buffer }

-- what leaves the objects
abbrev pub lent_beside : Objects → BufferServed → HoldingServed
lent_beside objects o = record { reply = o.reply; account = o.account; objects = objects; buffer = o.buffer }

-- what any request of a session does, if it is one
abbrev pub holding_request_served : List ObjectKind → Option HoldingRequest → Option (List ℕ) → Objects → Account → HoldingServed
holding_request_served kinds None buffer objects account = beside buffer (told (Refused (Shared BadRequest)) objects account)
holding_request_served kinds (Some (OfObjects request)) buffer objects account =
    beside buffer (request_served kinds (Some request) objects account)
holding_request_served kinds (Some (OfBuffer request)) buffer objects account =
    lent_beside objects (buffer_served request buffer no_files account)

abbrev pub holding_served : List ObjectKind → Option (List ℕ) → Objects → Account → List ℕ → HoldingServed
holding_served kinds buffer objects account text = holding_request_served kinds (holding_request text) buffer objects account
