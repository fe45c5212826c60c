-- The file service's replies, in the terms of the model.
use Rattle.std.specs.Prelude.{ℕ, ◌+◌, ◌*◌, length}
use Rattle.own_model.specs.FileText as model
pub use Rattle.core_calls.specs.FileError.{model_error}
use Rattle.core_calls.specs.Quotas.{quotas_account}
use Rattle.session_proto.specs.declared.file_reply.FileReply.{FileReply}
use Rattle.session_proto.specs.declared.file_reply.FileReply.TheVariants.{Done, Count, Bytes, Named, Quotas, Lent, Refused}

abbrev pub model_reply : FileReply → model.FileReply
model_reply Done = model.FileReply.Done
model_reply (Count count) = model.FileReply.Count count
model_reply (Bytes bytes) = model.FileReply.Bytes bytes.now
model_reply (Named name) = model.FileReply.Named name.now
model_reply (Quotas quotas) = model.FileReply.Quotas (quotas_account quotas)
model_reply Lent = model.FileReply.Lent
model_reply (Refused e) = model.FileReply.Refused (model_error e)

-- the maximum number of bytes of a reply
abbrev pub room_for : FileReply → ℕ
room_for Done = 2
room_for (Count count) = 23
room_for (Bytes bytes) = 3 + 2 * length bytes.now
room_for (Named name) = 3 + length name.now
room_for (Quotas quotas) = 103
room_for Lent = 7
room_for (Refused e) = 24
