-- The replies of declared servers, in the terms of the model.
use Rattle.std.specs.Prelude.{ℕ, ◌+◌, length}
use Rattle.own_model.specs.ObjectText as model
pub use Rattle.core_calls.specs.ObjectError.{model_object_error}
use Rattle.core_calls.specs.Quotas.{quotas_account}
use Rattle.session_proto.specs.declared.object_reply.ObjectReply.{ObjectReply}
use Rattle.session_proto.specs.declared.object_reply.ObjectReply.TheVariants.{Done, Counted, Named, Quotas, Lent, Refused}

abbrev pub model_reply : ObjectReply → model.ObjectReply
model_reply Done = model.ObjectReply.Done
model_reply (Counted count) = model.ObjectReply.Counted count
model_reply (Named kind name units) = model.ObjectReply.Named kind.now name.now units
model_reply (Quotas quotas) = model.ObjectReply.Quotas (quotas_account quotas)
model_reply Lent = model.ObjectReply.Lent
model_reply (Refused e) = model.ObjectReply.Refused (model_object_error e)

-- the maximum number of bytes of a reply
abbrev pub room_for : ObjectReply → ℕ
room_for Done = 2
room_for (Counted count) = 23
room_for (Named kind name units) = 25 + (length kind.now + length name.now)
room_for (Quotas quotas) = 103
room_for Lent = 7
room_for (Refused e) = 24
