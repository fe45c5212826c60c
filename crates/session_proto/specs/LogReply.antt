-- The texts of the log service's replies.
use Rattle.std.specs.Prelude.{ℕ, List}
use Rattle.own_model.specs.LogText.{log_reply, bad_request}
use Rattle.session_proto.specs.declared.log.LogReply.{LogReply}
use Rattle.session_proto.specs.declared.log.LogReply.TheVariants.{Wrote, BadRequest}

abbrev pub log_reply_text : LogReply → List ℕ
log_reply_text (Wrote count) = log_reply count
log_reply_text BadRequest = bad_request
