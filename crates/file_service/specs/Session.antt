-- What a session of the file service is to its client, and what its requests do.
use Rattle.std.specs.Prelude.{◌≡◌, ℕ, List, take, Option, Some, Result, Ok, Err}
use Rattle.own_model.specs.FileService.{Files, FileServed, request_served, told}
use Rattle.own_model.specs.FileText as model
use Rattle.own_model.specs.FileText.FileReply.{Done, Count, Bytes, Lent, Refused}
use Rattle.session_proto.specs.FileReply.{model_error}
use Rattle.core_calls.specs.declared.file_error.FileError.{FileError}
use Rattle.session_nodes.specs.Frame.{Share, sliced_of, Regions, Store, IsEffect, bytes_lent, holding_of, Effect}
use Rattle.own_model.specs.Session.{Labelled}
use Rattle.own_model.specs.Services.ServiceState.{Filing}
use Rattle.file_service.specs.Files.{files_of}
use Rattle.session_nodes.specs.NodeList.{heap_in, HasNodes, KeepsList}
use Rattle.session_nodes.specs.SoundHeaps.{Stock}
use Rattle.session_nodes.specs.SessionHeaps.{stock_of, AreSoundHeaps, AreKept, StaySoundHeaps}
use Rattle.session_nodes.specs.SessionBuffer.{KeepsBuffer, HasBuffer, buffer_key}
use Rattle.own_model.specs.BufferService.{SessionRequest, BufferServed, session_request_served}
use Rattle.trade_base.specs.declared.id.DsId.{DsId}
use Rattle.core_calls.specs.ReplyText.{Told, told_alone}
use Rattle.file_service.specs.declared.session.FileSession.{FileSession}

-- what a session is, read out of what its account has
abbrev pub value_of : FileSession → Share → Labelled
value_of session share = record {
  label = session.label.items;
  state = Filing (files_of session.nodes.first (heap_in session.nodes.heaps.nodes share) (sliced_of share));
}

-- what is true of a session between its requests
pub record IsSession (session : FileSession) (account : ℕ) (share : Share) : Type 0 where
  pub heaps : AreKept session.nodes.heaps account share
  pub files : KeepsList session.nodes share
  pub buffer : KeepsBuffer session.buffer share

-- ---- while a request is served

-- the files of a session with these contents of its heaps
abbrev pub files_in : FileSession → Stock → Files
files_in session stock = files_of session.nodes.first stock.nodes stock.contents

-- it has files
abbrev pub HasFiles : FileSession → Stock → Type 0
HasFiles session stock = HasNodes session.nodes stock

-- a session has the same label and the same buffer
pub record KeepsOwn (old later : FileSession) : Type 0 where
  pub label : later.label ≡ old.label
  pub buffer : later.buffer ≡ old.buffer

-- after a request of files the account and the files are as it is served
pub record Leaves (served : FileServed) (old later : FileSession) (new : Stock) : Type 0 where
  pub account : new.account ≡ served.account
  pub files : files_in later new ≡ served.files
  pub kept : HasFiles later new
  pub own : KeepsOwn old later

-- and it is answered so
pub record Serves (served : FileServed) (reply : model.FileReply) (old later : FileSession) (new : Stock) : Type 0 where
  pub reply_is : model.file_reply reply ≡ served.reply
  pub leaves : Leaves served old later new

-- ---- requests of files and of the buffer

-- a session is ready for a request: its heaps are sound, the links hold files, and its buffer is there
pub record IsReady (session : FileSession) (store : Store) (regions : Regions) : Type 0 where
  pub furnished : AreSoundHeaps session.nodes.heaps store regions
  pub files : HasFiles session (stock_of session.nodes.heaps store regions)
  pub lent : HasBuffer session.buffer (holding_of session.nodes.heaps.contents store regions)

-- what a request does to it
abbrev pub session_served : Option SessionRequest → FileSession → Store → Regions → BufferServed
session_served request session store regions =
    let has = stock_of session.nodes.heaps store regions in
    session_request_served request (bytes_lent store (buffer_key session.buffer)) (files_in session has) has.account

-- after a request it is ready for another, and account, files and buffer are as it is served
pub record LeavesSession (served : BufferServed) (old later : FileSession) (new : Store) (after : Regions) : Type 0 where
  pub ready : IsReady later new after
  pub account : (stock_of later.nodes.heaps new after).account ≡ served.account
  pub files : files_in later (stock_of later.nodes.heaps new after) ≡ served.files
  pub buffer : bytes_lent new (buffer_key later.buffer) ≡ served.buffer
  pub label : later.label ≡ old.label

-- and it is answered so
pub record Answers (served : BufferServed) (reply : model.FileReply) (old later : FileSession) (new : Store) (after : Regions) : Type 0 where
  pub reply_is : model.file_reply reply ≡ served.reply
  pub leaves : LeavesSession served old later new after

-- the reply is returned with the effect of the request on the buffer, and other accounts keep what they have
pub record IsAnswered (served : BufferServed) (effect : Effect) (told : Told) (old later : FileSession) (store new : Store) (regions after : Regions) : Type 0 where
  pub text : told ≡ told_alone served.reply
  pub leaves : LeavesSession served old later new after
  pub effect_is : IsEffect effect (buffer_key old.buffer) (buffer_key later.buffer)
  pub stays : StaySoundHeaps old.nodes.heaps later.nodes.heaps store new regions after

-- ---- replies

-- whether it is done
abbrev pub done_reply : {A : Type 0} → Result A FileError → model.FileReply
done_reply (Ok _) = Done
done_reply (Err e) = Refused (model_error e)

-- a buffer is created, with its dataspace
abbrev pub lent_reply : Result DsId FileError → model.FileReply
lent_reply (Ok _) = Lent
lent_reply (Err e) = Refused (model_error e)

-- a count
abbrev pub counted_reply : Result ℕ FileError → model.FileReply
counted_reply (Ok n) = Count n
counted_reply (Err e) = Refused (model_error e)

-- the first of these bytes
abbrev pub bytes_reply : List ℕ → Result ℕ FileError → model.FileReply
bytes_reply bytes (Ok n) = Bytes (take n bytes)
bytes_reply bytes (Err e) = Refused (model_error e)

-- the result of a request of a session with these contents of its heaps
abbrev pub served_in : model.FileRequest → FileSession → Stock → FileServed
served_in request session stock = request_served (Some request) (files_in session stock) stock.account

-- it is this reply, and leaves all as it is
abbrev pub IsTold : model.FileRequest → model.FileReply → FileSession → Stock → Type 0
IsTold request reply session stock = served_in request session stock ≡ told reply (files_in session stock) stock.account
