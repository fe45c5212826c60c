-- What a session of a declared server is to its client, and what its requests do.
use Rattle.std.specs.Prelude.{◌≡◌, ℕ, List, Option, Some, Result, Ok, Err}
use Rattle.own_model.specs.Account.{Account}
use Rattle.own_model.specs.Growth.{hole_for}
use Rattle.own_model.specs.Nodes.{block_taken}
use Rattle.own_model.specs.ObjectKinds.{ObjectKind}
use Rattle.own_model.specs.ObjectService.{DeclaredObject, Objects, ObjectServed, request_served, told, unless_refused, block_refusal, made_by, contents, contents_refusal, with_units, changed}
use Rattle.own_model.specs.ObjectSession.{HoldingRequest, HoldingServed, holding_request_served}
use Rattle.own_model.specs.ObjectText as model
use Rattle.own_model.specs.ObjectText.ObjectReply.{Done, Counted, Named, Refused}
use Rattle.own_model.specs.Services.ServiceState.{Holding}
use Rattle.own_model.specs.Session.{Labelled}
use Rattle.trade_base.specs.declared.id.DsId.{DsId}
use Rattle.session_nodes.specs.Frame.{Regions, Share, Store, holding_of, IsEffect, bytes_lent, Effect}
use Rattle.core_calls.specs.ObjectError.{model_object_error}
use Rattle.core_calls.specs.ReplyText.{Told, told_alone}
use Rattle.core_calls.specs.declared.file_error.FileError.{FileError}
use Rattle.core_calls.specs.declared.object_error.ObjectError.{ObjectError}
use Rattle.core_calls.specs.declared.object_error.ObjectError.TheVariants.{Shared}
use Rattle.session_nodes.specs.NodeList.{heap_in, HasNodes, KeepsList}
use Rattle.session_nodes.specs.SessionBuffer.{KeepsBuffer, HasBuffer, buffer_key}
use Rattle.session_nodes.specs.SessionHeaps.{stock_of, AreKept, AreSoundHeaps, StaySoundHeaps}
use Rattle.session_nodes.specs.SoundHeaps.{Stock}
use Rattle.object_service.specs.Counts.{AreCounted}
use Rattle.object_service.specs.Objects.{objects_of, numbers_of, AreObjectNodes}
use Rattle.object_service.specs.declared.session.ObjectSession.{ObjectSession}

-- what a session is, read out of what its account has, if the server offers these kinds
abbrev pub value_of : List ObjectKind → ObjectSession → Share → Labelled
value_of kinds session share = record {
  label = session.label.items;
  state = Holding kinds (objects_of kinds session.nodes.first (heap_in session.nodes.heaps.nodes share));
}

-- what is true of a session between its requests, for any kinds
pub record IsSession (session : ObjectSession) (account : ℕ) (share : Share) : Type 0 where
  pub heaps : AreKept session.nodes.heaps account share
  pub nodes : KeepsList session.nodes share
  pub objects : AreObjectNodes session.nodes.first (heap_in session.nodes.heaps.nodes share)
  pub counted : AreCounted session.counts (numbers_of session.nodes.first (heap_in session.nodes.heaps.nodes share))
  pub buffer : KeepsBuffer session.buffer share

-- ---- while a request is served

-- the objects of a session with these contents of its heaps
abbrev pub objects_in : List ObjectKind → ObjectSession → Stock → Objects
objects_in kinds session stock = objects_of kinds session.nodes.first stock.nodes

-- it has objects
pub record HasObjects (session : ObjectSession) (stock : Stock) : Type 0 where
  pub nodes : HasNodes session.nodes stock
  pub objects : AreObjectNodes session.nodes.first stock.nodes
  pub counted : AreCounted session.counts (numbers_of session.nodes.first stock.nodes)

-- a session has the same label and the same buffer
pub record KeepsOwn (old later : ObjectSession) : Type 0 where
  pub label : later.label ≡ old.label
  pub buffer : later.buffer ≡ old.buffer

-- after a request of objects the account and the objects are as it is served
pub record Leaves (kinds : List ObjectKind) (served : ObjectServed) (old later : ObjectSession) (new : Stock) : Type 0 where
  pub account : new.account ≡ served.account
  pub objects : objects_in kinds later new ≡ served.objects
  pub kept : HasObjects later new
  pub own : KeepsOwn old later

-- and it is answered so
pub record Serves (kinds : List ObjectKind) (served : ObjectServed) (reply : model.ObjectReply) (old later : ObjectSession) (new : Stock) : Type 0 where
  pub reply_is : model.object_reply reply ≡ served.reply
  pub leaves : Leaves kinds served old later new

-- the result of a request of a session with these contents of its heaps
abbrev pub served_in : List ObjectKind → model.ObjectRequest → ObjectSession → Stock → ObjectServed
served_in kinds request session stock = request_served kinds (Some request) (objects_in kinds session stock) stock.account

-- it is this reply, and leaves all as it is
abbrev pub IsTold : List ObjectKind → model.ObjectRequest → model.ObjectReply → ObjectSession → Stock → Type 0
IsTold kinds request reply session stock = served_in kinds request session stock ≡ told reply (objects_in kinds session stock) stock.account

-- an object of a kind is created, with a name that no object has
abbrev pub created_in : ObjectKind → List ℕ → Objects → Account → ObjectServed
created_in kind name objects account =
    unless_refused (block_refusal kind objects account) objects account
    (made_by kind name (block_taken kind.block (hole_for kind.block objects.shape) objects.shape account) objects)

-- an object gets other units
abbrev pub resized_in : ℕ → DeclaredObject → Objects → Account → ObjectServed
resized_in units object objects account =
    unless_refused (contents_refusal (contents (with_units units object)) account) objects account (changed units object objects account)

-- ---- requests of objects and of the buffer

-- a session is ready for a request: its heaps are sound, it has objects, and its buffer is there
pub record IsReady (session : ObjectSession) (store : Store) (regions : Regions) : Type 0 where
  pub furnished : AreSoundHeaps session.nodes.heaps store regions
  pub objects : HasObjects session (stock_of session.nodes.heaps store regions)
  pub lent : HasBuffer session.buffer (holding_of session.nodes.heaps.contents store regions)

-- what a request does to it
abbrev pub session_served : List ObjectKind → Option HoldingRequest → ObjectSession → Store → Regions → HoldingServed
session_served kinds request session store regions =
    let has = stock_of session.nodes.heaps store regions in
    holding_request_served kinds request (bytes_lent store (buffer_key session.buffer)) (objects_in kinds session has) has.account

-- after a request it is ready for another, and account, objects and buffer are as it is served
pub record LeavesSession (kinds : List ObjectKind) (served : HoldingServed) (old later : ObjectSession) (new : Store) (after : Regions) : Type 0 where
  pub ready : IsReady later new after
  pub account : (stock_of later.nodes.heaps new after).account ≡ served.account
  pub objects : objects_in kinds later (stock_of later.nodes.heaps new after) ≡ served.objects
  pub buffer : bytes_lent new (buffer_key later.buffer) ≡ served.buffer
  pub label : later.label ≡ old.label

-- and it is answered so
pub record Answers (kinds : List ObjectKind) (served : HoldingServed) (reply : model.ObjectReply) (old later : ObjectSession) (new : Store) (after : Regions) : Type 0 where
  pub reply_is : model.object_reply reply ≡ served.reply
  pub leaves : LeavesSession kinds served old later new after

-- the reply is returned with the effect of the request on the buffer, and other accounts keep what they have
pub record IsAnswered (kinds : List ObjectKind) (served : HoldingServed) (effect : Effect) (told : Told) (old later : ObjectSession) (store new : Store) (regions after : Regions) : Type 0 where
  pub text : told ≡ told_alone served.reply
  pub leaves : LeavesSession kinds served old later new after
  pub effect_is : IsEffect effect (buffer_key old.buffer) (buffer_key later.buffer)
  pub stays : StaySoundHeaps old.nodes.heaps later.nodes.heaps store new regions after

-- ---- replies

-- whether it is done
abbrev pub done_reply : {A : Type 0} → Result A ObjectError → model.ObjectReply
done_reply (Ok _) = Done
done_reply (Err e) = Refused (model_object_error e)

-- a count
abbrev pub counted_reply : Result ℕ ObjectError → model.ObjectReply
counted_reply (Ok n) = Counted n
counted_reply (Err e) = Refused (model_object_error e)

-- the kind, the name and the units of an object
abbrev pub named_reply : DeclaredObject → model.ObjectReply
named_reply object = Named object.kind.name object.name object.units

-- a buffer is created or freed, with its dataspace: the reply, if it is done
abbrev pub buffer_reply : model.ObjectReply → Result DsId FileError → model.ObjectReply
buffer_reply reply (Ok _) = reply
buffer_reply _ (Err e) = Refused (model_object_error (Shared e))
