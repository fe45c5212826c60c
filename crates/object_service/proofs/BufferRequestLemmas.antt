-- Requests of the buffer: why they are refused, and what they leave of a session; and what each request is answered.
use Rattle.std.proofs.Common.{◌≡◌, ℕ, cond, List, [], Option, Some, None, is_some, refl, sym, ap, subst, ◌∙◌}
use Rattle.std.proofs.lemmas.Option.{none-some, same_Some}
use Rattle.std.specs.Prelude.{Result, Ok, Err, IfOk, OnErr}
use Rattle.std.specs.Option.{option_map}
use Rattle.std.specs.Result.{result_err}
use Rattle.trade_base.specs.declared.id.DsId.{DsId}
use Rattle.own_model.specs.Account.{Account}
use Rattle.own_model.specs.BufferService.{BufferRequest, given_back, make_refusal, made, unless_refused}
use Rattle.own_model.specs.BufferService.BufferRequest.{Make, GiveBack}
use Rattle.own_model.specs.FileService.{no_files}
use Rattle.own_model.specs.FileText as files
use Rattle.own_model.specs.FileText.FileError.{NoBuffer}
use Rattle.own_model.specs.ObjectKinds.{ObjectKind}
use Rattle.own_model.specs.ObjectService.{Objects, ObjectServed, told}
use Rattle.own_model.specs.ObjectSession.{HoldingServed, beside, lent_beside, holding_request}
use Rattle.own_model.specs.ObjectSession.HoldingRequest.{OfObjects, OfBuffer}
use Rattle.own_model.specs.ObjectText as model
use Rattle.own_model.specs.ObjectText.{object_reply}
use Rattle.own_model.specs.ObjectText.ObjectError.{Shared}
use Rattle.own_model.specs.ObjectText.ObjectReply.{Done, Lent, Refused}
use Rattle.session_nodes.specs.Frame.{Regions, Store, IsEffect, bytes_lent, holding_of, Effect, Nothing}
use Rattle.core_calls.specs.FileError.{model_error}
use Rattle.core_calls.specs.declared.file_error.FileError.{FileError}
use Rattle.core_calls.specs.ReplyText.{Told, told_alone}
use Rattle.session_proto.specs.Objects.{model_request}
use Rattle.session_proto.specs.declared.object.ObjectRequest.{ObjectRequest}
use Rattle.session_nodes.specs.SoundHeaps.{Stock}
use Rattle.session_nodes.specs.SessionHeaps.{stock_of, StaySoundHeaps, KeepsHeaps}
use Rattle.session_nodes.specs.SessionBuffer.{FreesBuffer, HasBuffer, LendsBuffer, buffer_key}
use Rattle.session_nodes.specs.declared.session_buffer.SessionBuffer.{SessionBuffer}
use Rattle.session_nodes.proofs.SourceLemmas.{buffer_kept, buffer_same}
use Rattle.object_service.specs.Session.{objects_in, served_in, session_served, buffer_reply, Answers, HasObjects, IsAnswered, IsReady, Leaves, LeavesSession, Serves}
use Rattle.object_service.specs.declared.session.ObjectSession.{ObjectSession}

-- what is read of a text is its request
pub read_as : (text : List ℕ) (read request : ObjectRequest) → read ≡ request → Some (model_request read) ≡ holding_request text → holding_request text ≡ Some (model_request request)
read_as text read request same is = sym is ∙ ap (λ r. Some (model_request r)) same

-- no buffer is freed where there is none
given_none : (buffer : Option SessionBuffer) (store : Store) (e : files.FileError) (objects : Objects) (account : Account) → Some e ≡ cond (is_some buffer) None (Some NoBuffer) →
    lent_beside objects (given_back (bytes_lent store (buffer_key buffer)) no_files account) ≡ beside (bytes_lent store (buffer_key buffer)) (told (Refused (Shared e)) objects account)
given_none None store e objects account is = ap (λ x. beside None (told (Refused (Shared x)) objects account)) (sym (same_Some e NoBuffer is))
given_none (Some lent) store e objects account is = absurd (none-some e (sym is))

-- what is told is the reply and nothing else
pub told_text : (new old : Told) (reply : model.ObjectReply) (text : List ℕ) → new ≡ record old { text = object_reply reply } → old.lines ≡ [] → object_reply reply ≡ text → new ≡ told_alone text
told_text new old reply text is none same = is ∙ (λ i. record { lines = none i; text = same i })

module _ {session : ObjectSession} {store : Store} {regions : Regions} (ready : IsReady session store regions) (kinds : List ObjectKind) where
  abbrev has : Stock
  has = stock_of session.nodes.heaps store regions

  abbrev lends : Option (List ℕ)
  lends = bytes_lent store (buffer_key session.buffer)

  -- a reply that leaves all
  pub told_all : (reply : model.ObjectReply) (served : HoldingServed) → served ≡ beside lends (told reply (objects_in kinds session has) has.account) → Answers kinds served reply session session store regions
  told_all reply served is = record {
    reply_is = ap (λ (o : HoldingServed). o.reply) (sym is);
    leaves = record {
      ready = ready;
      account = ap (λ (o : HoldingServed). o.account) (sym is);
      objects = ap (λ (o : HoldingServed). o.objects) (sym is);
      buffer = ap (λ (o : HoldingServed). o.buffer) (sym is);
      label = refl;
    };
  }

  -- also if the buffer, the memory and the map are told to be the same
  told_refused : (reply : model.ObjectReply) (served : HoldingServed) → served ≡ beside lends (told reply (objects_in kinds session has) has.account) → (buffer : Option SessionBuffer) {new : Store} {after : Regions} →
      buffer ≡ session.buffer → new ≡ store → after ≡ regions → Answers kinds served reply session (record session { buffer = buffer }) new after
  told_refused reply served is buffer {new} {after} same_buffer same_store same_map =
      subst (λ m. Answers kinds served reply session (record session { buffer = buffer }) m after) (sym same_store)
      (subst (λ m. Answers kinds served reply session (record session { buffer = buffer }) store m) (sym same_map)
      (subst (λ b. Answers kinds served reply session (record session { buffer = b }) store regions) (sym same_buffer) (told_all reply served is)))

  -- a request of objects leaves the buffer
  objects_leave : {later : ObjectSession} {new : Store} {after : Regions} (served : ObjectServed) → KeepsHeaps session.nodes.heaps later.nodes.heaps store new regions after →
      Leaves kinds served session later (stock_of later.nodes.heaps new after) → LeavesSession kinds (beside lends served) session later new after
  objects_leave {later} {new} {after} served keeps leaves = record {
    ready = record {
      furnished = keeps.stays.furnished;
      objects = leaves.kept;
      lent = subst (λ b. HasBuffer b (holding_of later.nodes.heaps.contents new after)) (sym leaves.own.buffer) (buffer_kept ready.furnished keeps session.buffer ready.lent);
    };
    account = leaves.account;
    objects = leaves.objects;
    buffer = ap (λ b. bytes_lent new (buffer_key b)) leaves.own.buffer ∙ buffer_same ready.furnished keeps session.buffer ready.lent;
    label = leaves.own.label;
  }

  -- a buffer is lent, or refused
  pub lend_answers : (n : ℕ) (r : Result DsId FileError) (buffer : Option SessionBuffer) {new : Store} {after : Regions} → option_map model_error (result_err r) ≡ make_refusal n lends has.account →
      IfOk r (λ space. LendsBuffer n space buffer has (stock_of session.nodes.heaps new after) (holding_of session.nodes.heaps.contents new after) new) → OnErr r (buffer ≡ session.buffer) → OnErr r (new ≡ store) → OnErr r (after ≡ regions) →
      StaySoundHeaps session.nodes.heaps session.nodes.heaps store new regions after → Answers kinds (session_served kinds (Some (OfBuffer (Make n))) session store regions) (buffer_reply Lent r) session (record session { buffer = buffer }) new after
  lend_answers n (Ok space) buffer {new} {after} refusal it same_buffer same_store same_map stays =
      let is = ap (λ o. lent_beside (objects_in kinds session has) (unless_refused o lends no_files has.account (made n no_files has.account))) refusal in
      record {
        reply_is = ap (λ (o : HoldingServed). o.reply) is;
        leaves = record {
          ready = record {
            furnished = stays.furnished;
            objects = subst (HasObjects (record session { buffer = buffer })) (sym it.taken.stock) (record { nodes = ready.objects.nodes; objects = ready.objects.objects; counted = ready.objects.counted });
            lent = subst (λ b. HasBuffer b (holding_of session.nodes.heaps.contents new after)) (sym it.later_is) it.taken.stands;
          };
          account = ap (λ (s : Stock). s.account) it.taken.stock ∙ ap (λ (o : HoldingServed). o.account) is;
          objects = ap (objects_in kinds session) it.taken.stock ∙ ap (λ (o : HoldingServed). o.objects) is;
          buffer = ap (λ b. bytes_lent new (buffer_key b)) it.later_is ∙ ap Some it.taken.zero ∙ ap (λ (o : HoldingServed). o.buffer) is;
          label = refl;
        };
      }
  lend_answers n (Err e) buffer {new} {after} refusal it same_buffer same_store same_map stays =
      let is = sym (ap (λ o. lent_beside (objects_in kinds session has) (unless_refused o lends no_files has.account (made n no_files has.account))) refusal) in
      told_refused (Refused (Shared (model_error e))) _ is buffer same_buffer same_store same_map

  -- it is freed, or there is none
  pub take_back_answers : (r : Result DsId FileError) (buffer : Option SessionBuffer) {new : Store} {after : Regions} → option_map model_error (result_err r) ≡ cond (is_some session.buffer) None (Some NoBuffer) →
      IfOk r (λ space. FreesBuffer space session.buffer buffer has (stock_of session.nodes.heaps new after) (holding_of session.nodes.heaps.contents new after) store) → OnErr r (buffer ≡ session.buffer) → OnErr r (new ≡ store) → OnErr r (after ≡ regions) →
      StaySoundHeaps session.nodes.heaps session.nodes.heaps store new regions after → Answers kinds (session_served kinds (Some (OfBuffer GiveBack)) session store regions) (buffer_reply Done r) session (record session { buffer = buffer }) new after
  take_back_answers (Ok space) buffer {new} {after} refusal it same_buffer same_store same_map stays =
      let is = ap (λ b. lent_beside (objects_in kinds session has) (given_back (bytes_lent store (buffer_key b)) no_files has.account)) (sym it.was_is) in
      record {
        reply_is = ap (λ (o : HoldingServed). o.reply) is;
        leaves = record {
          ready = record {
            furnished = stays.furnished;
            objects = subst (HasObjects (record session { buffer = buffer })) (sym it.given.stock) (record { nodes = ready.objects.nodes; objects = ready.objects.objects; counted = ready.objects.counted });
            lent = subst (λ b. HasBuffer b (holding_of session.nodes.heaps.contents new after)) (sym it.later_is) it.given.none;
          };
          account = ap (λ (s : Stock). s.account) it.given.stock ∙ ap (λ (o : HoldingServed). o.account) is;
          objects = ap (objects_in kinds session) it.given.stock ∙ ap (λ (o : HoldingServed). o.objects) is;
          buffer = ap (λ b. bytes_lent new (buffer_key b)) it.later_is ∙ ap (λ (o : HoldingServed). o.buffer) is;
          label = refl;
        };
      }
  take_back_answers (Err e) buffer {new} {after} refusal it same_buffer same_store same_map stays =
      told_refused (Refused (Shared (model_error e))) _ (given_none session.buffer store (model_error e) (objects_in kinds session has) has.account refusal) buffer same_buffer same_store same_map

  -- ---- what is told

  -- a request of objects is answered as it is served, and does nothing to the buffer
  pub objects_answered : {later : ObjectSession} {new : Store} {after : Regions} (text : List ℕ) (request : model.ObjectRequest) (reply : model.ObjectReply) (told_now told_then : Told) →
      holding_request text ≡ Some (OfObjects request) → KeepsHeaps session.nodes.heaps later.nodes.heaps store new regions after →
      Serves kinds (served_in kinds request session has) reply session later (stock_of later.nodes.heaps new after) →
      told_then ≡ record told_now { text = object_reply reply } → told_now.lines ≡ [] →
      IsAnswered kinds (session_served kinds (holding_request text) session store regions) Nothing told_then session later store new regions after
  objects_answered {later} {new} {after} text request reply told_now told_then reads keeps serves tells none =
      subst (λ r. IsAnswered kinds (session_served kinds r session store regions) Nothing told_then session later store new regions after) (sym reads) (record {
        text = told_text told_then told_now reply _ tells none serves.reply_is;
        leaves = objects_leave (served_in kinds request session has) keeps serves.leaves;
        effect_is = ap buffer_key serves.leaves.own.buffer;
        stays = keeps.stays;
      })

  -- a request of the buffer is answered as it is served, and its effect on the buffer is returned
  pub buffer_answered : {later : ObjectSession} {new : Store} {after : Regions} (text : List ℕ) (request : BufferRequest) (reply : model.ObjectReply) (effect does : Effect) (told_now told_then : Told) →
      holding_request text ≡ Some (OfBuffer request) → Answers kinds (session_served kinds (Some (OfBuffer request)) session store regions) reply session later new after →
      effect ≡ does → IsEffect does (buffer_key session.buffer) (buffer_key later.buffer) → StaySoundHeaps session.nodes.heaps later.nodes.heaps store new regions after →
      told_then ≡ record told_now { text = object_reply reply } → told_now.lines ≡ [] →
      IsAnswered kinds (session_served kinds (holding_request text) session store regions) effect told_then session later store new regions after
  buffer_answered {later} {new} {after} text request reply effect does told_now told_then reads answers same is_effect stays tells none =
      subst (λ r. IsAnswered kinds (session_served kinds r session store regions) effect told_then session later store new regions after) (sym reads) (record {
        text = told_text told_then told_now reply _ tells none answers.reply_is;
        leaves = answers.leaves;
        effect_is = subst (λ e. IsEffect e (buffer_key session.buffer) (buffer_key later.buffer)) (sym same) is_effect;
        stays = stays;
      })
