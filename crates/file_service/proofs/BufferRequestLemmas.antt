-- Requests of the buffer: why they are refused, and what they leave of a session.
use Rattle.std.proofs.Common.{◌≡◌, ℕ, ◌+◌, ◌<◌, ◌≤◌, cond, true, false, List, [], length, take, drop, Option, Some, None, is_some, refl, sym, ap, subst, ◌∙◌, arith}
use Rattle.std.proofs.lemmas.Bool.Decides.{nat_tests}
use Rattle.std.proofs.lemmas.Option.{none-some, same_Some}
use Rattle.std.specs.Prelude.{nat_lt, Result, Ok, Err, IfOk, OnErr}
use Rattle.std.specs.Result.{result_err}
use Rattle.std.specs.Option.{option_map}
use Rattle.trade_base.specs.Bytes.{with_bytes}
use Rattle.trade_base.specs.declared.id.DsId.{DsId}
use Rattle.trade_base.proofs.BytesLemmas.{with_bytes-nothing}
use Rattle.own_model.specs.Account.{Account}
use Rattle.own_model.specs.BufferService.{BufferRequest, BufferServed, beside, given_back, make_refusal, made, range_refusal, part_of, put, got, session_request, unless_refused}
use Rattle.own_model.specs.BufferService.BufferRequest.{Make, GiveBack}
use Rattle.own_model.specs.BufferService.SessionRequest.{OfFiles, OfBuffer}
use Rattle.own_model.specs.FileService.{File, Files, FileServed, told, written}
use Rattle.own_model.specs.FileText as model
use Rattle.own_model.specs.FileText.{file_reply}
use Rattle.own_model.specs.FileText.FileError.{Gap, NoBuffer}
use Rattle.own_model.specs.FileText.FileReply.{Count, Refused}
use Rattle.session_nodes.specs.Frame.{Regions, Store, space_at, IsEffect, bytes_lent, holding_of, Effect, Nothing}
use Rattle.core_calls.specs.FileError.{model_error}
use Rattle.core_calls.specs.ReplyText.{Told}
use Rattle.core_calls.specs.declared.file_error.FileError.{FileError}
use Rattle.session_proto.specs.File.{model_request}
use Rattle.session_proto.specs.declared.file.FileRequest.{FileRequest}
use Rattle.session_nodes.specs.SoundHeaps.{Stock}
use Rattle.session_nodes.specs.SessionHeaps.{stock_of, StaySoundHeaps, KeepsHeaps}
use Rattle.session_nodes.specs.SessionBuffer.{FillsBuffer, FreesBuffer, HasBuffer, LendsBuffer, buffer_key}
use Rattle.file_service.specs.Session.{files_in, served_in, session_served, Answers, HasFiles, IsAnswered, IsReady, Leaves, LeavesSession, Serves, done_reply, lent_reply}
use Rattle.file_service.specs.declared.session.FileSession.{FileSession}
use Rattle.session_nodes.specs.declared.session_buffer.SessionBuffer.{SessionBuffer}
use Rattle.file_service.proofs.RequestLemmas.{told_text}
use Rattle.session_nodes.proofs.SourceLemmas.{buffer_kept, buffer_same}

-- ---- why a put or a get is refused

module _ (offset place count : ℕ) (buffer : Option (List ℕ)) (files : Files) (account : Account) (file : File) where
  pub put_gap : length file.bytes < offset → put offset place count buffer (Some file) files account ≡ beside buffer (told (Refused Gap) files account)
  put_gap above = let t : nat_lt (length file.bytes) offset ≡ true = grind (arith, nat_tests) in rw t refl

  pub got_gap : length file.bytes < offset → got offset place count buffer (Some file) files account ≡ beside buffer (told (Refused Gap) files account)
  got_gap above = let t : nat_lt (length file.bytes) offset ≡ true = grind (arith, nat_tests) in rw t refl

  module _ (low : offset ≤ length file.bytes) where
    no_gap : nat_lt (length file.bytes) offset ≡ false
    no_gap = grind (arith, nat_tests)

    pub put_range : (e : model.FileError) → range_refusal place count buffer ≡ Some e → put offset place count buffer (Some file) files account ≡ beside buffer (told (Refused e) files account)
    put_range e bad = rw (no_gap, bad) refl

    pub got_range : (e : model.FileError) → range_refusal place count buffer ≡ Some e → got offset place count buffer (Some file) files account ≡ beside buffer (told (Refused e) files account)
    got_range e bad = rw (no_gap, bad) refl

    pub put_done : range_refusal place count buffer ≡ None → put offset place count buffer (Some file) files account ≡ beside buffer (written offset (part_of buffer place count) (Some file) files account)
    put_done good = rw (no_gap, good) refl

    pub got_done : (part : List ℕ) → range_refusal place count buffer ≡ None → take count (drop offset file.bytes) ≡ part →
        got offset place count buffer (Some file) files account ≡ beside (option_map (λ bytes. with_bytes bytes place part) buffer) (told (Count (length part)) files account)
    got_done part good is = rw (no_gap, good, is) refl

-- a range that isn't refused is in the buffer
pub range_within : (place count : ℕ) (bytes : List ℕ) → range_refusal place count (Some bytes) ≡ None → place + count ≤ length bytes
range_within place count bytes good = grind (arith, nat_tests)

-- nothing is put into a buffer
pub nothing_got : (buffer : Option (List ℕ)) (place : ℕ) → option_map (λ bytes. with_bytes bytes place []) buffer ≡ buffer
nothing_got None place = refl
nothing_got (Some bytes) place = ap Some (with_bytes-nothing bytes place)

-- what is read of a text is its request
pub read_as : (text : List ℕ) (read request : FileRequest) → read ≡ request → Some (model_request read) ≡ session_request text → session_request text ≡ Some (model_request request)
read_as text read request same is = sym is ∙ ap (λ r. Some (model_request r)) same

-- no buffer is freed where there is none
given_none : (buffer : Option SessionBuffer) (store : Store) (e : model.FileError) (files : Files) (account : Account) → Some e ≡ cond (is_some buffer) None (Some NoBuffer) →
    given_back (bytes_lent store (buffer_key buffer)) files account ≡ beside (bytes_lent store (buffer_key buffer)) (told (Refused e) files account)
given_none None store e files account is = ap (λ x. beside None (told (Refused x) files account)) (sym (same_Some e NoBuffer is))
given_none (Some lent) store e files account is = absurd (none-some e (sym is))

-- ---- what they leave

module _ {session : FileSession} {store : Store} {regions : Regions} (ready : IsReady session store regions) where
  abbrev has : Stock
  has = stock_of session.nodes.heaps store regions

  abbrev lends : Option (List ℕ)
  lends = bytes_lent store (buffer_key session.buffer)

  -- a reply that leaves all
  pub told_all : (reply : model.FileReply) (served : BufferServed) → served ≡ beside lends (told reply (files_in session has) has.account) → Answers served reply session session store regions
  told_all reply served is = record {
    reply_is = ap (λ (o : BufferServed). o.reply) (sym is);
    leaves = record {
      ready = ready;
      account = ap (λ (o : BufferServed). o.account) (sym is);
      files = ap (λ (o : BufferServed). o.files) (sym is);
      buffer = ap (λ (o : BufferServed). o.buffer) (sym is);
      label = refl;
    };
  }

  -- also if the buffer, the memory and the map are told to be the same
  told_refused : (reply : model.FileReply) (served : BufferServed) → served ≡ beside lends (told reply (files_in session has) has.account) → (buffer : Option SessionBuffer) {new : Store} {after : Regions} →
      buffer ≡ session.buffer → new ≡ store → after ≡ regions → Answers served reply session (record session { buffer = buffer }) new after
  told_refused reply served is buffer {new} {after} same_buffer same_store same_map =
      subst (λ m. Answers served reply session (record session { buffer = buffer }) m after) (sym same_store)
      (subst (λ m. Answers served reply session (record session { buffer = buffer }) store m) (sym same_map)
      (subst (λ b. Answers served reply session (record session { buffer = b }) store regions) (sym same_buffer) (told_all reply served is)))

  -- a request of files leaves the buffer
  pub files_leave : {later : FileSession} {new : Store} {after : Regions} (served : FileServed) → KeepsHeaps session.nodes.heaps later.nodes.heaps store new regions after →
      Leaves served session later (stock_of later.nodes.heaps new after) → LeavesSession (beside lends served) session later new after
  files_leave {later} {new} {after} served keeps leaves = record {
    ready = record {
      furnished = keeps.stays.furnished;
      files = leaves.kept;
      lent = subst (λ b. HasBuffer b (holding_of later.nodes.heaps.contents new after)) (sym leaves.own.buffer) (buffer_kept ready.furnished keeps session.buffer ready.lent);
    };
    account = leaves.account;
    files = leaves.files;
    buffer = ap (λ b. bytes_lent new (buffer_key b)) leaves.own.buffer ∙ buffer_same ready.furnished keeps session.buffer ready.lent;
    label = leaves.own.label;
  }

  -- a buffer is lent, or refused
  pub lend_answers : (n : ℕ) (r : Result DsId FileError) (buffer : Option SessionBuffer) {new : Store} {after : Regions} → option_map model_error (result_err r) ≡ make_refusal n lends has.account →
      IfOk r (λ space. LendsBuffer n space buffer has (stock_of session.nodes.heaps new after) (holding_of session.nodes.heaps.contents new after) new) → OnErr r (buffer ≡ session.buffer) → OnErr r (new ≡ store) → OnErr r (after ≡ regions) →
      StaySoundHeaps session.nodes.heaps session.nodes.heaps store new regions after → Answers (session_served (Some (OfBuffer (Make n))) session store regions) (lent_reply r) session (record session { buffer = buffer }) new after
  lend_answers n (Ok space) buffer {new} {after} refusal it same_buffer same_store same_map stays =
      let is = ap (λ o. unless_refused o lends (files_in session has) has.account (made n (files_in session has) has.account)) refusal in
      record {
        reply_is = ap (λ (o : BufferServed). o.reply) is;
        leaves = record {
          ready = record {
            furnished = stays.furnished;
            files = subst (HasFiles session) (sym it.taken.stock) ready.files;
            lent = subst (λ b. HasBuffer b (holding_of session.nodes.heaps.contents new after)) (sym it.later_is) it.taken.stands;
          };
          account = ap (λ (s : Stock). s.account) it.taken.stock ∙ ap (λ (o : BufferServed). o.account) is;
          files = ap (files_in session) it.taken.stock ∙ ap (λ (o : BufferServed). o.files) is;
          buffer = ap (λ b. bytes_lent new (buffer_key b)) it.later_is ∙ ap Some it.taken.zero ∙ ap (λ (o : BufferServed). o.buffer) is;
          label = refl;
        };
      }
  lend_answers n (Err e) buffer {new} {after} refusal it same_buffer same_store same_map stays =
      let is = sym (ap (λ o. unless_refused o lends (files_in session has) has.account (made n (files_in session has) has.account)) refusal) in
      told_refused (Refused (model_error e)) _ is buffer same_buffer same_store same_map

  -- it is freed, or there is none
  pub take_back_answers : (r : Result DsId FileError) (buffer : Option SessionBuffer) {new : Store} {after : Regions} → option_map model_error (result_err r) ≡ cond (is_some session.buffer) None (Some NoBuffer) →
      IfOk r (λ space. FreesBuffer space session.buffer buffer has (stock_of session.nodes.heaps new after) (holding_of session.nodes.heaps.contents new after) store) → OnErr r (buffer ≡ session.buffer) → OnErr r (new ≡ store) → OnErr r (after ≡ regions) →
      StaySoundHeaps session.nodes.heaps session.nodes.heaps store new regions after → Answers (session_served (Some (OfBuffer GiveBack)) session store regions) (done_reply r) session (record session { buffer = buffer }) new after
  take_back_answers (Ok space) buffer {new} {after} refusal it same_buffer same_store same_map stays =
      let is = ap (λ b. given_back (bytes_lent store (buffer_key b)) (files_in session has) has.account) (sym it.was_is) in
      record {
        reply_is = ap (λ (o : BufferServed). o.reply) is;
        leaves = record {
          ready = record {
            furnished = stays.furnished;
            files = subst (HasFiles session) (sym it.given.stock) ready.files;
            lent = subst (λ b. HasBuffer b (holding_of session.nodes.heaps.contents new after)) (sym it.later_is) it.given.none;
          };
          account = ap (λ (s : Stock). s.account) it.given.stock ∙ ap (λ (o : BufferServed). o.account) is;
          files = ap (files_in session) it.given.stock ∙ ap (λ (o : BufferServed). o.files) is;
          buffer = ap (λ b. bytes_lent new (buffer_key b)) it.later_is ∙ ap (λ (o : BufferServed). o.buffer) is;
          label = refl;
        };
      }
  take_back_answers (Err e) buffer {new} {after} refusal it same_buffer same_store same_map stays =
      told_refused (Refused (model_error e)) _ (given_none session.buffer store (model_error e) (files_in session has) has.account refusal) buffer same_buffer same_store same_map

  -- a get fills the buffer
  pub got_filled : (lent : SessionBuffer) (place n : ℕ) (bytes part : List ℕ) (served : BufferServed) {new : Store} → session.buffer ≡ Some lent →
      FillsBuffer lent place bytes (stock_of session.nodes.heaps store regions) (stock_of session.nodes.heaps new regions) (holding_of session.nodes.heaps.contents new regions) store new →
      StaySoundHeaps session.nodes.heaps session.nodes.heaps store new regions regions → bytes ≡ part → length part ≡ n →
      served ≡ beside (option_map (λ b. with_bytes b place part) lends) (told (Count (length part)) (files_in session has) has.account) →
      Answers served (Count n) session session new regions
  got_filled lent place n bytes part served {new} lent_is filled stays same long is = record {
    reply_is = ap (λ k. file_reply (Count k)) (sym long) ∙ ap (λ (o : BufferServed). o.reply) (sym is);
    leaves = record {
      ready = record {
        furnished = stays.furnished;
        files = subst (HasFiles session) (sym filled.stock) ready.files;
        lent = subst (λ b. HasBuffer b (holding_of session.nodes.heaps.contents new regions)) (sym lent_is) filled.stands;
      };
      account = ap (λ (s : Stock). s.account) filled.stock ∙ ap (λ (o : BufferServed). o.account) (sym is);
      files = ap (files_in session) filled.stock ∙ ap (λ (o : BufferServed). o.files) (sym is);
      buffer =
          ap (λ b. bytes_lent new (buffer_key b)) lent_is
          ∙ ap Some (filled.filled ∙ ap (with_bytes (space_at store lent.space.0).bytes place) same)
          ∙ sym (ap (λ b. option_map (λ l. with_bytes l place part) (bytes_lent store (buffer_key b))) lent_is)
          ∙ ap (λ (o : BufferServed). o.buffer) (sym is);
      label = refl;
    };
  }

  -- ---- what is told

  -- a request of files is answered as it is served, and does nothing to the buffer
  pub files_answered : {later : FileSession} {new : Store} {after : Regions} (text : List ℕ) (request : model.FileRequest) (reply : model.FileReply) (told_now told_then : Told) →
      session_request text ≡ Some (OfFiles request) → KeepsHeaps session.nodes.heaps later.nodes.heaps store new regions after →
      Serves (served_in request session has) reply session later (stock_of later.nodes.heaps new after) →
      told_then ≡ record told_now { text = file_reply reply } → told_now.lines ≡ [] →
      IsAnswered (session_served (session_request text) session store regions) Nothing told_then session later store new regions after
  files_answered {later} {new} {after} text request reply told_now told_then reads keeps serves tells none =
      subst (λ r. IsAnswered (session_served r session store regions) Nothing told_then session later store new regions after) (sym reads) (record {
        text = told_text told_then told_now reply _ tells none serves.reply_is;
        leaves = files_leave (served_in request session has) keeps serves.leaves;
        effect_is = ap buffer_key serves.leaves.own.buffer;
        stays = keeps.stays;
      })

  -- a request of the buffer is answered as it is served, and what it does to the buffer is told
  pub buffer_answered : {later : FileSession} {new : Store} {after : Regions} (text : List ℕ) (request : BufferRequest) (reply : model.FileReply) (effect does : Effect) (told_now told_then : Told) →
      session_request text ≡ Some (OfBuffer request) → Answers (session_served (Some (OfBuffer request)) session store regions) reply session later new after →
      effect ≡ does → IsEffect does (buffer_key session.buffer) (buffer_key later.buffer) → StaySoundHeaps session.nodes.heaps later.nodes.heaps store new regions after →
      told_then ≡ record told_now { text = file_reply reply } → told_now.lines ≡ [] →
      IsAnswered (session_served (session_request text) session store regions) effect told_then session later store new regions after
  buffer_answered {later} {new} {after} text request reply effect does told_now told_then reads answers same is_effect stays tells none =
      subst (λ r. IsAnswered (session_served r session store regions) effect told_then session later store new regions after) (sym reads) (record {
        text = told_text told_then told_now reply _ tells none answers.reply_is;
        leaves = answers.leaves;
        effect_is = subst (λ e. IsEffect e (buffer_key session.buffer) (buffer_key later.buffer)) (sym same) is_effect;
        stays = stays;
      })
