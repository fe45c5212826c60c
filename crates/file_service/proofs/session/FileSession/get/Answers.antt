-- The offset is looked at first, then the range of the buffer.
use Rattle.std.proofs.Common.{rules, ◌≡◌, ◌+◌, ◌-◌, ◌≤◌, [], length, take, drop, Some, None, Err, refl, sym, ap, subst, ◌∙◌, arith}
use Rattle.std.specs.Prelude.{IfOk, slice_range}
use Rattle.std.specs.Option.{option_map}
use Rattle.std.specs.Result.{result_ok, result_err}
use Rattle.trade_base.proofs.BytesLemmas.{length-slice_range}
use Rattle.own_model.specs.BufferService.{beside, range_refusal, got}
use Rattle.own_model.specs.BufferService.BufferRequest.{Get}
use Rattle.own_model.specs.BufferService.SessionRequest.{OfBuffer}
use Rattle.own_model.specs.FileService.{File, told}
use Rattle.own_model.specs.FileText.FileError.{Gap}
use Rattle.own_model.specs.FileText.FileReply.{Count, Refused}
use Rattle.session_nodes.specs.Frame.{space_at, bytes_lent, holding_of}
use Rattle.session_proto.specs.FileReply.{model_error}
use Rattle.session_nodes.specs.Calls.{payload_in}
use Rattle.session_nodes.specs.SoundHeaps.{Stock}
use Rattle.session_nodes.specs.SessionHeaps.{stock_of, StaySoundHeaps}
use Rattle.session_nodes.specs.SessionBuffer.{HasBuffer, buffer_key}
use Rattle.session_nodes.specs.Node.{value_of}
use Rattle.file_service.specs.Session.{files_in, session_served, counted_reply, Answers, IsReady}
use Rattle.session_nodes.proofs.FrontLemmas.{front_part}
use Rattle.file_service.proofs.FileThereLemmas.{IsThere, file_in, is_there}
use Rattle.session_nodes.proofs.SearchLemmas.{found_has, found_bytes}
use Rattle.session_nodes.proofs.SourceLemmas.{buffer_exists}
use Rattle.file_service.proofs.BufferRequestLemmas as request
use Rattle.session_nodes.proofs.ResultLemmas.{keeps_same}
use Rattle.session_nodes.proofs.AfterLemmas.{furnished_after}
use Rattle.file_service.proofs.session.FileSession.get.Goals.{In_ok-found, In_ok-lent}
use Rattle.file_service.proofs.session.FileSession.get.Goals as goal

-- what is found, in the memory after the search
there : (c : In_ok-found) → IsThere c.args.self.now c.find.new.memory c.args.map.now c.args.range.now.file.now c.in_ok-found.found
there c = is_there c.args.self.now c.args.map.now c.args.range.now.file.now c.in_ok-found.found c.find.ensures.some (c.ok_or.ensures.ok_part ∙ ap result_ok c.in_ok-found.was) c.find.ensures.memory

ready : (c : In_ok-found) → IsReady c.args.self.now c.find.new.memory c.args.map.now
ready c = subst (λ m. IsReady c.args.self.now m c.args.map.now) (sym c.find.ensures.memory) c.requires.ready

abbrev file_of : (c : In_ok-found) → File
file_of c = file_in c.args.self.now c.find.new.memory c.args.map.now c.in_ok-found.found

-- the range is in the buffer
record IsInRange (c : In_ok-lent) : Type 0 where
  lent : c.args.self.now.buffer ≡ Some c.in_ok-lent.lent
  good : range_refusal c.args.place c.args.range.now.len (bytes_lent c.find.new.memory (buffer_key c.args.self.now.buffer)) ≡ None

in_range : (c : In_ok-lent) → IsInRange c
in_range c = record {
  lent = subst (λ r. IfOk r (λ lent. c.args.self.now.buffer ≡ Some lent)) c.in_ok-lent.was c.range.ensures.lent;
  good = sym c.range.ensures.refusal ∙ ap (λ r. option_map model_error (result_err r)) c.in_ok-lent.was;
}

within : (c : In_ok-lent) → c.args.place + c.args.range.now.len ≤ length (space_at c.find.new.memory c.in_ok-lent.lent.space.0).bytes
within c =
    let is = in_range c in
    request.range_within c.args.place c.args.range.now.len (space_at c.find.new.memory c.in_ok-lent.lent.space.0).bytes
    (ap (λ b. range_refusal c.args.place c.args.range.now.len (bytes_lent c.find.new.memory (buffer_key b))) (sym is.lent) ∙ is.good)

pub returns-then-range-size-clause-answers : goal.returns-then-range-size-clause-answers
returns-then-range-size-clause-answers c =
    let at = (goal.at.returns-then-range-size-clause-answers c).In_ok-found in
    let s : Stock = stock_of c.args.self.now.nodes.heaps c.find.new.memory c.args.map.now in
    let b = bytes_lent c.find.new.memory (buffer_key c.args.self.now.buffer) in
    subst (λ m. Answers (session_served (Some (OfBuffer (Get c.args.range.now.file.now c.args.range.now.offset c.args.place c.args.range.now.len))) c.args.self.now m c.args.map.now) (Refused Gap) c.args.self.now c.args.self.now c.find.new.memory c.args.map.now) c.find.ensures.memory
    (request.told_all (ready at) (Refused Gap) _
    (ap (λ o. got c.args.range.now.offset c.args.place c.args.range.now.len b o (files_in c.args.self.now s) s.account) (there at).named
    ∙ request.got_gap c.args.range.now.offset c.args.place c.args.range.now.len b (files_in c.args.self.now s) s.account (file_of at) (omega (arith, (there at).long))))

pub range-requires : goal.range-requires
range-requires c = let now = ready (goal.at.range-requires c).In_ok-found in buffer_exists now.furnished c.args.self.now.buffer now.lent

pub returns-in_err-lent-clause-answers : goal.returns-in_err-lent-clause-answers
returns-in_err-lent-clause-answers c =
    let at = (goal.at.returns-in_err-lent-clause-answers c).In_ok-found in
    let s : Stock = stock_of c.args.self.now.nodes.heaps c.find.new.memory c.args.map.now in
    let b = bytes_lent c.find.new.memory (buffer_key c.args.self.now.buffer) in
    let e = model_error c.in_err-lent.field-0.0 in
    let tells : c.from_residual-in_err-lent.result ≡ Err c.in_err-lent.field-0.0 = search rules in
    let bad : range_refusal c.args.place c.args.range.now.len b ≡ Some e = sym c.range.ensures.refusal ∙ ap (λ r. option_map model_error (result_err r)) c.in_err-lent.was in
    subst (λ r. Answers (session_served (Some (OfBuffer (Get c.args.range.now.file.now c.args.range.now.offset c.args.place c.args.range.now.len))) c.args.self.now c.args.memory.now c.args.map.now) (counted_reply r) c.args.self.now c.args.self.now c.find.new.memory c.args.map.now) (sym tells)
    (subst (λ m. Answers (session_served (Some (OfBuffer (Get c.args.range.now.file.now c.args.range.now.offset c.args.place c.args.range.now.len))) c.args.self.now m c.args.map.now) (Refused e) c.args.self.now c.args.self.now c.find.new.memory c.args.map.now) c.find.ensures.memory
    (request.told_all (ready at) (Refused e) _
    (ap (λ o. got c.args.range.now.offset c.args.place c.args.range.now.len b o (files_in c.args.self.now s) s.account) (there at).named
    ∙ request.got_range c.args.range.now.offset c.args.place c.args.range.now.len b (files_in c.args.self.now s) s.account (file_of at) (omega (arith, (there at).long)) e bad)))

pub fill_buffer-requires-clause-lent : goal.fill_buffer-requires-clause-lent
fill_buffer-requires-clause-lent c =
    let at = goal.at.fill_buffer-requires-clause-lent c in
    subst (λ b. HasBuffer b (holding_of c.args.self.now.nodes.heaps.contents c.find.new.memory c.args.map.now)) (in_range at.In_ok-lent).lent (ready at.In_ok-found).lent

pub fill_buffer-requires-clause-there : goal.fill_buffer-requires-clause-there
fill_buffer-requires-clause-there c =
    let at = (goal.at.fill_buffer-requires-clause-there c).In_ok-found in
    found_has c.args.self.now.nodes.first c.args.self.now.nodes.last _ _ c.args.range.now.file.now _ c.in_ok-found.found.address (value_of c.in_ok-found.found.node) (there at).found
    c.args.range.now.offset c.min-part.result (omega arith) (omega arith)

pub fill_buffer-requires-clause-room : goal.fill_buffer-requires-clause-room
fill_buffer-requires-clause-room c =
    let at = (goal.at.fill_buffer-requires-clause-room c).In_ok-lent in
    omega (arith, within at)

pub returns-then-part-gt0-clause-answers : goal.returns-then-part-gt0-clause-answers
returns-then-part-gt0-clause-answers c =
    let places = goal.at.returns-then-part-gt0-clause-answers c in
    let at = places.In_ok-found in
    let is = in_range places.In_ok-lent in
    let s : Stock = stock_of c.args.self.now.nodes.heaps c.find.new.memory c.args.map.now in
    let b = bytes_lent c.find.new.memory (buffer_key c.args.self.now.buffer) in
    let node = value_of c.in_ok-found.found.node in
    let found = (there at).found in
    let content = payload_in s.contents node.content in
    let n = c.min-part.result in
    let has = found_has c.args.self.now.nodes.first c.args.self.now.nodes.last s.nodes s.contents c.args.range.now.file.now _ c.in_ok-found.found.address node found c.args.range.now.offset n (omega arith) (omega arith) in
    let bytes = found_bytes c.args.self.now.nodes.first c.args.self.now.nodes.last s.nodes s.contents c.args.range.now.file.now _ c.in_ok-found.found.address node found in
    let part = slice_range content c.args.range.now.offset (c.args.range.now.offset + n) in
    let count : (c.args.range.now.offset + n) - c.args.range.now.offset ≡ n = omega arith in
    let same : take c.args.range.now.len (drop c.args.range.now.offset (file_of at).bytes) ≡ part =
    ap (λ l. take c.args.range.now.len (drop c.args.range.now.offset l)) bytes
    ∙ front_part node.size c.args.range.now.len c.args.range.now.offset n content (omega arith) c.min-part.ensures
    ∙ ap (λ k. take k (drop c.args.range.now.offset content)) (sym count) in
    subst (λ m. Answers (session_served (Some (OfBuffer (Get c.args.range.now.file.now c.args.range.now.offset c.args.place c.args.range.now.len))) c.args.self.now m c.args.map.now) (Count n) c.args.self.now c.args.self.now c.fill_buffer.new.memory c.args.map.now) c.find.ensures.memory
    (request.got_filled (ready at) c.in_ok-lent.lent c.args.place n part part _ is.lent c.fill_buffer.ensures.filled c.fill_buffer.ensures.stays refl
    (length-slice_range content c.args.range.now.offset n has.within)
    (ap (λ o. got c.args.range.now.offset c.args.place c.args.range.now.len b o (files_in c.args.self.now s) s.account) (there at).named
    ∙ request.got_done c.args.range.now.offset c.args.place c.args.range.now.len b (files_in c.args.self.now s) s.account (file_of at) (omega (arith, (there at).long)) part is.good same))

pub returns-else-part-gt0-clause-answers : goal.returns-else-part-gt0-clause-answers
returns-else-part-gt0-clause-answers c =
    let places = goal.at.returns-else-part-gt0-clause-answers c in
    let at = places.In_ok-found in
    let is = in_range places.In_ok-lent in
    let s : Stock = stock_of c.args.self.now.nodes.heaps c.find.new.memory c.args.map.now in
    let b = bytes_lent c.find.new.memory (buffer_key c.args.self.now.buffer) in
    let node = value_of c.in_ok-found.found.node in
    let content = payload_in s.contents node.content in
    let bytes = found_bytes c.args.self.now.nodes.first c.args.self.now.nodes.last s.nodes s.contents c.args.range.now.file.now _ c.in_ok-found.found.address node (there at).found in
    let none : c.min-part.result ≡ 0 = omega arith in
    let same : take c.args.range.now.len (drop c.args.range.now.offset (file_of at).bytes) ≡ [] =
    ap (λ l. take c.args.range.now.len (drop c.args.range.now.offset l)) bytes
    ∙ front_part node.size c.args.range.now.len c.args.range.now.offset c.min-part.result content (omega arith) c.min-part.ensures
    ∙ ap (λ k. take k (drop c.args.range.now.offset content)) none in
    subst (λ n. Answers (session_served (Some (OfBuffer (Get c.args.range.now.file.now c.args.range.now.offset c.args.place c.args.range.now.len))) c.args.self.now c.args.memory.now c.args.map.now) (Count n) c.args.self.now c.args.self.now c.find.new.memory c.args.map.now) (sym none)
    (subst (λ m. Answers (session_served (Some (OfBuffer (Get c.args.range.now.file.now c.args.range.now.offset c.args.place c.args.range.now.len))) c.args.self.now m c.args.map.now) (Count 0) c.args.self.now c.args.self.now c.find.new.memory c.args.map.now) c.find.ensures.memory
    (request.told_all (ready at) (Count 0) _
    (ap (λ o. got c.args.range.now.offset c.args.place c.args.range.now.len b o (files_in c.args.self.now s) s.account) (there at).named
    ∙ request.got_done c.args.range.now.offset c.args.place c.args.range.now.len b (files_in c.args.self.now s) s.account (file_of at) (omega (arith, (there at).long)) [] is.good same
    ∙ ap (λ l. beside l (told (Count 0) (files_in c.args.self.now s) s.account)) (request.nothing_got b c.args.place))))

pub returns-in_err-found-clause-stays : goal.returns-in_err-found-clause-stays
returns-in_err-found-clause-stays c = (keeps_same c.requires.ready.furnished refl refl c.find.ensures.memory refl).stays

pub returns-then-range-size-clause-stays : goal.returns-then-range-size-clause-stays
returns-then-range-size-clause-stays c = (keeps_same c.requires.ready.furnished refl refl c.find.ensures.memory refl).stays

pub returns-in_err-lent-clause-stays : goal.returns-in_err-lent-clause-stays
returns-in_err-lent-clause-stays c = (keeps_same c.requires.ready.furnished refl refl c.find.ensures.memory refl).stays

pub returns-else-part-gt0-clause-stays : goal.returns-else-part-gt0-clause-stays
returns-else-part-gt0-clause-stays c = (keeps_same c.requires.ready.furnished refl refl c.find.ensures.memory refl).stays

pub fill_buffer-requires-clause-furnished : goal.fill_buffer-requires-clause-furnished
fill_buffer-requires-clause-furnished c = furnished_after c.find.ensures.memory c.requires.ready.furnished

pub returns-then-part-gt0-clause-stays : goal.returns-then-part-gt0-clause-stays
returns-then-part-gt0-clause-stays c = subst (λ m. StaySoundHeaps c.args.self.now.nodes.heaps c.args.self.now.nodes.heaps m c.fill_buffer.new.memory c.args.map.now c.args.map.now) c.find.ensures.memory c.fill_buffer.ensures.stays
