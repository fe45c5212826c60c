-- The offset is looked at first, then the range of the buffer, and then it is a write.
use Rattle.std.proofs.Common.{rules, ◌≡◌, ◌+◌, Some, None, Err, sym, ap, subst, ◌∙◌, arith, refl}
use Rattle.std.specs.Prelude.{IfOk, slice_range}
use Rattle.std.specs.Option.{option_map}
use Rattle.std.specs.Result.{result_ok, result_err}
use Rattle.own_model.specs.BufferService.{beside, range_refusal, part_of, put}
use Rattle.own_model.specs.BufferService.BufferRequest.{Put}
use Rattle.own_model.specs.BufferService.SessionRequest.{OfBuffer}
use Rattle.own_model.specs.FileService.{File, written, file_named}
use Rattle.own_model.specs.FileText.FileError.{Gap}
use Rattle.own_model.specs.FileText.FileReply.{Refused}
use Rattle.session_nodes.specs.Frame.{space_at, bytes_lent, holding_of}
use Rattle.session_proto.specs.FileReply.{model_error}
use Rattle.session_nodes.specs.SoundHeaps.{Stock}
use Rattle.session_nodes.specs.SessionHeaps.{stock_of}
use Rattle.session_nodes.specs.SessionBuffer.{HasBuffer, buffer_key}
use Rattle.session_nodes.specs.Node.{value_of}
use Rattle.file_service.specs.Session.{files_in, session_served, counted_reply, Answers, IsReady}
use Rattle.file_service.proofs.FileThereLemmas.{IsThere, file_in, is_there}
use Rattle.session_nodes.proofs.AfterLemmas.{furnished_after, keeps_after}
use Rattle.file_service.proofs.ServeLemmas.{found_after, files_after}
use Rattle.session_nodes.proofs.SourceLemmas.{buffer_exists}
use Rattle.file_service.proofs.BufferRequestLemmas as request
use Rattle.session_nodes.proofs.ResultLemmas.{keeps_same}
use Rattle.file_service.proofs.session.FileSession.put.Goals.{In_ok-found, In_ok-lent}
use Rattle.file_service.proofs.session.FileSession.put.Goals as goal

-- what is found, in the memory after the search
there : (c : In_ok-found) → IsThere c.args.self.now c.find.new.memory c.args.map.now c.args.range.now.file.now c.in_ok-found.found
there c = is_there c.args.self.now c.args.map.now c.args.range.now.file.now c.in_ok-found.found c.find.ensures.some (c.ok_or.ensures.ok_part ∙ ap result_ok c.in_ok-found.was) c.find.ensures.memory

ready : (c : In_ok-found) → IsReady c.args.self.now c.find.new.memory c.args.map.now
ready c = subst (λ m. IsReady c.args.self.now m c.args.map.now) (sym c.find.ensures.memory) c.requires.ready

abbrev file_of : (c : In_ok-found) → File
file_of c = file_in c.args.self.now c.find.new.memory c.args.map.now c.in_ok-found.found

pub returns-then-range-found-clause-answers : goal.returns-then-range-found-clause-answers
returns-then-range-found-clause-answers c =
    let at = (goal.at.returns-then-range-found-clause-answers c).In_ok-found in
    let s : Stock = stock_of c.args.self.now.nodes.heaps c.find.new.memory c.args.map.now in
    let b = bytes_lent c.find.new.memory (buffer_key c.args.self.now.buffer) in
    subst (λ m. Answers (session_served (Some (OfBuffer (Put c.args.range.now.file.now c.args.range.now.offset c.args.place c.args.range.now.len))) c.args.self.now m c.args.map.now) (Refused Gap) c.args.self.now c.args.self.now c.find.new.memory c.args.map.now) c.find.ensures.memory
    (request.told_all (ready at) (Refused Gap) _
    (ap (λ o. put c.args.range.now.offset c.args.place c.args.range.now.len b o (files_in c.args.self.now s) s.account) (there at).named
    ∙ request.put_gap c.args.range.now.offset c.args.place c.args.range.now.len b (files_in c.args.self.now s) s.account (file_of at) (omega (arith, (there at).long))))

pub range-requires : goal.range-requires
range-requires c = let now = ready (goal.at.range-requires c).In_ok-found in buffer_exists now.furnished c.args.self.now.buffer now.lent

pub returns-in_err-lent-clause-answers : goal.returns-in_err-lent-clause-answers
returns-in_err-lent-clause-answers c =
    let at = (goal.at.returns-in_err-lent-clause-answers c).In_ok-found in
    let s : Stock = stock_of c.args.self.now.nodes.heaps c.find.new.memory c.args.map.now in
    let b = bytes_lent c.find.new.memory (buffer_key c.args.self.now.buffer) in
    let e = model_error c.in_err-lent.field-0.0 in
    let tells : c.from_residual-in_err-lent.result ≡ Err c.in_err-lent.field-0.0 = search rules in
    let bad : range_refusal c.args.place c.args.range.now.len b ≡ Some e = sym c.range.ensures.refusal ∙ ap (λ r. option_map model_error (result_err r)) c.in_err-lent.was in
    subst (λ r. Answers (session_served (Some (OfBuffer (Put c.args.range.now.file.now c.args.range.now.offset c.args.place c.args.range.now.len))) c.args.self.now c.args.memory.now c.args.map.now) (counted_reply r) c.args.self.now c.args.self.now c.find.new.memory c.args.map.now) (sym tells)
    (subst (λ m. Answers (session_served (Some (OfBuffer (Put c.args.range.now.file.now c.args.range.now.offset c.args.place c.args.range.now.len))) c.args.self.now m c.args.map.now) (Refused e) c.args.self.now c.args.self.now c.find.new.memory c.args.map.now) c.find.ensures.memory
    (request.told_all (ready at) (Refused e) _
    (ap (λ o. put c.args.range.now.offset c.args.place c.args.range.now.len b o (files_in c.args.self.now s) s.account) (there at).named
    ∙ request.put_range c.args.range.now.offset c.args.place c.args.range.now.len b (files_in c.args.self.now s) s.account (file_of at) (omega (arith, (there at).long)) e bad)))

-- the range is in the buffer
record IsInRange (c : In_ok-lent) : Type 0 where
  lent : c.args.self.now.buffer ≡ Some c.in_ok-lent.lent
  good : range_refusal c.args.place c.args.range.now.len (bytes_lent c.find.new.memory (buffer_key c.args.self.now.buffer)) ≡ None

in_range : (c : In_ok-lent) → IsInRange c
in_range c = record {
  lent = subst (λ r. IfOk r (λ lent. c.args.self.now.buffer ≡ Some lent)) c.in_ok-lent.was c.range.ensures.lent;
  good = sym c.range.ensures.refusal ∙ ap (λ r. option_map model_error (result_err r)) c.in_ok-lent.was;
}

pub overwrite-requires-clause-source : goal.overwrite-requires-clause-source
overwrite-requires-clause-source c =
    let at = goal.at.overwrite-requires-clause-source c in
    let is = in_range at.In_ok-lent in
    record {
      stands = subst (λ b. HasBuffer b (holding_of c.args.self.now.nodes.heaps.contents c.find.new.memory c.args.map.now)) is.lent (ready at.In_ok-found).lent;
      within = request.range_within c.args.place c.args.range.now.len (space_at c.find.new.memory c.in_ok-lent.lent.space.0).bytes
          (ap (λ b. range_refusal c.args.place c.args.range.now.len (bytes_lent c.find.new.memory (buffer_key b))) (sym is.lent) ∙ is.good);
    }

pub returns-clause-answers : goal.returns-clause-answers
returns-clause-answers c =
    let places = goal.at.returns-clause-answers c in
    let at = places.In_ok-found in
    let is = in_range places.In_ok-lent in
    let s : Stock = stock_of c.args.self.now.nodes.heaps c.find.new.memory c.args.map.now in
    let b = bytes_lent c.find.new.memory (buffer_key c.args.self.now.buffer) in
    let node = value_of c.in_ok-found.found.node in
    let bytes = slice_range (space_at c.find.new.memory c.in_ok-lent.lent.space.0).bytes c.args.place (c.args.place + c.args.range.now.len) in
    let name = (there at).found.named in
    let served : put c.args.range.now.offset c.args.place c.args.range.now.len b (file_named c.args.range.now.file.now (files_in c.args.self.now s)) (files_in c.args.self.now s) s.account
    ≡ beside b (written c.args.range.now.offset bytes (file_named c.in_ok-found.found.node.name.items (files_in c.args.self.now s)) (files_in c.args.self.now s) s.account) =
    ap (λ o. put c.args.range.now.offset c.args.place c.args.range.now.len b o (files_in c.args.self.now s) s.account) (there at).named
    ∙ request.put_done c.args.range.now.offset c.args.place c.args.range.now.len b (files_in c.args.self.now s) s.account (file_of at) (omega (arith, (there at).long)) is.good
    ∙ ap (λ l. beside b (written c.args.range.now.offset (part_of (bytes_lent c.find.new.memory (buffer_key l)) c.args.place c.args.range.now.len) (Some (file_of at)) (files_in c.args.self.now s) s.account)) is.lent
    ∙ ap (λ o. beside b (written c.args.range.now.offset bytes o (files_in c.args.self.now s) s.account)) (sym (there at).named ∙ ap (λ n. file_named n (files_in c.args.self.now s)) (sym name)) in
    subst (λ m. Answers (session_served (Some (OfBuffer (Put c.args.range.now.file.now c.args.range.now.offset c.args.place c.args.range.now.len))) c.args.self.now m c.args.map.now) (counted_reply c.overwrite.result) c.args.self.now c.overwrite.new.self c.overwrite.new.memory c.overwrite.new.map) c.find.ensures.memory
    (subst (λ o. Answers o (counted_reply c.overwrite.result) c.args.self.now c.overwrite.new.self c.overwrite.new.memory c.overwrite.new.map) (sym served)
    (record { reply_is = c.overwrite.ensures.serves.reply_is; leaves = request.files_leave (ready at) _ c.overwrite.ensures.keeps c.overwrite.ensures.serves.leaves }))

pub returns-in_err-found-clause-stays : goal.returns-in_err-found-clause-stays
returns-in_err-found-clause-stays c = (keeps_same c.requires.ready.furnished refl refl c.find.ensures.memory refl).stays

pub returns-then-range-found-clause-stays : goal.returns-then-range-found-clause-stays
returns-then-range-found-clause-stays c = (keeps_same c.requires.ready.furnished refl refl c.find.ensures.memory refl).stays

pub returns-in_err-lent-clause-stays : goal.returns-in_err-lent-clause-stays
returns-in_err-lent-clause-stays c = (keeps_same c.requires.ready.furnished refl refl c.find.ensures.memory refl).stays

pub overwrite-requires-clause-furnished : goal.overwrite-requires-clause-furnished
overwrite-requires-clause-furnished c = furnished_after c.find.ensures.memory c.requires.ready.furnished

pub overwrite-requires-clause-files : goal.overwrite-requires-clause-files
overwrite-requires-clause-files c = files_after c.args.self.now c.args.map.now c.find.ensures.memory c.requires.ready.files

pub overwrite-requires-clause-found : goal.overwrite-requires-clause-found
overwrite-requires-clause-found c =
    found_after c.args.self.now c.args.map.now c.args.range.now.file.now c.in_ok-found.found refl (there (goal.at.overwrite-requires-clause-found c).In_ok-found).found

pub returns-clause-stays : goal.returns-clause-stays
returns-clause-stays c = (keeps_after c.find.ensures.memory c.overwrite.ensures.keeps).stays
