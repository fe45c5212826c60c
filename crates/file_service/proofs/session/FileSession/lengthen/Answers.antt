-- The new content is taken, filled, and given to the file.
use Rattle.std.proofs.Common.{◌≡◌, ◌∙◌, ◌+◌, ◌≤◌, length, None, Err, refl, sym, ap, subst, arith, rules}
use Rattle.std.specs.Prelude.{IfOk, OnErr}
use Rattle.std.specs.Option.{option_map}
use Rattle.std.specs.Result.{result_err}
use Rattle.std.specs.FinMap.{get}
use Rattle.own_model.proofs.StepLemmas.{accepted_block}
use Rattle.own_model.specs.Account.{shortage}
use Rattle.own_model.specs.FileService.{error_of, told}
use Rattle.own_model.specs.FileText as model
use Rattle.own_model.specs.FileText.FileReply.{Refused}
use Rattle.own_model.specs.FileText.FileRequest.{Write}
use Rattle.own_model.specs.Sliced.{sliced_size}
use Rattle.session_proto.specs.FileReply.{model_error}
use Rattle.core_calls.specs.declared.file_error.FileError.TheVariants.{OutOfRam}
use Rattle.session_nodes.specs.Calls.{content_taken, content_written, HasBytes}
use Rattle.session_nodes.specs.Index.{previous_at}
use Rattle.session_nodes.specs.SoundHeaps.{Stock}
use Rattle.session_nodes.specs.SessionHeaps.{stock_of}
use Rattle.session_nodes.specs.Node.{value_of}
use Rattle.session_nodes.specs.declared.node_list.NodeList.{NodeList}
use Rattle.session_nodes.specs.declared.session_heaps.SessionHeaps.{SessionHeaps}
use Rattle.file_service.specs.declared.session.FileSession.{FileSession}
use Rattle.session_nodes.specs.NodeList.{IsFound}
use Rattle.file_service.specs.Session.{files_in, served_in, counted_reply}
use Rattle.session_nodes.specs.Source.{bytes_from, HasSource}
use Rattle.session_nodes.proofs.SourceLemmas.{source_kept, bytes_kept}
use Rattle.file_service.proofs.LengthenLemmas.{TakesLonger, no_sum, not_new, source, target, room, made_has, made_own, made_found, made_listed, made_served}
use Rattle.file_service.proofs.FileChangeLemmas.{account_replaced, files_replaced}
use Rattle.session_nodes.proofs.ResultLemmas.{err_and, err_case, sum_is, was_ok}
use Rattle.session_nodes.proofs.AfterLemmas.{keeps_both}
use Rattle.file_service.proofs.ServeLemmas.{serves_told, serves_refused}
use Rattle.file_service.proofs.WriteLemmas.{past_limit, refused_short, longer_refused}
use Rattle.file_service.proofs.session.FileSession.lengthen.Goals.{In_ok-content, After-copy_content}
use Rattle.file_service.proofs.session.FileSession.lengthen.Goals as goal

-- the new content
takes : (c : In_ok-content) → TakesLonger (stock_of c.args.self.now.nodes.heaps c.args.memory.now c.args.map.now)
    (stock_of c.take_content.new.self c.take_content.new.memory c.take_content.new.map) c.in_ok-size.size c.in_ok-content.content c.args.offset (bytes_from c.args.source c.args.memory.now)
takes c =
    let was : Stock = stock_of c.args.self.now.nodes.heaps c.args.memory.now c.args.map.now in
    let taken : Stock = stock_of c.take_content.new.self c.take_content.new.memory c.take_content.new.map in
    let size = c.in_ok-size.size in
    let count_is = c.count-count.ensures c.args.self.now.nodes.heaps.contents c.args.memory.now c.args.map.now c.requires.source in
    let size_is = sum_is c.size_within.result c.ok_or.result _ size (c.args.offset + c.count-count.result) c.size_within.ensures.size c.ok_or.ensures.ok_part c.in_ok-size.was ∙ ap (λ n. c.args.offset + n) count_is in
    let ok = was_ok c.take_content.result c.map_err.result c.in_ok-content.content _ c.map_err.ensures.cases c.map_err.ensures.variant c.in_ok-content.was in
    record {
      size_is = size_is;
      covered = ap (λ n. shortage was.account (sliced_size n) 1) (sym size_is) ∙ accepted_block size was.account (sym c.take_content.ensures.refusal ∙ ap result_err ok);
      free = subst (λ r. IfOk r (λ a. get was.contents a ≡ None)) ok c.take_content.ensures.free;
      is = subst (λ r. IfOk r (λ a. taken ≡ content_taken size a was)) ok c.take_content.ensures.taken;
    }

pub copy_content-requires-clause-source : goal.copy_content-requires-clause-source
copy_content-requires-clause-source c =
    source c.args.self.now _ _ _ _ _ _ c.requires.found _ _ _ _ c.requires.low (takes (goal.at.copy_content-requires-clause-source c).In_ok-content)

pub copy_content-requires-clause-target : goal.copy_content-requires-clause-target
copy_content-requires-clause-target c =
    target c.args.self.now _ _ _ _ _ _ c.requires.found _ _ _ _ c.requires.low (takes (goal.at.copy_content-requires-clause-target c).In_ok-content)

pub copy_content-requires-clause-apart : goal.copy_content-requires-clause-apart
copy_content-requires-clause-apart c =
    λ some. not_new c.args.self.now _ _ _ _ _ _ c.requires.found _ _ _ _ c.requires.low (takes (goal.at.copy_content-requires-clause-apart c).In_ok-content) (omega (arith, some, c.requires.low))

-- the source is as it was, when the front is copied
record IsAsItWas (c : After-copy_content) : Type 0 where
  has : HasSource c.args.source c.take_content.new.self.contents c.copy_content.new.memory c.take_content.new.map
  bytes : bytes_from c.args.source c.copy_content.new.memory ≡ bytes_from c.args.source c.args.memory.now

as_it_was : (c : After-copy_content) → IsAsItWas c
as_it_was c =
    let taken = c.take_content.ensures.keeps in
    let has = source_kept c.requires.furnished taken c.args.source c.requires.source in
    record {
      has = source_kept taken.stays.furnished c.copy_content.ensures.keeps c.args.source has;
      bytes = bytes_kept taken.stays.furnished c.copy_content.ensures.keeps c.args.source has ∙ bytes_kept c.requires.furnished taken c.args.source c.requires.source;
    }

pub put_content-requires-clause-source : goal.put_content-requires-clause-source
put_content-requires-clause-source c = (as_it_was (goal.at.put_content-requires-clause-source c).After-copy_content).has

pub put_content-requires-clause-there : goal.put_content-requires-clause-there
put_content-requires-clause-there c =
    let copied : Stock = stock_of c.take_content.new.self c.copy_content.new.memory c.take_content.new.map in
    subst (λ bytes. HasBytes copied.contents c.in_ok-content.content c.args.offset (length bytes)) (sym (as_it_was (goal.at.put_content-requires-clause-there c).After-copy_content).bytes)
    (room c.args.self.now _ _ _ _ _ _ c.requires.found _ _ _ _ c.requires.low (takes (goal.at.put_content-requires-clause-there c).In_ok-content) _ c.copy_content.ensures.copied)

pub replace-requires-clause-found : goal.replace-requires-clause-found
replace-requires-clause-found c =
    let at = goal.at.replace-requires-clause-found c in
    let t = takes at.In_ok-content in
    let nodes = ap (λ (s : Stock). s.nodes) c.put_content.ensures.written ∙ ap (λ (s : Stock). s.nodes) c.copy_content.ensures.copied ∙ ap (λ (s : Stock). s.nodes) t.is in
    let made : Stock = stock_of c.take_content.new.self c.put_content.new.memory c.take_content.new.map in
    subst (λ n. IsFound c.args.self.now.nodes.first c.args.self.now.nodes.last made.nodes made.contents c.args.found.node.name.items (previous_at n c.args.found.address) c.args.found.address (value_of c.args.found.node)) (sym nodes)
    (made_found c.args.self.now _ _ _ _ _ _ c.requires.found _ _ _ _ c.requires.low t _ c.copy_content.ensures.copied _ (c.put_content.ensures.written ∙ ap (λ bytes. content_written c.in_ok-content.content c.args.offset bytes (stock_of c.take_content.new.self c.copy_content.new.memory c.take_content.new.map)) (as_it_was at.After-copy_content).bytes))

pub replace-requires-clause-content : goal.replace-requires-clause-content
replace-requires-clause-content c =
    let at = goal.at.replace-requires-clause-content c in
    λ _. made_has c.args.self.now _ _ _ _ _ _ c.requires.found _ _ _ _ c.requires.low (takes at.In_ok-content) _ c.copy_content.ensures.copied _ (c.put_content.ensures.written ∙ ap (λ bytes. content_written c.in_ok-content.content c.args.offset bytes (stock_of c.take_content.new.self c.copy_content.new.memory c.take_content.new.map)) (as_it_was at.After-copy_content).bytes)

pub replace-requires-clause-own : goal.replace-requires-clause-own
replace-requires-clause-own c =
    let at = goal.at.replace-requires-clause-own c in
    λ _. made_own c.args.self.now _ _ _ _ _ _ c.requires.found _ _ _ _ c.requires.low (takes at.In_ok-content) _ c.copy_content.ensures.copied _ (c.put_content.ensures.written ∙ ap (λ bytes. content_written c.in_ok-content.content c.args.offset bytes (stock_of c.take_content.new.self c.copy_content.new.memory c.take_content.new.map)) (as_it_was at.After-copy_content).bytes)

pub replace-requires-clause-files : goal.replace-requires-clause-files
replace-requires-clause-files c =
    let at = goal.at.replace-requires-clause-files c in
    made_listed c.args.self.now _ _ _ _ _ _ c.requires.found _ _ _ _ c.requires.low (takes at.In_ok-content) _ c.copy_content.ensures.copied _ (c.put_content.ensures.written ∙ ap (λ bytes. content_written c.in_ok-content.content c.args.offset bytes (stock_of c.take_content.new.self c.copy_content.new.memory c.take_content.new.map)) (as_it_was at.After-copy_content).bytes) c.requires.files

pub returns-clause-serves : goal.returns-clause-serves
returns-clause-serves c =
    let at = goal.at.returns-clause-serves c in
    let count_is = c.count-count.ensures c.args.self.now.nodes.heaps.contents c.args.memory.now c.args.map.now c.requires.source in
    let list : NodeList = record c.args.self.now.nodes { heaps = c.take_content.new.self } in
    let made : Stock = stock_of c.take_content.new.self c.put_content.new.memory c.take_content.new.map in
    let now : Stock = stock_of c.replace.new.self.heaps c.replace.new.memory c.replace.new.map in
    let later : FileSession = record c.args.self.now { nodes = c.replace.new.self } in
    let found = made_found c.args.self.now _ _ _ _ _ _ c.requires.found _ _ _ _ c.requires.low (takes at.In_ok-content) _ c.copy_content.ensures.copied _ (c.put_content.ensures.written ∙ ap (λ bytes. content_written c.in_ok-content.content c.args.offset bytes (stock_of c.take_content.new.self c.copy_content.new.memory c.take_content.new.map)) (as_it_was at.After-copy_content).bytes) in
    rw count_is
    (made_served c.args.self.now _ _ _ _ _ _ c.requires.found _ _ _ _ c.requires.low (takes at.In_ok-content) _ c.copy_content.ensures.copied _ (c.put_content.ensures.written ∙ ap (λ bytes. content_written c.in_ok-content.content c.args.offset bytes (stock_of c.take_content.new.self c.copy_content.new.memory c.take_content.new.map)) (as_it_was at.After-copy_content).bytes)
    c.requires.longer later now
    (files_replaced list c.replace.new.self made now _ _ _ _ found c.in_ok-content.content c.in_ok-size.size c.replace.ensures.replaced) c.replace.ensures.replaced.kept
    (account_replaced list c.replace.new.self made now _ _ _ _ found c.in_ok-content.content c.in_ok-size.size c.replace.ensures.replaced) (record { label = refl; buffer = refl }))

pub returns-in_err-size-clause-serves : goal.returns-in_err-size-clause-serves
returns-in_err-size-clause-serves c =
    let was : Stock = stock_of c.args.self.now.nodes.heaps c.args.memory.now c.args.map.now in
    let size = c.args.offset + length (bytes_from c.args.source c.args.memory.now) in
    let count_is = c.count-count.ensures c.args.self.now.nodes.heaps.contents c.args.memory.now c.args.map.now c.requires.source in
    let above = no_sum c.size_within.result c.ok_or.result (c.args.offset + c.count-count.result ≤ was.account.ram_limit) _ (c.args.offset + c.count-count.result) c.size_within.ensures.size c.ok_or.ensures.ok_part c.in_err-size.was in
    let tells : c.from_residual.result ≡ Err OutOfRam = search rules in
    serves_told (served_in (Write c.args.found.node.name.items c.args.offset (bytes_from c.args.source c.args.memory.now)) c.args.self.now was) _ c.args.self.now was c.requires.files
    (longer_refused c.args.self.now was _ _ _ _ c.requires.found c.args.offset (bytes_from c.args.source c.args.memory.now) c.requires.low c.requires.longer model.FileError.OutOfRam
    (ap (option_map error_of) (past_limit was.account size (omega (arith, above, count_is))))
    ∙ ap (λ r. told (counted_reply r) (files_in c.args.self.now was) was.account) (sym tells))

pub returns-in_err-content-clause-serves : goal.returns-in_err-content-clause-serves
returns-in_err-content-clause-serves c =
    let was : Stock = stock_of c.args.self.now.nodes.heaps c.args.memory.now c.args.map.now in
    let count_is = c.count-count.ensures c.args.self.now.nodes.heaps.contents c.args.memory.now c.args.map.now c.requires.source in
    let size_is = sum_is c.size_within.result c.ok_or.result _ c.in_ok-size.size (c.args.offset + c.count-count.result) c.size_within.ensures.size c.ok_or.ensures.ok_part c.in_ok-size.was ∙ ap (λ n. c.args.offset + n) count_is in
    let refused = err_case c.take_content.result c.map_err.result c.in_err-content.field-0.0 _ c.map_err.ensures.cases c.map_err.ensures.variant c.in_err-content.was in
    let error : model_error c.in_err-content.field-0.0 ≡ error_of refused.0 = err_and c.map_err.result c.in_err-content.field-0.0 _ c.in_err-content.was refused.1.1 in
    let tells : c.from_residual-in_err-content.result ≡ Err c.in_err-content.field-0.0 = search rules in
    let short = refused_short c.in_ok-size.size was.account refused.0 (omega (arith, size_is, c.requires.longer)) c.size_within.ensures.word (sym c.take_content.ensures.refusal ∙ ap result_err refused.1.0) in
    let same : c.take_content.new.self ≡ c.args.self.now.nodes.heaps = subst (λ r. OnErr r (c.take_content.new.self ≡ c.args.self.now.nodes.heaps)) refused.1.0 c.take_content.ensures.err in
    serves_refused (served_in (Write c.args.found.node.name.items c.args.offset (bytes_from c.args.source c.args.memory.now)) c.args.self.now was) _ c.args.self.now
    (record c.args.self.now { nodes = record c.args.self.now.nodes { heaps = c.take_content.new.self } }) c.args.memory.now c.take_content.new.memory c.args.map.now c.take_content.new.map c.requires.files
    (ap (λ (h : SessionHeaps). record c.args.self.now { nodes = record c.args.self.now.nodes { heaps = h } }) same)
    (subst (λ r. OnErr r (c.take_content.new.memory ≡ c.args.memory.now)) refused.1.0 c.take_content.ensures.memory_err)
    (subst (λ r. OnErr r (c.take_content.new.map ≡ c.args.map.now)) refused.1.0 c.take_content.ensures.map_err)
    (longer_refused c.args.self.now was _ _ _ _ c.requires.found c.args.offset (bytes_from c.args.source c.args.memory.now) c.requires.low c.requires.longer (error_of refused.0)
    (ap (λ n. option_map error_of (shortage was.account (sliced_size n) 1)) (sym size_is) ∙ short)
    ∙ ap (λ e. told (Refused e) (files_in c.args.self.now was) was.account) (sym error)
    ∙ ap (λ r. told (counted_reply r) (files_in c.args.self.now was) was.account) (sym tells))

pub returns-clause-keeps : goal.returns-clause-keeps
returns-clause-keeps c =
    keeps_both _ _ _ _ _ _ _ _ _ _ _ c.take_content.ensures.keeps
    (keeps_both _ _ _ _ _ _ _ _ _ _ _ c.copy_content.ensures.keeps (keeps_both _ _ _ _ _ _ _ _ _ _ _ c.put_content.ensures.keeps c.replace.ensures.keeps))
