-- The object that is found keeps its units, or gets others.
use Rattle.std.proofs.Common.{◌≡◌, ◌≢◌, ◌∙◌, Err, sym, ap, subst, rules, arith}
use Rattle.std.specs.Result.{result_ok}
use Rattle.own_model.specs.ObjectService.{told}
use Rattle.own_model.specs.ObjectText.ObjectReply.{Done}
use Rattle.core_calls.specs.declared.file_error.FileError.TheVariants.{NotFound}
use Rattle.core_calls.specs.declared.object_error.ObjectError.TheVariants.{Shared}
use Rattle.session_nodes.specs.SessionHeaps.{stock_of}
use Rattle.session_nodes.specs.SoundHeaps.{Stock}
use Rattle.own_model.specs.ObjectText.ObjectRequest.{Resize}
use Rattle.object_service.specs.Objects.{object_at, units_at}
use Rattle.object_service.specs.Session.{objects_in, resized_in, served_in, done_reply, Serves}
use Rattle.object_service.proofs.FoundLemmas.{none_found}
use Rattle.object_service.proofs.ThereLemmas.{IsThere, is_there}
use Rattle.object_service.proofs.ServeLemmas.{none_before, resize_none, resize_same, resize_other, serves_same}
use Rattle.object_service.proofs.WordLemmas.{units_read}
use Rattle.object_service.proofs.session.ObjectSession.resize.Goals.{In_ok-found}
use Rattle.object_service.proofs.session.ObjectSession.resize.Goals as goal

-- the object that is found
there : (c : In_ok-found) → IsThere c.args.self.now c.args.memory.now c.find.new.memory c.args.map.now c.args.name.now c.in_ok-found.found
there c = is_there c.args.self.now c.args.map.now c.args.name.now c.in_ok-found.found c.requires.objects c.find.ensures.some c.find.ensures.memory (c.ok_or.ensures.ok_part ∙ ap result_ok c.in_ok-found.was)

pub returns-in_err-found-clause-serves : goal.returns-in_err-found-clause-serves
returns-in_err-found-clause-serves c kinds =
    let session = c.args.self.now in
    let was : Stock = stock_of session.nodes.heaps c.args.memory.now c.args.map.now in
    let none = none_found kinds was.nodes c.args.name.now c.find.result session.nodes.first c.find.ensures.none (none_before c.find.result c.ok_or.result _ c.ok_or.ensures.ok_part c.in_err-found.was) in
    let tells : c.from_residual.result ≡ Err (Shared NotFound) = search rules in
    serves_same kinds (served_in kinds (Resize c.args.name.now c.args.units) session was) _ session c.args.memory.now c.find.new.memory c.args.map.now c.requires.objects c.find.ensures.memory
    (resize_none kinds session was c.args.name.now c.args.units none ∙ ap (λ r. told (done_reply r) (objects_in kinds session was) was.account) (sym tells))

pub load_block_word-word-requires-clause-there : goal.load_block_word-word-requires-clause-there
load_block_word-word-requires-clause-there c = (there (goal.at.load_block_word-word-requires-clause-there c).In_ok-found).has 104 (omega arith)

pub load_block_word-requires-clause-there : goal.load_block_word-requires-clause-there
load_block_word-requires-clause-there c = (there (goal.at.load_block_word-requires-clause-there c).In_ok-found).has 112 (omega arith)

pub returns-then-load_block_word-units-clause-serves : goal.returns-then-load_block_word-units-clause-serves
returns-then-load_block_word-units-clause-serves c kinds =
    let t = there (goal.at.returns-then-load_block_word-units-clause-serves c).In_ok-found in
    let session = c.args.self.now in
    let was : Stock = stock_of session.nodes.heaps c.args.memory.now c.args.map.now in
    let read = units_read (stock_of session.nodes.heaps c.find.new.memory c.args.map.now).nodes c.in_ok-found.found.address c.load_block_word.result c.load_block_word.ensures in
    let same : c.args.units ≡ units_at was.nodes c.in_ok-found.found.address =
    sym c.if-load_block_word-units.true ∙ read ∙ ap (λ m. units_at (stock_of session.nodes.heaps m c.args.map.now).nodes c.in_ok-found.found.address) c.find.ensures.memory in
    serves_same kinds (served_in kinds (Resize c.args.name.now c.args.units) session was) Done session c.args.memory.now c.find.new.memory c.args.map.now c.requires.objects c.find.ensures.memory
    (resize_same kinds session was c.args.name.now c.args.units _ (t.named kinds) same)

pub returns-clause-serves : goal.returns-clause-serves
returns-clause-serves c kinds =
    let t = there (goal.at.returns-clause-serves c).In_ok-found in
    let session = c.args.self.now in
    let address = c.in_ok-found.found.address in
    let units = c.args.units in
    let was : Stock = stock_of session.nodes.heaps c.args.memory.now c.args.map.now in
    let now : Stock = stock_of c.change.new.self.nodes.heaps c.change.new.memory c.change.new.map in
    let read = units_read (stock_of session.nodes.heaps c.find.new.memory c.args.map.now).nodes address c.load_block_word.result c.load_block_word.ensures
    ∙ ap (λ m. units_at (stock_of session.nodes.heaps m c.args.map.now).nodes address) c.find.ensures.memory in
    let other : units ≢ units_at was.nodes address = λ e. c.if-load_block_word-units.false (read ∙ sym e) in
    let serves = subst (λ m. let s = stock_of session.nodes.heaps m c.args.map.now in Serves kinds (resized_in units (object_at kinds s.nodes address) (objects_in kinds session s) s.account) (done_reply c.change.result) session c.change.new.self now)
    c.find.ensures.memory (c.change.ensures.serves kinds) in
    subst (λ served. Serves kinds served (done_reply c.change.result) session c.change.new.self now)
    (sym (resize_other kinds session was c.args.name.now units (object_at kinds was.nodes address) (t.named kinds) other)) serves
