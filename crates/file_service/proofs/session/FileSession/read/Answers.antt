-- The offset is looked at first, then how many bytes are asked for.
use Rattle.std.proofs.Common.{◌≡◌, ◌∙◌, ◌+◌, length, take, drop, sym, ap, refl, subst, arith}
use Rattle.std.proofs.lemmas.List.{length-take-le}
use Rattle.std.specs.Prelude.{slice_range}
use Rattle.std.specs.Result.{result_ok}
use Rattle.session_nodes.specs.Calls.{payload_in, HasBytes}
use Rattle.session_nodes.specs.SoundHeaps.{Stock}
use Rattle.session_nodes.specs.SessionHeaps.{stock_of}
use Rattle.session_nodes.specs.Node.{value_of}
use Rattle.session_nodes.proofs.FrontLemmas.{front_part, front_read}
use Rattle.file_service.proofs.FileThereLemmas.{IsThere, file_in, is_there}
use Rattle.session_nodes.proofs.SearchLemmas.{found_has, found_bytes}
use Rattle.session_nodes.proofs.AfterLemmas.{furnished_after}
use Rattle.file_service.proofs.ServeLemmas.{read_gap, read_long, read_found}
use Rattle.file_service.proofs.session.FileSession.read.Goals.{In_ok-found}
use Rattle.file_service.proofs.session.FileSession.read.Goals as goal

-- the file that is found
there : (c : In_ok-found) → IsThere c.args.self.now c.args.memory.now c.args.map.now c.args.range.now.file.now c.in_ok-found.found
there c = is_there c.args.self.now c.args.map.now c.args.range.now.file.now c.in_ok-found.found c.find.ensures.some (c.ok_or.ensures.ok_part ∙ ap result_ok c.in_ok-found.was) refl

pub returns-then-range-size-clause-told : goal.returns-then-range-size-clause-told
returns-then-range-size-clause-told c =
    let is = there (goal.at.returns-then-range-size-clause-told c).In_ok-found in
    read_gap c.args.range.now.file.now c.args.self.now (stock_of c.args.self.now.nodes.heaps c.args.memory.now c.args.map.now) c.args.range.now.offset c.args.range.now.len (file_in c.args.self.now c.args.memory.now c.args.map.now c.in_ok-found.found)
    is.named (omega (arith, is.long))

pub returns-then-range-gt-MOST_READ-clause-told : goal.returns-then-range-gt-MOST_READ-clause-told
returns-then-range-gt-MOST_READ-clause-told c =
    let is = there (goal.at.returns-then-range-gt-MOST_READ-clause-told c).In_ok-found in
    read_long c.args.range.now.file.now c.args.self.now (stock_of c.args.self.now.nodes.heaps c.args.memory.now c.args.map.now) c.args.range.now.offset c.args.range.now.len (file_in c.args.self.now c.args.memory.now c.args.map.now c.in_ok-found.found)
    is.named (omega (arith, is.long)) (omega arith)

pub read_content-requires-clause-there : goal.read_content-requires-clause-there
read_content-requires-clause-there c =
    let is = there (goal.at.read_content-requires-clause-there c).In_ok-found in
    let node = value_of c.in_ok-found.found.node in
    let count : length (take c.min-count.result c.args.buffer.now) ≡ c.min-count.result = length-take-le c.min-count.result c.args.buffer.now (omega arith) in
    subst (λ m. HasBytes (stock_of c.args.self.now.nodes.heaps m c.args.map.now).contents node.content c.args.range.now.offset (length (take c.min-count.result c.args.buffer.now))) (sym c.find.ensures.memory)
    (found_has _ _ _ _ _ _ _ _ is.found c.args.range.now.offset (length (take c.min-count.result c.args.buffer.now)) (omega (arith, count)) (omega (arith, count)))

pub returns-then-count-gt0-clause-told : goal.returns-then-count-gt0-clause-told
returns-then-count-gt0-clause-told c =
    let was : Stock = stock_of c.args.self.now.nodes.heaps c.args.memory.now c.args.map.now in
    let is = there (goal.at.returns-then-count-gt0-clause-told c).In_ok-found in
    let node = value_of c.in_ok-found.found.node in
    let bytes = found_bytes _ _ _ _ _ _ _ _ is.found in
    let has = found_has _ _ _ _ _ _ _ _ is.found c.args.range.now.offset c.min-count.result (omega arith) (omega arith) in
    let whole = found_has _ _ _ _ _ _ _ _ is.found 0 node.size (omega arith) (omega arith) in
    let count : length (take c.min-count.result c.args.buffer.now) ≡ c.min-count.result = length-take-le c.min-count.result c.args.buffer.now (omega arith) in
    let payload = payload_in was.contents node.content in
    let piece : c.read_content.new.buffer ≡ slice_range payload c.args.range.now.offset (c.args.range.now.offset + length (take c.min-count.result c.args.buffer.now)) =
    c.read_content.ensures ∙ ap (λ m. slice_range (payload_in (stock_of c.args.self.now.nodes.heaps m c.args.map.now).contents node.content) c.args.range.now.offset (c.args.range.now.offset + length (take c.min-count.result c.args.buffer.now))) c.find.ensures.memory in
    read_found c.args.range.now.file.now c.args.self.now was c.args.range.now.offset c.args.range.now.len (file_in c.args.self.now c.args.memory.now c.args.map.now c.in_ok-found.found) _
    is.named (omega (arith, is.long)) (omega arith)
    (ap (λ b. take c.args.range.now.len (drop c.args.range.now.offset b)) bytes
    ∙ front_read node.size c.args.range.now.len c.args.range.now.offset c.min-count.result (length (take c.min-count.result c.args.buffer.now)) payload c.read_content.new.buffer _
    (omega (arith, whole.within)) (omega arith) c.min-count.ensures count piece)

pub returns-else-count-gt0-clause-told : goal.returns-else-count-gt0-clause-told
returns-else-count-gt0-clause-told c =
    let was : Stock = stock_of c.args.self.now.nodes.heaps c.args.memory.now c.args.map.now in
    let is = there (goal.at.returns-else-count-gt0-clause-told c).In_ok-found in
    let node = value_of c.in_ok-found.found.node in
    let bytes = found_bytes _ _ _ _ _ _ _ _ is.found in
    let payload = payload_in was.contents node.content in
    let none : c.min-count.result ≡ 0 = omega arith in
    read_found c.args.range.now.file.now c.args.self.now was c.args.range.now.offset c.args.range.now.len (file_in c.args.self.now c.args.memory.now c.args.map.now c.in_ok-found.found) _
    is.named (omega (arith, is.long)) (omega arith)
    (ap (λ b. take c.args.range.now.len (drop c.args.range.now.offset b)) bytes
    ∙ front_part node.size c.args.range.now.len c.args.range.now.offset c.min-count.result payload (omega arith) c.min-count.ensures
    ∙ ap (λ n. take n (drop c.args.range.now.offset payload)) none ∙ sym (ap (λ n. take n c.args.buffer.now) none))

pub read_content-requires-clause-furnished : goal.read_content-requires-clause-furnished
read_content-requires-clause-furnished c = furnished_after c.find.ensures.memory c.requires.furnished
