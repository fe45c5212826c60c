-- What is found holds the content's bytes, and a write there changes nothing else.
use Rattle.std.proofs.Common.{◌≡◌, ◌≤◌, length, refl, arith}
use Rattle.std.proofs.lemmas.Bool.Decides.{nat_tests}
use Rattle.session_nodes.specs.SessionHeaps.{stock_of}
use Rattle.session_nodes.proofs.FoundLemmas.{nothing_written}
use Rattle.session_nodes.proofs.FillLemmas.{put_written, put_keeps}
use Rattle.session_nodes.proofs.ResultLemmas.{keeps_same}
use Rattle.session_nodes.proofs.session_heaps.SessionHeaps.write_content.Goals as goal

pub returns-then-is_empty-clause-written : goal.returns-then-is_empty-clause-written
returns-then-is_empty-clause-written c =
    let test = c.is_empty.ensures in
    let none = c.if-is_empty.true in
    let few : length c.args.bytes.now ≡ 0 = grind (arith, nat_tests) in
    nothing_written (stock_of c.args.self.now c.args.memory.now c.args.map.now) c.args.address c.args.offset c.args.bytes.now few c.requires.there

pub returns-then-is_empty-clause-keeps : goal.returns-then-is_empty-clause-keeps
returns-then-is_empty-clause-keeps c = keeps_same c.requires.furnished refl refl refl refl

pub returns-clause-written : goal.returns-clause-written
returns-clause-written c =
    let test = c.is_empty.ensures in
    let none = c.if-is_empty.false in
    let some : 1 ≤ length c.args.bytes.now = grind (arith, nat_tests) in
    put_written c.requires.furnished c.args.address c.args.offset c.args.bytes.now _ _ c.requires.there some c.find_content-at.ensures c.write.ensures.part

pub returns-clause-keeps : goal.returns-clause-keeps
returns-clause-keeps c =
    let test = c.is_empty.ensures in
    let none = c.if-is_empty.false in
    let some : 1 ≤ length c.args.bytes.now = grind (arith, nat_tests) in
    put_keeps c.requires.furnished c.args.address c.args.offset c.args.bytes.now _ _ c.requires.there some c.find_content-at.ensures c.write.ensures.part
