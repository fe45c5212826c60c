-- What is put there are the content's two words.
use Rattle.std.proofs.Common.{◌≡◌, ap, ◌∙◌}
use Rattle.session_nodes.specs.Calls.{node_stored}
use Rattle.session_nodes.specs.SoundHeaps.{Stock}
use Rattle.session_nodes.specs.SessionHeaps.{stock_of}
use Rattle.session_nodes.proofs.NewContentLemmas.{node_given, place_given, two_words}
use Rattle.session_nodes.proofs.session_heaps.SessionHeaps.store_content.Goals as goal

stored : (c : goal.After-put_bytes) → stock_of c.args.self.now c.put_bytes.new.memory c.args.map.now
    ≡ node_stored c.args.address 8 (two_words c.args.content c.args.size) (stock_of c.args.self.now c.args.memory.now c.args.map.now)
stored c =
    c.put_bytes.ensures.stored
    ∙ ap (λ b. node_stored c.args.address 8 b (stock_of c.args.self.now c.args.memory.now c.args.map.now)) (c.deref.ensures.0 ∙ c.content_bytes-bytes.ensures.bytes)

pub returns-clause-stored : goal.returns-clause-stored
returns-clause-stored c = stored c

pub returns-clause-back : goal.returns-clause-back
returns-clause-back c =
    node_given (stock_of c.args.self.now c.args.memory.now c.args.map.now).nodes (stock_of c.args.self.now c.put_bytes.new.memory c.args.map.now).nodes c.args.address c.args.content c.args.size
    c.content_bytes-bytes.ensures.content c.content_bytes-bytes.ensures.size c.requires.there (ap (λ (s : Stock). s.nodes.payloads) (stored c))

pub returns-clause-place : goal.returns-clause-place
returns-clause-place c =
    place_given (stock_of c.args.self.now c.args.memory.now c.args.map.now).nodes (stock_of c.args.self.now c.put_bytes.new.memory c.args.map.now).nodes c.args.address c.args.content c.args.size
    c.content_bytes-bytes.ensures.content c.content_bytes-bytes.ensures.size c.requires.there (ap (λ (s : Stock). s.nodes.payloads) (stored c))
