-- The node leaves the tree, and the one behind it is linked back to the one before it.
use Rattle.std.proofs.Common.{subst}
use Rattle.session_nodes.specs.SoundHeaps.{Stock}
use Rattle.session_nodes.specs.SessionHeaps.{stock_of}
use Rattle.session_nodes.specs.Index.{Leaves}
use Rattle.session_nodes.specs.NameLaws.{tails_then}
use Rattle.session_nodes.specs.Node.{value_of, rank_of}
use Rattle.session_nodes.proofs.TailLemmas.{tail_there}
use Rattle.session_nodes.proofs.UnlistLemmas.{listed_there, unlisted_by}
use Rattle.session_nodes.proofs.AfterLemmas.{keeps_both}
use Rattle.session_nodes.proofs.node_list.NodeList.unlist.Goals as goal

pub load_word-previous-requires-clause-there : goal.load_word-previous-requires-clause-there
load_word-previous-requires-clause-there c =
    let was : Stock = stock_of c.args.self.now.heaps c.args.memory.now c.args.map.now in
    (listed_there c.args.self.now was c.args.address (value_of c.args.node.now) c.requires.files c.requires.listed).has

pub leave-self-requires-clause-named : goal.leave-self-requires-clause-named
leave-self-requires-clause-named c = (_, c.requires.files.indexed.named)

pub link_back-requires-clause-there : goal.link_back-requires-clause-there
link_back-requires-clause-there c some =
    let was : Stock = stock_of c.args.self.now.heaps c.args.memory.now c.args.map.now in
    let mid : Stock = stock_of c.args.self.now.heaps c.leave-self.new.memory c.args.map.now in
    tail_there was.nodes mid.nodes _ (c.leave-self.ensures.tree.tails.fronts _) ((listed_there c.args.self.now was c.args.address (value_of c.args.node.now) c.requires.files c.requires.listed).next some)

pub returns-clause-tails : goal.returns-clause-tails
returns-clause-tails c = tails_then _ _ _ c.leave-self.ensures.tree.tails c.link_back.ensures.links.tails

pub returns-clause-unlists : goal.returns-clause-unlists
returns-clause-unlists c before behind stand =
    let was : Stock = stock_of c.args.self.now.heaps c.args.memory.now c.args.map.now in
    let mid : Stock = stock_of c.args.self.now.heaps c.leave-self.new.memory c.args.map.now in
    let now : Stock = stock_of c.args.self.now.heaps c.link_back.new.memory c.args.map.now in
    unlisted_by c.args.self.now was mid now c.args.address (value_of c.args.node.now) before behind stand c.requires.files c.requires.listed c.leave-self.result c.load_word-previous.result c.load_word-previous.ensures
    (subst (λ n. Leaves c.args.self.now.root (rank_of n) c.leave-self.result was.nodes mid.nodes) c.deref.ensures.0 c.leave-self.ensures.gone) c.leave-self.ensures.tree c.link_back.ensures.links

pub returns-clause-keeps : goal.returns-clause-keeps
returns-clause-keeps c = keeps_both _ _ _ _ _ _ _ _ _ _ _ c.leave-self.ensures.keeps c.link_back.ensures.keeps
