-- A node is found by its name: the tree leads to it, and no other has the name.
use Rattle.std.proofs.Common.{◌≡◌, ◌≢◌, ℕ, ◌<◌, ◌≤◌, true, false, true≢false, Bool, not, List, [], ◌∷◌, ◌++◌, length, sym, ap, subst, ◌∙◌, inl, inr, arith}
use Rattle.std.proofs.lemmas.Bool.{cases_eq, not-false}
use Rattle.std.proofs.lemmas.Bool.Decides.{nat_tests}
use Rattle.std.proofs.lemmas.List.{length-take}
use Rattle.std.specs.Prelude.{Option}
use Rattle.std.specs.Str.{bytes_eq}
use Rattle.std.proofs.lemmas.Slice.Eq.{bytes_eq-Decides}
use Rattle.own_model.specs.NatMap.{NatMap}
use Rattle.own_model.specs.OwnHeap.{OwnHeap}
use Rattle.sliced_heap.specs.Chain.{is_listed}
use Rattle.session_nodes.specs.Calls.{payload_in}
use Rattle.session_nodes.specs.Order.{node_at, nodes_from, StandAt}
use Rattle.session_nodes.specs.Index.{AreListed, IsNamed, LeadsBack, Seeks, previous_at}
use Rattle.session_nodes.specs.Node.{StoredNode, node_of, rank_of}
use Rattle.session_nodes.specs.declared.recent.RecentNode.{RecentNode}
use Rattle.session_nodes.specs.NodeList.{IsFound, NoneHas}
use Rattle.session_nodes.proofs.BackLemmas.{back_at}
use Rattle.session_nodes.proofs.KeptLemmas.{blocks_are, listed_nonzero}
use Rattle.session_nodes.proofs.LinkLemmas.{listed_append, once_apart, once_later, unlisted}
use Rattle.heap_core.specs.Words.{are_bytes}
use Rattle.session_nodes.proofs.NodeKeptLemmas.{named_of, back_of}
use Rattle.session_nodes.proofs.RankLemmas.{rank_name}

-- a name is no longer than names are
pub name_short : (bytes : List ℕ) → length (node_of bytes).name ≤ 32
unfolding node_of
name_short bytes = grind (arith, nat_tests, length-take)

-- what a test on bytes says of names
pub ne_name : (xs slice name : List ℕ) (test : Bool) → slice ≡ xs → test ≡ not (bytes_eq slice name) → test ≡ true → xs ≢ name
ne_name xs slice name test at is so same =
    let e = (bytes_eq-Decides slice name).1 (at ∙ same) in true≢false (sym so ∙ is ∙ ap not e)

pub eq_name : (xs slice name : List ℕ) (test : Bool) → slice ≡ xs → test ≡ not (bytes_eq slice name) → test ≡ false → xs ≡ name
eq_name xs slice name test at is so = sym at ∙ (bytes_eq-Decides slice name).0 (not-false (bytes_eq slice name) (sym is ∙ so))

-- a listed block stands between others
pub record IsBetween (xs : List ℕ) (a : ℕ) : Type 0 where
  pub before : List ℕ
  pub behind : List ℕ
  pub is : xs ≡ before ++ a ∷ behind

pub between : (xs : List ℕ) (a : ℕ) → is_listed xs a ≡ true → IsBetween xs a
between [] a t = absurd (true≢false (sym t))
between (x ∷ xs) a t = elim (cases_eq a x) [
  | inl here ↦ record { before = []; behind = xs; is = ap (λ y. y ∷ xs) (sym here) }
  | inr other ↦
      let rest = between xs a (grind (arith, nat_tests)) in
      record { before = x ∷ rest.before; behind = rest.behind; is = ap (λ ys. x ∷ ys) rest.is }
]

module _ (first last root : ℕ) {recent : Option RecentNode} (nodes : OwnHeap) (contents : NatMap (List ℕ)) (files : AreListed first last root recent nodes contents) (name : List ℕ) where
  named : IsNamed root nodes files.blocks
  named = named_of first last root nodes contents files.blocks files.stand files.indexed

  are : nodes_from first nodes ≡ files.blocks
  are = blocks_are first last nodes contents files.blocks files.stand

  -- no node has a name that is too long
  pub none_long : 32 < length name → NoneHas nodes name (nodes_from first nodes)
  none_long long b t is = omega (arith, long, ap length is, name_short (payload_in nodes.payloads b))

  module _ (address : ℕ) (seeks : Seeks root (rank_of name) nodes address) where
    -- the node that has the name is found
    has_name : (b : ℕ) → is_listed files.blocks b ≡ true → (node_at nodes b).name ≡ name → address ≡ b
    has_name b t is =
        let some = listed_nonzero first last nodes contents files.blocks files.stand b t in
        seeks.there files.blocks b named t (omega (arith, some)) (ap rank_of is)

    -- nothing is found
    pub none_found : address ≡ 0 → NoneHas nodes name (nodes_from first nodes)
    none_found zero_is b t is =
        let listed : is_listed files.blocks b ≡ true = ap (λ xs. is_listed xs b) (sym are) ∙ t in
        listed_nonzero first last nodes contents files.blocks files.stand b listed (sym (has_name b listed is) ∙ zero_is)

    -- what is found has another name
    pub none_other : (node_at nodes address).name ≢ name → NoneHas nodes name (nodes_from first nodes)
    none_other other b t is =
        let listed : is_listed files.blocks b ≡ true = ap (λ xs. is_listed xs b) (sym are) ∙ t in
        other (ap (λ x. (node_at nodes x).name) (has_name b listed is) ∙ is)

    pub found_listed : 0 < address → is_listed files.blocks address ≡ true
    found_listed some = seeks.listed files.blocks named some

    -- what is found has the name
    pub found_is : 0 < address → (node : StoredNode) → node ≡ node_at nodes address → node.name ≡ name → IsFound first last nodes contents name (previous_at nodes address) address node
    found_is some node node_is is =
        let at = between files.blocks address (found_listed some) in
        let stand = subst (StandAt first last nodes contents) at.is files.stand in
        let back = back_of first last root nodes contents files.blocks files.stand files.indexed in
        record {
          before = at.before;
          behind = at.behind;
          stand = stand;
          previous_is = back_at (previous_at nodes) 0 at.before at.behind address (subst (LeadsBack (previous_at nodes) 0) at.is back);
          others = λ b t same.
              let l = listed_append at.before (address ∷ at.behind) b in
              let w = listed_append at.before at.behind b in
              let listed : is_listed files.blocks b ≡ true = ap (λ xs. is_listed xs b) at.is ∙ grind (arith, nat_tests) in
              let fresh = once_apart at.before at.behind address (once_later 0 (at.before ++ address ∷ at.behind) stand.line.once) in
              unlisted (at.before ++ at.behind) address b fresh (grind (arith, nat_tests)) (sym (has_name b listed same));
          named = is;
          node_is = node_is;
        }

  -- no node has the rank of a name that no node has
  pub none_ranked : length name ≤ 32 → are_bytes name ≡ true → NoneHas nodes name (nodes_from first nodes) →
      (b : ℕ) → is_listed (nodes_from first nodes) b ≡ true → rank_of (node_at nodes b).name ≢ rank_of name
  none_ranked short are none b t same =
      let padded = files.indexed.named.padded b t in
      none b t (rank_name (node_at nodes b).name name (name_short _) short padded.name are same)
