-- Nodes, one after another.
use Rattle.std.proofs.Common.{◌≡◌, ◌∙◌, ℕ, List, [], ◌∷◌, ◌++◌, map, ap}
use Rattle.std.specs.Prelude.{All}
use Rattle.std.proofs.lemmas.List.{map-append}
use Rattle.std.proofs.lemmas.List.Elements.{All-push}
use Rattle.own_model.specs.Listed.{Listed, ListedEntry}
use Rattle.list_tree.specs.Nodes.{AddsNode, IsNode, numbered}
use Rattle.list_tree.specs.declared.tree.TreeNode.{TreeNode}

pub node_more : (list : Listed) (nodes : List TreeNode) (node : TreeNode) (entry : ℕ × ListedEntry) → All (IsNode list) nodes → IsNode list node
    → numbered node ≡ entry → AddsNode list nodes entry (nodes ++ node ∷ [])
node_more list nodes node entry are is at =
    record {
      entries = map-append numbered nodes (node ∷ []) ∙ ap (λ e. map numbered nodes ++ e ∷ []) at;
      each = All-push (IsNode list) nodes node are is;
    }
