-- The components of a start list with their budgets, and the decisions on their requests: what a tree and a graph print, in order.
use Rattle.std.specs.Prelude.{◌≡◌, ℕ, ◌+◌, ◌==◌, ◌&&◌, is_none, List, [], ◌∷◌, ◌++◌, length, map, if◌then◌else◌, Option, Some, None, All}
use Rattle.std.specs.List.{enumerate_from, slice_get}
use Rattle.std.specs.Option.{option_and_then}
use Rattle.own_model.specs.Account.{Account}
use Rattle.own_model.specs.Listed.{Listed, ListedEntry, start_list_of}
use Rattle.own_model.specs.StartList.{init_at, inits_kept}
use Rattle.list_parser.specs.Depth.{is_init}
use Rattle.list_reach.specs.Deciding.{DecisionAt}
use Rattle.list_reach.specs.ScriptDecisions.{AreEntryDecisions}
use Rattle.list_reach.specs.declared.script_decisions.ScriptDecisions.{ScriptDecisions}
use Rattle.list_tree.specs.declared.tree.TreeNode.{TreeNode}
use Rattle.list_tree.specs.declared.tree.ListTree.{ListTree}

-- the entry of a node, with its number
abbrev pub numbered : TreeNode → ℕ × ListedEntry
numbered node = (node.number, node.entry.now)

-- what an init keeps
abbrev pub keeps_of : List Account → ℕ × ListedEntry → Option Account
keeps_of inits entry = if is_none entry.1.reserve && is_init entry.1 then Some (init_at inits (entry.0 + 1)) else None

-- a node has what its entry keeps as an init, and the decisions on its own entry's requests, service by service
pub record IsNode (list : Listed) (node : TreeNode) : Type 0 where
  pub keeps : node.keeps ≡ keeps_of (inits_kept (start_list_of list)) (numbered node)
  pub requests : AreEntryDecisions list (numbered node) node.requests.items

-- the node of an entry is added
pub record AddsNode (list : Listed) (old : List TreeNode) (entry : ℕ × ListedEntry) (new : List TreeNode) : Type 0 where
  pub entries : map numbered new ≡ map numbered old ++ entry ∷ []
  pub each : All (IsNode list) new

-- there is a node for each entry, in order
pub record AreNodes (list : Listed) (nodes : List TreeNode) : Type 0 where
  pub entries : map numbered nodes ≡ enumerate_from 0 list.entries
  pub each : All (IsNode list) nodes

-- a tree is that of a list, with what the machine's init keeps
pub record IsTreeOf (list : Listed) (tree : ListTree) : Type 0 where
  pub list_is : tree.list.now ≡ list
  pub keeps : tree.keeps ≡ init_at (inits_kept (start_list_of list)) 0
  pub nodes : AreNodes list tree.nodes.items

-- ---- what is printed of a decision

-- the entry to which it routes, if it routes to one
abbrev pub server_of : Listed → DecisionAt → Option ListedEntry
server_of list decision = option_and_then (λ child. slice_get list.entries child) decision.child

-- its label, unless it is the only decision on these requests
abbrev pub label_of : ScriptDecisions → DecisionAt → Option (List ℕ)
label_of one decision = if length one.decisions == 1 then None else Some decision.label
