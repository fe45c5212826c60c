-- The tree of a start list as records.
use Rattle.std.specs.Prelude.{List, [], ◌∷◌, codes, map, true, Some}
use Rattle.std.specs.List.{flat_map}
use Rattle.std.specs.Option.{option_map}
use Rattle.own_model.specs.Account.{Account}
use Rattle.own_model.specs.Amounts.{Amounts}
use Rattle.own_model.specs.Listed.{Listed}
use Rattle.list_parts.specs.Kinds.{binary_word, kinds_data, provided_cell}
use Rattle.list_reach.specs.Deciding.{DecisionAt}
use Rattle.list_reach.specs.declared.script_decisions.ScriptDecisions.{ScriptDecisions}
use Rattle.view_records.specs.Records.{Record, text, number, if_list, if_number, if_text, null_if_absent}
use Rattle.list_tree.specs.Nodes.{label_of, server_of}
use Rattle.list_tree.specs.DecisionTexts.{rules_text}
use Rattle.list_tree.specs.declared.tree.ListTree.{ListTree}
use Rattle.list_tree.specs.declared.tree.TreeNode.{TreeNode}

-- a component with its budget, its reserve or what it keeps, its service and its kinds
abbrev pub component_record : TreeNode → Record
component_record node =
    (codes "kind", text (codes "component")) ∷ (codes "name", text node.entry.now.path)
    ∷ (codes "binary", text (binary_word node.entry.now.binary))
    ∷ (codes "ram", number node.entry.now.ram) ∷ (codes "caps", number node.entry.now.caps)
    ∷ (codes "reserve_ram", if_number (option_map (λ (left : Amounts). left.ram) node.entry.now.reserve))
    ∷ (codes "reserve_caps", if_number (option_map (λ (left : Amounts). left.caps) node.entry.now.reserve))
    ∷ (codes "keeps_ram", if_number (option_map (λ (left : Account). left.ram_limit) node.keeps))
    ∷ (codes "keeps_caps", if_number (option_map (λ (left : Account). left.caps_limit) node.keeps))
    ∷ (codes "provides", provided_cell node.entry.now)
    ∷ (codes "kinds", if_list (kinds_data node.entry.now.binary)) ∷ []

-- the client, the service, the server, the rules, and the label
abbrev pub decision_record : Listed → ScriptDecisions → DecisionAt → Record
decision_record list one decision =
    (codes "kind", text (codes "wish")) ∷ (codes "name", text one.entry.now.path) ∷ (codes "service", text one.service.now)
    ∷ (codes "to", null_if_absent (if_text (option_map (λ entry. entry.path) (server_of list decision))))
    ∷ (codes "by", text (rules_text true list (Some one.entry.now) decision.rules))
    ∷ (codes "label", null_if_absent (if_text (label_of one decision))) ∷ []

-- a component, and the decisions on its requests, service by service
abbrev pub node_records : Listed → TreeNode → List Record
node_records list node =
    component_record node ∷ flat_map (λ (one : ScriptDecisions). map (decision_record list one) one.decisions) node.requests.items

-- the machine, what its init keeps, and each component with the decisions on its requests
abbrev pub tree_records : ListTree → List Record
tree_records tree =
    ((codes "kind", text (codes "machine")) ∷ (codes "pages", number tree.list.now.pages) ∷ (codes "caps", number tree.list.now.caps) ∷ [])
    ∷ ((codes "kind", text (codes "init")) ∷ (codes "keeps_ram", number tree.keeps.ram_limit) ∷ (codes "keeps_caps", number tree.keeps.caps_limit) ∷ [])
    ∷ flat_map (node_records tree.list.now) tree.nodes.items
