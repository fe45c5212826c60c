use Rattle.session_nodes.proofs.node_list.NodeList.append.Given as goal

abbrev pub ghosts-enter : goal.ghosts-enter
ghosts-enter a = record { name = a.blank.name; parts = a.blank.parts }
