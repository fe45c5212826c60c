use Rattle.session_nodes.proofs.node_list.NodeList.find.Given as goal

abbrev pub ghosts-seek : goal.ghosts-seek
ghosts-seek a = record { name = a.blank.name; parts = a.blank.parts }
