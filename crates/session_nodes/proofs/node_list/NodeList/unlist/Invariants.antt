use Rattle.session_nodes.proofs.node_list.NodeList.unlist.Given as goal

abbrev pub ghosts-leave : goal.ghosts-leave
ghosts-leave a = record { name = a.blank.name; parts = a.blank.parts }
