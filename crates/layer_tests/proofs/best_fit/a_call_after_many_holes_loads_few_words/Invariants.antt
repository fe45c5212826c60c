use Rattle.layer_tests.proofs.best_fit.a_call_after_many_holes_loads_few_words.Given as goal

abbrev pub ghosts-most_loads : goal.ghosts-most_loads
ghosts-most_loads g a = record { name = a.blank.name; parts = a.blank.parts }
