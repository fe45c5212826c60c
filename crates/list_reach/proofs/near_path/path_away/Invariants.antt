-- What is meant is meant among the entries that are left.
use Rattle.std.proofs.Common.{◌≡◌, drop, find}
use Rattle.list_reach.specs.Paths.{paths_of}
use Rattle.text_near_words.specs.Near.{is_away}
use Rattle.list_reach.proofs.near_path.path_away.Given as goal

abbrev pub invariant-loop-entry : goal.invariant-loop-entry
invariant-loop-entry l =
    find (is_away l.edits l.written) (paths_of l.sought (drop l.entry-index l.entries)) ≡ find (is_away l.edits l.written) (paths_of l.sought l.entries)
