use Rattle.std.proofs.Common.{◌≡◌, drop}
use Rattle.std.specs.List.{find}
use Rattle.text_near_words.specs.Near.{is_away}
use Rattle.list_findings.specs.Near.{names_in}
use Rattle.list_findings.proofs.near.name_away.Given as goal

abbrev pub invariant-loop-entry : goal.invariant-loop-entry
invariant-loop-entry l =
    find (is_away l.count l.written) (names_in l.init (drop l.entry-index l.entries))
    ≡ find (is_away l.count l.written) (names_in l.init l.entries)
