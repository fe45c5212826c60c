-- What is found so far and what is to be found of the rest.
use Rattle.std.proofs.Common.{◌≡◌, ◌+◌, ◌≤◌, ◌++◌, drop}
use Rattle.list_findings.specs.KeyPlaces.{key_places, places_from}
use Rattle.list_findings.proofs.key_places.key_places.Given as goal

abbrev pub invariant-loop-byte : goal.invariant-loop-byte
invariant-loop-byte l =
    (l.places.items ++ places_from l.scan (drop l.byte-index l.text) ≡ key_places l.text)
    × ((l.scan.here.line ≤ l.byte-index + 1) × (l.scan.here.column ≤ l.byte-index + 1))
