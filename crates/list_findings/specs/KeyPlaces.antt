-- The places at which the keys of a JSON text begin.
use Rattle.std.specs.Prelude.{ℕ, ◌+◌, ◌==◌, ◌&&◌, Bool, true, false, List, [], ◌∷◌, ◌++◌, if◌then◌else◌}
use Rattle.list_findings.specs.declared.key_places.QuoteMode.{QuoteMode}
use Rattle.list_findings.specs.declared.key_places.QuoteMode.TheVariants.{Outside, Inside, Escaped}
use Rattle.list_findings.specs.declared.key_places.KeyPlace.{KeyPlace}
use Rattle.list_findings.specs.declared.key_places.KeyScan.{KeyScan}

-- the place after a byte
abbrev pub place_behind : KeyPlace → ℕ → KeyPlace
place_behind place b =
    if b == 10 then record { line = place.line + 1; column = 1 } else record { line = place.line; column = place.column + 1 }

-- the relation of a byte to texts in quotes: a quote begins or ends one, and within one a backslash escapes the byte after it
abbrev pub mode_behind : QuoteMode → ℕ → QuoteMode
mode_behind Outside b = if b == 34 then Inside else Outside
mode_behind Inside b = if b == 34 then Outside else if b == 92 then Escaped else Inside
mode_behind Escaped b = Inside

abbrev pub is_outside : QuoteMode → Bool
is_outside Outside = true
is_outside Inside = false
is_outside Escaped = false

-- a quote begins a text
abbrev pub begins : KeyScan → ℕ → Bool
begins scan b = is_outside scan.mode && b == 34

-- a colon outside of texts follows a key
abbrev pub ends_key : KeyScan → ℕ → Bool
ends_key scan b = is_outside scan.mode && b == 58

abbrev pub scan_behind : KeyScan → ℕ → KeyScan
scan_behind scan b = record {
  mode = mode_behind scan.mode b;
  here = place_behind scan.here b;
  begun = if begins scan b then scan.here else scan.begun;
}

-- the place at which the text before each colon begins
abbrev pub places_from : KeyScan → List ℕ → List KeyPlace
places_from scan [] = []
places_from scan (b ∷ bs) = (if ends_key scan b then scan.begun ∷ [] else []) ++ places_from (scan_behind scan b) bs

-- the place at which a text begins
abbrev pub first : KeyPlace
first = record { line = 1; column = 1 }

abbrev pub start : KeyScan
start = record { mode = Outside; here = first; begun = first }

abbrev pub key_places : List ℕ → List KeyPlace
key_places text = places_from start text
