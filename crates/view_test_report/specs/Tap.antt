-- The Test Anything Protocol.
use Rattle.std.specs.Prelude.{ℕ, ◌==◌, ◌||◌, Bool, true, false, List, [], ◌∷◌, ◌++◌, codes, decimal, flat_map, nat_lt, string_bytes, if◌then◌else◌}
use Rattle.hex.specs.Hex.{encode_lower}
use Rattle.view_test_report.specs.declared.test_result.TestResult.{TestResult}

-- the first lines of a report of so many trials
abbrev pub tap_plan : ℕ → List ℕ
tap_plan count = codes "TAP version 13\n1.." ++ decimal count ++ 10 ∷ []

-- a byte of a name: after a backslash if it has a meaning, and in hexadecimal digits if it isn't printed
abbrev pub named_byte : ℕ → List ℕ
named_byte byte =
    if byte == 35 || byte == 92 then 92 ∷ byte ∷ []
    else (if nat_lt byte 32 || byte == 127 then 92 ∷ 120 ∷ encode_lower (byte ∷ []) else byte ∷ [])

abbrev pub named : List ℕ → List ℕ
named name = flat_map named_byte name

-- lines after `# `, with a newline after the last one; whether the first begins here
abbrev pub noted_from : Bool → List ℕ → List ℕ
noted_from begins [] = if begins then [] else 10 ∷ []
noted_from begins (byte ∷ rest) = (if begins then codes "# " else []) ++ byte ∷ noted_from (byte == 10) rest

abbrev pub noted : List ℕ → List ℕ
noted lines = noted_from true lines

abbrev pub verdict : Bool → List ℕ
verdict true = codes "ok"
verdict false = codes "not ok"

-- the lines about the trial of a number
abbrev pub tap_point : ℕ → TestResult → List ℕ
tap_point number trial =
    verdict trial.passed ++ codes " " ++ decimal number ++ codes " - " ++ named (string_bytes trial.name) ++ 10 ∷ noted trial.told.items
