-- Lines behind `# `, byte by byte.
use Rattle.std.proofs.Common.{◌≡◌, ◌∙◌, ◌+◌, ◌<◌, ◌==◌, ℕ, Bool, true, false, List, [], ◌∷◌, ◌++◌, arith, append_assoc, codes, drop, get_or, length, sym}
use Rattle.std.specs.Prelude.{if◌then◌else◌}
use Rattle.std.proofs.lemmas.Grind.{common_steps}
use Rattle.std.proofs.lemmas.List.{at_drop_more}
use Rattle.view_test_report.specs.Tap.{noted_from}

-- what stands before a byte, where a line begins and where none does
pub begun : (begins : Bool) (text marked : List ℕ) → begins ≡ true → marked ≡ text ++ codes "# " → let mark : List ℕ = if begins then codes "# " else [] in marked ≡ text ++ mark
begun begins text marked first is = rw first is

pub unbegun : (begins : Bool) (text : List ℕ) → begins ≡ false → let mark : List ℕ = if begins then codes "# " else [] in text ≡ text ++ mark
unbegun begins text none = rw none (grind (arith, common_steps))

-- one byte more is noted
pub noted_more : (begins : Bool) (lines text marked now all : List ℕ) (i : ℕ) → i < length lines → (let mark : List ℕ = if begins then codes "# " else [] in marked ≡ text ++ mark) →
    now ≡ marked ++ get_or lines i 0 ∷ [] → text ++ noted_from begins (drop i lines) ≡ all → now ++ noted_from (get_or lines i 0 == 10) (drop (i + 1) lines) ≡ all
noted_more begins lines text marked now all i inside mark pushed before =
    rw (pushed, mark) (simp append_assoc (sym (at_drop_more (λ left. text ++ noted_from begins left) lines i 0 inside) ∙ before))
