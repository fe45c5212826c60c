-- No byte of a text that XML has ends it.
use Rattle.std.proofs.Common.{◌≡◌, ◌∙◌, ◌&&◌, ◌<◌, ℕ, suc, Bool, true, [], ◌∷◌, ap₂, arith, refl}
use Rattle.std.specs.List.{list_all}
use Rattle.std.proofs.lemmas.Bool.{agree_below_at}
use Rattle.std.proofs.lemmas.List.Folds.{list_all-append}
use Rattle.hex.specs.Hex.{encode_with}
use Rattle.view_test_report.specs.Xml.{AllStayInside, escaped, escaped_byte, is_inside}

byte_inside : (byte : ℕ) → byte < 256 → list_all is_inside (escaped_byte byte) ≡ true
unfolding encode_with
byte_inside byte within = agree_below_at (λ b. list_all is_inside (escaped_byte b)) (λ _. true) 256 byte refl within

pub all_stay_inside : AllStayInside
all_stay_inside [] all = refl
all_stay_inside (byte ∷ rest) all =
    list_all-append is_inside (escaped_byte byte) (escaped rest)
    ∙ ap₂ (λ (a b : Bool). a && b) (byte_inside byte (all 0 0 (omega arith)))
    (all_stay_inside rest (λ k d within. all (suc k) d (omega arith)))
