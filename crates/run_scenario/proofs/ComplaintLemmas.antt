-- Errors that are output piece by piece.
use Rattle.std.proofs.Common.{◌≡◌, ℕ, ◌+◌, ◌<◌, ◌≤◌, suc, List, Bor, [], ◌∷◌, ◌++◌, length, map, drop, get_or, Option, Result, Ok, Err, IsErrAnd, OnOk, subst, sym, ◌∙◌, ap, append-nil, add-one, drop-cons}
use Rattle.std.proofs.lemmas.Grind.{flat_map-append}
use Rattle.std.proofs.lemmas.List.{drop_all}
use Rattle.std.specs.Io.KnownBytes.{Appends}
use Rattle.std.specs.List.{flat_map}
use Rattle.run_devices.specs.RunOutput.{AppendsPart, OutputsPart, OutputsUnless, Tells}
use Rattle.run_devices.proofs.GatheredLemmas.{Tells-front, Tells-more, told_err, told_more}
use Rattle.view_diagnostics.specs.Diagnostics.{DiagnosticsAt, SubjectAt, back, diagnostic, front, shown}
use Rattle.view_diagnostics.specs.declared.diagnostics.DiagnosticForm.{DiagnosticForm}
use Rattle.view_diagnostics.specs.declared.diagnostics.Severity.{Severity}
use Rattle.view_diagnostics.specs.declared.place.FilePlace.{FilePlace}
use Rattle.run_scenario.specs.Complaints.{WritesUnless, message_character}

-- a text of which a write failed
part_of : (w w' : Option (List ℕ)) (text : List ℕ) → OutputsPart w [] w' text → AppendsPart w w' text
part_of w w' text part = record { part = part.1.out; left = part.0; parts = sym part.1.parts; grows = part.1.grows }

failed_written : {T E : Type 0} (Q : E → Type 0) (r : Result T E) (w w' : Option (List ℕ)) (text : List ℕ) → IsErrAnd r Q → OutputsPart w [] w' text → WritesUnless r w w' text
failed_written Q (Ok x) w w' text is part = absurd is
failed_written Q (Err e) w w' text is part = part_of w w' text part

-- a text after which nothing is left to write
ends_written : {T E : Type 0} (r : Result T E) (w w' : Option (List ℕ)) (g text : List ℕ) → OutputsUnless r w [] w' g text → OnOk r (g ≡ []) → WritesUnless r w w' text
ends_written (Ok x) w w' g text tells is =
    subst (Appends w w') (sym (append-nil tells.out) ∙ ap (λ back. tells.out ++ back) (sym is) ∙ tells.parts) tells.grows
ends_written (Err e) w w' g text part is = part_of w w' text part

-- ---- a diagnostic by its front, its pieces and its end

module _ {T E : Type 0} (r : Result T E) (subject : SubjectAt) (place : FilePlace) (severity : Severity) (pieces : List (List ℕ))
    (made : DiagnosticsAt) (w w1 : Option (List ℕ)) (is : made ≡ record { subject = subject; gathered = [] }) where
  -- its front can't be written
  pub front_unwritten : (Q : E → Type 0) → IsErrAnd r Q → OutputsPart w made.gathered w1 (front made.subject place severity) →
      WritesUnless r w w1 (diagnostic subject place severity pieces)
  front_unwritten Q failed part =
      let lost : OutputsPart w [] w1 (front subject place severity) =
      subst (λ (d : DiagnosticsAt). OutputsPart w d.gathered w1 (front d.subject place severity)) is part in
      failed_written Q r w w1 _ failed (_, Tells-front (back subject.form) (Tells-front (flat_map (shown subject.form) pieces) (lost.1)))

  module _ (begun : DiagnosticsAt) (w2 : Option (List ℕ)) (same : begun.subject ≡ made.subject)
      (output : Tells w made.gathered w1 begun.gathered (front made.subject place severity)) where
    front_written : Tells w [] w1 begun.gathered (front subject place severity)
    front_written = subst (λ (d : DiagnosticsAt). Tells w d.gathered w1 begun.gathered (front d.subject place severity)) is output

    begun_is : begun.subject ≡ subject
    begun_is = same ∙ ap (λ (d : DiagnosticsAt). d.subject) is

    -- a piece can't be written
    pub pieces_unwritten : (Q : E → Type 0) → IsErrAnd r Q → OutputsPart w1 begun.gathered w2 (flat_map (shown begun.subject.form) pieces) →
        WritesUnless r w w2 (diagnostic subject place severity pieces)
    pieces_unwritten Q failed part =
        let lost : OutputsPart w1 begun.gathered w2 (flat_map (shown subject.form) pieces) =
        subst (λ (s : SubjectAt). OutputsPart w1 begun.gathered w2 (flat_map (shown s.form) pieces)) begun_is part in
        failed_written Q r w w2 _ failed (_, Tells-front (back subject.form) (Tells-more front_written (lost.1)))

    -- all pieces are written, and then the end unless a write fails
    pub diagnostic_written : (filled : DiagnosticsAt) (ended : List ℕ) (w3 : Option (List ℕ)) → filled.subject ≡ begun.subject →
        Tells w1 begun.gathered w2 filled.gathered (flat_map (shown begun.subject.form) pieces) →
        OutputsUnless r w2 filled.gathered w3 ended (back filled.subject.form) → OnOk r (ended ≡ []) →
        WritesUnless r w w3 (diagnostic subject place severity pieces)
    diagnostic_written filled ended w3 still middle end empty =
        let all : Tells w1 begun.gathered w2 filled.gathered (flat_map (shown subject.form) pieces) =
        subst (λ (s : SubjectAt). Tells w1 begun.gathered w2 filled.gathered (flat_map (shown s.form) pieces)) begun_is middle in
        let last : OutputsUnless r w2 filled.gathered w3 ended (back subject.form) =
        subst (λ (s : SubjectAt). OutputsUnless r w2 filled.gathered w3 ended (back s.form)) (still ∙ begun_is) end in
        ends_written r w w3 ended _ (told_more w3 ended _ r (Tells-more front_written all) last) empty

-- ---- pieces

module _ (form : DiagnosticForm) where
  -- a piece, and those after it
  pub piece_next : (pieces : List (Bor (List ℕ))) (i : ℕ) (d : Bor (List ℕ)) → i < length pieces →
      flat_map (shown form) (map (λ (it : Bor (List ℕ)). it.now) (drop i pieces))
      ≡ shown form (get_or pieces i d).now ++ flat_map (shown form) (map (λ (it : Bor (List ℕ)). it.now) (drop (i + 1) pieces))
  piece_next pieces i d within =
      ap (λ rest. flat_map (shown form) (map (λ (it : Bor (List ℕ)). it.now) rest)) (drop-cons pieces i d within)
      ∙ ap (λ n. shown form (get_or pieces i d).now ++ flat_map (shown form) (map (λ (it : Bor (List ℕ)). it.now) (drop n pieces))) (sym (add-one i))

  -- a byte of those that are shown one by one, and those after it
  pub sign_next : (bytes : List ℕ) (i byte : ℕ) → i < length bytes → byte ≡ get_or bytes i 0 →
      flat_map (shown form) (map message_character (drop i bytes))
      ≡ shown form (message_character byte) ++ flat_map (shown form) (map message_character (drop (i + 1) bytes))
  sign_next bytes i byte within is =
      ap (λ rest. flat_map (shown form) (map message_character rest)) (drop-cons bytes i 0 within ∙ ap (λ it. it ∷ drop (suc i) bytes) (sym is))
      ∙ ap (λ n. shown form (message_character byte) ++ flat_map (shown form) (map message_character (drop n bytes))) (sym (add-one i))

  -- nothing is left after the last
  pub pieces_over : (pieces : List (Bor (List ℕ))) (i : ℕ) → length pieces ≤ i → flat_map (shown form) (map (λ (it : Bor (List ℕ)). it.now) (drop i pieces)) ≡ []
  pieces_over pieces i over = ap (λ rest. flat_map (shown form) (map (λ (it : Bor (List ℕ)). it.now) rest)) (drop_all i pieces over)

  pub signs_over : (bytes : List ℕ) (i : ℕ) → length bytes ≤ i → flat_map (shown form) (map message_character (drop i bytes)) ≡ []
  signs_over bytes i over = ap (λ rest. flat_map (shown form) (map message_character rest)) (drop_all i bytes over)

-- pieces, and then others
module _ (d : DiagnosticsAt) (xs ys : List (List ℕ)) {w w1 : Option (List ℕ)} where
  pub pieces_then : {T E : Type 0} (r : Result T E) (d1 : DiagnosticsAt) (w2 : Option (List ℕ)) (g2 : List ℕ) → d1.subject ≡ d.subject →
      Tells w d.gathered w1 d1.gathered (flat_map (shown d.subject.form) xs) →
      OutputsUnless r w1 d1.gathered w2 g2 (flat_map (shown d1.subject.form) ys) →
      OutputsUnless r w d.gathered w2 g2 (flat_map (shown d.subject.form) (xs ++ ys))
  pieces_then r d1 w2 g2 same first then =
      subst (λ text. OutputsUnless r w d.gathered w2 g2 text) (sym (flat_map-append (shown d.subject.form) xs ys))
      (told_more w2 g2 _ r first (subst (λ (s : SubjectAt). OutputsUnless r w1 d1.gathered w2 g2 (flat_map (shown s.form) ys)) same then))

  -- of which a write failed
  pub pieces_lost : {T E : Type 0} (Q : E → Type 0) (r : Result T E) (g : List ℕ) → IsErrAnd r Q →
      OutputsPart w d.gathered w1 (flat_map (shown d.subject.form) xs) → OutputsUnless r w d.gathered w1 g (flat_map (shown d.subject.form) (xs ++ ys))
  pieces_lost Q r g failed part =
      subst (λ text. OutputsUnless r w d.gathered w1 g text) (sym (flat_map-append (shown d.subject.form) xs ys))
      (told_err Q g r failed (_, Tells-front (flat_map (shown d.subject.form) ys) (part.1)))

-- a fault that is handed on
pub still_failed : {T E : Type 0} (Q : E → Type 0) (r : Result T E) (w w' : Option (List ℕ)) (text : List ℕ) → IsErrAnd r Q → AppendsPart w w' text → WritesUnless r w w' text
still_failed Q (Ok x) w w' text is part = absurd is
still_failed Q (Err e) w w' text is part = part
