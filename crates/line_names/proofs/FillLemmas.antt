-- A line that is filled piece by piece.
use Rattle.std.proofs.Common.{◌≡◌, ℕ, ◌+◌, ◌-◌, ◌<◌, ◌≤◌, Bool, true, false, cond, nat_lt, zero, suc, List, [], ◌∷◌, length, drop, get_or, Result, Ok, Err, refl, sym, ap, ◌∙◌, arith}
use Rattle.std.proofs.lemmas.List.{drop-drop, drop_all, drop_more, length-drop}
use Rattle.line_names.specs.Filling.{Made, Piece, BindingZone, filled_from, is_dollar, piece_at, source_from, step_of, told_at}
use Rattle.line_names.specs.NameTable.{NameTable}
use Rattle.line_names.specs.Sums.{and_then}
use Rattle.line_names.specs.declared.fault.NameFault.{NameFault}
use Rattle.line_names.specs.declared.fault.NameReason.{NameReason}

behind_piece : (text : List ℕ) (at size : ℕ) → 1 ≤ size → drop (size - 1) (drop (at + 1) text) ≡ drop (at + size) text
behind_piece text at size some =
    let e : (at + 1) + (size - 1) ≡ at + size = omega (arith, some) in drop-drop (size - 1) (at + 1) text ∙ ap (λ k. drop k text) e

-- bytes of a piece before are passed
filled_skip : (known : NameTable) (zone : BindingZone) (skip place : ℕ) (made : Made) (text : List ℕ) → skip ≤ length text →
    filled_from known zone skip place made text ≡ filled_from known zone 0 (place + skip) made (drop skip text)
filled_skip known zone zero place made text within =
    let e : place ≡ place + 0 = omega arith in ap (λ p. filled_from known zone 0 p made text) e
filled_skip known zone (suc skip) place made [] within = absurd (omega (arith, within))
filled_skip known zone (suc skip) place made (b ∷ bs) within =
    let e : (place + 1) + skip ≡ place + suc skip = omega arith in
    filled_skip known zone skip (place + 1) made bs (omega (arith, within)) ∙ ap (λ p. filled_from known zone 0 p made (drop skip bs)) e

source_skip : (known : NameTable) (skip n : ℕ) (text : List ℕ) → skip ≤ length text → source_from known skip n text ≡ skip + source_from known 0 n (drop skip text)
source_skip known zero n text within = omega arith
source_skip known (suc skip) n [] within = absurd (omega (arith, within))
source_skip known (suc skip) n (b ∷ bs) within = omega (arith, source_skip known skip n bs (omega (arith, within)))

-- the piece at the front
filled_front : (known : NameTable) (zone : BindingZone) (place : ℕ) (made : Made) (b : ℕ) (bs : List ℕ) →
    filled_from known zone 0 place made (b ∷ bs)
    ≡ and_then (told_at place (step_of known zone place made (b ∷ bs))) (λ more. filled_from known zone ((piece_at known (b ∷ bs)).size - 1) (place + 1) more bs)
filled_front known zone place made b bs = refl

module _ (known : NameTable) (zone : BindingZone) (place : ℕ) (made : Made) (text : List ℕ) (at : ℕ) (within : at < length text) where
  filled_here : filled_from known zone 0 (place + at) made (drop at text)
      ≡ and_then (told_at (place + at) (step_of known zone (place + at) made (drop at text)))
      (λ more. filled_from known zone ((piece_at known (drop at text)).size - 1) (place + at + 1) more (drop (at + 1) text))
  filled_here =
      let cut : drop at text ≡ get_or text at 0 ∷ drop (at + 1) text = drop_more text at 0 within in
      ap (filled_from known zone 0 (place + at) made) cut
      ∙ ap (λ l. and_then (told_at (place + at) (step_of known zone (place + at) made l)) (λ more. filled_from known zone ((piece_at known l).size - 1) (place + at + 1) more (drop (at + 1) text))) (sym cut)

  pub filled_step : (next : Made) (size : ℕ) → Ok next ≡ step_of known zone (place + at) made (drop at text) → size ≡ (piece_at known (drop at text)).size →
      1 ≤ size → at + size ≤ length text →
      filled_from known zone 0 (place + at) made (drop at text) ≡ filled_from known zone 0 (place + (at + size)) next (drop (at + size) text)
  filled_step next size goes sizes some fits =
      let e : (place + at + 1) + (size - 1) ≡ place + (at + size) = omega (arith, some) in
      filled_here
      ∙ ap (λ r. and_then (told_at (place + at) r) (λ more. filled_from known zone ((piece_at known (drop at text)).size - 1) (place + at + 1) more (drop (at + 1) text))) (sym goes)
      ∙ ap (λ k. filled_from known zone (k - 1) (place + at + 1) next (drop (at + 1) text)) (sym sizes)
      ∙ filled_skip known zone (size - 1) (place + at + 1) next (drop (at + 1) text) (omega (arith, some, fits, length-drop (at + 1) text))
      ∙ ap (λ p. filled_from known zone 0 p next (drop (size - 1) (drop (at + 1) text))) e
      ∙ ap (filled_from known zone 0 (place + (at + size)) next) (behind_piece text at size some)

  pub filled_stop : (reason : NameReason) → Err reason ≡ step_of known zone (place + at) made (drop at text) →
      filled_from known zone 0 (place + at) made (drop at text) ≡ Err (record { reason = reason; column = place + at + 1 })
  filled_stop reason stops =
      filled_here
      ∙ ap (λ r. and_then (told_at (place + at) r) (λ more. filled_from known zone ((piece_at known (drop at text)).size - 1) (place + at + 1) more (drop (at + 1) text))) (sym stops)

pub filled_start : (known : NameTable) (zone : BindingZone) (place : ℕ) (made : Made) (text : List ℕ) →
    filled_from known zone 0 place made text ≡ filled_from known zone 0 (place + 0) made text
filled_start known zone place made text = let e : place ≡ place + 0 = omega arith in ap (λ p. filled_from known zone 0 p made text) e

pub filled_end : (known : NameTable) (zone : BindingZone) (place : ℕ) (made : Made) (text : List ℕ) (at : ℕ) → length text ≤ at →
    filled_from known zone 0 place made (drop at text) ≡ Ok made
filled_end known zone place made text at past = rw (drop_all at text past) refl

pub ruleset fills = (filled_step, filled_stop, filled_start, filled_end)

-- ---- columns

module _ (known : NameTable) (left : ℕ) (text : List ℕ) (at : ℕ) (within : at < length text) where
  source_at : source_from known 0 left (drop at text)
      ≡ (cond (nat_lt left (length (piece_at known (drop at text)).text)) (cond (is_dollar (get_or text at 0)) 0 left)
      (1 + source_from known ((piece_at known (drop at text)).size - 1) (left - length (piece_at known (drop at text)).text) (drop (at + 1) text)))
  source_at =
      let cut : drop at text ≡ get_or text at 0 ∷ drop (at + 1) text = drop_more text at 0 within in
      ap (source_from known 0 left) cut
      ∙ ap (λ l. cond (nat_lt left (length (piece_at known l).text)) (cond (is_dollar (get_or text at 0)) 0 left)
      (1 + source_from known ((piece_at known l).size - 1) (left - length (piece_at known l).text) (drop (at + 1) text))) (sym cut)

  pub source_here : nat_lt left (length (piece_at known (drop at text)).text) ≡ true →
      source_from known 0 left (drop at text) ≡ cond (is_dollar (get_or text at 0)) 0 left
  source_here short =
      source_at ∙ ap (λ (t : Bool). cond t (cond (is_dollar (get_or text at 0)) 0 left)
      (1 + source_from known ((piece_at known (drop at text)).size - 1) (left - length (piece_at known (drop at text)).text) (drop (at + 1) text))) short

  pub source_step : (count size : ℕ) → count ≡ length (piece_at known (drop at text)).text → size ≡ (piece_at known (drop at text)).size →
      nat_lt left (length (piece_at known (drop at text)).text) ≡ false → 1 ≤ size → at + size ≤ length text →
      at + source_from known 0 left (drop at text) ≡ (at + size) + source_from known 0 (left - count) (drop (at + size) text)
  source_step count size counts sizes long some fits =
      let here : source_from known 0 left (drop at text)
      ≡ 1 + source_from known (size - 1) (left - count) (drop (at + 1) text) =
      source_at ∙ ap (λ (t : Bool). cond t (cond (is_dollar (get_or text at 0)) 0 left)
      (1 + source_from known ((piece_at known (drop at text)).size - 1) (left - length (piece_at known (drop at text)).text) (drop (at + 1) text))) long
      ∙ ap (λ k. 1 + source_from known (k - 1) (left - length (piece_at known (drop at text)).text) (drop (at + 1) text)) (sym sizes)
      ∙ ap (λ k. 1 + source_from known (size - 1) (left - k) (drop (at + 1) text)) (sym counts) in
      let rest : source_from known (size - 1) (left - count) (drop (at + 1) text)
      ≡ (size - 1) + source_from known 0 (left - count) (drop (at + size) text) =
      source_skip known (size - 1) (left - count) (drop (at + 1) text) (omega (arith, some, fits, length-drop (at + 1) text))
      ∙ ap (λ l. (size - 1) + source_from known 0 (left - count) l) (behind_piece text at size some) in
      omega (arith, here, rest, some)

pub source_end : (known : NameTable) (left : ℕ) (text : List ℕ) (at : ℕ) → length text ≤ at → source_from known 0 left (drop at text) ≡ 0
source_end known left text at past = rw (drop_all at text past) refl

pub ruleset sources = (source_here, source_step, source_end)
