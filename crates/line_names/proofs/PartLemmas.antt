-- A line of two parts.
use Rattle.std.proofs.Common.{◌≡◌, ℕ, ◌+◌, ◌==◌, List, [], take, drop, Result, Ok, sym, ap, ◌∙◌}
use Rattle.std.specs.List.{position_or_len}
use Rattle.std.specs.Option.{unwrap_or}
use Rattle.line_names.specs.Filling.{FilledLine, Made, BindingZone, filled_behind, filled_from, filled_line, filled_parts, made_length, no_zone, unmade}
use Rattle.line_names.specs.NameTable.{NameTable}
use Rattle.line_names.specs.Sums.{and_then, map_ok}
use Rattle.line_names.specs.declared.fault.NameFault.{NameFault}

-- a line once both parts are filled, one behind the other
pub parts_made : (known : NameTable) (count : ℕ) (body front expected : List ℕ) (first second : Made) (start limit : ℕ) (line told : List ℕ) →
    front ≡ take count body → expected ≡ drop count body → Ok first ≡ filled_from known no_zone 0 0 unmade front → start ≡ made_length first.line →
    limit ≡ count + position_or_len (λ b. b == 34) expected → Ok second ≡ filled_from known (record { limit = limit; start = start }) 0 count first expected →
    line ≡ unwrap_or second.line [] → told ≡ drop start line →
    Ok (record { line = line; expected = told; holes = second.holes }) ≡ filled_parts known count body
parts_made known count body front expected first second start limit line told fronts expecteds firsts starts limits seconds lines tolds =
    let made : filled_from known no_zone 0 0 unmade (take count body) ≡ Ok first = ap (filled_from known no_zone 0 0 unmade) (sym fronts) ∙ sym firsts in
    let by_limit : ℕ → BindingZone = λ n. record { limit = n; start = made_length first.line } in
    let by_start : ℕ → BindingZone = λ n. record { limit = limit; start = n } in
    let by_count : ℕ → Result FilledLine NameFault = λ n. Ok (filled_line n second) in
    let by_line : List ℕ → Result FilledLine NameFault = λ l. Ok (record { line = l; expected = drop start l; holes = second.holes }) in
    let by_told : List ℕ → Result FilledLine NameFault = λ l. Ok (record { line = line; expected = l; holes = second.holes }) in
    sym (ap (λ r. and_then r (λ (m : Made). map_ok (filled_line (made_length m.line)) (filled_behind known count (drop count body) m))) made
    ∙ ap (λ e. map_ok (filled_line (made_length first.line)) (filled_behind known count e first)) (sym expecteds)
    ∙ ap (λ (z : BindingZone). map_ok (filled_line (made_length first.line)) (filled_from known z 0 count first expected)) (ap by_limit (sym limits) ∙ ap by_start (sym starts))
    ∙ ap (map_ok (filled_line (made_length first.line))) (sym seconds)
    ∙ ap by_count (sym starts)
    ∙ ap by_line (sym lines)
    ∙ ap by_told (sym tolds))
