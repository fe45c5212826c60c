-- Sums, one after another.
use Rattle.std.proofs.Common.{◌≡◌, ℕ, ◌+◌, ◌-◌, ◌<◌, ◌≤◌, Bool, true, false, cond, zero, suc, List, [], ◌∷◌, length, take, drop, get_or, Option, Result, Ok, Err, refl, sym, ap, ◌∙◌, arith}
use Rattle.std.proofs.lemmas.List.{drop-drop, drop_more, length-drop}
use Rattle.line_names.specs.Sums.{and_then, begins_sum, count_length, count_of, sum_of, sums_from, total_from}
use Rattle.line_names.specs.declared.fault.NameReason.{NameReason}

-- bytes of a sum before are passed
total_skip : (skip total : ℕ) (text : List ℕ) → total_from skip total text ≡ total_from 0 total (drop skip text)
total_skip zero total text = refl
total_skip (suc skip) total [] = refl
total_skip (suc skip) total (b ∷ bs) = total_skip skip total bs

sums_skip : (skip : ℕ) (text : List ℕ) → skip ≤ length text → sums_from skip text ≡ skip + sums_from 0 (drop skip text)
sums_skip zero text within = omega arith
sums_skip (suc skip) [] within = absurd (omega (arith, within))
sums_skip (suc skip) (b ∷ bs) within = omega (arith, sums_skip skip bs (omega (arith, within)))

behind_both : (text : List ℕ) (at n : ℕ) → drop n (drop (at + 1) text) ≡ drop (at + (1 + n)) text
behind_both text at n = let e : (at + 1) + n ≡ at + (1 + n) = omega arith in drop-drop n (at + 1) text ∙ ap (λ k. drop k text) e

-- a sum at the front
total_front : (total b : ℕ) (bs : List ℕ) → begins_sum (b ∷ bs) ≡ true →
    total_from 0 total (b ∷ bs) ≡ and_then (sum_of total (count_of (take (count_length bs) bs))) (λ t. total_from (count_length bs) t bs)
total_front total b bs begins =
    ap (λ (t : Bool). cond t (and_then (sum_of total (count_of (take (count_length bs) bs))) (λ t. total_from (count_length bs) t bs)) (Ok total)) begins

sums_front : (b : ℕ) (bs : List ℕ) → begins_sum (b ∷ bs) ≡ true → sums_from 0 (b ∷ bs) ≡ 1 + sums_from (count_length bs) bs
sums_front b bs begins = ap (λ (t : Bool). cond t (1 + sums_from (count_length bs) bs) 0) begins

module _ (text behind : List ℕ) (total at n : ℕ) (count : Option ℕ) (within : at < length text) (begins : begins_sum (drop at text) ≡ true)
    (is : behind ≡ drop (at + 1) text) (ends : n ≡ count_length behind) (counts : count ≡ count_of (take n behind)) where
  total_here : total_from 0 total (drop at text) ≡ and_then (sum_of total count) (λ t. total_from n t behind)
  total_here =
      let cut : drop at text ≡ get_or text at 0 ∷ behind = drop_more text at 0 within ∙ ap (λ l. get_or text at 0 ∷ l) (sym is) in
      let starts : begins_sum (get_or text at 0 ∷ behind) ≡ true = ap begins_sum (sym cut) ∙ begins in
      let word : count_of (take (count_length behind) behind) ≡ count = ap (λ k. count_of (take k behind)) (sym ends) ∙ sym counts in
      ap (total_from 0 total) cut ∙ total_front total (get_or text at 0) behind starts
      ∙ ap (λ o. and_then (sum_of total o) (λ t. total_from (count_length behind) t behind)) word
      ∙ ap (λ k. and_then (sum_of total count) (λ t. total_from k t behind)) (sym ends)

  pub total_step : (next : ℕ) → Ok next ≡ sum_of total count → total_from 0 total (drop at text) ≡ total_from 0 next (drop (at + (1 + n)) text)
  total_step next goes =
      total_here ∙ ap (λ r. and_then r (λ t. total_from n t behind)) (sym goes) ∙ total_skip n next behind
      ∙ ap (λ l. total_from 0 next (drop n l)) is ∙ ap (total_from 0 next) (behind_both text at n)

  pub total_stop : (reason : NameReason) → Err reason ≡ sum_of total count → total_from 0 total (drop at text) ≡ Err reason
  total_stop reason stops = total_here ∙ ap (λ r. and_then r (λ t. total_from n t behind)) (sym stops)

  pub sums_step : n ≤ length behind → at + sums_from 0 (drop at text) ≡ (at + (1 + n)) + sums_from 0 (drop (at + (1 + n)) text)
  sums_step fits =
      let cut : drop at text ≡ get_or text at 0 ∷ behind = drop_more text at 0 within ∙ ap (λ l. get_or text at 0 ∷ l) (sym is) in
      let starts : begins_sum (get_or text at 0 ∷ behind) ≡ true = ap begins_sum (sym cut) ∙ begins in
      let here : sums_from 0 (drop at text) ≡ 1 + (n + sums_from 0 (drop n behind)) =
      ap (sums_from 0) cut ∙ sums_front (get_or text at 0) behind starts ∙ ap (λ k. 1 + sums_from k behind) (sym ends)
      ∙ ap (λ k. 1 + k) (sums_skip n behind fits) in
      let rest : drop n behind ≡ drop (at + (1 + n)) text = ap (drop n) is ∙ behind_both text at n in
      omega (arith, here, ap (sums_from 0) rest)

-- no sum at the front
pub total_done : (total : ℕ) (text : List ℕ) → begins_sum text ≡ false → total_from 0 total text ≡ Ok total
total_done total [] none = refl
total_done total (b ∷ bs) none =
    ap (λ (t : Bool). cond t (and_then (sum_of total (count_of (take (count_length bs) bs))) (λ t. total_from (count_length bs) t bs)) (Ok total)) none

pub sums_done : (text : List ℕ) → begins_sum text ≡ false → sums_from 0 text ≡ 0
sums_done [] none = refl
sums_done (b ∷ bs) none = ap (λ (t : Bool). cond t (1 + sums_from (count_length bs) bs) 0) none

pub ruleset sums = (total_step, total_stop, sums_step, total_done, sums_done)
