-- What inits keep, and what they give their own.
use Rattle.std.proofs.Common.{◌≡◌, ℕ, zero, suc, ◌+◌, ◌<◌, ◌==◌, cond, inl, inr, List, [], ◌∷◌, length, get_or, set, Some, subst, sym, ap, ◌∙◌, arith, length-set}
use Rattle.std.specs.List.{slice_get}
use Rattle.std.proofs.lemmas.Bool.{cases_eq, eq-eqb, ne_eqb}
use Rattle.std.proofs.lemmas.List.{get_or_append_left, get_or_push, get_or-set_other, get_or-set_same}
use Rattle.std.proofs.lemmas.List.Sums.{sum_by-cons}
use Rattle.std.proofs.lemmas.Option.{none-some, same_Some}
use Rattle.own_model.proofs.StartLemmas.{length-with_started}
use Rattle.own_model.specs.Account.{Account, parted_with}
use Rattle.own_model.specs.StartList.{AllCovered, IsCovered, StartEntry, budget, init_account, init_at, inits_at_first, inits_keep, no_account, with_started}
use Rattle.list_parser.specs.ListTheorems.{InitsGiveTheirOwn, caps_given, ram_given}

-- ---- one entry

-- what an account that is there becomes: its init parts with the budget, and others stay
module _ (inits : List Account) (start : StartEntry) (covered : IsCovered inits start) (number : ℕ) (there : number < length inits) where
  abbrev parted : Account
  parted = parted_with (init_at inits start.entry.home) (budget start).ram (budget start).caps

  init_now : init_at (with_started inits start) number ≡ get_or (set inits start.entry.home parted) number no_account
  init_now = get_or_append_left (set inits start.entry.home parted) (init_account start ∷ []) no_account number (omega (arith, there, length-set inits start.entry.home parted))

  one_ram : (init_at (with_started inits start) number).ram_limit + cond (start.entry.home == number) (budget start).ram 0 ≡ (init_at inits number).ram_limit
  one_ram = elim (cases_eq start.entry.home number) [
    | inl same ↦
        let its : init_at (with_started inits start) number ≡ parted
        = init_now ∙ ap (λ n. get_or (set inits start.entry.home parted) n no_account) (sym same) ∙ get_or-set_same inits start.entry.home parted no_account covered.there in
        let fits = covered.covers.ram_fits in
        let given = ap (λ b. cond b (budget start).ram 0) (eq-eqb start.entry.home number same) in
        omega (arith, fits, given, ap (λ (a : Account). a.ram_limit) its, ap (λ n. (init_at inits n).ram_limit) same)
    | inr other ↦
        let its : init_at (with_started inits start) number ≡ init_at inits number
        = init_now ∙ get_or-set_other inits start.entry.home number parted no_account (λ at. other (sym at)) in
        let given = ap (λ b. cond b (budget start).ram 0) (ne_eqb start.entry.home number other) in
        omega (arith, given, ap (λ (a : Account). a.ram_limit) its)
  ]

  one_caps : (init_at (with_started inits start) number).caps_limit + cond (start.entry.home == number) (budget start).caps 0 ≡ (init_at inits number).caps_limit
  one_caps = elim (cases_eq start.entry.home number) [
    | inl same ↦
        let its : init_at (with_started inits start) number ≡ parted
        = init_now ∙ ap (λ n. get_or (set inits start.entry.home parted) n no_account) (sym same) ∙ get_or-set_same inits start.entry.home parted no_account covered.there in
        let fits = covered.covers.caps_fit in
        let given = ap (λ b. cond b (budget start).caps 0) (eq-eqb start.entry.home number same) in
        omega (arith, fits, given, ap (λ (a : Account). a.caps_limit) its, ap (λ n. (init_at inits n).caps_limit) same)
    | inr other ↦
        let its : init_at (with_started inits start) number ≡ init_at inits number
        = init_now ∙ get_or-set_other inits start.entry.home number parted no_account (λ at. other (sym at)) in
        let given = ap (λ b. cond b (budget start).caps 0) (ne_eqb start.entry.home number other) in
        omega (arith, given, ap (λ (a : Account). a.caps_limit) its)
  ]

-- ---- all entries

-- what the first gives its part of, and the rest
ram_more : (number : ℕ) (start : StartEntry) (starts : List StartEntry) → ram_given number (start ∷ starts) ≡ cond (start.entry.home == number) (budget start).ram 0 + ram_given number starts
ram_more number start starts = sum_by-cons (λ (s : StartEntry). cond (s.entry.home == number) (budget s).ram 0) start starts

caps_more : (number : ℕ) (start : StartEntry) (starts : List StartEntry) → caps_given number (start ∷ starts) ≡ cond (start.entry.home == number) (budget start).caps 0 + caps_given number starts
caps_more number start starts = sum_by-cons (λ (s : StartEntry). cond (s.entry.home == number) (budget s).caps 0) start starts

-- what an init that is there keeps, and what it gives
record Keeps (inits : List Account) (starts : List StartEntry) (number : ℕ) (has : Account) : Type 0 where
  ram : (init_at (inits_keep inits starts) number).ram_limit + ram_given number starts ≡ has.ram_limit
  caps : (init_at (inits_keep inits starts) number).caps_limit + caps_given number starts ≡ has.caps_limit

keeps : (inits : List Account) (starts : List StartEntry) (number : ℕ) → number < length inits → AllCovered inits starts → Keeps inits starts number (init_at inits number)
keeps inits [] number there covered = record { ram = omega arith; caps = omega arith }
keeps inits (start ∷ starts) number there covered =
    let rest = keeps (with_started inits start) starts number (omega (arith, there, length-with_started inits start)) covered.1 in
    record {
      ram = omega (arith, rest.ram, one_ram inits start covered.0 number there, ram_more number start starts);
      caps = omega (arith, rest.caps, one_caps inits start covered.0 number there, caps_more number start starts);
    }

-- the last that is there is the entry's own
last_init : (inits : List Account) (start : StartEntry) → init_at (with_started inits start) (length inits) ≡ init_account start
last_init inits start =
    let parted = parted_with (init_at inits start.entry.home) (budget start).ram (budget start).caps in
    get_or_push (set inits start.entry.home parted) (init_account start) no_account (length inits) (length-set inits start.entry.home parted)

-- and one that starts later
keeps_later : (inits : List Account) (starts : List StartEntry) (place : ℕ) (start : StartEntry) → slice_get starts place ≡ Some start → AllCovered inits starts →
    Keeps inits starts (length inits + place) (init_account start)
keeps_later inits [] place start there covered = absurd (none-some start there)
keeps_later inits (first ∷ starts) zero start there covered =
    let same : first ≡ start = same_Some first start there in
    let rest = keeps (with_started inits first) starts (length inits) (omega (arith, length-with_started inits first)) covered.1 in
    let home = covered.0.there in
    let none_ram = ap (λ b. cond b (budget first).ram 0) (ne_eqb first.entry.home (length inits) (λ at. omega (arith, home, at))) in
    let none_caps = ap (λ b. cond b (budget first).caps 0) (ne_eqb first.entry.home (length inits) (λ at. omega (arith, home, at))) in
    let own = last_init inits first ∙ ap init_account same in
    subst (λ n. Keeps inits (first ∷ starts) n (init_account start)) (plus_none (length inits))
    (record {
      ram = omega (arith, rest.ram, none_ram, ram_more (length inits) first starts, ap (λ (a : Account). a.ram_limit) own);
      caps = omega (arith, rest.caps, none_caps, caps_more (length inits) first starts, ap (λ (a : Account). a.caps_limit) own);
    }) where
      plus_none : (n : ℕ) → n ≡ n + 0
      plus_none n = omega arith
keeps_later inits (first ∷ starts) (suc place) start there covered =
    let rest = keeps_later (with_started inits first) starts place start there covered.1 in
    let number : length (with_started inits first) + place ≡ length inits + suc place = omega (arith, length-with_started inits first) in
    let home = covered.0.there in
    let none_ram = ap (λ b. cond b (budget first).ram 0) (ne_eqb first.entry.home (length inits + suc place) (λ at. omega (arith, home, at))) in
    let none_caps = ap (λ b. cond b (budget first).caps 0) (ne_eqb first.entry.home (length inits + suc place) (λ at. omega (arith, home, at))) in
    let all = subst (λ n. Keeps (with_started inits first) starts n (init_account start)) number rest in
    record { ram = omega (arith, all.ram, none_ram, ram_more (length inits + suc place) first starts); caps = omega (arith, all.caps, none_caps, caps_more (length inits + suc place) first starts) }

pub inits_give_their_own : InitsGiveTheirOwn
inits_give_their_own starts boots =
    let machine = keeps (inits_at_first starts) starts.starts 0 (omega arith) boots in (
      record { ram = machine.ram; caps = machine.caps },
      λ place start there.
          let later = keeps_later (inits_at_first starts) starts.starts place start there boots in
          let number : 1 + place ≡ place + 1 = omega arith in
          let its = subst (λ n. Keeps (inits_at_first starts) starts.starts n (init_account start)) number later in
          record { ram = its.ram; caps = its.caps },
    )
