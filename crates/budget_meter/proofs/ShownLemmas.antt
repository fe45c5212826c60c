-- What two parts of a run show together.
use Rattle.std.proofs.Common.{arith, ◌≡◌, ℕ, ◌&&◌, Bool, true, false, List, [], ◌∷◌, ◌++◌, map, max, refl, sym, ap, ◌∙◌, append_assoc}
use Rattle.std.specs.Prelude.{if◌then◌else◌}
use Rattle.std.proofs.lemmas.List.{append-nil}
use Rattle.own_model.specs.Amounts.{Amounts}
use Rattle.own_model.specs.Call.{Call}
use Rattle.own_model.specs.OwnState.{OwnState}
use Rattle.own_model.specs.OwnStep.{own_step, own_run}
use Rattle.own_model.specs.StartList.{Entry}
use Rattle.budget_theorems.specs.Need.{Need, needs, need_of, cell_by, covers_ram, covers_caps, greatest_choice}
use Rattle.budget_theorems.specs.Test.{tests}
use Rattle.budget_meter.specs.Needs.{Shown, shown_by, together, shown_of}

max_on : (b : Bool) (n x y : ℕ) → (if b then max n (max x y) else max x y) ≡ max (if b then max n x else x) y
max_on true n x y = omega arith
max_on false n x y = refl

module _ (budget : Amounts) where
  ram-append : (xs ys : List Need) → (cell_by budget (xs ++ ys)).ram_from ≡ max (cell_by budget xs).ram_from (cell_by budget ys).ram_from
  ram-append [] ys = omega arith
  ram-append (x ∷ xs) ys =
      ap (λ n. if covers_ram budget x then max x.ram n else n) (ram-append xs ys)
      ∙ max_on (covers_ram budget x) x.ram (cell_by budget xs).ram_from (cell_by budget ys).ram_from

  caps-append : (xs ys : List Need) → (cell_by budget (xs ++ ys)).caps_from ≡ max (cell_by budget xs).caps_from (cell_by budget ys).caps_from
  caps-append [] ys = omega arith
  caps-append (x ∷ xs) ys =
      ap (λ n. if covers_ram budget x && covers_caps budget x then max x.caps n else n) (caps-append xs ys)
      ∙ max_on (covers_ram budget x && covers_caps budget x) x.caps (cell_by budget xs).caps_from (cell_by budget ys).caps_from

  choice-append : (xs ys : List Need) → greatest_choice budget (xs ++ ys) ≡ max (greatest_choice budget xs) (greatest_choice budget ys)
  choice-append [] ys = omega arith
  choice-append (x ∷ xs) ys =
      ap (λ n. if x.choice && covers_ram budget x then max x.ram n else n) (choice-append xs ys)
      ∙ max_on (x.choice && covers_ram budget x) x.ram (greatest_choice budget xs) (greatest_choice budget ys)

  pub shown-append : (xs ys : List Need) → shown_by budget (xs ++ ys) ≡ together (shown_by budget xs) (shown_by budget ys)
  shown-append xs ys = λ i. record { ram = ram-append xs ys i; caps = caps-append xs ys i; choice = choice-append xs ys i }

-- nothing more
max_zero : (n : ℕ) → max n 0 ≡ n
max_zero n = omega arith

pub together_nothing : (one : Shown) → together one (record { ram = 0; caps = 0; choice = 0 }) ≡ one
together_nothing one = λ i. record { ram = max_zero one.ram i; caps = max_zero one.caps i; choice = max_zero one.choice i }

-- ---- runs

-- after one call more
pub run-more : (entry : Entry) (calls : List Call) (call : Call) (s : OwnState) → own_run entry (calls ++ call ∷ []) s ≡ (own_step entry call (own_run entry calls s)).next
run-more entry [] call s = refl
run-more entry (first ∷ calls) call s = run-more entry calls call (own_step entry first s).next

needs-more : (entry : Entry) (budget : Amounts) (calls : List Call) (call : Call) (s : OwnState) →
    needs entry budget (calls ++ call ∷ []) s
    ≡ needs entry budget calls s ++ map (need_of budget (own_run entry calls s).account) (tests entry call (own_run entry calls s))
needs-more entry budget [] call s = append-nil (map (need_of budget s.account) (tests entry call s))
needs-more entry budget (first ∷ calls) call s =
    ap (λ rest. map (need_of budget s.account) (tests entry first s) ++ rest) (needs-more entry budget calls call (own_step entry first s).next)
    ∙ sym (append_assoc (map (need_of budget s.account) (tests entry first s)) (needs entry budget calls (own_step entry first s).next)
    (map (need_of budget (own_run entry calls (own_step entry first s).next).account) (tests entry call (own_run entry calls (own_step entry first s).next))))

-- what a run shows with a call more
pub shown-more : (entry : Entry) (budget : Amounts) (calls : List Call) (call : Call) (s : OwnState) →
    shown_by budget (needs entry budget (calls ++ call ∷ []) s)
    ≡ together (shown_by budget (needs entry budget calls s)) (shown_of budget (own_run entry calls s).account (tests entry call (own_run entry calls s)))
shown-more entry budget calls call s =
    ap (shown_by budget) (needs-more entry budget calls call s)
    ∙ shown-append budget (needs entry budget calls s) (map (need_of budget (own_run entry calls s).account) (tests entry call (own_run entry calls s)))
