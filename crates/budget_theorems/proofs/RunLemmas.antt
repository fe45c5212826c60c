-- Runs under two budgets.
use Rattle.std.proofs.Common.{arith, ◌≡◌, ◌<◌, ◌≤◌, ◌⊎◌, inl, inr, Bool, true, List, [], ◌∷◌, map, nat_lt, refl, sym, ap, ◌∙◌, ◌||◌}
use Rattle.std.proofs.lemmas.Bool.{or_left, or_right}
use Rattle.std.specs.List.{AllByRecursion}
use Rattle.own_model.specs.Amounts.{Amounts, no_amounts}
use Rattle.own_model.specs.Call.{Call}
use Rattle.own_model.specs.Call.Call.{Request}
use Rattle.own_model.specs.OwnState.{OwnState}
use Rattle.own_model.specs.OwnStep.{own_step, own_run}
use Rattle.own_model.specs.Reply.{Reply}
use Rattle.own_model.specs.Reply.Reply.{Quotas}
use Rattle.own_model.specs.StartList.{Entry}
use Rattle.budget_theorems.proofs.CellLemmas.{Leads, in_cell_of}
use Rattle.budget_theorems.proofs.DecideLemmas.{own_decides}
use Rattle.budget_theorems.proofs.EachLemmas.{of_mapped, to_mapped}
use Rattle.own_model.proofs.ListLemmas.{all_append, all_left, all_right}
use Rattle.budget_theorems.proofs.StepLemmas.{Moved, own_agrees}
use Rattle.budget_theorems.proofs.WantLemmas.{AlikeOrShort, FallShortAlike, within_by, below_by}
use Rattle.budget_theorems.specs.Theorems.{SameAnswersInACell, ShortfallInACell, ShortfallBelowACell}
use Rattle.budget_theorems.specs.Need.{Need, HasRam, IsBelow, budgeted, need_of, needs, ComesOutAlike, cell, greatest_choice}
use Rattle.budget_theorems.specs.Test.{tests}
use Rattle.budget_theorems.specs.Shortfall.{but_limits, answers, is_short, wants, run_is_short}

-- replies that are alike but for limits are in want alike
short_same : (reply : Reply) → is_short (but_limits reply) ≡ is_short reply
short_same (Quotas account) = refl
short_same reply = refl

wants_same : (call : Call) (one other : Reply) → but_limits other ≡ but_limits one → wants call other ≡ wants call one
wants_same (Request text) one other same = refl
wants_same call one other same = sym (short_same other) ∙ ap is_short same ∙ short_same one

module _ (one other : Amounts) (entry : Entry) where
  abbrev EachAlike : List Need → Type 0
  EachAlike each = AllByRecursion (ComesOutAlike one other) each

  -- what two runs have alike
  record RunAlike (calls : List Call) (s t : OwnState) : Type 0 where
    told : answers entry calls t ≡ answers entry calls s
    left : budgeted no_amounts (own_run entry calls t) ≡ budgeted no_amounts (own_run entry calls s)
    want : run_is_short entry calls t ≡ run_is_short entry calls s

  run_alike : (calls : List Call) (s t : OwnState) → Moved one other s t → EachAlike (needs entry one calls s) → RunAlike calls s t
  run_alike [] s t before each = record { told = refl; left = ap (budgeted no_amounts) before.same; want = refl }
  run_alike (call ∷ calls) s t before each =
      let first = map (need_of one s.account) (tests entry call s) in
      let rest = needs entry one calls (own_step entry call s).next in
      let agrees = own_agrees one other entry call s t before (of_mapped (ComesOutAlike one other) (need_of one s.account) (tests entry call s) (all_left (ComesOutAlike one other) first rest each)) in
      let later = run_alike calls (own_step entry call s).next (own_step entry call t).next agrees.next (all_right (ComesOutAlike one other) first rest each) in
      let reply = agrees.reply in
      let lines = agrees.lines in
      let told = later.told in
      let wanted = wants_same call (own_step entry call s).reply (own_step entry call t).reply agrees.reply in
      let want = later.want in
      record { told = cc; left = later.left; want = cc }

  -- tests that lead there come out alike, or the run is in want
  run_decides : (calls : List Call) (s t : OwnState) → Moved one other s t → AllByRecursion (Leads one other) (needs entry one calls s) →
      EachAlike (needs entry one calls s) ⊎ (run_is_short entry calls t ≡ true)
  run_decides [] s t before each = inl tt
  run_decides (call ∷ calls) s t before each =
      let first = map (need_of one s.account) (tests entry call s) in
      let rest = needs entry one calls (own_step entry call s).next in
      let wanted = wants call (own_step entry call t).reply in
      let later = run_is_short entry calls (own_step entry call t).next in
      elim (own_decides one other entry call s t before (of_mapped (Leads one other) (need_of one s.account) (tests entry call s) (all_left (Leads one other) first rest each))) [
        | inr short ↦ inr (or_left wanted later short)
        | inl alike ↦
            let agrees = own_agrees one other entry call s t before alike in
            elim (run_decides calls (own_step entry call s).next (own_step entry call t).next agrees.next (all_right (Leads one other) first rest each)) [
              | inr short ↦ inr (or_right wanted later short)
              | inl others ↦ inl (all_append (ComesOutAlike one other) first rest (to_mapped (ComesOutAlike one other) (need_of one s.account) (tests entry call s) alike) others)
            ]
      ]

  -- two budgets at first
  first_moved : (s : OwnState) → Moved one other (budgeted one s) (budgeted other s)
  first_moved s = record { same = refl; ram = λ _. omega arith; caps = λ _. omega arith }

pub same_in_cell : SameAnswersInACell
same_in_cell entry calls s one other is =
    let alike = run_alike one other entry calls (budgeted one s) (budgeted other s) (first_moved one other entry s) (in_cell_of one other (needs entry one calls (budgeted one s)) is) in
    (alike.told, alike.left)

-- ---- want

module _ (entry : Entry) (calls : List Call) (s : OwnState) (one other : Amounts) where
  abbrev each : List Need
  each = needs entry one calls (budgeted one s)

  abbrev there : Bool
  there = run_is_short entry calls (budgeted other s)

  abbrev here : Bool
  here = run_is_short entry calls (budgeted one s)

  alike : FallShortAlike one other each here there
  alike same = (run_alike one other entry calls (budgeted one s) (budgeted other s) (first_moved one other entry s) same).want

  decides : AlikeOrShort one other each there
  decides led = run_decides one other entry calls (budgeted one s) (budgeted other s) (first_moved one other entry s) led

  within : IsBelow other.caps (cell entry calls one s).caps_below → HasRam (cell entry calls one s) other.ram → there ≡ (here || nat_lt other.caps (cell entry calls one s).caps_from)
  within few has = within_by one other each here there alike decides few has

  below : IsBelow other.caps (cell entry calls one s).caps_below → other.ram < (cell entry calls one s).ram_from → greatest_choice one each ≤ other.ram → there ≡ true
  below few less chosen = below_by one other each here there alike decides few less chosen

pub want_within : ShortfallInACell
want_within entry calls s one other few has = within entry calls s one other few has

pub want_below : ShortfallBelowACell
want_below entry calls s one other few less chosen = below entry calls s one other few less chosen
