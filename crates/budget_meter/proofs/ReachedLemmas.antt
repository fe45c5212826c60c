-- What reaches a session, under two donations, each up to its first want.
use Rattle.std.proofs.lemmas.Bool.{or_left, or_right}
use Rattle.std.proofs.lemmas.Bool.Decides.{nat_tests}
use Rattle.std.proofs.Common.{arith, true≢false, ◌≡◌, ◌<◌, ◌≤◌, ◌⊎◌, inl, inr, Bool, true, false, cond, List, [], ◌∷◌, ◌++◌, suc, nat_lt, refl, sym, ap, ◌∙◌, ◌||◌}
use Rattle.std.specs.List.{AllByRecursion}
use Rattle.std.specs.Prelude.{ℕ, Option, Some, None, is_some}
use Rattle.std.proofs.Math.Bool.{or-false}
use Rattle.trade_base.specs.declared.refusal.Refusal.TheVariants.{InsufficientRamQuota, InsufficientCapQuota}
use Rattle.own_model.specs.Amounts.{Amounts}
use Rattle.own_model.specs.Session.{Session, session_ram, session_caps}
use Rattle.budget_theorems.proofs.CellLemmas.{Leads}
use Rattle.own_model.proofs.ListLemmas.{all_left, all_right, all_append}
use Rattle.budget_theorems.proofs.SessionRunLemmas.{Donated, EachAlike, session_alike, session_moved, session_decides, first_donated}
use Rattle.budget_theorems.proofs.StretchLemmas.{exact}
use Rattle.budget_theorems.proofs.WantLemmas.{within_by, below_by}
use Rattle.budget_theorems.specs.Need.{Need, HasRam, IsBelow, ComesOutAlike, cell_by, greatest_choice}
use Rattle.budget_theorems.specs.Request.{donating}
use Rattle.budget_theorems.specs.RequestTheorems.{Reaches, session_after, needs_of_one, session_needs, OneAlike, one_is_short, session_is_short}
use Rattle.budget_meter.specs.SessionRuns.{Sent, reaches, buffer_after, reaching_to_want, run_needs, run_in_want, opens_none, opening_need, opened_needs, opened_in_want, SessionRunsAreExact}
use Rattle.budget_meter.specs.SessionRuns.Sent.{Asks, Raises}

module _ (one other : Amounts) where
  -- one request or donation, and what it leaves
  record Once (buffer : Option (List ℕ)) (sent : Sent) (s t : Session) : Type 0 where
    buffers : buffer_after buffer sent t ≡ buffer_after buffer sent s
    next : Donated one other (session_after (reaches buffer sent) s) (session_after (reaches buffer sent) t)
    want : one_is_short (reaches buffer sent) t ≡ one_is_short (reaches buffer sent) s

  same_buffer : (buffer : Option (List ℕ)) (sent : Sent) (s t : Session) → OneAlike (reaches buffer sent) s t → buffer_after buffer sent t ≡ buffer_after buffer sent s
  same_buffer buffer (Asks request) s t told = told.buffer
  same_buffer buffer (Raises more) s t told = refl

  once : (buffer : Option (List ℕ)) (sent : Sent) (s t : Session) → Donated one other s t → EachAlike one other (needs_of_one one (reaches buffer sent) s) → Once buffer sent s t
  once buffer sent s t before each =
      let x = reaches buffer sent in
      let alone = all_append (ComesOutAlike one other) (needs_of_one one x s) [] each tt in
      let alike = session_alike one other (x ∷ []) s t before alone in
      record {
        buffers = same_buffer buffer sent s t alike.told.0;
        next = session_moved one other (x ∷ []) s t before alone;
        want = sym (or-false (one_is_short x t)) ∙ alike.want ∙ or-false (one_is_short x s);
      }

  -- tests that come out alike bring the same
  reaching_same : (sents : List Sent) (buffer : Option (List ℕ)) (s t : Session) → Donated one other s t →
      EachAlike one other (session_needs one (reaching_to_want sents buffer s) s) → reaching_to_want sents buffer t ≡ reaching_to_want sents buffer s
  reaching_same [] buffer s t before each = refl
  reaching_same (sent ∷ rest) buffer s t before each =
      let x = reaches buffer sent in
      let first = needs_of_one one x s in
      let more : Bool → List Reaches = λ w. cond w [] (reaching_to_want rest (buffer_after buffer sent s) (session_after x s)) in
      let here = once buffer sent s t before (all_left (ComesOutAlike one other) first (session_needs one (more (one_is_short x s)) (session_after x s)) each) in
      ap (λ w. x ∷ cond w [] (reaching_to_want rest (buffer_after buffer sent t) (session_after x t))) here.want
      ∙ elim (one_is_short x s) as
      (λ w. EachAlike one other (first ++ session_needs one (more w) (session_after x s)) →
      x ∷ cond w [] (reaching_to_want rest (buffer_after buffer sent t) (session_after x t)) ≡ x ∷ more w) [
        | true ↦ λ _. refl
        | false ↦ λ all.
            ap (λ b. x ∷ reaching_to_want rest b (session_after x t)) here.buffers
            ∙ ap (λ ys. x ∷ ys) (reaching_same rest (buffer_after buffer sent s) (session_after x s) (session_after x t) here.next
            (all_right (ComesOutAlike one other) first (session_needs one (more false) (session_after x s)) all))
      ] each

  -- tests that lead come out alike, or the other is in want
  reaching_decides : (sents : List Sent) (buffer : Option (List ℕ)) (s t : Session) → Donated one other s t →
      AllByRecursion (Leads one other) (session_needs one (reaching_to_want sents buffer s) s) →
      EachAlike one other (session_needs one (reaching_to_want sents buffer s) s) ⊎ (session_is_short (reaching_to_want sents buffer t) t ≡ true)
  reaching_decides [] buffer s t before each = inl tt
  reaching_decides (sent ∷ rest) buffer s t before each =
      let x = reaches buffer sent in
      let first = needs_of_one one x s in
      let more : Bool → List Reaches = λ w. cond w [] (reaching_to_want rest (buffer_after buffer sent s) (session_after x s)) in
      let there : Bool → List Reaches = λ w. cond w [] (reaching_to_want rest (buffer_after buffer sent t) (session_after x t)) in
      let later : Bool → Bool = λ w. session_is_short (there w) (session_after x t) in
      let led = all_left (Leads one other) first (session_needs one (more (one_is_short x s)) (session_after x s)) each in
      elim (session_decides one other (x ∷ []) s t before (all_append (Leads one other) first [] led tt)) [
        | inr short ↦ inr (or_left (one_is_short x t) (later (one_is_short x t)) (sym (or-false (one_is_short x t)) ∙ short))
        | inl alone ↦
            let alike = all_left (ComesOutAlike one other) first [] alone in
            let here = once buffer sent s t before alike in
            elim (one_is_short x s) as
            (λ w. one_is_short x t ≡ w → AllByRecursion (Leads one other) (first ++ session_needs one (more w) (session_after x s)) →
            EachAlike one other (first ++ session_needs one (more w) (session_after x s)) ⊎ ((one_is_short x t || later (one_is_short x t)) ≡ true)) [
              | true ↦ λ is all. inl alone
              | false ↦ λ is all.
                  elim (reaching_decides rest (buffer_after buffer sent s) (session_after x s) (session_after x t) here.next
                  (all_right (Leads one other) first (session_needs one (more false) (session_after x s)) all)) [
                    | inr short ↦ inr (or_right (one_is_short x t) (later (one_is_short x t))
                        (ap later is ∙ ap (λ b. session_is_short (reaching_to_want rest b (session_after x t)) (session_after x t)) here.buffers ∙ short))
                    | inl same ↦ inl (all_append (ComesOutAlike one other) first (session_needs one (more false) (session_after x s)) alike same)
                  ]
            ] here.want each
      ]

-- ---- the opening

small_by : (a b : Bool) → is_some (cond a (Some InsufficientRamQuota) (cond b (Some InsufficientCapQuota) None)) ≡ (a || b)
small_by true b = refl
small_by false true = refl
small_by false false = refl

small_is : (donation : Amounts) → opens_none donation ≡ (nat_lt donation.ram session_ram || nat_lt donation.caps session_caps)
small_is donation = small_by (nat_lt donation.ram session_ram) (nat_lt donation.caps session_caps)

module _ (one other : Amounts) where
  small_alike : ComesOutAlike one other (opening_need one) → opens_none other ≡ opens_none one
  small_alike same =
      let ram = same.ram in
      let caps = same.caps in
      small_is other ∙ grind (arith, nat_tests, ram, caps) ∙ sym (small_is one)

  -- a donation that opens the session passes what leads to it
  opens_both : Leads one other (opening_need one) → opens_none other ≡ false → ComesOutAlike one other (opening_need one) × (opens_none one ≡ false)
  opens_both led is =
      let fails = led.fails in
      let caps = led.caps in
      let opens : (nat_lt other.ram session_ram || nat_lt other.caps session_caps) ≡ false = sym (small_is other) ∙ is in (
        record { ram = grind (arith, nat_tests, fails, opens); caps = λ passes. grind (arith, nat_tests, caps, passes, opens) },
        small_is one ∙ grind (arith, nat_tests, fails, caps, opens),
      )

module _ (sents : List Sent) (session : Session) (one other : Amounts) where
  abbrev each : List Need
  each = run_needs sents session one

  abbrev here : Bool
  here = run_in_want sents session one

  abbrev there : Bool
  there = run_in_want sents session other

  alike : AllByRecursion (ComesOutAlike one other) each → there ≡ here
  alike same =
      let before = first_donated one other session in
      ap (λ all. session_is_short all (donating other session)) (reaching_same one other sents None (donating one session) (donating other session) before same)
      ∙ (session_alike one other (reaching_to_want sents None (donating one session)) (donating one session) (donating other session) before same).want

  decides : AllByRecursion (Leads one other) each → AllByRecursion (ComesOutAlike one other) each ⊎ (there ≡ true)
  decides led = reaching_decides one other sents None (donating one session) (donating other session) (first_donated one other session) led

  -- ---- with the opening

  abbrev none_here : Bool
  none_here = opens_none one

  abbrev none_there : Bool
  none_there = opens_none other

  abbrev behind : Bool → List Need
  behind none = cond none [] each

  opened_alike : AllByRecursion (ComesOutAlike one other) (opened_needs sents session one) → opened_in_want sents session other ≡ opened_in_want sents session one
  opened_alike same =
      ap (λ b. b || there) (small_alike one other same.0)
      ∙ elim none_here as (λ b. AllByRecursion (ComesOutAlike one other) (behind b) → (b || there) ≡ (b || here)) [
        | true ↦ λ _. refl
        | false ↦ alike
      ] same.1

  opened_decides : AllByRecursion (Leads one other) (opened_needs sents session one) →
      AllByRecursion (ComesOutAlike one other) (opened_needs sents session one) ⊎ (opened_in_want sents session other ≡ true)
  opened_decides led =
      elim none_there as (λ b. none_there ≡ b → AllByRecursion (ComesOutAlike one other) (opened_needs sents session one) ⊎ ((b || there) ≡ true)) [
        | true ↦ λ _. inr refl
        | false ↦ λ is.
            let both = opens_both one other led.0 is in
            elim none_here as (λ b. none_here ≡ b → AllByRecursion (Leads one other) (behind b) →
            (ComesOutAlike one other (opening_need one) × AllByRecursion (ComesOutAlike one other) (behind b)) ⊎ (there ≡ true)) [
              | true ↦ λ no _. absurd (true≢false (sym no ∙ both.1))
              | false ↦ λ _ more. elim (decides more) [
                | inl same ↦ inl (both.0, same)
                | inr short ↦ inr short
              ]
            ] refl led.1
      ] refl

  abbrev all : List Need
  all = opened_needs sents session one

  within : IsBelow other.caps (cell_by one all).caps_below → HasRam (cell_by one all) other.ram →
      opened_in_want sents session other ≡ (opened_in_want sents session one || nat_lt other.caps (cell_by one all).caps_from)
  within few has = within_by one other all (opened_in_want sents session one) (opened_in_want sents session other) opened_alike opened_decides few has

  below : IsBelow other.caps (cell_by one all).caps_below → other.ram < (cell_by one all).ram_from → greatest_choice one all ≤ other.ram →
      opened_in_want sents session other ≡ true
  below few less chosen = below_by one other all (opened_in_want sents session one) (opened_in_want sents session other) opened_alike opened_decides few less chosen

pub runs_exact : SessionRunsAreExact
runs_exact sents session caps top donation few up =
    exact (opened_needs sents session) (opened_in_want sents session) (λ one other. within sents session one other) (λ one other. below sents session one other)
    caps donation few (suc top) top (omega arith) up
