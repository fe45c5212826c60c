-- What lists decide, one after another.
use Rattle.std.proofs.Common.{◌≡◌, ℕ, ◌<◌, ◌+◌, zero, suc, Bool, true, false, List, [], ◌∷◌, ◌++◌, drop, get_or, length, Option, Some, None, refl, sym, ap, ◌∙◌, arith, ◌⊎◌, inl, inr, append_assoc}
use Rattle.std.specs.Prelude.{flat_map, if◌then◌else◌, position}
use Rattle.std.proofs.Math.Seq.{drop-cons}
use Rattle.std.specs.Option.{option_map, unwrap_or}
use Rattle.own_model.specs.Routes.{label_with}
use Rattle.own_model.specs.Listed.{Listed, ListedEntry, ListedRule, asks_for, init_entry, rules_for}
use Rattle.list_labels.specs.DecidingRules.{decided}
use Rattle.list_labels.specs.RouteSteps.{RouteStepAt, route_steps_within, leads_out}

-- what a list decides
abbrev hop : List ℕ → Option ℕ → RouteStepAt
hop seen rule = record { seen = seen; rule = rule }

tail_end : (b : Bool) (o : Option ListedEntry) (f : ListedEntry → List RouteStepAt) → (b ≡ false) ⊎ (o ≡ None)
    → (if b then unwrap_or (option_map f o) [] else []) ≡ []
tail_end false o f ends = refl
tail_end true None f ends = refl
tail_end true (Some init) f (inl is) = cc
tail_end true (Some init) f (inr is) = cc

tail_on : (b : Bool) (o : Option ListedEntry) (f : ListedEntry → List RouteStepAt) (init : ListedEntry) → b ≡ true → o ≡ Some init
    → f init ≡ (if b then unwrap_or (option_map f o) [] else [])
tail_on false o f init is found = cc
tail_on true o f init is found = ap (λ p. unwrap_or (option_map f p) []) (sym found)

hop_same : (rules told_rules : List ListedRule) (rule : Option ℕ) (service seen told : List ℕ) → told ≡ seen → told_rules ≡ rules
    → rule ≡ position (λ r. asks_for r service seen) told_rules
    → hop told rule ≡ hop seen (position (λ r. asks_for r service seen) rules)
hop_same rules told_rules rule service seen told is same first =
    ap (λ t. hop t rule) is
    ∙ ap (λ r. hop seen r) (first ∙ ap (λ rs. position (λ r. asks_for r service seen) rs) same)

leads_same : (rules told_rules : List ListedRule) (rule : Option ℕ) (service seen : List ℕ) (b : Bool) → told_rules ≡ rules
    → rule ≡ position (λ r. asks_for r service seen) told_rules → leads_out told_rules rule ≡ b
    → leads_out rules (position (λ r. asks_for r service seen) rules) ≡ b
leads_same rules told_rules rule service seen b same first leads =
    sym (ap (λ r. leads_out rules r) (first ∙ ap (λ rs. position (λ r. asks_for r service seen) rs) same))
    ∙ (sym (ap (λ rs. leads_out rs rule) same) ∙ leads)

ends_same : (list : Listed) (entry : ListedEntry) (told_rules : List ListedRule) (rule : Option ℕ) (service seen : List ℕ)
    → told_rules ≡ rules_for list entry → rule ≡ position (λ r. asks_for r service seen) told_rules
    → (leads_out told_rules rule ≡ false) ⊎ (init_entry list entry.home ≡ None)
    → (leads_out (rules_for list entry) (position (λ r. asks_for r service seen) (rules_for list entry)) ≡ false)
    ⊎ (init_entry list entry.home ≡ None)
ends_same list entry told_rules rule service seen same first (inl leads) =
    inl (leads_same (rules_for list entry) told_rules rule service seen false same first leads)
ends_same list entry told_rules rule service seen same first (inr none) = inr none

pub hops_end : (lists : ℕ) (list : Listed) (entry : ListedEntry) (service seen told : List ℕ) (rules : List ListedRule) (rule : Option ℕ)
    (old new : List RouteStepAt) → 0 < lists → told ≡ seen → rules ≡ rules_for list entry → rule ≡ position (λ r. asks_for r service seen) rules
    → new ≡ old ++ hop told rule ∷ [] → (leads_out rules rule ≡ false) ⊎ (init_entry list entry.home ≡ None)
    → new ≡ old ++ route_steps_within lists list entry service seen
hops_end zero list entry service seen told rules rule old new some is same first made ends = absurd (omega arith)
hops_end (suc lists) list entry service seen told rules rule old new some is same first made ends =
    made
    ∙ (ap (λ h. old ++ h ∷ []) (hop_same (rules_for list entry) rules rule service seen told is same first)
    ∙ ap (λ t. old ++ hop seen (position (λ r. asks_for r service seen) (rules_for list entry)) ∷ t)
    (sym (tail_end _ (init_entry list entry.home) (λ init. route_steps_within lists list init service (label_with entry.name seen))
    (ends_same list entry rules rule service seen same first ends))))

pub hops_on : (lists less : ℕ) (list : Listed) (entry init : ListedEntry) (service seen told outer : List ℕ) (rules : List ListedRule)
    (rule : Option ℕ) (old between new : List RouteStepAt) → lists ≡ suc less → told ≡ seen → rules ≡ rules_for list entry
    → rule ≡ position (λ r. asks_for r service seen) rules → between ≡ old ++ hop told rule ∷ []
    → leads_out rules rule ≡ true → init_entry list entry.home ≡ Some init → outer ≡ label_with entry.name seen
    → new ≡ between ++ route_steps_within less list init service outer → new ≡ old ++ route_steps_within lists list entry service seen
hops_on zero less list entry init service seen told outer rules rule old between new more is same first made leads found sees goes =
    absurd (omega arith)
hops_on (suc lists) less list entry init service seen told outer rules rule old between new more is same first made leads found sees goes =
    let fewer : less ≡ lists = omega arith in
    goes
    ∙ (ap (λ b. b ++ route_steps_within less list init service outer) made
    ∙ (append_assoc old (hop told rule ∷ []) (route_steps_within less list init service outer)
    ∙ (ap (λ h. old ++ h ∷ route_steps_within less list init service outer) (hop_same (rules_for list entry) rules rule service seen told is same first)
    ∙ ap (λ t. old ++ hop seen (position (λ r. asks_for r service seen) (rules_for list entry)) ∷ t)
    (ap (λ n. route_steps_within n list init service outer) fewer
    ∙ (ap (λ o. route_steps_within lists list init service o) sees
    ∙ tail_on _ (init_entry list entry.home) (λ i. route_steps_within lists list i service (label_with entry.name seen)) init
    (leads_same (rules_for list entry) rules rule service seen true same first leads) found)))))

-- what one more hop decides
pub decided_more : (hops : List RouteStepAt) (hop : RouteStepAt) (place next : ℕ) (old new whole : List ℕ) → next ≡ place + 1 → place < length hops
    → get_or hops place hop ≡ hop → new ≡ old ++ decided hop.rule
    → old ++ flat_map (λ (hop : RouteStepAt). decided hop.rule) (drop place hops) ≡ whole → new ++ flat_map (λ (hop : RouteStepAt). decided hop.rule) (drop next hops) ≡ whole
decided_more hops hop place next old new whole after within is added told =
    let one : suc place ≡ next = omega arith in
    ap (λ n. n ++ flat_map (λ (hop : RouteStepAt). decided hop.rule) (drop next hops)) added
    ∙ (append_assoc old (decided hop.rule) (flat_map (λ (hop : RouteStepAt). decided hop.rule) (drop next hops))
    ∙ (ap (λ n. old ++ (decided hop.rule ++ flat_map (λ (hop : RouteStepAt). decided hop.rule) (drop n hops))) (sym one)
    ∙ (sym (ap (λ h. old ++ flat_map (λ (hop : RouteStepAt). decided hop.rule) h) (drop-cons hops place hop within ∙ ap (λ h. h ∷ drop (suc place) hops) is)) ∙ told)))
