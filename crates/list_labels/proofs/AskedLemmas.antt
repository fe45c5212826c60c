-- Each label that no rule knows by itself agrees with what the rules ask.
use Rattle.std.proofs.Common.{◌≡◌, ℕ, ◌<◌, ◌≤◌, zero, suc, ◌-◌, Bool, true, false, ◌&&◌, ◌||◌, List, [], ◌∷◌, ◌++◌, length, take, drop, Option, Some, None, refl, sym, subst, ap, ◌∙◌, nat_eq, nat_le, arith, inl, inr}
use Rattle.std.specs.Prelude.{codes, if◌then◌else◌}
use Rattle.std.specs.List.{list_all, list_any, starts_with, ends_with, slice_get}
use Rattle.std.specs.Option.{option_map, unwrap_or}
use Rattle.std.specs.Str.{bytes_eq}
use Rattle.std.proofs.lemmas.Bool.Decides.{nat_tests}
use Rattle.std.proofs.lemmas.Slice.Eq.{bytes_eq-Decides}
use Rattle.std.proofs.lemmas.List.{append_assoc, append-nil, length-append, drop_all}
use Rattle.std.proofs.lemmas.List.Folds.{list_all-append}
use Rattle.std.proofs.lemmas.Bool.{and_parts, and_from, or_left, or_parts, or_right, both_ways}
use Rattle.std.proofs.Math.Seq.{drop-append_seam}
use Rattle.own_model.specs.SessionArgs.{is_quotable}
use Rattle.own_model.specs.Routes.{as_asked, label_with}
use Rattle.own_model.specs.Listed.{Listed, ListedEntry, ListedRule, asks_for, init_entry, most_lists, rules_for}
use Rattle.list_labels.specs.GivenLabels.{IsGiven}
use Rattle.list_labels.specs.Asked.{agrees, agrees_within, asked_by, asked_of_rule, asked_texts, asked_within, asks_nothing, behind, can_begin, is_given, is_known, is_open, is_tail, is_whole, known_within, rule_agrees, same_as, text_of}
use Rattle.list_labels.specs.LabelRanges.{AskedLabel, fits}
use Rattle.list_labels.proofs.TextLemmas.{begins_by, begins_from, ends_by, ends_from, ends_order, fronts_order, parted, same_tests, take_front}

-- ---- tests

pub as_is : (a b : Bool) → same_as a b ≡ true → a ≡ b
as_is true true same = refl
as_is true false same = cc
as_is false true same = cc
as_is false false same = refl

is_as : (a b : Bool) → a ≡ b → same_as a b ≡ true
is_as true true same = refl
is_as true false same = cc
is_as false true same = cc
is_as false false same = refl

-- ---- fronts of what is seen

behind_case : (before text asked rest : List ℕ) → before ++ text ≡ asked ++ rest
    → (starts_with nat_eq text (drop (length before) asked) ≡ true)
    × ((other : List ℕ) → starts_with nat_eq other (drop (length before) asked) ≡ true → starts_with nat_eq (before ++ other) asked ≡ true)
behind_case before text asked rest same =
    elim (parted before text asked rest same) [
      | inl way ↦
          (let none : drop (length before) asked ≡ [] =
          drop_all (length before) asked (omega (arith, ap length way.1, length-append asked way.0)) in (
            begins_from text (drop (length before) asked) text (ap (λ d. d ++ text) (sym none)),
            λ other begins. begins_from (before ++ other) asked (way.0 ++ other) (ap (λ b. b ++ other) way.1 ∙ append_assoc asked way.0 other),
          ))
      | inr way ↦
          (let tail : drop (length before) asked ≡ way.0 ∷ way.1 =
          ap (λ a. drop (length before) a) way.2 ∙ drop-append_seam before (way.0 ∷ way.1) in (
            begins_from text (drop (length before) asked) rest (way.3 ∙ ap (λ d. d ++ rest) (sym tail)),
            λ other begins. begins_from (before ++ other) asked (drop (length (drop (length before) asked)) other)
                (ap (λ o. before ++ o) (begins_by other (drop (length before) asked) begins)
                ∙ (sym (append_assoc before (drop (length before) asked) (drop (length (drop (length before) asked)) other))
                ∙ ap (λ a. a ++ drop (length (drop (length before) asked)) other) (ap (λ d. before ++ d) tail ∙ sym way.2))),
          ))
    ]

-- what is asked behind the bytes before a label
front_behind : (before text : List ℕ) (asked : Option (List ℕ)) → as_asked (starts_with nat_eq (before ++ text)) asked ≡ true
    → (starts_with nat_eq text (drop (length before) (text_of asked)) ≡ true)
    × ((other : List ℕ) → starts_with nat_eq other (drop (length before) (text_of asked)) ≡ true
    → as_asked (starts_with nat_eq (before ++ other)) asked ≡ true)
front_behind before text None holds =
    (begins_from text (drop (length before) []) text (ap (λ d. d ++ text) (sym (drop_all (length before) [] (omega arith)))), λ other begins. refl)
front_behind before text (Some asked) holds =
    behind_case before text asked (drop (length asked) (before ++ text)) (begins_by (before ++ text) asked holds)

-- if the names before a label and a beginning that is asked differ, no label is as asked
begins_after : (before text : List ℕ) (asked : Option (List ℕ)) → as_asked (starts_with nat_eq (before ++ text)) asked ≡ true
    → can_begin before (text_of asked) ≡ true
begins_after before text None holds = or_left (starts_with nat_eq before []) (starts_with nat_eq [] before) (begins_from before [] before refl)
begins_after before text (Some asked) holds =
    elim (parted before text asked (drop (length asked) (before ++ text)) (begins_by (before ++ text) asked holds)) [
      | inl way ↦ or_left (starts_with nat_eq before asked) _ (begins_from before asked way.0 way.1)
      | inr way ↦ or_right (starts_with nat_eq before asked) _ (begins_from asked before (way.0 ∷ way.1) way.2)
    ]

-- longer bytes begin so too
front_more : (before front rest : List ℕ) (asked : Option (List ℕ)) → as_asked (starts_with nat_eq (before ++ front)) asked ≡ true
    → as_asked (starts_with nat_eq (before ++ (front ++ rest))) asked ≡ true
front_more before front rest None holds = refl
front_more before front rest (Some asked) holds =
    begins_from (before ++ (front ++ rest)) asked (drop (length asked) (before ++ front) ++ rest)
    (sym (append_assoc before front rest)
    ∙ (ap (λ t. t ++ rest) (begins_by (before ++ front) asked holds) ∙ append_assoc asked (drop (length asked) (before ++ front)) rest))

-- ---- ends of what is seen

tail_is : (before label cut : List ℕ) → 0 < length cut → ends_with nat_eq before cut ≡ true → is_tail before label (Some (cut ++ label)) ≡ true
tail_is before label cut some ends =
    let long : length label < length (cut ++ label) = omega (arith, length-append cut label) in
    and_from _ _ (grind (arith, nat_tests))
    (and_from _ _ (ends_from (cut ++ label) cut label refl)
    (ap (λ c. ends_with nat_eq before c)
    (ap (λ n. take n (cut ++ label)) (omega (arith, length-append cut label)) ∙ take_front cut label)
    ∙ ends))

-- an asked end that is no part of the names before the label is an end of the label
tail_lost : (before label cut asked : List ℕ) → asked ≡ cut ++ label → ends_with nat_eq before cut ≡ true
    → is_tail before label (Some asked) ≡ false → ends_with nat_eq label asked ≡ true
tail_lost before label [] asked is ends lost = ends_from label [] asked (sym is)
tail_lost before label (c ∷ cut) asked is ends lost =
    absurd (both_ways (is_tail before label (Some asked)) lost
    (ap (λ a. is_tail before label (Some a)) is ∙ tail_is before label (c ∷ cut) (omega arith) ends))

end_behind : (before label : List ℕ) (asked : Option (List ℕ)) → as_asked (ends_with nat_eq (before ++ label)) asked ≡ true
    → is_tail before label asked ≡ false → ends_with nat_eq label (text_of asked) ≡ true
end_behind before label None holds lost = ends_from label label [] (sym (append-nil label))
end_behind before label (Some asked) holds lost =
    elim (parted before label (take (length (before ++ label) - length asked) (before ++ label)) asked (ends_by (before ++ label) asked holds)) [
      | inl way ↦ tail_lost before label way.0 asked way.2
          (ends_from before (take (length (before ++ label) - length asked) (before ++ label)) way.0 way.1) lost
      | inr way ↦ ends_from label (way.0 ∷ way.1) asked way.3
    ]

-- longer bytes end so too
end_more : (before end : List ℕ) (asked : Option (List ℕ)) → as_asked (ends_with nat_eq end) asked ≡ true
    → as_asked (ends_with nat_eq (before ++ end)) asked ≡ true
end_more before end None holds = refl
end_more before end (Some asked) holds =
    ends_from (before ++ end) (before ++ take (length end - length asked) end) asked
    (ap (λ e. before ++ e) (ends_by end asked holds) ∙ sym (append_assoc before (take (length end - length asked) end) asked))

end_within : (end : List ℕ) (asked : Option (List ℕ)) → ends_with nat_eq end (text_of asked) ≡ true → as_asked (ends_with nat_eq end) asked ≡ true
end_within end None holds = refl
end_within end (Some asked) holds = holds

-- ---- labels that can be given

pub given_is : (label : List ℕ) → IsGiven label → is_given label ≡ true
given_is label given =
    let short : length label ≤ 64 = given.short in
    and_from _ _ (grind (arith, nat_tests)) given.plain

pub is_given_then : (label : List ℕ) → is_given label ≡ true → IsGiven label
is_given_then label is =
    let both = and_parts (nat_le (length label) 64) (list_all is_quotable label) is in
    let short : nat_le (length label) 64 ≡ true = both.0 in
    record { short = grind (arith, nat_tests); plain = both.1 }

pub given_parts : (front rest : List ℕ) → IsGiven (front ++ rest) → (is_given front ≡ true) × (is_given rest ≡ true)
given_parts front rest given =
    let long : length (front ++ rest) ≤ 64 = given.short in
    let both = and_parts (list_all is_quotable front) (list_all is_quotable rest) (sym (list_all-append is_quotable front rest) ∙ given.plain) in (
      given_is front (record { short = omega (arith, length-append front rest); plain = both.0 }),
      given_is rest (record { short = omega (arith, length-append front rest); plain = both.1 }),
    )

-- ---- how long what is asked is

-- all that fit a label have texts of so many bytes at most
abbrev pub Within : List ℕ → ℕ → ℕ → List AskedLabel → Type 0
Within label front end [] = Unit {0}
Within label front end (asked ∷ others) =
    (fits label asked ≡ true → (length asked.front ≤ front) × (length asked.end ≤ end)) × Within label front end others

within_split : (label : List ℕ) (front end : ℕ) (some others : List AskedLabel) → Within label front end (some ++ others)
    → Within label front end some × Within label front end others
within_split label front end [] others within = (tt, within)
within_split label front end (asked ∷ some) others within =
    let rest = within_split label front end some others within.1 in
    ((within.0, rest.0), rest.1)

-- ---- a rule

open_parts : (service whole front end : Bool) → (service && (whole && (front && end))) ≡ true
    → (service ≡ true) × (whole ≡ true) × (front ≡ true) × (end ≡ true)
open_parts true true true end is = (refl, refl, refl, is)
open_parts true true false end is = cc
open_parts true false front end is = cc
open_parts false whole front end is = cc

open_by : (service whole front end : Bool) → service ≡ true → whole ≡ true → front ≡ true → end ≡ true
    → (service && (whole && (front && end))) ≡ true
open_by true true true end service whole front is = is
open_by true true false end service whole front is = cc
open_by true false front end service whole is other = cc
open_by false whole front end service is other more = cc

not_whole : (before label : List ℕ) (asked : Option (List ℕ)) → as_asked (bytes_eq (before ++ label)) asked ≡ true
    → is_whole before label asked ≡ false → asks_nothing asked ≡ true
not_whole before label None holds lost = refl
not_whole before label (Some asked) holds lost =
    absurd (both_ways (bytes_eq asked (before ++ label)) lost ((bytes_eq-Decides asked (before ++ label)).1 (sym ((bytes_eq-Decides (before ++ label) asked).0 holds))))

nothing_holds : (seen : List ℕ) (asked : Option (List ℕ)) → asks_nothing asked ≡ true → as_asked (bytes_eq seen) asked ≡ true
nothing_holds seen None is = refl
nothing_holds seen (Some asked) is = cc

asked_when : (service before : List ℕ) (rule : ListedRule) → as_asked (bytes_eq service) rule.service ≡ true → asks_nothing rule.label ≡ true
    → can_begin before (text_of rule.label_prefix) ≡ true
    → is_given (drop (length before) (text_of rule.label_prefix)) ≡ true → is_given (text_of rule.label_suffix) ≡ true
    → asked_of_rule service before rule
    ≡ record { front = drop (length before) (text_of rule.label_prefix); end = text_of rule.label_suffix } ∷ []
asked_when service before rule asks nothing begins front end =
    ap (λ b. if b then asked_texts (drop (length before) (text_of rule.label_prefix)) (text_of rule.label_suffix) else [])
    (and_from _ _ asks (and_from _ _ nothing begins))
    ∙ ap (λ b. if b then record { front = drop (length before) (text_of rule.label_prefix); end = text_of rule.label_suffix } ∷ [] else [])
    (and_from _ _ front end)

open_then : (service before label front end rest head : List ℕ) (rule : ListedRule) → IsGiven label → is_known service before label rule ≡ false
    → label ≡ front ++ rest → label ≡ head ++ end
    → Within label (length front) (length end) (asked_of_rule service before rule)
    → asks_for rule service (before ++ label) ≡ true → is_open rule service (before ++ front) end ≡ true
open_then service before label front end rest head rule given lost begins ends within holds =
    let parts = open_parts _ _ _ _ holds in
    let unknown = or_parts (is_whole before label rule.label) (is_tail before label rule.label_suffix)
    (sym (ap (λ a. a && (is_whole before label rule.label || is_tail before label rule.label_suffix)) parts.0) ∙ lost) in
    let nothing = not_whole before label rule.label parts.1 unknown.0 in
    let opened = front_behind before label rule.label_prefix parts.2 in
    let ended = end_behind before label rule.label_suffix parts.3 unknown.1 in
    let first = drop (length before) (text_of rule.label_prefix) in
    let last = text_of rule.label_suffix in
    let front_given = (given_parts first (drop (length first) label) (subst IsGiven (begins_by label first opened.0) given)).0 in
    let end_given = (given_parts (take (length label - length last) label) last (subst IsGiven (ends_by label last ended) given)).1 in
    let asked = asked_when service before rule parts.0 nothing (begins_after before label rule.label_prefix parts.2) front_given end_given in
    let bounds = subst (λ a. Within label (length front) (length end) a) asked within in
    let short = bounds.0 (and_from _ _ opened.0 ended) in
    open_by _ _ _ _ parts.0 nothing
    (opened.1 front (fronts_order label front first (begins_from label front rest begins) opened.0 short.0))
    (end_within end rule.label_suffix (ends_order label end last (ends_from label head end ends) ended short.1))

then_open : (service before label front end rest head : List ℕ) (rule : ListedRule) → label ≡ front ++ rest → label ≡ head ++ end
    → is_open rule service (before ++ front) end ≡ true → asks_for rule service (before ++ label) ≡ true
then_open service before label front end rest head rule begins ends holds =
    let parts = open_parts _ _ _ _ holds in
    open_by _ _ _ _ parts.0 (nothing_holds (before ++ label) rule.label parts.1)
    (ap (λ l. as_asked (starts_with nat_eq (before ++ l)) rule.label_prefix) begins ∙ front_more before front rest rule.label_prefix parts.2)
    (ap (λ l. as_asked (ends_with nat_eq l) rule.label_suffix)
    (ap (λ l. before ++ l) ends ∙ sym (append_assoc before head end))
    ∙ end_more (before ++ head) end rule.label_suffix parts.3)

rule_agreeing : (service before label front end rest head : List ℕ) (rule : ListedRule) → IsGiven label → is_known service before label rule ≡ false
    → label ≡ front ++ rest → label ≡ head ++ end
    → Within label (length front) (length end) (asked_of_rule service before rule)
    → rule_agrees service (before ++ front) (before ++ label) end rule ≡ true
rule_agreeing service before label front end rest head rule given lost begins ends within =
    is_as _ _ (same_tests _ _
    (open_then service before label front end rest head rule given lost begins ends within)
    (then_open service before label front end rest head rule begins ends))

rules_agreeing : (service before label front end rest head : List ℕ) (rules : List ListedRule) → IsGiven label
    → list_any (is_known service before label) rules ≡ false → label ≡ front ++ rest → label ≡ head ++ end
    → Within label (length front) (length end) (asked_by service before rules)
    → list_all (rule_agrees service (before ++ front) (before ++ label) end) rules ≡ true
rules_agreeing service before label front end rest head [] given lost begins ends within = refl
rules_agreeing service before label front end rest head (rule ∷ rules) given lost begins ends within =
    let unknown = or_parts (is_known service before label rule) (list_any (is_known service before label) rules) lost in
    let bounds = within_split label (length front) (length end) (asked_of_rule service before rule)
    (asked_by service before rules) within in
    and_from _ _ (rule_agreeing service before label front end rest head rule given unknown.0 begins ends bounds.0)
    (rules_agreeing service before label front end rest head rules given unknown.1 begins ends bounds.1)

-- ---- lists within lists

behind_more : (name before text : List ℕ) → behind name (before ++ text) ≡ behind name before ++ text
behind_more name before text =
    ap (λ t. t) (sym (append_assoc (name ++ codes " -> ") before text))

outer_agreeing : (lists : ℕ) (list : Listed) (name service before label front end rest head : List ℕ) (outer : Option ListedEntry) → IsGiven label
    → ((init : ListedEntry) → known_within lists list init service (behind name before) label ≡ false
    → Within label (length front) (length end) (asked_within lists list init service (behind name before))
    → agrees_within lists list init service (behind name before ++ front) (behind name before ++ label) end ≡ true)
    → unwrap_or (option_map (λ init. known_within lists list init service (behind name before) label) outer) false ≡ false
    → Within label (length front) (length end)
    (unwrap_or (option_map (λ init. asked_within lists list init service (behind name before)) outer) [])
    → unwrap_or (option_map (λ init. agrees_within lists list init service (behind name (before ++ front)) (behind name (before ++ label)) end) outer) true
    ≡ true
outer_agreeing lists list name service before label front end rest head None given each lost within = refl
outer_agreeing lists list name service before label front end rest head (Some init) given each lost within =
    ap (λ o. agrees_within lists list init service o (behind name (before ++ label)) end) (behind_more name before front)
    ∙ (ap (λ s. agrees_within lists list init service (behind name before ++ front) s end) (behind_more name before label)
    ∙ each init lost within)

lists_agreeing : (lists : ℕ) (list : Listed) (entry : ListedEntry) (service before label front end rest head : List ℕ) → IsGiven label
    → known_within lists list entry service before label ≡ false → label ≡ front ++ rest → label ≡ head ++ end
    → Within label (length front) (length end) (asked_within lists list entry service before)
    → agrees_within lists list entry service (before ++ front) (before ++ label) end ≡ true
lists_agreeing zero list entry service before label front end rest head given lost begins ends within = refl
lists_agreeing (suc lists) list entry service before label front end rest head given lost begins ends within =
    let unknown = or_parts (list_any (is_known service before label) (rules_for list entry)) _ lost in
    let bounds = within_split label (length front) (length end) (asked_by service before (rules_for list entry)) _ within in
    and_from _ _ (rules_agreeing service before label front end rest head (rules_for list entry) given unknown.0 begins ends bounds.0)
    (outer_agreeing lists list entry.name service before label front end rest head (init_entry list entry.home) given
    (λ init unknown_there bounds_there.
    lists_agreeing lists list init service (behind entry.name before) label front end rest head given unknown_there begins ends bounds_there)
    unknown.1 bounds.1)

pub entry_agreeing : (list : Listed) (service label front end rest head : List ℕ) (entry : Option ListedEntry) → IsGiven label
    → unwrap_or (option_map (λ entry. known_within most_lists list entry service [] label) entry) false ≡ false
    → label ≡ front ++ rest → label ≡ head ++ end
    → Within label (length front) (length end) (unwrap_or (option_map (λ entry. asked_within most_lists list entry service []) entry) [])
    → unwrap_or (option_map (λ entry. agrees_within most_lists list entry service front label end) entry) true ≡ true
entry_agreeing list service label front end rest head None given lost begins ends within = refl
entry_agreeing list service label front end rest head (Some entry) given lost begins ends within =
    lists_agreeing most_lists list entry service [] label front end rest head given lost begins ends within

-- ---- a label after a name

pub behind_is : (name label : List ℕ) → 0 < length label → label_with name label ≡ behind name label
behind_is name [] some = absurd (omega arith)
behind_is name (b ∷ label) some = refl

pub behind_long : (name label : List ℕ) → 0 < length label → 0 < length (behind name label)
behind_long name label some = omega (arith, length-append (name ++ codes " -> ") label)

-- ---- as the code goes from list to list

pub asked_goes_on : (lists less : ℕ) (list : Listed) (entry init : ListedEntry) (service before outer : List ℕ) (old middle new : List AskedLabel)
    → lists ≡ suc less → init_entry list entry.home ≡ Some init → outer ≡ behind entry.name before
    → middle ≡ old ++ asked_by service before (rules_for list entry) → new ≡ middle ++ asked_within less list init service outer
    → new ≡ old ++ asked_within lists list entry service before
asked_goes_on zero less list entry init service before outer old middle new more found sees asked goes = absurd (omega arith)
asked_goes_on (suc lists) less list entry init service before outer old middle new more found sees asked goes =
    let same : less ≡ lists = omega arith in
    goes
    ∙ (ap (λ b. b ++ asked_within less list init service outer) asked
    ∙ (append_assoc old (asked_by service before (rules_for list entry)) (asked_within less list init service outer)
    ∙ ap (λ k. old ++ (asked_by service before (rules_for list entry) ++ k))
    (ap (λ n. asked_within n list init service outer) same
    ∙ (ap (λ o. asked_within lists list init service o) sees
    ∙ ap (λ o. unwrap_or (option_map (λ i. asked_within lists list i service (behind entry.name before)) o) []) (sym found)))))

pub asked_ends : (lists : ℕ) (list : Listed) (entry : ListedEntry) (service before : List ℕ) (old new : List AskedLabel)
    → 0 < lists → init_entry list entry.home ≡ None
    → new ≡ old ++ asked_by service before (rules_for list entry) → new ≡ old ++ asked_within lists list entry service before
asked_ends zero list entry service before old new some none asked = absurd (omega arith)
asked_ends (suc lists) list entry service before old new some none asked =
    asked
    ∙ ap (λ k. old ++ k)
    (sym (append-nil (asked_by service before (rules_for list entry)))
    ∙ ap (λ o. asked_by service before (rules_for list entry)
    ++ unwrap_or (option_map (λ i. asked_within lists list i service (behind entry.name before)) o) []) (sym none))

pub read_is : (text label : List ℕ) (b : Bool) → Some label ≡ (if b then Some text else None) → (label ≡ text) × (b ≡ true)
read_is text label true is = (cc, refl)
read_is text label false is = cc
