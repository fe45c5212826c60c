-- Labels that are added one after another are those that rules distinguish.
use Rattle.std.proofs.Common.{◌≡◌, ℕ, ◌<◌, ◌≤◌, zero, suc, ◌-◌, ◌+◌, Bool, true, false, ◌&&◌, ◌||◌, List, [], ◌∷◌, ◌++◌, length, get_or, take, drop, Option, Some, None, refl, sym, subst, ap, ◌∙◌, nat_eq, arith}
use Rattle.std.specs.Prelude.{◌==◌, nat_lt}
use Rattle.std.specs.List.{list_any, starts_with, ends_with, slice_get}
use Rattle.std.specs.Option.{option_map, unwrap_or}
use Rattle.std.specs.Str.{bytes_eq}
use Rattle.std.proofs.lemmas.Bool.Decides.{nat_tests}
use Rattle.std.proofs.lemmas.Slice.Eq.{bytes_eq-Decides}
use Rattle.std.proofs.lemmas.List.{length-append, length-drop, take-append-drop}
use Rattle.std.proofs.lemmas.List.Folds.{list_any-append}
use Rattle.std.proofs.lemmas.Bool.{and_parts, and_from, both_ways, false_from_ne_true}
use Rattle.std.proofs.Math.Seq.{drop-append_seam, take-suc}
use Rattle.own_model.specs.Routes.{as_asked}
use Rattle.own_model.specs.Listed.{Listed, ListedEntry, ListedRule, init_entry, most_lists, rules_for}
use Rattle.list_labels.specs.Asked.{behind, is_given, is_known, is_tail, is_whole, known, known_within}
use Rattle.list_labels.specs.KnownLabels.{AddsLabels, is_filled, is_among, is_tail_after, is_tail_below}
use Rattle.list_labels.proofs.TextLemmas.{begins_by, begins_from, ends_by, ends_from, same_tests}

-- ---- tests

joined : (old filled f g h mid new : Bool) → mid ≡ (old || (filled && f)) → new ≡ (mid || (filled && g))
    → (filled ≡ true → h ≡ (f || g)) → new ≡ (old || (filled && h))
joined true filled f g h mid new first then same = then ∙ ap (λ m. m || (filled && g)) first
joined false true f g h mid new first then same = then ∙ (ap (λ m. m || g) first ∙ sym (same refl))
joined false false f g h mid new first then same = then ∙ ap (λ m. m || false) first

stayed : (old filled h : Bool) → (filled ≡ true → h ≡ false) → old ≡ (old || (filled && h))
stayed true filled h none = refl
stayed false true h none = sym (none refl)
stayed false false h none = refl

worded : (old filled f h new : Bool) → new ≡ (old || (filled && f)) → (filled ≡ true → h ≡ f) → new ≡ (old || (filled && h))
worded old true f h new is same = is ∙ ap (λ t. old || t) (sym (same refl))
worded old false f h new is same = is

-- ---- labels that are added

-- labels of one test and then of another are those of both
pub added_then : (f g h : List ℕ → Bool) (old mid new : List (List ℕ)) → AddsLabels f old mid → AddsLabels g mid new
    → ((label : List ℕ) → is_filled label ≡ true → h label ≡ (f label || g label)) → AddsLabels h old new
added_then f g h old mid new first then same = λ label.
    joined (is_among old label) (is_filled label) (f label) (g label) (h label) (is_among mid label) (is_among new label)
    (first label) (then label) (same label)

pub added_none : (h : List ℕ → Bool) (old : List (List ℕ)) → ((label : List ℕ) → is_filled label ≡ true → h label ≡ false) → AddsLabels h old old
added_none h old none = λ label. stayed (is_among old label) (is_filled label) (h label) (none label)

pub added_as : (f h : List ℕ → Bool) (old new : List (List ℕ)) → AddsLabels f old new
    → ((label : List ℕ) → is_filled label ≡ true → h label ≡ f label) → AddsLabels h old new
added_as f h old new is same = λ label.
    worded (is_among old label) (is_filled label) (f label) (h label) (is_among new label) (is label) (same label)

or_none : (b : Bool) → (b || false) ≡ true → b ≡ true
or_none true is = refl
or_none false is = is

one_same : (text label : List ℕ) → is_given text ≡ true → 0 < length text
    → (bytes_eq text label || false) ≡ (is_filled label && bytes_eq text label)
one_same text label given some =
    same_tests _ _
    (λ is. let same = or_none _ is in
    and_from _ _ (subst (λ l. is_filled l ≡ true) ((bytes_eq-Decides text label).0 same) (and_from _ _ given (grind (arith, nat_tests)))) same)
    (λ is. ap (λ b. b || false) (and_parts (is_filled label) _ is).1)

-- a text that is a label is added
pub added_one : (text : List ℕ) (old new : List (List ℕ)) → is_given text ≡ true → 0 < length text → new ≡ old ++ text ∷ []
    → AddsLabels (bytes_eq text) old new
added_one text old new given some is = λ label.
    ap (λ n. is_among n label) is
    ∙ (list_any-append (λ other. bytes_eq other label) old (text ∷ [])
    ∙ ap (λ b. is_among old label || b) (one_same text label given some))

-- no filled label is a text that isn't one
pub added_no : (text : List ℕ) (old : List (List ℕ)) → is_filled text ≡ false → AddsLabels (bytes_eq text) old old
added_no text old lost =
    added_none (bytes_eq text) old
    (λ label filled. false_from_ne_true _ (λ is. both_ways (is_filled text) lost
    (ap is_filled ((bytes_eq-Decides text label).0 is) ∙ filled)))

pub some_bytes : (text : List ℕ) (empty : Bool) → empty ≡ (length text == 0) → empty ≡ false → 0 < length text
some_bytes [] empty is lost = cc
some_bytes (b ∷ text) empty is lost = omega arith

-- ---- a whole label

pub whole_as : (before asked label : List ℕ) → starts_with nat_eq asked before ≡ true
    → is_whole before label (Some asked) ≡ bytes_eq (drop (length before) asked) label
whole_as before asked label begins =
    same_tests _ _
    (λ is. (bytes_eq-Decides (drop (length before) asked) label).1
    (ap (λ a. drop (length before) a) ((bytes_eq-Decides asked (before ++ label)).0 is) ∙ drop-append_seam before label))
    (λ is. (bytes_eq-Decides asked (before ++ label)).1
    (begins_by asked before begins ∙ ap (λ l. before ++ l) ((bytes_eq-Decides (drop (length before) asked) label).0 is)))

pub whole_lost : (before asked label : List ℕ) → starts_with nat_eq asked before ≡ false → is_whole before label (Some asked) ≡ false
whole_lost before asked label lost =
    false_from_ne_true _ (λ is. both_ways _ lost (begins_from asked before label ((bytes_eq-Decides asked (before ++ label)).0 is)))

-- ---- ends of a suffix

tail_there : (before suffix : List ℕ) (cut : ℕ) (label : List ℕ) → is_tail_after before suffix cut label ≡ true
    → (drop cut suffix ≡ label) × (ends_with nat_eq before (take cut suffix) ≡ true)
tail_there before suffix cut label is =
    let both = and_parts (is_tail before label (Some suffix)) (nat_eq (length suffix - length label) cut) is in
    let longer = and_parts (nat_lt (length label) (length suffix)) _ both.0 in
    let ends = and_parts (ends_with nat_eq suffix label) _ longer.1 in
    let parts = ends_by suffix label ends.0 in
    let at : nat_eq (length suffix - length label) cut ≡ true = both.1 in
    let same : length suffix - length label ≡ cut = grind (arith, nat_tests) in
    let less : nat_lt (length label) (length suffix) ≡ true = longer.0 in
    let fewer : length label < length suffix = grind (arith, nat_tests) in
    let head : cut ≡ length (take (length suffix - length label) suffix) =
    omega (arith, same, fewer, ap length parts, length-append (take (length suffix - length label) suffix) label) in (
      ap (λ n. drop n suffix) head
          ∙ (ap (λ s. drop (length (take (length suffix - length label) suffix)) s) parts
          ∙ drop-append_seam (take (length suffix - length label) suffix) label),
      ap (λ n. ends_with nat_eq before (take n suffix)) (sym same) ∙ ends.1,
    )

tail_back : (before suffix : List ℕ) (cut : ℕ) (label : List ℕ) → 0 < cut → cut < length suffix → ends_with nat_eq before (take cut suffix) ≡ true
    → drop cut suffix ≡ label → is_tail_after before suffix cut label ≡ true
tail_back before suffix cut label some within ends is =
    let size : length label ≡ length suffix - cut = ap length (sym is) ∙ length-drop cut suffix in
    let same : length suffix - length label ≡ cut = omega (arith, size, within) in
    let fewer : length label < length suffix = omega (arith, size, some, within) in
    and_from _ _
    (and_from _ _ (grind (arith, nat_tests))
    (and_from _ _ (ends_from suffix (take cut suffix) label (sym (take-append-drop cut suffix) ∙ ap (λ l. take cut suffix ++ l) is))
    (ap (λ n. ends_with nat_eq before (take n suffix)) same ∙ ends)))
    (grind (arith, nat_tests))

pub tail_as : (before suffix : List ℕ) (cut : ℕ) (label : List ℕ) → 0 < cut → cut < length suffix → ends_with nat_eq before (take cut suffix) ≡ true
    → is_tail_after before suffix cut label ≡ bytes_eq (drop cut suffix) label
tail_as before suffix cut label some within ends =
    same_tests _ _
    (λ is. (bytes_eq-Decides (drop cut suffix) label).1 (tail_there before suffix cut label is).0)
    (λ is. tail_back before suffix cut label some within ends ((bytes_eq-Decides (drop cut suffix) label).0 is))

pub tail_lost_after : (before suffix : List ℕ) (cut : ℕ) (label : List ℕ) → ends_with nat_eq before (take cut suffix) ≡ false
    → is_tail_after before suffix cut label ≡ false
tail_lost_after before suffix cut label lost =
    false_from_ne_true _ (λ is. both_ways _ lost (tail_there before suffix cut label is).1)

below_or_after : (t : Bool) (d cut : ℕ) → (t && nat_lt d (cut + 1)) ≡ ((t && nat_lt d cut) || (t && nat_eq d cut))
below_or_after false d cut = refl
below_or_after true d cut = grind (arith, nat_tests)

pub tails_more : (before suffix : List ℕ) (cut next : ℕ) (label : List ℕ) → next ≡ cut + 1
    → is_tail_below before suffix next label ≡ (is_tail_below before suffix cut label || is_tail_after before suffix cut label)
tails_more before suffix cut next label is =
    ap (λ n. is_tail_below before suffix n label) is ∙ below_or_after (is_tail before label (Some suffix)) (length suffix - length label) cut

none_below : (t : Bool) (d : ℕ) → (t ≡ true → 0 < d) → (t && nat_lt d 1) ≡ false
none_below false d some = refl
none_below true d some = let more : 0 < d = some refl in grind (arith, nat_tests)

pub tails_first : (before suffix label : List ℕ) → is_tail_below before suffix 1 label ≡ false
tails_first before suffix label =
    none_below (is_tail before label (Some suffix)) (length suffix - length label)
    (λ is. let longer : nat_lt (length label) (length suffix) ≡ true = (and_parts (nat_lt (length label) (length suffix)) _ is).0 in
    let fewer : length label < length suffix = grind (arith, nat_tests) in
    omega (arith, fewer))

all_below : (t : Bool) (d cut : ℕ) → (t ≡ true → d < cut) → t ≡ (t && nat_lt d cut)
all_below false d cut less = refl
all_below true d cut less = let fewer : d < cut = less refl in grind (arith, nat_tests)

pub tails_all : (before suffix : List ℕ) (cut : ℕ) (label : List ℕ) → length suffix ≤ cut → is_filled label ≡ true
    → is_tail before label (Some suffix) ≡ is_tail_below before suffix cut label
tails_all before suffix cut label all filled =
    all_below (is_tail before label (Some suffix)) (length suffix - length label) cut
    (λ is. let some : nat_lt 0 (length label) ≡ true = (and_parts (is_given label) _ filled).1 in
    let more : 0 < length label = grind (arith, nat_tests) in
    let longer : nat_lt (length label) (length suffix) ≡ true = (and_parts (nat_lt (length label) (length suffix)) _ is).0 in
    let fewer : length label < length suffix = grind (arith, nat_tests) in
    omega (arith, all, more, fewer))

-- ---- rules and lists

or_alone : (b : Bool) → (b || false) ≡ b
or_alone true = refl
or_alone false = refl

pub rules_then : (service before : List ℕ) (rules : List ListedRule) (rule : ListedRule) (place next : ℕ) (label : List ℕ) → next ≡ place + 1
    → place < length rules → rule ≡ get_or rules place rule
    → list_any (is_known service before label) (take next rules)
    ≡ (list_any (is_known service before label) (take place rules) || is_known service before label rule)
rules_then service before rules rule place next label is within at =
    let more : next ≡ suc place = omega (arith, is) in
    ap (λ rs. list_any (is_known service before label) rs)
    (ap (λ n. take n rules) more ∙ (take-suc rules place rule within ∙ ap (λ r. take place rules ++ r ∷ []) (sym at)))
    ∙ (list_any-append (is_known service before label) (take place rules) (rule ∷ [])
    ∙ ap (λ b. list_any (is_known service before label) (take place rules) || b) (or_alone (is_known service before label rule)))

pub known_when : (service before label : List ℕ) (rule : ListedRule) (whole end : Option (List ℕ)) → whole ≡ rule.label → end ≡ rule.label_suffix
    → as_asked (bytes_eq service) rule.service ≡ true
    → is_known service before label rule ≡ (is_whole before label whole || is_tail before label end)
known_when service before label rule whole end whole_is end_is asks =
    ap (λ a. a && (is_whole before label rule.label || is_tail before label rule.label_suffix)) asks
    ∙ (ap (λ w. is_whole before label w || is_tail before label rule.label_suffix) (sym whole_is)
    ∙ ap (λ e. is_whole before label whole || is_tail before label e) (sym end_is))

pub known_else : (service before label : List ℕ) (rule : ListedRule) → as_asked (bytes_eq service) rule.service ≡ false
    → is_known service before label rule ≡ false
known_else service before label rule asks =
    ap (λ a. a && (is_whole before label rule.label || is_tail before label rule.label_suffix)) asks

pub known_out : (lists less : ℕ) (list : Listed) (entry init : ListedEntry) (service before outer label : List ℕ) → lists ≡ suc less
    → init_entry list entry.home ≡ Some init → outer ≡ behind entry.name before
    → known_within lists list entry service before label
    ≡ (list_any (is_known service before label) (rules_for list entry) || known_within less list init service outer label)
known_out zero less list entry init service before outer label more found sees = absurd (omega (arith, more))
known_out (suc lists) less list entry init service before outer label more found sees =
    let same : less ≡ lists = omega (arith, more) in
    ap (λ b. list_any (is_known service before label) (rules_for list entry) || b)
    (ap (λ o. unwrap_or (option_map (λ i. known_within lists list i service (behind entry.name before) label) o) false) found
    ∙ (ap (λ o. known_within lists list init service o label) (sym sees)
    ∙ ap (λ n. known_within n list init service outer label) (sym same)))

pub known_here : (lists : ℕ) (list : Listed) (entry : ListedEntry) (service before label : List ℕ) → 0 < lists → init_entry list entry.home ≡ None
    → known_within lists list entry service before label ≡ list_any (is_known service before label) (rules_for list entry)
known_here zero list entry service before label some none = absurd (omega (arith, some))
known_here (suc lists) list entry service before label some none =
    ap (λ o. list_any (is_known service before label) (rules_for list entry)
    || unwrap_or (option_map (λ i. known_within lists list i service (behind entry.name before) label) o) false) none
    ∙ or_alone (list_any (is_known service before label) (rules_for list entry))

pub known_of_entry : (list : Listed) (client : ℕ) (entry : ListedEntry) (service label : List ℕ) → Some entry ≡ slice_get list.entries client
    → known list client service label ≡ known_within most_lists list entry service [] label
unfolding known
known_of_entry list client entry service label found =
    ap (λ o. unwrap_or (option_map (λ (e : ListedEntry). known_within most_lists list e service [] label) o) false) (sym found)

pub known_nowhere : (list : Listed) (client : ℕ) (service label : List ℕ) → None ≡ slice_get list.entries client → known list client service label ≡ false
unfolding known
known_nowhere list client service label found =
    ap (λ o. unwrap_or (option_map (λ (e : ListedEntry). known_within most_lists list e service [] label) o) false) (sym found)
