-- Two labels with the same longest texts, which no rule knows by itself, are routed alike.
use Rattle.std.proofs.Common.{◌≡◌, ℕ, ◌-◌, true, List, [], ◌∷◌, length, take, drop, refl, arith}
use Rattle.std.specs.Prelude.{Contains}
use Rattle.std.specs.List.{slice_get}
use Rattle.std.specs.Option.{option_map, unwrap_or}
use Rattle.std.proofs.lemmas.List.Elements.{Contains-append_left, Contains-append_right}
use Rattle.own_model.specs.Listed.{Listed, most_lists}
use Rattle.list_labels.specs.Alike.{IsAlike, IsOfTexts, IsUpTo}
use Rattle.list_labels.specs.Asked.{agrees, asked_of, asked_within, known}
use Rattle.list_labels.specs.LabelRanges.{AskedLabel, fits}
use Rattle.list_labels.proofs.AskedLemmas.{Within, entry_agreeing}
use Rattle.list_labels.proofs.FollowLemmas.{decided_alike}
use Rattle.list_labels.proofs.RuleLemmas.{routed_by_rules}
use Rattle.list_labels.proofs.TextLemmas.{begins_by, ends_by}

-- bounds of all conditions, one after another
within_all : (label front end : List ℕ) (asked : List AskedLabel)
    → ((one : AskedLabel) → Contains asked one → fits label one ≡ true → IsUpTo front end one)
    → Within label (length front) (length end) asked
within_all label front end [] each = tt
within_all label front end (one ∷ others) each = (
  (λ fit. let up = each one (Contains-append_left (one ∷ []) others one (0, omega arith, refl)) fit in (up.front_short, up.end_short)),
  within_all label front end others (λ other there fit. each other (Contains-append_right (one ∷ []) others other there) fit),
)

texts_agree : (list : Listed) (client : ℕ) (service front end label : List ℕ) → IsOfTexts list client service front end label
    → agrees list client service front label end ≡ true
unfolding asked_of known agrees
texts_agree list client service front end label is =
    entry_agreeing list service label front end (drop (length front) label) (take (length label - length end) label)
    (slice_get list.entries client) is.given is.unknown (begins_by label front is.begins) (ends_by label end is.closes)
    (within_all label front end
    (unwrap_or (option_map (λ entry. asked_within most_lists list entry service []) (slice_get list.entries client)) [])
    is.longest)

-- labels with the same texts are routed alike
pub texts_alike : (list : Listed) (client : ℕ) (service front end label other : List ℕ) → IsOfTexts list client service front end label
    → IsOfTexts list client service front end other → IsAlike list client service label other
texts_alike list client service front end label other one two =
    let first = texts_agree list client service front end label one in
    let second = texts_agree list client service front end other two in
    let same = decided_alike list client service front label other end one.some two.some first second in
    record { leads = routed_by_rules list client service label other same; decided = same }
