-- Cells in the order of their names give the members of their object in this order.
use Rattle.std.proofs.Common.{◌≡◌, ◌∙◌, ℕ, List, [], ◌∷◌, Bool, true, false, ◌&&◌, Option, Some, None, Ordering, refl, ap, sym}
use Rattle.std.specs.Prelude.{IsTrue}
use Rattle.std.specs.List.{list_all}
use Rattle.std.specs.Ordering.{match_ordering, nat_cmp}
use Rattle.std.specs.declared.cmp.Ordering.TheVariants.{Less, Equal, Greater}
use Rattle.std.specs.Cmp.Lexicographic.{slice_cmp}
use Rattle.std.proofs.lemmas.Bool.{and_parts}
use Rattle.serde_json.specs.Data.{Data, Members, member, no_members, put}
use Rattle.view_records.specs.JsonTexts.{members_with, value_of, with_value}
use Rattle.view_records.specs.ObjectTexts.{is_after, member_if, members_in_order, names_ascend}
use Rattle.view_records.specs.Records.{CellData, Record}

-- members, and then others
abbrev join : Members → Members → Members
join no_members more = more
join (member k d ms) more = member k d (join ms more)

join_none : (ms : Members) → join ms no_members ≡ ms
join_none no_members = refl
join_none (member k d ms) = ap (member k d) (join_none ms)

join_assoc : (ms bs cs : Members) → join (join ms bs) cs ≡ join ms (join bs cs)
join_assoc no_members bs cs = refl
join_assoc (member k d ms) bs cs = ap (member k d) (join_assoc ms bs cs)

-- a name comes after those of all members
abbrev ends : List ℕ → Members → Bool
ends name no_members = true
ends name (member k d ms) = is_after name k && ends name ms

-- and so do the names of cells
abbrev all_end : Members → Record → Bool
all_end ms [] = true
all_end ms (c ∷ cells) = ends c.0 ms && all_end ms cells

put_last : (k : List ℕ) (d : Data) (ms : Members) → ends k ms ≡ true → put k d ms ≡ join ms (member k d no_members)
put_last k d no_members last = refl
put_last k d (member l e ms) last =
    let parts = and_parts (is_after k l) (ends k ms) last in
    of (slice_cmp nat_cmp k l) parts.0 (put_last k d ms parts.1)
  where
    of : (o : Ordering) → match_ordering o false false true ≡ true → put k d ms ≡ join ms (member k d no_members)
        → match_ordering o (member k d (member l e ms)) (member l d ms) (member l e (put k d ms)) ≡ member l e (join ms (member k d no_members))
    of Less after rest = absurd cc
    of Equal after rest = absurd cc
    of Greater after rest = ap (member l e) rest

both : (a b : Bool) → a ≡ true → b ≡ true → (a && b) ≡ true
both true true one other = refl
both false b one other = absurd cc
both true false one other = absurd cc

-- one member more
ends_more : (name k : List ℕ) (d : Data) (ms : Members) → is_after name k ≡ true → ends name ms ≡ true → ends name (join ms (member k d no_members)) ≡ true
ends_more name k d no_members after last = both (is_after name k) true after refl
ends_more name k d (member l e ms) after last =
    let parts = and_parts (is_after name l) (ends name ms) last in
    both (is_after name l) _ parts.0 (ends_more name k d ms after parts.1)

all_end_more : (k : List ℕ) (d : Data) (ms : Members) (cells : Record) → list_all (λ (other : List ℕ × CellData). is_after other.0 k) cells ≡ true
    → all_end ms cells ≡ true → all_end (join ms (member k d no_members)) cells ≡ true
all_end_more k d ms [] after last = refl
all_end_more k d ms (c ∷ cells) after last =
    let afters = and_parts (is_after c.0 k) _ after in
    let lasts = and_parts (ends c.0 ms) (all_end ms cells) last in
    both (ends c.0 (join ms (member k d no_members))) _ (ends_more c.0 k d ms afters.0 lasts.0) (all_end_more k d ms cells afters.1 lasts.1)

after_members : (ms : Members) (cells : Record) → names_ascend cells ≡ true → all_end ms cells ≡ true → members_with ms cells ≡ join ms (members_in_order cells)
after_members ms [] ascend last = sym (join_none ms)
after_members ms (c ∷ cells) ascend last =
    let ascends = and_parts (list_all (λ (other : List ℕ × CellData). is_after other.0 c.0) cells) (names_ascend cells) ascend in
    let lasts = and_parts (ends c.0 ms) (all_end ms cells) last in
    of (value_of c.1) ascends.0 lasts.0 lasts.1 (λ more ends. after_members more cells ascends.1 ends)
  where
    of : (value : Option Data) → list_all (λ (other : List ℕ × CellData). is_after other.0 c.0) cells ≡ true → ends c.0 ms ≡ true → all_end ms cells ≡ true
        → ((more : Members) → all_end more cells ≡ true → members_with more cells ≡ join more (members_in_order cells))
        → members_with (with_value c.0 value ms) cells ≡ join ms (member_if c.0 value (members_in_order cells))
    of None after here last others = others ms last
    of (Some d) after here last others =
        let more = join ms (member c.0 d no_members) in
        ap (λ members. members_with members cells) (put_last c.0 d ms here)
        ∙ others more (all_end_more c.0 d ms cells after last)
        ∙ join_assoc ms (member c.0 d no_members) (members_in_order cells)

all_end_none : (cells : Record) → all_end no_members cells ≡ true
all_end_none [] = refl
all_end_none (c ∷ cells) = all_end_none cells

pub in_order : (cells : Record) → IsTrue (names_ascend cells) → members_with no_members cells ≡ members_in_order cells
in_order cells ascend = after_members no_members cells ascend (all_end_none cells)
