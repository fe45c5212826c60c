-- A file that is remembered by its place, while others come and go.
use Rattle.std.proofs.Common.{◌≡◌, ◌≢◌, ℕ, zero, suc, ◌==◌, Bool, true, false, cond, List, [], ◌∷◌, ◌++◌, length, Some, refl, sym, ap, subst, ◌∙◌, true≢false, arith}
use Rattle.std.proofs.lemmas.Bool.Decides.{nat_tests}
use Rattle.std.proofs.lemmas.Option.{none-some, same_Some}
use Rattle.std.specs.Prelude.{◌&&◌, not, Option, None, slice_get}
use Rattle.sliced_heap.specs.Chain.{is_listed, has_no_repeat}
use Rattle.session_nodes.specs.Index.{IsAmong, remembered_without}
use Rattle.session_nodes.specs.Links.{Leads}
use Rattle.session_nodes.specs.declared.recent.RecentNode.{RecentNode}
use Rattle.session_nodes.proofs.LinkLemmas.{listed_first, listed_later, listed_append, once_first, once_later}

-- ---- places

get_appended : (xs ys : List ℕ) (k x : ℕ) → slice_get xs k ≡ Some x → slice_get (xs ++ ys) k ≡ Some x
get_appended [] ys k x is = absurd (none-some x is)
get_appended (y ∷ xs) ys zero x is = is
get_appended (y ∷ xs) ys (suc k) x is = get_appended xs ys k x is

pub get_listed : (xs : List ℕ) (k x : ℕ) → slice_get xs k ≡ Some x → is_listed xs x ≡ true
get_listed [] k x is = absurd (none-some x is)
get_listed (y ∷ xs) zero x is = subst (λ z. is_listed (y ∷ xs) z ≡ true) (same_Some y x is) (listed_first y xs)
get_listed (y ∷ xs) (suc k) x is = listed_later y x xs (get_listed xs k x is)

-- what comes once has one place
only_place : (before behind : List ℕ) (a k : ℕ) → has_no_repeat (before ++ a ∷ behind) ≡ true → slice_get (before ++ a ∷ behind) k ≡ Some a → k ≡ length before
only_place [] behind a zero once is = refl
only_place [] behind a (suc k) once is = absurd (true≢false (sym (get_listed behind k a is) ∙ once_first a behind once))
only_place (b ∷ before) behind a zero once is =
    let all = listed_append before (a ∷ behind) a in
    let there : is_listed (before ++ a ∷ behind) a ≡ true = grind (arith, nat_tests) in
    absurd (true≢false (sym there ∙ ap (is_listed (before ++ a ∷ behind)) (sym (same_Some b a is)) ∙ once_first b (before ++ a ∷ behind) once))
only_place (b ∷ before) behind a (suc k) once is = let rest = only_place before behind a k (once_later b (before ++ a ∷ behind) once) is in omega (arith, rest)

get_behind : (before behind : List ℕ) → slice_get (before ++ behind) (length before) ≡ slice_get behind 0
get_behind [] behind = refl
get_behind (b ∷ before) behind = get_behind before behind

-- the link of a block leads to the first one behind it
leads_from : (link : ℕ → ℕ) (holder a : ℕ) (before behind : List ℕ) → Leads link holder (before ++ a ∷ behind) → Leads link a behind
leads_from link holder a [] behind leads = leads.1
leads_from link holder a (b ∷ before) behind leads = leads_from link b a before behind leads.1

next_first : (link : ℕ → ℕ) (a : ℕ) (behind : List ℕ) → Leads link a behind → link a ≢ 0 → slice_get behind 0 ≡ Some (link a)
next_first link a [] leads some = absurd (some leads)
next_first link a (y ∷ ys) leads some = ap Some (sym leads.0)

-- ---- what is remembered

-- a block more is behind all
pub among_appended : (recent : Option RecentNode) (xs : List ℕ) (a : ℕ) → IsAmong recent xs → IsAmong recent (xs ++ a ∷ [])
among_appended None xs a is = tt
among_appended (Some file) xs a is = get_appended xs (a ∷ []) file.place file.address is

-- a block less: the one behind it takes its place
pub among_without : (link : ℕ → ℕ) (holder next : ℕ) (recent : Option RecentNode) (before behind : List ℕ) (a : ℕ) → has_no_repeat (before ++ a ∷ behind) ≡ true →
    Leads link holder (before ++ a ∷ behind) → next ≡ link a → IsAmong recent (before ++ a ∷ behind) → IsAmong (remembered_without recent a next) (before ++ behind)
among_without link holder next None before behind a once leads next_is is = tt
among_without link holder next (Some file) before behind a once leads next_is is =
    by (file.address == a && not (next == 0)) refl
  where
    by : (t : Bool) → (file.address == a && not (next == 0)) ≡ t → IsAmong (cond t (Some (record file { address = next })) None) (before ++ behind)
    by false e = tt
    by true e =
        let same : file.address ≡ a = grind (arith, nat_tests) in
        let some : next ≢ 0 = grind (arith, nat_tests) in
        let at = only_place before behind a file.place once (is ∙ ap Some same) in
        ap (slice_get (before ++ behind)) at ∙ get_behind before behind
        ∙ next_first link a behind (leads_from link holder a before behind leads) (λ z. some (next_is ∙ z)) ∙ ap Some (sym next_is)
