-- Names that a text doesn't read.
use Rattle.std.proofs.Common.{◌≡◌, ◌∙◌, ℕ, ◌<◌, ◌≤◌, ◌+◌, ◌||◌, false, true, List, ◌∷◌, length, drop, get_or, map, Option, Some, None, ap, sym, subst}
use Rattle.std.specs.Borrow.{Bor}
use Rattle.std.specs.Prelude.{All, IfSome}
use Rattle.std.proofs.lemmas.List.{drop_all, drop_more, get_or_default}
use Rattle.std.proofs.lemmas.List.Elements.{All-map}
use Rattle.cli_base.specs.Given.{HasUnread, LacksName, has_use_first, name_in, has_use}

pub name_passed : (name text : List ℕ) (at : ℕ) → at < length text → has_use_first name (drop at text) ≡ false
    → has_use name text ≡ has_use name (drop at text) → has_use name text ≡ has_use name (drop (at + 1) text)
name_passed name text at within lost so =
    let split = drop_more text at 0 within in
    let here : has_use_first name (get_or text at 0 ∷ drop (at + 1) text) ≡ false = ap (λ t. has_use_first name t) (sym split) ∙ lost in
    so ∙ (ap (λ t. has_use name t) split ∙ ap (λ b. b || has_use name (drop (at + 1) text)) here)

pub name_found : (name text : List ℕ) (at : ℕ) → at < length text → has_use_first name (drop at text) ≡ true
    → has_use name text ≡ has_use name (drop at text) → has_use name text ≡ true
name_found name text at within is so =
    let split = drop_more text at 0 within in
    let here : has_use_first name (get_or text at 0 ∷ drop (at + 1) text) ≡ true = ap (λ t. has_use_first name t) (sym split) ∙ is in
    so ∙ (ap (λ t. has_use name t) split ∙ ap (λ b. b || has_use name (drop (at + 1) text)) here)

pub name_none : (name text : List ℕ) (at : ℕ) → length text ≤ at → has_use name text ≡ has_use name (drop at text)
    → has_use name text ≡ false
name_none name text at end so = so ∙ ap (λ t. has_use name t) (drop_all at text end)

-- a file whose text doesn't read a name doesn't
pub lacks_by : (known : Option (List ℕ)) (name text : List ℕ) → IfSome known (λ bytes. text ≡ bytes) → has_use name text ≡ false
    → IfSome known (λ bytes. has_use name bytes ≡ false)
lacks_by None name text is none = tt
lacks_by (Some bytes) name text is none = subst (λ t. has_use name t ≡ false) is none

-- one of these arguments gives a name that no file reads
pub unread_one : (texts : List ℕ → Option (List ℕ)) (paths arguments : List (Bor (List ℕ))) (place : ℕ) (other : Bor (List ℕ)) (name : List ℕ)
    → place < length arguments → name ≡ name_in (get_or arguments place other).now → All (λ (path : Bor (List ℕ)). LacksName texts name path.now) paths
    → HasUnread texts (map (λ (path : Bor (List ℕ)). path.now) paths) arguments
unread_one texts paths arguments place other name within is lacks = (
  place,
  get_or arguments place other,
  within,
  get_or_default arguments place (get_or arguments place other) other within,
  All-map (LacksName texts (name_in (get_or arguments place other).now)) (λ (path : Bor (List ℕ)). path.now) paths
      (subst (λ (n : List ℕ). All (λ (path : Bor (List ℕ)). LacksName texts n path.now) paths) is lacks),
)
