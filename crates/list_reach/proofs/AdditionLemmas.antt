-- Elements that are added to a list one after another.
use Rattle.std.proofs.Common.{List, [], ◌∷◌, ◌++◌, map, sym, ap, ◌∙◌}
use Rattle.std.specs.Prelude.{All}
use Rattle.std.proofs.lemmas.List.{append-nil, append_assoc, map-append}
use Rattle.std.proofs.lemmas.List.Elements.{All-push}
use Rattle.list_reach.specs.Additions.{AddsBy}

module _ {X Y : Type 0} (shown : X → Y) (IsSound : X → Type 0) where
  pub adds_none : (all : List X) → All IsSound all → AddsBy shown IsSound all [] all
  adds_none all sound = record { added = sym (append-nil (map shown all)); sound = sound }

  pub adds_one : (all : List X) (one : X) → All IsSound all → IsSound one → AddsBy shown IsSound all (shown one ∷ []) (all ++ one ∷ [])
  adds_one all one sound is = record { added = map-append shown all (one ∷ []); sound = All-push IsSound all one sound is }

  pub adds_then : (old between new : List X) (first then : List Y) → AddsBy shown IsSound old first between
      → AddsBy shown IsSound between then new → AddsBy shown IsSound old (first ++ then) new
  adds_then old between new first then one two =
      record {
        added = two.added ∙ (ap (λ m. m ++ then) one.added ∙ append_assoc (map shown old) first then);
        sound = two.sound;
      }
