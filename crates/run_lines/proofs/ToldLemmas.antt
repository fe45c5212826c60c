-- What is told of lines and then of others, and the world that both leave.
use Rattle.std.proofs.Common.{◌≡◌, List, ℕ, [], ◌∷◌, ◌++◌, Option, Some, None, refl, sym, ◌∙◌, ap, append_assoc}
use Rattle.std.proofs.lemmas.List.Elements.{filter-append}
use Rattle.own_model.specs.Running.{told_now}
use Rattle.own_model.specs.LinesOfName.{is_line_of, said_by}
use Rattle.own_model.specs.Transcript.{heard}
use Rattle.own_model.specs.World.{World, world_after_line, world_running}
use Rattle.run_lines.specs.Answered.{after_all, output_of_lines}

-- a name's lines among lines and then others
pub said_by-append : (only : Option (List ℕ)) (xs ys : List (List ℕ)) → said_by only (xs ++ ys) ≡ said_by only xs ++ said_by only ys
said_by-append None xs ys = refl
said_by-append (Some name) xs ys = filter-append (is_line_of name) xs ys

-- what lines leave, and then others
pub world_running-append : (world : World) (xs ys : List (List ℕ)) → world_running (world_running world xs) ys ≡ world_running world (xs ++ ys)
world_running-append world [] ys = refl
world_running-append world (x ∷ xs) ys = world_running-append (world_after_line world (heard world.entries x)) xs ys

-- what is told of lines, and then of others
pub running_transcript-append : (world : World) (xs ys : List (List ℕ)) → output_of_lines None world (xs ++ ys) ≡ output_of_lines None world xs ++ output_of_lines None (world_running world xs) ys
running_transcript-append world [] ys = refl
running_transcript-append world (x ∷ xs) ys =
    let told = told_now world.entries world.states (heard world.entries x) in
    let next = world_after_line world (heard world.entries x) in
    ap (λ text. told ++ text) (running_transcript-append next xs ys)
    ∙ sym (append_assoc told (output_of_lines None next xs) (output_of_lines None (world_running next xs) ys))

module _ (only : Option (List ℕ)) where
  -- the same from the world that the first lines left
  pub told_of_both : (world mid : World) (xs ys : List (List ℕ)) → mid ≡ after_all only world xs → output_of_lines only world xs ++ output_of_lines only mid ys ≡ output_of_lines only world (xs ++ ys)
  told_of_both world mid xs ys left =
      rw left (sym (ap (output_of_lines None world) (said_by-append only xs ys) ∙ running_transcript-append world (said_by only xs) (said_by only ys)))

  -- and the world that both leave
  pub left_by_both : (world mid last : World) (xs ys : List (List ℕ)) → mid ≡ after_all only world xs → last ≡ after_all only mid ys → last ≡ after_all only world (xs ++ ys)
  left_by_both world mid last xs ys left then =
      then ∙ ap (λ w. after_all only w ys) left ∙ world_running-append world (said_by only xs) (said_by only ys) ∙ ap (world_running world) (sym (said_by-append only xs ys))

-- a name has no line where there is none
pub said_none : (only : Option (List ℕ)) → said_by only [] ≡ []
said_none None = refl
said_none (Some name) = refl

-- so nothing is told, and nothing changes
pub told_none : (only : Option (List ℕ)) (world : World) → output_of_lines only world [] ≡ []
told_none only world = ap (output_of_lines None world) (said_none only)

pub left_none : (only : Option (List ℕ)) (world : World) → after_all only world [] ≡ world
left_none only world = ap (world_running world) (said_none only)
