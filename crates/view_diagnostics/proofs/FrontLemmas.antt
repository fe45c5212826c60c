-- A text that is output piece by piece: what of it is output already, and what is left.
use Rattle.std.proofs.Common.{◌≡◌, ℕ, List, [], ◌++◌, Option, Result, subst, sym, ◌∙◌, ap, append_assoc, append-nil}
use Rattle.run_devices.specs.RunOutput.{Tells, OutputsPart, OutputsUnless}
use Rattle.run_devices.proofs.GatheredLemmas.{Tells-more, Tells-front}

-- a front of a text is output, and this is left of it
pub record OutputsFront (whole left : List ℕ) (written : Option (List ℕ)) (gathered : List ℕ)
    (now_written : Option (List ℕ)) (now_gathered : List ℕ) : Type 0 where
  pub done : List ℕ
  pub parts : done ++ left ≡ whole
  pub tells : Tells written gathered now_written now_gathered done

-- one more piece
pub front_more : {w w' w'' : Option (List ℕ)} {g g' g'' : List ℕ} (whole left piece rest : List ℕ) → OutputsFront whole left w g w' g' → left ≡ piece ++ rest → Tells w' g' w'' g'' piece → OutputsFront whole rest w g w'' g''
front_more whole left piece rest front is tells = record {
  done = front.done ++ piece;
  parts = append_assoc front.done piece rest ∙ ap (λ back. front.done ++ back) (sym is) ∙ front.parts;
  tells = Tells-more front.tells tells;
}

-- a piece of which a write failed
pub front_failed : {w w' w'' : Option (List ℕ)} {g g' : List ℕ} (whole left piece rest : List ℕ) → OutputsFront whole left w g w' g' → left ≡ piece ++ rest → OutputsPart w' g' w'' piece → OutputsPart w g w'' whole
front_failed {w} {w'} {w''} {g} whole left piece rest front is part = (
  part.0 ++ rest,
  subst (λ text. Tells w g w'' (part.0 ++ rest) text) (ap (λ back. front.done ++ back) (sym is) ∙ front.parts)
      (Tells-more front.tells (Tells-front rest part.1)),
)

-- nothing is left
pub front_all : {w w' : Option (List ℕ)} {g g' : List ℕ} (whole left : List ℕ) → OutputsFront whole left w g w' g' → left ≡ [] → Tells w g w' g' whole
front_all {w} {w'} {g} {g'} whole left front is =
    subst (λ text. Tells w g w' g' text) (sym (append-nil front.done) ∙ ap (λ back. front.done ++ back) (sym is) ∙ front.parts) front.tells

-- a text that is another one
pub output_as : {T E : Type 0} (r : Result T E) (w : Option (List ℕ)) (g : List ℕ) (w' : Option (List ℕ)) (g' xs ys : List ℕ) → xs ≡ ys → OutputsUnless r w g w' g' xs → OutputsUnless r w g w' g' ys
output_as r w g w' g' xs ys is outputs = subst (λ text. OutputsUnless r w g w' g' text) is outputs
