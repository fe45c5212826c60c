-- Runs over lists of calls, a component's part of them, and states that every call leaves.
use Rattle.std.proofs.Common.{◌≡◌, ℕ, ◌++◌, Bool, true, false, List, [], ◌∷◌, refl, cond, arith}
use Rattle.own_model.specs.Call.{Call}
use Rattle.own_model.specs.OwnState.{OwnState}
use Rattle.own_model.specs.OwnStep.{own_run, own_step}
use Rattle.own_model.specs.StartList.{Entry}
use Rattle.own_model.specs.Transcript.{Made, own_part}
use Rattle.std.proofs.lemmas.Bool.Decides.{nat_tests}

-- a run over two lists is the run over the first and then the second
pub own_run-append : (entry : Entry) (xs ys : List Call) (s : OwnState) → own_run entry (xs ++ ys) s ≡ own_run entry ys (own_run entry xs s)
own_run-append entry [] ys s = refl
own_run-append entry (x ∷ xs) ys s = own_run-append entry xs ys (own_step entry x s).next

-- one call, before others, is in the part or not
part_front : (test : Bool) (x : Call) (xs ys : List Call) → cond test (x ∷ (xs ++ ys)) (xs ++ ys) ≡ cond test (x ∷ xs) xs ++ ys
part_front true x xs ys = refl
part_front false x xs ys = refl

-- the part of two lists is the part of the first and then of the second
pub own_part-append : (component : ℕ) (xs ys : List Made) → own_part component (xs ++ ys) ≡ own_part component xs ++ own_part component ys
own_part-append component [] ys = refl
own_part-append component (x ∷ xs) ys = grind (arith, nat_tests, part_front, own_part-append component xs ys)
