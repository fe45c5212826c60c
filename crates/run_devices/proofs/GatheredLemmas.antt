-- How what is told grows.
use Rattle.std.proofs.Common.{◌≡◌, ℕ, ◌+◌, ◌-◌, List, [], ◌++◌, length, take, drop, Option, Some, None, Result, Ok, Err, IsErrAnd, arith, refl, sym, ◌∙◌, ap, append_assoc, append-nil}
use Rattle.std.proofs.lemmas.List.{places, same_lists, take-append-drop, take_rest}
use Rattle.std.specs.Io.KnownBytes.{Appends}
use Rattle.run_devices.specs.RunOutput.{AppendsPart, Tells, OutputsPart, OutputsUnless}
use Rattle.std.proofs.lemmas.Bool.Decides.{nat_tests}

-- with nothing more, nothing grows
pub Appends-none : (known : Option (List ℕ)) → Appends known known []
Appends-none None = tt
Appends-none (Some xs) = sym (append-nil xs)

-- one growth after another
pub Appends-more : (a b c : Option (List ℕ)) (xs ys zs : List ℕ) → Appends a b xs → Appends b c ys → zs ≡ xs ++ ys → Appends a c zs
Appends-more None b c xs ys zs first then is = tt
Appends-more (Some ws) None c xs ys zs first then is = absurd first
Appends-more (Some ws) (Some bs) None xs ys zs first then is = absurd then
Appends-more (Some ws) (Some bs) (Some cs) xs ys zs first then is = rw (then, first, is) (append_assoc ws xs ys)

-- what is gathered is told
pub Tells-gathered : (written : Option (List ℕ)) (gathered grown bytes : List ℕ) → grown ≡ gathered ++ bytes → Tells written gathered written grown bytes
Tells-gathered written gathered grown bytes is = record { out = []; grows = Appends-none written; parts = is }

-- and nothing more, if nothing is done
pub Tells-none : (written : Option (List ℕ)) (gathered : List ℕ) → Tells written gathered written gathered []
Tells-none written gathered = Tells-gathered written gathered gathered [] (sym (append-nil gathered))

-- one text is told after another
pub Tells-more : {w w' w'' : Option (List ℕ)} {g g' g'' xs ys : List ℕ} → Tells w g w' g' xs → Tells w' g' w'' g'' ys → Tells w g w'' g'' (xs ++ ys)
Tells-more {g = g} {g'' = g''} {xs = xs} {ys = ys} first then = record {
  out = first.out ++ then.out;
  grows = Appends-more _ _ _ first.out then.out (first.out ++ then.out) first.grows then.grows refl;
  parts =
      append_assoc first.out then.out g'' ∙ ap (λ back. first.out ++ back) then.parts
      ∙ sym (append_assoc first.out _ ys) ∙ ap (λ front. front ++ ys) first.parts ∙ append_assoc g xs ys;
}

-- a write that fails loses what follows too
pub Tells-front : {w w' : Option (List ℕ)} {g lost xs : List ℕ} (ys : List ℕ) → Tells w g w' lost xs → Tells w g w' (lost ++ ys) (xs ++ ys)
Tells-front {g = g} {lost = lost} {xs = xs} ys tells = record {
  out = tells.out;
  grows = tells.grows;
  parts = sym (append_assoc tells.out lost ys) ∙ ap (λ front. front ++ ys) tells.parts ∙ append_assoc g xs ys;
}

-- the first n, and the first m of the others
pub take-rest : (n m : ℕ) (xs : List ℕ) → take (n + m) xs ≡ take n xs ++ take m (take (length xs - n) (drop n xs))
take-rest n m xs = grind (arith, nat_tests, same_lists, places, take_rest)

-- how what is written grows by what a write took
pub ruleset written_on = (Appends-more, take-rest)

-- a fault that is handed on tells of a part
pub told_err : {T E : Type 0} (Q : E → Type 0) {w w' : Option (List ℕ)} {g xs : List ℕ} (g' : List ℕ) (r : Result T E) → IsErrAnd r Q → OutputsPart w g w' xs → OutputsUnless r w g w' g' xs
told_err Q g' (Ok x) is part = absurd is
told_err Q g' (Err e) is part = part

-- a text is told, and then one unless a write fails
pub told_more : {T E : Type 0} {w w' : Option (List ℕ)} {g g' xs : List ℕ} (w'' : Option (List ℕ)) (g'' ys : List ℕ) (r : Result T E) → Tells w g w' g' xs → OutputsUnless r w' g' w'' g'' ys → OutputsUnless r w g w'' g'' (xs ++ ys)
told_more w'' g'' ys (Ok x) first then = Tells-more first then
told_more w'' g'' ys (Err e) first then = (then.0, Tells-more first (then.1))

-- ---- a part of what is told

-- the first n bytes are written
pub told_to : (old new : Option (List ℕ)) (bytes : List ℕ) (n : ℕ) → Appends old new (take n bytes) → AppendsPart old new bytes
told_to old new bytes n grows = record { part = take n bytes; left = drop n bytes; parts = sym (take-append-drop n bytes); grows = grows }

-- or none
pub told_none : (old : Option (List ℕ)) (bytes : List ℕ) → AppendsPart old old bytes
told_none old bytes = record { part = []; left = bytes; parts = refl; grows = Appends-none old }

pub ruleset told_in_part = (told_to, told_none)
