-- What is so of calls that may be refused.
use Rattle.std.proofs.Common.{rules, ◌≡◌, ℕ, List, cond, is_some, IsSome, Some, refl, sym, ap, subst, true≢false, ◌∙◌}
use Rattle.std.specs.Prelude.{Option, None, SomeIff, Result, Ok, Err, MatchResult, IsErrAnd, is_ok, IfOk, OnErr}
use Rattle.std.specs.Result.{result_ok}
use Rattle.std.specs.FinMap.{get}
use Rattle.trade_base.specs.declared.refusal.Refusal.{Refusal}
use Rattle.trade_base.specs.declared.refusal.Refusal.TheVariants.{PageFault}
use Rattle.own_model.specs.NatMap.{NatMap}
use Rattle.region_map.specs.Regions.{Regions}
use Rattle.dataspace_core.specs.Store.{Store}
use Rattle.heap_core.specs.declared.heap.Heap.{Heap}
use Rattle.sliced_heap.specs.declared.heap.SlicedHeap.{SlicedHeap}
use Rattle.session_nodes.specs.SoundHeaps.{HasSoundHeaps, KeepsSession}

-- what an accepted call tells gives more
pub if_ok_then : {X E : Type 0} {P Q : X → Type 0} (r : Result X E) → IfOk r P → ((x : X) → P x → Q x) → IfOk r Q
if_ok_then (Ok x) p f = f x p
if_ok_then (Err e) p f = p

-- what is so of an accepted call, and of a refused one that changes nothing
pub either_way : {X E Q : Type 0} {P : X → Type 0} {A B C : Type 0} (r : Result X E) → IfOk r P → OnErr r A → OnErr r B → OnErr r C → ((x : X) → P x → Q) → (A → B → C → Q) → Q
either_way (Ok x) p a b c f g = f x p
either_way (Err e) p a b c f g = g a b c

-- to change nothing keeps a session
pub keeps_same : {heap later : Heap} {sliced now : SlicedHeap} {store new : Store} {regions after : Regions} → HasSoundHeaps heap sliced store regions →
    later ≡ heap → now ≡ sliced → new ≡ store → after ≡ regions → KeepsSession sliced later now store new regions after
keeps_same {heap} {later} {sliced} {now} {store} {new} {regions} {after} f h s m r = search rules

-- an address where a payload starts isn't refused
pub free_ok : {o : Option Refusal} {m n : NatMap (List ℕ)} (address : ℕ) → n ≡ m → IsSome (get n address) → o ≡ cond (is_some (get m address)) None (Some PageFault) → o ≡ None
free_ok address same some is = is ∙ ap (λ b. cond b None (Some PageFault)) (ap (λ (k : NatMap (List ℕ)). is_some (get k address)) (sym same) ∙ some)

-- what is Err after its error was mapped was Err before
pub err_case : {X E D : Type 0} (r : Result X E) (mapped : Result X D) (d : D) (Q : E → Type 0) → MatchResult r (λ x. mapped ≡ Ok x) Q → is_ok mapped ≡ is_ok r → mapped ≡ Err d →
    (e : E) × ((r ≡ Err e) × Q e)
err_case (Ok x) mapped d Q cases variant is = absurd (true≢false (sym variant ∙ ap is_ok is))
err_case (Err e) mapped d Q cases variant is = (e, (refl, cases))

-- what is so of the error
pub err_and : {X D : Type 0} (r : Result X D) (d : D) (P : D → Type 0) → r ≡ Err d → IsErrAnd r P → P d
err_and r d P is so = subst (λ q. IsErrAnd q P) is so

-- what is Ok after its error was mapped was Ok before
pub was_ok : {T E D : Type 0} (self : Result T E) (mapped : Result T D) (x : T) (Q : E → Type 0) → MatchResult self (λ y. mapped ≡ Ok y) Q → is_ok mapped ≡ is_ok self → mapped ≡ Ok x → self ≡ Ok x
was_ok (Ok y) mapped x Q cases variant is = let e : y ≡ x = cc in ap Ok e
was_ok (Err e) mapped x Q cases variant is = absurd (true≢false (ap is_ok (sym is) ∙ variant))

-- a sum or a product that is returned is it
pub sum_is : {E : Type 0} (o : Option ℕ) (r : Result ℕ E) (P : Type 0) (n sum : ℕ) → SomeIff o P sum → o ≡ result_ok r → r ≡ Ok n → n ≡ sum
sum_is o r P n sum iff ok is = let told = subst (λ (x : Option ℕ). SomeIff x P sum) (ok ∙ ap result_ok is) iff in told.1
