-- The account list: its lines one after another, and what is left of it where a write fails.
use Rattle.std.proofs.Common.{◌≡◌, ℕ, ◌+◌, ◌<◌, ◌≤◌, ◌-◌, true, false, eqb, eqb-true, get_or, zero, suc, T, List, [], ◌∷◌, ◌++◌, length, map, take, drop, Option, Some, None, Result, Ok, Err, OnOk, OnErr, inl, inr, refl, sym, ap, ◌∙◌, subst, arith, nat_cmp, Less, append_assoc, append-nil}
use Rattle.std.proofs.Math.Seq.{take-suc}
use Rattle.std.proofs.lemmas.Bool.{cases_lt, eq-eqb}
use Rattle.std.proofs.lemmas.Bool.Decides.{nat_tests}
use Rattle.std.proofs.lemmas.Grind.{flat_map-append}
use Rattle.std.proofs.lemmas.List.{length-map, take_all, take-append-drop}
use Rattle.std.proofs.lemmas.List.Concat.{flat_map-cons}
use Rattle.std.proofs.lemmas.Option.{none-some}
use Rattle.std.proofs.lemmas.List.FromFn.{get_or-enumerate_from, length-enumerate_from}
use Rattle.std.specs.Cmp.{ranked}
use Rattle.std.specs.FinMap.{get, entries, entries_sorted, get-entries, is_sorted}
use Rattle.std.specs.FinMap.Entries.{below_all}
use Rattle.std.specs.Io.KnownBytes.{Appends}
use Rattle.std.specs.List.{enumerate_from, flat_map}
use Rattle.std.specs.Option.{option_map_or}
use Rattle.own_model.proofs.EntryLemmas.{value_of, value_of_first, value_of_later}
use Rattle.own_model.proofs.NatMapLemmas.{both_parts, is_less}
use Rattle.own_model.specs.AccountList.{object_line, session_lines}
use Rattle.own_model.specs.Listed.{Listed, start_list_of, start_of}
use Rattle.own_model.specs.OwnState.{Object, OwnState}
use Rattle.own_model.specs.StartList.{entries_of}
use Rattle.own_model.specs.World.{World}
use Rattle.run_lines.specs.Accounts.{selected_line}
use Rattle.run_devices.specs.RunOutput.{AppendsPart, Tells, OutputsPart, OutputsUnless}
use Rattle.run_devices.proofs.GatheredLemmas.{Tells-more, Tells-front}

-- ---- keys one after another

-- a key is another than a greater one, or than a less one
less_apart : (k j : ℕ) → k < j → eqb k j ≡ false
less_apart k j less = grind (arith, nat_tests)

more_apart : (k j : ℕ) → j < k → eqb k j ≡ false
more_apart k j more = grind (arith, nat_tests)

apart_less : (k j : ℕ) → eqb k j ≡ false → j ≤ k → j < k
apart_less k j apart within = grind (arith, nat_tests)

module _ {X : Type 0} where
  -- rising entries have no key up to one that is below them
  free_upto : (k j : ℕ) (es : List (ℕ × X)) → k ≤ j → T (below_all nat_cmp j es) → value_of k es ≡ None
  free_upto k j [] within h = refl
  free_upto k j (e ∷ es) within h =
      let parts = both_parts _ _ h in
      let above : j < e.0 = ranked j e.0 Less (sym (is_less _ parts.0)) in
      value_of_later k e es (less_apart k e.0 (omega (arith, within, above))) ∙ free_upto k j es within parts.1

module _ {X : Type 0} (f : ℕ → X → List ℕ) where
  -- what is told of a key
  abbrev told_at : ℕ → Option X → List ℕ
  told_at k o = option_map_or (λ v. f k v) o []

  -- and of so many keys, from one on
  abbrev pub told_from : (ℕ → Option X) → ℕ → ℕ → List ℕ
  told_from g a zero = []
  told_from g a (suc n) = told_at a (g a) ++ told_from g (suc a) n

  -- of some, and then of others
  told_both : (g : ℕ → Option X) (a m n k : ℕ) → k ≡ m + n → told_from g a k ≡ told_from g a m ++ told_from g (a + m) n
  told_both g a zero n k is =
      let at : a ≡ a + zero = omega arith in
      let all : k ≡ n = omega (arith, is) in
      ap (told_from g a) all ∙ ap (λ b. told_from g b n) at
  told_both g a (suc m) n zero is = absurd (omega (arith, is))
  told_both g a (suc m) n (suc k) is =
      let at : suc a + m ≡ a + suc m = omega arith in
      let rest : k ≡ m + n = omega (arith, is) in
      ap (λ l. told_at a (g a) ++ l) (told_both g (suc a) m n k rest)
      ∙ sym (append_assoc (told_at a (g a)) (told_from g (suc a) m) (told_from g (suc a + m) n))
      ∙ ap (λ b. (told_at a (g a) ++ told_from g (suc a) m) ++ told_from g b n) at

  -- one key more
  pub told_more_keys : (g : ℕ → Option X) (n : ℕ) → told_from g 0 (n + 1) ≡ told_from g 0 n ++ told_at n (g n)
  told_more_keys g n =
      let at : 0 + n ≡ n = omega arith in
      told_both g 0 n 1 (n + 1) refl
      ∙ ap (λ b. told_from g 0 n ++ told_from g b 1) at
      ∙ ap (λ l. told_from g 0 n ++ l) (append-nil (told_at n (g n)))

  -- keys to which a look-up finds rising entries' values, and no others, are told as the entries
  told_entries : (g : ℕ → Option X) (n a : ℕ) (es : List (ℕ × X)) → T (is_sorted nat_cmp es) → ((k : ℕ) → a ≤ k → g k ≡ value_of k es) →
      ((k : ℕ) → k < a → value_of k es ≡ None) → ((k : ℕ) → a + n ≤ k → value_of k es ≡ None) → told_from g a n ≡ flat_map (λ e. f e.0 e.1) es
  told_entries g zero a [] h gives below above = refl
  told_entries g zero a (e ∷ es) h gives below above =
      let here : value_of e.0 (e ∷ es) ≡ Some e.1 = value_of_first e.0 e es (eq-eqb e.0 e.0 refl) in
      elim (cases_lt e.0 a) [
        | inl less ↦ absurd (none-some e.1 (sym (below e.0 less) ∙ here))
        | inr more ↦ absurd (none-some e.1 (sym (above e.0 (omega (arith, more))) ∙ here))
      ]
  told_entries g (suc n) a [] h gives below above =
      ap (λ o. told_at a o ++ told_from g (suc a) n) (gives a (omega arith))
      ∙ told_entries g n (suc a) [] h (λ k more. gives k (omega (arith, more))) (λ k less. refl) (λ k more. refl)
  told_entries g (suc n) a (e ∷ es) h gives below above =
      let parts = both_parts _ _ h in
      let here : value_of e.0 (e ∷ es) ≡ Some e.1 = value_of_first e.0 e es (eq-eqb e.0 e.0 refl) in
      elim (eqb a e.0) as (λ b. eqb a e.0 ≡ b → told_from g a (suc n) ≡ flat_map (λ (e : ℕ × X). f e.0 e.1) (e ∷ es)) [
        | true ↦ λ t.
            let key : a ≡ e.0 = eqb-true a e.0 t in
            let first : g a ≡ Some e.1 = gives a (omega arith) ∙ value_of_first a e es t in
            let rest : told_from g (suc a) n ≡ flat_map (λ (e : ℕ × X). f e.0 e.1) es =
            told_entries g n (suc a) es parts.1
            (λ k more. gives k (omega (arith, more)) ∙ value_of_later k e es (more_apart k e.0 (omega (arith, more, key))))
            (λ k less. free_upto k e.0 es (omega (arith, less, key)) parts.0)
            (λ k more. sym (value_of_later k e es (more_apart k e.0 (omega (arith, more, key)))) ∙ above k (omega (arith, more))) in
            ap (λ o. told_at a o ++ told_from g (suc a) n) first
            ∙ ap (λ k. f k e.1 ++ told_from g (suc a) n) key
            ∙ ap (λ l. f e.0 e.1 ++ l) rest
            ∙ sym (flat_map-cons (λ (e : ℕ × X). f e.0 e.1) e es)
        | false ↦ λ t.
            elim (cases_lt a e.0) [
              | inl less ↦
                  let none : value_of a (e ∷ es) ≡ None = value_of_later a e es t ∙ free_upto a e.0 es (omega (arith, less)) parts.0 in
                  ap (λ o. told_at a o ++ told_from g (suc a) n) (gives a (omega arith) ∙ none)
                  ∙ told_entries g n (suc a) (e ∷ es) h (λ k more. gives k (omega (arith, more)))
                  (λ k less_more. elim (cases_lt k a) [
                    | inl less_still ↦ below k less_still
                    | inr more ↦ let at : a ≡ k = omega (arith, less_more, more) in subst (λ j. value_of j (e ∷ es) ≡ None) at none
                  ])
                  (λ k more. above k (omega (arith, more)))
              | inr more ↦ absurd (none-some e.1 (sym (below e.0 (apart_less a e.0 t more)) ∙ here))
            ]
      ] refl

-- ---- open sessions

module _ (name : List ℕ) (s : OwnState) where
  abbrev named : ℕ → Option Object
  named k = get s.selectors k

  abbrev line : ℕ → Object → List ℕ
  line = object_line name

  -- what is told of a component's keys up to the last are the lines of its open sessions
  lines_of_sessions : (n : ℕ) → ((k : ℕ) → n ≤ k → named k ≡ None) → told_from line named 0 n ≡ session_lines name s
  lines_of_sessions n none =
      told_entries line named n 0 (entries s.selectors) (entries_sorted s.selectors) (λ k more. get-entries s.selectors k)
      (λ k less. absurd (omega (arith, less))) (λ k more. sym (get-entries s.selectors k) ∙ none k (omega (arith, more)))

  -- of these the first are told, then one, and then the others
  pub sessions_cut : (n i : ℕ) → i < n → ((k : ℕ) → n ≤ k → named k ≡ None) →
      session_lines name s
      ≡ (told_from line named 0 i ++ selected_line name s i) ++ told_from line named (0 + (i + 1)) (n - (i + 1))
  sessions_cut n i within none =
      let parts : n ≡ (i + 1) + (n - (i + 1)) = omega (arith, within) in
      sym (lines_of_sessions n none) ∙ told_both line named 0 (i + 1) (n - (i + 1)) n parts
      ∙ ap (λ l. l ++ told_from line named (0 + (i + 1)) (n - (i + 1))) (told_more_keys line named i)

  -- the last is told
  pub sessions_last : (i : ℕ) → ((k : ℕ) → i + 1 ≤ k → named k ≡ None) →
      session_lines name s ≡ told_from line named 0 i ++ selected_line name s i
  sessions_last i none = sym (lines_of_sessions (i + 1) none) ∙ told_more_keys line named i

-- ---- components in their order

module _ {X : Type 0} (missing : X) (f : ℕ × X → List ℕ) (es : List X) where
  -- one component more
  pub component_more : (i : ℕ) → i < length es → flat_map f (take (i + 1) (enumerate_from 0 es)) ≡ flat_map f (take i (enumerate_from 0 es)) ++ f (i, get_or es i missing)
  component_more i within =
      let next : i + 1 ≡ suc i = omega arith in
      let first : 0 + i ≡ i = omega arith in
      let inside : i < length (enumerate_from 0 es) = omega (arith, within, length-enumerate_from 0 es) in
      let here : ℕ × X = (i, get_or es i missing) in
      ap (λ n. flat_map f (take n (enumerate_from 0 es))) next
      ∙ ap (flat_map f) (take-suc (enumerate_from 0 es) i (0, missing) inside ∙ ap (λ e. take i (enumerate_from 0 es) ++ e ∷ []) (get_or-enumerate_from 0 es i (0, missing) within ∙ ap (λ (k : ℕ). (k, get_or es i missing)) first))
      ∙ flat_map-append f (take i (enumerate_from 0 es)) (here ∷ [])
      ∙ ap (λ l. flat_map f (take i (enumerate_from 0 es)) ++ l) (flat_map-cons f here [] ∙ append-nil (f here))

  -- the first, then one, and then the others
  pub component_cut : (i : ℕ) → i < length es →
      flat_map f (enumerate_from 0 es) ≡ (flat_map f (take i (enumerate_from 0 es)) ++ f (i, get_or es i missing)) ++ flat_map f (drop (i + 1) (enumerate_from 0 es))
  component_cut i within =
      ap (flat_map f) (sym (take-append-drop (i + 1) (enumerate_from 0 es)))
      ∙ flat_map-append f (take (i + 1) (enumerate_from 0 es)) (drop (i + 1) (enumerate_from 0 es))
      ∙ ap (λ l. l ++ flat_map f (drop (i + 1) (enumerate_from 0 es))) (component_more i within)

  -- and all
  pub component_all : (i : ℕ) → length es ≤ i → flat_map f (take i (enumerate_from 0 es)) ≡ flat_map f (enumerate_from 0 es)
  component_all i past = ap (flat_map f) (take_all i (enumerate_from 0 es) (omega (arith, past, length-enumerate_from 0 es)))

-- a world with a list's entries has as many, and as many states where these are as many
pub entries_listed : (list : Listed) (world : World) → world.entries ≡ entries_of (start_list_of list) → length world.entries ≡ length list.entries
entries_listed list world listed = ap length listed ∙ length-map (map (start_of list) list.entries) (λ start. start.entry) ∙ length-map list.entries (start_of list)

-- a place of the world is one of the list
pub entries_within : (list : Listed) (world : World) {place : ℕ} → world.entries ≡ entries_of (start_list_of list) → place < length world.entries → place < length list.entries
entries_within list world listed within = omega (arith, within, entries_listed list world listed)

-- ---- what is told

-- a text by another that it is
pub told_as : {T E : Type 0} (r : Result T E) (w w' : Option (List ℕ)) (g g' : List ℕ) {xs whole : List ℕ} → whole ≡ xs → OutputsUnless r w g w' g' xs → OutputsUnless r w g w' g' whole
told_as r w w' g g' is told = subst (λ text. OutputsUnless r w g w' g' text) (sym is) told

pub told_by : {w w' : Option (List ℕ)} {g g' xs whole : List ℕ} → whole ≡ xs → Tells w g w' g' xs → Tells w g w' g' whole
told_by {w} {w'} {g} {g'} is told = subst (λ text. Tells w g w' g' text) (sym is) told

-- the line that comes first is told only in part
pub told_first : {w w' : Option (List ℕ)} {g line whole : List ℕ} (rest : List ℕ) → whole ≡ line ++ rest → OutputsPart w g w' line → OutputsPart w g w' whole
told_first {w} {w'} {g} rest is part = (part.0 ++ rest, subst (λ text. Tells w g w' (part.0 ++ rest) text) (sym is) (Tells-front rest (part.1)))

module _ {w w' w'' : Option (List ℕ)} {g g' xs line whole : List ℕ} where
  -- a text, and then a line
  pub told_on : {g'' : List ℕ} → whole ≡ xs ++ line → Tells w g w' g' xs → Tells w' g' w'' g'' line → Tells w g w'' g'' whole
  told_on {g'' = g''} is first then = subst (λ text. Tells w g w'' g'' text) (sym is) (Tells-more first then)

  -- or the line only in part, and nothing after it
  pub told_cut : {lost : List ℕ} (rest : List ℕ) → whole ≡ (xs ++ line) ++ rest → Tells w g w' g' xs → Tells w' g' w'' lost line → OutputsPart w g w'' whole
  told_cut {lost = lost} rest is first then =
      (lost ++ rest, subst (λ text. Tells w g w'' (lost ++ rest) text) (sym is) (Tells-front rest (Tells-more first then)))

-- a text that was gathered is written
pub list_written : {w w' w'' : Option (List ℕ)} {g g' g'' text : List ℕ} → g ≡ [] → g'' ≡ [] → Tells w g w' g' text → Tells w' g' w'' g'' [] → Appends w w'' text
list_written {w = w} {w'' = w''} {g'' = g''} {text = text} none left first then =
    let both = Tells-more first then in
    subst (Appends w w'')
    (sym (append-nil both.out) ∙ ap (λ l. both.out ++ l) (sym left) ∙ both.parts ∙ ap (λ l. l ++ (text ++ [])) none ∙ append-nil text)
    both.grows

-- or a part of it
pub list_in_part : {w w' : Option (List ℕ)} {g text : List ℕ} → g ≡ [] → OutputsPart w g w' text → AppendsPart w w' text
list_in_part {text = text} none part =
    record { part = part.1.out; left = part.0; parts = sym (part.1.parts ∙ ap (λ l. l ++ text) none); grows = part.1.grows }

-- what holds does so on a fault
pub on_err : {T E P : Type 0} (r : Result T E) → P → OnErr r P
on_err (Ok done) holds = tt
on_err (Err fault) holds = holds

-- a flush fails
pub list_cut : {w w' w'' : Option (List ℕ)} {g g' text : List ℕ} → g ≡ [] → Tells w g w' g' text → OutputsPart w' g' w'' [] → AppendsPart w w'' text
list_cut {w = w} {w'' = w''} {g = g} {text = text} none first then =
    list_in_part none (then.0, subst (λ t. Tells w g w'' then.0 t) (append-nil text) (Tells-more first then.1))

-- and that by what the flush answers
pub flushed : {T E : Type 0} (r : Result T E) {w w' : Option (List ℕ)} {g g' text : List ℕ} (w'' : Option (List ℕ)) (g'' : List ℕ) → g ≡ [] → OnOk r (g'' ≡ []) → Tells w g w' g' text →
    OutputsUnless r w' g' w'' g'' [] → OnOk r (Appends w w'' text)
flushed (Ok done) w'' g'' none left first then = list_written none left first then
flushed (Err fault) w'' g'' none left first then = tt

pub flushed_in_part : {T E : Type 0} (r : Result T E) {w w' : Option (List ℕ)} {g g' text : List ℕ} (w'' : Option (List ℕ)) (g'' : List ℕ) → g ≡ [] → Tells w g w' g' text →
    OutputsUnless r w' g' w'' g'' [] → OnErr r (AppendsPart w w'' text)
flushed_in_part (Ok done) w'' g'' none first then = tt
flushed_in_part (Err fault) w'' g'' none first then = list_cut none first then
