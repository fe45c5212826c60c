-- What a call leaves that changes words of chunks alone.
use Rattle.std.proofs.Common.{rules, ◌≡◌, ◌≢◌, ℕ, suc, ◌<◌, ◌==◌, true, false, cond, List, [], ◌∷◌, length, get_or, refl, sym, ap, subst, ◌∙◌, ⊎_elim, true≢false, arith, Some, is_some}
use Rattle.std.proofs.lemmas.Bool.{cases_eq}
use Rattle.std.proofs.lemmas.Bool.Decides.{nat_tests}
use Rattle.std.specs.Prelude.{Option, None}
use Rattle.std.specs.Option.{option_map, option_and_then}
use Rattle.std.specs.FinMap.{get}
use Rattle.own_model.proofs.ByteLemmas.{length-zeros}
use Rattle.own_model.proofs.NatMapLemmas.{same, get-picked}
use Rattle.dataspace_core.specs.Store.{Store, Space, part, bytes_of, bytes_paid_by, PartBecomes, root_in, parents_in, room_in, LengthsStay}
use Rattle.dataspace_core.proofs.PartLaws.{paid_in_part, bytes_of-paid}
use Rattle.heap_core.specs.Words.{Around, around, spaces_but, blank_if, is_among, bytes_in_store, words_of, word_in}
use Rattle.heap_core.proofs.StandLemmas.{words_same}

-- a key that is among these is one of them
pub among_found : (keys : List ℕ) (k : ℕ) → is_among keys k ≡ true → (i : ℕ) × (i < length keys) × (get_or keys i 0 ≡ k)
among_found [] k h = absurd (true≢false (sym h))
among_found (x ∷ xs) k h = ⊎_elim
    (λ (here : x ≡ k). (0, omega arith, here))
    (λ (other : x ≢ k).
    let t : (x == k) ≡ false = grind (arith, nat_tests) in
    let rest = among_found xs k (grind (arith, nat_tests)) in
    (suc rest.0, (let l = rest.1 in omega (arith, l)), rest.2))
    (cases_eq x k)

-- what a part has of a dataspace
pub get-part : (account : ℕ) (store : Store) (k : ℕ) → get (part account store).spaces k ≡ option_and_then (bytes_paid_by account) (get store.spaces k)
unfolding part
get-part account store k = get-picked (bytes_paid_by account) store.spaces k

payer_blank : (o : Option Space) → option_map (λ (s : Space). s.payer) (option_map (blank_if true) o) ≡ option_map (λ (s : Space). s.payer) o
payer_blank None = refl
payer_blank (Some s) = refl

length_blank : (o : Option Space) → option_map (λ (s : Space). length s.bytes) (option_map (blank_if true) o) ≡ option_map (λ (s : Space). length s.bytes) o
length_blank None = refl
length_blank (Some s) = ap Some (length-zeros (length s.bytes))

same_blank : (o : Option Space) → option_map (blank_if false) o ≡ o
same_blank None = refl
same_blank (Some s) = refl

-- the length of what an account has
abbrev paid_some : ℕ → Option ℕ → Option ℕ → Option ℕ
paid_some account None n = None
paid_some account (Some payer) n = cond (payer == account) n None

paid_length : (account : ℕ) (s : Space) → option_map length (option_and_then (bytes_paid_by account) (Some s)) ≡ paid_some account (Some s.payer) (Some (length s.bytes))
paid_length account s = elim (s.payer == account) as (λ b. option_map length (cond b (Some s.bytes) None) ≡ cond b (Some (length s.bytes)) None) [ true ↦ refl | false ↦ refl ]

-- an account has as many bytes of what has one payer and one length
lengths_alike : (account : ℕ) (o p : Option Space) → option_map (λ (s : Space). s.payer) o ≡ option_map (λ (s : Space). s.payer) p → option_map (λ (s : Space). length s.bytes) o ≡ option_map (λ (s : Space). length s.bytes) p →
    option_map length (option_and_then (bytes_paid_by account) o) ≡ option_map length (option_and_then (bytes_paid_by account) p)
lengths_alike account None None e f = refl
lengths_alike account None (Some s) e f = cc
lengths_alike account (Some s) None e f = cc
lengths_alike account (Some s) (Some t) e f = grind (arith, nat_tests, paid_length)

-- what an account has something of it pays for
paid_payer : (account : ℕ) (o : Option Space) → is_some (option_and_then (bytes_paid_by account) o) ≡ true → option_map (λ (s : Space). s.payer) o ≡ Some account
paid_payer account None h = absurd (true≢false (sym h))
paid_payer account (Some s) h = grind (arith, nat_tests, same, true≢false, cases_eq)

-- nobody but the payer has anything of it
other_payer : (account other : ℕ) (o : Option Space) → option_map (λ (s : Space). s.payer) o ≡ Some account → other ≢ account → option_and_then (bytes_paid_by other) o ≡ None
other_payer account other None e apart = refl
other_payer account other (Some s) e apart = let p : s.payer ≡ account = cc in let t : (s.payer == other) ≡ false = grind (arith, nat_tests) in rw t refl

module _ (keys : List ℕ) (account : ℕ) (old new : Store) (kept : around keys new ≡ around keys old)
    (paid : (i : ℕ) → i < length keys → is_some (get (part account old).spaces (get_or keys i 0)) ≡ true) where
  space_kept : (k : ℕ) → option_map (blank_if (is_among keys k)) (get new.spaces k) ≡ option_map (blank_if (is_among keys k)) (get old.spaces k)
  unfolding spaces_but
  space_kept k = ap (λ (a : Around). a.spaces k) kept

  -- of each dataspace the payer stays, and the length
  payer_kept : (k : ℕ) → option_map (λ (s : Space). s.payer) (get new.spaces k) ≡ option_map (λ (s : Space). s.payer) (get old.spaces k)
  payer_kept k = search (rules, payer_blank, same_blank, space_kept)

  length_kept : (k : ℕ) → option_map (λ (s : Space). length s.bytes) (get new.spaces k) ≡ option_map (λ (s : Space). length s.bytes) (get old.spaces k)
  length_kept k = search (rules, length_blank, same_blank, space_kept)

  -- one that is no chunk's stays whole
  pub whole_kept : (k : ℕ) → is_among keys k ≡ false → get new.spaces k ≡ get old.spaces k
  whole_kept k none = sym (same_blank (get new.spaces k)) ∙ subst (λ b. option_map (blank_if b) (get new.spaces k) ≡ option_map (blank_if b) (get old.spaces k)) none (space_kept k) ∙ same_blank (get old.spaces k)

  -- of the account's part each length stays, and what is no chunk's
  pub part_lengths : LengthsStay account old new
  part_lengths k = ap (option_map length) (get-part account new k) ∙ lengths_alike account (get new.spaces k) (get old.spaces k) (payer_kept k) (length_kept k) ∙ ap (option_map length) (sym (get-part account old k))

  pub part_others : (k : ℕ) → is_among keys k ≡ false → get (part account new).spaces k ≡ get (part account old).spaces k
  part_others k none = get-part account new k ∙ ap (option_and_then (bytes_paid_by account)) (whole_kept k none) ∙ sym (get-part account old k)

  -- a chunk's dataspace is the account's
  chunk_payer : (k : ℕ) → is_among keys k ≡ true → option_map (λ (s : Space). s.payer) (get old.spaces k) ≡ Some account
  chunk_payer k among = grind (arith, nat_tests, among_found, paid_payer, get-part)

  other_spaces : (other : ℕ) → other ≢ account → (k : ℕ) → get (part other new).spaces k ≡ get (part other old).spaces k
  other_spaces other apart k = elim (is_among keys k) as (λ b. is_among keys k ≡ b → get (part other new).spaces k ≡ get (part other old).spaces k) [
    | true ↦ λ among.
        get-part other new k ∙ other_payer account other (get new.spaces k) (payer_kept k ∙ chunk_payer k among) apart
        ∙ sym (get-part other old k ∙ other_payer account other (get old.spaces k) (chunk_payer k among) apart)
    | false ↦ λ none. get-part other new k ∙ ap (option_and_then (bytes_paid_by other)) (whole_kept k none) ∙ sym (get-part other old k)
  ] refl

  accounts_kept : (a : ℕ) → (part a new).account ≡ (part a old).account
  unfolding part
  accounts_kept a = ap (λ (x : Around). get x.store.books.accounts a) kept

  pub account_kept : (part account new).account ≡ (part account old).account
  account_kept = accounts_kept account

  -- all other accounts' parts stay
  pub around_becomes : PartBecomes account (part account new) old new
  around_becomes = record {
    own = refl;
    others = λ other apart. λ i. record { account = accounts_kept other i; spaces = same (part other new).spaces (part other old).spaces (other_spaces other apart) i };
    root = ap (λ (x : Around). root_in x.store) kept;
    parents = ap (λ (x : Around). parents_in x.store) kept;
    room = ap (λ (x : Around). room_in x.store) kept;
  }

-- the words of chunks that the account pays for are those of its part
pub bytes_of-part : (account k : ℕ) (store : Store) → is_some (get (part account store).spaces k) ≡ true → bytes_of (part account store) k ≡ bytes_in_store store k
bytes_of-part account k store there = search (rules, true≢false, paid_in_part, bytes_of-paid)

pub words_of-part : (keys : List ℕ) (account : ℕ) (store : Store) → ((i : ℕ) → i < length keys → is_some (get (part account store).spaces (get_or keys i 0)) ≡ true) → word_in keys (bytes_of (part account store)) ≡ words_of keys store
words_of-part keys account store paid = words_same keys (bytes_in_store store) (bytes_of (part account store)) (λ i there. bytes_of-part account (get_or keys i 0) store (paid i there))
