-- Requests are refused for the first reason on their line of the table, and for nothing else.
use Rattle.std.proofs.lemmas.Bool.Decides.{nat_tests}
use Rattle.std.proofs.Common.{◌≡◌, ℕ, ◌&&◌, Bool, true, false, cond, not, List, [], ◌∷◌, length, nat_le, Some, refl, subst, arith, slice_get}
use Rattle.std.proofs.lemmas.Bool.{le-leb, lt-leb}
use Rattle.std.proofs.lemmas.Option.{none-some, slice_get_within, slice_get_cases}
use Rattle.std.specs.Prelude.{Option, None, is_some}
use Rattle.std.specs.Option.{option_map, option_or}
use Rattle.trade_base.specs.Page.{page_of}
use Rattle.trade_base.specs.declared.refusal.Refusal.TheVariants as refusal
use Rattle.own_model.specs.Account.{Account}
use Rattle.own_model.specs.BestFit.{Spot, block_size}
use Rattle.own_model.specs.ErrorTests.{first_of}
use Rattle.own_model.specs.FileTheorems.{node_errors, write_errors, read_errors, errors_of, ErrorsComeInOrder, OthersAreServed}
use Rattle.own_model.specs.FileService.{Files, File, FileServed, node_size, file_named, error_of, create_refusal, write_refusal, unless_refused, told, created, written, read, sized, cleared, dropped, named, request_served}
use Rattle.own_model.specs.FileText.{FileRequest, FileError, file_request, file_reply, bytes_reply}
use Rattle.own_model.specs.FileText.FileRequest.{Create, Write, Read, Size, Clear, Drop, Name, Stat}
use Rattle.own_model.specs.FileText.FileError.{NotFound, Gap, TooLong, End, TooManyChunks, OutOfRam, OutOfCaps}
use Rattle.own_model.specs.FileText.FileReply.{Refused}
use Rattle.own_model.specs.Growth.{Shape, most_chunks, small_refusal}
use Rattle.own_model.specs.Table.{lacks_ram, lacks_caps}

-- the first byte of a text
abbrev first_byte : List ℕ → ℕ
first_byte [] = 0
first_byte (b ∷ bytes) = b

-- a reply that is no error begins with an O
abbrev pub IsGood : List ℕ → Type 0
IsGood reply = first_byte reply ≡ 79

-- bytes that are told are
bytes_good : (bytes : List ℕ) → IsGood (bytes_reply bytes)
bytes_good [] = refl
bytes_good (b ∷ bytes) = refl

-- ---- the same tests, in the words of the table

pub shortage_same : (r c : Bool) → option_map error_of (cond r (Some refusal.OutOfRam) (cond c (Some refusal.OutOfCaps) None)) ≡ cond r (Some OutOfRam) (cond c (Some OutOfCaps) None)
shortage_same true c = refl
shortage_same false true = refl
shortage_same false false = refl

growth_same : (full r c : Bool) →
    option_map error_of (cond full (Some refusal.TooManyChunks) (cond r (Some refusal.OutOfRam) (cond c (Some refusal.OutOfCaps) None))) ≡ cond full (Some TooManyChunks) (cond r (Some OutOfRam) (cond c (Some OutOfCaps) None))
growth_same true r c = refl
growth_same false r c = shortage_same r c

node_same : (found : Option Spot) (shape : Shape) (account : Account) → option_map error_of (small_refusal node_size found shape account) ≡ first_of (node_errors found shape account)
node_same (Some hole) shape account = refl
node_same None shape account = growth_same (nat_le most_chunks (length shape.chunks)) (lacks_ram account (page_of (block_size node_size))) (lacks_caps account 1)

create_same : (name : List ℕ) (files : Files) (account : Account) → create_refusal name files account ≡ first_of (errors_of (Some (Create name)) files account)
create_same name files account = simp (node_same)

write_tests : (g l r c : Bool) →
    option_or (cond g (Some Gap) None) (cond l (option_map error_of (cond r (Some refusal.OutOfRam) (cond c (Some refusal.OutOfCaps) None))) None) ≡ cond g (Some Gap) (cond (l && r) (Some OutOfRam) (cond (l && c) (Some OutOfCaps) None))
write_tests true l r c = refl
write_tests false false r c = refl
write_tests false true r c = shortage_same r c

write_same : (offset count : ℕ) (file : File) (account : Account) → write_refusal offset count file account ≡ first_of (write_errors offset count (Some file) account)
write_same offset count file account = simp (write_tests)

read_tests : (g t : Bool) → option_or (cond g (Some Gap) None) (cond t (Some TooLong) None) ≡ cond g (Some Gap) (cond t (Some TooLong) None)
read_tests true t = refl
read_tests false t = refl

-- ---- what is answered

module _ (files : Files) (account : Account) where
  -- with the first error of a line, if there is one
  abbrev pub Answers : Option FileError → FileServed → Type 0
  Answers (Some e) o = o ≡ told (Refused e) files account
  Answers None o = IsGood o.reply

  by_itself : (why : Option FileError) (o : FileServed) → IsGood o.reply → Answers why (unless_refused why files account o)
  by_itself (Some e) o good = refl
  by_itself None o good = good

  unless_answers : (why line : Option FileError) (o : FileServed) → why ≡ line → IsGood o.reply → Answers line (unless_refused why files account o)
  unless_answers why line o same good = subst (λ l. Answers l (unless_refused why files account o)) same (by_itself why o good)

  created_good : (name : List ℕ) (found : Option Spot) → IsGood (created name found files account).reply
  created_good name (Some hole) = refl
  created_good name None = refl

  pub written_answers : (offset : ℕ) (bytes : List ℕ) (found : Option File) → Answers (first_of (write_errors offset (length bytes) found account)) (written offset bytes found files account)
  written_answers offset bytes None = refl
  written_answers offset bytes (Some file) = grind (arith, nat_tests, unless_answers, write_same)

  read_answers : (offset count : ℕ) (found : Option File) → Answers (first_of (read_errors offset count found)) (read offset count found files account)
  read_answers offset count None = refl
  read_answers offset count (Some file) = grind (arith, nat_tests, unless_answers, read_tests, bytes_good)

  named_answers : (place : ℕ) (found : Option File) → slice_get files.files place ≡ found → Answers (cond (nat_le (length files.files) place) (Some End) None) (named found files account)
  named_answers place (Some file) is = grind (arith, nat_tests, lt-leb, slice_get_within)
  named_answers place None none = grind (arith, nat_tests, slice_get_cases, none-some, le-leb)

  -- one that has to be there
  sized_answers : (found : Option File) → Answers (cond (not (is_some found)) (Some NotFound) None) (sized found files account)
  sized_answers None = refl
  sized_answers (Some file) = refl

  cleared_answers : (found : Option File) → Answers (cond (not (is_some found)) (Some NotFound) None) (cleared found files account)
  cleared_answers None = refl
  cleared_answers (Some file) = refl

  dropped_answers : (found : Option File) → Answers (cond (not (is_some found)) (Some NotFound) None) (dropped found files account)
  dropped_answers None = refl
  dropped_answers (Some file) = refl

  request_answers : (request : Option FileRequest) → Answers (first_of (errors_of request files account)) (request_served request files account)
  request_answers None = refl
  request_answers (Some (Create name)) = grind (arith, nat_tests, unless_answers, create_same, created_good)
  request_answers (Some (Write name offset bytes)) = written_answers offset bytes (file_named name files)
  request_answers (Some (Read name offset count)) = read_answers offset count (file_named name files)
  request_answers (Some (Size name)) = sized_answers (file_named name files)
  request_answers (Some (Clear name)) = cleared_answers (file_named name files)
  request_answers (Some (Drop name)) = dropped_answers (file_named name files)
  request_answers (Some (Name place)) = named_answers place (slice_get files.files place) refl
  request_answers (Some Stat) = refl

-- ---- the laws

pub errors_in_order : ErrorsComeInOrder
errors_in_order files account text e is = subst (λ l. Answers files account l (request_served (file_request text) files account)) is (request_answers files account (file_request text))

-- no error begins with an O
pub no_error_good : (e : FileError) → ¬ IsGood (file_reply (Refused e))
no_error_good e good = absurd (omega (arith, good))

pub others_served : OthersAreServed
others_served files account text e none told_error =
    let good : IsGood (request_served (file_request text) files account).reply
    = subst (λ l. Answers files account l (request_served (file_request text) files account)) none (request_answers files account (file_request text)) in
    no_error_good e (subst IsGood told_error good)
