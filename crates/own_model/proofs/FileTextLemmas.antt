-- A request writes at most half as many bytes as it is long.
use Rattle.std.proofs.Common.{rules, ◌≡◌, ℕ, ◌*◌, ◌<◌, ◌≤◌, ◌&&◌, Bool, true, false, cond, List, [], length, refl, subst, codes, arith}
use Rattle.std.proofs.lemmas.Bool.Decides.{nat_tests}
use Rattle.std.specs.Prelude.{Option, Some, None, nat_le, is_none}
use Rattle.std.specs.Option.{option_map, option_and_then}
use Rattle.std.specs.Str.{bytes_eq}
use Rattle.own_model.specs.FileText.{FileRequest, file_word, of_file, write_of, read_of, request_of, file_request}
use Rattle.own_model.specs.FileText.FileRequest.{Create, Write, Size, Clear, Drop, Name}
use Rattle.own_model.specs.LogText.{longest_request}
use Rattle.own_model.specs.Text.{first_word, number_of}
use Rattle.own_model.proofs.LogLemmas.{rest_shorter, hex_shorter}

-- the bytes that a request writes, if it writes some
abbrev pub written_by : FileRequest → List ℕ
written_by (Write file offset bytes) = bytes
written_by _ = []

-- what is read of a text of so many bytes writes at most half as many
abbrev IsHalf : ℕ → Option FileRequest → Type 0
IsHalf n None = Unit {0}
IsHalf n (Some request) = length (written_by request) * 2 ≤ n

-- of two it is either
half_either : (n : ℕ) (b : Bool) (o p : Option FileRequest) → IsHalf n o → IsHalf n p → IsHalf n (cond b o p)
half_either n true o p one other = one
half_either n false o p one other = other

-- so where it is made of something
half_map : {X : Type 0} (n : ℕ) (f : X → FileRequest) (o : Option X) → ((x : X) → o ≡ Some x → length (written_by (f x)) * 2 ≤ n) → IsHalf n (option_map f o)
half_map n f None few = tt
half_map n f (Some x) few = few x refl

half_then : {X : Type 0} (n : ℕ) (f : X → Option FileRequest) (o : Option X) → ((x : X) → o ≡ Some x → IsHalf n (f x)) → IsHalf n (option_and_then f o)
half_then n f None few = tt
half_then n f (Some x) few = few x refl

-- a text of which a request is read is longer than its arguments
module _ (file : List ℕ) (arguments : List ℕ) where
  write_half : IsHalf (length arguments) (write_of file arguments)
  write_half = search (rules, half_then, half_map, hex_shorter)

  read_half : IsHalf (length arguments) (read_of file arguments)
  read_half = search (rules, half_then, half_map)

-- a longer text has more room
half_more : (m n : ℕ) (o : Option FileRequest) → m ≤ n → IsHalf m o → IsHalf n o
half_more m n None more few = tt
half_more m n (Some request) more few = omega (arith, more, few)

-- so has one with a file's word before
file_half : (request : List ℕ → List ℕ → Option FileRequest) (arguments : List ℕ) → ((file rest : List ℕ) → IsHalf (length rest) (request file rest)) → IsHalf (length arguments) (of_file request arguments)
file_half request arguments half = search (rules, half_then, half_more, rest_shorter)

-- and one with a form before
module _ (n : ℕ) (form : List ℕ) (arguments : Option (List ℕ)) (shorter : (rest : List ℕ) → arguments ≡ Some rest → length rest < n) where
  of_half : (request : List ℕ → List ℕ → Option FileRequest) → ((file rest : List ℕ) → IsHalf (length rest) (request file rest)) → IsHalf n (option_and_then (of_file request) arguments)
  of_half request half = search (rules, half_then, half_more, file_half)

  request_half : IsHalf n (request_of form arguments)
  request_half =
      half_either n (bytes_eq form (codes "CREATE")) _ _ (half_map n Create (option_and_then file_word arguments) (λ word _. omega arith))
      (half_either n (bytes_eq form (codes "WRITE")) _ _ (of_half write_of write_half)
      (half_either n (bytes_eq form (codes "READ")) _ _ (of_half read_of read_half)
      (half_either n (bytes_eq form (codes "SIZE")) _ _ (half_map n Size (option_and_then file_word arguments) (λ word _. omega arith))
      (half_either n (bytes_eq form (codes "CLEAR")) _ _ (half_map n Clear (option_and_then file_word arguments) (λ word _. omega arith))
      (half_either n (bytes_eq form (codes "DROP")) _ _ (half_map n Drop (option_and_then file_word arguments) (λ word _. omega arith))
      (half_either n (bytes_eq form (codes "NAME")) _ _ (half_map n Name (option_and_then number_of arguments) (λ place _. omega arith))
      (half_either n (bytes_eq form (codes "STAT") && is_none arguments) _ _ (omega arith) tt)))))))

-- a request that is not too long
short_half : (text : List ℕ) (short : Bool) → nat_le (length text) longest_request ≡ short → IsHalf longest_request (cond short (request_of (first_word text).word (first_word text).rest) None)
short_half text false is = tt
short_half text true is =
    let short : length text ≤ longest_request = grind (arith, nat_tests) in
    half_more (length text) longest_request (request_of (first_word text).word (first_word text).rest) short
    (request_half (length text) (first_word text).word (first_word text).rest (rest_shorter text))

pub write_is_short : (text file : List ℕ) (offset : ℕ) (bytes : List ℕ) → file_request text ≡ Some (Write file offset bytes) → length bytes * 2 ≤ longest_request
write_is_short text file offset bytes is = subst (IsHalf longest_request) is (short_half text (nat_le (length text) longest_request) refl)
