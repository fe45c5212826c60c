-- Requests of a buffer are refused for the first reason on their line, and what a put and a get do with the bytes.
use Rattle.std.proofs.Common.{◌≡◌, ℕ, ◌+◌, ◌-◌, ◌<◌, ◌≤◌, ◌++◌, ◌&&◌, Bool, true, false, cond, not, List, [], ◌∷◌, length, nat_lt, Some, refl, sym, ap, subst, ◌∙◌, arith, take, drop, slice_range, get_or, inl, inr, length-take, length-append, true≢false}
use Rattle.std.proofs.lemmas.Bool.{ltb-false}
use Rattle.std.proofs.lemmas.Bool.Decides.{nat_tests}
use Rattle.std.proofs.lemmas.List.{get_or-take, get_or-drop, get_or-append_right}
use Rattle.std.proofs.Math.ListN.{get_or-append}
use Rattle.std.proofs.lemmas.Option.{none-some}
use Rattle.std.specs.Prelude.{Option, None, is_some}
use Rattle.std.specs.Option.{option_or}
use Rattle.trade_base.specs.Bytes.{with_bytes}
use Rattle.trade_base.specs.Page.{page_of, is_valid_size}
use Rattle.trade_base.proofs.BytesLemmas.{length-slice_range, length-with_bytes, slice_range-with_bytes}
use Rattle.own_model.proofs.BufferKeptLemmas.{taken_le}
use Rattle.own_model.proofs.FileErrorLemmas as files_errors
use Rattle.own_model.proofs.FileErrorLemmas.{IsGood, shortage_same, written_answers, no_error_good}
use Rattle.own_model.specs.Account.{Account}
use Rattle.own_model.specs.BufferTheorems.{move_errors, buffer_errors, BufferErrorsComeInOrder, OtherBuffersAreServed, PutsAreWrites, Copies, GetsCopy}
use Rattle.own_model.specs.BufferService.{BufferRequest, BufferServed, beside, make_refusal, unless_refused, made, given_back, put, got, buffer_served}
use Rattle.own_model.specs.BufferService.BufferRequest.{Make, GiveBack, Put, Get}
use Rattle.own_model.specs.ErrorTests.{when, first_of}
use Rattle.own_model.specs.FileTheorems.{write_errors}
use Rattle.own_model.specs.FileService.{Files, File, FileServed, file_named, is_longer, content_refusal, told, written}
use Rattle.own_model.specs.FileService.{unless_refused as unless_write}
use Rattle.own_model.specs.FileText.{FileError}
use Rattle.own_model.specs.FileText.FileError.{Exists, NotFound, Gap, OutOfRam, OutOfCaps, InvalidSize, NoBuffer, BadRange}
use Rattle.own_model.specs.FileText.FileReply.{Refused}
use Rattle.own_model.specs.Sliced.{sliced_size}
use Rattle.own_model.specs.Table.{lacks_ram, lacks_caps}

-- ---- what is answered

module _ (files : Files) (account : Account) where
  -- with the first error of a line, if there is one
  abbrev Answers : Option (List ℕ) → Option FileError → BufferServed → Type 0
  Answers buffer (Some e) o = o ≡ beside buffer (told (Refused e) files account)
  Answers buffer None o = IsGood o.reply

  -- as a request of files is
  as_of_files : (buffer : Option (List ℕ)) (line : Option FileError) (o : FileServed) → files_errors.Answers files account line o → Answers buffer line (beside buffer o)
  as_of_files buffer (Some e) o is = ap (beside buffer) is
  as_of_files buffer None o good = good

  by_itself : (buffer : Option (List ℕ)) (why : Option FileError) (o : BufferServed) → IsGood o.reply → Answers buffer why (unless_refused why buffer files account o)
  by_itself buffer (Some e) o good = refl
  by_itself buffer None o good = good

  made_answers : (n : ℕ) (buffer : Option (List ℕ)) → Answers buffer (first_of (buffer_errors (Make n) buffer files account)) (buffer_served (Make n) buffer files account)
  made_answers n buffer =
      subst (λ l. Answers buffer l (buffer_served (Make n) buffer files account))
      (ap (λ o. cond (not (is_valid_size n)) (Some InvalidSize) (cond (is_some buffer) (Some Exists) o)) (shortage_same (lacks_ram account (page_of n)) (lacks_caps account 1)))
      (by_itself buffer (make_refusal n buffer account) (made n files account) refl)

  given_back_answers : (buffer : Option (List ℕ)) → Answers buffer (first_of (buffer_errors GiveBack buffer files account)) (given_back buffer files account)
  given_back_answers None = refl
  given_back_answers (Some bytes) = refl

  -- the tests of a move, and then others
  without_buffer : (g : Bool) (rest : Option FileError) (o : BufferServed) → Answers None (cond g (Some Gap) (Some NoBuffer)) (unless_refused (option_or (cond g (Some Gap) None) (Some NoBuffer)) None files account o)
  without_buffer true rest o = refl
  without_buffer false rest o = refl

  with_one : (g b : Bool) (bytes : List ℕ) (rest : Option FileError) (o : BufferServed) → (g ≡ false → b ≡ false → Answers (Some bytes) rest o) →
      Answers (Some bytes) (cond g (Some Gap) (cond b (Some BadRange) rest)) (unless_refused (option_or (cond g (Some Gap) None) (cond b (Some BadRange) None)) (Some bytes) files account o)
  with_one true b bytes rest o after = refl
  with_one false true bytes rest o after = refl
  with_one false false bytes rest o after = after refl refl

  -- where the offset isn't above the size, the file's size is no reason
  past_gap : (g : Bool) (rest : Option FileError) (o : FileServed) → g ≡ false → files_errors.Answers files account (cond g (Some Gap) rest) o → files_errors.Answers files account rest o
  past_gap true rest o fits is = absurd (true≢false fits)
  past_gap false rest o fits is = is

  put_answers : (offset place count : ℕ) (buffer : Option (List ℕ)) (found : Option File) →
      Answers buffer (first_of (move_errors offset place count buffer found (λ file.
      when (is_longer offset count file && lacks_ram account (sliced_size (offset + count))) OutOfRam ∷ when (is_longer offset count file && lacks_caps account 1) OutOfCaps ∷ [])))
      (put offset place count buffer found files account)
  put_answers offset place count buffer None = refl
  put_answers offset place count None (Some file) = without_buffer (nat_lt (length file.bytes) offset) None _
  put_answers offset place count (Some bytes) (Some file) =
      let part = slice_range bytes place (place + count) in
      with_one (nat_lt (length file.bytes) offset) (nat_lt (length bytes) (place + count)) bytes _ _ (λ fits within.
      let long : length part ≡ count = length-slice_range bytes place count (ltb-false (length bytes) (place + count) within) in
      as_of_files (Some bytes) _ (written offset part (Some file) files account)
      (past_gap (nat_lt (length file.bytes) offset) _ (written offset part (Some file) files account) fits
      (subst (λ n. files_errors.Answers files account (first_of (write_errors offset n (Some file) account)) (written offset part (Some file) files account)) long (written_answers files account offset part (Some file)))))

  got_answers : (offset place count : ℕ) (buffer : Option (List ℕ)) (found : Option File) →
      Answers buffer (first_of (move_errors offset place count buffer found (λ file. []))) (got offset place count buffer found files account)
  got_answers offset place count buffer None = refl
  got_answers offset place count None (Some file) = without_buffer (nat_lt (length file.bytes) offset) None _
  got_answers offset place count (Some bytes) (Some file) =
      with_one (nat_lt (length file.bytes) offset) (nat_lt (length bytes) (place + count)) bytes None _ (λ fits within. refl)

  answers : (request : BufferRequest) (buffer : Option (List ℕ)) → Answers buffer (first_of (buffer_errors request buffer files account)) (buffer_served request buffer files account)
  answers (Make n) buffer = made_answers n buffer
  answers GiveBack buffer = given_back_answers buffer
  answers (Put name offset place count) buffer = put_answers offset place count buffer (file_named name files)
  answers (Get name offset place count) buffer = got_answers offset place count buffer (file_named name files)

pub buffer_errors_in_order : BufferErrorsComeInOrder
buffer_errors_in_order request buffer files account e is = subst (λ l. Answers files account buffer l (buffer_served request buffer files account)) is (answers files account request buffer)

pub other_buffers_served : OtherBuffersAreServed
other_buffers_served request buffer files account e none told_error =
    let good : IsGood (buffer_served request buffer files account).reply
    = subst (λ l. Answers files account buffer l (buffer_served request buffer files account)) none (answers files account request buffer) in
    no_error_good e (subst IsGood told_error good)

-- ---- a put

-- so many bytes that are there are within
in_range : (n m : ℕ) → m ≤ n → nat_lt n m ≡ false
in_range n m within = grind (arith, nat_tests)

-- the offset is tested twice, which makes no difference
gap_twice : (files : Files) (account : Account) (g b : Bool) (bytes : List ℕ) (why : Option FileError) (accepted : FileServed) → b ≡ false →
    let write = unless_write (option_or (cond g (Some Gap) None) why) files account accepted in
    unless_refused (option_or (cond g (Some Gap) None) (cond b (Some BadRange) None)) (Some bytes) files account (beside (Some bytes) write) ≡ beside (Some bytes) write
gap_twice files account true b bytes why accepted within = refl
gap_twice files account false true bytes why accepted within = absurd (true≢false within)
gap_twice files account false false bytes why accepted within = refl

put_writes : (offset place count : ℕ) (bytes : List ℕ) (found : Option File) (files : Files) (account : Account) → place + count ≤ length bytes →
    put offset place count (Some bytes) found files account ≡ beside (Some bytes) (written offset (slice_range bytes place (place + count)) found files account)
put_writes offset place count bytes None files account within = refl
put_writes offset place count bytes (Some file) files account within =
    let part = slice_range bytes place (place + count) in
    gap_twice files account (nat_lt (length file.bytes) offset) (nat_lt (length bytes) (place + count)) bytes (content_refusal offset (length part) file account) _ (in_range (length bytes) (place + count) within)

pub puts_are_writes : PutsAreWrites
puts_are_writes name offset place count bytes files account within = put_writes offset place count bytes (file_named name files) files account within

-- ---- a get

-- what no test refuses
no_reason : (g b : Bool) → cond g (Some Gap) (cond b (Some BadRange) None) ≡ None → (g ≡ false) × (b ≡ false)
no_reason true b none = absurd (none-some Gap (sym none))
no_reason false true none = absurd (none-some BadRange (sym none))
no_reason false false none = (refl, refl)

-- is done
does : (files : Files) (account : Account) (g b : Bool) (bytes : List ℕ) (accepted : BufferServed) → g ≡ false → b ≡ false →
    unless_refused (option_or (cond g (Some Gap) None) (cond b (Some BadRange) None)) (Some bytes) files account accepted ≡ accepted
does files account true b bytes accepted fits within = absurd (true≢false fits)
does files account false true bytes accepted fits within = absurd (true≢false within)
does files account false false bytes accepted fits within = refl

-- a byte that a part isn't put over is as it was
stays_below : (bytes part : List ℕ) (place i : ℕ) → place + length part ≤ length bytes → i < place → get_or (with_bytes bytes place part) i 0 ≡ get_or bytes i 0
unfolding with_bytes
stays_below bytes part place i fits below =
    let low : length (take place bytes) ≡ place = omega (arith, length-take place bytes) in
    get_or-append (take place bytes ++ part) (drop (place + length part) bytes) 0 i (omega (arith, low, length-append (take place bytes) part))
    ∙ get_or-append (take place bytes) part 0 i (omega (arith, low))
    ∙ get_or-take place bytes i 0 below

stays_above : (bytes part : List ℕ) (place i : ℕ) → place + length part ≤ length bytes → place + length part ≤ i → get_or (with_bytes bytes place part) i 0 ≡ get_or bytes i 0
unfolding with_bytes
stays_above bytes part place i fits above =
    let low : length (take place bytes) ≡ place = omega (arith, length-take place bytes) in
    let both : length (take place bytes ++ part) ≡ place + length part = omega (arith, low, length-append (take place bytes) part) in
    get_or-append_right (take place bytes ++ part) (drop (place + length part) bytes) (place + length part) i 0 both above
    ∙ get_or-drop (place + length part) bytes (i - (place + length part)) 0
    ∙ ap (λ n. get_or bytes n 0) (omega arith)

got_copies : (name : List ℕ) (offset place count : ℕ) (bytes : List ℕ) (files : Files) (account : Account) (found : Option File) → file_named name files ≡ found →
    first_of (move_errors offset place count (Some bytes) found (λ file. [])) ≡ None → Copies name offset place count bytes files account
got_copies name offset place count bytes files account None is none = absurd (none-some NotFound (sym none))
got_copies name offset place count bytes files account (Some file) is none =
    let part = take count (drop offset file.bytes) in
    let tests = no_reason (nat_lt (length file.bytes) offset) (nat_lt (length bytes) (place + count)) none in
    let within : place + length part ≤ length bytes = omega (arith, ltb-false (length bytes) (place + count) tests.1, taken_le count (drop offset file.bytes)) in
    record {
      file = file;
      there = is;
      new = with_bytes bytes place part;
      served = ap (λ o. got offset place count (Some bytes) o files account) is
          ∙ does files account (nat_lt (length file.bytes) offset) (nat_lt (length bytes) (place + count)) bytes _ tests.0 tests.1;
      long = length-with_bytes bytes place part within;
      copied = slice_range-with_bytes bytes place part within;
      others = λ i at. elim at [
        | inl below ↦ stays_below bytes part place i within below
        | inr above ↦ stays_above bytes part place i within above
      ];
    }

pub gets_copy : GetsCopy
gets_copy name offset place count bytes files account none = got_copies name offset place count bytes files account (file_named name files) refl none
