-- What was passed, and what is left to come.
use Rattle.std.proofs.Common.{◌≡◌, ℕ, ◌+◌, ◌<◌, ◌≤◌, List, [], ◌∷◌, ◌++◌, length, take, drop, Option, Some, None, IfSome, Err, inl, arith, refl, sym, ◌∙◌, ap, subst, append_assoc, length-append}
use Rattle.std.proofs.lemmas.List.{drop-drop, drop_all, drop_at, drop-append-le, take-append-drop, take-append-le}
use Rattle.std.specs.Io.KnownBytes.{Keeps, IsAtEnd}
use Rattle.run_devices.specs.Lines.{line_length, after_line, longest_read, to_come, HasRead, PassesSome}
use Rattle.run_lines.specs.Next.{BeginsWithLine, PassesLongLine, StopsBefore, GrowsOrStops}
use Rattle.run_lines.specs.declared.lines.LineFault.{LineFault}
use Rattle.run_lines.specs.declared.lines.LineFault.TheVariants.{Read, Write, Endless}
use Rattle.run_devices.proofs.LineLemmas.{line_length-le, line_length-append_in, line_length-append-le, line_length-drop}
use Rattle.std.proofs.lemmas.Bool.Decides.{nat_tests}

-- the same where the bytes to come are known
abbrev pub Passes : Option (List ℕ) → Option (List ℕ) → ℕ → Type 0
Passes old new n = IfSome old (λ before. PassesSome before new n)

-- what is to come stays
pub Passes-kept : (old mid new : Option (List ℕ)) (n : ℕ) → Passes old mid n → Keeps mid new → Passes old new n
Passes-kept None mid new n passes keeps = tt
Passes-kept (Some before) None new n passes keeps = absurd (let e : None ≡ Some (drop n before) = passes.left in cc)
Passes-kept (Some before) (Some xs) None n passes keeps = absurd keeps
Passes-kept (Some before) (Some xs) (Some ys) n passes keeps = record { of_line = passes.of_line; left = ap Some keeps ∙ passes.left }

-- the bytes left are those behind the n that were passed
left_is : (before left : List ℕ) (n : ℕ) → PassesSome before (Some left) n → left ≡ drop n before
left_is before left n passes = let e : Some left ≡ Some (drop n before) = passes.left in cc

-- the n bytes passed and those of the line that are left are the line
left_length : (before left : List ℕ) (n : ℕ) → PassesSome before (Some left) n → n + line_length left ≡ line_length before
left_length before left n passes = ap (λ bytes. n + line_length bytes) (left_is before left n passes) ∙ line_length-drop n before passes.of_line

-- all bytes ahead are of the line, and are passed too
pub Passes-whole : (old rest : Option (List ℕ)) (ahead : List ℕ) (n : ℕ) → Passes old (to_come ahead rest) n → length ahead ≤ line_length ahead
    → Passes old (to_come (drop (line_length ahead + 1) ahead) rest) (n + line_length ahead)
Passes-whole None rest ahead n passes whole = tt
Passes-whole (Some before) None ahead n passes whole = absurd (let e : None ≡ Some (drop n before) = passes.left in cc)
Passes-whole (Some before) (Some ys) ahead n passes whole =
    let is : line_length ahead ≡ length ahead = omega (arith, line_length-le ahead) in
    let gone : drop (line_length ahead + 1) ahead ≡ [] = drop_all (line_length ahead + 1) ahead (omega arith) in
    let behind : ys ≡ drop (n + line_length ahead) before =
    sym (drop_at ahead ys (line_length ahead) (sym is)) ∙ ap (drop (line_length ahead)) (left_is before (ahead ++ ys) n passes) ∙ drop-drop (line_length ahead) n before in
    record {
      of_line = omega (arith, left_length before (ahead ++ ys) n passes, line_length-append-le ahead ys);
      left = rw gone (ap Some behind);
    }

-- the line ends ahead
pub passed_line : (old rest : Option (List ℕ)) (ahead : List ℕ) (n : ℕ) → Passes old (to_come ahead rest) n → line_length ahead < length ahead
    → IfSome old (λ before. (n + line_length ahead ≡ line_length before) × (to_come (drop (line_length ahead + 1) ahead) rest ≡ Some (after_line before)))
passed_line None rest ahead n passes within = tt
passed_line (Some before) None ahead n passes within = absurd (let e : None ≡ Some (drop n before) = passes.left in cc)
passed_line (Some before) (Some ys) ahead n passes within =
    let whole : n + line_length ahead ≡ line_length before =
    ap (λ len. n + len) (sym (line_length-append_in ahead ys within)) ∙ left_length before (ahead ++ ys) n passes in
    let behind : drop (line_length ahead + 1) ahead ++ ys ≡ drop (n + (line_length ahead + 1)) before =
    sym (drop-append-le (line_length ahead + 1) ahead ys (omega arith)) ∙ ap (drop (line_length ahead + 1)) (left_is before (ahead ++ ys) n passes)
    ∙ drop-drop (line_length ahead + 1) n before in
    let count : n + (line_length ahead + 1) ≡ line_length before + 1 = omega arith in
    (whole, ap Some (behind ∙ ap (λ k. drop k before) count))

-- the line ends with what is to come
pub passed_end : (old rest : Option (List ℕ)) (n : ℕ) → Passes old (to_come [] rest) n → IsAtEnd rest
    → IfSome old (λ before. (n ≡ line_length before) × (to_come [] rest ≡ Some (after_line before)))
passed_end None rest n passes end = tt
passed_end (Some before) None n passes end = absurd (let e : None ≡ Some (drop n before) = passes.left in cc)
passed_end (Some before) (Some ys) n passes end =
    let whole : n + 0 ≡ line_length before = ap (λ bytes. n + line_length bytes) (sym end) ∙ left_length before ys n passes in
    let count : line_length before + 1 ≡ n + 1 = omega arith in
    let gone : drop (line_length before + 1) before ≡ [] =
    ap (λ k. drop k before) count ∙ sym (drop-drop 1 n before) ∙ ap (drop 1) (sym (left_is before ys n passes) ∙ end) in
    (omega arith, ap Some (end ∙ sym gone))

-- a line of which many bytes are ahead is long
pub IsLong-ahead : (old_ahead : List ℕ) (old_rest : Option (List ℕ)) → 8192 < line_length old_ahead → IfSome (to_come old_ahead old_rest) (λ before. 8192 < line_length before)
IsLong-ahead old_ahead None long = tt
IsLong-ahead old_ahead (Some ys) long = omega (arith, line_length-append-le old_ahead ys)

-- the bytes ahead, all of the line, are passed
pub passed_on : (old rest : Option (List ℕ)) (ahead left : List ℕ) (n : ℕ) {m : ℕ} → Passes old (to_come ahead rest) n → m ≡ line_length ahead → length ahead ≤ m
    → left ≡ drop (m + 1) ahead → Passes old (to_come left rest) (n + m)
passed_on old rest ahead left n {m} passes is whole left_of = grind (arith, nat_tests, Passes-whole)

-- a long line that ends ahead is passed with its newline
pub long_line-within : (old rest : Option (List ℕ)) (ahead left : List ℕ) (n m : ℕ) → IfSome old (λ before. 8192 < line_length before)
    → Passes old (to_come ahead rest) n → m ≡ line_length ahead → m < length ahead → n + m ≤ longest_read → left ≡ drop (m + 1) ahead
    → IfSome old (λ before. PassesLongLine before (to_come left rest))
long_line-within None rest ahead left n m long passes is within few left_of = tt
long_line-within (Some before) rest ahead left n m long passes is within few left_of =
    let same : left ≡ drop (line_length ahead + 1) ahead = left_of ∙ ap (λ k. drop (k + 1) ahead) is in
    let line = passed_line (Some before) rest ahead n passes (omega arith) in
    record { long = long; ends = omega (arith, line.0); after = rw same (line.1) }

-- and so is one that ends with what is to come
pub long_line-end : (old rest : Option (List ℕ)) (ahead : List ℕ) (n : ℕ) → IfSome old (λ before. 8192 < line_length before)
    → Passes old (to_come ahead rest) n → n ≤ longest_read → length ahead ≡ 0 → IsAtEnd rest → IfSome old (λ before. PassesLongLine before (to_come ahead rest))
long_line-end None rest ahead n long passes few none end = tt
long_line-end (Some before) rest [] n long passes few none end =
    let line = passed_end (Some before) rest n passes end in
    record { long = long; ends = omega (arith, line.0); after = line.1 }
long_line-end (Some before) rest (b ∷ bs) n long passes few none end = absurd (omega arith)

-- a line of which too many bytes are passed or ahead is endless
pub is_endless : (old rest : Option (List ℕ)) (ahead : List ℕ) (n m : ℕ) → Passes old (to_come ahead rest) n → m ≡ line_length ahead → longest_read < n + m
    → IfSome old (λ before. longest_read < line_length before)
is_endless None rest ahead n m passes is many = tt
is_endless (Some before) None ahead n m passes is many = absurd (let e : None ≡ Some (drop n before) = passes.left in cc)
is_endless (Some before) (Some ys) ahead n m passes is many =
    omega (arith, left_length before (ahead ++ ys) n passes, line_length-append-le ahead ys)

-- a read that fails while all bytes ahead are of the line fails within the line
pub fails_within : (old rest new : Option (List ℕ)) (ahead : List ℕ) (n : ℕ) → Passes old (to_come ahead rest) n → length ahead ≤ line_length ahead → Keeps rest new
    → IfSome old (λ before. (k : ℕ) × PassesSome before new k)
fails_within None rest new ahead n passes whole keeps = tt
fails_within (Some before) None new ahead n passes whole keeps = absurd (let e : None ≡ Some (drop n before) = passes.left in cc)
fails_within (Some before) (Some ys) None ahead n passes whole keeps = absurd keeps
fails_within (Some before) (Some ys) (Some zs) ahead n passes whole keeps =
    let k = n + line_length ahead in
    let is : line_length ahead ≡ length ahead = omega (arith, line_length-le ahead) in
    let behind : ys ≡ drop k before =
    sym (drop_at ahead ys (line_length ahead) (sym is)) ∙ ap (drop (line_length ahead)) (left_is before (ahead ++ ys) n passes) ∙ drop-drop (line_length ahead) n before in
    (k, record { of_line = omega (arith, left_length before (ahead ++ ys) n passes, line_length-append-le ahead ys); left = ap Some (keeps ∙ behind) })

-- before a write that fails what was read lies ahead, or was passed
unread : (old rest : Option (List ℕ)) (ahead : List ℕ) (n : ℕ) → Passes old (to_come ahead rest) n → IfSome old (λ before. HasRead 0 before rest)
unread None rest ahead n passes = tt
unread (Some before) None ahead n passes = absurd (let e : None ≡ Some (drop n before) = passes.left in cc)
unread (Some before) (Some ys) ahead n passes = record {
  read = take n before ++ ahead;
  left = ys;
  is_left = refl;
  parts = sym (take-append-drop n before) ∙ ap (λ back. take n before ++ back) (sym (left_is before (ahead ++ ys) n passes)) ∙ sym (append_assoc (take n before) ahead ys);
  whole = inl (omega arith);
}

-- and so where nothing was passed
pub unread_ahead : (ahead : List ℕ) (rest : Option (List ℕ)) → IfSome (to_come ahead rest) (λ before. HasRead 0 before rest)
unread_ahead ahead None = tt
unread_ahead ahead (Some ys) = record { read = ahead; left = ys; is_left = refl; parts = refl; whole = inl (omega arith) }

-- so no line comes where a read or a write fails
pub no_line : (old rest now_rest : Option (List ℕ)) (ahead now_ahead : List ℕ) (n : ℕ) (fault : LineFault) → Passes old (to_come ahead rest) n → length ahead ≤ line_length ahead
    → GrowsOrStops (Err fault) ahead rest now_ahead now_rest → IfSome old (λ before. StopsBefore fault before now_rest)
no_line old rest now_rest ahead now_ahead n Read passes whole stops = fails_within old rest now_rest ahead n passes whole (stops.1)
no_line old rest now_rest ahead now_ahead n Write passes whole stops =
    subst (λ r. IfSome old (λ before. HasRead 0 before r)) (sym stops.1) (unread old rest ahead n passes)
no_line old rest now_rest ahead now_ahead n Endless passes whole stops = absurd stops

-- a line that ends ahead is the next one
pub begins_with_line : (old rest : Option (List ℕ)) (ahead : List ℕ) (m : ℕ) → Passes old (to_come ahead rest) 0 → m ≡ line_length ahead → m < length ahead
    → IfSome old (λ before. BeginsWithLine before ahead rest m)
begins_with_line None rest ahead m passes is within = tt
begins_with_line (Some before) None ahead m passes is within = absurd (let e : None ≡ Some (drop 0 before) = passes.left in cc)
begins_with_line (Some before) (Some ys) ahead m passes is within =
    let whole : ahead ++ ys ≡ before = left_is before (ahead ++ ys) 0 passes in
    let ends = passed_line (Some before) (Some ys) ahead 0 passes (omega arith) in
    let len : m ≡ line_length before = omega (arith, ends.0) in
    record {
      some = omega (arith, ap length whole, length-append ahead ys);
      line = sym (take-append-le m ahead ys (omega arith)) ∙ ap (take m) whole ∙ ap (λ k. take k before) len;
      after = ap (λ k. to_come (drop (k + 1) ahead) (Some ys)) is ∙ ends.1;
    }
