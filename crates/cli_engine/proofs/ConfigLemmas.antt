-- What reads took from the front of a source.
use Rattle.std.proofs.Common.{◌≡◌, ◌∙◌, ℕ, ◌≤◌, List, ◌++◌, [], Option, Some, None, IfSome, ap, sym, subst, length, take, append_assoc}
use Rattle.std.proofs.lemmas.List.{append-nil, take-append-le, take_all}
use Rattle.std.specs.Io.KnownBytes.{Consumes, IsAtEnd}

-- one more read takes what stands behind
pub Consumes-more : (old mid new : Option (List ℕ)) (bytes more : List ℕ) → Consumes old mid bytes → Consumes mid new more
    → Consumes old new (bytes ++ more)
Consumes-more None mid new bytes more first next = tt
Consumes-more (Some xs) None new bytes more first next = absurd first
Consumes-more (Some xs) (Some ys) None bytes more first next = absurd next
Consumes-more (Some xs) (Some ys) (Some zs) bytes more first next =
    first ∙ ap (λ rest. bytes ++ rest) next ∙ sym (append_assoc bytes more zs)

-- at the end of the source all its bytes were read
pub read_to_end : (old rest : Option (List ℕ)) (text : List ℕ) (n : ℕ) → Consumes old rest text → length text ≤ n → IsAtEnd rest
    → IfSome old (λ bytes. text ≡ take n bytes)
read_to_end None rest text n read fits end = tt
read_to_end (Some xs) None text n read fits end = absurd read
read_to_end (Some xs) (Some ys) text n read fits end =
    let all : xs ≡ text = read ∙ ap (λ rest. text ++ rest) end ∙ append-nil text in
    rw all (sym (take_all n text fits))

-- a read that gives none finds that end
pub read_none : (old mid rest : Option (List ℕ)) (text buffer : List ℕ) (count n : ℕ) → Consumes old mid text → Consumes mid rest (take count buffer)
    → count ≡ 0 → length text ≤ n → IsAtEnd rest → IfSome old (λ bytes. text ≡ take n bytes)
read_none old mid rest text buffer count n read more none fits end =
    let nothing : Consumes mid rest [] = subst (λ k. Consumes mid rest (take k buffer)) none more in
    let whole : Consumes old rest text = subst (Consumes old rest) (append-nil text) (Consumes-more old mid rest text [] read nothing) in
    read_to_end old rest text n whole fits end

-- where so many bytes were read, they are the first so many
pub read_in_full : (old rest : Option (List ℕ)) (text : List ℕ) (n : ℕ) → Consumes old rest text → n ≤ length text → length text ≤ n
    → IfSome old (λ bytes. text ≡ take n bytes)
read_in_full None rest text n read full fits = tt
read_in_full (Some xs) None text n read full fits = absurd read
read_in_full (Some xs) (Some ys) text n read full fits =
    sym (ap (take n) read ∙ take-append-le n text ys full ∙ take_all n text fits)
