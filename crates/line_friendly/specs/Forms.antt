-- The kinds of the arguments after the forms of calls, and the form that may be meant.
use Rattle.std.specs.Prelude.{ℕ, ◌==◌, ◌&&◌, ◌||◌, Bool, true, false, List, [], ◌∷◌, find, length, if◌then◌else◌, Option}
use Rattle.std.specs.Str.{bytes_eq}
use Rattle.line_grammar.specs.Forms.{forms, word_of}
use Rattle.line_grammar.specs.declared.form.CallForm.{CallForm}
use Rattle.line_grammar.specs.declared.form.CallForm.TheVariants.{Alloc, Free, Attach, AttachAt, Detach, Peek, Poke, Capalloc, Capfree, New, Del, Snew, Sdel, Open, Upgrade, Call, Close, Exit, Quota, Reserve, Request, Yield}
use Rattle.line_friendly.specs.declared.forms.ArgumentKind.{ArgumentKind}
use Rattle.line_friendly.specs.declared.forms.ArgumentKind.TheVariants.{Number, Size, Address, Hex, Service}

-- the kinds of the arguments after a form
abbrev pub kinds_of : CallForm → List ArgumentKind
kinds_of Alloc = Size ∷ []
kinds_of Free = Number ∷ []
kinds_of Attach = Number ∷ []
kinds_of AttachAt = Number ∷ Address ∷ []
kinds_of Detach = Address ∷ []
kinds_of Peek = Address ∷ Size ∷ []
kinds_of Poke = Address ∷ Hex ∷ []
kinds_of Capalloc = []
kinds_of Capfree = Number ∷ []
kinds_of New = Size ∷ []
kinds_of Del = Address ∷ []
kinds_of Snew = Size ∷ []
kinds_of Sdel = Address ∷ []
kinds_of Open = Service ∷ []
kinds_of Upgrade = Number ∷ []
kinds_of Call = Number ∷ []
kinds_of Close = Number ∷ []
kinds_of Exit = []
kinds_of Quota = []
kinds_of Reserve = []
kinds_of Request = []
kinds_of Yield = []

-- a text may follow them
abbrev pub has_text : CallForm → Bool
has_text Open = true
has_text Upgrade = true
has_text Call = true
has_text Request = true
has_text Yield = true
has_text form = false

-- two texts differ by the order of their first two bytes alone
abbrev pub are_exchanged : List ℕ → List ℕ → Bool
are_exchanged [] written = false
are_exchanged (first ∷ []) written = false
are_exchanged (first ∷ second ∷ xs) [] = false
are_exchanged (first ∷ second ∷ xs) (other ∷ []) = false
are_exchanged (first ∷ second ∷ xs) (other ∷ next ∷ ys) = (first == next) && ((second == other) && bytes_eq xs ys)

-- two texts differ by one byte that is left out, put in or replaced, or by the order of two neighbouring bytes
abbrev pub is_one_edit : List ℕ → List ℕ → Bool
is_one_edit [] written = length written == 1
is_one_edit (x ∷ xs) [] = length (x ∷ xs) == 1
is_one_edit (x ∷ xs) (y ∷ ys) =
    if x == y then is_one_edit xs ys
    else bytes_eq xs ys || (bytes_eq xs (y ∷ ys) || (bytes_eq (x ∷ xs) ys || are_exchanged (x ∷ xs) (y ∷ ys)))

-- the first form that may be meant by a token
abbrev pub form_near : List ℕ → Option CallForm
form_near word = find (λ form. is_one_edit (word_of form) word) forms
