-- The forms of calls by their tokens.
use Rattle.std.specs.Prelude.{ℕ, List, [], ◌∷◌, codes, find, Option}
use Rattle.std.specs.Str.{bytes_eq}
use Rattle.line_grammar.specs.declared.form.CallForm.{CallForm}
use Rattle.line_grammar.specs.declared.form.CallForm.TheVariants.{Alloc, Free, Attach, AttachAt, Detach, Peek, Poke, Capalloc, Capfree, New, Del, Snew, Sdel, Open, Upgrade, Call, Close, Exit, Quota, Reserve, Request, Yield}

abbrev pub forms : List CallForm
forms =
    Alloc
    ∷ Free
    ∷ Attach
    ∷ AttachAt
    ∷ Detach
    ∷ Peek
    ∷ Poke
    ∷ Capalloc
    ∷ Capfree
    ∷ New
    ∷ Del
    ∷ Snew
    ∷ Sdel
    ∷ Open
    ∷ Upgrade
    ∷ Call
    ∷ Close
    ∷ Exit
    ∷ Quota
    ∷ Reserve
    ∷ Request
    ∷ Yield
    ∷ []

abbrev pub word_of : CallForm → List ℕ
word_of Alloc = codes "alloc"
word_of Free = codes "free"
word_of Attach = codes "attach"
word_of AttachAt = codes "attach_at"
word_of Detach = codes "detach"
word_of Peek = codes "peek"
word_of Poke = codes "poke"
word_of Capalloc = codes "capalloc"
word_of Capfree = codes "capfree"
word_of New = codes "new"
word_of Del = codes "del"
word_of Snew = codes "snew"
word_of Sdel = codes "sdel"
word_of Open = codes "open"
word_of Upgrade = codes "upgrade"
word_of Call = codes "call"
word_of Close = codes "close"
word_of Exit = codes "exit"
word_of Quota = codes "quota"
word_of Reserve = codes "reserve"
word_of Request = codes "request"
word_of Yield = codes "yield"

-- a form as it is printed: its token and its arguments
abbrev pub form_text : CallForm → List ℕ
form_text Alloc = codes "alloc N"
form_text Free = codes "free S"
form_text Attach = codes "attach S"
form_text AttachAt = codes "attach_at S A"
form_text Detach = codes "detach A"
form_text Peek = codes "peek A LEN"
form_text Poke = codes "poke A HEX"
form_text Capalloc = codes "capalloc"
form_text Capfree = codes "capfree S"
form_text New = codes "new N"
form_text Del = codes "del A"
form_text Snew = codes "snew N"
form_text Sdel = codes "sdel A"
form_text Open = codes "open SERVICE ARGS"
form_text Upgrade = codes "upgrade S ARGS"
form_text Call = codes "call S REQUEST"
form_text Close = codes "close S"
form_text Exit = codes "exit"
form_text Quota = codes "quota"
form_text Reserve = codes "reserve"
form_text Request = codes "request ARGS"
form_text Yield = codes "yield ARGS"

-- the form of a token
abbrev pub form_named : List ℕ → Option CallForm
form_named word = find (λ form. bytes_eq word (word_of form)) forms
