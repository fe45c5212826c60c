-- The arguments that are read, or why they aren't.
use Rattle.std.proofs.Common.{◌≡◌, ℕ, List, Option, Err, [], ◌∷◌, inl, inr, map, subst}
use Rattle.std.specs.Prelude.{◌⊎◌, string_bytes}
use Rattle.std.proofs.lemmas.Option.{IfSome_then}
use Rattle.clap.specs.Words.{HasKind, kind_of}
use Rattle.clap.specs.declared.error.Error.{Error}
use Rattle.clap.specs.declared.error.kind.ErrorKind.TheVariants.{InvalidValue, OutOfMemory}
use Rattle.nethrywel.specs.CommandStatus.{AnswersWords, RefusesAs, RefusesBy}
use Rattle.nethrywel.proofs.answer_arguments.Goals as goal

-- for want of memory any arguments may be answered so
without_memory : (texts : List ℕ → Option (List ℕ)) (words : List (List ℕ)) (error : Error) (status : ℕ) → kind_of error ≡ OutOfMemory
    → RefusesBy error status → AnswersWords texts words status
without_memory texts words error status is refused = (Err error, (inl is, refused))

-- an argument that isn't UTF-8 is refused
refused_or_without_memory : (texts : List ℕ → Option (List ℕ)) (error : Error) (status : ℕ) → HasKind (InvalidValue ∷ []) error
    → RefusesBy error status → (status ≡ 2) ⊎ ((words : List (List ℕ)) × AnswersWords texts words status)
refused_or_without_memory texts error status (inl memory) refused = inr ([], without_memory texts [] error status memory refused)
refused_or_without_memory texts error status (inr (inl invalid)) refused = inl (subst (λ kind. RefusesAs kind status) invalid refused)
refused_or_without_memory texts error status (inr (inr none)) refused = absurd none

pub returns-in-Ok-clause-any : goal.returns-in-Ok-clause-any
returns-in-Ok-clause-any g c = inr (map string_bytes c.as_slice.result.now, c.answer_words.ensures)

pub returns-in-Err-clause-known : goal.returns-in-Err-clause-known
returns-in-Err-clause-known g c =
    IfSome_then (g.H.Host.arguments_of c.args.host.now) c.in-Err.ensures.memory
    (λ words memory. without_memory (g.H.Host.text_at c.args.host.now) words c.in-Err.error c.refuse.result memory c.refuse.ensures)

pub returns-in-Err-clause-any : goal.returns-in-Err-clause-any
returns-in-Err-clause-any g c =
    refused_or_without_memory (g.H.Host.text_at c.args.host.now) c.in-Err.error c.refuse.result c.in-Err.ensures.failed c.refuse.ensures
