-- What the matches tell of a flag.
use Rattle.std.proofs.Common.{◌≡◌, ℕ, List, Bool, true, false, Option, Some, None, refl, sym, codes, unwrap_or}
use Rattle.std.specs.Str.{bytes_eq}
use Rattle.std.specs.Str.Parse.{ParsesBool}
use Rattle.std.proofs.lemmas.Slice.Eq.{bytes_eq-Decides}
use Rattle.clap.specs.Words.{ReadsOne}
use Rattle.cli_engine.specs.Options.{is_true}

-- a text that reads as a flag says what the flag is, and a text that doesn't isn't `true`
pub flag_read : (E : Type 0) (text : Option (List ℕ)) (read : Option Bool) → (text ≡ None → read ≡ None)
    → ((t : List ℕ) → text ≡ Some t → ReadsOne (ParsesBool {E = E}) t read) → unwrap_or read false ≡ is_true text
flag_read E None read none some = rw (none refl) refl
flag_read E (Some t) (Some true) none some = rw (some t refl) refl
flag_read E (Some t) (Some false) none some = rw (some t refl) refl
flag_read E (Some t) None none some = go (bytes_eq t (codes "true")) refl
  where
    go : (b : Bool) → bytes_eq t (codes "true") ≡ b → false ≡ bytes_eq t (codes "true")
    go true same = absurd ((some t refl).1.0 ((bytes_eq-Decides t (codes "true")).0 same))
    go false same = sym same
