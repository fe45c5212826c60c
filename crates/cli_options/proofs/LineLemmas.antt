-- What matches tell of flags, values and commands.
use Rattle.std.proofs.Common.{◌≡◌, ◌∙◌, ◌||◌, ℕ, List, Bool, true, false, Option, Some, None, Result, Err, refl, sym, ap, ap₂, codes, option_map, unwrap_or, Box, is_some, true≢false}
use Rattle.std.specs.Borrow.{Bor}
use Rattle.std.specs.Box.{box_value}
use Rattle.std.specs.Str.{bytes_eq}
use Rattle.std.specs.Str.Parse.{ParsesBool}
use Rattle.std.proofs.lemmas.Slice.Eq.{bytes_eq-Decides}
use Rattle.std.proofs.Math.Bool.{or-false}
use Rattle.clap.specs.Kinds.{HasKind}
use Rattle.clap.specs.Words.{AddsArg, AddsSubcommand, App, FailsBy, Kinds, ReadsOne, Row, Text, app_of, subcommand_rows, with_subcommand}
use Rattle.clap.specs.declared.builder.arg.Arg.{Arg}
use Rattle.clap.specs.declared.builder.command.Command.{Command}
use Rattle.clap.specs.declared.builder.command.Command.TheViews.{out-Command}
use Rattle.clap.specs.declared.error.Error.{Error}
use Rattle.clap.specs.declared.parser.matches.ArgMatches.TheViews.{out-SubCommand}
use Rattle.clap.specs.declared.parser.matches.SubCommand.{SubCommand}
use Rattle.cli_options.specs.Line.{IsTold, command_told, is_true}
use Rattle.cli_options.specs.declared.command_table.CommandForm.{CommandForm}

-- a text that reads as a flag says what the flag is, and a text that doesn't isn't `true`
pub flag_read : (E : Type 0) (text : Option (List ℕ)) (read : Option Bool) → (text ≡ None → read ≡ None)
    → ((t : List ℕ) → text ≡ Some t → ReadsOne (ParsesBool {E = E}) t read) → unwrap_or read false ≡ is_true text
flag_read E None read none some = rw (none refl) refl
flag_read E (Some t) (Some true) none some = rw (some t refl) refl
flag_read E (Some t) (Some false) none some = rw (some t refl) refl
flag_read E (Some t) None none some = go (bytes_eq t (codes "true")) refl
  where
    go : (b : Bool) → bytes_eq t (codes "true") ≡ b → false ≡ bytes_eq t (codes "true")
    go true same = absurd ((some t refl).1.0 ((bytes_eq-Decides t (codes "true")).0 same))
    go false same = sym same

-- the text of a value, or of what stands for it
pub value_or : (found : Option (Bor (List ℕ))) (other result : Bor (List ℕ)) → result ≡ unwrap_or found other
    → result.now ≡ unwrap_or (option_map (λ t. t.now) found) other.now
value_or None other result same = ap (λ (t : Bor (List ℕ)). t.now) same
value_or (Some t) other result same = ap (λ (t : Bor (List ℕ)). t.now) same

-- an argument that counts for its command alone is added
pub local_added : (old : Command) (arg : Arg) (new : Command) → AddsArg old arg new → arg.global ≡ false
    → (out-Command new).has_globals ≡ (out-Command old).has_globals
local_added old arg new adds local =
    adds.globals ∙ ap (λ (b : Bool). (out-Command old).has_globals || b) local ∙ or-false (out-Command old).has_globals

-- a command of a table is added
pub added : (old sub new : Command) (form : CommandForm) → AddsSubcommand old sub new → IsTold form sub
    → app_of new ≡ with_subcommand (app_of old) (command_told form).top
added old sub new form adds told =
    adds.shape told.1 ∙ ap (λ (a : App). with_subcommand (app_of old) a.top) told.0

-- a name and rows told apart
pub pair_is : (asked : Option (Text × List Row)) (name : Text) (rows : List Row)
    → Some name ≡ option_map (λ p. p.0) asked → Some rows ≡ option_map (λ p. p.1) asked → asked ≡ Some (name, rows)
pair_is None name rows named has = absurd (true≢false (ap is_some named))
pair_is (Some (a, b)) name rows named has = ap₂ (λ (x : Text) (y : List Row). Some (x, y))
    (sym (ap (λ (o : Option Text). unwrap_or o a) named)) (sym (ap (λ (o : Option (List Row)). unwrap_or o b) has))

module _ {Z : Type 0} where
  -- the name that a parse met stands with its rows
  pub name_in_rows : (o : Option (Box SubCommand Z))
      → option_map (λ b. (out-SubCommand (box_value b)).name.now) o ≡ option_map (λ p. p.0) (subcommand_rows o)
  name_in_rows None = refl
  name_in_rows (Some b) = refl

-- an error that is passed on has its kind
pub fails_so : {T : Type 0} (kinds other : Kinds) (e passed : Error) (result : Result T Error) → kinds ≡ other
    → HasKind kinds e → result ≡ Err passed → passed ≡ e → FailsBy other result
fails_so kinds other e passed result same has is from = rw (is, from, ← same) has
