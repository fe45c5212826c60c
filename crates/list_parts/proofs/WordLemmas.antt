-- The word of a binary is the one text that is read as it.
use Rattle.std.proofs.Common.{◌≡◌, ◌∙◌, Bool, true, false, if◌then◌else◌, List, ℕ, [], codes, Result, Ok, Err, Some, None, refl, sym, ap}
use Rattle.std.specs.Option.{option_map}
use Rattle.std.specs.Str.{bytes_eq}
use Rattle.std.proofs.lemmas.Slice.Eq.{bytes_eq-Decides}
use Rattle.trade_base.specs.declared.service.BuiltInService.TheVariants.{Log, Files}
use Rattle.own_model.specs.Listed.{Binary}
use Rattle.own_model.specs.Listed.Binary.{Script, Server, Init}
use Rattle.own_model.specs.Offer.Offer.{OffersLog, OffersFiles, OffersObjects}
use Rattle.list_parser.specs.BuiltIn.{built_in}
use Rattle.list_parser.specs.Entries.{BinaryWord, word_of}
use Rattle.list_parser.specs.FaultPlace.{value_or}
use Rattle.list_parser.specs.Entries.BinaryWord.{Known, Declares}
use Rattle.list_parser.specs.View.{word_by}
use Rattle.list_parser.specs.declared.list_fault.ListFault.{ListFault}
use Rattle.list_parts.specs.Kinds.{binary_word}

abbrev text_of : Result BinaryWord ListFault → List ℕ
text_of (Ok (Known binary)) = binary_word binary
text_of (Ok Declares) = codes "server"
text_of (Err fault) = []

-- a text that is one word, or is read further
if_word : (text word : List ℕ) (read found : BinaryWord) (rest : Result BinaryWord ListFault) → text_of (Ok read) ≡ word
    → (rest ≡ Ok found → text ≡ text_of (Ok found)) → (if bytes_eq text word then Ok read else rest) ≡ Ok found → text ≡ text_of (Ok found)
if_word text word read found rest has further = by (bytes_eq text word) refl
  where
    by : (b : Bool) → bytes_eq text word ≡ b → (if b then Ok read else rest) ≡ Ok found → text ≡ text_of (Ok found)
    by true same is = (bytes_eq-Decides text word).0 same ∙ sym has ∙ ap text_of is
    by false apart is = further is

-- a text that is the name of a built-in server's binary
if_served : (text : List ℕ) (found : BinaryWord) (fault : ListFault) (log files : Bool) → bytes_eq text (codes "log") ≡ log → bytes_eq text (codes "files") ≡ files
    → value_or fault (option_map (λ service. Known (built_in service)) (if log then Some Log else (if files then Some Files else None))) ≡ Ok found
    → text ≡ text_of (Ok found)
if_served text found fault true files same other is = (bytes_eq-Decides text (codes "log")).0 same ∙ ap text_of is
if_served text found fault false true apart same is = (bytes_eq-Decides text (codes "files")).0 same ∙ ap text_of is
if_served text found fault false false apart other is = cc

text_by : (binary : Binary) → text_of (Ok (word_by binary)) ≡ binary_word binary
text_by Script = refl
text_by (Server service OffersLog) = refl
text_by (Server service OffersFiles) = refl
text_by (Server service (OffersObjects kinds)) = refl
text_by Init = refl

pub word_is : (text : List ℕ) (binary : Binary) → word_of text ≡ Ok (word_by binary) → text ≡ binary_word binary
word_is text binary is =
    if_word text (codes "script") _ (word_by binary) _ refl (if_word text (codes "init") _ (word_by binary) _ refl
    (if_word text (codes "server") _ (word_by binary) _ refl (if_served text (word_by binary) _ _ _ refl refl))) is
    ∙ text_by binary
