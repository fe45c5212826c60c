-- What the code's types denote.
use Rattle.std.specs.Prelude.{ℕ, List, [], map}
use Rattle.std.specs.Option.{option_copied}
use Rattle.serde_json.specs.View.{view}
use Rattle.own_model.specs.Listed as listed
use Rattle.own_model.specs.Listed.{ListedRule}
use Rattle.own_model.specs.Offer.{Offer}
use Rattle.own_model.specs.Offer.Offer.{OffersLog, OffersFiles, OffersObjects}
use Rattle.list_parser.specs.BuiltIn.{built_in}
use Rattle.list_parser.specs.Entries as told
use Rattle.list_parser.specs.HeadParts as parts
use Rattle.list_parser.specs.declared.list_config.ListConfig.{ListConfig}
use Rattle.list_parser.specs.declared.binary.Binary.{Binary}
use Rattle.list_parser.specs.declared.binary.Binary.TheVariants.{Script, Server, Declared, Init}
use Rattle.list_parser.specs.declared.binary_word.BinaryWord.{BinaryWord}
use Rattle.list_parser.specs.declared.binary_word.BinaryWord.TheVariants as word
use Rattle.list_parser.specs.declared.binary_word.KnownBinary.{KnownBinary}
use Rattle.list_parser.specs.declared.binary_word.KnownBinary.TheVariants as known
use Rattle.list_parser.specs.declared.binary_word.NamedBinary.{NamedBinary}
use Rattle.list_parser.specs.declared.binary_word.NamedBinary.TheVariants as named
use Rattle.list_parser.specs.declared.entry_head.EntryHead.{EntryHead}
use Rattle.list_parser.specs.declared.entry_head.EntryIdentity.{EntryIdentity}
use Rattle.list_parser.specs.declared.entry_head.EntryResources.{EntryResources}
use Rattle.list_parser.specs.declared.entry_head.Provider.{Provider}
use Rattle.list_parser.specs.declared.list_reader.ListReader.{ListReader}
use Rattle.list_parser.specs.declared.rule.Target.{Target}
use Rattle.list_parser.specs.declared.rule.Target.TheVariants.{Child, AnyChild, Parent}
use Rattle.list_parser.specs.declared.rule.BorrowedRule.{BorrowedRule}

abbrev pub model_target : Target → listed.Target
model_target (Child name) = listed.Target.Child name
model_target AnyChild = listed.Target.AnyChild
model_target Parent = listed.Target.Parent

-- the rule of borrowed texts
abbrev pub told_rule : BorrowedRule → ListedRule
told_rule told = record {
  service = told.service;
  label = option_copied told.label;
  label_prefix = option_copied told.label_prefix;
  label_suffix = option_copied told.label_suffix;
  target = model_target told.target;
}

abbrev pub model_binary : Binary → listed.Binary
model_binary Script = listed.Binary.Script
model_binary (Server service) = built_in service
model_binary (Declared service) = listed.Binary.Server service.value.name (OffersObjects service.value.kinds)
model_binary Init = listed.Binary.Init

-- ---- binaries while they are read

abbrev pub model_known : KnownBinary → listed.Binary
model_known known.Script = listed.Binary.Script
model_known (known.Server service) = built_in service
model_known known.Init = listed.Binary.Init

abbrev pub model_word : BinaryWord → told.BinaryWord
model_word (word.Known binary) = told.BinaryWord.Known (model_known binary)
model_word word.Declares = told.BinaryWord.Declares

-- a server that declares its service has no kinds yet
abbrev pub model_named_binary : NamedBinary → listed.Binary
model_named_binary (named.Known binary) = model_known binary
model_named_binary (named.Declared service) = listed.Binary.Server service (OffersObjects [])

-- the word by which a list has a binary
abbrev pub word_by_offer : List ℕ → Offer → told.BinaryWord
word_by_offer service OffersLog = told.BinaryWord.Known (listed.Binary.Server service OffersLog)
word_by_offer service OffersFiles = told.BinaryWord.Known (listed.Binary.Server service OffersFiles)
word_by_offer service (OffersObjects kinds) = told.BinaryWord.Declares

abbrev pub word_by : listed.Binary → told.BinaryWord
word_by listed.Binary.Script = told.BinaryWord.Known listed.Binary.Script
word_by (listed.Binary.Server service offer) = word_by_offer service offer
word_by listed.Binary.Init = told.BinaryWord.Known listed.Binary.Init

abbrev pub model_provider : Provider → told.Provider
model_provider provider = record { binary = model_named_binary provider.binary; provides = provider.provides }

abbrev pub model_resources : EntryResources → parts.EntryResources
model_resources shares = record { ram = shares.ram; caps = shares.caps; provider = model_provider shares.provider }

abbrev pub model_named : EntryIdentity → parts.EntryIdentity
model_named named = record { name = named.name; word = model_word named.word }

-- ---- lists while they are read

-- what states a list, by borrowed values
abbrev pub model_own : ListConfig → told.ListConfig
model_own own = record { route = own.route.items; starts = map view own.starts.now }

abbrev pub model_head : EntryHead → told.EntryHead
model_head head = record { entry = head.entry; starts = map view head.starts.now }

-- the state of a reader
abbrev pub so_far : ListReader → told.SoFar
so_far reading = record { entries = reading.entries.items; met = reading.met }
