-- The text of a remark, by its kind and its parts.
use Rattle.std.specs.Prelude.{ℕ, false, List, [], ◌++◌, codes, decimal, Option, Some, None}
use Rattle.list_parts.specs.PartTexts.{asked_caps, asked_ram, part_text}
use Rattle.list_parts.specs.QuotedTexts.{escaped_text, quoted_text}
use Rattle.list_findings.specs.declared.finding.Finding.{Finding}
use Rattle.list_findings.specs.declared.finding.Remark.{Remark}
use Rattle.list_findings.specs.declared.finding.Remark.TheVariants as remark
use Rattle.list_findings.specs.declared.finding.RemarkValue.{RemarkValue}
use Rattle.list_findings.specs.declared.finding.RemarkValue.TheVariants as code

-- the value of a remark
pub data Said : Type 0 where
  Nothing : Said
  Name : List ℕ → Said
  Escaped : List ℕ → Said
  Service : List ℕ → List ℕ → Said
  Prefix : List ℕ → List ℕ → Said
  Number : ℕ → Said
  Ram : ℕ → ℕ → Said
  Caps : ℕ → ℕ → Said

abbrev pub value_at : RemarkValue → Said
value_at code.Nothing = Nothing
value_at (code.Name name) = Name name.now
value_at (code.Escaped text) = Escaped text.now
value_at (code.Service child service) = Service child.now service.now
value_at (code.Prefix front name) = Prefix front.now name.now
value_at (code.Number number) = Number number
value_at (code.Ram own kept) = Ram own kept
value_at (code.Caps own kept) = Caps own kept

-- a value between two texts, and a name that may have been meant
pub record Phrase : Type 0 where
  pub before : List ℕ
  pub value : Said
  pub after : List ℕ
  pub near : Option (List ℕ)

abbrev pub said : List ℕ → Said → List ℕ → Option (List ℕ) → Phrase
said before value after near = record { before = before; value = value; after = after; near = near }

-- the phrase of each kind of remark
abbrev pub phrase_of : Remark → Phrase
phrase_of (remark.GivenTwice member) = said (codes "duplicate member `") (Escaped member) (codes "`; the last one counts") None
phrase_of (remark.Unread member near) = said (codes "unknown member `") (Escaped member) (codes "`") near
phrase_of (remark.NoChild child near) = said (codes "child: unknown component `") (Name child) (codes "`") near
phrase_of (remark.NotProvided child service) = said (codes "child: `") (Service child service) (codes "`") None
phrase_of (remark.NoProvider service) = said (codes "any-child: no component provides `") (Name service) (codes "`") None
phrase_of (remark.SeveralProviders service) =
    said (codes "any-child: several components provide `") (Name service) (codes "`, so the request is denied") None
phrase_of (remark.Hidden rule) =
    said (codes "unreachable rule: rule [") (Number rule) (codes "] of this list decides each of its requests first") None
phrase_of (remark.OtherCase service meant) = said (codes "service: unknown service `") (Name service) (codes "`") (Some meant)
phrase_of remark.Idle = said (codes "unused rule: it decides no session request of a script, with any label") Nothing [] None
phrase_of (remark.NoLabel member) = said (codes "unreachable rule: ") (Name member) (codes ": no label has this text") None
phrase_of remark.Arrow =
    said (codes "unreachable rule: label: without a label this list sees the names alone, without the arrow") Nothing [] None
phrase_of (remark.LetsIn front name) = said (codes "label_prefix: ") (Prefix front name) [] None
phrase_of remark.ChosenEnd =
    said (codes "label_suffix: a client with a label chooses its end, and the suffix may reach into the names") Nothing [] None
phrase_of (remark.NotProviding service) = said (codes "provides: missing `") (Name service) (codes "`, which this binary can provide") None
phrase_of remark.Unreached = said (codes "unused server: no script's session request is routed to it") Nothing [] None
phrase_of (remark.LowRam own kept) = said [] (Ram own kept) (codes " bytes are insufficient for a session; expected at least 4096") None
phrase_of (remark.LowCaps own kept) = said [] (Caps own kept) (codes " capabilities are insufficient for a session; expected at least 2") None
phrase_of remark.MachinesName = said (codes "name: `init` is the machine's own account in account lists") Nothing [] None
phrase_of (remark.PartPages ram) = said (codes "quantum: expected whole pages of 4096 bytes, found ") (Number ram) (codes " bytes") None
phrase_of (remark.PartReserve ram) = said (codes "reserve: expected whole pages of 4096 bytes, found ") (Number ram) (codes " bytes") None
phrase_of (remark.Unmet name) = said (codes "_expected: no finding of this part is named `") (Escaped name) (codes "`") None

-- a component, and the service that it doesn't provide
abbrev pub service_text : List ℕ → List ℕ → List ℕ
service_text child service = child ++ (codes "` doesn't provide `" ++ service)

-- a prefix, and the component whose labels begin with it too
abbrev pub prefix_text : List ℕ → List ℕ → List ℕ
prefix_text front name = quoted_text false front ++ codes " is a prefix of `" ++ name ++ codes "` too"

-- the text of a value
abbrev pub value_text : Said → List ℕ
value_text Nothing = []
value_text (Name name) = name
value_text (Escaped text) = escaped_text false text
value_text (Service child service) = service_text child service
value_text (Prefix front name) = prefix_text front name
value_text (Number number) = decimal number
value_text (Ram own kept) = asked_ram own kept
value_text (Caps own kept) = asked_caps own kept

-- the text of a name that may have been meant
abbrev pub near_text : Option (List ℕ) → List ℕ
near_text None = []
near_text (Some near) = codes "; did you mean `" ++ near ++ codes "`?"

abbrev pub phrase_text : Phrase → List ℕ
phrase_text phrase = phrase.before ++ value_text phrase.value ++ phrase.after ++ near_text phrase.near

-- the part of the list, and the remark on it
abbrev pub finding_text : Finding → List ℕ
finding_text finding = part_text finding.part ++ codes ": " ++ phrase_text (phrase_of finding.remark)
