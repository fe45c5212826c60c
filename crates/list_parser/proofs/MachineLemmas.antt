-- The built-in machine's text, read by computing.
use Rattle.std.proofs.Common.{◌≡◌, List, [], ◌∷◌, true, Some, Ok, refl}
use Rattle.std.specs.Prelude.{codes}
use Rattle.std.specs.Float.Numeral.{scan_numeral}
use Rattle.std.specs.Str.{is_utf8, chars}
use lib.Utf8.{encode}
use Rattle.json.specs.Json as json
use Rattle.json.specs.Json.{items, members, value}
use Rattle.json.specs.Lex.{lex, punctuate, tokens}
use Rattle.json.specs.Text.{content}
use Rattle.json.specs.Token.{Token, begin_object, end_object, begin_array, end_array, key, string, number, boolean}
use Rattle.json.specs.Word.{word, after_number}
use Rattle.serde_json.specs.Data as values
use Rattle.serde_json.specs.Read.{number_of, of_json, max_depth}
use Rattle.list_parser.specs.declared.machine_a.TheConstants.{MACHINE_A}
use Rattle.own_model.specs.MachineA.{machine_a}
use Rattle.list_parser.specs.StartText.{list_in, list_of}

unfoldable pub the_tokens : List Token
the_tokens = begin_object ∷ key (codes "machine") ∷ begin_object ∷ key (codes "pages") ∷ number (codes "64") ∷ key (codes "caps") ∷ number (codes "64") ∷ end_object ∷ key (codes "default-route") ∷ begin_array ∷ begin_object ∷ key (codes "any-service") ∷ boolean true ∷ key (codes "any-child") ∷ boolean true ∷ end_object ∷ end_array ∷ key (codes "start") ∷ begin_array ∷ begin_object ∷ key (codes "name") ∷ string (codes "log") ∷ key (codes "quantum") ∷ string (codes "16K") ∷ key (codes "caps") ∷ number (codes "8") ∷ key (codes "provides") ∷ begin_array ∷ string (codes "LOG") ∷ end_array ∷ end_object ∷ begin_object ∷ key (codes "name") ∷ string (codes "files") ∷ key (codes "quantum") ∷ string (codes "16K") ∷ key (codes "caps") ∷ number (codes "8") ∷ key (codes "provides") ∷ begin_array ∷ string (codes "File_system") ∷ end_array ∷ end_object ∷ begin_object ∷ key (codes "name") ∷ string (codes "alice") ∷ key (codes "binary") ∷ string (codes "script") ∷ key (codes "quantum") ∷ string (codes "64K") ∷ key (codes "caps") ∷ number (codes "16") ∷ end_object ∷ begin_object ∷ key (codes "name") ∷ string (codes "bob") ∷ key (codes "binary") ∷ string (codes "script") ∷ key (codes "quantum") ∷ string (codes "64K") ∷ key (codes "caps") ∷ number (codes "16") ∷ end_object ∷ end_array ∷ end_object ∷ []

unfoldable pub the_json : json.Json
the_json = json.object (json.member (codes "machine") (json.object (json.member (codes "pages") (json.number (codes "64")) (json.member (codes "caps") (json.number (codes "64")) json.no_members))) (json.member (codes "default-route") (json.array (json.item (json.object (json.member (codes "any-service") (json.boolean true) (json.member (codes "any-child") (json.boolean true) json.no_members))) json.no_items)) (json.member (codes "start") (json.array (json.item (json.object (json.member (codes "name") (json.string (codes "log")) (json.member (codes "quantum") (json.string (codes "16K")) (json.member (codes "caps") (json.number (codes "8")) (json.member (codes "provides") (json.array (json.item (json.string (codes "LOG")) json.no_items)) json.no_members))))) (json.item (json.object (json.member (codes "name") (json.string (codes "files")) (json.member (codes "quantum") (json.string (codes "16K")) (json.member (codes "caps") (json.number (codes "8")) (json.member (codes "provides") (json.array (json.item (json.string (codes "File_system")) json.no_items)) json.no_members))))) (json.item (json.object (json.member (codes "name") (json.string (codes "alice")) (json.member (codes "binary") (json.string (codes "script")) (json.member (codes "quantum") (json.string (codes "64K")) (json.member (codes "caps") (json.number (codes "16")) json.no_members))))) (json.item (json.object (json.member (codes "name") (json.string (codes "bob")) (json.member (codes "binary") (json.string (codes "script")) (json.member (codes "quantum") (json.string (codes "64K")) (json.member (codes "caps") (json.number (codes "16")) json.no_members))))) json.no_items))))) json.no_members)))

unfoldable pub the_data : values.Data
the_data = values.object (values.member (codes "default-route") (values.array (values.item (values.object (values.member (codes "any-child") (values.boolean true) (values.member (codes "any-service") (values.boolean true) values.no_members))) values.no_items)) (values.member (codes "machine") (values.object (values.member (codes "caps") (values.number (values.unsigned 64)) (values.member (codes "pages") (values.number (values.unsigned 64)) values.no_members))) (values.member (codes "start") (values.array (values.item (values.object (values.member (codes "caps") (values.number (values.unsigned 8)) (values.member (codes "name") (values.string (codes "log")) (values.member (codes "provides") (values.array (values.item (values.string (codes "LOG")) values.no_items)) (values.member (codes "quantum") (values.string (codes "16K")) values.no_members))))) (values.item (values.object (values.member (codes "caps") (values.number (values.unsigned 8)) (values.member (codes "name") (values.string (codes "files")) (values.member (codes "provides") (values.array (values.item (values.string (codes "File_system")) values.no_items)) (values.member (codes "quantum") (values.string (codes "16K")) values.no_members))))) (values.item (values.object (values.member (codes "binary") (values.string (codes "script")) (values.member (codes "caps") (values.number (values.unsigned 16)) (values.member (codes "name") (values.string (codes "alice")) (values.member (codes "quantum") (values.string (codes "64K")) values.no_members))))) (values.item (values.object (values.member (codes "binary") (values.string (codes "script")) (values.member (codes "caps") (values.number (values.unsigned 16)) (values.member (codes "name") (values.string (codes "bob")) (values.member (codes "quantum") (values.string (codes "64K")) values.no_members))))) values.no_items))))) values.no_members)))

pub one_utf8 : is_utf8 MACHINE_A.now ≡ true
unfolding is_utf8 chars encode
one_utf8 = refl

pub one_tokens : tokens MACHINE_A.now ≡ the_tokens
unfolding lex punctuate content word after_number the_tokens
one_tokens = refl

pub one_json : value max_depth the_tokens ≡ Some (the_json, [])
unfolding items members value the_tokens the_json
one_json = refl

pub one_data : of_json the_json ≡ Some the_data
unfolding number_of scan_numeral the_json the_data
one_data = refl

pub one_list : list_of the_data ≡ Ok machine_a
unfolding the_data
one_list = refl

pub text_is_read : list_in MACHINE_A.now ≡ Ok machine_a
text_is_read = rw one_utf8 (rw one_tokens (rw one_json (rw one_data one_list)))
