-- The forms of a declared server's requests by their keywords, and the requests that they make.
use Rattle.std.specs.Prelude.{ℕ, List, [], ◌∷◌, codes, find, is_none, if◌then◌else◌, Option, Some, None}
use Rattle.std.specs.Option.{option_and_then, option_map}
use Rattle.std.specs.Str.{bytes_eq}
use Rattle.trade_base.specs.Amount.{number_of}
use Rattle.own_model.specs.BufferService as buffers
use Rattle.own_model.specs.FileText.{file_word, of_file}
use Rattle.own_model.specs.ObjectSession.{HoldingRequest}
use Rattle.own_model.specs.ObjectSession.HoldingRequest.{OfObjects, OfBuffer}
use Rattle.own_model.specs.ObjectText as model
use Rattle.own_model.specs.ObjectText.{make_of, resize_of, count_of}
use Rattle.session_proto.specs.declared.object_form.ObjectForm.{ObjectForm}
use Rattle.session_proto.specs.declared.object_form.ObjectForm.TheVariants.{Make, Resize, Drop, Count, Name, Stat, Buffer, Unbuffer}

abbrev pub forms : List ObjectForm
forms = Make ∷ Resize ∷ Drop ∷ Count ∷ Name ∷ Stat ∷ Buffer ∷ Unbuffer ∷ []

abbrev pub word_of : ObjectForm → List ℕ
word_of Make = codes "MAKE"
word_of Resize = codes "RESIZE"
word_of Drop = codes "DROP"
word_of Count = codes "COUNT"
word_of Name = codes "NAME"
word_of Stat = codes "STAT"
word_of Buffer = codes "BUFFER"
word_of Unbuffer = codes "UNBUFFER"

-- the form of a keyword
abbrev pub form_named : List ℕ → Option ObjectForm
form_named word = find (λ form. bytes_eq word (word_of form)) forms

-- the request of a form with arguments or without
abbrev pub made_of : ObjectForm → Option (List ℕ) → Option HoldingRequest
made_of Make arguments = option_map OfObjects (option_and_then (of_file make_of) arguments)
made_of Resize arguments = option_map OfObjects (option_and_then (of_file resize_of) arguments)
made_of Drop arguments = option_map OfObjects (option_map model.ObjectRequest.Drop (option_and_then file_word arguments))
made_of Count arguments = option_map OfObjects (count_of arguments)
made_of Name arguments = option_map OfObjects (option_map model.ObjectRequest.Name (option_and_then number_of arguments))
made_of Stat arguments = if is_none arguments then Some (OfObjects model.ObjectRequest.Stat) else None
made_of Buffer arguments = option_map OfBuffer (option_map buffers.BufferRequest.Make (option_and_then number_of arguments))
made_of Unbuffer arguments = if is_none arguments then Some (OfBuffer buffers.BufferRequest.GiveBack) else None
