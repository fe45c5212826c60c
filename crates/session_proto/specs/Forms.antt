-- The forms of the file service's requests by their keywords, and the requests that they make.
use Rattle.std.specs.Prelude.{ℕ, List, [], ◌∷◌, codes, find, is_none, if◌then◌else◌, Option, Some, None}
use Rattle.std.specs.Option.{option_and_then, option_map}
use Rattle.std.specs.Str.{bytes_eq}
use Rattle.trade_base.specs.Amount.{number_of}
use Rattle.own_model.specs.BufferService as model
use Rattle.own_model.specs.BufferService.{SessionRequest, move_of}
use Rattle.own_model.specs.BufferService.SessionRequest.{OfFiles, OfBuffer}
use Rattle.own_model.specs.FileText as files
use Rattle.own_model.specs.FileText.{file_word, of_file, read_of, write_of}
use Rattle.session_proto.specs.declared.form.FileForm.{FileForm}
use Rattle.session_proto.specs.declared.form.FileForm.TheVariants.{Create, Write, Read, Size, Clear, Drop, Name, Stat, Buffer, Unbuffer, Put, Get}

abbrev pub forms : List FileForm
forms = Create ∷ Write ∷ Read ∷ Size ∷ Clear ∷ Drop ∷ Name ∷ Stat ∷ Buffer ∷ Unbuffer ∷ Put ∷ Get ∷ []

abbrev pub word_of : FileForm → List ℕ
word_of Create = codes "CREATE"
word_of Write = codes "WRITE"
word_of Read = codes "READ"
word_of Size = codes "SIZE"
word_of Clear = codes "CLEAR"
word_of Drop = codes "DROP"
word_of Name = codes "NAME"
word_of Stat = codes "STAT"
word_of Buffer = codes "BUFFER"
word_of Unbuffer = codes "UNBUFFER"
word_of Put = codes "PUT"
word_of Get = codes "GET"

-- the form of a keyword
abbrev pub form_named : List ℕ → Option FileForm
form_named word = find (λ form. bytes_eq word (word_of form)) forms

-- the request of a form with arguments or without
abbrev pub made_of : FileForm → Option (List ℕ) → Option SessionRequest
made_of Create arguments = option_map OfFiles (option_map files.FileRequest.Create (option_and_then file_word arguments))
made_of Write arguments = option_map OfFiles (option_and_then (of_file write_of) arguments)
made_of Read arguments = option_map OfFiles (option_and_then (of_file read_of) arguments)
made_of Size arguments = option_map OfFiles (option_map files.FileRequest.Size (option_and_then file_word arguments))
made_of Clear arguments = option_map OfFiles (option_map files.FileRequest.Clear (option_and_then file_word arguments))
made_of Drop arguments = option_map OfFiles (option_map files.FileRequest.Drop (option_and_then file_word arguments))
made_of Name arguments = option_map OfFiles (option_map files.FileRequest.Name (option_and_then number_of arguments))
made_of Stat arguments = if is_none arguments then Some (OfFiles files.FileRequest.Stat) else None
made_of Buffer arguments = option_map OfBuffer (option_map model.BufferRequest.Make (option_and_then number_of arguments))
made_of Unbuffer arguments = if is_none arguments then Some (OfBuffer model.BufferRequest.GiveBack) else None
made_of Put arguments = option_map OfBuffer (option_and_then (of_file (move_of model.BufferRequest.Put)) arguments)
made_of Get arguments = option_map OfBuffer (option_and_then (of_file (move_of model.BufferRequest.Get)) arguments)

-- that of a form of one file name
abbrev pub made_of_word : FileForm → List ℕ → Option SessionRequest
made_of_word Create file = Some (OfFiles (files.FileRequest.Create file))
made_of_word Size file = Some (OfFiles (files.FileRequest.Size file))
made_of_word Clear file = Some (OfFiles (files.FileRequest.Clear file))
made_of_word Drop file = Some (OfFiles (files.FileRequest.Drop file))
made_of_word form file = None
