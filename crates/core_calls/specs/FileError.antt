-- The errors of services as the model sees them.
use Rattle.own_model.specs.FileText as model
use Rattle.core_calls.specs.declared.file_error.FileError.{FileError}
use Rattle.core_calls.specs.declared.file_error.FileError.TheVariants.{BadRequest, BadName, Exists, NotFound, Gap, TooLong, End, TooManyChunks, OutOfRam, OutOfCaps, InvalidSize, NoBuffer, BadRange}

abbrev pub model_error : FileError → model.FileError
model_error BadRequest = model.FileError.BadRequest
model_error BadName = model.FileError.BadName
model_error Exists = model.FileError.Exists
model_error NotFound = model.FileError.NotFound
model_error Gap = model.FileError.Gap
model_error TooLong = model.FileError.TooLong
model_error End = model.FileError.End
model_error TooManyChunks = model.FileError.TooManyChunks
model_error OutOfRam = model.FileError.OutOfRam
model_error OutOfCaps = model.FileError.OutOfCaps
model_error InvalidSize = model.FileError.InvalidSize
model_error NoBuffer = model.FileError.NoBuffer
model_error BadRange = model.FileError.BadRange
