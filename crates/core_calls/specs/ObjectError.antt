-- The errors of requests of declared servers as the model sees them.
use Rattle.own_model.specs.ObjectText as model
use Rattle.core_calls.specs.FileError.{model_error}
use Rattle.core_calls.specs.declared.object_error.ObjectError.{ObjectError}
use Rattle.core_calls.specs.declared.object_error.ObjectError.TheVariants.{BadKind, Shared}

abbrev pub model_object_error : ObjectError → model.ObjectError
model_object_error BadKind = model.ObjectError.BadKind
model_object_error (Shared error) = model.ObjectError.Shared (model_error error)
