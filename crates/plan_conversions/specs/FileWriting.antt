-- What answers of the system are taken for where a file is written.
use Rattle.std.specs.Prelude.{Bool, true, false, cond, Option, Some, None, Result, Ok, Err}
use Rattle.std.specs.IoError.{error_kind}
use Rattle.std.specs.declared.io.Error.{Error}
use Rattle.std.specs.declared.io.ErrorKind.{ErrorKind}
use Rattle.std.specs.declared.io.ErrorKind.TheVariants.{AlreadyExists}

abbrev pub is_taken : ErrorKind → Bool
is_taken AlreadyExists = true
is_taken _ = false

-- the file, none where its name is taken, or why it can't be made
abbrev pub after_create : {F : Type 0} → Result F Error → Result (Option F) Error
after_create (Ok file) = Ok (Some file)
after_create (Err e) = cond (is_taken (error_kind e)) (Ok None) (Err e)

-- What the writing of all bytes, their synchronizing and the closing of the file come to, one behind the other: the last error, or none.
abbrev pub after_fill : Result Unit Error → Result Unit Error → Result Unit Error → Result Unit Error
after_fill written synced (Err e) = Err e
after_fill written (Err e) (Ok _) = Err e
after_fill written (Ok _) (Ok _) = written
