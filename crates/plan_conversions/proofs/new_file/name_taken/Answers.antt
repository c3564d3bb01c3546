-- `name_taken` meets its contract: std reads the kind off the system's number.
use Rattle.std.proofs.Common.{ap}
use Rattle.std.specs.IoError.{os_error_kind}
use Rattle.plan_conversions.specs.FileWriting.{is_taken}
use Rattle.plan_conversions.proofs.new_file.name_taken.Goals as goal

pub returns-clause-kind : goal.returns-clause-kind
unfolding os_error_kind
returns-clause-kind c = ap is_taken c.from_raw_os_error.ensures.kind
