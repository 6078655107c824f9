-- What an answer prints, where `output` is what the value that was found prints.
use Rattle.std.specs.Prelude.{ℕ, List, Ok, Err, Some, Option, Result}
use Rattle.fault.specs.declared.Fault.{Fault}
use Rattle.fault.specs.Told.{fault_line}

abbrev pub report_text : {T : Type 0} → (T → Option (List ℕ)) → Result T Fault → Option (List ℕ)
report_text output (Ok x) = output x
report_text output (Err f) = Some (fault_line f)
