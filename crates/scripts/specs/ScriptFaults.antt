-- The numbers and the names of a script file's faults.
use Rattle.std.specs.Prelude.{ℕ, List, codes}
use Rattle.keybits.specs.FaultNames.{shape_fault_name}
use Rattle.keybits.specs.ShapeFaults.{shape_fault_number}
use Rattle.scripts.specs.declared.script_fault.ScriptFault.{ScriptFault}
use Rattle.scripts.specs.declared.script_fault.ScriptFault.TheVariants.{NotJson, Field, Act, Register, Number, Shape, Memory}

-- the number of a script file's fault
abbrev pub script_fault_number : ScriptFault → ℕ
script_fault_number NotJson = 31
script_fault_number Field = 32
script_fault_number Act = 33
script_fault_number Register = 34
script_fault_number Number = 35
script_fault_number (Shape fault) = shape_fault_number fault
script_fault_number Memory = 36

-- the name of a script file's fault
abbrev pub script_fault_name : ScriptFault → List ℕ
script_fault_name NotJson = codes "NotJson"
script_fault_name Field = codes "Field"
script_fault_name Act = codes "Act"
script_fault_name Register = codes "Register"
script_fault_name Number = codes "Number"
script_fault_name (Shape fault) = shape_fault_name fault
script_fault_name Memory = codes "Memory"
