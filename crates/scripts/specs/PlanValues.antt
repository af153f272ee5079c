-- The values of a script file that stand for commands, for scripts and for a plan.
use Rattle.std.specs.Prelude.{◌≡◌, ⊤, ◌≤◌, ℕ, List, [], ◌∷◌, ◌++◌, Ok, decimal, codes}
use Rattle.hex.specs.Hex.{IsBytes, encode_lower}
use Rattle.keybits.specs.declared.shape.Shape.{Shape}
use Rattle.traces.specs.declared.script.Command.{Command}
use Rattle.traces.specs.declared.script.Command.TheVariants as commands
use Rattle.traces.specs.declared.script.Operand.{Operand}
use Rattle.traces.specs.declared.script.Operand.TheVariants as operands
use Rattle.serde_json.specs.Data.{Data, unsigned, number, string, array, object, no_items, item, no_members, member, depth}
use Rattle.scripts.specs.ScriptFiles.{command_of, script_of}

-- a whole number
abbrev pub whole : ℕ → Data
whole n = number (unsigned n)

-- a key: its number, or the register whose last key it is
abbrev pub key_data : Operand → Data
key_data (operands.Number key) = whole key
key_data (operands.LastOf register) = string (codes "@" ++ decimal register.number)

-- a command of one operand, and of two
abbrev pub with_one : List ℕ → Data → Data
with_one name operand = array (item (string name) (item operand no_items))

abbrev pub with_two : List ℕ → Data → Data → Data
with_two name first second = array (item (string name) (item first (item second no_items)))

-- a command
abbrev pub command_data : Command → Data
command_data (commands.Create register) = with_one (codes "create") (whole register.number)
command_data (commands.Write register bytes) = with_two (codes "write") (whole register.number) (string (encode_lower bytes))
command_data (commands.Publish register) = with_one (codes "publish") (whole register.number)
command_data (commands.Downgrade register) = with_one (codes "downgrade") (whole register.number)
command_data (commands.Get register key) = with_two (codes "get") (whole register.number) (key_data key)
command_data (commands.Read register) = with_one (codes "read") (whole register.number)
command_data (commands.Release register) = with_one (codes "release") (whole register.number)
command_data (commands.Clear key) = with_one (codes "clear") (key_data key)

-- a shape, with its members in the order of their names
abbrev pub shape_data : Shape → Data
shape_data z = object (member (codes "first_page") (whole z.first_page) (member (codes "lanes") (whole z.lanes)
    (member (codes "last_generation") (whole z.last_generation) (member (codes "pages") (whole z.pages)
    (member (codes "tag") (whole z.tag) no_members)))))

-- a file with these scripts and this shape
abbrev pub with_fields : Data → Data → Data
with_fields scripts shape = object (member (codes "scripts") scripts (member (codes "shape") shape no_members))

-- the numbers of a shape are of 32 bits
pub record AreWithin (z : Shape) : Type 0 where
  pub lanes : z.lanes ≤ 4294967295
  pub first_page : z.first_page ≤ 4294967295
  pub pages : z.pages ≤ 4294967295
  pub last_generation : z.last_generation ≤ 4294967295
  pub tag : z.tag ≤ 4294967295

-- the value is read as the command, in any line of any lane
pub record IsLineOf (c : Command) (d : Data) : Type 0 where
  pub reads : (lane line : ℕ) → command_of lane line d ≡ Ok c
  pub flat : depth d ≤ 1

-- the value is read as the script, of any lane
pub record IsScriptOf (s : List Command) (d : Data) : Type 0 where
  pub reads : (lane : ℕ) → script_of lane d ≡ Ok s
  pub flat : depth d ≤ 2

-- each of some values is such a one of what stands beside it
abbrev pub AreEach : {T : Type 0} → (T → Data → Type 0) → List T → List Data → Type 0
AreEach Is [] [] = ⊤
AreEach Is [] (d ∷ ds) = ⊥
AreEach Is (x ∷ xs) [] = ⊥
AreEach Is (x ∷ xs) (d ∷ ds) = Is x d × AreEach Is xs ds

-- the bytes that a command writes are bytes
abbrev pub IsOfBytes : Command → Type 0
IsOfBytes (commands.Create register) = ⊤
IsOfBytes (commands.Write register bytes) = IsBytes bytes
IsOfBytes (commands.Publish register) = ⊤
IsOfBytes (commands.Downgrade register) = ⊤
IsOfBytes (commands.Get register key) = ⊤
IsOfBytes (commands.Read register) = ⊤
IsOfBytes (commands.Release register) = ⊤
IsOfBytes (commands.Clear key) = ⊤
