-- The names of shapes' faults.
use Rattle.std.specs.Prelude.{ℕ, List, codes}
use Rattle.keybits.specs.declared.shape.ShapeFault.{ShapeFault}
use Rattle.keybits.specs.declared.shape.ShapeFault.TheVariants.{Lanes, FirstPage, Pages, Generation, Tag}

-- the name of a fault
abbrev pub shape_fault_name : ShapeFault → List ℕ
shape_fault_name Lanes = codes "Lanes"
shape_fault_name FirstPage = codes "FirstPage"
shape_fault_name Pages = codes "Pages"
shape_fault_name Generation = codes "Generation"
shape_fault_name Tag = codes "Tag"
