-- Faults of shapes: which field of a shape is the first that is outside its limits.
use Rattle.std.specs.Prelude.{ℕ, ◌<◌, ◌≤◌}
use Rattle.keybits.specs.declared.shape.Shape.{Shape}
use Rattle.keybits.specs.declared.shape.TheConstants.{MOST_LANES, MOST_PAGES, NARROW_LANES, NARROW_PAGES, GREATEST_TAG}
use Rattle.keybits.specs.declared.shape.ShapeFault.{ShapeFault}
use Rattle.keybits.specs.declared.shape.ShapeFault.TheVariants.{Lanes, FirstPage, Pages, Generation, Tag}
use Rattle.keybits.specs.Shapes.{IsFirstPage}

-- the number of a fault; the fields are tested in the order of these numbers
abbrev pub shape_fault_number : ShapeFault → ℕ
shape_fault_number Lanes = 1
shape_fault_number FirstPage = 2
shape_fault_number Pages = 3
shape_fault_number Generation = 4
shape_fault_number Tag = 6

-- the field that a fault speaks of is within its limits, where there may be so many lanes and pages
abbrev pub IsWithin : ℕ → ℕ → Shape → ShapeFault → Type 0
IsWithin lanes pages z Lanes = (1 ≤ z.lanes) × (z.lanes ≤ lanes)
IsWithin lanes pages z FirstPage = IsFirstPage z.first_page
IsWithin lanes pages z Pages = (1 ≤ z.pages) × (z.pages ≤ pages)
IsWithin lanes pages z Generation = 1 ≤ z.last_generation
IsWithin lanes pages z Tag = z.tag ≤ GREATEST_TAG

-- the field that a fault speaks of is outside its limits, and each field tested before it is within them
abbrev pub IsFirstOutside : ℕ → ℕ → Shape → ShapeFault → Type 0
IsFirstOutside lanes pages z fault =
    (¬ IsWithin lanes pages z fault)
    × ((earlier : ShapeFault) → shape_fault_number earlier < shape_fault_number fault → IsWithin lanes pages z earlier)

-- the first fault of a shape by the narrow limits
abbrev pub IsFirstFault : Shape → ShapeFault → Type 0
IsFirstFault z fault = IsFirstOutside NARROW_LANES NARROW_PAGES z fault

-- the first fault of a shape by the wide limits
abbrev pub IsFirstWideFault : Shape → ShapeFault → Type 0
IsFirstWideFault z fault = IsFirstOutside MOST_LANES MOST_PAGES z fault
