-- How the parts of a cell are dealt among its shares. No public clause cites this module.
use Rattle.std.specs.Prelude.{◌≡◌, ◌+◌, ◌^◌, ◌≤◌, ◌==◌}
use Rattle.slotcell.specs.declared.portion.Portion.{Portion}
use Rattle.slotcell.specs.Portion.{parts_of}
use Rattle.slotcell.specs.Share.{Share}

module _ {T : Type 0} where
  -- the portion is that of a share; the last share has the right to the box
  abbrev pub IsOneShare : Portion T → Type 0
  IsOneShare p = (p.parts ≡ parts_of p.of p.number) × (p.owner ≡ (p.number + 1 == p.of)) × (p.of ≤ 2 ^ 63)

  -- what is seen of it
  abbrev pub shown_by : Portion T → Share T
  shown_by p = record { cell = p.cell; number = p.number; of = p.of; object = p.object }
