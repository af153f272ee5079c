-- The most steps and looks of calls and of their parts.
use Rattle.std.specs.Prelude.{ℕ, ◌+◌, ◌-◌}
use Rattle.keybits.specs.declared.shape.Shape.{Shape}

-- the most steps of a return: LINK and PUSH, and both once more where that PUSH failed
abbrev pub most_return_steps : ℕ
most_return_steps = 4

-- the most steps of what follows a LEAVE: a CLAIM, and a return
abbrev pub most_end_steps : ℕ
most_end_steps = most_return_steps + 1

-- the most steps of a call that is no create: ENTER, MARK and LEAVE, and what follows a LEAVE
abbrev pub most_steps : ℕ
most_steps = most_end_steps + 3

-- the most TAKEs of a create: one for each other lane
abbrev pub most_takes : Shape → ℕ
most_takes z = z.lanes - 1

-- the most steps of a create: TAKEs, and a FOLLOW
abbrev pub most_create_steps : Shape → ℕ
most_create_steps z = most_takes z + 1

-- the most looks of what follows a LEAVE, however many lanes there are
abbrev pub most_end_looks : ℕ
most_end_looks = 33

-- the most looks of a call over a hand: one, and those of what follows a LEAVE
abbrev pub most_call_looks : ℕ
most_call_looks = most_end_looks + 1

-- the most looks of a call of a lane
abbrev pub most_looks : ℕ
most_looks = 64
