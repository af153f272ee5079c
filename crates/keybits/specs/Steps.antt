-- The step relation: what each kind of step does to its word.
use Rattle.std.specs.Prelude.{◌≡◌, ◌==◌, ◌⊎◌, ℕ, ◌+◌, ◌-◌, ◌≤◌, if◌then◌else◌}
use Rattle.keybits.specs.declared.step.Kind.{Kind}
use Rattle.keybits.specs.declared.step.Kind.TheVariants.{Enter, Leave, Publish, Mark, Claim, Link, Push, Take, Follow}
use Rattle.keybits.specs.Words.{state_in, count_in, claimable}

-- the word after a claim of this generation, where the last generation is last
abbrev pub claim_gives : ℕ → ℕ → ℕ → ℕ
claim_gives last generation word =
    if word == claimable generation then (if generation == last then word - 1 else word + 4294967293) else word

-- a step of this kind may find the one word and leave the other, where the last generation is last
abbrev pub Changes : ℕ → Kind → ℕ → ℕ → Type 0
Changes last Enter before after = after ≡ before + 4
Changes last Leave before after = (1 ≤ count_in before) × (before ≡ after + 4)
Changes last (Publish with_ref) before after = (state_in before ≡ 0) × (after ≡ (if with_ref then before + 5 else before + 1))
Changes last Mark before after = ((state_in before ≡ 1) ⊎ (state_in before ≡ 3)) × (1 ≤ count_in before)
    × (after + state_in before ≡ before + 3)
Changes last (Claim generation) before after = after ≡ claim_gives last generation before
Changes last (Link expected) before after = after ≡ expected
Changes last (Push expected link) before after = after ≡ (if before == expected then link else before)
Changes last Take before after = after ≡ 0
Changes last Follow before after = after ≡ before
