-- Schedules that are drawn by a generator.
use Rattle.std.specs.Prelude.{ℕ, ◌%◌, List, map}
use Rattle.rand_core.specs.Pcg32Seed.{pcg32_seed}
use Rattle.rand_core.specs.Steps.{first_words}
use Rattle.rand_pcg.specs.Lcg.{Lcg}
use Rattle.rand_pcg.specs.Pcg.{pcg32, pcg32_of_seed}

-- the generator PCG32 of a number, which its 16 bytes of seed are made of
abbrev pub generator_of : ℕ → Lcg
generator_of seed = pcg32_of_seed (pcg32_seed 16 seed)

-- a drawn schedule: the first n words of the generator of the seed, each modulo the number of lanes
abbrev pub drawn : ℕ → ℕ → ℕ → List ℕ
drawn seed lanes n = map (λ word. word % lanes) (first_words pcg32 n (generator_of seed))
