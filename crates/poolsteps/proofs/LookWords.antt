-- The words that lanes look at are words of the table.
use Rattle.std.proofs.Common.{ℕ, ◌<◌, arith}
use Rattle.keybits.specs.declared.shape.Shape.{Shape}
use Rattle.keybits.specs.Shapes.{callers, IsShape}
use Rattle.poolsteps.specs.Layout.{look_word, word_count}

-- they stand before the lifecycle words
pub look-below : (z : Shape) → IsShape z → (lane : ℕ) → lane < (callers z) → look_word lane < word_count z
look-below z ok lane below = omega arith

-- the first word, which is read where seats are cut and joined
pub words-some : (z : Shape) → 0 < word_count z
words-some z = omega arith
