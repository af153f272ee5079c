-- The numbers from the first key of a place to the last are those of its keys.
use Rattle.std.proofs.Common.{◌/◌, ◌<◌, ◌≤◌, ap, sym, ◌∙◌, arith}
use Rattle.keybits.specs.declared.shape.Shape.{Shape}
use Rattle.keybits.specs.Shapes.{is_place}
use Rattle.keybits.proofs.KeyLemmas.{key_parts, is_key-from_parts}
use Rattle.poolsteps.proofs.KeyRanges.{behind, behind-tag, behind-low, behind-high, behind-key}
use Rattle.poolsteps.proofs.grid.Grid.find_key.Goals as goal

-- a number beyond them is no key
pub returns-then-behind-from-clause-none : goal.returns-then-behind-from-clause-none
returns-then-behind-from-clause-none g c =
    let z : Shape = c.args.self.now.shape in
    let head = c.args.key / 16777216 in
    let first = c.args.self.now.first_key_is in
    let tag = c.args.self.now.checked.tag in
    let fits = c.ranges.key.fits in
    let last : z.last_generation < 4294967296 = omega (arith, c.last_generation.ensures, c.last_generation.type_inv) in (
      λ some. absurd (cc some),
      λ is.
          let parts = key_parts z c.args.key is in
          let near = behind-key head z.tag z.last_generation (omega (arith, fits)) (omega (arith, tag)) (omega (arith, parts.tag)) (omega (arith, parts.first)) (omega (arith, parts.last)) in
          absurd (omega (arith, near, first, c.if-behind-from.true)),
    )

pub returns-clause-none : goal.returns-clause-none
returns-clause-none g c =
    let z : Shape = c.args.self.now.shape in
    let head = c.args.key / 16777216 in
    let first = c.args.self.now.first_key_is in
    let tag = c.args.self.now.checked.tag in
    let fits = c.ranges.key.fits in
    let below : head < 1099511627776 = omega (arith, fits) in
    let wide : z.tag ≤ 255 = omega (arith, tag) in
    let last : z.last_generation < 4294967296 = omega (arith, c.last_generation.ensures, c.last_generation.type_inv) in
    let near : behind head z.tag < z.last_generation = omega (arith, first, c.last_generation.ensures, c.from.ensures, c.if-behind-from.false) in
    let place = ap (λ p. is_place z p) c.place_of.ensures.place in (
      λ some. is_key-from_parts z c.args.key
          (let same = behind-tag head z.tag z.last_generation below wide last near in omega (arith, same))
          (sym place ∙ c.find.ensures.none.0 some)
          (let low = behind-low head z.tag z.last_generation below wide last near in omega (arith, low))
          (let high = behind-high head z.tag z.last_generation below wide last near in omega (arith, high)),
      λ is. c.find.ensures.none.1 (place ∙ (key_parts z c.args.key is).place),
    )
