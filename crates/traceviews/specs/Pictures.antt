-- What the picture of a trace is.
use Rattle.std.specs.Prelude.{◌≡◌, ℕ, List, ◌++◌, codes}

-- an SVG: a drawing stands behind the name of its first tag, and before its last one
pub record IsPicture (text : List ℕ) : Type 0 where
  pub drawing : List ℕ
  pub is : text ≡ codes "<svg xmlns=\"http://www.w3.org/2000/svg\" role=\"img\"" ++ drawing ++ codes "</svg>\n"
