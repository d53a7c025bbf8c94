-- Shapes: what a name may stand for in each of its meanings.
use Rattle.std.specs.Prelude.{ℕ, List, flat_map}
use Rattle.std.specs.Option.{option_to_list}
use Rattle.nif_names.specs.declared.shapes.Shape.{Shape}
use Rattle.nif_names.specs.Marks.{Marked}

-- the shapes of a stack, and their inner types, each once, with marks
pub record Stack : Type 0 where
  pub shapes : List Shape
  pub kinds : Marked

-- the inner types of shapes
abbrev pub inners : List Shape → List ℕ
inners shapes = flat_map (λ s. option_to_list s.inner) shapes
