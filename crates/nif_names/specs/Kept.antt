-- What a stack of shapes and its marks keep.
use Rattle.std.specs.Prelude.{ℕ, ◌≡◌, ◌≤◌, not, if◌then◌else◌, List, [], ◌∷◌, ◌++◌, map, flat_map, count_by, Some, is_none, slice_get, length, Contains, position, bytes_eq, Vec}
use Rattle.std.specs.declared.alloc.Global.{Global}
use Rattle.std.specs.Ordering.{nat_cmp}
use Rattle.std.specs.Cmp.Lexicographic.{slice_cmp}
use Rattle.std.specs.BTreeMap.{BTreeMap, get_by}
use Rattle.std.specs.Option.{option_to_list}
use Rattle.nif_names.specs.declared.shapes.Shape.{Shape}
use Rattle.nif_names.specs.declared.shapes.Entry.{Entry}
use Rattle.nif_names.specs.declared.marked.Mark as kept
use Rattle.nif_names.specs.Marks.{Mark}

abbrev pub shapes_of : List Entry → List Shape
shapes_of entries = map (λ e. e.shape) entries

-- the inner type of an entry, where it is new
abbrev pub new_inner : Entry → List ℕ
new_inner e = if e.is_new then option_to_list e.shape.inner else []

-- each inner type is that of a new entry, which isn't above it
abbrev pub IsCovered : List ℕ → List Entry → Type 0
IsCovered before [] = Unit {0}
IsCovered before (e ∷ entries) =
    ((inner : ℕ) → e.shape.inner ≡ Some inner → Contains (before ++ new_inner e) inner)
    × IsCovered (before ++ new_inner e) entries

pub record IsStack (entries : List Entry) (inners : List ℕ) (not_numbers not_rows not_inner : ℕ) : Type 0 where
  pub numbers : not_numbers ≡ count_by (λ s. not s.number) (shapes_of entries)
  pub rows : not_rows ≡ count_by (λ s. not s.row) (shapes_of entries)
  pub inner : not_inner ≡ count_by (λ s. is_none s.inner) (shapes_of entries)
  pub new : inners ≡ flat_map new_inner entries
  pub covered : IsCovered [] entries

abbrev pub plain_mark : kept.Mark → Mark
plain_mark m = record { key = m.key.items; count = m.found.count; stop = m.found.stop }

-- What was put there later was put there behind no fewer marks.
pub record AreOrdered (since : List ℕ) (types marks : ℕ) : Type 0 where
  pub count : length since ≡ types
  pub within : (i a : ℕ) → slice_get since i ≡ Some a → a ≤ marks
  pub ordered : (i j a b : ℕ) → i ≤ j → slice_get since i ≡ Some a → slice_get since j ≡ Some b → a ≤ b

-- Each name is found at its place.
abbrev pub ArePlaced : List (List ℕ) → BTreeMap (Vec ℕ Global) ℕ → Type 0
ArePlaced names places =
    (name : List ℕ) → get_by (λ key. slice_cmp nat_cmp name key.items) places ≡ position (bytes_eq name) names
