-- Comments, the declaration and the document type.
use Rattle.std.specs.Prelude.{ℕ, ◌≡◌, Bool, IsTrue, not, ◌&&◌, ◌==◌, List, ◌∷◌, ◌++◌, codes}
use Rattle.std.specs.List.{AllByRecursion}
use Rattle.nif_text.specs.Parts.{Many, Byte, Literal, Lacks}
use Rattle.nif_text.specs.Bytes.{is_allowed}

-- Bytes without a pair of neighbours, and then the end. What stands inside may end with the first of the pair.
pub record Enclosed (first second : ℕ) (end : List ℕ) (text rest : List ℕ) : Type 0 where
  pub inside : List ℕ
  pub spelled : text ≡ inside ++ (end ++ rest)
  pub allowed : AllByRecursion (λ c. IsTrue (is_allowed c)) inside
  pub free : Lacks first second inside

-- A comment is `<!--`, bytes without `--`, and `-->`.
abbrev pub Comment : List ℕ → List ℕ → Type 0
Comment text rest = (next : List ℕ) × Literal (codes "<!--") text next × Enclosed 0x2D 0x2D (codes "-->") next rest

-- A declaration begins `<?xml` and ends at the first `?>`.
abbrev pub Declaration : List ℕ → List ℕ → Type 0
Declaration text rest = (next : List ℕ) × Literal (codes "<?xml") text next × Enclosed 0x3F 0x3E (codes "?>") next rest

-- A document type is `<!DOCTYPE`, bytes other than `[`, `<` and `>`, and `>`.
abbrev pub is_type_byte : ℕ → Bool
is_type_byte c = is_allowed c && not (c == 0x5B) && not (c == 0x3C) && not (c == 0x3E)

abbrev pub DocumentType : List ℕ → List ℕ → Type 0
DocumentType text rest =
    (next : List ℕ) × Literal (codes "<!DOCTYPE") text next × (inside : List ℕ)
    × Many (Byte is_type_byte) inside next (0x3E ∷ rest)
