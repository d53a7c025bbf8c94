-- How spellings stand one behind another. In all the relations of this crate `P value text rest` says that
-- text begins with a spelling of the value by P, and that rest is what stands behind that spelling.
use Rattle.std.specs.Prelude.{ℕ, ◌≡◌, Bool, IsTrue, ◌⊎◌, List, [], ◌∷◌, ◌++◌}

-- spellings by P, one behind another, of these items in their order
abbrev pub Many : {I : Type 0} → (I → List ℕ → List ℕ → Type 0) → List I → List ℕ → List ℕ → Type 0
Many P [] text rest = text ≡ rest
Many P (item ∷ items) text rest = (next : List ℕ) × P item text next × Many P items next rest

-- one byte that passes a test
abbrev pub Byte : (ℕ → Bool) → ℕ → List ℕ → List ℕ → Type 0
Byte test byte text rest = (text ≡ byte ∷ rest) × IsTrue (test byte)

-- these bytes
abbrev pub Literal : List ℕ → List ℕ → List ℕ → Type 0
Literal bytes text rest = text ≡ bytes ++ rest

-- these bytes, and then a spelling by P
abbrev pub After : {I : Type 0} → List ℕ → (I → List ℕ → List ℕ → Type 0) → I → List ℕ → List ℕ → Type 0
After bytes P item text rest = (next : List ℕ) × Literal bytes text next × P item next rest

-- P, or nothing
abbrev pub Optional : (List ℕ → List ℕ → Type 0) → List ℕ → List ℕ → Type 0
Optional P text rest = (text ≡ rest) ⊎ P text rest

-- nowhere do these two bytes stand beside each other
abbrev pub Lacks : ℕ → ℕ → List ℕ → Type 0
Lacks first second bytes = (front back : List ℕ) → bytes ≡ front ++ (first ∷ second ∷ back) → ⊥
