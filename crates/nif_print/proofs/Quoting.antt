-- Bytes in quotes, one behind another.
use Rattle.std.proofs.Common.{◌≡◌, ℕ, zero, suc, ◌+◌, ◌<◌, List, [], ◌∷◌, ◌++◌, length, take, drop, slice_index_or, refl, sym, ap, ◌∙◌, append_assoc, append-nil}
use Rattle.std.proofs.lemmas.List.{take_more}
use Rattle.nif_print.specs.Quoted.{quoted_byte, quoted_bytes}

quoted_append : (a b : List ℕ) → quoted_bytes (a ++ b) ≡ quoted_bytes a ++ quoted_bytes b
quoted_append [] b = refl
quoted_append (byte ∷ a) b = ap (λ x. quoted_byte byte ++ x) (quoted_append a b) ∙ sym (append_assoc (quoted_byte byte) (quoted_bytes a) (quoted_bytes b))

-- one byte more
pub quoted_next : (bytes : List ℕ) (i d : ℕ) → i < length bytes → quoted_bytes (take i bytes) ++ quoted_byte (slice_index_or bytes i d) ≡ quoted_bytes (take (i + 1) bytes)
quoted_next bytes i d h =
    let byte = slice_index_or bytes i d in
    sym (ap quoted_bytes (take_more bytes i d h) ∙ quoted_append (take i bytes) (byte ∷ []) ∙ ap (λ x. quoted_bytes (take i bytes) ++ x) (append-nil (quoted_byte byte)))

take_rest : (i : ℕ) (bytes : List ℕ) → take i bytes ++ drop i bytes ≡ bytes
take_rest zero bytes = refl
take_rest (suc i) [] = refl
take_rest (suc i) (byte ∷ bytes) = ap (λ x. byte ∷ x) (take_rest i bytes)

-- the first bytes, and then the others
pub quoted_rest : (i : ℕ) (bytes : List ℕ) → quoted_bytes (take i bytes) ++ quoted_bytes (drop i bytes) ≡ quoted_bytes bytes
quoted_rest i bytes = sym (quoted_append (take i bytes) (drop i bytes)) ∙ ap quoted_bytes (take_rest i bytes)
