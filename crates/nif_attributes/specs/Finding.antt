-- Which tokens may occur in a text. Each token has a number, its place among all.
use Rattle.std.specs.Prelude.{ℕ, ◌≡◌, ◌+◌, ◌≤◌, min, true, if◌then◌else◌, bytes_eq, nat_eq, List, length, take, drop, Some, None}
use Rattle.std.specs.declared.option.Option.{Option}
use Rattle.std.specs.List.{list_any, slice_get}
use Rattle.std.specs.Ordering.{is_eq, nat_cmp}
use Rattle.std.specs.Cmp.Lexicographic.{slice_cmp}
use Rattle.std.specs.Map.{lookup}
use Rattle.nif_attributes.specs.declared.index.Span.{Span}
use Rattle.nif_attributes.specs.declared.index.TokenIndex.{TokenIndex}

-- the span of a text
abbrev pub span_of : {K : Type 0} → (K → List ℕ) → List (K × Span) → List ℕ → Option Span
span_of bytes spans token = lookup (λ key. is_eq (slice_cmp nat_cmp token (bytes key))) spans

-- the spans after one was put
abbrev pub IsPut : {K : Type 0} → (K → List ℕ) → List (K × Span) → List ℕ → Span → List (K × Span) → Type 0
IsPut bytes before put span now =
    (token : List ℕ) → span_of bytes now token ≡ (if bytes_eq token put then Some span else span_of bytes before token)

-- the first number of a span with one more in it, where there is one
abbrev pub first_from : Option Span → ℕ → ℕ
first_from None number = number
first_from (Some span) number = min span.first number

-- the index tells of a token of this number
pub record Covers {K : Type 0} (bytes : K → List ℕ) (spans : List (K × Span)) (lengths : List ℕ) (number : ℕ)
    (token : List ℕ) : Type 0 where
  pub span : Span
  pub found : span_of bytes spans token ≡ Some span
  pub above : span.first ≤ number
  pub below : number ≤ span.last
  pub measured : list_any (nat_eq (length token)) lengths ≡ true

-- the index tells of all tokens of these texts
abbrev pub AreCovered : {K : Type 0} → (K → List ℕ) → List (K × Span) → List ℕ → List (List ℕ) → Type 0
AreCovered bytes spans lengths texts =
    (number : ℕ) (token : List ℕ) → slice_get texts number ≡ Some token → Covers bytes spans lengths number token

abbrev pub IsIndex : TokenIndex → List (List ℕ) → Type 0
IsIndex index texts = AreCovered (λ key. key.items) index.spans.entries index.lengths.items texts

-- a token occurs nowhere in a text
abbrev pub IsAbsent : List ℕ → List ℕ → Type 0
IsAbsent text token =
    (place : ℕ) → place + length token ≤ length text → take (length token) (drop place text) ≡ token → ⊥
