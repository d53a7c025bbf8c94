-- What one value is in an open type.
use Rattle.std.proofs.Common.{◌≡◌, ◌≢◌, ℕ, inl, inr, Bool, true, false, ◌&&◌, if◌then◌else◌, is_none, Option, Some, None, List, [], ◌∷◌, slice_get, option_and_then, bytes_eq, refl, sym, ◌∙◌, ap, subst, true≢false}
use Rattle.std.specs.Prelude.{IfSome, MatchOption}
use Rattle.std.specs.Option.{option_map, option_map_or}
use Rattle.std.specs.List.{list_any}
use Rattle.std.specs.List as list
use Rattle.nif_schema.specs.Declaration.{Name, Declaration, is_block}
use Rattle.nif_schema.specs.Basic.{listed, listed_leaf, IsLeafOf, IsOtherLeaf, One, Two, Four, Eight, Unread, HasItsLeaf}
use Rattle.nif_schema.specs.Schema.{Schema, IsSchema, find}
use Rattle.nif_schema.specs.Uses.{what_at, is_struct, takes_template, is_generic, Here}
use Rattle.nif_schema.specs.Paths.{storage_width, integer_width}
use Rattle.nif_schema.specs.Reasons.{is_unread}
use Rattle.nif_schema.specs.declared.decls.Leaf.{Leaf}
use Rattle.nif_schema.specs.declared.decls.Leaf.TheVariants as leaf
use Rattle.nif_schema.specs.declared.decls.What.{What}
use Rattle.nif_schema.specs.declared.decls.What.TheVariants.{Basic, Stored, Struct, Block}
use Rattle.nif_layout.specs.PathValue.{basic_leaf, leaf_of}
use Rattle.nif_layout.specs.Laws.{IsOpenType, HasTemplate}
use Rattle.nif_layout.specs.OpenTypeLaws.{own_facts}
use Rattle.nif_scope.specs.Leaves.{IsWidth, IsReadable}
use Rattle.nif_scope.proofs.Places.{placed}

-- ---- basics

abbrev Each : {X : Type 0} → (X → Type 0) → List X → Type 0
Each P [] = Unit {0}
Each P (x ∷ xs) = P x × Each P xs

found_one : {X : Type 0} (P : X → Type 0) (test : X → Bool) (xs : List X) → Each P xs → IfSome (list.find test xs) P
found_one P test [] e = tt
found_one P test (x ∷ xs) e = by (test x) (found_one P test xs e.1)
  where
    by : (b : Bool) → IfSome (list.find test xs) P → IfSome (if b then Some x else list.find test xs) P
    by true h = e.0
    by false h = h

one : IsWidth 1
one = inl refl

two : IsWidth 2
two = inr (inl refl)

four : IsWidth 4
four = inr (inr (inl refl))

eight : IsWidth 8
eight = inr (inr (inr refl))

all_listed : Each (λ (row : Name × Leaf). IsReadable row.1) listed
all_listed = (eight, (eight, (four, (four, (four, (four, (four, (two, (two, (two, (one, (one, (one, (one, (tt, (four, (two, (tt, (tt, (tt, (tt, (tt, tt))))))))))))))))))))))

listed_one : (name : Name) → IfSome (listed_leaf name) IsReadable
unfolding listed_leaf
listed_one name = by (list.find (λ (row : Name × Leaf). bytes_eq name row.0) listed) (found_one (λ (row : Name × Leaf). IsReadable row.1) (λ row. bytes_eq name row.0) listed all_listed)
  where
    by : (o : Option (Name × Leaf)) → IfSome o (λ row. IsReadable row.1) → IfSome (option_map (λ row. row.1) o) IsReadable
    by None h = tt
    by (Some row) h = h

other_one : (own : Leaf) → IsOtherLeaf own → own ≢ leaf.Unread → IsReadable own
other_one (leaf.Num width signed little float) One some = one
other_one (leaf.Num width signed little float) Two some = two
other_one (leaf.Num width signed little float) Four some = four
other_one (leaf.Num width signed little float) Eight some = eight
other_one leaf.Unread Unread some = absurd (some refl)
other_one leaf.Bool h some = elim h [ ]
other_one leaf.Line h some = elim h [ ]
other_one leaf.Ref h some = elim h [ ]
other_one leaf.Ptr h some = elim h [ ]
other_one leaf.Text h some = elim h [ ]

leaf_readable : (name : Name) (own : Leaf) → IsLeafOf name own → own ≢ leaf.Unread → IsReadable own
leaf_readable name own h some = by (listed_leaf name) (listed_one name) h
  where
    by : (o : Option Leaf) → IfSome o IsReadable → MatchOption o (IsOtherLeaf own) (λ wanted. own ≡ wanted) → IsReadable own
    by None l h = other_one own h some
    by (Some wanted) l h = subst IsReadable (sym h) l

-- a basic has its leaf
abbrev HasLeaf : Name → What → Type 0
HasLeaf name what = elim what [
  | Basic own ↦ IsLeafOf name own
  | Stored storage members ↦ Unit {0}
  | Struct ↦ Unit {0}
  | Block above abstract ↦ Unit {0}
]

declared_leaf : (S : Schema) (n : ℕ) (d : Declaration) → IsSchema S → slice_get S n ≡ Some d → HasLeaf d.name d.what
declared_leaf S n d is_schema at =
    let p = placed S n d at in
    subst HasItsLeaf p.1 (is_schema.leaves n d p.0)

not_unread : (S : Schema) (own : Leaf) → is_unread S (Basic own) ≡ false → own ≢ leaf.Unread
not_unread S own h = λ e. true≢false (sym (ap (λ o. is_unread S (Basic o)) e) ∙ h)

integer_readable : (name : Name) (what : What) → HasLeaf name what → is_none (integer_width what) ≡ false → IsReadable (basic_leaf what)
integer_readable name (Basic (leaf.Num width signed little float)) h i = leaf_readable name (leaf.Num width signed little float) h (λ e. cc)
integer_readable name (Basic leaf.Bool) h i = tt
integer_readable name (Basic leaf.Line) h i = tt
integer_readable name (Basic leaf.Ref) h i = tt
integer_readable name (Basic leaf.Ptr) h i = tt
integer_readable name (Basic leaf.Text) h i = tt
integer_readable name (Basic leaf.Unread) h i = absurd (true≢false i)
integer_readable name (Stored storage members) h i = absurd (true≢false i)
integer_readable name Struct h i = absurd (true≢false i)
integer_readable name (Block above abstract) h i = absurd (true≢false i)

stored_readable : (S : Schema) (storage : Option Name) → IsSchema S → is_none (storage_width S storage) ≡ false
    → IsReadable (option_map_or basic_leaf (option_and_then (what_at S) (option_and_then (find S) storage)) leaf.Unread)
unfolding storage_width
stored_readable S storage is_schema h = by (option_and_then (find S) storage) h
  where
    there : (n : ℕ) (x : Option Declaration) → slice_get S n ≡ x → is_none (option_and_then integer_width (option_and_then (λ (d : Declaration). Some d.what) x)) ≡ false
        → IsReadable (option_map_or basic_leaf (option_and_then (λ (d : Declaration). Some d.what) x) leaf.Unread)
    there n None at i = absurd (true≢false i)
    there n (Some d) at i = integer_readable d.name d.what (declared_leaf S n d is_schema at) i

    by : (o : Option ℕ) → is_none (option_and_then integer_width (option_and_then (what_at S) o)) ≡ false → IsReadable (option_map_or basic_leaf (option_and_then (what_at S) o) leaf.Unread)
    by None i = absurd (true≢false i)
    by (Some n) i = there n (slice_get S n) refl i

readable : (S : Schema) (name : Name) (what : What) → IsSchema S → HasLeaf name what → is_unread S what ≡ false → is_struct what ≡ false → is_block what ≡ false → IsReadable (leaf_of S what)
readable S name (Basic own) is_schema h u s b = leaf_readable name own h (not_unread S own u)
readable S name (Stored storage members) is_schema h u s b = stored_readable S storage is_schema u
readable S name Struct is_schema h u s b = absurd (true≢false s)
readable S name (Block above abstract) is_schema h u s b = absurd (true≢false b)

-- A type that has no fields is spelled as a basic that can be read.
pub type_readable : (S : Schema) (n : ℕ) (d : Declaration) → IsSchema S → IsOpenType S n → slice_get S n ≡ Some d → is_struct d.what ≡ false → is_block d.what ≡ false → IsReadable (leaf_of S d.what)
type_readable S n d is_schema o at s b = readable S d.name d.what is_schema (declared_leaf S n d is_schema at) (own_facts S n d at (o.1 n (Here n))).readable s b

-- A block type takes no template.
pub block_template : (S : Schema) (n : ℕ) (d : Declaration) (template : Option ℕ) → slice_get S n ≡ Some d → is_struct d.what ≡ false → HasTemplate S n template
block_template S n d template at s = λ g. absurd (true≢false (sym g ∙ none))
  where
    none : is_generic S n ≡ false
    none =
        let P : Option Declaration → Type 0 = λ x. option_map_or (λ (d : Declaration). is_struct d.what && list_any takes_template d.fields) x false ≡ false in
        let Q : Bool → Type 0 = λ b. (b && list_any takes_template d.fields) ≡ false in
        subst P (sym at) (subst Q (sym s) refl)
