-- After an accepted edit, blocks and footer are values of their types.
use Rattle.std.proofs.Common.{◌≡◌, ◌≢◌, ◌⊎◌, inl, inr, ℕ, suc, ◌%◌, ◌^◌, ◌<◌, ◌≤◌, Bool, true, false, Option, Some, None, List, [], ◌∷◌, ◌++◌, length, refl, sym, ◌∙◌, ap, subst, arith}
use Rattle.std.proofs.lemmas.Bool.{eqb-true, eqb-false, ltb-true, ltb-false}
use Rattle.std.specs.Prelude.{◌==◌, ◌&&◌, codes, nat_lt, slice_get}
use Rattle.std.specs.Option.{option_map_or}
use Rattle.nif_base.specs.Limits.{most_depth, most_types}
use Rattle.nif_base.specs.Node as node
use Rattle.nif_base.specs.Node.{Node, End, depth}
use Rattle.nif_base.specs.File.{Block, nodes_of}
use Rattle.nif_base.specs.Graph.{Origin, Graph}
use Rattle.nif_schema.specs.Declaration.{Name}
use Rattle.nif_schema.specs.Schema.{Schema, find_block}
use Rattle.nif_schema.specs.Schema as schema
use Rattle.nif_schema.specs.Reasons.{IsOpen, Own, Uses, own_reason}
use Rattle.nif_schema.specs.declared.faults.Closed.{Closed}
use Rattle.nif_schema.specs.declared.faults.Closed.TheVariants.{C0}
use Rattle.nif_layout.specs.Kind.{Kind, Unknown, kind_of}
use Rattle.nif_layout.specs.Leaf.{AreBytes}
use Rattle.nif_layout.specs.Shape.{Shape}
use Rattle.nif_layout.specs.OpenTypeLaws.{find_within}
use Rattle.nif_layout.specs.Zero.{zero_of}
use Rattle.nif_layout.specs.ZeroLaws.{is_zero_value}
use Rattle.nif_layout.specs.BareLaws.{bare, with_blocks, kind_same}
use Rattle.nif_graph.specs.Graph.{place}
use Rattle.nif_graph.specs.Written.{numbered, is_indexed}
use Rattle.nif_graph.specs.declared.places.RolePlaces.{RolePlaces}
use Rattle.nif_edit.specs.declared.edits.Edit.{Edit}
use Rattle.nif_edit.specs.declared.edits.Edit.TheVariants.{Remove, Copy, Insert, Replace, Move, Reorder, Point}
use Rattle.nif_edit.specs.Edit.{EditFault, AbstractType, ClosedType, TooManyTypes}
use Rattle.nif_edit.specs.Inserted.{context_of, entry_of, entry_where, is_appended, types_with, inserted}
use Rattle.nif_edit.specs.After.{after}
use Rattle.nif_edit.specs.Size.{name_of, bytes_of}
use Rattle.nif_edit.specs.Refused.{First, Where, Of, ClosedFor, IsAbstract, Full, Spent, ZeroOverruns, Accepted, steps}
use Rattle.nif_edit.specs.Laws.{new_block}
use Rattle.nif_edit.specs.Fits.{IsBlockType, IsEntry, AreNames, placed, footer_kind, IsValue, IsSpelled, KeepsValues}
use Rattle.nif_edit.proofs.Finding.{test}
use Rattle.nif_edit.proofs.Seen.{not_first, not_second}
use Rattle.nif_edit.proofs.Alike.{shape_alike, bare_retargeted, below_retargeted, places_give}
use Rattle.nif_edit.proofs.Kin.{Kin, old, put, kin, header_stays, origin_stays, footer_stays, types_after, types_are}
use Rattle.nif_edit.proofs.Named.{block_name, block_found, block_has, not_generic, entry_within, entry_there, last_there, still_there}
use Rattle.nif_edit.proofs.Shallow.{all_shallow, shallow_depth}

-- ---- shapes in another graph

context_is : (G G' : Graph) (owner : Option ℕ) → G'.origin ≡ G.origin
    → context_of G' owner ≡ with_blocks (length G'.blocks) (context_of G owner)
context_is G G' owner e = ap (λ (o : Origin). record {
  version = o.version;
  user = o.user;
  bs = o.bs;
  order = o.order;
  owner = owner;
  blocks = length G'.blocks;
  strings = o.strings;
}) e

-- a value of one graph is one of another, with its targets put through the places there
shape_there : (S : Schema) (G G' : Graph) (owner : Option ℕ) → G'.origin ≡ G.origin → (kind : Kind) (a b : Node)
    → Shape S (context_of G owner) most_depth kind a → bare b ≡ bare a
    → Shape S (context_of G' owner) most_depth kind (placed G' b)
shape_there S G G' owner e kind a b h same =
    let n = length G'.blocks in
    subst (λ C. Shape S C most_depth kind (placed G' b)) (sym (context_is G G' owner e))
    (shape_alike S (context_of G owner) n most_depth kind a (placed G' b) h
    (sym (bare_retargeted (λ name. place name G'.blocks) b ∙ same))
    (below_retargeted n (λ name. place name G'.blocks) (places_give G'.blocks) b))

-- and the kind of a type is the same there
kind_there : (S : Schema) (G G' : Graph) (owner : Option ℕ) → G'.origin ≡ G.origin → (number : ℕ)
    → kind_of S (context_of G' owner) number None 0 ≡ kind_of S (context_of G owner) number None 0
kind_there S G G' owner e number =
    ap (λ C. kind_of S C number None 0) (context_is G G' owner e)
    ∙ kind_same S (length G'.blocks) (context_of G owner) number None 0

footer_there : (S : Schema) (G G' : Graph) → G'.origin ≡ G.origin → footer_kind S G' ≡ footer_kind S G
footer_there S G G' e = by (schema.find S (codes "Footer"))
  where
    by : (o : Option ℕ) → option_map_or (λ footer. kind_of S (context_of G' None) footer None 0) o Unknown
        ≡ option_map_or (λ footer. kind_of S (context_of G None) footer None 0) o Unknown
    by None = refl
    by (Some number) = kind_there S G G' None e number

-- ---- entries

entry_there_too : (indexed : Bool) (S : Schema) (types types' : List Name) (b b' : Block)
    → ((i : ℕ) (x : Name) → slice_get types i ≡ Some x → slice_get types' i ≡ Some x)
    → b'.kind ≡ b.kind → b'.index ≡ b.index → IsEntry indexed S types b → IsEntry indexed S types' b'
entry_there_too true S types types' b b' more kind index h =
    (h.0, index ∙ h.1, h.2, more (h.0 % 2 ^ 15) (name_of S b.kind) h.3 ∙ ap (λ k. Some (name_of S k)) (sym kind))
entry_there_too false S types types' b b' more kind index h = index ∙ h

-- ---- a block that was there

stays_value : (S : Schema) (places : RolePlaces) (G G' : Graph) (b b' : Block) → G'.header ≡ G.header → G'.origin ≡ G.origin
    → ((i : ℕ) (x : Name) → slice_get G.types i ≡ Some x → slice_get G'.types i ≡ Some x)
    → b'.kind ≡ b.kind → b'.index ≡ b.index → bare b'.node ≡ bare b.node → IsValue S places G b → IsValue S places G' b'
stays_value S places G G' b b' header origin more kind index same h = record {
  type = subst (λ k. IsBlockType S k) (sym kind) h.type;
  entry = subst (λ x. IsEntry (is_indexed places x) S G'.types b') (sym header)
      (entry_there_too (is_indexed places G.header) S G.types G'.types b b' more kind index h.entry);
  value = subst (λ k. Shape S (context_of G' (Some k)) most_depth (kind_of S (context_of G' (Some k)) k None 0) (placed G' b'.node)) (sym kind)
      (subst (λ x. Shape S (context_of G' (Some b.kind)) most_depth x (placed G' b'.node))
      (sym (kind_there S G G' (Some b.kind) origin b.kind))
      (shape_there S G G' (Some b.kind) origin (kind_of S (context_of G (Some b.kind)) b.kind None 0) (placed G b.node) b'.node
      h.value (same ∙ sym (bare_retargeted (λ name. place name G.blocks) b.node))));
}

-- ---- a block that is put in

-- what an insertion that is accepted tells of its type
record Inserts (S : Schema) (places : RolePlaces) (G : Graph) (kind : List ℕ) (number : ℕ) : Type 0 where
  type : IsBlockType S number
  room : is_appended places G kind ≡ true → length G.types < most_types
  shallow : depth (zero_of S (context_of G (Some number)) number) ≤ most_depth

open_of : (S : Schema) (number : ℕ) → ((f : EditFault) → ClosedFor S number f → ⊥) → IsOpen S number
open_of S number h to walk = by (own_reason S to) refl
  where
    none : (o : Option Closed) → own_reason S number ≡ o → own_reason S to ≢ None → ⊥
    none None e ne = h (ClosedType C0) (C0, Uses e (record { to = to; walk = walk; closed = ne }), refl)
    none (Some reason) e ne = h (ClosedType reason) (reason, Own reason e, refl)

    by : (o : Option Closed) → own_reason S to ≡ o → own_reason S to ≡ None
    by None e = e
    by (Some reason) e =
        absurd (none (own_reason S number) refl (λ n. let x : Some reason ≡ None = sym e ∙ n in cc))

-- the conditions of an insertion behind that for its type
abbrev Behind : Schema → RolePlaces → Graph → List ℕ → ℕ → ℕ → EditFault → Type 0
Behind S places G kind at number = First (Where (IsAbstract S number) AbstractType) (First (ClosedFor S number)
    (First (Full G) (First (Where ((is_appended places G kind ≡ true) × (most_types ≤ length G.types)) TooManyTypes)
    (First (ZeroOverruns S places G kind at number) (Spent G)))))

behind : (S : Schema) (places : RolePlaces) (G : Graph) (kind : List ℕ) (at number : ℕ) → find_block S kind ≡ Some number
    → Accepted S places G (Insert kind at) → (f : EditFault) → Behind S places G kind at number f → ⊥
behind S places G kind at number e a f x =
    not_second (not_second a) f (subst (λ o. Of o (Behind S places G kind at) f) (sym e) x)

-- there is room for the block, and the walk over its zero node meets no fault
pub zero_steps : (S : Schema) (places : RolePlaces) (G : Graph) (kind : List ℕ) (at number : ℕ) → find_block S kind ≡ Some number
    → Accepted S places G (Insert kind at)
    → ((f : EditFault) → Full G f → ⊥) × ((f : EditFault) → ZeroOverruns S places G kind at number f → ⊥)
zero_steps S places G kind at number e a =
    let rest = behind S places G kind at number e a in
    (not_first (not_second (not_second rest)), not_first (not_second (not_second (not_second (not_second rest)))))

inserts : (S : Schema) (places : RolePlaces) (G : Graph) (kind : List ℕ) (at number : ℕ) → find_block S kind ≡ Some number
    → Accepted S places G (Insert kind at) → Inserts S places G kind number
inserts S places G kind at number e a = record {
  type = record {
    named = ap (λ name. find_block S name) (block_name S kind number e) ∙ e;
    concrete = λ x. not_first rest AbstractType (x, refl);
    opens = open_of S number (not_first (not_second rest));
  };
  room = λ t. by (test (nat_lt (length G.types) most_types)) t;
  shallow = shallow_depth most_depth (zero_of S (context_of G (Some number)) number)
      (all_shallow (nodes_of (numbered places (inserted places G kind at number (node.Group End))))
      (bytes_of S places (inserted places G kind at number (node.Group End)))
      (steps most_depth (zero_of S (context_of G (Some number)) number))
      (not_first (not_second (not_second (not_second (not_second rest))))));
}
  where
    rest : (f : EditFault) → Behind S places G kind at number f → ⊥
    rest = behind S places G kind at number e a

    by : (nat_lt (length G.types) most_types ≡ true) ⊎ (nat_lt (length G.types) most_types ≡ false)
        → is_appended places G kind ≡ true → length G.types < most_types
    by (inl q) t = ltb-true (length G.types) most_types q
    by (inr q) t = absurd (not_first (not_second (not_second (not_second rest))) TooManyTypes
        ((t, ltb-false (length G.types) most_types q), refl))

-- its entry
new_entry : (S : Schema) (places : RolePlaces) (G : Graph) (kind : List ℕ) (number : ℕ) → name_of S number ≡ kind
    → length G.types ≤ most_types → Inserts S places G kind number
    → IsEntry (is_indexed places G.header) S (types_with (is_appended places G kind) kind G.types) (new_block S places G kind number)
new_entry S places G kind number named few h = by (is_indexed places G.header) refl (test (entry_of kind G.types == length G.types))
  where
    small : (n : ℕ) → n < 2 ^ 15 → n % 2 ^ 15 ≡ n
    small n l = omega (arith, l)

    by : (indexed : Bool) → is_indexed places G.header ≡ indexed
        → ((entry_of kind G.types == length G.types) ≡ true) ⊎ ((entry_of kind G.types == length G.types) ≡ false)
        → IsEntry indexed S (types_with (indexed && entry_of kind G.types == length G.types) kind G.types) (record {
          kind = number;
          index = entry_where indexed (entry_of kind G.types);
          node = zero_of S (context_of G (Some number)) number;
        })
    by false i t = refl
    by true i (inl q) =
        let e : entry_of kind G.types ≡ length G.types = eqb-true (entry_of kind G.types) (length G.types) q in
        let l : length G.types < most_types = h.room (rw i q) in (
          entry_of kind G.types,
          refl,
          omega arith,
          rw q (
              ap (λ n. slice_get (G.types ++ kind ∷ []) n) (small (entry_of kind G.types) (omega arith) ∙ e)
              ∙ last_there kind G.types ∙ ap (λ x. Some x) (sym named)
              ),
        )
    by true i (inr q) =
        let w : entry_of kind G.types ≤ length G.types = entry_within kind G.types in
        let ne : entry_of kind G.types ≢ length G.types = eqb-false (entry_of kind G.types) (length G.types) q in
        let l : entry_of kind G.types < length G.types = below (entry_of kind G.types) (length G.types) w ne in (
          entry_of kind G.types,
          refl,
          omega arith,
          rw q (
              ap (λ n. slice_get G.types n) (small (entry_of kind G.types) (omega arith))
              ∙ entry_there kind G.types l ∙ ap (λ x. Some x) (sym named)
              ),
        )
      where
        below : (a b : ℕ) → a ≤ b → a ≢ b → a < b
        below a b l ne = grind (arith, l, ne)

new_value : (S : Schema) (places : RolePlaces) (G G' : Graph) (kind : List ℕ) (number : ℕ) → find_block S kind ≡ Some number
    → length G.types ≤ most_types → Inserts S places G kind number → G'.header ≡ G.header → G'.origin ≡ G.origin
    → G'.types ≡ types_with (is_appended places G kind) kind G.types → IsValue S places G' (new_block S places G kind number)
new_value S places G G' kind number found few h header origin types = record {
  type = h.type;
  entry = subst (λ x. IsEntry (is_indexed places x) S G'.types (new_block S places G kind number)) (sym header)
      (subst (λ x. IsEntry (is_indexed places G.header) S x (new_block S places G kind number)) (sym types)
      (new_entry S places G kind number (block_name S kind number found) few h));
  value = subst (λ x. Shape S (context_of G' (Some number)) most_depth x (placed G' zeros))
      (sym (kind_there S G G' (Some number) origin number))
      (shape_there S G G' (Some number) origin (kind_of S (context_of G (Some number)) number None 0) zeros zeros
      (is_zero_value S (context_of G (Some number)) number
      (find_within S kind number (block_found S kind number found), h.type.opens)
      (λ g. absurd (not_generic S number (block_has S kind number found) g)) h.shallow) refl);
}
  where
    zeros : Node
    zeros = zero_of S (context_of G (Some number)) number

-- ---- all

more_types : (places : RolePlaces) (S : Schema) (G : Graph) (e : Edit) (i : ℕ) (x : Name) → slice_get G.types i ≡ Some x
    → slice_get (types_after S places G e) i ≡ Some x
more_types places S G (Remove name) i x h = h
more_types places S G (Copy name at) i x h = h
more_types places S G (Insert kind at) i x h = by (is_appended places G kind) (find_block S kind)
  where
    by : (b : Bool) (o : Option ℕ)
        → slice_get (option_map_or (λ number. types_with b kind G.types) o G.types) i ≡ Some x
    by b None = h
    by true (Some number) = still_there kind G.types i x h
    by false (Some number) = h
more_types places S G (Replace name by) i x h = h
more_types places S G (Move name at) i x h = h
more_types places S G (Reorder names) i x h = h
more_types places S G (Point from k to) i x h = h

plain_types : (places : RolePlaces) (S : Schema) (G : Graph) (e : Edit) → is_indexed places G.header ≡ false → G.types ≡ []
    → types_after S places G e ≡ []
plain_types places S G (Remove name) i h = h
plain_types places S G (Copy name at) i h = h
plain_types places S G (Insert kind at) i h = by (is_indexed places G.header) i (find_block S kind)
  where
    by : (b : Bool) → b ≡ false → (o : Option ℕ)
        → option_map_or (λ number. types_with (b && entry_of kind G.types == length G.types) kind G.types) o G.types ≡ []
    by b i None = h
    by true i (Some number) = absurd cc
    by false i (Some number) = h
plain_types places S G (Replace name by) i h = h
plain_types places S G (Move name at) i h = h
plain_types places S G (Reorder names) i h = h
plain_types places S G (Point from k to) i h = h

one_more : (kind : Name) (types : List Name) → length (types ++ kind ∷ []) ≡ suc (length types)
one_more kind [] = refl
one_more kind (t ∷ types) = ap suc (one_more kind types)

few_after : (places : RolePlaces) (S : Schema) (G : Graph) (e : Edit) → Accepted S places G e → length G.types ≤ most_types
    → length (types_after S places G e) ≤ most_types
few_after places S G (Remove name) a h = h
few_after places S G (Copy name at) a h = h
few_after places S G (Insert kind at) a h = by (find_block S kind) refl
  where
    appended : (b : Bool) → (b ≡ true → length G.types < most_types) → length (types_with b kind G.types) ≤ most_types
    appended true l = let l' : length G.types < most_types = l refl in omega (arith, one_more kind G.types)
    appended false l = h

    by : (o : Option ℕ) → find_block S kind ≡ o
        → length (option_map_or (λ number. types_with (is_appended places G kind) kind G.types) o G.types) ≤ most_types
    by None e = h
    by (Some number) e = appended (is_appended places G kind) ((inserts S places G kind at number e a).room)
few_after places S G (Replace name by) a h = h
few_after places S G (Move name at) a h = h
few_after places S G (Reorder names) a h = h
few_after places S G (Point from k to) a h = h

all_and : (kind : Name) (types : List Name) → AreNames types → AreBytes kind → AreNames (types ++ kind ∷ [])
all_and kind [] h k = (k, tt)
all_and kind (t ∷ types) h k = (h.0, all_and kind types h.1 k)

names_after : (places : RolePlaces) (S : Schema) (G : Graph) (e : Edit) → IsSpelled e → AreNames G.types
    → AreNames (types_after S places G e)
names_after places S G (Remove name) k h = h
names_after places S G (Copy name at) k h = h
names_after places S G (Insert kind at) k h = by (is_appended places G kind) (find_block S kind)
  where
    by : (b : Bool) (o : Option ℕ) → AreNames (option_map_or (λ number. types_with b kind G.types) o G.types)
    by b None = h
    by true (Some number) = all_and kind G.types h k
    by false (Some number) = h
names_after places S G (Replace name by) k h = h
names_after places S G (Move name at) k h = h
names_after places S G (Reorder names) k h = h
names_after places S G (Point from j to) k h = h

pub keeps_values : KeepsValues
keeps_values S places G e spelled g v a = record {
  blocks = λ n b h. value b (kin S places G e g a n b h);
  footer = subst (λ x. Shape S (context_of G' None) most_depth x (placed G' G'.footer)) (sym (footer_there S G G' origin))
      (shape_there S G G' None origin (footer_kind S G) (placed G G.footer) G'.footer v.footer
      (footer_stays S places G e ∙ sym (bare_retargeted (λ name. place name G.blocks) G.footer)));
  plain = λ i. types_are S places G e
      ∙ plain_types places S G e (ap (λ x. is_indexed places x) (sym header) ∙ i)
      (v.plain (ap (λ x. is_indexed places x) (sym header) ∙ i));
  few_types = subst (λ (x : List Name). length x ≤ most_types) (sym (types_are S places G e))
      (few_after places S G e a v.few_types);
  names = subst (λ (x : List Name). AreNames x) (sym (types_are S places G e)) (names_after places S G e spelled v.names);
}
  where
    G' : Graph
    G' = after S places G e

    header : G'.header ≡ G.header
    header = header_stays S places G e

    origin : G'.origin ≡ G.origin
    origin = origin_stays S places G e

    value : (b : Block) → Kin S places G e b → IsValue S places G' b
    value b (old name block at kind index same) =
        stays_value S places G G' block b header origin
        (λ i x h. ap (λ t. slice_get t i) (types_are S places G e) ∙ more_types places S G e i x h) kind index same
        (v.blocks name block at)
    value b (put kind at number p found is) =
        subst (λ x. IsValue S places G' x) (sym is)
        (new_value S places G G' kind number found v.few_types
        (inserts S places G kind at number found (subst (λ x. Accepted S places G x) p a)) header origin
        (types_are S places G e ∙ ap (λ x. types_after S places G x) p
        ∙ ap (λ o. option_map_or (λ number. types_with (is_appended places G kind) kind G.types) o G.types) found))
