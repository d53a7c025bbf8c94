-- The types of blocks, and those that references want, are declared where blocks and footer are values.
use Rattle.std.proofs.Common.{◌≡◌, ℕ, ◌<◌, Option, Some, None, IfSome, length, refl, sym, subst, arith}
use Rattle.std.specs.Prelude.{codes, slice_get, option_and_then}
use Rattle.std.specs.Option.{option_map, option_map_or}
use Rattle.nif_base.specs.Node as node
use Rattle.nif_base.specs.Node.{Node, Members, End, Here, Absent, Reference, refs, retargeted, retargeted_in}
use Rattle.nif_base.specs.File.{Block}
use Rattle.nif_schema.specs.Schema.{Schema}
use Rattle.nif_schema.specs.Schema as schema
use Rattle.nif_layout.specs.Kind.{Unknown, kind_of}
use Rattle.nif_layout.specs.OpenTypeLaws.{find_within}
use Rattle.nif_layout.specs.WantedLaws.{Wants, WantsIn, wants_refs, IsDeclared, kind_declared, wants_shape}
use Rattle.nif_graph.specs.Graph.{find, place, reference}
use Rattle.nif_edit.specs.Inserted.{context_of}
use Rattle.nif_edit.specs.Size.{name_of}
use Rattle.nif_base.specs.Limits.{most_depth}
use Rattle.nif_edit.specs.Fits.{placed, footer_kind, ValuesDeclare}
use Rattle.nif_edit.proofs.Named.{block_found}
use Rattle.nif_edit.proofs.Origins.{map_some}

mutual
  -- what is wanted doesn't depend on the targets
  wants_placed : (n : ℕ) (f : ℕ → Option ℕ) (at : Node) → Wants n (retargeted f at) → Wants n at
  wants_placed n f (node.Num width little bits) h = tt
  wants_placed n f (node.Line bytes) h = tt
  wants_placed n f (node.Ref strong wanted target) h = h
  wants_placed n f (node.Text index) h = tt
  wants_placed n f (node.Bytes bytes) h = tt
  wants_placed n f (node.Group members) h = wants_placed_in n f members h
  wants_placed n f (node.Row items) h = wants_placed_in n f items h

  wants_placed_in : (n : ℕ) (f : ℕ → Option ℕ) (members : Members) → WantsIn n (retargeted_in f members) → WantsIn n members
  wants_placed_in n f End h = tt
  wants_placed_in n f (Here at rest) h = (wants_placed n f at h.0, wants_placed_in n f rest h.1)
  wants_placed_in n f (Absent rest) h = wants_placed_in n f rest h

-- the type that a reference of such a node wants
wanted_in : (n : ℕ) (at : Node) → Wants n at → (k : ℕ) (r : Reference) (w : ℕ) → slice_get (refs at) k ≡ Some r
    → r.wanted ≡ Some w → w < n
wanted_in n at h k r w there is = below r.wanted (by (slice_get (refs at) k) (wants_refs n at h k) there) is
  where
    by : (o : Option Reference) → IfSome o (λ r. IfSome r.wanted (λ w. w < n)) → o ≡ Some r → IfSome r.wanted (λ w. w < n)
    by None l e = absurd cc
    by (Some q) l e = let same : q ≡ r = cc in subst (λ (x : Reference). IfSome x.wanted (λ w. w < n)) same l

    below : (o : Option ℕ) → IfSome o (λ w. w < n) → o ≡ Some w → w < n
    below None l e = absurd cc
    below (Some v) l e = let same : v ≡ w = cc in omega (arith, l)

pub values_declare : ValuesDeclare
values_declare S places G v = record {
  kinds = λ name kind e.
      let m = map_some (λ (b : Block). b.kind) (find name G.blocks) kind e in
      subst (λ k. k < length S) (sym m.2) (within m.0 (v.blocks name m.0 m.1).type.named);
  wanted = λ from k r w at is. wanted from k r w at is;
}
  where
    within : (b : Block) → schema.find_block S (name_of S b.kind) ≡ Some b.kind → b.kind < length S
    within b e = find_within S (name_of S b.kind) b.kind (block_found S (name_of S b.kind) b.kind e)

    block_wants : (name : ℕ) (b : Block) → find name G.blocks ≡ Some b → Wants (length S) b.node
    block_wants name b e =
        let C = context_of G (Some b.kind) in
        wants_placed (length S) (λ name. place name G.blocks) b.node
        (wants_shape S C most_depth (kind_of S C b.kind None 0) (placed G b.node) (kind_declared S C b.kind None 0 tt)
        (v.blocks name b e).value)

    footer_declared : (o : Option ℕ) → IsDeclared (length S) (option_map_or (λ footer. kind_of S (context_of G None) footer None 0) o Unknown)
    footer_declared None = tt
    footer_declared (Some footer) = kind_declared S (context_of G None) footer None 0 tt

    footer_wants : Wants (length S) G.footer
    footer_wants =
        wants_placed (length S) (λ name. place name G.blocks) G.footer
        (wants_shape S (context_of G None) most_depth (footer_kind S G) (placed G G.footer)
        (footer_declared (schema.find S (codes "Footer"))) v.footer)

    wanted : (from : Option ℕ) (k : ℕ) (r : Reference) (w : ℕ) → reference G from k ≡ Some r → r.wanted ≡ Some w → w < length S
    wanted None k r w at is = wanted_in (length S) G.footer footer_wants k r w at is
    wanted (Some name) k r w at is = by (find name G.blocks) refl at
      where
        by : (o : Option Block) → find name G.blocks ≡ o
            → option_and_then (λ at. slice_get (refs at) k) (option_map (λ (b : Block). b.node) o) ≡ Some r → w < length S
        by None e at = absurd cc
        by (Some b) e at = wanted_in (length S) b.node (block_wants name b e) k r w at is
