-- The types of blocks are declared, and so are those that references want.
use Rattle.std.proofs.Common.{◌≡◌, ℕ, zero, suc, ◌+◌, ◌<◌, Bool, true, false, if◌then◌else◌, Option, Some, None, IfSome, option_and_then, List, [], ◌∷◌, length, slice_get, bytes_eq, ◌∙◌, ap, arith}
use Rattle.std.specs.Prelude.{◌==◌, codes}
use Rattle.std.specs.Option.{option_map, option_map_or}
use Rattle.nif_base.specs.Node.{Reference, refs}
use Rattle.nif_base.specs.File.{Block, File}
use Rattle.nif_base.specs.Graph.{Origin}
use Rattle.nif_schema.specs.Declaration.{Name}
use Rattle.nif_schema.specs.Schema.{Schema, line}
use Rattle.nif_schema.specs.Schema as schema
use Rattle.nif_layout.specs.Earlier.{Env}
use Rattle.nif_layout.specs.Kind.{Unknown, kind_of}
use Rattle.nif_layout.specs.WantedLaws.{Wants, wants_refs, found_at, IsDeclared, kind_declared, wants_shape}
use Rattle.nif_graph.specs.Graph.{find, reference}
use Rattle.nif_graph.specs.Reach.{DeclaresTypes}
use Rattle.nif_graph.specs.Written.{named_from, graph_of}
use Rattle.nif_graph.specs.declared.places.RolePlaces.{RolePlaces}
use Rattle.nif_file.specs.Head.{file_context, block_context}
use Rattle.nif_file.specs.Files.{IsFile, IsBlock, AreBlocks, head_in, footer_kind, block_kind, name_of}

-- of the block of a name
found_has : (P : Block → Type 0) (name first : ℕ) (blocks : List Block) → ((j : ℕ) → IfSome (slice_get blocks j) P)
    → IfSome (find name (named_from first blocks)) P
found_has P name first [] each = tt
found_has P name first (b ∷ blocks) each =
    by (name == first) (found_has P name (suc first) blocks (λ j. each (suc j)))
  where
    by : (c : Bool) → IfSome (find name (named_from (suc first) blocks)) P
        → IfSome (if c then Some b else find name (named_from (suc first) blocks)) P
    by true later = each 0
    by false later = later

blocks_have : (S : Schema) (E : Env) (P : Block → Type 0) → ((i : ℕ) (b : Block) → IsBlock S E i b → P b)
    → (k : ℕ) (blocks : List Block) → AreBlocks S E k blocks → (j : ℕ) → IfSome (slice_get blocks j) P
blocks_have S E P has k [] are j = tt
blocks_have S E P has k (b ∷ blocks) are zero = has k b are.0
blocks_have S E P has k (b ∷ blocks) are (suc j) = blocks_have S E P has (k + 1) blocks are.1 j

kind_within : (S : Schema) (kind : ℕ) (name : Name) → schema.find_block S name ≡ Some kind → kind < length S
kind_within S kind name named = by (schema.find S name) (found_at (λ d. bytes_eq name d.name) S) named
  where
    either : (n : ℕ) → n < length S → (block : Bool) → (if block then Some n else None) ≡ Some kind → kind < length S
    either n l true e = let same : n ≡ kind = cc in omega (arith, l)
    either n l false e = absurd cc

    by : (o : Option ℕ) → IfSome o (λ n. n < length S)
        → option_and_then (λ n. if schema.has_block S n then Some n else None) o ≡ Some kind → kind < length S
    by None l e = absurd cc
    by (Some n) l e = either n l (schema.has_block S n) e

kind_found : (n kind : ℕ) (o : Option Block) → IfSome o (λ b. b.kind < n) → option_map (λ (b : Block). b.kind) o ≡ Some kind → kind < n
kind_found n kind None l e = absurd cc
kind_found n kind (Some b) l e = let same : b.kind ≡ kind = cc in omega (arith, l)

refs_found : (n k : ℕ) (o : Option Block) → IfSome o (λ b. Wants n b.node)
    → IfSome (option_and_then (λ at. slice_get (refs at) k) (option_map (λ (b : Block). b.node) o)) (λ r. IfSome r.wanted (λ w. w < n))
refs_found n k None w = tt
refs_found n k (Some b) w = wants_refs n b.node w k

wanted_below : (n w : ℕ) (o : Option ℕ) → IfSome o (λ w. w < n) → o ≡ Some w → w < n
wanted_below n w None l e = absurd cc
wanted_below n w (Some v) l e = let same : v ≡ w = cc in omega (arith, l)

wanted_found : (n w : ℕ) (r : Reference) (o : Option Reference) → IfSome o (λ r. IfSome r.wanted (λ w. w < n)) → o ≡ Some r
    → r.wanted ≡ Some w → w < n
wanted_found n w r None l e is = absurd cc
wanted_found n w r (Some q) l e is =
    wanted_below n w q.wanted l (ap (option_and_then (λ (x : Reference). x.wanted)) e ∙ is)

footer_wants : (S : Schema) (F : File) (bytes : List ℕ) → IsFile S F bytes → Wants (length S) F.footer
footer_wants S F bytes file =
    wants_shape S (file_context S (head_in S F)) 64 (footer_kind S (head_in S F)) F.footer (by (schema.find S (codes "Footer"))) file.footer
  where
    by : (o : Option ℕ) → IsDeclared (length S) (option_map_or (λ footer. kind_of S (file_context S (head_in S F)) footer None 0) o Unknown)
    by None = tt
    by (Some footer) = kind_declared S (file_context S (head_in S F)) footer None 0 tt

pub declared_within : (S : Schema) (F : File) (bytes : List ℕ) → IsFile S F bytes → (places : RolePlaces) (origin : Origin) (types : List (List ℕ))
    → DeclaresTypes S (graph_of places origin types F)
declared_within S F bytes file places origin types = record {
  kinds = λ name kind e.
      kind_found (length S) kind (find name (named_from 0 F.blocks))
      (found_has (λ b. b.kind < length S) name 0 F.blocks
      (blocks_have S E (λ b. b.kind < length S) (λ i b is. kind_within S b.kind (name_of S b.kind) is.type.named) 0 F.blocks file.blocks)) e;
  wanted = λ from k r w at is. wanted_found (length S) w r (reference (graph_of places origin types F) from k) (wants from k) at is;
}
  where
    E : Env
    E = head_in S F

    wants : (from : Option ℕ) (k : ℕ) → IfSome (reference (graph_of places origin types F) from k) (λ r. IfSome r.wanted (λ w. w < length S))
    wants None k = wants_refs (length S) F.footer (footer_wants S F bytes file) k
    wants (Some name) k =
        refs_found (length S) k (find name (named_from 0 F.blocks))
        (found_has (λ b. Wants (length S) b.node) name 0 F.blocks
        (blocks_have S (head_in S F) (λ b. Wants (length S) b.node) (λ i b is.
        wants_shape S (block_context S (head_in S F) b.kind) 64 (block_kind S (head_in S F) b.kind) b.node
        (kind_declared S (block_context S (head_in S F) b.kind) b.kind None 0 tt) is.value) 0 F.blocks file.blocks))
