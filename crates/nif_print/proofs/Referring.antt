-- The references of blocks and of the footer, and what they want and find.
use Rattle.std.proofs.Common.{◌≡◌, ℕ, ◌<◌, List, length, refl, ap, ◌∙◌, subst, sym, Option}
use Rattle.std.specs.Prelude.{slice_get, Some, None, IfSome, IsSome, option_and_then}
use Rattle.std.specs.Option.{option_map}
use Rattle.std.proofs.lemmas.Option.{option_and_then_some}
use Rattle.nif_base.specs.Node.{Reference, refs}
use Rattle.nif_base.specs.File.{Block}
use Rattle.nif_base.specs.Graph.{Named, Graph}
use Rattle.nif_schema.specs.Schema.{Schema}
use Rattle.nif_graph.specs.Graph.{find, kind_of, reference}
use Rattle.nif_graph.specs.Reach.{DeclaresTypes}
use Rattle.nif_print.proofs.Lines.{item_at}

pub if_some : {X : Type 0} (P : X → Type 0) (o : Option X) → ((x : X) → o ≡ Some x → P x) → IfSome o P
if_some P None f = tt
if_some P (Some x) f = f x refl

pub at_some : {X : Type 0} (P : X → Type 0) (o : Option X) (x : X) → o ≡ Some x → IfSome o P → P x
at_some P o x e h = subst (λ o. IfSome o P) e h

-- the type that a reference wants is declared
pub wanted_declared : (S : Schema) (G : Graph) (from : Option ℕ) (k : ℕ) (r : Reference) → DeclaresTypes S G → reference G from k ≡ Some r → IfSome r.wanted (λ wanted. wanted < length S)
wanted_declared S G from k r declared at = if_some (λ wanted. wanted < length S) r.wanted (λ wanted e. declared.wanted from k r wanted at e)

-- and so is that of its target
pub found_declared : (S : Schema) (G : Graph) (target : Option ℕ) → DeclaresTypes S G → IfSome (option_and_then (kind_of G) target) (λ kind. kind < length S)
found_declared S G target declared =
    if_some (λ kind. kind < length S) (option_and_then (kind_of G) target) (λ kind e. option_and_then_some (kind_of G) target kind e (λ name _ has. declared.kinds name kind has))

-- the block of a name is that at its place
pub block_is : (G : Graph) (name place : ℕ) (b : Named) → find name G.blocks ≡ option_map (λ (b : Named). b.block) (slice_get G.blocks place) → slice_get G.blocks place ≡ Some b
    → find name G.blocks ≡ Some b.block
block_is G name place b same at = same ∙ ap (option_map (λ (b : Named). b.block)) at

-- the references of a block are those of its node
pub reference_is : (G : Graph) (name k : ℕ) (block : Block) → find name G.blocks ≡ Some block → reference G (Some name) k ≡ slice_get (refs block.node) k
reference_is G name k block found = ap (λ o. option_and_then (λ node. slice_get (refs node) k) (option_map (λ (b : Block). b.node) o)) found

-- a reference below the number of them is there
pub is_there : (G : Graph) (from : Option ℕ) (k : ℕ) (references : List Reference) → reference G from k ≡ slice_get references k → k < length references → IsSome (reference G from k)
is_there G from k references same h = subst IsSome (sym (same ∙ (item_at references k h).1)) refl
