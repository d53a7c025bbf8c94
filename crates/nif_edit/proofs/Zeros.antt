-- The references of a block that is put in are empty.
use Rattle.std.proofs.Common.{◌≡◌, ℕ, Option, Some, None, List}
use Rattle.std.specs.Prelude.{option_and_then, slice_get}
use Rattle.std.specs.Option.{option_map}
use Rattle.nif_base.specs.Node.{Reference, refs}
use Rattle.nif_base.specs.File.{Block}
use Rattle.nif_base.specs.Graph.{Graph}
use Rattle.nif_schema.specs.Schema.{Schema}
use Rattle.nif_layout.specs.ZeroLaws.{leads_nowhere}
use Rattle.nif_graph.specs.declared.places.RolePlaces.{RolePlaces}
use Rattle.nif_edit.specs.Inserted.{context_of}
use Rattle.nif_edit.specs.Laws.{new_block}

pub new_leads_nowhere : (S : Schema) (places : RolePlaces) (G : Graph) (kind : List ℕ) (o : Option ℕ) (k : ℕ) (r : Reference)
    → option_and_then (λ node. slice_get (refs node) k) (option_map (λ (b : Block). b.node) (option_map (new_block S places G kind) o)) ≡ Some r
    → r.target ≡ None
new_leads_nowhere S places G kind None k r at = absurd cc
new_leads_nowhere S places G kind (Some number) k r at = leads_nowhere S (context_of G (Some number)) number k r at
