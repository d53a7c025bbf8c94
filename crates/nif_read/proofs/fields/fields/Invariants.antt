use Rattle.nif_schema.specs.Declaration.{field}
use Rattle.nif_text.specs.Tree.{attrs_of}
use Rattle.nif_attributes.specs.Attributes.{text_of, replaced_by}
use Rattle.nif_read.specs.Fields.{IsField}
use Rattle.nif_read.specs.Declarations.{is_field}
use Rattle.nif_read.specs.Kept.{lacks}
use Rattle.nif_read.proofs.Loops.{SoFar}
use Rattle.nif_read.proofs.fields.fields.Given as goal

abbrev pub invariant-loop-child : goal.invariant-loop-child
invariant-loop-child l =
    SoFar is_field (lacks (replaced_by l.tokens)) (λ child f. IsField (text_of (replaced_by l.tokens) (attrs_of child)) (field f)) l.children l.child-index l.fields
