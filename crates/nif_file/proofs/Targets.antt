-- The targets in values are below the number of blocks.
use Rattle.std.proofs.Common.{◌≡◌, ℕ, zero, suc, ◌+◌, ◌<◌, ◌≤◌, Bool, true, false, Option, Some, None, IfSome, List, [], ◌∷◌, sym, subst, arith}
use Rattle.nif_base.specs.Node as node
use Rattle.nif_base.specs.Node.{Node, Members, End, Here, Absent}
use Rattle.nif_schema.specs.Declaration.{Field}
use Rattle.nif_schema.specs.Schema.{Schema}
use Rattle.nif_layout.specs.Context.{Context}
use Rattle.nif_layout.specs.Earlier.{Env, behind}
use Rattle.nif_layout.specs.Present.{present}
use Rattle.nif_layout.specs.Kind.{Kind, Number, Line, Ref, Text, Group, Unknown}
use Rattle.nif_layout.specs.Form.{Form, One, Run, Row, form_of}
use Rattle.nif_layout.specs.Fault.{Fault}
use Rattle.nif_layout.specs.Members.{Member, Check, no_check, Fields, Items}
use Rattle.nif_layout.specs.Shape.{Shape, IsForm}
use Rattle.nif_graph.specs.WrittenLaws.{Below, BelowIn}
use Rattle.nif_file.specs.Head.{header_context}

below_fields : {Why : Type 0} (n : ℕ) (here : Env → Field → Bool) (V : Env → Field → Node → Type 0) (check : Check Why)
    → ((E : Env) (f : Field) (at : Node) → V E f at → Below n at) → (fields : List Field) (E : Env) (members : Members)
    → Fields here V check fields E members → BelowIn n members
below_fields n here V check below [] E members h = subst (BelowIn n) (sym h) tt
below_fields {Why} n here V check below (f ∷ fields) E members h =
    by (here E f) members h (λ got rest more. below_fields n here V check below fields (behind f got E) rest more)
  where
    by : (b : Bool) (members : Members)
        → Member b (V E f) (λ got rest. (check E f got ≡ None) × Fields here V check fields (behind f got E) rest) members
        → ((got : Option Node) (rest : Members) → Fields here V check fields (behind f got E) rest → BelowIn n rest)
        → BelowIn n members
    by true members h ih = subst (BelowIn n) (sym h.2) (below E f h.0 h.3, ih (Some h.0) h.1 h.4.1)
    by false members h ih = subst (BelowIn n) (sym h.1) (ih None h.0 h.2.1)

below_items : (n : ℕ) (V : ℕ → Node → Type 0) → ((i : ℕ) (at : Node) → V i at → Below n at) → (count i : ℕ)
    (items : Members) → Items V i count items → BelowIn n items
below_items n V below zero i items h = subst (BelowIn n) (sym h) tt
below_items n V below (suc count) i items h =
    subst (BelowIn n) (sym h.2) (below i h.0 h.3, below_items n V below count (i + 1) h.1 h.4)

below_form : (n : ℕ) (Single : Kind → Node → Type 0) → ((kind : Kind) (at : Node) → Single kind at → Below n at)
    → (form : Form) (at : Node) → IsForm Single form at → Below n at
below_form n Single below (One kind) at h = below kind at h
below_form n Single below (Run count) at h = subst (Below n) (sym h.1) tt
below_form n Single below (Row count item) at h =
    subst (Below n) (sym h.1)
    (below_items n (λ i. IsForm Single (item i)) (λ i. below_form n Single below (item i)) count 0 h.0 h.2)

pub below_shape : (S : Schema) (C : Context) (d : ℕ) (kind : Kind) (at : Node) → Shape S C d kind at → Below C.blocks at
below_shape S C d (Number width little) at h = subst (Below C.blocks) (sym h.1) tt
below_shape S C d Line at h = subst (Below C.blocks) (sym h.1) tt
below_shape S C d (Ref strong wanted) at h = subst (Below C.blocks) (sym h.1) h.2
below_shape S C d Text at h = subst (Below C.blocks) (sym h.1) tt
below_shape S C d Unknown at h = absurd h
below_shape S C zero (Group fields template arg) at h = absurd h
below_shape S C (suc d) (Group fields template arg) at h =
    subst (Below C.blocks) (sym h.1)
    (below_fields C.blocks (present S C arg) (λ E f. IsForm (Shape S C d) (form_of S C template arg E f)) (no_check {Why = Fault})
    (λ E f at. below_form C.blocks (Shape S C d) (below_shape S C d) (form_of S C template arg E f) at) fields [] h.0 h.2)

-- of the members of a header, which knows of no block
pub below_header : {Why : Type 0} (S : Schema) (d : ℕ) (check : Check Why) (fields : List Field) (E : Env) (members : Members)
    → Fields (λ E f. present S (header_context S E) 0 E f)
    (λ E f. IsForm (Shape S (header_context S E) d) (form_of S (header_context S E) None 0 E f)) check fields E members
    → BelowIn 0 members
below_header S d check fields E members h =
    below_fields 0 (λ E f. present S (header_context S E) 0 E f)
    (λ E f. IsForm (Shape S (header_context S E) d) (form_of S (header_context S E) None 0 E f)) check
    (λ E f at. below_form 0 (Shape S (header_context S E) d) (below_shape S (header_context S E) d)
    (form_of S (header_context S E) None 0 E f) at) fields E members h

below_target : (n m : ℕ) → n ≤ m → (target : Option ℕ) → IfSome target (λ t. t < n) → IfSome target (λ t. t < m)
below_target n m l None b = tt
below_target n m l (Some t) b = omega (arith, b)

mutual
  -- what is below a number is below a greater one
  pub below_more : (n m : ℕ) → n ≤ m → (at : Node) → Below n at → Below m at
  below_more n m l (node.Num width little bits) b = tt
  below_more n m l (node.Line bytes) b = tt
  below_more n m l (node.Ref strong wanted target) b = below_target n m l target b
  below_more n m l (node.Text index) b = tt
  below_more n m l (node.Bytes bytes) b = tt
  below_more n m l (node.Group members) b = below_more_in n m l members b
  below_more n m l (node.Row items) b = below_more_in n m l items b

  below_more_in : (n m : ℕ) → n ≤ m → (members : Members) → BelowIn n members → BelowIn m members
  below_more_in n m l End b = tt
  below_more_in n m l (Here at rest) b = (below_more n m l at b.0, below_more_in n m l rest b.1)
  below_more_in n m l (Absent rest) b = below_more_in n m l rest b
