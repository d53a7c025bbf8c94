-- The laws, proved.
use Rattle.std.proofs.Common.{◌≡◌, ℕ, zero, suc, ◌+◌, ◌≤◌, inl, inr, Option, List, [], ◌∷◌, ◌++◌, length, drop, refl, sym, ◌∙◌, ap, arith, append-nil}
use Rattle.std.specs.Prelude.{Contains}
use Rattle.nif_base.specs.Node.{Node, Members, text, nodes, nodes_in}
use Rattle.nif_schema.specs.Declaration.{Field}
use Rattle.nif_schema.specs.Schema.{Schema, line}
use Rattle.nif_layout.specs.Context.{Context}
use Rattle.nif_layout.specs.Earlier.{Env}
use Rattle.nif_layout.specs.Kind.{kind_of}
use Rattle.nif_layout.specs.Form.{Form, form_of}
use Rattle.nif_layout.specs.Leaf.{AreBytes}
use Rattle.nif_base.specs.Limits.{most_file_bytes, most_nodes}
use Rattle.nif_layout.specs.Fault.{Fault, Point, Passes}
use Rattle.nif_layout.specs.Members.{Check}
use Rattle.nif_layout.specs.Shape.{Shape, FormShape, LineShape}
use Rattle.nif_layout.specs.Fails.{Fails, FormShapeFails, LineFails}
use Rattle.nif_layout.specs.Laws.{Fits, AllFit, IsOpenType, HasTemplate, OneNode, NoProperPrefix, OneForm, OneLine, line_text, ExactlyOne, at_place, IsPlace, Stands, NodeStands, SpelledOrFails, FormSpelledOrFails, LineSpelledOrFails}
use Rattle.nif_layout.specs.CancelLaws.{shape_cancel, form_shape_cancel, line_cancel}
use Rattle.nif_layout.specs.ExclusiveLaws.{Excludes, AllExclude, OneFault}
use Rattle.nif_layout.specs.ExclusionLaws.{shape_excludes, shape_one, form_shape_excludes, form_shape_one, line_excludes, line_one}
use Rattle.nif_layout.specs.DecideLaws.{Within, Decides, Decided, AllDecide, AllDecided}
use Rattle.nif_layout.specs.DecideShapeLaws.{KnownForm, Known, shape_decides, form_shape_decides, line_decides}
use Rattle.nif_layout.specs.OpenKindLaws.{open_known, open_line_known, each_contained}

pub one_node : (S : Schema) (C : Context) (number : ℕ) (template : Option ℕ) (arg : ℕ) → Fits C
    → OneNode S C number template arg
one_node S C number template arg fits c d a b bytes ha hb =
    (shape_cancel S C fits c d (kind_of S C number template arg) a b [] [] ha.0 hb.0
    (ap (λ s. s ++ []) (sym ha.1 ∙ hb.1))).0

pub no_prefix : (S : Schema) (C : Context) (number : ℕ) (template : Option ℕ) (arg : ℕ) → Fits C
    → NoProperPrefix S C number template arg
no_prefix S C number template arg fits c d a b bytes more ha hb =
    let e : text C.order a ++ more ≡ text C.order b ++ [] = ap (λ s. s ++ more) (sym ha.1) ∙ hb.1 ∙ sym (append-nil (text C.order b)) in
    (shape_cancel S C fits c d (kind_of S C number template arg) a b more [] ha.0 hb.0 e).1

pub one_of_form : (S : Schema) (C : Context) (form : Form) → Fits C → OneForm S C form
one_of_form S C form fits c d = form_shape_cancel S C fits c d form

pub one_of_line : {Why : Type 0} (S : Schema) (at : Env → Context) (template : Option ℕ) (arg : ℕ)
    (check : Check Why) (fields : List Field) (E : Env)
    → AllFit at → OneLine S at template arg check fields E
one_of_line S at template arg check fields E fits c d = line_cancel S at fits c d template arg check fields E

-- ---- spelled or fails

bytes_drop : (p : ℕ) (s : List ℕ) → AreBytes s → AreBytes (drop p s)
bytes_drop zero s h = h
bytes_drop (suc p) [] h = tt
bytes_drop (suc p) (b ∷ s) h = bytes_drop p s h.1

within : (n : ℕ) (bytes : List ℕ) (p : ℕ) → IsPlace bytes p → Within (at_place n bytes p)
within n bytes p there = record { place = there.within; bytes = bytes_drop p bytes there.are_bytes }

-- what stands at a place is passed
stands_passed : (bytes : List ℕ) (p n : ℕ) (front : List ℕ) (count : ℕ) → Stands bytes p n front count
    → (next : Point) × Passes front count (at_place n bytes p) next
stands_passed bytes p n front count h = (
  record { nodes = n + count; place = p + length front; left = h.rest },
  record { here = h.here; place = refl; nodes = refl; within = h.within; counted = h.counted },
)

passed_stands : (bytes : List ℕ) (p n : ℕ) (front : List ℕ) (count : ℕ) (next : Point)
    → Passes front count (at_place n bytes p) next → Stands bytes p n front count
passed_stands bytes p n front count next h =
    let place : next.place ≡ p + length front = h.place in
    let number : next.nodes ≡ n + count = h.nodes in
    let w : next.place ≤ most_file_bytes = h.within in
    let c : next.nodes ≤ most_nodes = h.counted in
    record { rest = next.left; here = h.here; within = omega arith; counted = omega arith }

-- a node is read or fails, and not both
node_or_fails : (C : Context) (V : Node → Type 0) (F : Point → Fault → Type 0) → Excludes C.order V F → OneFault F
    → Decides C.order V F
    → (n p : ℕ) (bytes : List ℕ) → IsPlace bytes p → ExactlyOne (NodeStands C V bytes p n) (F (at_place n bytes p))
node_or_fails C V F excludes one decides n p bytes there = by (decides (at_place n bytes p) (within n bytes p there))
  where
    by : Decided C.order V F (at_place n bytes p) → ExactlyOne (NodeStands C V bytes p n) (F (at_place n bytes p))
    by (inl r) = inl (
      (r.0, r.2, passed_stands bytes p n (text C.order r.0) (nodes r.0) r.1 r.3),
      λ w h. excludes r.0
          (at_place n bytes p) r.1 w r.2 r.3 h,
    )
    by (inr r) =
        inr (
          λ s. let q = stands_passed bytes p n (text C.order s.0) (nodes s.0) s.2 in excludes s.0
              (at_place n bytes p) q.0 r.0 s.1 q.1 r.1,
          (r.0, r.1, λ v h. one (at_place n bytes p) v r.0 h r.1),
        )

-- the same of members
members_or_fail : {Why : Type 0} (T : Members → List ℕ) (V : Members → Type 0) (F : Point → Why → Type 0)
    → AllExclude T V F → OneFault F → AllDecide T V F
    → (n p : ℕ) (bytes : List ℕ) → IsPlace bytes p → n ≤ most_nodes
    → ExactlyOne ((members : Members) × V members × Stands bytes p n (T members) (nodes_in members))
    (F (at_place n bytes p))
members_or_fail {Why} T V F excludes one decides n p bytes there few =
    by (decides (at_place n bytes p) (within n bytes p there) few)
  where
    by : AllDecided T V F (at_place n bytes p)
        → ExactlyOne ((members : Members) × V members × Stands bytes p n (T members) (nodes_in members))
        (F (at_place n bytes p))
    by (inl r) = inl (
      (r.0, r.2, passed_stands bytes p n (T r.0) (nodes_in r.0) r.1 r.3),
      λ w h. excludes r.0
          (at_place n bytes p) r.1 w r.2 r.3 h,
    )
    by (inr r) =
        inr (
          λ s. let q = stands_passed bytes p n (T s.0) (nodes_in s.0) s.2 in excludes s.0
              (at_place n bytes p) q.0 r.0 s.1 q.1 r.1,
          (r.0, r.1, λ v h. one (at_place n bytes p) v r.0 h r.1),
        )

pub type_or_fails : (S : Schema) (C : Context) (number : ℕ) (template : Option ℕ) (arg : ℕ) → Fits C
    → IsOpenType S number → HasTemplate S number template → SpelledOrFails S C number template arg
type_or_fails S C number template arg fits opened has d n p bytes there =
    let kind = kind_of S C number template arg in
    node_or_fails C (Shape S C d kind) (Fails S C d kind) (shape_excludes S C fits d kind) (shape_one S C fits d kind)
    (shape_decides S C d kind (open_known S C d number template arg opened has)) n p bytes there

pub form_or_fails : (S : Schema) (C : Context) (number : ℕ) (template : Option ℕ) (arg : ℕ) (f : Field) (E : Env)
    → Fits C → IsOpenType S number → HasTemplate S number template
    → Contains (line S number) f → FormSpelledOrFails S C (form_of S C template arg E f)
form_or_fails S C number template arg f E fits opened has among d n p bytes there =
    let form = form_of S C template arg E f in
    let known = each_contained (λ f. (E : Env) → KnownForm (Known S C d) (form_of S C template arg E f)) (line S number) f among (open_line_known S (λ E. C) d number template arg opened has) E in
    node_or_fails C (FormShape S C d form) (FormShapeFails S C d form) (form_shape_excludes S C fits d form)
    (form_shape_one S C fits d form)
    (form_shape_decides S C d form known) n p bytes there

pub line_or_fails : {Why : Type 0} (S : Schema) (at : Env → Context) (number : ℕ) (template : Option ℕ) (arg : ℕ)
    (by_fault : Fault → Why) (check : Check Why)
    → AllFit at → IsOpenType S number → HasTemplate S number template
    → LineSpelledOrFails S at template arg by_fault check (line S number)
line_or_fails S at number template arg by_fault check fits opened has d n p bytes there few =
    members_or_fail (line_text at (line S number) []) (LineShape S at d template arg check (line S number) [])
    (LineFails S at d template arg by_fault check (line S number) [])
    (line_excludes S at fits d template arg by_fault check (line S number) [])
    (line_one S at fits d template arg by_fault check (line S number) [])
    (line_decides S at d template arg by_fault check (line S number)
    (open_line_known S at d number template arg opened has) []) n p bytes there few
