-- The value of a type, from the group that is read.
use Rattle.std.proofs.Common.{◌≡◌, ℕ, ◌<◌, ◌≤◌, inl, inr, Bool, true, false, if◌then◌else◌, List, [], length, slice_get, Option, Some, None, refl, sym, ap, ◌∙◌, subst, arith, true≢false}
use Rattle.std.specs.Prelude.{IfSome, option_and_then, ◌&&◌}
use Rattle.std.specs.Option.{option_map_or}
use Rattle.std.specs.List.{list_any}
use Rattle.nif_base.specs.Node.{Node, text}
use Rattle.nif_schema.specs.Declaration.{Declaration, is_block}
use Rattle.nif_schema.specs.Schema.{Schema, has_block, line}
use Rattle.nif_schema.specs.Uses.{is_generic, is_struct, takes_template}
use Rattle.nif_schema.specs.declared.decls.What.{What}
use Rattle.nif_schema.specs.declared.decls.What.TheVariants as what
use Rattle.nif_schema.specs.declared.contexts.Context as code
use Rattle.nif_decode.specs.declared.faults.Bounds.{Bounds}
use Rattle.nif_stream.specs.declared.takers.Taker.{Taker}
use Rattle.nif_stream.specs.Taking.{Takes}
use Rattle.nif_stream.specs.TakerLaws.{takes_joined}
use Rattle.nif_layout.specs.Context.{Context}
use Rattle.nif_layout.specs.Kind as kind
use Rattle.nif_layout.specs.Kind.{kind_of, kind_of_what}
use Rattle.nif_layout.specs.Laws.{IsOpenType}
use Rattle.nif_layout.specs.Shape.{Shape, IsGroup}
use Rattle.nif_base.specs.Limits.{most_nodes}
use Rattle.nif_layout.specs.Fault.{Fault, Point}
use Rattle.nif_layout.specs.Fails.{Fails, Counted, GroupFails}
use Rattle.nif_cells.specs.Building.{Building, begun, placed}
use Rattle.nif_region.specs.Contents.{find}
use Rattle.nif_value.specs.Trees.{Trees, IsWhole, after, with_tree}
use Rattle.nif_value.specs.declared.stores.TreeId.{TreeId}
use Rattle.nif_scope.specs.declared.settings.Setting.{Setting}
use Rattle.nif_scope.specs.declared.entries.Entry.{Entry}
use Rattle.nif_scope.specs.Scope.{IsSetting, context_in}
use Rattle.nif_decode.specs.declared.faults.ValueFault.{ValueFault}
use Rattle.nif_decode.specs.Faults.{cause}
use Rattle.nif_decode.specs.Answers.{Stand, Ends, IsReady, ReadsNode, Ceases}
use Rattle.nif_decode.specs.Groups.{GroupShape, GroupStops}
use Rattle.nif_decode.specs.Decodes.{IsGroupType, owner_of, Decoded, Refused}
use Rattle.nif_decode.proofs.Nothing.{nothing_stops}
use Rattle.nif_decode.proofs.Rows.{went_joined, stops_behind}
use Rattle.nif_decode.proofs.Steps.{start}

-- ---- blocks, and structs that aren't generic

block_kind : (schema : Schema) (C : Context) (number : ℕ) (w : What) → is_block w ≡ true → kind_of_what schema C number None 0 w ≡ kind.Group (line schema number) None 0
block_kind schema C number (what.Basic own) b = absurd (true≢false (sym b))
block_kind schema C number (what.Stored storage members) b = absurd (true≢false (sym b))
block_kind schema C number what.Struct b = refl
block_kind schema C number (what.Block parent is_abstract) b = refl

-- one value of such a type is a group
pub kind_is : (schema : Schema) (C : Context) (number : ℕ) → IsGroupType schema number → kind_of schema C number None 0 ≡ kind.Group (line schema number) None 0
kind_is schema C number (inl b) = by (slice_get schema number) b
  where
    by : (o : Option Declaration) → option_map_or (λ d. is_block d.what) o false ≡ true
        → option_map_or (kind_of_what schema C number None 0) (option_and_then (λ d. Some d.what) o) kind.Unknown ≡ kind.Group (line schema number) None 0
    by None e = absurd (true≢false (sym e))
    by (Some d) e = block_kind schema C number d.what e
kind_is schema C number (inr s) = ap (λ o. option_map_or (kind_of_what schema C number None 0) o kind.Unknown) s.0

block_plain : (w : What) (takes : Bool) → is_block w ≡ true → (is_struct w && takes) ≡ false
block_plain (what.Basic own) takes b = refl
block_plain (what.Stored storage members) takes b = refl
block_plain what.Struct takes b = absurd (true≢false (sym b))
block_plain (what.Block parent is_abstract) takes b = refl

-- it isn't generic
pub not_generic : (schema : Schema) (number : ℕ) → IsGroupType schema number → is_generic schema number ≡ false
not_generic schema number (inl b) = by (slice_get schema number) b
  where
    by : (o : Option Declaration) → option_map_or (λ d. is_block d.what) o false ≡ true
        → option_map_or (λ d. is_struct d.what && list_any takes_template d.fields) o false ≡ false
    by None e = refl
    by (Some d) e = block_plain d.what (list_any takes_template d.fields) e
not_generic schema number (inr s) = s.1

-- its members are read without a template
pub is_setting : (at : Setting) → IsOpenType at.schema.now at.number → IsGroupType at.schema.now at.number → at.context.now.owner ≡ owner_of at.schema.now at.number → IsSetting at
is_setting at o g e = record {
  is_open = o;
  template = λ t. absurd (true≢false (sym t ∙ not_generic at.schema.now at.number g));
  owner = subst (λ x. IfSome x (λ owner. owner < length at.schema.now)) (sym e) (by (has_block at.schema.now at.number));
}
  where
    by : (b : Bool) → IfSome (if b then Some at.number else None) (λ owner. owner < length at.schema.now)
    by true = o.0
    by false = tt

-- What a setting is where the value of such a type is read.
pub record IsTop (at : Setting) (C : Context) : Type 0 where
  pub group : IsGroupType at.schema.now at.number
  pub template : at.template ≡ None
  pub arg : at.arg ≡ 0
  pub context : context_in at ≡ C

pub top_shape : (at : Setting) (C : Context) (n : Node) → IsTop at C → GroupShape at 63 n → Shape at.schema.now C 64 (kind_of at.schema.now C at.number None 0) n
top_shape at C n t h =
    subst (λ k. Shape at.schema.now C 64 k n) (sym (kind_is at.schema.now C at.number t.group))
    (subst (λ D. IsGroup at.schema.now D (Shape at.schema.now D 63) (line at.schema.now at.number) None 0 n) t.context
    (subst (λ a. IsGroup at.schema.now (context_in at) (Shape at.schema.now (context_in at) 63) (line at.schema.now at.number) None a n) t.arg
    (subst (λ p. IsGroup at.schema.now (context_in at) (Shape at.schema.now (context_in at) 63) (line at.schema.now at.number) p at.arg n) t.template h)))

top_fails : (at : Setting) (C : Context) (p : Point) (f : Fault) → IsTop at C → GroupStops at 63 p f → Fails at.schema.now C 64 (kind_of at.schema.now C at.number None 0) p f
top_fails at C p f t h =
    let F : Context → Option ℕ → ℕ → Type 0 = λ D template arg.
    Counted (λ f. f) (GroupFails at.schema.now D (Shape at.schema.now D 63) (Fails at.schema.now D 63) (line at.schema.now at.number) template arg) p f in
    subst (λ k. Fails at.schema.now C 64 k p f) (sym (kind_is at.schema.now C at.number t.group))
    (subst (λ D. F D None 0) t.context (subst (λ a. F (context_in at) None a) t.arg (subst (λ x. F (context_in at) x at.arg) t.template h)))

-- the context of a value that has such an owner
abbrev pub context_owned : code.Context → Bounds → Option ℕ → Context
context_owned context bounds owner = record {
  version = context.version.number;
  user = context.user;
  bs = context.bs;
  order = context.order;
  owner = owner;
  blocks = bounds.blocks;
  strings = bounds.strings;
}

-- ---- a tree that was begun

pub begun_ready : {S : Type 0} (left : S → Option (List ℕ)) (still : S → S → Type 0) (faults : S → ℕ) (old : Taker S) (at : Stand S) (more : ℕ)
    → Takes left still faults old [] at.taker → at.nodes ≤ most_nodes → at.building ≡ Some begun → more ≤ 256 → IsReady at more
begun_ready left still faults old at more t n b m = record {
  taker = record { sound = t.sound; ahead = t.ahead; within = t.within };
  counted = n;
  room = record { tree = begun; is = b; takes = refl; nodes = omega arith; bytes = omega arith; levels = omega (arith, m) };
}

-- the tree of a node
built_whole : (before built : Option Building) (n : Node) → before ≡ Some begun → built ≡ after before (placed n) → built ≡ Some (record { top = Some n; levels = [] })
built_whole before built n b e = e ∙ ap (λ o. after o (placed n)) b

pub is_whole : (before built : Option Building) (n : Node) → before ≡ Some begun → built ≡ after before (placed n) → IsWhole built
is_whole before built n b e = subst (λ o. IsWhole o) (sym (built_whole before built n b e)) (refl, refl)

-- What the end of a tree says.
pub record Finished (before : List (ℕ × Node)) (built : Option Building) (after : Trees) (tree : TreeId) : Type 0 where
  pub fresh : find before tree.run.key ≡ None
  pub trees : IfSome built (λ b. after.trees ≡ with_tree before tree.run.key b.top)
  pub found : IfSome built (λ b. find after.trees tree.run.key ≡ b.top)

-- the value was read
pub value_read : {S : Type 0} (left : S → Option (List ℕ)) (still : S → S → Type 0) (faults : S → ℕ) (at : Setting) (C : Context) (old : Taker S) (first last : Stand S) (before after : Trees) (tree : TreeId) (keeps : Node → List Entry)
    → IsTop at C → Takes left still faults old [] first.taker → first.building ≡ Some begun → ReadsNode left still faults (context_in at).order (GroupShape at 63) keeps first last
    → Finished before.trees last.building after tree
    → Decoded left still faults at.schema.now C at.number old last.taker first.nodes last.nodes before after tree
value_read left still faults at C old first last before after tree keeps t z b r f = record {
  node = r.node;
  is = top_shape at C r.node t r.is;
  takes = subst (λ D. Takes left still faults old (text D.order r.node) last.taker) t.context
      (takes_joined left still faults old first.taker last.taker [] (text (context_in at).order r.node) (text (context_in at).order r.node) z r.goes.takes refl);
  nodes = r.goes.nodes;
  within = r.goes.counted;
  fresh = f.fresh;
  trees = subst (λ o. IfSome o (λ b. after.trees ≡ with_tree before.trees tree.run.key b.top)) (built_whole first.building last.building r.node b r.built) f.trees;
  found = subst (λ o. IfSome o (λ b. find after.trees tree.run.key ≡ b.top)) (built_whole first.building last.building r.node b r.built) f.found;
}

-- nothing was taken of it
pub refused_early : {S : Type 0} (left : S → Option (List ℕ)) (still : S → S → Type 0) (faults : S → ℕ) (schema : Schema) (C : Context) (kind : ℕ) (old new : Taker S) (counted : ℕ) (trees : Trees) (fault : ValueFault)
    → Ends left still faults (λ p. None) old new (cause fault) → Refused left still faults schema C kind old new counted trees trees fault
refused_early left still faults schema C kind old new counted trees fault e = record {
  went = e.went;
  stops = nothing_stops left still faults (Fails schema C 64 (kind_of schema C kind None 0)) (record { taker = old; nodes = counted; building = None; told = [] }) new (cause fault) e;
  trees = refl;
}

-- the value failed
pub value_refused : {S : Type 0} (left : S → Option (List ℕ)) (still : S → S → Type 0) (faults : S → ℕ) (at : Setting) (C : Context) (old : Taker S) (first last : Stand S) (before after : Trees) (fault : ValueFault)
    → IsTop at C → Takes left still faults old [] first.taker → first.nodes ≤ most_nodes → Ceases left still faults (GroupStops at 63) first last (cause fault) → after.trees ≡ before.trees
    → Refused left still faults at.schema.now C at.number old last.taker first.nodes before after fault
value_refused {S = S} left still faults at C old first last before after fault t z n c same = record {
  went = went_joined left still faults [] old first.taker last.taker z c.went;
  stops = stops_behind left still faults (GroupStops at 63) (Fails at.schema.now C 64 (kind_of at.schema.now C at.number None 0)) [] 0
      (record { taker = old; nodes = first.nodes; building = None; told = [] }) first last.taker (cause fault)
      (record { takes = z; nodes = omega arith; counted = n })
      (λ p q f passes h. top_fails at C p f t (subst (λ x. GroupStops at 63 x f) (start p q passes) h)) c.stops;
  trees = same;
}
