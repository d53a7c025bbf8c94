-- What the decoding of a value answers, and that of members.
use Rattle.std.specs.Prelude.{ℕ, ◌≡◌, ◌+◌, ◌-◌, ◌≤◌, ◌⊎◌, true, false, if◌then◌else◌, List, ◌++◌, ◌∷◌, [], take, drop, Some, None, Ok, Err}
use Rattle.std.specs.declared.option.Option.{Option}
use Rattle.std.specs.declared.result.Result.{Result}
use Rattle.nif_base.specs.Node.{Node, Members, text, texts, nodes, nodes_in}
use Rattle.nif_schema.specs.Declaration.{Field}
use Rattle.nif_schema.specs.Schema.{Schema, has_block, line}
use Rattle.nif_schema.specs.Uses.{is_generic, what_at}
use Rattle.nif_schema.specs.declared.contexts.Context as code
use Rattle.nif_schema.specs.declared.decls.What.TheVariants.{Struct}
use Rattle.nif_stream.specs.declared.takers.Taker.{Taker}
use Rattle.nif_stream.specs.Taking.{Takes, place_of}
use Rattle.nif_layout.specs.Context.{Context}
use Rattle.nif_layout.specs.Kind.{kind_of}
use Rattle.nif_layout.specs.Earlier.{Env, passed}
use Rattle.nif_layout.specs.Members.{no_check}
use Rattle.nif_layout.specs.Shape.{Shape, LineShape}
use Rattle.nif_base.specs.Limits.{most_nodes}
use Rattle.nif_layout.specs.Fault.{Fault, Point}
use Rattle.nif_layout.specs.Fails.{Fails, LineFails}
use Rattle.nif_scope.specs.declared.entries.Entry.{Entry}
use Rattle.nif_region.specs.Contents.{find}
use Rattle.nif_value.specs.Trees.{Trees}
use Rattle.nif_value.specs.declared.stores.TreeId.{TreeId}
use Rattle.nif_decode.specs.declared.faults.ValueFault.{ValueFault}
use Rattle.nif_decode.specs.declared.faults.Bounds.{Bounds}
use Rattle.nif_decode.specs.Faults.{cause}
use Rattle.nif_decode.specs.Answers.{Went, Stops}
use Rattle.nif_decode.specs.Scopes.{HoldsMembers, joined}

-- a block owns its value; the header, the footer and other structs have no owner
abbrev pub owner_of : Schema → ℕ → Option ℕ
owner_of schema kind = if has_block schema kind then Some kind else None

-- the context of the value of a type, with the numbers of blocks and of strings that the bounds say
abbrev pub context_for : Schema → code.Context → ℕ → Bounds → Context
context_for schema context kind bounds = record {
  version = context.version.number;
  user = context.user;
  bs = context.bs;
  order = context.order;
  owner = owner_of schema kind;
  blocks = bounds.blocks;
  strings = bounds.strings;
}

-- a block type, or a struct that isn't generic
abbrev pub IsGroupType : Schema → ℕ → Type 0
IsGroupType schema kind =
    (has_block schema kind ≡ true) ⊎ ((what_at schema kind ≡ Some Struct) × (is_generic schema kind ≡ false))

-- The value was read into a tree of its own, and its nodes were counted.
pub record Decoded {S : Type 0} (left : S → Option (List ℕ)) (still : S → S → Type 0) (faults : S → ℕ) (schema : Schema)
    (C : Context) (kind : ℕ) (old new : Taker S) (counted now : ℕ) (before after : Trees) (tree : TreeId) : Type 0 where
  pub node : Node
  pub is : Shape schema C 64 (kind_of schema C kind None 0) node
  pub takes : Takes left still faults old (text C.order node) new
  pub nodes : now ≡ counted + nodes node
  pub within : now ≤ most_nodes
  pub fresh : find before.trees tree.run.key ≡ None
  pub trees : after.trees ≡ before.trees ++ (tree.run.key, node) ∷ []
  pub found : find after.trees tree.run.key ≡ Some node

-- The value failed, or it was not read for another cause, and no tree changed.
pub record Refused {S : Type 0} (left : S → Option (List ℕ)) (still : S → S → Type 0) (faults : S → ℕ) (schema : Schema)
    (C : Context) (kind : ℕ) (old new : Taker S) (counted : ℕ) (before after : Trees)
    (fault : ValueFault) : Type 0 where
  pub went : Went still faults old new
  pub stops : Stops left faults (Fails schema C 64 (kind_of schema C kind None 0))
      (record { taker = old; nodes = counted; building = None; told = [] }) new (cause fault)
  pub trees : after.trees ≡ before.trees

abbrev pub Decodes : {S : Type 0} → (S → Option (List ℕ)) → (S → S → Type 0) → (S → ℕ) → Schema → Context → ℕ
    → Taker S → Taker S → ℕ → ℕ → Trees → Trees → Result TreeId ValueFault → Type 0
Decodes left still faults schema C kind old new counted now before after (Ok tree) =
    Decoded left still faults schema C kind old new counted now before after tree
Decodes left still faults schema C kind old new counted now before after (Err fault) =
    Refused left still faults schema C kind old new counted before after fault

-- ---- some members of a line, behind those that were read

-- the fields of a line from one place to another
abbrev pub fields_between : Schema → ℕ → ℕ → ℕ → List Field
fields_between schema kind from to = take (to - from) (drop from (line schema kind))

-- these members as earlier fields
abbrev pub env_of : Schema → ℕ → Members → Env
env_of schema kind held = passed (line schema kind) held []

-- the members of these fields, read one behind another in one context, in which groups lie at most 63 deep
abbrev pub MembersShape : Schema → Context → List Field → Env → Members → Type 0
MembersShape schema C fields E more = LineShape schema (λ E. C) 63 None 0 (no_check {Why = Fault}) fields E more

abbrev pub MembersFail : Schema → Context → List Field → Env → Point → Fault → Type 0
MembersFail schema C fields E point fault = LineFails schema (λ E. C) 63 None 0 (λ f. f) no_check fields E point fault

-- The members were read behind those that were held, and counted.
pub record MembersDecoded {S : Type 0} (left : S → Option (List ℕ)) (still : S → S → Type 0) (faults : S → ℕ)
    (schema : Schema) (C : Context) (kind from to : ℕ) (held : Members) (old new : Taker S) (counted now : ℕ)
    (entries : List Entry) (after : Trees) : Type 0 where
  pub more : Members
  pub are : MembersShape schema C (fields_between schema kind from to) (env_of schema kind held) more
  pub takes : Takes left still faults old (texts C.order more) new
  pub nodes : now ≡ counted + nodes_in more
  pub within : now ≤ most_nodes
  pub holds : HoldsMembers schema kind to entries after.building now (place_of new) (joined held more)

-- A member failed, or the members were not read for another cause; the tree that was begun is gone.
pub record MembersRefused {S : Type 0} (left : S → Option (List ℕ)) (still : S → S → Type 0) (faults : S → ℕ)
    (schema : Schema) (C : Context) (kind from to : ℕ) (held : Members) (old new : Taker S) (counted : ℕ)
    (after : Trees) (fault : ValueFault) : Type 0 where
  pub went : Went still faults old new
  pub stops : Stops left faults (MembersFail schema C (fields_between schema kind from to) (env_of schema kind held))
      (record { taker = old; nodes = counted; building = None; told = [] }) new (cause fault)
  pub building : after.building ≡ None

abbrev pub DecodesMembers : {S : Type 0} → (S → Option (List ℕ)) → (S → S → Type 0) → (S → ℕ) → Schema → Context → ℕ
    → ℕ → ℕ → Members → Taker S → Taker S → ℕ → ℕ → List Entry → Trees → Result (Unit {0}) ValueFault → Type 0
DecodesMembers left still faults schema C kind from to held old new counted now entries after (Ok _) =
    MembersDecoded left still faults schema C kind from to held old new counted now entries after
DecodesMembers left still faults schema C kind from to held old new counted now entries after (Err fault) =
    MembersRefused left still faults schema C kind from to held old new counted after fault
