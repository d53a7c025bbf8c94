-- Values of blocks and of the footer, in the contexts that the header says.
use Rattle.std.proofs.Common.{◌≡◌, ℕ, Bool, true, false, if◌then◌else◌, Option, Some, None, List, refl, sym, ◌∙◌, ap, subst, option_and_then}
use Rattle.std.specs.Prelude.{codes, slice_get}
use Rattle.std.specs.Option.{option_map_or}
use Rattle.nif_base.specs.Node.{Node, Members, text}
use Rattle.nif_schema.specs.Declaration.{Declaration, is_block}
use Rattle.nif_schema.specs.Schema.{Schema, find, has_block}
use Rattle.nif_schema.specs.Uses.{what_at}
use Rattle.nif_schema.specs.Roles.{Roles, IsRoot}
use Rattle.nif_schema.specs.declared.decls.What.TheVariants.{Struct}
use Rattle.nif_stream.specs.declared.takers.Taker.{Taker}
use Rattle.nif_stream.specs.Taking.{Takes}
use Rattle.nif_layout.specs.Context.{Context}
use Rattle.nif_layout.specs.Earlier.{Env}
use Rattle.nif_layout.specs.Kind.{Kind, kind_of, Unknown}
use Rattle.nif_layout.specs.Shape.{Shape}
use Rattle.nif_layout.specs.Fails.{Fails, Lifted}
use Rattle.nif_decode.specs.declared.faults.ValueFault.{ValueFault}
use Rattle.nif_decode.specs.declared.faults.Bounds.{Bounds}
use Rattle.nif_decode.specs.Decodes.{context_for, owner_of, Decoded, Refused}
use Rattle.nif_value.specs.Trees.{Trees}
use Rattle.nif_value.specs.declared.stores.TreeId.{TreeId}
use Rattle.nif_lists.specs.Lists.{Listed}
use Rattle.nif_file.specs.declared.header.Header.{Header}
use Rattle.nif_file.specs.Stops.{of_value}
use Rattle.nif_file.specs.HeaderReading.{fault_of}
use Rattle.nif_file.specs.Head.{block_context, file_context, order_in, version_in}
use Rattle.nif_base.specs.Limits.{most_depth}
use Rattle.nif_file.specs.Files.{IsBlockType, block_kind, footer_kind, head_of}
use Rattle.nif_file_reader.specs.Halting.{Halts}
use Rattle.nif_file_reader.specs.Known.{Knows, ReadsFooter, ReadsValue}
use Rattle.nif_file_reader.proofs.Halting.{halts_value}

block_by : (S : Schema) (o : Option ℕ) (kind : ℕ) → option_and_then (λ n. if has_block S n then Some n else None) o ≡ Some kind → has_block S kind ≡ true
block_by S None kind e = absurd (cc)
block_by S (Some n) kind e = by (has_block S n) refl e
  where
    by : (b : Bool) → has_block S n ≡ b → (if b then Some n else None) ≡ Some kind → has_block S kind ≡ true
    by true has h = let same : n ≡ kind = cc in subst (λ m. has_block S m ≡ true) same has
    by false has h = absurd (cc)

struct_block : (S : Schema) (n : ℕ) → what_at S n ≡ Some Struct → has_block S n ≡ false
struct_block S n h = by (slice_get S n) h
  where
    by : (o : Option Declaration) → option_and_then (λ d. Some d.what) o ≡ Some Struct → option_map_or (λ (d : Declaration). is_block d.what) o false ≡ false
    by None h = refl
    by (Some d) h = let what : d.what ≡ Struct = cc in ap is_block what

-- what is there is one
some_same : {A : Type 0} (o : Option A) (a b : A) → o ≡ Some a → o ≡ Some b → a ≡ b
some_same o a b p q = let e : Some a ≡ Some b = sym p ∙ q in cc

pub footer_root : (S : Schema) → Roles S → (footer : ℕ) → find S (codes "Footer") ≡ Some footer → IsRoot S (codes "Footer") footer
footer_root S roles footer found =
    subst (λ (n : ℕ). IsRoot S (codes "Footer") n) (some_same (find S (codes "Footer")) roles.roots.footer footer roles.roots.is_footer.found found) roles.roots.is_footer

module _ (S : Schema) (members : Members) (header : Header) (lists : Listed) (trees : List (ℕ × Node)) (k : Knows S members header lists trees) where
  abbrev E : Env
  E = head_of S members

  with_owner : (owner : Option ℕ) (kind : ℕ) (bounds : Bounds) → owner_of S kind ≡ owner → bounds.blocks ≡ header.bounds.blocks → bounds.strings ≡ header.bounds.strings → context_for S header.context kind bounds ≡ record (file_context S E) { owner = owner }
  with_owner owner kind bounds own blocks strings =
      let same = k.context in
      let b : bounds.blocks ≡ (file_context S E).blocks = blocks ∙ ap (λ (c : Context). c.blocks) same in
      let s : bounds.strings ≡ (file_context S E).strings = strings ∙ ap (λ (c : Context). c.strings) same in
      λ i. record { version = (same i).version; user = (same i).user; bs = (same i).bs; order = (same i).order; owner = own i; blocks = b i; strings = s i }

  pub block_here : (kind : ℕ) (bounds : Bounds) → IsBlockType S kind → bounds.blocks ≡ header.bounds.blocks → bounds.strings ≡ header.bounds.strings → context_for S header.context kind bounds ≡ block_context S E kind
  block_here kind bounds is blocks strings =
      let has : has_block S kind ≡ true = block_by S (find S _) kind is.named in
      with_owner (Some kind) kind bounds (ap (λ b. if b then Some kind else None) has) blocks strings

  pub footer_here : (footer : ℕ) (bounds : Bounds) → find S (codes "Footer") ≡ Some footer → bounds.blocks ≡ header.bounds.blocks → bounds.strings ≡ header.bounds.strings → context_for S header.context footer bounds ≡ file_context S E
  footer_here footer bounds found blocks strings =
      let has : has_block S footer ≡ false = struct_block S footer (footer_root S k.roles footer found).declared in
      with_owner None footer bounds (ap (λ b. if b then Some footer else None) has) blocks strings

  pub order_here : order_in E ≡ header.context.order
  order_here = sym (ap (λ (c : Context). c.order) k.context)

  pub version_here : version_in E ≡ header.context.version.number
  version_here = sym (ap (λ (c : Context). c.version) k.context)

footer_is : (S : Schema) (E : Env) (footer : ℕ) → find S (codes "Footer") ≡ Some footer → kind_of S (file_context S E) footer None 0 ≡ footer_kind S E
footer_is S E footer found = sym (ap (λ o. option_map_or (λ n. kind_of S (file_context S E) n None 0) o Unknown) found)

module _ {T : Type 0} (left : T → Option (List ℕ)) (still : T → T → Type 0) (faults : T → ℕ) (S : Schema) (members : Members) (C : Context) (kind : ℕ) (old new : Taker T) (counted : ℕ) (before after : Trees) where
  -- the value of a block
  pub value_read : C ≡ block_context S (head_of S members) kind → (now : ℕ) (tree : TreeId) → Decoded left still faults S C kind old new counted now before after tree → ReadsValue left still faults S members kind old new counted now before after tree
  value_read e now tree d = record {
    node = d.node;
    is = subst (λ (c : Context). Shape S c 64 (kind_of S c kind None 0) d.node) e d.is;
    takes = subst (λ (c : Context). Takes left still faults old (text c.order d.node) new) e d.takes;
    nodes = d.nodes;
    few = d.within;
    fresh = d.fresh;
    trees = d.trees;
  }

  pub value_refused : C ≡ block_context S (head_of S members) kind → (fault : ValueFault) → Refused left still faults S C kind old new counted before after fault
      → Halts left still faults (λ total. Lifted (of_value total) (Fails S (block_context S (head_of S members) kind) most_depth (block_kind S (head_of S members) kind))) counted old new (fault_of fault)
  value_refused e fault r =
      subst (λ (c : Context). Halts left still faults (λ total. Lifted (of_value total) (Fails S c 64 (kind_of S c kind None 0))) counted old new (fault_of fault)) e
      (halts_value left still faults (Fails S C 64 (kind_of S C kind None 0)) counted old new fault r.went r.stops)

  -- the footer
  pub footer_read : C ≡ file_context S (head_of S members) → find S (codes "Footer") ≡ Some kind → (now : ℕ) (tree : TreeId) → Decoded left still faults S C kind old new counted now before after tree
      → ReadsFooter left still faults S members old new counted now before after tree
  footer_read e found now tree d = record {
    node = d.node;
    is = subst (λ (x : Kind). Shape S (file_context S (head_of S members)) 64 x d.node) (footer_is S (head_of S members) kind found) (subst (λ (c : Context). Shape S c 64 (kind_of S c kind None 0) d.node) e d.is);
    takes = subst (λ (c : Context). Takes left still faults old (text c.order d.node) new) e d.takes;
    nodes = d.nodes;
    few = d.within;
    fresh = d.fresh;
    trees = d.trees;
  }

  pub footer_refused : C ≡ file_context S (head_of S members) → find S (codes "Footer") ≡ Some kind → (fault : ValueFault) → Refused left still faults S C kind old new counted before after fault
      → Halts left still faults (λ total. Lifted (of_value total) (Fails S (file_context S (head_of S members)) most_depth (footer_kind S (head_of S members)))) counted old new (fault_of fault)
  footer_refused e found fault r =
      subst (λ (x : Kind). Halts left still faults (λ total. Lifted (of_value total) (Fails S (file_context S (head_of S members)) 64 x)) counted old new (fault_of fault)) (footer_is S (head_of S members) kind found)
      (subst (λ (c : Context). Halts left still faults (λ total. Lifted (of_value total) (Fails S c 64 (kind_of S c kind None 0))) counted old new (fault_of fault)) e
      (halts_value left still faults (Fails S C 64 (kind_of S C kind None 0)) counted old new fault r.went r.stops))
