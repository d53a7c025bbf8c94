-- The type of a block by its name, and by its entry in the types of the header.
use Rattle.std.proofs.Common.{◌≡◌, ◌≢◌, ℕ, inl, inr, true, false, Option, Some, None, List, [], refl, sym, ◌∙◌, ap, subst, slice_get}
use Rattle.std.specs.Prelude.{IfSome, IfOk, Ok, Err}
use Rattle.std.specs.declared.result.Result.{Result}
use Rattle.std.specs.Option.{option_map}
use Rattle.std.proofs.lemmas.Option.{slice_get-map}
use Rattle.nif_base.specs.Node as node
use Rattle.nif_base.specs.Node.{Node, Members}
use Rattle.nif_schema.specs.Declaration.{Name}
use Rattle.nif_schema.specs.Schema.{Schema, find_block}
use Rattle.nif_schema.specs.Reasons.{IsOpen, IsReason, Open, Own, Uses}
use Rattle.nif_schema.specs.declared.faults.Closed.{Closed}
use Rattle.nif_layout.specs.Earlier.{Env}
use Rattle.nif_lists.specs.Lists.{Listed, AreListsOf, IsNameOf, ArePlaces}
use Rattle.nif_file.specs.declared.faults.FileFault.{FileFault}
use Rattle.nif_file.specs.declared.faults.FileFault.TheVariants as file
use Rattle.nif_file.specs.declared.header.Header.{Header}
use Rattle.nif_file.specs.Stops.{Stop}
use Rattle.nif_file.specs.Head.{type_names, index_word, type_place}
use Rattle.nif_file.specs.Files.{IsBlockType, IsIndexed, head_of, is_abstract, name_of}
use Rattle.nif_file.specs.FileFails.{EntryRefused}
use Rattle.nif_file.specs.NameLaws.{block_name}
use Rattle.nif_file_reader.specs.Types.{Refuses, RefusesKind, RefusesName, NamesNone}
use Rattle.nif_file_reader.specs.Known.{Knows}

-- two facts of what was answered
pub if_ok_both : {A B : Type 0} (r : Result A B) (P Q R : A → Type 0) → ((x : A) → P x → Q x → R x) → IfOk r P → IfOk r Q → IfOk r R
if_ok_both (Ok x) P Q R f p q = f x p q
if_ok_both (Err e) P Q R f p q = tt

-- ---- by a name

reason_none : (S : Schema) (kind : ℕ) (o : Option Closed) → IsReason S kind o → o ≡ None → IsOpen S kind
reason_none S kind None (Open opens) e = opens
reason_none S kind (Some reason) (Own r own) e = absurd (cc)
reason_none S kind (Some reason) (Uses none reaches) e = absurd (cc)

pub block_type : (S : Schema) (name : Name) (kind : ℕ) → find_block S name ≡ Some kind → is_abstract S kind ≡ false → IsReason S kind None → IsBlockType S kind
block_type S name kind found concrete reason = record {
  named = subst (λ (n : Name). find_block S n ≡ Some kind) (sym (block_name S name kind found)) found;
  concrete = concrete;
  opens = reason_none S kind None reason refl;
}

pub refuses_memory : (P : ℕ → Stop → Type 0) → Refuses P file.NoMemory
refuses_memory P = (λ e. absurd (cc), λ m. absurd (m refl))

pub refuses_abstract : (S : Schema) (block kind : ℕ) → is_abstract S kind ≡ true → RefusesKind S block kind (file.AbstractType block)
refuses_abstract S block kind e = (λ e. absurd (cc), λ m known. inl (e, refl))

pub refuses_closed : (S : Schema) (block kind : ℕ) (reason : Closed) → is_abstract S kind ≡ false → IsReason S kind (Some reason) → RefusesKind S block kind (file.ClosedType block reason)
refuses_closed S block kind reason e is = (λ e. absurd (cc), λ m known. inr (e, reason, is, refl))

pub refuses_found : (S : Schema) (block kind : ℕ) (name : Name) (fault : FileFault) → find_block S name ≡ Some kind → RefusesKind S block kind fault → RefusesName S block name fault
refuses_found S block kind name fault found r = (r.0, λ m known. inr (kind, found, r.1 m known))

pub refuses_unknown : (S : Schema) (block : ℕ) (name word : Name) → find_block S name ≡ None → word ≡ name → RefusesName S block name (file.UnknownType block word)
refuses_unknown S block name word none same = (λ e. absurd (cc), λ m known. inl (none, ap (λ w. record { fault = file.UnknownType block w; known = known }) same))

-- ---- by an entry

mapped : {A B : Type 0} (f : A → B) (o : Option A) (y : B) → option_map f o ≡ Some y → (x : A) × (o ≡ Some x) × (f x ≡ y)
mapped f None y e = absurd (cc)
mapped f (Some x) y e = (x, refl, cc)

not_mapped : {A B : Type 0} (f : A → B) (o : Option A) → option_map f o ≡ None → o ≡ None
not_mapped f None e = refl
not_mapped f (Some x) e = absurd (cc)

module _ (S : Schema) (E : Env) (lists : Listed) (are : AreListsOf S E lists) where
  -- the name of an entry that is there
  pub entry_name : (entry : ℕ) (o : Option ℕ) → slice_get lists.types entry ≡ Some o → (name : Name) × (slice_get (type_names E) entry ≡ Some name) × (find_block S name ≡ o)
  entry_name entry o e = mapped (find_block S) (slice_get (type_names E) entry) o (sym (slice_get-map (find_block S) (type_names E) entry) ∙ ap (λ (types : List (Option ℕ)). slice_get types entry) (sym are.types) ∙ e)

  pub no_entry : (entry : ℕ) → slice_get lists.types entry ≡ None → slice_get (type_names E) entry ≡ None
  no_entry entry e = not_mapped (find_block S) (slice_get (type_names E) entry) (sym (slice_get-map (find_block S) (type_names E) entry) ∙ ap (λ (types : List (Option ℕ)). slice_get types entry) (sym are.types) ∙ e)

-- an entry refuses the block
abbrev pub RefusesEntry : Schema → Env → ℕ → ℕ → FileFault → Type 0
RefusesEntry S E block word fault = Refuses (λ known stop. EntryRefused S E block word (record { nodes = 0; place = known; left = [] }) stop) fault

module _ (S : Schema) (E : Env) (lists : Listed) (are : AreListsOf S E lists) (block word : ℕ) where
  pub entry_past : slice_get lists.types (type_place word) ≡ None → (index : ℕ) → index ≡ type_place word → RefusesEntry S E block word (file.TypeIndex block index)
  entry_past e index same = (λ e. absurd (cc), λ m known. inl (no_entry S E lists are (type_place word) e, ap (λ n. record { fault = file.TypeIndex block n; known = known }) same))

  pub entry_unknown : slice_get lists.types (type_place word) ≡ Some None → (fault : FileFault) → fault ≢ file.ReadFault
      → (fault ≢ file.NoMemory → (name : Name) → slice_get (type_names E) (type_place word) ≡ Some name → fault ≡ file.UnknownType block name) → RefusesEntry S E block word fault
  entry_unknown e fault other is =
      let named = entry_name S E lists are (type_place word) None e in
      (other, λ m known. inr (named.0, named.1, inl (named.2, ap (λ f. record { fault = f; known = known }) (is m named.0 named.1))))

  pub entry_refused : (kind : ℕ) → slice_get lists.types (type_place word) ≡ Some (Some kind) → (fault : FileFault) → RefusesKind S block kind fault → RefusesEntry S E block word fault
  entry_refused kind e fault r =
      let named = entry_name S E lists are (type_place word) (Some kind) e in
      (r.0, λ m known. inr (named.0, named.1, inr (kind, named.2, r.1 m known)))

  pub entry_indexed : (kind : ℕ) → slice_get lists.types (type_place word) ≡ Some (Some kind) → index_word E block ≡ Some word → IsIndexed S E block kind
  entry_indexed kind e is =
      let named = entry_name S E lists are (type_place word) (Some kind) e in
      let same : slice_get (type_names E) (type_place word) ≡ Some (name_of S kind) = named.1 ∙ ap (λ n. Some n) (sym (block_name S named.0 kind named.2)) in
      subst (λ (o : Option ℕ). IfSome o (λ w. slice_get (type_names E) (type_place w) ≡ Some (name_of S kind))) (sym is) same

pub entry_found : (S : Schema) (E : Env) (lists : Listed) → AreListsOf S E lists → (entry kind : ℕ) → slice_get lists.types entry ≡ Some (Some kind) → (name : Name) × (find_block S name ≡ Some kind)
entry_found S E lists are entry kind e = let named = entry_name S E lists are entry (Some kind) e in (named.0, named.2)

-- the name that was found for an entry
pub entry_named : (S : Schema) (members : Members) (header : Header) (lists : Listed) (trees : List (ℕ × Node)) (block entry : ℕ) (word : Name) → Knows S members header lists trees
    → IsNameOf header.places entry (node.Group members) word → NamesNone S members block entry (file.UnknownType block word)
entry_named S members header lists trees block entry word k is = (λ e. absurd (cc), λ m name at. ap (λ w. file.UnknownType block w) (here name at))
  where
    places : ArePlaces S header.places
    places = record { types = k.places.types; index = k.places.index; sizes = k.places.sizes }

    here : (name : Name) → slice_get (type_names (head_of S members)) entry ≡ Some name → word ≡ name
    here name at = subst (λ (o : Option Name). IfSome o (λ named. word ≡ named)) at (is S k.schema k.roles places k.is)
