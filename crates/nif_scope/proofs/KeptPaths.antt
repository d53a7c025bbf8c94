-- What is kept of members gives a path the value that it has by their nodes.
use Rattle.std.proofs.Common.{◌≡◌, ℕ, Bool, true, false, List, [], ◌∷◌, Option, Some, None, refl, sym, ap, subst, bytes_eq, if◌then◌else◌, ◌||◌, ◌∙◌}
use Rattle.std.specs.Option.{option_map, option_map_or}
use Rattle.std.specs.List as list
use Rattle.nif_base.specs.Node.{Node, Members, Num, Line, Ref, Text, Bytes, Group, Row}
use Rattle.nif_schema.specs.Declaration.{Name, Field}
use Rattle.nif_schema.specs.Schema.{Schema}
use Rattle.nif_schema.specs.declared.members.BitMember.{BitMember}
use Rattle.nif_layout.specs.Context.{Context}
use Rattle.nif_layout.specs.Earlier.{last_present, passed}
use Rattle.nif_layout.specs.PathValue as path
use Rattle.nif_layout.specs.PathValue.{Found, found, step, follow, number_of, number_in, is_signed, path_value, header_value, fields_in, bits_in, member_bits}
use Rattle.nif_scope.specs.Told.{line_told}
use Rattle.nif_scope.specs.Lookup.{Told, Nowhere, At, Bits, told_at, member_step, step_told, told_bits, value_told, follow_told, name_told, number_told, path_told}
use Rattle.nif_scope.proofs.KeptMembers.{entry_of, own_of, member_at, kept_member, never, last_is, last_in_group, name_is}

-- what was found, as what is kept of it
abbrev kept_found : (Field → Bool) → Found → Told
kept_found asks path.Nothing = Nowhere
kept_found asks (path.Value f node) = At (member_at asks (f, node))
kept_found asks (path.Bits value) = Bits value

found_kept : (asks : Field → Bool) (at : Option (Field × Node)) → told_at (kept_member asks at) ≡ kept_found asks (found at)
found_kept asks None = refl
found_kept asks (Some at) = refl

bits_kept : (bits : ℕ) (member : Option BitMember)
    → told_bits (option_map (λ (m : BitMember). member_bits bits m) member) ≡ kept_found never (option_map_or (λ (m : BitMember). path.Bits (member_bits bits m)) member path.Nothing)
bits_kept bits None = refl
bits_kept bits (Some m) = refl

-- where a name leads
step_node : (schema : Schema) (name : Name) (f : Field) (b : Bool) (node : Node)
    → member_step schema name f (entry_of b node) (own_of b node) ≡ kept_found never (step schema name (path.Value f node))
step_node schema name f b (Num width little bits) = bits_kept bits (list.find (λ (m : BitMember). bytes_eq name m.name) (bits_in schema f))
step_node schema name f b (Line bytes) = refl
step_node schema name f b (Ref strong wanted target) = refl
step_node schema name f b (Text index) = refl
step_node schema name f true (Bytes bytes) = refl
step_node schema name f false (Bytes bytes) = refl
step_node schema name f b (Group members) = ap told_at (last_in_group name (fields_in schema f) members) ∙ found_kept never (last_present name (passed (fields_in schema f) members []))
step_node schema name f true (Row items) = refl
step_node schema name f false (Row items) = refl

step_kept : (schema : Schema) (name : Name) (asks : Field → Bool) (x : Found) → step_told schema name (kept_found asks x) ≡ kept_found never (step schema name x)
step_kept schema name asks path.Nothing = refl
step_kept schema name asks (path.Value f node) = step_node schema name f (asks f) node
step_kept schema name asks (path.Bits value) = refl

number_kept : (signed b : Bool) (node : Node) → number_told signed (entry_of b node) ≡ number_in signed node
number_kept true b (Num width little bits) = refl
number_kept false b (Num width little bits) = refl
number_kept signed b (Line bytes) = refl
number_kept signed b (Ref strong wanted target) = refl
number_kept signed b (Text index) = refl
number_kept signed true (Bytes bytes) = refl
number_kept signed false (Bytes bytes) = refl
number_kept signed b (Group members) = refl
number_kept signed true (Row items) = refl
number_kept signed false (Row items) = refl

value_kept : (schema : Schema) (asks : Field → Bool) (x : Found) → value_told schema (kept_found asks x) ≡ number_of schema x
value_kept schema asks path.Nothing = refl
value_kept schema asks (path.Value f node) = number_kept (is_signed schema f) (asks f) node
value_kept schema asks (path.Bits value) = refl

follow_kept : (schema : Schema) (names : List Name) (asks : Field → Bool) (x : Found) → follow_told schema (kept_found asks x) names ≡ follow schema x names
follow_kept schema [] asks x = value_kept schema asks x
follow_kept schema (name ∷ names) asks x = ap (λ at. follow_told schema at names) (step_kept schema name asks x) ∙ follow_kept schema names never (step schema name x)

or_false : (b : Bool) → (b || false) ≡ b
or_false true = refl
or_false false = refl

-- The value of a path is the one by the nodes.
pub path_kept : (schema : Schema) (C : Context) (asks : Field → Bool) (fields : List Field) (members : Members) (names : List Name)
    → path_told schema C fields (line_told asks fields members) names ≡ path_value schema C (passed fields members []) names
path_kept schema C asks fields members [] = refl
path_kept schema C asks fields members (name ∷ names) =
    subst (λ b. path_told schema C fields (line_told asks fields members) (name ∷ names) ≡ (if b then Some (follow schema (found (last_present name (passed fields members []))) names) else header_value C (name ∷ names)))
    (sym (or_false (name_told name fields (line_told asks fields members))) ∙ name_is asks name fields members [])
    (ap (λ n. if name_told name fields (line_told asks fields members) then Some n else header_value C (name ∷ names))
    (ap (λ at. follow_told schema (told_at at) names) (last_is asks name fields members [])
    ∙ ap (λ at. follow_told schema at names) (found_kept asks (last_present name (passed fields members [])))
    ∙ follow_kept schema names asks (found (last_present name (passed fields members [])))))
