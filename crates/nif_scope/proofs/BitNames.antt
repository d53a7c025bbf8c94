-- The first member of a bitfield of a name.
use Rattle.std.proofs.Common.{◌≡◌, ℕ, ◌+◌, Bool, true, false, List, drop, slice_get, Some, refl, sym, subst, bytes_eq, if◌then◌else◌}
use Rattle.std.specs.Option.{option_map}
use Rattle.std.specs.List as list
use Rattle.nif_schema.specs.Declaration.{Name}
use Rattle.nif_schema.specs.declared.members.BitMember.{BitMember}
use Rattle.nif_layout.specs.PathValue.{member_bits}
use Rattle.nif_scope.specs.Lookup.{bits_named}
use Rattle.nif_scope.proofs.Places.{drop_at}

pub named_here : (name : Name) (bits : ℕ) (members : List BitMember) (i : ℕ) (m : BitMember) → slice_get members i ≡ Some m → bytes_eq name m.name ≡ true
    → Some (member_bits bits m) ≡ bits_named name bits (drop i members)
named_here name bits members i m at e =
    let P : Bool → Type 0 = λ b. Some (member_bits bits m) ≡ option_map (λ member. member_bits bits member) (if b then Some m else list.find (λ (member : BitMember). bytes_eq name member.name) (drop (i + 1) members)) in
    subst (λ (ms : List BitMember). Some (member_bits bits m) ≡ bits_named name bits ms) (sym (drop_at members i m at)) (subst P (sym e) refl)

pub named_past : (name : Name) (bits : ℕ) (members : List BitMember) (i : ℕ) (m : BitMember) → slice_get members i ≡ Some m → bytes_eq name m.name ≡ false
    → bits_named name bits (drop (i + 1) members) ≡ bits_named name bits (drop i members)
named_past name bits members i m at e =
    let P : Bool → Type 0 = λ b. bits_named name bits (drop (i + 1) members) ≡ option_map (λ member. member_bits bits member) (if b then Some m else list.find (λ (member : BitMember). bytes_eq name member.name) (drop (i + 1) members)) in
    subst (λ (ms : List BitMember). bits_named name bits (drop (i + 1) members) ≡ bits_named name bits ms) (sym (drop_at members i m at)) (subst P (sym e) refl)
