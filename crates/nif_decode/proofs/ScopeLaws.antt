-- The entries of members, member by member.
use Rattle.std.proofs.Common.{◌≡◌, ℕ, zero, suc, Bool, true, false, List, [], ◌∷◌, ◌++◌, length, take, drop, Option, Some, None, refl, sym, ap, ◌∙◌, subst}
use Rattle.std.proofs.Math.Seq.{take-append_seam, drop-append_seam}
use Rattle.std.proofs.lemmas.List.{length-map}
use Rattle.std.specs.Prelude.{option_and_then, is_some}
use Rattle.nif_base.specs.Node as node
use Rattle.nif_base.specs.Node.{Node, Members, End, Here, Absent}
use Rattle.nif_schema.specs.Declaration.{Field}
use Rattle.nif_schema.specs.Schema.{Schema, line}
use Rattle.nif_scope.specs.declared.entries.Entry.{Entry}
use Rattle.nif_scope.specs.declared.entries.Entry.TheVariants as entry
use Rattle.nif_scope.specs.Lookup.{inside}
use Rattle.nif_scope.specs.Keeping.{AreFor}
use Rattle.nif_layout.specs.PathValue.{extended}
use Rattle.nif_scope.specs.Told.{told_in, items_told, bytes_told, member_told, line_told}
use Rattle.nif_scope.specs.Scope.{asks}
use Rattle.nif_decode.specs.Scopes.{AreKept, member_at, number_in, inner_number, number_at, behind_member, from_member, inside_group, first_bits, is_first}

-- from the first member on
from_next : (k : ℕ) (entries : List Entry) → from_member (suc k) entries ≡ from_member k (behind_member entries)
from_next zero entries = refl
from_next (suc k) entries = ap behind_member (from_next k entries)

from_none : (k : ℕ) → from_member k [] ≡ []
from_none zero = refl
from_none (suc k) = ap behind_member (from_none k)

-- The entry of a node says how many entries of its own stand behind it.
record HasOwn (entries : List Entry) : Type 0 where
  pub head : Entry
  pub own : List Entry
  pub is : entries ≡ head ∷ own
  pub long : inside head ≡ length own

has_own : (b : Bool) (n : Node) → HasOwn (member_told b n)
has_own true (node.Num width little bits) = record { head = entry.Number bits (extended true width bits); own = []; is = refl; long = refl }
has_own true (node.Line bytes) = record { head = entry.Nothing; own = []; is = refl; long = refl }
has_own true (node.Ref strong wanted target) = record { head = entry.Nothing; own = []; is = refl; long = refl }
has_own true (node.Text index) = record { head = entry.Nothing; own = []; is = refl; long = refl }
has_own true (node.Bytes bytes) = record { head = entry.Items (length bytes); own = bytes_told bytes; is = refl; long = sym (length-map bytes (λ x. entry.Number x (extended true 1 x))) }
has_own true (node.Group members) = record { head = entry.Group (length (told_in members)); own = told_in members; is = refl; long = refl }
has_own true (node.Row items) = record { head = entry.Items (length (items_told items)); own = items_told items; is = refl; long = refl }
has_own false (node.Num width little bits) = record { head = entry.Number bits (extended true width bits); own = []; is = refl; long = refl }
has_own false (node.Line bytes) = record { head = entry.Nothing; own = []; is = refl; long = refl }
has_own false (node.Ref strong wanted target) = record { head = entry.Nothing; own = []; is = refl; long = refl }
has_own false (node.Text index) = record { head = entry.Nothing; own = []; is = refl; long = refl }
has_own false (node.Bytes bytes) = record { head = entry.Nothing; own = []; is = refl; long = refl }
has_own false (node.Group members) = record { head = entry.Group (length (told_in members)); own = told_in members; is = refl; long = refl }
has_own false (node.Row items) = record { head = entry.Nothing; own = []; is = refl; long = refl }

-- behind a member that has a node
behind_here : (b : Bool) (n : Node) (more : List Entry) → behind_member (member_told b n ++ more) ≡ more
behind_here b n more =
    let h = has_own b n in
    ap (λ t. behind_member (t ++ more)) h.is ∙ ap (λ k. drop k (h.own ++ more)) h.long ∙ drop-append_seam h.own more

bits_here : (b : Bool) (n : Node) (more : List Entry) → first_bits (member_told b n ++ more) ≡ number_in n
bits_here true (node.Num width little bits) more = refl
bits_here true (node.Line bytes) more = refl
bits_here true (node.Ref strong wanted target) more = refl
bits_here true (node.Text index) more = refl
bits_here true (node.Bytes bytes) more = refl
bits_here true (node.Group members) more = refl
bits_here true (node.Row items) more = refl
bits_here false (node.Num width little bits) more = refl
bits_here false (node.Line bytes) more = refl
bits_here false (node.Ref strong wanted target) more = refl
bits_here false (node.Text index) more = refl
bits_here false (node.Bytes bytes) more = refl
bits_here false (node.Group members) more = refl
bits_here false (node.Row items) more = refl

first_here : (b : Bool) (n : Node) (more : List Entry) → is_first (member_told b n ++ more) ≡ true
first_here true (node.Num width little bits) more = refl
first_here true (node.Line bytes) more = refl
first_here true (node.Ref strong wanted target) more = refl
first_here true (node.Text index) more = refl
first_here true (node.Bytes bytes) more = refl
first_here true (node.Group members) more = refl
first_here true (node.Row items) more = refl
first_here false (node.Num width little bits) more = refl
first_here false (node.Line bytes) more = refl
first_here false (node.Ref strong wanted target) more = refl
first_here false (node.Text index) more = refl
first_here false (node.Bytes bytes) more = refl
first_here false (node.Group members) more = refl
first_here false (node.Row items) more = refl

-- the numbers inside a group
inner_bits : (members : Members) (k : ℕ) → first_bits (from_member k (told_in members)) ≡ option_and_then number_in (member_at members k)
inner_bits End k = ap first_bits (from_none k)
inner_bits (Here n rest) zero = bits_here false n (told_in rest)
inner_bits (Absent rest) zero = refl
inner_bits (Here n rest) (suc k) = ap first_bits (from_next k (member_told false n ++ told_in rest) ∙ ap (from_member k) (behind_here false n (told_in rest))) ∙ inner_bits rest k
inner_bits (Absent rest) (suc k) = ap first_bits (from_next k (entry.Absent ∷ told_in rest)) ∙ inner_bits rest k

nothing_inside : (k : ℕ) → first_bits (from_member k []) ≡ None
nothing_inside k = ap first_bits (from_none k)

inner_here : (b : Bool) (n : Node) (more : List Entry) (k : ℕ) → first_bits (from_member k (inside_group (member_told b n ++ more))) ≡ inner_number k n
inner_here true (node.Num width little bits) more k = nothing_inside k
inner_here true (node.Line bytes) more k = nothing_inside k
inner_here true (node.Ref strong wanted target) more k = nothing_inside k
inner_here true (node.Text index) more k = nothing_inside k
inner_here true (node.Bytes bytes) more k = nothing_inside k
inner_here true (node.Group members) more k = ap (λ t. first_bits (from_member k t)) (take-append_seam (told_in members) more) ∙ inner_bits members k
inner_here true (node.Row items) more k = nothing_inside k
inner_here false (node.Num width little bits) more k = nothing_inside k
inner_here false (node.Line bytes) more k = nothing_inside k
inner_here false (node.Ref strong wanted target) more k = nothing_inside k
inner_here false (node.Text index) more k = nothing_inside k
inner_here false (node.Bytes bytes) more k = nothing_inside k
inner_here false (node.Group members) more k = ap (λ t. first_bits (from_member k t)) (take-append_seam (told_in members) more) ∙ inner_bits members k
inner_here false (node.Row items) more k = nothing_inside k

-- The entries from a member on tell of it what is asked.
record IsAt (got : Option Node) (entries : List Entry) : Type 0 where
  pub bits : first_bits entries ≡ option_and_then number_in got
  pub inner : (k : ℕ) → first_bits (from_member k (inside_group entries)) ≡ option_and_then (inner_number k) got
  pub first : is_first entries ≡ is_some got

is_none : IsAt None []
is_none = record { bits = refl; inner = nothing_inside; first = refl }

line_at : (asked : Field → Bool) (fields : List Field) (count : ℕ) (members : Members) (k : ℕ) → AreFor (take count fields) members → IsAt (member_at members k) (from_member k (line_told asked fields members))
line_at asked [] zero End k h = subst (λ t. IsAt None t) (sym (from_none k)) is_none
line_at asked [] zero (Here n rest) k h = absurd h
line_at asked [] zero (Absent rest) k h = absurd h
line_at asked [] (suc count) End k h = subst (λ t. IsAt None t) (sym (from_none k)) is_none
line_at asked [] (suc count) (Here n rest) k h = absurd h
line_at asked [] (suc count) (Absent rest) k h = absurd h
line_at asked (f ∷ fields) count End k h = subst (λ t. IsAt None t) (sym (from_none k)) is_none
line_at asked (f ∷ fields) zero (Here n rest) k h = absurd h
line_at asked (f ∷ fields) zero (Absent rest) k h = absurd h
line_at asked (f ∷ fields) (suc count) (Here n rest) zero h = record { bits = bits_here (asked f) n (line_told asked fields rest); inner = inner_here (asked f) n (line_told asked fields rest); first = first_here (asked f) n (line_told asked fields rest) }
line_at asked (f ∷ fields) (suc count) (Here n rest) (suc k) h =
    subst (λ t. IsAt (member_at rest k) t) (sym (from_next k (member_told (asked f) n ++ line_told asked fields rest) ∙ ap (from_member k) (behind_here (asked f) n (line_told asked fields rest))))
    (line_at asked fields count rest k h)
line_at asked (f ∷ fields) (suc count) (Absent rest) zero h = record { bits = refl; inner = nothing_inside; first = refl }
line_at asked (f ∷ fields) (suc count) (Absent rest) (suc k) h =
    subst (λ t. IsAt (member_at rest k) t) (sym (from_next k (entry.Absent ∷ line_told asked fields rest))) (line_at asked fields count rest k h)

kept_at : (schema : Schema) (kind count : ℕ) (entries : List Entry) (members : Members) (k : ℕ) → AreKept schema kind count entries members → IsAt (member_at members k) (from_member k entries)
kept_at schema kind count entries members k a =
    subst (λ t. IsAt (member_at members k) (from_member k t)) (sym a.told) (line_at (asks schema kind) (line schema kind) count members k a.each)

pub kept_number : (schema : Schema) (kind count : ℕ) (entries : List Entry) (members : Members) (k : ℕ) → AreKept schema kind count entries members
    → first_bits (from_member k entries) ≡ number_at members k None
kept_number schema kind count entries members k a = (kept_at schema kind count entries members k a).bits

pub kept_inner : (schema : Schema) (kind count : ℕ) (entries : List Entry) (members : Members) (k inner : ℕ) → AreKept schema kind count entries members
    → first_bits (from_member inner (inside_group (from_member k entries))) ≡ number_at members k (Some inner)
kept_inner schema kind count entries members k inner a = (kept_at schema kind count entries members k a).inner inner

pub kept_present : (schema : Schema) (kind count : ℕ) (entries : List Entry) (members : Members) (k : ℕ) → AreKept schema kind count entries members → is_first (from_member k entries) ≡ is_some (member_at members k)
kept_present schema kind count entries members k a = (kept_at schema kind count entries members k a).first
