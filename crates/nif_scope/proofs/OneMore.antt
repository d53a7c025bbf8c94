-- What one more field of a line adds.
use Rattle.std.proofs.Common.{◌≡◌, Bool, true, false, List, [], ◌∷◌, ◌++◌, drop, take, ◌<◌, length, slice_index_or, arith, Option, None, Some, refl, sym, ap, is_some, bytes_eq, if◌then◌else◌, ◌||◌, ◌&&◌, ◌∙◌}
use Rattle.nif_schema.specs.Declaration.{Name, Field}
use Rattle.nif_schema.specs.Schema.{Schema}
use Rattle.nif_layout.specs.Context.{Context}
use Rattle.nif_layout.specs.PathValue.{header_value}
use Rattle.nif_scope.specs.declared.entries.Entry.{Entry}
use Rattle.nif_scope.specs.Lookup.{Member, inside, is_here, last_told, later_told, name_told, array_told, rest_told, told_at, At, follow_told, path_told}

pub rest_more : (fields : List Field) (f : Field) (entries : List Entry) → rest_told (fields ++ f ∷ []) entries ≡ rest_told (f ∷ []) (rest_told fields entries)
rest_more [] f entries = refl
rest_more (g ∷ fields) f [] = refl
rest_more (g ∷ fields) f (e ∷ rest) = rest_more fields f (drop (inside e) rest)

pub last_more : (name : Name) (got : Option Member) (fields : List Field) (f : Field) (entries : List Entry)
    → last_told name got (fields ++ f ∷ []) entries ≡ last_told name (last_told name got fields entries) (f ∷ []) (rest_told fields entries)
last_more name got [] f entries = refl
last_more name got (g ∷ fields) f [] = refl
last_more name got (g ∷ fields) f (e ∷ rest) =
    last_more name (later_told name g e (take (inside e) rest) got) fields f (drop (inside e) rest)

or_joined : (b c d : Bool) → (b || (c || d)) ≡ ((b || c) || d)
or_joined true c d = refl
or_joined false c d = refl

or_none : (b : Bool) → b ≡ (b || false)
or_none true = refl
or_none false = refl

pub name_more : (name : Name) (fields : List Field) (f : Field) (entries : List Entry)
    → name_told name (fields ++ f ∷ []) entries ≡ (name_told name fields entries || name_told name (f ∷ []) (rest_told fields entries))
name_more name [] f entries = refl
name_more name (g ∷ fields) f [] = refl
name_more name (g ∷ fields) f (e ∷ rest) =
    ap (λ b. bytes_eq name g.name || b) (name_more name fields f (drop (inside e) rest))
    ∙ or_joined (bytes_eq name g.name) (name_told name fields (drop (inside e) rest)) (name_told name (f ∷ []) (rest_told fields (drop (inside e) rest)))

-- behind a member, where its entry is the first of those that are left
pub last_here : (name : Name) (fields : List Field) (f : Field) (entries : List Entry) (e : Entry) (more : List Entry) (before after : Option Member)
    → before ≡ last_told name None fields entries → e ∷ more ≡ rest_told fields entries
    → after ≡ later_told name f e (take (inside e) more) before
    → after ≡ last_told name None (fields ++ f ∷ []) entries
last_here name fields f entries e more before after found left next =
    next
    ∙ ap (λ got. later_told name f e (take (inside e) more) got) found
    ∙ ap (λ rest. last_told name (last_told name None fields entries) (f ∷ []) rest) left
    ∙ sym (last_more name None fields f entries)

pub rest_here : (fields : List Field) (f : Field) (entries : List Entry) (e : Entry) (more : List Entry) → e ∷ more ≡ rest_told fields entries
    → drop (inside e) more ≡ rest_told (fields ++ f ∷ []) entries
rest_here fields f entries e more left = ap (λ rest. rest_told (f ∷ []) rest) left ∙ sym (rest_more fields f entries)

pub name_here : (name : Name) (fields : List Field) (f : Field) (entries : List Entry) (e : Entry) (more : List Entry) → e ∷ more ≡ rest_told fields entries
    → (name_told name fields entries || bytes_eq name f.name) ≡ name_told name (fields ++ f ∷ []) entries
name_here name fields f entries e more left =
    ap (λ b. name_told name fields entries || b) (or_none (bytes_eq name f.name) ∙ ap (λ rest. name_told name (f ∷ []) rest) left)
    ∙ sym (name_more name fields f entries)

-- where none is left
pub last_end : (name : Name) (fields : List Field) (f : Field) (entries : List Entry) → [] ≡ rest_told fields entries
    → last_told name None fields entries ≡ last_told name None (fields ++ f ∷ []) entries
last_end name fields f entries left = ap (λ rest. last_told name (last_told name None fields entries) (f ∷ []) rest) left ∙ sym (last_more name None fields f entries)

pub rest_end : (fields : List Field) (f : Field) (entries : List Entry) → [] ≡ rest_told fields entries → [] ≡ rest_told (fields ++ f ∷ []) entries
rest_end fields f entries left = ap (λ rest. rest_told (f ∷ []) rest) left ∙ sym (rest_more fields f entries)

pub name_end : (name : Name) (fields : List Field) (f : Field) (entries : List Entry) → [] ≡ rest_told fields entries
    → name_told name fields entries ≡ name_told name (fields ++ f ∷ []) entries
name_end name fields f entries left =
    or_none (name_told name fields entries) ∙ ap (λ rest. name_told name fields entries || name_told name (f ∷ []) rest) left ∙ sym (name_more name fields f entries)

-- the last member of a name as an array
array_more : (name : Name) (got : Bool) (fields : List Field) (f : Field) (entries : List Entry)
    → array_told name got (fields ++ f ∷ []) entries ≡ array_told name (array_told name got fields entries) (f ∷ []) (rest_told fields entries)
array_more name got [] f entries = refl
array_more name got (g ∷ fields) f [] = refl
array_more name got (g ∷ fields) f (e ∷ rest) = array_more name (if bytes_eq name g.name then is_some g.length else got) fields f (drop (inside e) rest)

pub array_here : (name : Name) (fields : List Field) (f : Field) (entries : List Entry) (e : Entry) (more : List Entry) (before after : Bool)
    → before ≡ array_told name false fields entries → e ∷ more ≡ rest_told fields entries
    → after ≡ (if bytes_eq name f.name then is_some f.length else before)
    → after ≡ array_told name false (fields ++ f ∷ []) entries
array_here name fields f entries e more before after found left next =
    next
    ∙ ap (λ (got : Bool). if bytes_eq name f.name then is_some f.length else got) found
    ∙ ap (λ rest. array_told name (array_told name false fields entries) (f ∷ []) rest) left
    ∙ sym (array_more name false fields f entries)

pub array_end : (name : Name) (fields : List Field) (f : Field) (entries : List Entry) → [] ≡ rest_told fields entries
    → array_told name false fields entries ≡ array_told name false (fields ++ f ∷ []) entries
array_end name fields f entries left = ap (λ rest. array_told name (array_told name false fields entries) (f ∷ []) rest) left ∙ sym (array_more name false fields f entries)

-- a member that is present has its name
named_now : (b : Bool) (name : Name) (here : Bool) (m : Member) (got : Option Member) (rest : Bool)
    → (rest || is_some (if b && here then Some m else got)) ≡ true → ((b || rest) || is_some got) ≡ true
named_now true name here m got rest h = refl
named_now false name here m got rest h = h

pub named_last : (name : Name) (got : Option Member) (fields : List Field) (entries : List Entry)
    → is_some (last_told name got fields entries) ≡ true → (name_told name fields entries || is_some got) ≡ true
named_last name got [] entries h = h
named_last name got (f ∷ fields) [] h = h
named_last name got (f ∷ fields) (e ∷ rest) h =
    named_now (bytes_eq name f.name) name (is_here e) (record { field = f; entry = e; own = take (inside e) rest }) got
    (name_told name fields (drop (inside e) rest))
    (named_last name (later_told name f e (take (inside e) rest) got) fields (drop (inside e) rest) h)

-- A path whose first name a present member has leads on from the last of them.
pub found_path : (S : Schema) (C : Context) (fields : List Field) (entries : List Entry) (path : List Name) (name : Name) (m : Member)
    → 0 < length path → name ≡ slice_index_or path 0 [] → last_told name None fields entries ≡ Some m
    → Some (follow_told S (At m) (drop 1 path)) ≡ path_told S C fields entries path
found_path S C fields entries [] name m long first last = absurd (omega (arith, long))
found_path S C fields entries (n ∷ names) name m long first last =
    let same : n ≡ name = sym first in
    let found : last_told n None fields entries ≡ Some m = ap (λ x. last_told x None fields entries) same ∙ last in
    let named : name_told n fields entries ≡ true = or_none (name_told n fields entries) ∙ named_last n None fields entries (ap is_some found) in
    sym (ap (λ b. if b then Some (follow_told S (told_at (last_told n None fields entries)) names) else header_value C (n ∷ names)) named
    ∙ ap (λ x. Some (follow_told S (told_at x) names)) found)
