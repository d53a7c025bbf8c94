-- What one member more says of a file.
use Rattle.std.proofs.Common.{◌≡◌, ℕ, Bool, true, false, if◌then◌else◌, Option, Some, refl, sym, ◌∙◌, ap, subst}
use Rattle.std.specs.Prelude.{bytes_eq, is_some, ◌||◌}
use Rattle.std.specs.Option.{option_map, option_map_or}
use Rattle.std.proofs.lemmas.Slice.Eq.{bytes_eq-Decides}
use Rattle.nif_base.specs.Node.{Node}
use Rattle.nif_schema.specs.Declaration.{Name, Field}
use Rattle.nif_layout.specs.Earlier.{Env, behind, last_present}
use Rattle.nif_file.specs.Head.{member}

-- the last present field of a name, behind one more
pub last_behind : (name : Name) (f : Field) (at : Node) (E : Env) → last_present name (behind f (Some at) E) ≡ (if bytes_eq name f.name then Some (f, at) else last_present name E)
last_behind name f at E = refl

pub member_behind : (name : Name) (f : Field) (at : Node) (E : Env) → member name (behind f (Some at) E) ≡ (if bytes_eq name f.name then Some at else member name E)
member_behind name f at E = by (bytes_eq name f.name)
  where
    by : (b : Bool) → option_map (λ p. p.1) (if b then Some (f, at) else last_present name E) ≡ (if b then Some at else member name E)
    by true = refl
    by false = refl

-- a function of it
pub of_behind : {A : Type 0} (g : Option Node → A) (name : Name) (f : Field) (at : Node) (E : Env) → g (member name (behind f (Some at) E)) ≡ (if bytes_eq name f.name then g (Some at) else g (member name E))
of_behind {A} g name f at E = ap g (member_behind name f at E) ∙ by (bytes_eq name f.name)
  where
    by : (b : Bool) → g (if b then Some at else member name E) ≡ (if b then g (Some at) else g (member name E))
    by true = refl
    by false = refl

-- what is kept of it, where the name is that of the field
pub kept_behind : {A : Type 0} (g : Option Node → A) (wanted : Name) (name : Name) (f : Field) (at : Node) (E : Env) (old new value : A) → f.name ≡ name → old ≡ g (member wanted E) → value ≡ g (Some at)
    → new ≡ (if bytes_eq wanted name then value else old) → new ≡ g (member wanted (behind f (Some at) E))
kept_behind {A} g wanted name f at E old new value named o v n = n ∙ by (bytes_eq wanted name) (bytes_eq wanted f.name) (ap (bytes_eq wanted) (sym named)) ∙ sym (of_behind g wanted f at E)
  where
    by : (b c : Bool) → b ≡ c → (if b then value else old) ≡ (if c then g (Some at) else g (member wanted E))
    by true true e = v
    by false false e = o
    by true false e = absurd (cc)
    by false true e = absurd (cc)

-- that there is one
pub some_behind : (wanted name : Name) (f : Field) (at : Node) (E : Env) (old : Bool) → f.name ≡ name → old ≡ is_some (member wanted E) → (old || bytes_eq wanted name) ≡ is_some (member wanted (behind f (Some at) E))
some_behind wanted name f at E old named o = by (bytes_eq wanted name) (bytes_eq wanted f.name) (ap (bytes_eq wanted) (sym named)) old o ∙ sym (of_behind is_some wanted f at E)
  where
    by : (b c : Bool) → b ≡ c → (old : Bool) → old ≡ is_some (member wanted E) → (old || b) ≡ (if c then true else is_some (member wanted E))
    by true true e true o = refl
    by true true e false o = refl
    by false false e true o = o
    by false false e false o = o
    by true false e old o = absurd (cc)
    by false true e old o = absurd (cc)

-- A field and its node, where only they say what counts.
pub pair_behind : (g : Field → Node → ℕ) (wanted name : Name) (f : Field) (at : Node) (E : Env) (old new value : ℕ) → f.name ≡ name → old ≡ option_map_or (λ p. g p.0 p.1) (last_present wanted E) 0
    → (bytes_eq wanted f.name ≡ true → value ≡ g f at) → new ≡ (if bytes_eq wanted name then value else old) → new ≡ option_map_or (λ p. g p.0 p.1) (last_present wanted (behind f (Some at) E)) 0
pair_behind g wanted name f at E old new value named o v n = n ∙ by (bytes_eq wanted name) (bytes_eq wanted f.name) (ap (bytes_eq wanted) (sym named)) v
  where
    by : (b c : Bool) → b ≡ c → (c ≡ true → value ≡ g f at) → (if b then value else old) ≡ option_map_or (λ p. g p.0 p.1) (if c then Some (f, at) else last_present wanted E) 0
    by true true e v = v refl
    by false false e v = o
    by true false e v = absurd (cc)
    by false true e v = absurd (cc)

-- The two directions of a comparison of names.
pub turned : (a b : Name) → bytes_eq a b ≡ true → bytes_eq b a ≡ true
turned a b h = let e : a ≡ b = (bytes_eq-Decides a b).0 h in subst (λ (x : Name). bytes_eq b x ≡ true) (sym e) ((bytes_eq-Decides b b).1 refl)
