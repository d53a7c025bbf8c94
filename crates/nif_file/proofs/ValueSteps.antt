-- Values and lines of fields as parts of a file, by the laws of values.
use Rattle.std.proofs.Common.{◌≡◌, ℕ, zero, suc, ◌+◌, ◌<◌, ◌≤◌, ◌⊎◌, inl, inr, Bool, true, false, Option, Some, None, option_and_then, List, [], ◌∷◌, ◌++◌, length, drop, slice_get, if◌then◌else◌, refl, sym, ◌∙◌, ap, subst, arith, lit<}
use Rattle.std.specs.Option.{option_map_or}
use Rattle.std.proofs.lemmas.Option.{slice_get_within}
use Rattle.nif_base.specs.Node.{text, nodes, nodes_in}
use Rattle.nif_schema.specs.Declaration.{Field, Declaration, is_block}
use Rattle.nif_schema.specs.Schema.{Schema, find, find_block, has_block, line}
use Rattle.nif_schema.specs.Uses.{is_generic, is_struct}
use Rattle.nif_schema.specs.declared.decls.What.{What}
use Rattle.nif_schema.specs.declared.decls.What.TheVariants.{Basic, Stored, Struct, Block}
use Rattle.nif_layout.specs.Context.{Context}
use Rattle.nif_layout.specs.Earlier.{Env}
use Rattle.nif_layout.specs.Kind.{kind_of}
use Rattle.nif_layout.specs.Form.{Form, One}
use Rattle.nif_layout.specs.Leaf.{AreBytes}
use Rattle.nif_base.specs.Limits.{most_file_bytes, most_nodes}
use Rattle.nif_layout.specs.Fault.{Fault, Point, Passes, Reads}
use Rattle.nif_layout.specs.Members.{Check}
use Rattle.nif_layout.specs.Shape.{Shape, LineShape}
use Rattle.nif_layout.specs.Fails.{Lifted, Fails, LineFails}
use Rattle.nif_layout.specs.Laws.{Fits, AllFit, IsOpenType, HasTemplate, OneForm, OneLine, ExactlyOne, at_place, IsPlace, Stands, SpelledOrFails, LineSpelledOrFails, line_text}
use Rattle.nif_layout.specs.PassLaws.{one_point}
use Rattle.nif_file.specs.Stops.{Stop, of_value}
use Rattle.nif_file.proofs.Walks.{Within, Sound, within_behind}

-- ---- any point is a place in some bytes

abbrev padded : ℕ → List ℕ → List ℕ
padded zero s = s
padded (suc p) s = 0 ∷ padded p s

drop_padded : (p : ℕ) (s : List ℕ) → drop p (padded p s) ≡ s
drop_padded zero s = refl
drop_padded (suc p) s = drop_padded p s

bytes_padded : (p : ℕ) (s : List ℕ) → AreBytes s → AreBytes (padded p s)
bytes_padded zero s h = h
bytes_padded (suc p) s h = (lit< tt, bytes_padded p s h)

long_padded : (p : ℕ) (s : List ℕ) → p ≤ length (padded p s)
long_padded zero s = omega arith
long_padded (suc p) s = let h = long_padded p s in omega arith

place_of : (at : Point) → at_place at.nodes (padded at.place at.left) at.place ≡ at
place_of at = let e = drop_padded at.place at.left in λ i. record { nodes = at.nodes; place = at.place; left = e i }

is_place : (at : Point) → Within at → IsPlace (padded at.place at.left) at.place
is_place at w = record { are_bytes = bytes_padded at.place at.left w.bytes; within = w.place; inside = long_padded at.place at.left }

stands : (at next : Point) (s : List ℕ) (n : ℕ) → Passes s n at next → Stands (padded at.place at.left) at.place at.nodes s n
stands at next s n p =
    let pl : next.place ≡ at.place + length s = p.place in
    let no : next.nodes ≡ at.nodes + n = p.nodes in
    let w : next.place ≤ most_file_bytes = p.within in
    let c : next.nodes ≤ most_nodes = p.counted in
    record { rest = next.left; here = drop_padded at.place at.left ∙ p.here; within = omega arith; counted = omega arith }

passes : (at : Point) (s : List ℕ) (n : ℕ) → Stands (padded at.place at.left) at.place at.nodes s n → (next : Point) × Passes s n at next
passes at s n h = (
  record { nodes = at.nodes + n; place = at.place + length s; left = h.rest },
  record { here = sym (drop_padded at.place at.left) ∙ h.here; place = refl; nodes = refl; within = h.within; counted = h.counted },
)

-- ---- a part by a law

module _ {X : Type 0} (V : X → Type 0) (T : X → List ℕ) (N : X → ℕ) (F : Point → Stop → Type 0) where
  abbrev Read : X → Point → Point → Type 0
  Read x at next = V x × Passes (T x) (N x) at next

  abbrev pub Law : Type 0
  Law = (n p : ℕ) (bytes : List ℕ) → IsPlace bytes p → n ≤ most_nodes
      → ExactlyOne ((x : X) × V x × Stands bytes p n (T x) (N x)) (F (at_place n bytes p))

  abbrev pub Cancels : Type 0
  Cancels = (a b : X) (x y : List ℕ) → V a → V b → T a ++ x ≡ T b ++ y → (a ≡ b) × (x ≡ y)

  -- the law at a point
  abbrev Here : Point → Type 0
  Here at = ExactlyOne ((x : X) × V x × Stands (padded at.place at.left) at.place at.nodes (T x) (N x)) (F at)

  here : Law → (at : Point) → Within at → Here at
  here law at w =
      subst (λ (q : Point). ExactlyOne ((x : X) × V x × Stands (padded at.place at.left) at.place at.nodes (T x) (N x)) (F q)) (place_of at)
      (law at.nodes at.place (padded at.place at.left) (is_place at w) w.nodes)

  excludes_by : (x : X) (at next : Point) (s : Stop) → Read x at next → F at s → Here at → ⊥
  excludes_by x at next s r bad (inl h) = h.1 s bad
  excludes_by x at next s r bad (inr h) = h.0 (x, r.0, stands at next (T x) (N x) r.1)

  one_by : (at : Point) (s t : Stop) → F at s → F at t → Here at → s ≡ t
  one_by at s t a b (inl h) = absurd (h.1 s a)
  one_by at s t a b (inr h) = h.1.2 s a ∙ sym (h.1.2 t b)

  decides_by : (at : Point) → Here at → ((x : X) × (next : Point) × Read x at next) ⊎ ((s : Stop) × F at s)
  decides_by at (inl h) = let p = passes at (T h.0.0) (N h.0.0) h.0.2 in inl (h.0.0, p.0, (h.0.1, p.1))
  decides_by at (inr h) = inr (h.1.0, h.1.1)

  same_by : Cancels → (x y : X) (at p q : Point) → Read x at p → Read y at q → (x ≡ y) × (p ≡ q)
  same_by cancels x y at p q r t =
      let e = cancels x y p.left q.left r.0 t.0 (sym r.1.here ∙ t.1.here) in
      let moved : Passes (T y) (N y) at p = subst (λ (z : X). Passes (T z) (N z) at p) e.0 r.1 in
      (e.0, one_point (T y) (N y) at p q moved t.1)

  pub by_law : Law → Cancels → Sound Read F
  by_law law cancels = record {
    stays = λ x at next w r. within_behind (T x) (N x) at next w r.1;
    excludes = λ x at next s w r bad. excludes_by x at next s r bad (here law at w);
    same = λ x y at p q w r t. same_by cancels x y at p q r t;
    one = λ at s t w a b. one_by at s t a b (here law at w);
    decides = λ at w. decides_by at (here law at w);
  }

-- ---- values

-- a law of faults of values, as one of faults of the file
lifted : (total : ℕ) (P : Type 0) (F : Point → Fault → Type 0) (at : Point) → ExactlyOne P (F at) → ExactlyOne P (Lifted (of_value total) F at)
lifted total P F at (inl h) = inl (h.0, λ s bad. h.1 bad.0 bad.2)
lifted total P F at (inr h) =
    let r = h.1 in
    inr (h.0, (of_value total r.0, (r.0, refl, r.1), λ s bad. bad.1 ∙ ap (of_value total) (r.2 bad.0 bad.2)))

-- the laws that the parts rest on
abbrev pub Spelled : Type 0
Spelled = (S : Schema) (C : Context) (number : ℕ) (template : Option ℕ) (arg : ℕ) → Fits C → IsOpenType S number → HasTemplate S number template → SpelledOrFails S C number template arg

abbrev pub OneValue : Type 0
OneValue = (S : Schema) (C : Context) (form : Form) → Fits C → OneForm S C form

abbrev pub LineSpelled : Type 0
LineSpelled = (S : Schema) (at : Env → Context) (number : ℕ) (template : Option ℕ) (arg : ℕ) (by_fault : Fault → Stop) (check : Check Stop) → AllFit at → IsOpenType S number → HasTemplate S number template
    → LineSpelledOrFails S at template arg by_fault check (line S number)

abbrev pub OneOfLine : Type 0
OneOfLine = (S : Schema) (at : Env → Context) (template : Option ℕ) (arg : ℕ) (check : Check Stop) (fields : List Field) (E : Env) → AllFit at → OneLine S at template arg check fields E

pub value_sound : Spelled → OneValue → (S : Schema) (total : ℕ) (C : Context) (d number : ℕ) → Fits C → IsOpenType S number → HasTemplate S number None
    → Sound (λ value at next. Shape S C d (kind_of S C number None 0) value × Reads C.order value at next) (Lifted (of_value total) (Fails S C d (kind_of S C number None 0)))
value_sound spelled one S total C d number fits opens has =
    by_law (Shape S C d (kind_of S C number None 0)) (text C.order) nodes (Lifted (of_value total) (Fails S C d (kind_of S C number None 0)))
    (λ n p bytes place few. lifted total _ (Fails S C d (kind_of S C number None 0)) (at_place n bytes p) (spelled S C number None 0 fits opens has d n p bytes place))
    (λ a b x y ha hb e. one S C (One (kind_of S C number None 0)) fits d d a b x y ha hb e)

pub line_sound : LineSpelled → OneOfLine → (S : Schema) (total : ℕ) (at : Env → Context) (d number : ℕ) (check : Check Stop) → AllFit at → IsOpenType S number → HasTemplate S number None
    → Sound (λ members here next. LineShape S at d None 0 check (line S number) [] members × Passes (line_text at (line S number) [] members) (nodes_in members) here next)
    (LineFails S at d None 0 (of_value total) check (line S number) [])
line_sound spelled one S total at d number check fits opens has =
    by_law (LineShape S at d None 0 check (line S number) []) (line_text at (line S number) []) nodes_in (LineFails S at d None 0 (of_value total) check (line S number) [])
    (λ n p bytes place few. spelled S at number None 0 (of_value total) check fits opens has d n p bytes place few)
    (λ a b x y ha hb e. one S at None 0 check (line S number) [] fits d d a b x y ha hb e)

-- ---- open types that need no template

found_by : (b : Bool) (n kind : ℕ) → (if b then Some n else None) ≡ Some kind → (b ≡ true) × (n ≡ kind)
found_by true n kind e = (refl, cc)
found_by false n kind e = absurd (cc)

block_by : (S : Schema) (o : Option ℕ) (kind : ℕ) → option_and_then (λ number. if has_block S number then Some number else None) o ≡ Some kind → has_block S kind ≡ true
block_by S None kind e = absurd (cc)
block_by S (Some n) kind e = let r = found_by (has_block S n) n kind e in subst (λ (m : ℕ). has_block S m ≡ true) r.1 r.0

no_struct : (what : What) → is_block what ≡ true → is_struct what ≡ false
no_struct (Block parent is_abstract) e = refl
no_struct (Basic own) e = absurd (cc)
no_struct (Stored storage members) e = absurd (cc)
no_struct Struct e = absurd (cc)

block_plain : (S : Schema) (kind : ℕ) (o : Option Declaration) → slice_get S kind ≡ o → option_map_or (λ d. is_block d.what) o false ≡ true
    → (kind < length S) × (is_generic S kind ≡ false)
block_plain S kind None e h = absurd (cc)
block_plain S kind (Some d) e h =
    (slice_get_within S kind d e, plain_by S kind d e (no_struct d.what h))
  where
    plain_by : (S : Schema) (kind : ℕ) (d : Declaration) → slice_get S kind ≡ Some d → is_struct d.what ≡ false → is_generic S kind ≡ false
    plain_by S kind d e other = rw (e, other) refl

pub block_open : (S : Schema) (kind : ℕ) (name : List ℕ) → find_block S name ≡ Some kind → (kind < length S) × (is_generic S kind ≡ false)
block_open S kind name found =
    let has = block_by S (find S name) kind found in block_plain S kind (slice_get S kind) refl has

pub no_template : (S : Schema) (number : ℕ) → is_generic S number ≡ false → HasTemplate S number None
no_template S number plain generic = let no = sym plain ∙ generic in absurd (cc)
