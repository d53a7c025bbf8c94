-- From the answers of the readers of single members to a header member by member.
use Rattle.std.proofs.Common.{◌≡◌, ℕ, ◌+◌, ◌≤◌, ◌⊎◌, inl, inr, Bool, true, false, Option, Some, None, List, [], ◌∷◌, ◌++◌, drop, length, refl, sym, ◌∙◌, ap, subst, subst₂, arith, append-nil, append_assoc, length-append}
use Rattle.std.specs.Prelude.{slice_get}
use Rattle.nif_base.specs.Node.{Node, Members, End, Here, Absent, text, texts, nodes, nodes_in}
use Rattle.nif_schema.specs.Declaration.{Field}
use Rattle.nif_schema.specs.Schema.{Schema}
use Rattle.nif_layout.specs.Context.{Context}
use Rattle.nif_layout.specs.Earlier.{Env, behind, passed}
use Rattle.nif_layout.specs.Present.{present}
use Rattle.nif_layout.specs.Form.{form_of}
use Rattle.nif_layout.specs.Shape.{FormShape, LineShape}
use Rattle.nif_layout.specs.Members.{Member, no_check}
use Rattle.nif_base.specs.Limits.{most_file_bytes, most_nodes}
use Rattle.nif_layout.specs.Fault.{Fault, Point, Passes}
use Rattle.nif_layout.specs.Fails.{MemberFails, FormShapeFails, LineFails}
use Rattle.nif_layout.specs.PassLaws.{count_in}
use Rattle.nif_decode.specs.Scopes.{joined}
use Rattle.nif_file.specs.Stops.{Stop, of_value}
use Rattle.nif_file.specs.Head.{header_context}
use Rattle.nif_file.specs.Checks.{header_check}
use Rattle.nif_file.specs.Files.{header_line, head_of}
use Rattle.nif_file.specs.FileFails.{HeaderFails, start_of}
use Rattle.nif_file.specs.HeaderParts.{with_members, MemberReads, PartReads}
use Rattle.nif_file.specs.Heads.{IsNext, IsPart}
use Rattle.nif_file.proofs.FieldPlaces.{drop_at}
use Rattle.nif_file.proofs.HeaderSteps.{part_more, part_fails}

abbrev no_fault : Option Fault
no_fault = None

-- the members of one field in one context, and where they fail
abbrev pub OneShape : Schema → Context → Field → Env → Members → Type 0
OneShape S C f E more = LineShape S (λ E. C) 63 None 0 (no_check {Why = Fault}) (f ∷ []) E more

abbrev pub OneFails : Schema → Context → Field → Env → Point → Fault → Type 0
OneFails S C f E at v = LineFails S (λ E. C) 63 None 0 (λ f. f) no_check (f ∷ []) E at v

-- ---- members behind members

pub joined_with : (gots : List (Option Node)) (rest : Members) → joined (with_members gots End) rest ≡ with_members gots rest
joined_with [] rest = refl
joined_with (Some node ∷ gots) rest = ap (Here node) (joined_with gots rest)
joined_with (None ∷ gots) rest = ap Absent (joined_with gots rest)

pub with_one : (gots : List (Option Node)) (got : Option Node) → with_members (gots ++ got ∷ []) End ≡ with_members gots (with_members (got ∷ []) End)
with_one [] got = refl
with_one (Some node ∷ gots) got = ap (Here node) (with_one gots got)
with_one (None ∷ gots) got = ap Absent (with_one gots got)

-- the earlier fields of a part are its members
pub part_env : (S : Schema) (gots : List (Option Node)) (fields : List Field) (E : Env) (at : Point) (left : List Field) (E' : Env) (next : Point) → PartReads S gots fields E at left E' next
    → E' ≡ passed fields (with_members gots End) E
part_env S [] [] E at left E' next r = r.1
part_env S [] (f ∷ fields) E at left E' next r = r.1
part_env S (got ∷ gots) [] E at left E' next r = absurd r
part_env S (Some node ∷ gots) (f ∷ fields) E at left E' next r = part_env S gots fields (behind f (Some node) E) r.0 left E' next r.3
part_env S (None ∷ gots) (f ∷ fields) E at left E' next r = part_env S gots fields (behind f None E) r.0 left E' next r.3

-- ---- one member

pub one_member : (S : Schema) (C : Context) (f : Field) (E : Env) (more : Members) → C ≡ header_context S E → OneShape S C f E more
    → (got : Option Node) × (more ≡ with_members (got ∷ []) End) × IsNext S E f got
one_member S C f E more same h =
    let moved : OneShape S (header_context S E) f E more = subst (λ (c : Context). OneShape S c f E more) same h in
    by (present S (header_context S E) 0 E f) refl more moved
  where
    V : Node → Type 0
    V node = FormShape S (header_context S E) 63 (form_of S (header_context S E) None 0 E f) node

    by : (b : Bool) → present S (header_context S E) 0 E f ≡ b → (more : Members) → Member b V (λ got rest. (no_fault ≡ None) × (rest ≡ End)) more
        → (got : Option Node) × (more ≡ with_members (got ∷ []) End) × IsNext S E f got
    by true e more m = (Some m.0, m.2 ∙ ap (Here m.0) m.4.1, (e, m.3))
    by false e more m = (None, m.1 ∙ ap Absent m.2.1, e)

-- It is read where its bytes and nodes are passed.
pub member_reads : (S : Schema) (E : Env) (f : Field) (got : Option Node) (at next : Point) → IsNext S E f got
    → Passes (texts (header_context S E).order (with_members (got ∷ []) End)) (nodes_in (with_members (got ∷ []) End)) at next → MemberReads S E f got at next
member_reads S E f (Some node) at next h p =
    let order = (header_context S E).order in
    let t : text order node ++ [] ≡ text order node = append-nil (text order node) in
    let n : nodes node + 0 ≡ nodes node = omega arith in
    (h.0, h.1, subst₂ (λ (bytes : List ℕ) (count : ℕ). Passes bytes count at next) t n p)
member_reads S E f None at next h p =
    let c = count_in [] 0 at next p in
    let place : next.place ≡ at.place = omega (arith, c.1.place) in
    let number : next.nodes ≡ at.nodes + 1 = omega (arith, c.1.nodes) in
    let left : next.left ≡ at.left = sym c.1.here in
    (h, c.0, λ i. record { nodes = number i; place = place i; left = left i })

-- A field whose member fails makes the line fail.
pub member_fails : (S : Schema) (total : ℕ) (C : Context) (f : Field) (left : List Field) (E : Env) (at : Point) (v : Fault) → C ≡ header_context S E → OneFails S C f E at v
    → LineFails S (header_context S) 63 None 0 (of_value total) (header_check S) (f ∷ left) E at (of_value total v)
member_fails S total C f left E at v same h =
    let moved : OneFails S (header_context S E) f E at v = subst (λ (c : Context). OneFails S c f E at v) same h in
    by (present S (header_context S E) 0 E f) moved
  where
    V : Node → Type 0
    V node = FormShape S (header_context S E) 63 (form_of S (header_context S E) None 0 E f) node

    F : Point → Fault → Type 0
    F at v = FormShapeFails S (header_context S E) 63 (form_of S (header_context S E) None 0 E f) at v

    Rest : Option Node → Point → Stop → Type 0
    Rest got next w = (header_check S E f got ≡ Some w) ⊎ ((header_check S E f got ≡ None) × LineFails S (header_context S) 63 None 0 (of_value total) (header_check S) left (behind f got E) next w)

    nothing : (w : Fault) → ((no_fault ≡ Some w) ⊎ ((no_fault ≡ None) × ⊥)) → ⊥
    nothing w (inl e) = cc
    nothing w (inr e) = e.1

    by : (b : Bool) → MemberFails (λ f. f) (header_context S E).order b V F (λ got next w. (no_fault ≡ Some w) ⊎ ((no_fault ≡ None) × ⊥)) at v
        → MemberFails (of_value total) (header_context S E).order b V F Rest at (of_value total v)
    by true (inl bad) = inl (bad.0, ap (of_value total) bad.1, bad.2)
    by true (inr bad) = absurd (nothing v bad.4)
    by false (inl bad) = inl (bad.0, ap (of_value total) bad.1)
    by false (inr bad) = absurd (nothing v bad.1)

-- A member that is read and refused makes the line fail.
pub member_refused : (S : Schema) (total : ℕ) (f : Field) (left : List Field) (E : Env) (got : Option Node) (at next : Point) (stop : Stop) → MemberReads S E f got at next → header_check S E f got ≡ Some stop
    → LineFails S (header_context S) 63 None 0 (of_value total) (header_check S) (f ∷ left) E at stop
member_refused S total f left E (Some node) at next stop m refused = rw m.0 (inr (node, next, m.1, m.2, inl refused))
member_refused S total f left E None at next stop m refused =
    let there : header_check S E f None ≡ Some stop = refused in
    rw m.0 (inr (m.1, inl there))

-- ---- a part of the header

module _ (S : Schema) where
  behind_point : (bytes more rest : List ℕ) → start_of ((bytes ++ more) ++ rest) ≡ start_of (bytes ++ (more ++ rest))
  behind_point bytes more rest = ap start_of (append_assoc bytes more rest)

  -- the points before and behind one member
  abbrev pub point_at : ℕ → List ℕ → List ℕ → Point
  point_at counted bytes rest = record { nodes = counted; place = length bytes; left = rest }

  pub passes_more : (bytes more : List ℕ) (counted count : ℕ) (rest : List ℕ) → length bytes + length more ≤ most_file_bytes → counted + count ≤ most_nodes
      → Passes more count (point_at counted bytes (more ++ rest)) (point_at (counted + count) (bytes ++ more) rest)
  passes_more bytes more counted count rest few counted-few =
      let l : length (bytes ++ more) ≡ length bytes + length more = length-append bytes more in
      record { here = refl; place = l; nodes = refl; within = omega arith; counted = counted-few }

  -- one member more
  pub part_step : (k : ℕ) (held : Members) (bytes more : List ℕ) (counted now : ℕ) (f : Field) (got : Option Node) → IsPart S k held bytes counted → slice_get (header_line S) k ≡ Some f
      → IsNext S (head_of S held) f got → more ≡ texts (header_context S (head_of S held)).order (with_members (got ∷ []) End) → now ≡ counted + nodes_in (with_members (got ∷ []) End)
      → length bytes + length more ≤ most_file_bytes → now ≤ most_nodes → header_check S (head_of S held) f got ≡ None
      → IsPart S (k + 1) (joined held (with_members (got ∷ []) End)) (bytes ++ more) now × (head_of S (joined held (with_members (got ∷ []) End)) ≡ behind f got (head_of S held))
  part_step k held bytes more counted now f got p at next text count few many fine = (record { gots = p.gots ++ got ∷ []; is = is; reads = reads }, env)
    where
      one : Members
      one = with_members (got ∷ []) End

      E : Env
      E = head_of S held

      is : joined held one ≡ with_members (p.gots ++ got ∷ []) End
      is = ap (λ m. joined m one) p.is ∙ joined_with p.gots one ∙ sym (with_one p.gots got)

      here : (rest : List ℕ) → MemberReads S E f got (point_at counted bytes (more ++ rest)) (point_at now (bytes ++ more) rest)
      here rest =
          let most : counted + nodes_in one ≤ most_nodes = omega arith in
          let passes : Passes more (nodes_in one) (point_at counted bytes (more ++ rest)) (point_at (counted + nodes_in one) (bytes ++ more) rest) = passes_more bytes more counted (nodes_in one) rest few most in
          let moved : Passes more (nodes_in one) (point_at counted bytes (more ++ rest)) (point_at now (bytes ++ more) rest) = subst (λ (n : ℕ). Passes more (nodes_in one) (point_at counted bytes (more ++ rest)) (point_at n (bytes ++ more) rest)) (sym count) passes in
          member_reads S E f got (point_at counted bytes (more ++ rest)) (point_at now (bytes ++ more) rest) next
          (subst (λ (t : List ℕ). Passes t (nodes_in one) (point_at counted bytes (more ++ rest)) (point_at now (bytes ++ more) rest)) text moved)

      whole : (rest : List ℕ) → PartReads S (p.gots ++ got ∷ []) (header_line S) [] (start_of (bytes ++ (more ++ rest))) (drop (k + 1) (header_line S)) (behind f got E) (point_at now (bytes ++ more) rest)
      whole rest =
          part_more S p.gots (header_line S) [] (start_of (bytes ++ (more ++ rest))) f (drop (k + 1) (header_line S)) E (point_at counted bytes (more ++ rest)) (point_at now (bytes ++ more) rest) got
          (subst (λ (fs : List Field). PartReads S p.gots (header_line S) [] (start_of (bytes ++ (more ++ rest))) fs E (point_at counted bytes (more ++ rest))) (drop_at (header_line S) k f at) (p.reads (more ++ rest)))
          (here rest) fine

      env : head_of S (joined held one) ≡ behind f got E
      env =
          sym (part_env S (p.gots ++ got ∷ []) (header_line S) [] _ _ (behind f got E) _ (whole []) ∙ ap (λ m. passed (header_line S) m []) (sym is))

      reads : (rest : List ℕ) → PartReads S (p.gots ++ got ∷ []) (header_line S) [] (start_of ((bytes ++ more) ++ rest)) (drop (k + 1) (header_line S)) (head_of S (joined held one)) (point_at now (bytes ++ more) rest)
      reads rest =
          let a : PartReads S (p.gots ++ got ∷ []) (header_line S) [] (start_of ((bytes ++ more) ++ rest)) (drop (k + 1) (header_line S)) (behind f got E) (point_at now (bytes ++ more) rest) =
          subst (λ (z : Point). PartReads S (p.gots ++ got ∷ []) (header_line S) [] z (drop (k + 1) (header_line S)) (behind f got E) (point_at now (bytes ++ more) rest)) (sym (behind_point bytes more rest)) (whole rest) in
          subst (λ (x : Env). PartReads S (p.gots ++ got ∷ []) (header_line S) [] (start_of ((bytes ++ more) ++ rest)) (drop (k + 1) (header_line S)) x (point_at now (bytes ++ more) rest)) (sym env) a

  -- the next member fails behind a part
  pub part_stops : (k : ℕ) (held : Members) (bytes rest : List ℕ) (counted : ℕ) (f : Field) (stop : Stop) → IsPart S k held bytes counted → slice_get (header_line S) k ≡ Some f
      → LineFails S (header_context S) 63 None 0 (of_value (length (bytes ++ rest))) (header_check S) (f ∷ drop (k + 1) (header_line S)) (head_of S held) (point_at counted bytes rest) stop
      → HeaderFails S (length (bytes ++ rest)) (start_of (bytes ++ rest)) stop
  part_stops k held bytes rest counted f stop p at bad =
      let moved : LineFails S (header_context S) 63 None 0 (of_value (length (bytes ++ rest))) (header_check S) (drop k (header_line S)) (head_of S held) (point_at counted bytes rest) stop =
      subst (λ (fs : List Field). LineFails S (header_context S) 63 None 0 (of_value (length (bytes ++ rest))) (header_check S) fs (head_of S held) (point_at counted bytes rest) stop) (sym (drop_at (header_line S) k f at)) bad in
      part_fails S (length (bytes ++ rest)) p.gots (header_line S) [] (start_of (bytes ++ rest)) (drop k (header_line S)) (head_of S held) (point_at counted bytes rest) stop (p.reads rest) moved
