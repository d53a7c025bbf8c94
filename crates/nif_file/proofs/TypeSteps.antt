-- The type of a block is read, or it fails.
use Rattle.std.proofs.Common.{◌≡◌, ℕ, ◌+◌, ◌-◌, ◌^◌, ◌<◌, ◌≤◌, ◌⊎◌, inl, inr, Bool, true, false, Option, Some, None, IfSome, [], ◌++◌, length, take, drop, slice_get, refl, sym, ◌∙◌, ap, subst, arith, ltb, le-ltb, ltb-true, ltb-false, length-append, true≢false, append_assoc, length-take-le}
use Rattle.std.proofs.Math.Seq.{take-add}
use Rattle.std.proofs.lemmas.List.{length-drop}
use Rattle.nif_base.specs.declared.orders.Order.{Order}
use Rattle.nif_base.specs.Node.{number, is_little}
use Rattle.nif_schema.specs.Declaration.{Name}
use Rattle.nif_schema.specs.Schema.{Schema, find_block}
use Rattle.nif_schema.specs.Reasons.{IsOpen, IsReason}
use Rattle.nif_schema.specs.declared.faults.Closed.{Closed}
use Rattle.nif_layout.specs.Earlier.{Env}
use Rattle.nif_base.specs.Limits.{most_file_bytes}
use Rattle.nif_layout.specs.Fault.{Point, Passes}
use Rattle.nif_layout.specs.LeafFault.{number_at}
use Rattle.nif_layout.specs.PassLaws.{one_point}
use Rattle.nif_layout.specs.ByteLaws.{length_number, number_front, same_front}
use Rattle.nif_layout.specs.ByteLaws.{number_again}
use Rattle.nif_layout.specs.ByteLaws.{number_taken}
use Rattle.nif_layout.specs.RoomLaws.{Enough, enough, skip, passes_skip}
use Rattle.nif_file.specs.declared.faults.FileFault.TheVariants as file
use Rattle.nif_file.specs.Stops.{Stop, of_value}
use Rattle.nif_file.specs.Head.{order_in, type_names, index_word, type_place}
use Rattle.nif_file.specs.Files.{name_of, name_where, sized_string, is_abstract, IsBlockType}
use Rattle.nif_file.specs.FileFails.{PartFails, sized_needs, KindRefused, NameRefused, EntryRefused, NameFails, TypeFailsBy, TypeFails, TypeReads}
use Rattle.nif_file.proofs.Walks.{Within, Sound, within_behind, none_some, some_same}
use Rattle.nif_file.proofs.Pieces.{passes_none, part_excludes, part_one}
use Rattle.nif_file.proofs.ReasonCases.{not_open, one_reason, open_or_closed}
use Rattle.nif_file.specs.NameLaws.{block_name}

-- ---- names of types

-- ---- a type is refused, or it is one of blocks

module _ (S : Schema) (k known : ℕ) where
  kind_excludes : (kind : ℕ) (s : Stop) → is_abstract S kind ≡ false → IsOpen S kind → KindRefused S k kind known s → ⊥
  kind_excludes kind s concrete opens (inl bad) = true≢false (sym bad.0 ∙ concrete)
  kind_excludes kind s concrete opens (inr bad) = not_open S kind bad.1 bad.2 opens

  kind_one : (kind : ℕ) (s t : Stop) → KindRefused S k kind known s → KindRefused S k kind known t → s ≡ t
  kind_one kind s t (inl a) (inl b) = a.1 ∙ sym b.1
  kind_one kind s t (inl a) (inr b) = absurd (true≢false (sym a.0 ∙ b.0))
  kind_one kind s t (inr a) (inl b) = absurd (true≢false (sym b.0 ∙ a.0))
  kind_one kind s t (inr a) (inr b) =
      let e : a.1 ≡ b.1 = one_reason S kind a.1 b.1 a.2 b.2 in
      let f : Closed → Stop = λ reason. record { fault = file.ClosedType k reason; known = known } in
      a.3 ∙ ap f e ∙ sym b.3

  kind_decides : (kind : ℕ) → ((is_abstract S kind ≡ false) × IsOpen S kind) ⊎ ((s : Stop) × KindRefused S k kind known s)
  kind_decides kind = by (is_abstract S kind) refl (open_or_closed S kind)
    where
      by : (b : Bool) → is_abstract S kind ≡ b → (IsOpen S kind ⊎ ((reason : Closed) × IsReason S kind (Some reason)))
          → ((is_abstract S kind ≡ false) × IsOpen S kind) ⊎ ((s : Stop) × KindRefused S k kind known s)
      by true e o = inr (record { fault = file.AbstractType k; known = known }, inl (e, refl))
      by false e (inl opens) = inl (e, opens)
      by false e (inr r) = inr (record { fault = file.ClosedType k r.0; known = known }, inr (e, r.0, r.1, refl))

  pub name_excludes : (kind : ℕ) (name : Name) (s : Stop) → IsBlockType S kind → name_of S kind ≡ name → NameRefused S k name known s → ⊥
  name_excludes kind name s is same (inl bad) =
      let found : find_block S name ≡ Some kind = subst (λ (n : Name). find_block S n ≡ Some kind) same is.named in
      none_some (find_block S name) kind bad.0 found
  name_excludes kind name s is same (inr bad) =
      let found : find_block S name ≡ Some kind = subst (λ (n : Name). find_block S n ≡ Some kind) same is.named in
      let e : bad.0 ≡ kind = some_same (find_block S name) bad.0 kind bad.1 found in
      kind_excludes kind s is.concrete is.opens (subst (λ (n : ℕ). KindRefused S k n known s) e bad.2)

  pub name_one : (name : Name) (s t : Stop) → NameRefused S k name known s → NameRefused S k name known t → s ≡ t
  name_one name s t (inl a) (inl b) = a.1 ∙ sym b.1
  name_one name s t (inl a) (inr b) = absurd (none_some (find_block S name) b.0 a.0 b.1)
  name_one name s t (inr a) (inl b) = absurd (none_some (find_block S name) a.0 b.0 a.1)
  name_one name s t (inr a) (inr b) =
      let e : a.0 ≡ b.0 = some_same (find_block S name) a.0 b.0 a.1 b.1 in
      kind_one b.0 s t (subst (λ (n : ℕ). KindRefused S k n known s) e a.2) b.2

  pub name_decides : (name : Name) → ((kind : ℕ) × IsBlockType S kind × (name_of S kind ≡ name)) ⊎ ((s : Stop) × NameRefused S k name known s)
  name_decides name = by (find_block S name) refl
    where
      kinds : (kind : ℕ) → find_block S name ≡ Some kind → (((is_abstract S kind ≡ false) × IsOpen S kind) ⊎ ((s : Stop) × KindRefused S k kind known s))
          → ((kind : ℕ) × IsBlockType S kind × (name_of S kind ≡ name)) ⊎ ((s : Stop) × NameRefused S k name known s)
      kinds kind e (inl r) =
          let same = block_name S name kind e in
          let named : find_block S (name_of S kind) ≡ Some kind = subst (λ (n : Name). find_block S n ≡ Some kind) (sym same) e in
          inl (kind, record { named = named; concrete = r.0; opens = r.1 }, same)
      kinds kind e (inr r) = inr (r.0, inr (kind, e, r.1))

      by : (o : Option ℕ) → find_block S name ≡ o → ((kind : ℕ) × IsBlockType S kind × (name_of S kind ≡ name)) ⊎ ((s : Stop) × NameRefused S k name known s)
      by None e = inr (record { fault = file.UnknownType k name; known = known }, inl (e, refl))
      by (Some kind) e = kinds kind e (kind_decides kind)

-- types of one name are one
same_kind : (S : Schema) (a b : ℕ) → IsBlockType S a → IsBlockType S b → name_of S a ≡ name_of S b → a ≡ b
same_kind S a b ha hb e =
    let found : find_block S (name_of S b) ≡ Some a = subst (λ (n : Name). find_block S n ≡ Some a) e ha.named in
    some_same (find_block S (name_of S b)) a b found hb.named

-- ---- a sized string

length_sized : (order : Order) (name : Name) → length (sized_string order name) ≡ 4 + length name
length_sized order name =
    let l : length (number (is_little order) 4 (length name)) ≡ 4 = length_number (is_little order) 4 (length name) in
    let a = length-append (number (is_little order) 4 (length name)) name in
    omega arith

-- its length has 32 bits
short_name : (order : Order) (name : Name) (n : ℕ) (at next : Point) → Passes (sized_string order name) n at next → length name < 256 ^ 4
short_name order name n at next p =
    let l = length_sized order name in
    let pl : next.place ≡ at.place + length (sized_string order name) = p.place in
    let w : next.place ≤ most_file_bytes = p.within in
    omega arith

front : (order : Order) (name : Name) (n : ℕ) (at next : Point) → Passes (sized_string order name) n at next
    → at.left ≡ number (is_little order) 4 (length name) ++ (name ++ next.left)
front order name n at next p = p.here ∙ append_assoc (number (is_little order) 4 (length name)) name next.left

one_name : (order : Order) (a b : Name) (n : ℕ) (at p q : Point) → Passes (sized_string order a) n at p → Passes (sized_string order b) n at q → a ≡ b
one_name order a b n at p q ha hb =
    let e = sym (front order a n at p ha) ∙ front order b n at q hb in
    let r = number_front (is_little order) 4 (length a) (length b) (a ++ p.left) (b ++ q.left) (short_name order a n at p ha) (short_name order b n at q hb) e in
    (same_front a b p.left q.left r.0 r.1).0

needs : (order : Order) (name : Name) (n : ℕ) (at next : Point) → Passes (sized_string order name) n at next → sized_needs order at.left ≡ length (sized_string order name)
needs order name n at next p =
    let l = length_sized order name in
    let len : length at.left ≡ length (sized_string order name) + length next.left = ap length p.here ∙ length-append (sized_string order name) next.left in
    let long : ltb (length at.left) 4 ≡ false = le-ltb (length at.left) 4 (omega arith) in
    let v : number_at (is_little order) 4 at.left ≡ length name =
    ap (λ s. number_at (is_little order) 4 s) (front order name n at next p) ∙ number_again (is_little order) 4 (length name) (name ++ next.left) (short_name order name n at next p) in
    let e : sized_needs order at.left ≡ 4 + number_at (is_little order) 4 at.left = rw long refl in
    e ∙ ap (λ m. 4 + m) v ∙ sym l

-- where its bytes are there, it is read
sized_read : (order : Order) (at : Point) → Within at → (b : Bool) → ltb (length at.left) 4 ≡ b → sized_needs order at.left ≤ length at.left → at.place + sized_needs order at.left ≤ most_file_bytes
    → (name : Name) × (next : Point) × Passes (sized_string order name) 0 at next
sized_read order at w true short there within =
    let lt = ltb-true (length at.left) 4 short in
    let e : sized_needs order at.left ≡ 4 = rw short refl in
    absurd (omega arith)
sized_read order at w false long there within =
    let le = ltb-false (length at.left) 4 long in
    let little = is_little order in
    let n = number_at little 4 at.left in
    let e : sized_needs order at.left ≡ 4 + n = rw long refl in
    let t = number_taken little 4 at.left w.bytes (omega arith) in
    let name = take n (drop 4 at.left) in
    let dropped : length (drop 4 at.left) ≡ length at.left - 4 = length-drop 4 at.left in
    let len : length name ≡ n = length-take-le n (drop 4 at.left) (omega arith) in
    let spelled : sized_string order name ≡ take (4 + n) at.left =
    ap (λ m. number little 4 m ++ name) len ∙ ap (λ s. s ++ name) t.0 ∙ sym (take-add 4 n at.left) in
    (name, skip (4 + n) at, passes_skip (4 + n) at (sized_string order name) spelled (omega arith) (omega arith) w.nodes)

-- ---- the step

pub type_sound : (S : Schema) (total : ℕ) (E : Env) (k : ℕ) → Sound (TypeReads S E k) (TypeFails S total E k)
type_sound S total E k = by (index_word E k)
  where
    R : Option ℕ → ℕ → Point → Point → Type 0
    R o kind at next =
        IsBlockType S kind × IfSome o (λ word. slice_get (type_names E) (type_place word) ≡ Some (name_of S kind)) × Passes (name_where o (order_in E) (name_of S kind)) 0 at next

    by : (o : Option ℕ) → Sound (R o) (TypeFailsBy o S total E k)
    by (Some word) = record { stays = λ kind at next w r. within_behind [] 0 at next w r.2; excludes = excludes; same = same; one = one; decides = decides }
      where
        entry : Option Name
        entry = slice_get (type_names E) (type_place word)

        excludes : (kind : ℕ) (at next : Point) (s : Stop) → Within at → R (Some word) kind at next → EntryRefused S E k word at s → ⊥
        excludes kind at next s w r (inl bad) = none_some entry (name_of S kind) bad.0 r.1
        excludes kind at next s w r (inr bad) =
            name_excludes S k at.place kind bad.0 s r.0 (some_same entry (name_of S kind) bad.0 r.1 bad.1) bad.2

        same : (a b : ℕ) (at p q : Point) → Within at → R (Some word) a at p → R (Some word) b at q → (a ≡ b) × (p ≡ q)
        same a b at p q w r t =
            (same_kind S a b r.0 t.0 (some_same entry (name_of S a) (name_of S b) r.1 t.1), one_point [] 0 at p q r.2 t.2)

        one : (at : Point) (s t : Stop) → Within at → EntryRefused S E k word at s → EntryRefused S E k word at t → s ≡ t
        one at s t w (inl a) (inl b) = a.1 ∙ sym b.1
        one at s t w (inl a) (inr b) = absurd (none_some entry b.0 a.0 b.1)
        one at s t w (inr a) (inl b) = absurd (none_some entry a.0 b.0 a.1)
        one at s t w (inr a) (inr b) =
            let e : a.0 ≡ b.0 = some_same entry a.0 b.0 a.1 b.1 in
            name_one S k at.place b.0 s t (subst (λ (n : Name). NameRefused S k n at.place s) e a.2) b.2

        decides : (at : Point) → Within at → ((kind : ℕ) × (next : Point) × R (Some word) kind at next) ⊎ ((s : Stop) × EntryRefused S E k word at s)
        decides at w = found entry refl
          where
            named : (name : Name) → entry ≡ Some name → (((kind : ℕ) × IsBlockType S kind × (name_of S kind ≡ name)) ⊎ ((s : Stop) × NameRefused S k name at.place s))
                → ((kind : ℕ) × (next : Point) × R (Some word) kind at next) ⊎ ((s : Stop) × EntryRefused S E k word at s)
            named name e (inl r) = inl (r.0, at, (r.1, e ∙ ap (λ n. Some n) (sym r.2), passes_none at w))
            named name e (inr r) = inr (r.0, inr (name, e, r.1))

            found : (o : Option Name) → entry ≡ o → ((kind : ℕ) × (next : Point) × R (Some word) kind at next) ⊎ ((s : Stop) × EntryRefused S E k word at s)
            found None e = inr (record { fault = file.TypeIndex k (type_place word); known = at.place }, inl (e, refl))
            found (Some name) e = named name e (name_decides S k at.place name)
    by None = record { stays = λ kind at next w r. within_behind (sized_string order (name_of S kind)) 0 at next w r.2; excludes = excludes; same = same; one = one; decides = decides }
      where
        order : Order
        order = order_in E

        excludes : (kind : ℕ) (at next : Point) (s : Stop) → Within at → R None kind at next → NameFails S total E k at s → ⊥
        excludes kind at next s w r (inl bad) =
            part_excludes total (sized_string order (name_of S kind)) (sized_needs order at.left) 0 at next s (sym (needs order (name_of S kind) 0 at next r.2)) r.2 bad
        excludes kind at next s w r (inr bad) =
            name_excludes S k bad.1.place kind bad.0 s r.0 (one_name order (name_of S kind) bad.0 0 at next bad.1 r.2 bad.2) bad.3

        same : (a b : ℕ) (at p q : Point) → Within at → R None a at p → R None b at q → (a ≡ b) × (p ≡ q)
        same a b at p q w r t =
            let e = one_name order (name_of S a) (name_of S b) 0 at p q r.2 t.2 in
            let moved : Passes (sized_string order (name_of S b)) 0 at p = subst (λ (n : Name). Passes (sized_string order n) 0 at p) e r.2 in
            (same_kind S a b r.0 t.0 e, one_point (sized_string order (name_of S b)) 0 at p q moved t.2)

        apart : (at : Point) (s : Stop) (name : Name) (next : Point) → Passes (sized_string order name) 0 at next → PartFails total (sized_needs order at.left) at s → ⊥
        apart at s name next p bad = part_excludes total (sized_string order name) (sized_needs order at.left) 0 at next s (sym (needs order name 0 at next p)) p bad

        one : (at : Point) (s t : Stop) → Within at → NameFails S total E k at s → NameFails S total E k at t → s ≡ t
        one at s t w (inl a) (inl b) = part_one total (sized_needs order at.left) at s t a b
        one at s t w (inl a) (inr b) = absurd (apart at s b.0 b.1 b.2 a)
        one at s t w (inr a) (inl b) = absurd (apart at t a.0 a.1 a.2 b)
        one at s t w (inr a) (inr b) =
            let e : a.0 ≡ b.0 = one_name order a.0 b.0 0 at a.1 b.1 a.2 b.2 in
            let moved : Passes (sized_string order b.0) 0 at a.1 = subst (λ (n : Name). Passes (sized_string order n) 0 at a.1) e a.2 in
            let p : a.1 ≡ b.1 = one_point (sized_string order b.0) 0 at a.1 b.1 moved b.2 in
            let first : NameRefused S k b.0 a.1.place s = subst (λ (n : Name). NameRefused S k n a.1.place s) e a.3 in
            name_one S k b.1.place b.0 s t (subst (λ (q : Point). NameRefused S k b.0 q.place s) p first) b.3

        decides : (at : Point) → Within at → ((kind : ℕ) × (next : Point) × R None kind at next) ⊎ ((s : Stop) × NameFails S total E k at s)
        decides at w = found (enough (sized_needs order at.left) at)
          where
            named : (name : Name) (next : Point) → Passes (sized_string order name) 0 at next
                → (((kind : ℕ) × IsBlockType S kind × (name_of S kind ≡ name)) ⊎ ((s : Stop) × NameRefused S k name next.place s))
                → ((kind : ℕ) × (next : Point) × R None kind at next) ⊎ ((s : Stop) × NameFails S total E k at s)
            named name next p (inl r) = inl (r.0, next, (r.1, tt, subst (λ (n : Name). Passes (sized_string order n) 0 at next) (sym r.2) p))
            named name next p (inr r) = inr (r.0, inr (name, next, p, r.1))

            found : Enough (sized_needs order at.left) at → ((kind : ℕ) × (next : Point) × R None kind at next) ⊎ ((s : Stop) × NameFails S total E k at s)
            found (inl r) = inr (of_value total r.0, inl (r.0, r.1, refl))
            found (inr r) =
                let n = sized_read order at w (ltb (length at.left) 4) refl r.1 r.2 in
                named n.0 n.1 n.2 (name_decides S k n.1.place n.0)
