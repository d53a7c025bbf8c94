-- How the logic tells nodes apart, so that a value of the program may be seen as one. Nothing else goes by these
-- codes: a node is written as a tree of numbers, and read back.
use Rattle.std.proofs.Common.{ℕ, zero, suc, ◌≡◌, Bool, true, false, List, [], ◌∷◌, Option, None, Some, refl, sym, ◌∙◌, ap, ap₂}
use Rattle.std.specs.Coded.{Coded}
use base.Stored.{Gv, gnil, gnum, gcons, num}
use Rattle.nif_base.specs.Node.{Node, Members, Num, Line, Ref, Text, Bytes, Group, Row, End, Here, Absent}

abbrev first : Gv → Gv
first gnil = gnil
first (gnum n) = gnil
first (gcons a b) = a

abbrev second : Gv → Gv
second gnil = gnil
second (gnum n) = gnil
second (gcons a b) = b

abbrev flag : Bool → Gv
flag true = gnum 1
flag false = gnum 0

abbrev flag_back : ℕ → Bool
flag_back zero = false
flag_back (suc n) = true

abbrev place : Option ℕ → Gv
place None = gnil
place (Some n) = gnum n

abbrev place_back : Gv → Option ℕ
place_back gnil = None
place_back (gnum n) = Some n
place_back (gcons a b) = None

abbrev bytes : List ℕ → Gv
bytes [] = gnil
bytes (b ∷ bs) = gcons (gnum b) (bytes bs)

abbrev bytes_back : Gv → List ℕ
bytes_back gnil = []
bytes_back (gnum n) = []
bytes_back (gcons a b) = num a ∷ bytes_back b

abbrev mutual
  code : Node → Gv
  code (Num width little bits) = gcons (gnum 0) (gcons (gnum width) (gcons (flag little) (gnum bits)))
  code (Line line) = gcons (gnum 1) (bytes line)
  code (Ref strong wanted target) = gcons (gnum 2) (gcons (flag strong) (gcons (place wanted) (place target)))
  code (Text index) = gcons (gnum 3) (place index)
  code (Bytes run) = gcons (gnum 4) (bytes run)
  code (Group members) = gcons (gnum 5) (code_in members)
  code (Row items) = gcons (gnum 6) (code_in items)

  code_in : Members → Gv
  code_in End = gnil
  code_in (Here node rest) = gcons (code node) (code_in rest)
  code_in (Absent rest) = gcons gnil (code_in rest)

-- the node of a tag, of what stands behind it, and of that read as members
abbrev node_back : ℕ → Gv → Members → Node
node_back zero g members = Num (num (first g)) (flag_back (num (first (second g)))) (num (second (second g)))
node_back (suc zero) g members = Line (bytes_back g)
node_back (suc (suc zero)) g members =
    Ref (flag_back (num (first g))) (place_back (first (second g))) (place_back (second (second g)))
node_back (suc (suc (suc zero))) g members = Text (place_back g)
node_back (suc (suc (suc (suc zero)))) g members = Bytes (bytes_back g)
node_back (suc (suc (suc (suc (suc zero))))) g members = Group members
node_back (suc (suc (suc (suc (suc (suc n)))))) g members = Row members

abbrev member_back : Gv → Node → Members → Members
member_back gnil node rest = Absent rest
member_back (gnum n) node rest = Absent rest
member_back (gcons a b) node rest = Here node rest

abbrev mutual
  back : Gv → Node
  back gnil = Text None
  back (gnum n) = Text None
  back (gcons tag g) = node_back (num tag) g (back_in g)

  back_in : Gv → Members
  back_in gnil = End
  back_in (gnum n) = End
  back_in (gcons a b) = member_back a (back a) (back_in b)

flag_again : (b : Bool) → flag_back (num (flag b)) ≡ b
flag_again true = refl
flag_again false = refl

place_again : (p : Option ℕ) → place_back (place p) ≡ p
place_again None = refl
place_again (Some n) = refl

bytes_again : (bs : List ℕ) → bytes_back (bytes bs) ≡ bs
bytes_again [] = refl
bytes_again (b ∷ bs) = ap (λ x. b ∷ x) (bytes_again bs)

-- a node isn't written as an absent member is
member_again : (node m : Node) (rest : Members) → member_back (code node) m rest ≡ Here m rest
member_again (Num width little bits) m rest = refl
member_again (Line line) m rest = refl
member_again (Ref strong wanted target) m rest = refl
member_again (Text index) m rest = refl
member_again (Bytes run) m rest = refl
member_again (Group members) m rest = refl
member_again (Row items) m rest = refl

mutual
  pub node_again : (node : Node) → back (code node) ≡ node
  node_again (Num width little bits) = ap (λ b. Num width b bits) (flag_again little)
  node_again (Line line) = ap (λ x. Line x) (bytes_again line)
  node_again (Ref strong wanted target) = λ i. Ref (flag_again strong i) (place_again wanted i) (place_again target i)
  node_again (Text index) = ap (λ x. Text x) (place_again index)
  node_again (Bytes run) = ap (λ x. Bytes x) (bytes_again run)
  node_again (Group members) = ap (λ x. Group x) (members_again members)
  node_again (Row items) = ap (λ x. Row x) (members_again items)

  pub members_again : (members : Members) → back_in (code_in members) ≡ members
  members_again End = refl
  members_again (Here node rest) =
      member_again node (back (code node)) (back_in (code_in rest))
      ∙ ap₂ (λ m r. Here m r) (node_again node) (members_again rest)
  members_again (Absent rest) = ap (λ x. Absent x) (members_again rest)

abbrev pub coded_node : Coded Node
coded_node = record { code = code; inj = λ x y p. sym (node_again x) ∙ ap back p ∙ node_again y }

abbrev pub coded_members : Coded Members
coded_members = record { code = code_in; inj = λ x y p. sym (members_again x) ∙ ap back_in p ∙ members_again y }
