-- What comes out where parts are read with a stack is what the grammar reads.
use Rattle.std.proofs.Common.{◌≡◌, ℕ, zero, suc, ◌<◌, ◌≤◌, cond, List, [], ◌∷◌, Some, refl, sym, ap, ◌∙◌, subst, arith, nat_le, lit≤, lit<}
use Rattle.std.proofs.Common.{inl, inr}
use Rattle.std.proofs.lemmas.Bool.{le-leb}
use Rattle.std.proofs.lemmas.Bool.Decides.{leb_tells}
use Rattle.nif_schema.specs.declared.exprs.Op.{Op}
use Rattle.nif_schema.specs.declared.exprs.Op.TheVariants.{Mul, Div, Add, Sub, Shl, Shr, Lt, Le, Gt, Ge, Eq, Ne, BitAnd, BitOr, And, Or}
use Rattle.nif_schema.specs.Expression.{Tree, Not, Two}
use Rattle.nif_expr.specs.Parts.{Part, Operand, Negation, Opening, Closing, Operator}
use Rattle.nif_expr.specs.Steps.{Frame, Negating, Grouping, Applying, reduced, State, Wants, Has, Fails, closed, step, ended, finish, run}
use Rattle.nif_expr.specs.Grammar.{level, Reads, two, tighter, negation, operand, parentheses}

-- levels

pub level-low : (op : Op) → 1 ≤ level op
level-low Or = lit≤ tt
level-low And = lit≤ tt
level-low BitOr = lit≤ tt
level-low BitAnd = lit≤ tt
level-low Eq = lit≤ tt
level-low Ne = lit≤ tt
level-low Lt = lit≤ tt
level-low Le = lit≤ tt
level-low Gt = lit≤ tt
level-low Ge = lit≤ tt
level-low Shl = lit≤ tt
level-low Shr = lit≤ tt
level-low Add = lit≤ tt
level-low Sub = lit≤ tt
level-low Mul = lit≤ tt
level-low Div = lit≤ tt

pub level-high : (op : Op) → level op < 10
level-high Or = lit< tt
level-high And = lit< tt
level-high BitOr = lit< tt
level-high BitAnd = lit< tt
level-high Eq = lit< tt
level-high Ne = lit< tt
level-high Lt = lit< tt
level-high Le = lit< tt
level-high Gt = lit< tt
level-high Ge = lit< tt
level-high Shl = lit< tt
level-high Shr = lit< tt
level-high Add = lit< tt
level-high Sub = lit< tt
level-high Mul = lit< tt
level-high Div = lit< tt

-- what follows an expression of a level begins with no operator of this level or a tighter one
abbrev pub IsLoose : ℕ → List Part → Type 0
IsLoose k [] = Unit {0}
IsLoose k (Operand of ∷ parts) = Unit {0}
IsLoose k (Negation ∷ parts) = Unit {0}
IsLoose k (Opening ∷ parts) = Unit {0}
IsLoose k (Closing ∷ parts) = Unit {0}
IsLoose k (Operator op ∷ parts) = level op < k

pub IsLoose-suc : (k : ℕ) (parts : List Part) → IsLoose k parts → IsLoose (suc k) parts
IsLoose-suc k [] h = tt
IsLoose-suc k (Operand of ∷ parts) h = tt
IsLoose-suc k (Negation ∷ parts) h = tt
IsLoose-suc k (Opening ∷ parts) h = tt
IsLoose-suc k (Closing ∷ parts) h = tt
IsLoose-suc k (Operator op ∷ parts) h = omega arith

-- the top of the stack doesn't take an operand of level k before it is whole
abbrev pub HasRoom : ℕ → List Frame → Type 0
HasRoom k [] = Unit {0}
HasRoom k (Negating ∷ stack) = 10 ≤ k
HasRoom k (Grouping ∷ stack) = Unit {0}
HasRoom k (Applying op left ∷ stack) = level op < k

pub HasRoom-suc : (k : ℕ) (stack : List Frame) → HasRoom k stack → HasRoom (suc k) stack
HasRoom-suc k [] h = tt
HasRoom-suc k (Negating ∷ stack) h = omega arith
HasRoom-suc k (Grouping ∷ stack) h = tt
HasRoom-suc k (Applying op left ∷ stack) h = omega arith

-- operands of the tightest levels always fit
pub HasRoom-tight : (k : ℕ) (stack : List Frame) → 10 ≤ k → HasRoom k stack
HasRoom-tight k [] h = tt
HasRoom-tight k (Negating ∷ stack) h = h
HasRoom-tight k (Grouping ∷ stack) h = tt
HasRoom-tight k (Applying op left ∷ stack) h = omega (arith, level-high op)

-- every reading comes out

reduced-apart : (k : ℕ) (op : Op) (left e : Tree) (stack : List Frame) → level op < k
    → cond (nat_le k (level op)) (reduced k stack (Two op left e)) (Applying op left ∷ stack, e) ≡ (Applying op left ∷ stack, e)
reduced-apart k op left e stack h = elim (leb_tells k (level op)) [
  | inl t ↦ absurd (omega (arith, t.1))
  | inr t ↦ ap (λ b. cond b (reduced k stack (Two op left e)) (Applying op left ∷ stack, e)) t.0
]

-- with room nothing is put round it
reduced-room : (k : ℕ) (stack : List Frame) (e : Tree) → k < 10 → HasRoom k stack → reduced k stack e ≡ (stack, e)
reduced-room k [] e low h = refl
reduced-room k (Negating ∷ stack) e low h = absurd (omega arith)
reduced-room k (Grouping ∷ stack) e low h = refl
reduced-room k (Applying op left ∷ stack) e low h = reduced-apart k op left e stack h

reduced-bound : (k : ℕ) (op : Op) (left e : Tree) (stack : List Frame) → k ≤ level op
    → reduced k (Applying op left ∷ stack) e ≡ reduced k stack (Two op left e)
reduced-bound k op left e stack h =
    ap (λ b. cond b (reduced k stack (Two op left e)) (Applying op left ∷ stack, e)) (le-leb k (level op) h)

-- an operator whose right operand is whole
run-bound : (op : Op) (left right : Tree) (stack : List Frame) (rest : List Part) → IsLoose (suc (level op)) rest
    → run (Has (Applying op left ∷ stack) right) rest ≡ run (Has stack (Two op left right)) rest
run-bound op left right stack [] h = ap (λ r. ended r.0 r.1) (reduced-bound 1 op left right stack (level-low op))
run-bound op left right stack (Operand of ∷ rest) h = refl
run-bound op left right stack (Negation ∷ rest) h = refl
run-bound op left right stack (Opening ∷ rest) h = refl
run-bound op left right stack (Closing ∷ rest) h = ap (λ r. run (closed r.0 r.1) rest) (reduced-bound 1 op left right stack (level-low op))
run-bound op left right stack (Operator next ∷ rest) h =
    ap (λ r. run (Wants (Applying next r.1 ∷ r.0)) rest) (reduced-bound (level next) op left right stack (omega arith))

run-negated : (e : Tree) (stack : List Frame) (rest : List Part) → run (Has (Negating ∷ stack) e) rest ≡ run (Has stack (Not e)) rest
run-negated e stack [] = refl
run-negated e stack (Operand of ∷ rest) = refl
run-negated e stack (Negation ∷ rest) = refl
run-negated e stack (Opening ∷ rest) = refl
run-negated e stack (Closing ∷ rest) = refl
run-negated e stack (Operator next ∷ rest) = refl

run-operator : (op : Op) (left : Tree) (stack : List Frame) (then : List Part) → HasRoom (level op) stack
    → run (Has stack left) (Operator op ∷ then) ≡ run (Wants (Applying op left ∷ stack)) then
run-operator op left stack then h =
    ap (λ r. run (Wants (Applying op r.1 ∷ r.0)) then) (reduced-room (level op) stack left (level-high op) h)

-- an expression of a level, with nothing after it that would go on at that level, is what the operand becomes
pub run-read : (k : ℕ) (parts : List Part) (tree : Tree) (rest : List Part) → Reads k parts tree rest
    → IsLoose (suc k) rest → (stack : List Frame) → HasRoom k stack → run (Wants stack) parts ≡ run (Has stack tree) rest
run-read k parts _ rest (two {op = op} {left = left} {right = right} {then = then} same before behind) loose stack room =
    run-read k parts left (Operator op ∷ then) before (omega (arith, same)) stack room
    ∙ run-operator op left stack then (subst (λ j. HasRoom j stack) (sym same) room)
    ∙ run-read (suc k) then right rest behind (IsLoose-suc (suc k) rest loose) (Applying op left ∷ stack) (omega (arith, same))
    ∙ run-bound op left right stack rest (subst (λ j. IsLoose (suc j) rest) (sym same) loose)
run-read k parts tree rest (tighter read) loose stack room =
    run-read (suc k) parts tree rest read (IsLoose-suc (suc k) rest loose) stack (HasRoom-suc k stack room)
run-read _ _ _ rest (negation {of = of} {parts = parts} read) loose stack room =
    run-read 10 parts of rest read loose (Negating ∷ stack) (lit≤ tt) ∙ run-negated of stack rest
run-read _ _ tree rest operand loose stack room = refl
run-read _ _ tree rest (parentheses {parts = parts} read) loose stack room =
    run-read 1 parts tree (Closing ∷ rest) read tt (Grouping ∷ stack) tt

pub run-whole : (parts : List Part) (tree : Tree) → Reads 1 parts tree [] → run (Wants []) parts ≡ Some tree
run-whole parts tree read = run-read 1 parts tree [] read tt [] tt

-- what comes out is a reading

lowered : (c k : ℕ) {parts : List Part} {tree : Tree} {rest : List Part} → k ≤ c → Reads c parts tree rest → Reads k parts tree rest
lowered zero k {parts} {tree} {rest} h read = let e : 0 ≡ k = omega arith in subst (λ j. Reads j parts tree rest) e read
lowered (suc c) k {parts} {tree} {rest} h read = elim (leb_tells k c) [
  | inl t ↦ lowered c k t.1 (tighter read)
  | inr t ↦ let e : suc c ≡ k = omega (arith, t.1) in subst (λ j. Reads j parts tree rest) e read
]

-- the stack holds all that was read before these parts
abbrev pub IsBefore : List Frame → List Part → List Part → Type 0
IsBefore [] parts all = all ≡ parts
IsBefore (Negating ∷ stack) parts all = IsBefore stack (Negation ∷ parts) all
IsBefore (Grouping ∷ stack) parts all = IsBefore stack (Opening ∷ parts) all
IsBefore (Applying op left ∷ stack) parts all =
    (from : List Part) × Reads (level op) from left (Operator op ∷ parts) × IsBefore stack from all × HasRoom (level op) stack

-- a stack with the operand on top, of a level that has room on it and is k or tighter
record IsReduced (k : ℕ) (r : List Frame × Tree) (rest all : List Part) : Type 0 where
  from : List Part
  at : ℕ
  read : Reads at from r.1 rest
  before : IsBefore r.0 from all
  room : HasRoom k r.0
  enough : k ≤ at

reduced-reads : (k c : ℕ) (stack : List Frame) (e : Tree) (from rest all : List Part) → k ≤ 10 → k ≤ c → HasRoom c stack
    → Reads c from e rest → IsBefore stack from all → IsReduced k (reduced k stack e) rest all
reduced-reads k c [] e from rest all low enough room read before =
    record { from = from; at = c; read = read; before = before; room = tt; enough = enough }
reduced-reads k c (Negating ∷ stack) e from rest all low enough room read before =
    reduced-reads k 10 stack (Not e) (Negation ∷ from) rest all low low (HasRoom-tight 10 stack (lit≤ tt)) (negation (lowered c 10 room read)) before
reduced-reads k c (Grouping ∷ stack) e from rest all low enough room read before =
    record { from = from; at = c; read = read; before = before; room = tt; enough = enough }
reduced-reads k c (Applying op left ∷ stack) e from rest all low enough room read before = elim (leb_tells k (level op)) [
  | inl t ↦ subst (λ b. IsReduced k (cond b (reduced k stack (Two op left e)) (Applying op left ∷ stack, e)) rest all) (sym t.0)
      (reduced-reads k (level op) stack (Two op left e) before.0 rest all low t.1 before.3
      (two refl before.1 (lowered c (suc (level op)) (omega arith) read)) before.2)
  | inr t ↦ subst (λ b. IsReduced k (cond b (reduced k stack (Two op left e)) (Applying op left ∷ stack, e)) rest all) (sym t.0)
      (record { from = from; at = c; read = read; before = before; room = t.1; enough = enough })
]

-- a state, with the parts that are left, of all parts
abbrev pub IsAt : State → List Part → List Part → Type 0
IsAt (Wants stack) parts all = IsBefore stack parts all
IsAt (Has stack e) parts all = (from : List Part) × Reads 11 from e parts × IsBefore stack from all
IsAt Fails parts all = Unit {0}

all_reduced : (k : ℕ) (stack : List Frame) (e : Tree) (parts all : List Part) → k ≤ 10 → IsAt (Has stack e) parts all
    → IsReduced k (reduced k stack e) parts all
all_reduced k stack e parts all low at =
    reduced-reads k 11 stack e at.0 parts all low (omega arith) (HasRoom-tight 11 stack (lit≤ tt)) at.1 at.2

closed-at : (stack : List Frame) (e : Tree) (parts all : List Part) → IsReduced 1 (stack, e) (Closing ∷ parts) all
    → IsAt (closed stack e) parts all
closed-at [] e parts all r = tt
closed-at (Negating ∷ stack) e parts all r = tt
closed-at (Grouping ∷ stack) e parts all r = (Opening ∷ r.from, parentheses (lowered r.at 1 r.enough r.read), r.before)
closed-at (Applying op left ∷ stack) e parts all r = tt

step-at : (state : State) (part : Part) (parts all : List Part) → IsAt state (part ∷ parts) all → IsAt (step state part) parts all
step-at (Wants stack) (Operand e) parts all at = (Operand e ∷ parts, operand, at)
step-at (Wants stack) Negation parts all at = at
step-at (Wants stack) Opening parts all at = at
step-at (Wants stack) Closing parts all at = tt
step-at (Wants stack) (Operator op) parts all at = tt
step-at (Has stack e) (Operand of) parts all at = tt
step-at (Has stack e) Negation parts all at = tt
step-at (Has stack e) Opening parts all at = tt
step-at (Has stack e) Closing parts all at =
    closed-at (reduced 1 stack e).0 (reduced 1 stack e).1 parts all (all_reduced 1 stack e (Closing ∷ parts) all (lit≤ tt) at)
step-at (Has stack e) (Operator op) parts all at =
    let r = all_reduced (level op) stack e (Operator op ∷ parts) all (omega (arith, level-high op)) at in
    (r.from, lowered r.at (level op) r.enough r.read, r.before, r.room)
step-at Fails part parts all at = tt

ended-at : (stack : List Frame) (e : Tree) (all : List Part) (tree : Tree) → IsReduced 1 (stack, e) [] all
    → ended stack e ≡ Some tree → Reads 1 all tree []
ended-at [] e all tree r out =
    let same : e ≡ tree = cc in
    subst (λ parts. Reads 1 parts tree []) (sym r.before) (subst (λ t. Reads 1 r.from t []) same (lowered r.at 1 r.enough r.read))
ended-at (frame ∷ stack) e all tree r out = cc

finish-at : (state : State) (all : List Part) (tree : Tree) → IsAt state [] all → finish state ≡ Some tree → Reads 1 all tree []
finish-at (Wants stack) all tree at out = cc
finish-at (Has stack e) all tree at out =
    ended-at (reduced 1 stack e).0 (reduced 1 stack e).1 all tree (all_reduced 1 stack e [] all (lit≤ tt) at) out
finish-at Fails all tree at out = cc

run-at : (state : State) (parts all : List Part) (tree : Tree) → IsAt state parts all → run state parts ≡ Some tree → Reads 1 all tree []
run-at state [] all tree at out = finish-at state all tree at out
run-at state (part ∷ parts) all tree at out = run-at (step state part) parts all tree (step-at state part parts all at) out

pub run-reads : (parts : List Part) (tree : Tree) → run (Wants []) parts ≡ Some tree → Reads 1 parts tree []
run-reads parts tree out = run-at (Wants []) parts parts tree refl out
