-- What code words compute, piece by piece.
use Rattle.std.proofs.Common.{◌≡◌, ℕ, ◌+◌, ◌-◌, ◌*◌, ◌^◌, ◌≤◌, ◌<◌, List, [], ◌∷◌, ◌++◌, length, refl, add-one, sym, ap, ◌∙◌, arith, ⊎_elim, append_assoc, append-nil, length-append}
use Rattle.std.proofs.Math.Nat.{pow-succ', pow-le-pow_right}
use Rattle.std.specs.Prelude.{Bool, true, ◌&&◌, nat_lt, slice_index}
use Rattle.std.proofs.lemmas.Bool.{lt-ltb, cases_lt}
use Rattle.nif_schema.specs.declared.exprs.Op.{Op}
use Rattle.nif_expr.specs.declared.codes.CodeWord.{CodeWord}
use Rattle.nif_expr.specs.declared.codes.CodeWord.TheVariants.{Number, Arg, Slot, Not, Two, Swapped}
use Rattle.nif_expr.specs.Value.{apply}
use Rattle.nif_expr.specs.Codes.{step, exec, fits, ran, top_of, opposite}
use Rattle.nif_expr.specs.Compiled.{Computes}

exec_append : (xs ys : List CodeWord) (slots : List ℕ) (arg : ℕ) (stack : List ℕ) → exec (xs ++ ys) slots arg stack ≡ exec ys slots arg (exec xs slots arg stack)
exec_append [] ys slots arg stack = refl
exec_append (x ∷ xs) ys slots arg stack = exec_append xs ys slots arg (step x slots arg stack)

place_for_one : (height : ℕ) (rest : Bool) → height + 1 ≤ 64 → (nat_lt height 64 && rest) ≡ rest
place_for_one height rest le = let below : height < 64 = omega arith in ap (λ b. b && rest) (lt-ltb height 64 below)

pub computes_number : (n : ℕ) (of : List ℕ → ℕ → ℕ) → ((slots : List ℕ) (arg : ℕ) → n ≡ of slots arg) → Computes (Number n ∷ []) 1 of
computes_number n of e = record {
  value = λ slots arg stack. ap (λ v. v ∷ stack) (e slots arg);
  place = λ height more le. place_for_one height _ le;
  few = omega arith;
}

pub computes_arg : Computes (Arg ∷ []) 1 (λ slots arg. arg)
computes_arg = record {
  value = λ slots arg stack. refl;
  place = λ height more le. place_for_one height _ le;
  few = omega arith;
}

pub computes_slot : (n : ℕ) (of : List ℕ → ℕ → ℕ) → ((slots : List ℕ) (arg : ℕ) → slice_index slots n ≡ of slots arg) → Computes (Slot n ∷ []) 1 of
computes_slot n of e = record {
  value = λ slots arg stack. ap (λ v. v ∷ stack) (e slots arg);
  place = λ height more le. place_for_one height _ le;
  few = omega arith;
}

not_fits : (height : ℕ) (rest : Bool) → (nat_lt 0 (height + 1) && rest) ≡ rest
not_fits height rest = let below : 0 < height + 1 = omega arith in ap (λ b. b && rest) (lt-ltb 0 (height + 1) below)

pub computes_not : (words : List CodeWord) (need : ℕ) (of : List ℕ → ℕ → ℕ) → Computes words need of
    → Computes (words ++ Not ∷ []) need (λ slots arg. opposite (of slots arg))
computes_not words need of all = record {
  value = λ slots arg stack. exec_append words (Not ∷ []) slots arg stack ∙ ap (exec (Not ∷ []) slots arg) (all.value slots arg stack);
  place = λ height more le.
      let joined : (words ++ Not ∷ []) ++ more ≡ words ++ Not ∷ more = simp append_assoc in
      ap (λ xs. fits xs height) joined ∙ all.place height (Not ∷ more) le ∙ not_fits height _;
  few = omega (arith, all.few, length-append words (Not ∷ []));
}

two_fits : (height : ℕ) (more : List CodeWord) → (nat_lt 1 (height + 1 + 1) && fits more (height + 1 + 1 - 1)) ≡ fits more (height + 1)
two_fits height more =
    let below : 1 < height + 1 + 1 = omega arith in
    let one : height + 1 + 1 - 1 ≡ height + 1 = omega arith in
    ap (λ b. b && fits more (height + 1 + 1 - 1)) (lt-ltb 1 (height + 1 + 1) below) ∙ ap (fits more) one

-- the left operand first, where the need of both is k
in_order : (op : Op) (left right : List CodeWord) (m n k : ℕ) (f g : List ℕ → ℕ → ℕ) → Computes left m f → Computes right n g
    → m ≤ k → n + 1 ≤ k → 2 ^ k ≤ 2 * (length left + length right + 1)
    → Computes (left ++ (right ++ Two op ∷ [])) k (λ slots arg. apply op (f slots arg) (g slots arg))
in_order op left right m n k f g l r lm ln few = record {
  value = λ slots arg stack.
      exec_append left _ slots arg stack ∙ ap (exec (right ++ Two op ∷ []) slots arg) (l.value slots arg stack)
      ∙ exec_append right _ slots arg _ ∙ ap (exec (Two op ∷ []) slots arg) (r.value slots arg (f slots arg ∷ stack));
  place = λ height more le.
      let joined : (left ++ (right ++ Two op ∷ [])) ++ more ≡ left ++ (right ++ Two op ∷ more) = simp append_assoc in
      let first : height + m ≤ 64 = omega (arith, lm, le) in
      let second : height + 1 + n ≤ 64 = omega (arith, ln, le) in
      ap (λ xs. fits xs height) joined ∙ l.place height (right ++ Two op ∷ more) first ∙ r.place (height + 1) (Two op ∷ more) second ∙ two_fits height more;
  few = omega (arith, few, length-append left (right ++ Two op ∷ []), length-append right (Two op ∷ []));
}

-- the right operand first
turned : (op : Op) (left right : List CodeWord) (m n k : ℕ) (f g : List ℕ → ℕ → ℕ) → Computes left m f → Computes right n g
    → n ≤ k → m + 1 ≤ k → 2 ^ k ≤ 2 * (length left + length right + 1)
    → Computes (right ++ (left ++ Swapped op ∷ [])) k (λ slots arg. apply op (f slots arg) (g slots arg))
turned op left right m n k f g l r ln lm few = record {
  value = λ slots arg stack.
      exec_append right _ slots arg stack ∙ ap (exec (left ++ Swapped op ∷ []) slots arg) (r.value slots arg stack)
      ∙ exec_append left _ slots arg _ ∙ ap (exec (Swapped op ∷ []) slots arg) (l.value slots arg (g slots arg ∷ stack));
  place = λ height more le.
      let joined : (right ++ (left ++ Swapped op ∷ [])) ++ more ≡ right ++ (left ++ Swapped op ∷ more) = simp append_assoc in
      let first : height + n ≤ 64 = omega (arith, ln, le) in
      let second : height + 1 + m ≤ 64 = omega (arith, lm, le) in
      ap (λ xs. fits xs height) joined ∙ r.place height (left ++ Swapped op ∷ more) first ∙ l.place (height + 1) (Swapped op ∷ more) second ∙ two_fits height more;
  few = omega (arith, few, length-append right (left ++ Swapped op ∷ []), length-append left (Swapped op ∷ []));
}

pub computes_turned : (op : Op) (left right : List CodeWord) (m n : ℕ) (f g : List ℕ → ℕ → ℕ) → Computes left m f → Computes right n g → m < n
    → Computes (right ++ (left ++ Swapped op ∷ [])) n (λ slots arg. apply op (f slots arg) (g slots arg))
computes_turned op left right m n f g l r lt = turned op left right m n n f g l r (omega arith) (omega (arith, lt)) (omega (arith, r.few))

pub computes_more : (op : Op) (left right : List CodeWord) (m n : ℕ) (f g : List ℕ → ℕ → ℕ) → Computes left m f → Computes right n g → n < m
    → Computes (left ++ (right ++ Two op ∷ [])) m (λ slots arg. apply op (f slots arg) (g slots arg))
computes_more op left right m n f g l r lt = in_order op left right m n m f g l r (omega arith) (omega (arith, lt)) (omega (arith, l.few))

twice : (a b m n : ℕ) → a ≡ b → 2 ^ a ≤ 2 * m → 2 ^ b ≤ 2 * n → 2 ^ (a + 1) ≤ 2 * (m + n + 1)
twice a b m n e ha hb =
    let same : 2 ^ a ≡ 2 ^ b = ap (λ k. 2 ^ k) e in
    let double : 2 ^ (a + 1) ≡ 2 * 2 ^ a = rw add-one (pow-succ' 2 a) in
    omega (arith, same, double, ha, hb)

pub computes_same : (op : Op) (left right : List CodeWord) (m n : ℕ) (f g : List ℕ → ℕ → ℕ) → Computes left m f → Computes right n g → m ≡ n
    → Computes (left ++ (right ++ Two op ∷ [])) (m + 1) (λ slots arg. apply op (f slots arg) (g slots arg))
computes_same op left right m n f g l r e =
    in_order op left right m n (m + 1) f g l r (omega arith) (omega (arith, e)) (twice m n _ _ e l.few r.few)

-- what words fit into memory needs at most 64 numbers
pub need_small : (n m : ℕ) → 2 ^ n ≤ 2 * m → m < 2 ^ 64 → n ≤ 64
need_small n m bound few =
    ⊎_elim
    (λ (lt : 64 < n).
    let positive : 0 < 2 = omega arith in
    let more : 65 ≤ n = omega arith in
    let power : 2 ^ 65 ≤ 2 ^ n = pow-le-pow_right positive more in
    absurd (omega arith))
    (λ (le : n ≤ 64). le) (cases_lt 64 n)

-- the words find what they need and leave one number
pub fits_all : (words : List CodeWord) (need : ℕ) (of : List ℕ → ℕ → ℕ) → Computes words need of → length words < 2 ^ 64 → fits words 0 ≡ true
fits_all words need of all few =
    let room : 0 + need ≤ 64 = omega (arith, need_small _ _ all.few few) in
    let whole : words ++ [] ≡ words = append-nil _ in
    ap (λ xs. fits xs 0) (sym whole) ∙ all.place 0 [] room

-- what they give is the value
pub ran_value : (words : List CodeWord) (need : ℕ) (of : List ℕ → ℕ → ℕ) → Computes words need of
    → (slots : List ℕ) (arg : ℕ) → ran words slots arg ≡ of slots arg
ran_value words need of all slots arg = ap top_of (all.value slots arg [])
