-- How far the parts of a text were read.
use Rattle.std.proofs.Common.{◌≡◌, ℕ, ◌<◌, Bool, true, false, cond, List, [], ◌∷◌, Option, Some, None, length, drop, refl, sym, ap, ◌∙◌, subst, arith, length-drop}
use Rattle.std.specs.Prelude.{MatchOption, nat_eq, ◌==◌, Result, Ok, Err, IfOk}
use Rattle.std.specs.Option.{option_map}
use Rattle.nif_base.specs.declared.faults.NoMemory.{NoMemory}
use Rattle.nif_schema.specs.declared.exprs.Expr.{Expr}
use Rattle.std.specs.List.{starts_with}
use Rattle.std.proofs.lemmas.Bool.{eqb-true}
use Rattle.std.proofs.lemmas.Bool.Decides.{nat_tests}
use Rattle.nif_schema.specs.Expression.{Tree, tree}
use Rattle.nif_expr.specs.Value.{Names}
use Rattle.nif_base.specs.Ascii.{is_blank, is_digit}
use Rattle.nif_expr.specs.Bytes.{is_letter, is_in_name, is_in_number, begins, after}
use Rattle.nif_expr.specs.Parts.{Part, First, sign, number, path, Joined, last, more, Parts, none, blank, part, signs, first_sign}
use Rattle.nif_expr.specs.Steps.{Frame, State, Wants, Fails, step, finish, run}
use Rattle.nif_expr.specs.Grammar.{IsExpression}
use Rattle.nif_expr.proofs.Machine.{run-whole, run-reads}
use Rattle.nif_expr.proofs.OneReading.{unlike, Parts-part, Parts-blank, Parts-none, signs-special, are_special, is_special, both-true}
use Rattle.nif_expr.proofs.PathLemmas.{length-after, length-after-begins, letter-name}

-- an expression of the text is what comes of this state and the parts of the rest
pub record IsGoing (text : List ℕ) (state : State) (rest : List ℕ) : Type 0 where
  pub goes : (parts : List Part) (tree : Tree) → Parts rest parts → run state parts ≡ Some tree → IsExpression text tree
  pub only : (tree : Tree) → IsExpression text tree → (parts : List Part) × Parts rest parts × (run state parts ≡ Some tree)

pub going_start : (text : List ℕ) → IsGoing text (Wants []) text
going_start text = record {
  goes = λ parts tree spelled out. record { parts = parts; spelled = spelled; read = run-reads parts tree out };
  only = λ tree e. (e.parts, e.spelled, run-whole e.parts tree e.read);
}

Parts-after : (text : List ℕ) (parts : List Part) → Parts (after is_blank text) parts → Parts text parts
Parts-after [] parts h = h
Parts-after (b ∷ text) parts h = at (is_blank b) refl (Parts-after text parts) h
  where
    at : (r : Bool) → is_blank b ≡ r → (Parts (after is_blank text) parts → Parts text parts)
        → Parts (cond r (after is_blank text) (b ∷ text)) parts → Parts (b ∷ text) parts
    at true is later given = blank is (later given)
    at false is later given = given

Parts-passed : (text : List ℕ) (parts : List Part) → Parts text parts → Parts (after is_blank text) parts
Parts-passed [] parts h = h
Parts-passed (b ∷ text) parts h = at (is_blank b) refl (Parts-passed text parts)
  where
    at : (r : Bool) → is_blank b ≡ r → (Parts text parts → Parts (after is_blank text) parts) → Parts (cond r (after is_blank text) (b ∷ text)) parts
    at true is later = later (Parts-blank b text parts is h)
    at false is later = h

pub going_blank : (text : List ℕ) (state : State) (rest : List ℕ) → IsGoing text state rest → IsGoing text state (after is_blank rest)
going_blank text state rest going = record {
  goes = λ parts tree spelled out. going.goes parts tree (Parts-after rest parts spelled) out;
  only = λ tree e. let h = going.only tree e in (h.0, Parts-passed rest h.0 h.1, h.2);
}

pub going_part : (text : List ℕ) (state : State) (rest : List ℕ) (p : Part) (left : List ℕ) → IsGoing text state rest → First rest p left
    → IsGoing text (step state p) left
going_part text state rest p left going first = record {
  goes = λ parts tree spelled out. going.goes (p ∷ parts) tree (part first spelled) out;
  only = λ tree e.
      let h = going.only tree e in
      let g = Parts-part rest p left h.0 first h.1 in
      (g.0, g.2, subst (λ parts. run state parts ≡ Some tree) g.1 h.2);
}

run-fails : (parts : List Part) → run Fails parts ≡ None
run-fails [] = refl
run-fails (p ∷ parts) = run-fails parts

pub going_fails : (text : List ℕ) (state : State) (rest : List ℕ) → IsGoing text state rest → state ≡ Fails → (tree : Tree) → IsExpression text tree → ⊥
going_fails text state rest going failed tree e =
    let h = going.only tree e in
    let out : run Fails h.0 ≡ Some tree = subst (λ s. run s h.0 ≡ Some tree) failed h.2 in
    let none_out = run-fails h.0 in cc

Parts-stuck : (rest : List ℕ) (parts : List Part) → begins is_blank rest ≡ false → 0 < length rest
    → ((p : Part) (left : List ℕ) → First rest p left → ⊥) → Parts rest parts → ⊥
Parts-stuck _ _ other some nothing none = omega (arith, some)
Parts-stuck _ _ other some nothing (blank is tail) = unlike is other
Parts-stuck _ _ other some nothing (part {rest = left} {p = p} first tail) = nothing p left first

pub going_stuck : (text : List ℕ) (state : State) (rest : List ℕ) → IsGoing text state rest → begins is_blank rest ≡ false → 0 < length rest
    → ((p : Part) (left : List ℕ) → First rest p left → ⊥) → (tree : Tree) → IsExpression text tree → ⊥
going_stuck text state rest going other some nothing tree e = let h = going.only tree e in Parts-stuck rest h.0 other some nothing h.1

-- at the end of the text
pub going_end : (text : List ℕ) (state : State) (rest : List ℕ) (r : Option Tree) → IsGoing text state rest → length rest ≡ 0 → r ≡ finish state
    → MatchOption r ((tree : Tree) → IsExpression text tree → ⊥) (λ tree. IsExpression text tree)
going_end text state [] (Some tree) going e out = going.goes [] tree none (sym out)
going_end text state [] None going e out = λ tree expression.
    let h = going.only tree expression in
    let same : run state [] ≡ Some tree = subst (λ parts. run state parts ≡ Some tree) (Parts-none h.0 h.1) h.2 in cc
going_end text state (b ∷ rest) r going e out = absurd (omega (arith, e))

pub begins-after : (class : ℕ → Bool) (text : List ℕ) → begins class (after class text) ≡ false
begins-after class [] = refl
begins-after class (b ∷ text) = at (class b) refl (begins-after class text)
  where
    at : (r : Bool) → class b ≡ r → begins class (after class text) ≡ false → begins class (cond r (after class text) (b ∷ text)) ≡ false
    at true is later = later
    at false is later = is

-- each part takes a byte at least

fits-shorter : (spelling text : List ℕ) → is_special spelling ≡ true → starts_with nat_eq text spelling ≡ true
    → length (drop (length spelling) text) < length text
fits-shorter [] text special fits = cc
fits-shorter (c ∷ spelling) [] special fits = cc
fits-shorter (c ∷ spelling) (b ∷ text) special fits = omega (arith, length-drop (length spelling) text)

sign-shorter : (table : List (List ℕ × Part)) (text rest : List ℕ) (p : Part) → are_special table ≡ true → first_sign table text ≡ Some (p, rest)
    → length rest < length text
sign-shorter [] text rest p special found = cc
sign-shorter (entry ∷ others) text rest p special found =
    at (starts_with nat_eq text entry.0) refl (sign-shorter others text rest p both.1) found
  where
    both : (is_special entry.0 ≡ true) × (are_special others ≡ true)
    both = both-true (is_special entry.0) (are_special others) special

    at : (r : Bool) → starts_with nat_eq text entry.0 ≡ r → (first_sign others text ≡ Some (p, rest) → length rest < length text)
        → cond r (Some (entry.1, drop (length entry.0) text)) (first_sign others text) ≡ Some (p, rest) → length rest < length text
    at true fits later out =
        let pair : ◌≡◌ {A = Part × List ℕ} (entry.1, drop (length entry.0) text) (p, rest) = cc in
        let e : drop (length entry.0) text ≡ rest = ap (λ x. x.1) pair in
        subst (λ x. length x < length text) e (fits-shorter entry.0 text both.0 fits)
    at false fits later out = later out

Joined-shorter : (text : List ℕ) (names : Names) (rest : List ℕ) → Joined text names rest → length rest < length text
Joined-shorter text _ _ (last letter stops) = length-after-begins is_in_name is_letter text letter-name letter
Joined-shorter text _ rest (more {next = next} {names = names} letter goes tail) =
    let own = length-after-begins is_in_name is_letter text letter-name letter in
    let later = Joined-shorter (after is_blank next) names rest tail in
    omega (arith, own, later, length-after is_blank next, ap length goes)

digit-number : (b : ℕ) → is_digit b ≡ true → is_in_number b ≡ true
digit-number b h = grind (arith, nat_tests)

pub First-shorter : (text : List ℕ) (p : Part) (rest : List ℕ) → First text p rest → length rest < length text
First-shorter text p rest (sign found) = sign-shorter signs text rest p signs-special found
First-shorter text _ _ (number digit n) = length-after-begins is_in_number is_digit text digit-number digit
First-shorter text _ rest (path {names = names} joined) = Joined-shorter text names rest joined

-- the same, of rests and states that are told by equations

pub going_begun : (text rest : List ℕ) (stack : List Frame) → stack ≡ [] → rest ≡ after is_blank text → IsGoing text (Wants stack) rest
going_begun text rest stack none_waits passed =
    subst (λ s. IsGoing text (Wants s) rest) (sym none_waits)
    (subst (λ r. IsGoing text (Wants []) r) (sym passed) (going_blank text (Wants []) text (going_start text)))

pub going_on : (text : List ℕ) (state next : State) (rest left passed : List ℕ) (p : Part) → IsGoing text state rest → First rest p left
    → next ≡ step state p → passed ≡ after is_blank left → IsGoing text next passed
going_on text state next rest left passed p going first stepped blanks =
    subst (λ s. IsGoing text s passed) (sym stepped)
    (subst (λ r. IsGoing text (step state p) r) (sym blanks) (going_blank text (step state p) left (going_part text state rest p left going first)))

pub going_wrong : (text : List ℕ) (state : State) (rest left : List ℕ) (p : Part) → IsGoing text state rest → First rest p left
    → step state p ≡ Fails → (tree : Tree) → IsExpression text tree → ⊥
going_wrong text state rest left p going first failed = going_fails text (step state p) left (going_part text state rest p left going first) failed

pub unblank_after : (text rest : List ℕ) → rest ≡ after is_blank text → begins is_blank rest ≡ false
unblank_after text rest passed = ap (begins is_blank) passed ∙ begins-after is_blank text

pub less_after : (rest left passed : List ℕ) (p : Part) → First rest p left → passed ≡ after is_blank left → length passed < length rest
less_after rest left passed p first blanks =
    omega (arith, First-shorter rest p left first, ap length blanks, length-after is_blank left)

pub some_left : (rest : List ℕ) → false ≡ (length rest == 0) → 0 < length rest
some_left [] h = cc
some_left (b ∷ rest) h = omega arith

pub none_left : (rest : List ℕ) → true ≡ (length rest == 0) → length rest ≡ 0
none_left rest h = eqb-true (length rest) 0 (sym h)

-- what was finished, if memory lasted
pub finished : (text : List ℕ) (state : State) (r : Result (Option Expr) NoMemory) (rest : List ℕ) → IsGoing text state rest → length rest ≡ 0
    → IfOk r (λ e. option_map tree e ≡ finish state)
    → IfOk r (λ found. MatchOption found ((t : Tree) → IsExpression text t → ⊥) (λ e. IsExpression text (tree e)))
finished text state (Ok (Some e)) rest going end told = going_end text state rest (Some (tree e)) going end told
finished text state (Ok None) rest going end told = going_end text state rest None going end told
finished text state (Err e) rest going end told = told
