-- Each text is an expression or is none.
use Rattle.std.proofs.Common.{◌≡◌, ℕ, zero, suc, ◌^◌, ◌<◌, ◌≤◌, Bool, true, false, List, [], ◌∷◌, ◌++◌, ◌⊎◌, Option, Some, None, length, take, drop, refl, sym, ap, ◌∙◌, subst, arith, inl, inr}
use Rattle.std.specs.Prelude.{codes, nat_eq, nat_le, nat_lt, ◌&&◌, Contains, MatchOption}
use Rattle.std.specs.List.{AllPass, list_all}
use Rattle.std.specs.Set.{is_member}
use Rattle.std.specs.Bool.{Decides}
use Rattle.std.proofs.lemmas.Map.Made.{is_member-Decides}
use Rattle.std.proofs.lemmas.List.{take-append-drop}
use Rattle.std.proofs.lemmas.Bool.Decides.{nat_tests, Decides-eqb}
use Rattle.std.proofs.lemmas.List.Sums.{AllPass-from_list_all, list_all-from_AllPass}
use lib.Pointwise.{pointwise, bytes_decides}
use Rattle.nif_base.specs.Version.{version_of}
use Rattle.nif_schema.specs.Expression.{Tree, Number}
use Rattle.nif_expr.specs.Value.{Names}
use Rattle.nif_base.specs.Ascii.{is_blank, is_digit, is_hex_digit}
use Rattle.nif_expr.specs.Bytes.{is_letter, is_in_name, is_in_number, is_backslash, begins, front, after, trimmed}
use Rattle.nif_expr.specs.Digits.{number_of}
use Rattle.nif_expr.specs.Number.{IsNumber, IsDecimal, IsHexadecimal, IsVersion}
use Rattle.nif_expr.specs.Parts.{Part, Operand, First, sign, number, path, Joined, last, more, signs, first_sign, operand_of}
use Rattle.nif_expr.specs.Steps.{State, Wants, step, finish}
use Rattle.nif_expr.specs.Grammar.{IsExpression}
use Rattle.nif_expr.proofs.OneReading.{unlike, Joined-letter}
use Rattle.nif_expr.proofs.PathLemmas.{length-after, length-after-begins, letter-name}
use Rattle.nif_expr.proofs.FirstLemmas.{path_none, number_none, sign_none}
use Rattle.nif_expr.proofs.GoingLemmas.{IsGoing, going_start, going_blank, going_part, going_stuck, going_end, begins-after, First-shorter}

-- one of a class, or none
abbrev One : {A : Type 0} → (A → Type 0) → Type 0
One {A} P = ((a : A) × P a) ⊎ ((a : A) → P a → ⊥)

-- numbers

decimal : (text : List ℕ) → One (IsDecimal text)
decimal text = by (nat_le 1 (length text) && list_all is_digit text && nat_lt (number_of 10 text) (2 ^ 64)) refl
  where
    by : (b : Bool) → (nat_le 1 (length text) && list_all is_digit text && nat_lt (number_of 10 text) (2 ^ 64)) ≡ b → One (IsDecimal text)
    by true e =
        let all : list_all is_digit text ≡ true = grind (arith, nat_tests) in
        inl (
          number_of 10 text,
          record {
            some = grind (arith, nat_tests);
            digits = AllPass-from_list_all is_digit text all;
            value = refl;
            small = grind (arith, nat_tests);
          },
        )
    by false e = inr (λ n h.
        let all : list_all is_digit text ≡ true = list_all-from_AllPass is_digit text h.digits in
        let some : 0 < length text = h.some in
        let small : number_of 10 text < 2 ^ 64 = subst (λ m. m < 2 ^ 64) (sym h.value) h.small in
        grind (arith, nat_tests))

hex_of : (text digits : List ℕ) → text ≡ codes "0x" ++ digits → One (IsHexadecimal text)
hex_of text digits e = by (nat_le 1 (length digits) && nat_le (length digits) 16 && list_all is_hex_digit digits) refl
  where
    by : (b : Bool) → (nat_le 1 (length digits) && nat_le (length digits) 16 && list_all is_hex_digit digits) ≡ b → One (IsHexadecimal text)
    by true t =
        let all : list_all is_hex_digit digits ≡ true = grind (arith, nat_tests) in
        inl (
          number_of 16 digits,
          record {
            digits = digits;
            spelled = e;
            some = grind (arith, nat_tests);
            short = grind (arith, nat_tests);
            hex = AllPass-from_list_all is_hex_digit digits all;
            value = refl;
          },
        )
    by false t = inr (λ n h.
        let spelled : codes "0x" ++ h.digits ≡ codes "0x" ++ digits = sym h.spelled ∙ e in
        let same : h.digits ≡ digits = cc in
        let all : list_all is_hex_digit digits ≡ true = list_all-from_AllPass is_hex_digit digits (subst (λ d. AllPass is_hex_digit d) same h.hex) in
        let some : 0 < length digits = subst (λ d. 0 < length d) same h.some in
        let short : length digits ≤ 16 = subst (λ d. length d ≤ 16) same h.short in
        grind (arith, nat_tests))

hexadecimal : (text : List ℕ) → One (IsHexadecimal text)
hexadecimal text = by (pointwise nat_eq (take 2 text) (codes "0x")) refl
  where
    by : (b : Bool) → pointwise nat_eq (take 2 text) (codes "0x") ≡ b → One (IsHexadecimal text)
    by true e = hex_of text (drop 2 text) (sym (take-append-drop 2 text) ∙ ap (λ x. x ++ drop 2 text) ((bytes_decides (take 2 text) (codes "0x")).0 e))
    by false e = inr (λ n h.
        let front : take 2 text ≡ codes "0x" = ap (take 2) h.spelled in
        unlike ((bytes_decides (take 2 text) (codes "0x")).1 front) e)

version : (text : List ℕ) → One (IsVersion text)
version text = by (is_member nat_eq text 46) refl (version_of text) refl
  where
    dot : Decides (is_member nat_eq text 46) (Contains text 46)
    dot = is_member-Decides Decides-eqb text 46

    by : (b : Bool) → is_member nat_eq text 46 ≡ b → (o : Option ℕ) → version_of text ≡ o → One (IsVersion text)
    by true e (Some n) is = inl (n, record { dot = dot.0 e; value = is })
    by true e None is = inr (λ n h. let none : ◌≡◌ {A = Option ℕ} None (Some n) = sym is ∙ h.value in absurd (cc))
    by false e o is = inr (λ n h. unlike (dot.1 h.dot) e)

number_or_none : (text : List ℕ) → One (IsNumber text)
number_or_none text = by (decimal text) (hexadecimal text) (version text)
  where
    by : One (IsDecimal text) → One (IsHexadecimal text) → One (IsVersion text) → One (IsNumber text)
    by (inl d) h v = inl (d.0, inl d.1)
    by (inr d) (inl h) v = inl (h.0, inr (inl h.1))
    by (inr d) (inr h) (inl v) = inl (v.0, inr (inr v.1))
    by (inr d) (inr h) (inr v) = inr (λ n is. elim is [ inl x ↦ d n x | inr y ↦ elim y [ inl x ↦ h n x | inr x ↦ v n x ] ])

-- names

-- a path at the front of a text, or none
abbrev Path : List ℕ → Type 0
Path text = ((names : Names) × (rest : List ℕ) × Joined text names rest) ⊎ ((names : Names) (rest : List ℕ) → Joined text names rest → ⊥)

is-slash : (b : ℕ) → is_backslash b ≡ true → b ≡ 92
is-slash b e = (Decides-eqb b 92).0 e

-- by what follows the first name
path-by : (text behind : List ℕ) → begins is_letter text ≡ true → after is_in_name text ≡ behind
    → ((next : List ℕ) → behind ≡ 92 ∷ next → Path (after is_blank next)) → Path text
path-by text [] letter e later = inl (trimmed (front is_in_name text) ∷ [], after is_in_name text, last letter (ap (begins is_backslash) e))
path-by text (b ∷ next) letter e later = by (is_backslash b) refl
  where
    goes : b ≡ 92 → after is_in_name text ≡ 92 ∷ next
    goes is = e ∙ ap (λ x. x ∷ next) is

    on : b ≡ 92 → Path (after is_blank next) → Path text
    on is (inl p) = inl (trimmed (front is_in_name text) ∷ p.0, p.1, more letter (goes is) p.2)
    on is (inr none) = inr stuck
      where
        stuck : (names : Names) (rest : List ℕ) → Joined text names rest → ⊥
        stuck _ _ (last l stops) = unlike (ap (begins is_backslash) (goes is)) stops
        stuck _ rest (more {next = other} {names = names} l went tail) =
            let lists : 92 ∷ other ≡ 92 ∷ next = sym went ∙ goes is in
            let same : other ≡ next = cc in
            none names rest (subst (λ x. Joined (after is_blank x) names rest) same tail)

    by : (r : Bool) → is_backslash b ≡ r → Path text
    by true t = on (is-slash b t) (later next (ap (λ x. x ∷ next) (is-slash b t)))
    by false t = inl (trimmed (front is_in_name text) ∷ [], after is_in_name text, last letter (ap (begins is_backslash) e ∙ t))

path_or_none : (n : ℕ) (text : List ℕ) → length text < n → Path text
path_or_none zero text h = absurd (omega arith)
path_or_none (suc n) text h = by (begins is_letter text) refl (λ t less. path_or_none n t less)
  where
    by : (r : Bool) → begins is_letter text ≡ r → ((t : List ℕ) → length t < n → Path t) → Path text
    by false other later = inr (λ names rest joined. unlike (Joined-letter text names rest joined) other)
    by true letter later = path-by text (after is_in_name text) letter refl (λ next e.
        let less = length-after-begins is_in_name is_letter text letter-name letter in
        later (after is_blank next) (omega (arith, less, ap length e, length-after is_blank next)))

-- parts

abbrev Front : List ℕ → Type 0
Front text = ((p : Part) × (rest : List ℕ) × First text p rest) ⊎ ((p : Part) (rest : List ℕ) → First text p rest → ⊥)

front_or_none : (text : List ℕ) → Front text
front_or_none text = by (begins is_letter text) refl (begins is_digit text) refl
  where
    of_path : begins is_letter text ≡ true → Path text → Front text
    of_path letter (inl p) = inl (Operand (operand_of p.0), p.1, path p.2)
    of_path letter (inr none) = inr (path_none text letter none)

    of_number : begins is_digit text ≡ true → One (IsNumber (front is_in_number text)) → Front text
    of_number digit (inl n) = inl (Operand (Number n.0), after is_in_number text, number digit n.1)
    of_number digit (inr none) = inr (number_none text (front is_in_number text) digit refl none)

    of_sign : begins is_letter text ≡ false → begins is_digit text ≡ false → (o : Option (Part × List ℕ)) → first_sign signs text ≡ o → Front text
    of_sign letter digit (Some found) e = inl (found.0, found.1, sign e)
    of_sign letter digit None e = inr (sign_none text letter digit e)

    by : (a : Bool) → begins is_letter text ≡ a → (b : Bool) → begins is_digit text ≡ b → Front text
    by true letter b digit = of_path letter (path_or_none (suc (length text)) text (omega arith))
    by false letter true digit = of_number digit (number_or_none (front is_in_number text))
    by false letter false digit = of_sign letter digit (first_sign signs text) refl

-- expressions

at-end : (text : List ℕ) (o : Option Tree) → MatchOption o ((tree : Tree) → IsExpression text tree → ⊥) (λ tree. IsExpression text tree) → One (IsExpression text)
at-end text (Some tree) h = inl (tree, h)
at-end text None h = inr h

-- expressions that go on from states with less of the text left
abbrev Later : ℕ → List ℕ → Type 0
Later n text = (state : State) (rest : List ℕ) → length rest < n → IsGoing text state rest → One (IsExpression text)

going : (n : ℕ) (text : List ℕ) (state : State) (rest : List ℕ) → length rest < n → IsGoing text state rest → One (IsExpression text)
going zero text state rest h so_far = absurd (omega arith)
going (suc n) text state rest h so_far = by (after is_blank rest) refl (λ s r less before. going n text s r less before)
  where
    passed : IsGoing text state (after is_blank rest)
    passed = going_blank text state rest so_far

    on : (left : List ℕ) → after is_blank rest ≡ left → 0 < length left → Front left → Later n text → One (IsExpression text)
    on left e some (inl f) later =
        let here : IsGoing text state left = subst (λ x. IsGoing text state x) e passed in
        later (step state f.0) f.1 (omega (arith, First-shorter left f.0 f.1 f.2, ap length e, length-after is_blank rest)) (going_part text state left f.0 f.1 here f.2)
    on left e some (inr none) later =
        let here : IsGoing text state left = subst (λ x. IsGoing text state x) e passed in
        inr (going_stuck text state left here (ap (begins is_blank) (sym e) ∙ begins-after is_blank rest) some none)

    by : (left : List ℕ) → after is_blank rest ≡ left → Later n text → One (IsExpression text)
    by [] e later = at-end text (finish state) (going_end text state [] (finish state) (subst (λ x. IsGoing text state x) e passed) refl refl)
    by (b ∷ left) e later = on (b ∷ left) e (omega arith) (front_or_none (b ∷ left)) later

pub expression_or_none : (text : List ℕ) → ((tree : Tree) × IsExpression text tree) ⊎ ((tree : Tree) → IsExpression text tree → ⊥)
expression_or_none text = going (suc (length text)) text (Wants []) text (omega arith) (going_start text)
