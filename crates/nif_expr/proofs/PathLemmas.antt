-- How far the names of a path were read.
use Rattle.std.proofs.Common.{◌≡◌, ℕ, suc, ◌+◌, ◌<◌, ◌≤◌, Bool, true, false, cond, List, [], ◌∷◌, ◌++◌, ◌⊎◌, length, refl, sym, ap, ◌∙◌, subst, arith, inl, inr, append_assoc, append-nil, length-append}
use Rattle.std.specs.Prelude.{◌==◌, ◌||◌}
use Rattle.nif_expr.specs.Value.{Names}
use Rattle.nif_base.specs.Ascii.{is_blank, is_digit}
use Rattle.nif_expr.specs.Bytes.{is_letter, is_in_name, is_backslash, begins, front, after, trimmed}
use Rattle.nif_expr.specs.Parts.{Joined, last, more}
use Rattle.nif_expr.proofs.OneReading.{unlike, Joined-letter}

-- what may follow a name: nothing of the path, or `\` and more names
abbrev pub IsTail : List ℕ → Names → List ℕ → Type 0
IsTail rest names end =
    (names ≡ [] × rest ≡ end × begins is_backslash rest ≡ false)
    ⊎ ((next : List ℕ) × (rest ≡ 92 ∷ next) × Joined (after is_blank next) names end)

-- the names so far, and what follows them
pub record IsWay (text : List ℕ) (path : Names) (rest : List ℕ) : Type 0 where
  pub goes : (names : Names) (end : List ℕ) → IsTail rest names end → Joined text (path ++ names) end
  pub only : (names : Names) (end : List ℕ) → Joined text names end → (tail : Names) × (names ≡ path ++ tail) × IsTail rest tail end
  pub shorter : length path + length rest ≤ length text

pub length-after : (class : ℕ → Bool) (text : List ℕ) → length (after class text) ≤ length text
length-after class [] = omega arith
length-after class (b ∷ text) = length-after-at (class b) (length-after class text)
  where
    length-after-at : (r : Bool) → length (after class text) ≤ length text → length (cond r (after class text) (b ∷ text)) ≤ suc (length text)
    length-after-at true h = omega (arith, h)
    length-after-at false h = omega arith

pub length-after-begins : (class begin : ℕ → Bool) (text : List ℕ) → ((b : ℕ) → begin b ≡ true → class b ≡ true) → begins begin text ≡ true
    → length (after class text) < length text
length-after-begins class begin [] within h = cc
length-after-begins class begin (b ∷ text) within h =
    let e : length (after class (b ∷ text)) ≡ length (after class text) =
    ap (λ r. length (cond r (after class text) (b ∷ text))) (within b h) in
    omega (arith, e, length-after class text)

pub letter-name : (b : ℕ) → is_letter b ≡ true → is_in_name b ≡ true
letter-name b h = ap (λ l. l || is_digit b || b == 63 || b == 58 || b == 39 || is_blank b) h

pub way_first : (text : List ℕ) → begins is_letter text ≡ true
    → IsWay text (trimmed (front is_in_name text) ∷ []) (after is_in_name text)
way_first text letter = record {
  goes = goes;
  only = only;
  shorter = let h = length-after-begins is_in_name is_letter text letter-name letter in omega (arith, h);
}
  where
    goes : (names : Names) (end : List ℕ) → IsTail (after is_in_name text) names end → Joined text (trimmed (front is_in_name text) ∷ names) end
    goes names end (inl t) =
        subst (λ x. Joined text (trimmed (front is_in_name text) ∷ x) end) (sym t.0)
        (subst (λ x. Joined text (trimmed (front is_in_name text) ∷ []) x) t.1 (last letter t.2))
    goes names end (inr t) = more letter t.1 t.2

    only : (names : Names) (end : List ℕ) → Joined text names end
        → (tail : Names) × (names ≡ trimmed (front is_in_name text) ∷ tail) × IsTail (after is_in_name text) tail end
    only _ _ (last l stops) = ([], refl, inl (refl, refl, stops))
    only _ end (more {next = next} {names = names} l goes_on tail) = (names, refl, inr (next, goes_on, tail))

module _ (text : List ℕ) (path : Names) (rest next : List ℕ) (way : IsWay text path rest) (slash : rest ≡ 92 ∷ next) where
  tail_next : (names : Names) (end : List ℕ) → IsTail rest names end → Joined (after is_blank next) names end
  tail_next names end (inl t) = unlike (ap (begins is_backslash) slash) t.2
  tail_next names end (inr t) = let same : t.0 ≡ next = let e : 92 ∷ t.0 ≡ 92 ∷ next = sym t.1 ∙ slash in cc in
      subst (λ x. Joined (after is_blank x) names end) same t.2

  pub way_stuck : begins is_letter (after is_blank next) ≡ false → (names : Names) (end : List ℕ) → Joined text names end → ⊥
  way_stuck other names end joined = let h = way.only names end joined in
      unlike (Joined-letter (after is_blank next) h.0 end (tail_next h.0 end h.2)) other

  pub way_next : begins is_letter (after is_blank next) ≡ true
      → IsWay text (path ++ trimmed (front is_in_name (after is_blank next)) ∷ []) (after is_in_name (after is_blank next))
  way_next letter = let first = way_first (after is_blank next) letter in record {
    goes = λ names end tail.
        subst (λ x. Joined text x end) (sym (append_assoc path (trimmed (front is_in_name (after is_blank next)) ∷ []) names))
        (way.goes (trimmed (front is_in_name (after is_blank next)) ∷ names) end (inr (next, slash, first.goes names end tail)));
    only = λ names end joined.
        let h = way.only names end joined in
        let g = first.only h.0 end (tail_next h.0 end h.2) in (
          g.0,
          h.1 ∙ ap (λ x. path ++ x) g.1 ∙ sym (append_assoc path (trimmed (front is_in_name (after is_blank next)) ∷ []) g.0),
          g.2,
        );
    shorter = omega (arith, length-append path (trimmed (front is_in_name (after is_blank next)) ∷ []), first.shorter, length-after is_blank next, ap length slash, way.shorter);
  }

pub way_done : (text : List ℕ) (path : Names) (rest : List ℕ) → IsWay text path rest → begins is_backslash rest ≡ false → Joined text path rest
way_done text path rest way stops = subst (λ x. Joined text x rest) (append-nil path) (way.goes [] rest (inl (refl, refl, stops)))

-- the same, of names and rests that are told by equations

pub way_begun : (text : List ℕ) (path : Names) (rest : List ℕ) → true ≡ begins is_letter text
    → path ≡ trimmed (front is_in_name text) ∷ [] → rest ≡ after is_in_name text → IsWay text path rest
way_begun text path rest letter named left =
    subst (λ p. IsWay text p rest) (sym named) (subst (λ r. IsWay text (trimmed (front is_in_name text) ∷ []) r) (sym left) (way_first text (sym letter)))

pub way_ended : (text : List ℕ) (path : Names) (rest next blanks : List ℕ) → IsWay text path rest → rest ≡ 92 ∷ next
    → blanks ≡ after is_blank next → false ≡ begins is_letter blanks → (names : Names) (end : List ℕ) → Joined text names end → ⊥
way_ended text path rest next blanks way slash passed other names end joined =
    way_stuck text path rest next way slash (ap (begins is_letter) (sym passed) ∙ sym other) names end joined

pub way_longer : (text : List ℕ) (path : Names) (rest next blanks : List ℕ) (longer : Names) (name left : List ℕ) → IsWay text path rest
    → rest ≡ 92 ∷ next → blanks ≡ after is_blank next → true ≡ begins is_letter blanks → name ≡ trimmed (front is_in_name blanks)
    → longer ≡ path ++ name ∷ [] → left ≡ after is_in_name blanks → IsWay text longer left
way_longer text path rest next blanks longer name left way slash passed letter named added rest_is =
    let step = way_next text path rest next way slash (ap (begins is_letter) (sym passed) ∙ sym letter) in
    let names : longer ≡ path ++ trimmed (front is_in_name (after is_blank next)) ∷ [] =
    added ∙ ap (λ x. path ++ x ∷ []) (named ∙ ap (λ x. trimmed (front is_in_name x)) passed) in
    let end : left ≡ after is_in_name (after is_blank next) = rest_is ∙ ap (after is_in_name) passed in
    subst (λ p. IsWay text p left) (sym names)
    (subst (λ r. IsWay text (path ++ trimmed (front is_in_name (after is_blank next)) ∷ []) r) (sym end) step)

pub way_less : (rest next blanks left : List ℕ) → rest ≡ 92 ∷ next → blanks ≡ after is_blank next → left ≡ after is_in_name blanks
    → length left < length rest
way_less rest next blanks left slash passed rest_is =
    omega (arith, ap length slash, ap length passed, length-after is_blank next, length-after is_in_name blanks, ap length rest_is)
