-- How the logic tells declarations apart, so that a schema may be seen as their list. Nothing else goes by these codes.
use Rattle.std.proofs.Common.{◌≡◌, ◌≢◌, ℕ, List, Option, refl, ap, inl, inr, ◌⊎◌, arith}
use Rattle.std.specs.Coded.{Coded, code_by, coded×, coded⊎, coded_ℕ, coded_list, coded_option}
use base.Stored.{Gv, gnil, gnum, gcons, coded_unit}
use Rattle.nif_schema.specs.Expression.{Tree, Number, Arg, Path, Not, Two}
use Rattle.nif_schema.specs.Declaration.{Name, Formula, Read, Bad, Field, Declaration}
use Rattle.nif_schema.specs.declared.decls.What.{What}
use Rattle.nif_schema.specs.declared.fields.Bound.{Bound}
use Rattle.nif_schema.specs.declared.fields.Exact.{Exact}
use Rattle.nif_schema.specs.contracts.exprs.Op as operator
use Rattle.nif_schema.specs.contracts.decls.What as what
use Rattle.nif_schema.specs.contracts.fields.Bound as bound
use Rattle.nif_schema.specs.contracts.fields.Exact as exact

abbrev head : Gv → Gv
head gnil = gnil
head (gnum n) = gnil
head (gcons a b) = a

abbrev tail : Gv → Gv
tail gnil = gnil
tail (gnum n) = gnil
tail (gcons a b) = b

apart : (m n : ℕ) {a b : Gv} → gcons (gnum m) a ≡ gcons (gnum n) b → m ≢ n → ⊥
apart m n p other = other (cc)

abbrev pub coded_name : Coded Name
coded_name = coded_list coded_ℕ

abbrev coded_names : Coded (List Name)
coded_names = coded_list coded_name

abbrev pub tree_code : Tree → Gv
tree_code (Number value) = gcons (gnum 0) (coded_ℕ.code value)
tree_code Arg = gcons (gnum 1) gnil
tree_code (Path names) = gcons (gnum 2) (coded_names.code names)
tree_code (Not of) = gcons (gnum 3) (tree_code of)
tree_code (Two op left right) =
    gcons (gnum 4) (gcons (operator.the_row.coded.code op) (gcons (tree_code left) (tree_code right)))

pub tree_inj : (x y : Tree) → tree_code x ≡ tree_code y → x ≡ y
tree_inj (Number a) (Number a') p = ap (λ n. Number n) (coded_ℕ.inj a a' (ap tail p))
tree_inj (Number a) Arg p = absurd (apart 0 1 p (omega arith))
tree_inj (Number a) (Path a') p = absurd (apart 0 2 p (omega arith))
tree_inj (Number a) (Not a') p = absurd (apart 0 3 p (omega arith))
tree_inj (Number a) (Two a' b' c') p = absurd (apart 0 4 p (omega arith))
tree_inj Arg (Number a') p = absurd (apart 1 0 p (omega arith))
tree_inj Arg Arg p = refl
tree_inj Arg (Path a') p = absurd (apart 1 2 p (omega arith))
tree_inj Arg (Not a') p = absurd (apart 1 3 p (omega arith))
tree_inj Arg (Two a' b' c') p = absurd (apart 1 4 p (omega arith))
tree_inj (Path a) (Number a') p = absurd (apart 2 0 p (omega arith))
tree_inj (Path a) Arg p = absurd (apart 2 1 p (omega arith))
tree_inj (Path a) (Path a') p = ap (λ names. Path names) (coded_names.inj a a' (ap tail p))
tree_inj (Path a) (Not a') p = absurd (apart 2 3 p (omega arith))
tree_inj (Path a) (Two a' b' c') p = absurd (apart 2 4 p (omega arith))
tree_inj (Not a) (Number a') p = absurd (apart 3 0 p (omega arith))
tree_inj (Not a) Arg p = absurd (apart 3 1 p (omega arith))
tree_inj (Not a) (Path a') p = absurd (apart 3 2 p (omega arith))
tree_inj (Not a) (Not a') p = ap (λ of. Not of) (tree_inj a a' (ap tail p))
tree_inj (Not a) (Two a' b' c') p = absurd (apart 3 4 p (omega arith))
tree_inj (Two a b c) (Number a') p = absurd (apart 4 0 p (omega arith))
tree_inj (Two a b c) Arg p = absurd (apart 4 1 p (omega arith))
tree_inj (Two a b c) (Path a') p = absurd (apart 4 2 p (omega arith))
tree_inj (Two a b c) (Not a') p = absurd (apart 4 3 p (omega arith))
tree_inj (Two a b c) (Two a' b' c') p = λ i. Two (operator.the_row.coded.inj a a' (ap (λ g. head (tail g)) p) i)
    (tree_inj b b' (ap (λ g. head (tail (tail g))) p) i) (tree_inj c c' (ap (λ g. tail (tail (tail g))) p) i)

abbrev pub coded_tree : Coded Tree
coded_tree = record { code = tree_code; inj = tree_inj }

abbrev formula_parts : Formula → Unit {0} ⊎ Tree
formula_parts Bad = inl tt
formula_parts (Read of) = inr of

abbrev formula_of : Unit {0} ⊎ Tree → Formula
formula_of (inl _) = Bad
formula_of (inr of) = Read of

pub formula_back : (f : Formula) → formula_of (formula_parts f) ≡ f
formula_back Bad = refl
formula_back (Read of) = refl

abbrev pub coded_formula : Coded Formula
coded_formula = code_by (Unit {0} ⊎ Tree) (coded⊎ coded_unit coded_tree) formula_parts formula_of formula_back

abbrev pub coded_field : Coded Field
coded_field =
    code_by (Name × (Name × (Option Name × (Option Formula
    × (Option Formula × (Option Formula × (Option Formula
    × (Option Formula × (Option Bound × (Option Bound
    × (Option Exact × (Option Exact × (Option Name × Option Name)))))))))))))
    (coded× coded_name (coded× coded_name (coded× (coded_option coded_name)
    (coded× (coded_option coded_formula) (coded× (coded_option coded_formula)
    (coded× (coded_option coded_formula) (coded× (coded_option coded_formula)
    (coded× (coded_option coded_formula) (coded× (coded_option bound.the_row.coded)
    (coded× (coded_option bound.the_row.coded) (coded× (coded_option exact.the_row.coded)
    (coded× (coded_option exact.the_row.coded) (coded× (coded_option coded_name)
    (coded_option coded_name))))))))))))))
    (λ f. (
      f.name,
      (
        f.kind,
        (
          f.template,
          (
            f.arg,
            (
              f.length,
              (f.width, (f.cond, (f.vercond, (f.since, (f.until, (f.user, (f.bs, (f.only, f.exclude)))))))),
            ),
          ),
        ),
      ),
    ))
    (λ t. record { name = t.0; kind = t.1.0; template = t.1.1.0; arg = t.1.1.1.0; length = t.1.1.1.1.0; width = t.1.1.1.1.1.0; cond = t.1.1.1.1.1.1.0; vercond = t.1.1.1.1.1.1.1.0; since = t.1.1.1.1.1.1.1.1.0; until = t.1.1.1.1.1.1.1.1.1.0; user = t.1.1.1.1.1.1.1.1.1.1.0; bs = t.1.1.1.1.1.1.1.1.1.1.1.0; only = t.1.1.1.1.1.1.1.1.1.1.1.1.0; exclude = t.1.1.1.1.1.1.1.1.1.1.1.1.1 }) (λ _. refl)

abbrev pub coded_declaration : Coded Declaration
coded_declaration =
    code_by (Name × (What × List Field)) (coded× coded_name (coded× what.the_row.coded (coded_list coded_field)))
    (λ d. (d.name, (d.what, d.fields))) (λ t. record { name = t.0; what = t.1.0; fields = t.1.1 }) (λ _. refl)
