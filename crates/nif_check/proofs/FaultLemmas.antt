-- The first rule that fails.
use Rattle.std.proofs.Common.{◌≡◌, ℕ, zero, suc, List, [], ◌∷◌, refl, ap}
use Rattle.nif_schema.specs.Schema.{Schema}
use Rattle.nif_schema.specs.Roles.{FirstFails, Roles, rules, RoleFault}

abbrev AllHold : List (Type 0) → Type 0
AllHold [] = Unit {0}
AllHold (rule ∷ rules) = rule × AllHold rules

none_fails : (rules : List (Type 0)) (number : ℕ) → AllHold rules → FirstFails rules number → ⊥
none_fails [] number all fault = fault
none_fails (rule ∷ rules) zero all fault = fault
none_fails (rule ∷ rules) (suc zero) all fault = fault all.0
none_fails (rule ∷ rules) (suc (suc number)) all fault = none_fails rules (suc number) all.1 fault.1

pub no_fault : (schema : Schema) (rule : ℕ) → Roles schema → RoleFault schema rule → ⊥
no_fault schema rule r fault = none_fails (rules schema) rule (r.roots, (r.header_line, (r.version, (r.count, (r.user_versions, (r.lists, (r.sized_strings, (r.independent, (r.refers_nowhere, tt))))))))) fault

one_fails : (rules : List (Type 0)) (a b : ℕ) → FirstFails rules a → FirstFails rules b → a ≡ b
one_fails [] a b f g = absurd f
one_fails (rule ∷ rules) zero b f g = absurd f
one_fails (rule ∷ rules) (suc a) zero f g = absurd g
one_fails (rule ∷ rules) (suc zero) (suc zero) f g = refl
one_fails (rule ∷ rules) (suc zero) (suc (suc b)) f g = absurd (f g.0)
one_fails (rule ∷ rules) (suc (suc a)) (suc zero) f g = absurd (g f.0)
one_fails (rule ∷ rules) (suc (suc a)) (suc (suc b)) f g = ap suc (one_fails rules (suc a) (suc b) f.1 g.1)

pub one_fault : (schema : Schema) (a b : ℕ) → RoleFault schema a → RoleFault schema b → a ≡ b
one_fault schema a b f g = one_fails (rules schema) a b f g
