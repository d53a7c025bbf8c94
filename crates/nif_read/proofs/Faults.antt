-- The fault of a declaration.
use Rattle.std.proofs.Common.{◌≡◌, ℕ, Bool, true, false, cond, List, Option, Some, None, refl, ap, ◌∙◌}
use Rattle.std.specs.List.{list_any}
use Rattle.std.specs.Str.{bytes_eq}
use Rattle.nif_schema.specs.declared.faults.SchemaFault.{SchemaFault}
use Rattle.nif_schema.specs.declared.faults.SchemaFault.TheVariants as faults
use Rattle.nif_attributes.specs.Attributes.{Text}
use Rattle.nif_read.specs.Schemas.{fault_under}

abbrev chosen : Bool → Bool → Text → ℕ → Option SchemaFault
chosen taken nameless name number = cond taken (Some (faults.DuplicateName name)) (cond nameless (Some (faults.MissingName number)) None)

under : (o : Option Text) (name : Text) (earlier : List Text) (number : ℕ) (nameless taken lacking : Bool)
    → o ≡ Some name → list_any (bytes_eq name) earlier ≡ taken → nameless ≡ lacking → fault_under o earlier number nameless ≡ chosen taken lacking name number
under o name earlier number nameless taken lacking e t l =
    ap (λ o. fault_under o earlier number nameless) e ∙ ap (λ b. chosen b nameless name number) t ∙ ap (λ b. chosen taken b name number) l

pub missing : (o : Option Text) (earlier : List Text) (number : ℕ) (nameless : Bool) → o ≡ None → fault_under o earlier number nameless ≡ Some (faults.MissingName number)
missing o earlier number nameless e = ap (λ o. fault_under o earlier number nameless) e

pub duplicate : (o : Option Text) (name : Text) (earlier : List Text) (number : ℕ) (nameless : Bool)
    → o ≡ Some name → list_any (bytes_eq name) earlier ≡ true → fault_under o earlier number nameless ≡ Some (faults.DuplicateName name)
duplicate o name earlier number nameless e t = under o name earlier number nameless true nameless e t refl

pub lacking : (o : Option Text) (name : Text) (earlier : List Text) (number : ℕ) (nameless : Bool)
    → o ≡ Some name → list_any (bytes_eq name) earlier ≡ false → nameless ≡ true → fault_under o earlier number nameless ≡ Some (faults.MissingName number)
lacking o name earlier number nameless e t l = under o name earlier number nameless false true e t l

pub sound : (o : Option Text) (name : Text) (earlier : List Text) (number : ℕ) (nameless : Bool)
    → o ≡ Some name → list_any (bytes_eq name) earlier ≡ false → nameless ≡ false → fault_under o earlier number nameless ≡ None
sound o name earlier number nameless e t l = under o name earlier number nameless false false e t l
