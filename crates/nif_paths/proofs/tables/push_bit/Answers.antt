use Rattle.std.proofs.Common.{◌≡◌, ◌++◌, ◌∷◌, [], cond, bytes_eq, OnOk, Ok, Err, Result, sym, ap, ◌∙◌}
use Rattle.std.specs.Option.{option_map_or}
use Rattle.std.proofs.Common.{◌≢◌, Option, Some, None, IfSome, is_some, true, false, refl}
use denote.Bor.{Bor}
use Rattle.nif_names.specs.Shapes.{Stack}
use Rattle.nif_names.specs.Tables.{held}
use Rattle.nif_paths.specs.Shaped.{bit_shape}
use Rattle.nif_paths.proofs.TableLemmas.{HasBits-again, HasBits-push}
use Rattle.nif_paths.proofs.tables.push_bit.Goals as goal

on : {E : Type 0} {P Q : Type 0} (r : Result (Unit {0}) E) → OnOk r P → (P → Q) → OnOk r Q
on (Ok x) p f = f p
on (Err e) p f = tt

looked_none : (o : Option (Bor Stack)) → is_some o ≡ false → option_map_or (λ s. s.now.shapes) o [] ≡ []
looked_none None e = refl
looked_none (Some x) e = absurd (cc)

looked_some : (o : Option (Bor Stack)) → is_some o ≡ true → IfSome o (λ s. s.now.shapes ≢ []) → option_map_or (λ s. s.now.shapes) o [] ≡ [] → ⊥
looked_some None e some none = cc
looked_some (Some x) e some none = some none

pub returns-then-is_some : goal.returns-then-is_some
returns-then-is_some c = λ members m same has. HasBits-again members m c.args.names.now (λ none. looked_some c.look.result (sym c.if-is_some.ensures) c.look.ensures.some (c.look.ensures.value ∙ ap (held c.args.names.now) (sym same) ∙ none)) has

pub returns : goal.returns
returns c = on c.push.result c.push.ensures.shapes (λ is members m same has.
    HasBits-push members m c.args.names.now c.push.new.self (ap (held c.args.names.now) same ∙ sym c.look.ensures.value ∙ looked_none c.look.result (sym c.if-is_some.ensures))
    (λ other. is other ∙ ap (λ n. cond (bytes_eq other n) (held c.args.names.now other ++ bit_shape ∷ []) (held c.args.names.now other)) (sym same)) has)
