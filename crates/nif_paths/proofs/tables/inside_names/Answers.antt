use Rattle.std.proofs.Common.{IfOk, Ok, Err, Result}
use Rattle.nif_schema.specs.Declaration.{declaration}
use Rattle.nif_paths.proofs.TableLemmas.{HasInside-struct, HasInside-stored, HasInside-other}
use Rattle.nif_paths.proofs.tables.inside_names.Goals as goal

on : {X E : Type 0} {P Q : X → Type 0} (r : Result X E) → IfOk r P → ((x : X) → P x → Q x) → IfOk r Q
on (Ok x) p f = f x p
on (Err e) p f = tt

pub returns-in-Struct : goal.returns-in-Struct
returns-in-Struct c = on c.struct_names.result c.struct_names.ensures (λ t. HasInside-struct c.args.schema.now c.args.number (declaration c.decl-decl.result.now) c.decl-decl.ensures t c.in-Struct.is)

pub returns-in-Stored : goal.returns-in-Stored
returns-in-Stored c = on c.bit_names.result c.bit_names.ensures (λ t. HasInside-stored c.args.schema.now c.args.number (declaration c.decl-decl.result.now) c.decl-decl.ensures t _ _ c.in-Stored.is)

pub returns-in_default : goal.returns-in_default
returns-in_default c = HasInside-other c.args.schema.now c.args.number (declaration c.decl-decl.result.now) c.decl-decl.ensures c.new.result c.in_default.not-Struct
    (λ storage members e. c.in_default.not-Stored storage members e) c.new.ensures.shapes
