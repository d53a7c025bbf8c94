use Rattle.std.proofs.Common.{ℕ, List, length, sym, ◌∙◌, ap, subst}
use Rattle.std.proofs.lemmas.Result.{err_from_is_err_and}
use Rattle.nif_text.specs.Parts.{Byte}
use Rattle.nif_base.specs.Ascii.{is_blank}
use Rattle.nif_text.specs.Bytes.{Name}
use Rattle.nif_text.specs.Reading.{Longest}
use Rattle.nif_text.proofs.Attributes.{attribute_never-blank, attribute_never-name, attribute_stops, some_blanks}
use Rattle.nif_text.proofs.attribute.attribute.Goals as goal

pub returns-then-rest-before-clause-read : goal.returns-then-rest-before-clause-read
returns-then-rest-before-clause-read c =
    let run = c.skip_blanks.ensures.run in (
      attribute_never-blank run.0 c.args.text.now c.skip_blanks.new.self run.1
          (ap length (sym c.rest.ensures.text) ∙ c.if-rest-before.true ∙ ap length c.rest-before.ensures.text),
      run.0,
      run.1,
    )

pub returns-in_default-clause-read : goal.returns-in_default-clause-read
returns-in_default-clause-read c =
    let run = c.skip_blanks.ensures.run in
    let Q : List ℕ → Type 0 = λ x. Longest (Byte is_blank) run.0 c.args.text.now x in (
      attribute_never-name run.0 c.args.text.now c.skip_blanks.new.self run.1 c.in_default.ensures.none,
      run.0,
      subst Q (sym c.in_default.ensures.stays) run.1,
    )

pub returns-in_err-value-clause-read : goal.returns-in_err-value-clause-read
returns-in_err-value-clause-read c =
    let p = err_from_is_err_and c.from_residual.result c.from_residual.ensures.1 in
    let run = c.skip_blanks.ensures.run in
    rw (p.1, p.2)
    (attribute_stops c.in_err-value.field-0.0 run.0 c.args.text.now c.skip_blanks.new.self c.in-Some.name.now c.name.new.self c.assigned.new.text c.assigned.new.text run.1
    c.in-Some.ensures.name c.in-Some.ensures.some c.in_err-value.ensures.value)

pub returns-clause-read : goal.returns-clause-read
returns-clause-read c =
    let run = c.skip_blanks.ensures.run in
    record {
      name_at = c.skip_blanks.new.self;
      value_at = c.name.new.self;
      blanks = some_blanks run.0 c.args.text.now c.skip_blanks.new.self run.1.many
          (λ e. c.if-rest-before.false (ap length c.rest.ensures.text ∙ e ∙ ap length (sym c.rest-before.ensures.text)));
      name = let Q : List ℕ → Type 0 = λ x. Name x c.skip_blanks.new.self c.name.new.self in subst Q (sym c.in_ok-name.ensures) c.in-Some.ensures.name;
      value = c.in_ok-value.ensures.value;
    }
