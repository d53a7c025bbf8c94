use Rattle.std.proofs.Common.{refl, true, false, ◌≡◌, sym, ◌∙◌}
use Rattle.std.proofs.lemmas.Result.{err_from_is_err_and}
use Rattle.nif_text.proofs.Starts.{start_stops, start_never-bracket, start_never-same}
use Rattle.nif_text.proofs.start.start.Goals as goal

pub returns-in_err-attrs-clause-read : goal.returns-in_err-attrs-clause-read
returns-in_err-attrs-clause-read c =
    let p = err_from_is_err_and c.from_residual.result c.from_residual.ensures.1 in
    rw (p.1, p.2)
    (start_stops c.in_err-attrs.field-0.0 c.in-Some.name.now c.args.text.now c.eat.new.self c.name.new.self c.attributes.new.text c.attributes.new.text
    (c.if-not-eat.ensures.yes refl) c.in-Some.ensures.name c.in-Some.ensures.some c.in_err-attrs.ensures.read)

pub returns-in_default-closing_bracket-clause-read :
    goal.returns-in_default-closing_bracket-clause-read
returns-in_default-closing_bracket-clause-read c =
    let read = c.in_ok-attrs.ensures.read in
    start_never-bracket c.in-Some.name.now c.in_ok-attrs.attrs c.args.text.now c.attributes.new.text (record {
      name_at = c.eat.new.self;
      attrs_at = c.name.new.self;
      blanks_at = read.0;
      opens = c.if-not-eat.ensures.yes refl;
      named = c.in-Some.ensures.name;
      whole = c.in-Some.ensures.some;
      attributes = read.1;
      blanks = (read.2, read.3);
    }) c.in_default-closing_bracket.ensures.none

pub returns-then-not-branch-clause-read : goal.returns-then-not-branch-clause-read
returns-then-not-branch-clause-read c =
    let read = c.in_ok-attrs.ensures.read in
    start_never-same c.in-Some.name.now c.in_ok-attrs.attrs c.args.text.now c.attributes.new.text (record {
      name_at = c.eat.new.self;
      attrs_at = c.name.new.self;
      blanks_at = read.0;
      opens = c.if-not-eat.ensures.yes refl;
      named = c.in-Some.ensures.name;
      whole = c.in-Some.ensures.some;
      attributes = read.1;
      blanks = (read.2, read.3);
    })
    (λ d. let e : true ≡ false = sym (c.in_ok-all_differ.ensures.1 d) ∙ c.if-not-branch.true in cc e)
