use Rattle.std.proofs.Common.{◌≡◌, ◌+◌, ◌≤◌, ◌∙◌, ap, subst, arith, length, ℕ, refl}
use Rattle.std.proofs.lemmas.List.{length-map}
use Rattle.nif_schema.specs.Declaration.{field}
use Rattle.nif_file.specs.Files.{header_line}
use Rattle.nif_file.specs.HeaderReading.{StandsAt}
use Rattle.nif_file.proofs.LineReading.{first_field}
use Rattle.nif_file.proofs.Noting.{fields_are}
use Rattle.nif_file.proofs.header.read_members.Goals as goal

pub loop-place-init : goal.loop-place-init
loop-place-init g c =
    let ff = first_field c.args.schema.now c.requires.roles in
    let most : 1 ≤ length (header_line c.args.schema.now) = omega (arith, ap length ff.2.line) in
    record { most = most; trees = refl; none = c.requires.none; so_far = λ start st. st }

pub read_next-requires-clause-within : goal.read_next-requires-clause-within
read_next-requires-clause-within g c =
    let fields = c.decl.result.now.fields in
    let long : length (header_line c.args.schema.now) ≡ length fields = ap length (fields_are c.args.schema.now c.requires.roles c.args.header c.requires.header c.decl.result.now c.decl.ensures) ∙ length-map fields field in
    omega (arith, long, c.loop-place-test.true, c.len-place-end.ensures)

pub read_next-requires-clause-none : goal.read_next-requires-clause-none
read_next-requires-clause-none g c = c.loop-place.invariant.none

pub read_next-requires-clause-stands : goal.read_next-requires-clause-stands
read_next-requires-clause-stands g c = (c.requires.stands.0, c.loop-place.invariant.so_far c.requires.stands.0 c.requires.stands.1)

pub returns-in-Err-clause-trees : goal.returns-in-Err-clause-trees
returns-in-Err-clause-trees g c = c.read_next.ensures.trees ∙ c.loop-place.invariant.trees

pub returns-in-Err-clause-err : goal.returns-in-Err-clause-err
returns-in-Err-clause-err g c = λ start st. c.in-Err.ensures.err start (c.loop-place.invariant.so_far start st)

pub loop-place-preserved : goal.loop-place-preserved
loop-place-preserved g c =
    let fields = c.decl.result.now.fields in
    let long : length (header_line c.args.schema.now) ≡ length fields = ap length (fields_are c.args.schema.now c.requires.roles c.args.header c.requires.header c.decl.result.now c.decl.ensures) ∙ length-map fields field in
    let most : c.loop-place.place + 1 ≤ length (header_line c.args.schema.now) = omega (arith, long, c.loop-place-test.true, c.len-place-end.ensures) in
    record {
      most = most;
      trees = c.read_next.ensures.trees ∙ c.loop-place.invariant.trees;
      none = (c.read_next.ensures.blocks ∙ c.loop-place.invariant.none.0, c.read_next.ensures.strings ∙ c.loop-place.invariant.none.1);
      so_far = λ start st. c.in-Ok.ensures.ok start (c.loop-place.invariant.so_far start st);
    }

pub returns-clause-trees : goal.returns-clause-trees
returns-clause-trees g c = c.loop-place.invariant.trees

pub returns-clause-ok : goal.returns-clause-ok
returns-clause-ok g c = λ start st.
    let fields = c.decl.result.now.fields in
    let long : length (header_line c.args.schema.now) ≡ length fields = ap length (fields_are c.args.schema.now c.requires.roles c.args.header c.requires.header c.decl.result.now c.decl.ensures) ∙ length-map fields field in
    let all : c.loop-place.place ≡ length (header_line c.args.schema.now) = omega (arith, long, c.loop-place.invariant.most, c.loop-place-test.false, c.len-place-end.ensures) in
    subst (λ (k : ℕ). StandsAt g.S.Source.left g.S.Source.still g.S.Source.read_faults c.args.schema.now c.args.header k start c.loop-place.taker c.loop-place.scope c.loop-place.store.building c.loop-place.bounds.nodes c.loop-place.head) all
    (c.loop-place.invariant.so_far start st)
