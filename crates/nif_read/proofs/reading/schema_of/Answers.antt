use Rattle.std.proofs.Common.{◌≤◌, ◌<◌, ◌^◌, ◌≡◌, List, length, arith, ap, sym, subst}
use Rattle.std.specs.List.{All}
use Rattle.std.proofs.lemmas.List.Elements.{All-from_recursion, All-weaker}
use Rattle.nif_text.specs.Tree.{Tree, children_of}
use Rattle.nif_attributes.specs.Attributes.{replaced_by}
use Rattle.nif_attributes.specs.Tokens.{groups_of}
use Rattle.nif_read.proofs.Trees.{few_children, few_below}
use Rattle.nif_read.proofs.Walk.{other_root, same_root, alike, declares, faults_in}
use Rattle.nif_read.proofs.reading.schema_of.Goals as goal

pub returns-then-ne-clause-err : goal.returns-then-ne-clause-err
returns-then-ne-clause-err c = other_root c.args.root.now c.name_of.result.now c.as_slice.result.now c.ne.result c.name_of.ensures c.as_slice.ensures c.ne.ensures c.if-ne.true

pub declarations-requires-clause-all : goal.declarations-requires-clause-all
declarations-requires-clause-all c =
    let same : length c.children_of.result.now ≡ length (children_of c.args.root.now) = ap (λ (xs : List Tree). length xs) c.children_of.ensures in
    omega (arith, few_children (2 ^ 22) c.args.root.now c.requires, same)

pub declarations-requires-clause-few : goal.declarations-requires-clause-few
declarations-requires-clause-few c =
    subst (λ (xs : List Tree). All (λ child. length (children_of child) < 2 ^ 32) xs) (sym c.children_of.ensures)
    (All-weaker (λ child. length (children_of child) ≤ 2 ^ 22) (λ child. length (children_of child) < 2 ^ 32) (λ child h. omega (arith, h)) (children_of c.args.root.now)
    (All-from_recursion (λ child. length (children_of child) ≤ 2 ^ 22) (children_of c.args.root.now) (few_below (2 ^ 22) c.args.root.now c.requires)))

pub returns-in-Ok-clause-ok : goal.returns-in-Ok-clause-ok
returns-in-Ok-clause-ok c =
    declares c.args.root.now (replaced_by c.in-Ok.tokens) c.children_of.result.now c.declarations.result
    (alike c.in-Ok.tokens (groups_of (children_of c.args.root.now)) c.in-Ok.ensures) c.children_of.ensures
    (same_root c.args.root.now c.name_of.result.now c.as_slice.result.now c.ne.result c.name_of.ensures c.as_slice.ensures c.ne.ensures c.if-ne.false)
    c.declarations.ensures.sound c.declarations.ensures.declared

pub returns-in-Ok-clause-err : goal.returns-in-Ok-clause-err
returns-in-Ok-clause-err c =
    faults_in c.args.root.now (replaced_by c.in-Ok.tokens) c.children_of.result.now c.declarations.result
    (alike c.in-Ok.tokens (groups_of (children_of c.args.root.now)) c.in-Ok.ensures) c.children_of.ensures
    (same_root c.args.root.now c.name_of.result.now c.as_slice.result.now c.ne.result c.name_of.ensures c.as_slice.ensures c.ne.ensures c.if-ne.false)
    c.declarations.ensures.err
