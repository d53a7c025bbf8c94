use Rattle.std.proofs.Common.{◌≡◌, length, map, sym, ap, arith}
use Rattle.nif_schema.specs.Schema.{Schema}
use Rattle.nif_attributes.specs.Attributes.{replaced_by}
use Rattle.nif_read.specs.Schemas.{first_fault}
use Rattle.nif_read.proofs.Walk.{declared-none, rest-step, done-step, few-step}
use Rattle.nif_read.proofs.reading.declarations.Goals as goal

pub loop-number-init : goal.loop-number-init
loop-number-init c =
    let none : length c.new-schema.result ≡ 0 = ap (λ (s : Schema). length s) c.new-schema.ensures in
    record {
      rest = ap (λ (s : Schema). first_fault (replaced_by c.args.tokens.now) (map (λ d. d.name) s) 0 c.args.children.now) (sym c.new-schema.ensures);
      done = declared-none (replaced_by c.args.tokens.now) c.new-schema.result c.new-schema.ensures;
      few = omega arith;
    }

pub loop-number-preserved : goal.loop-number-preserved
loop-number-preserved c =
    let R = replaced_by c.args.tokens.now in
    let i = c.loop-number.number in
    let x = c.index-children-number.result in
    record {
      rest = rest-step R c.args.children.now i x c.loop-number.schema c.child.new.schema c.loop-number-test.true c.index-children-number.is c.in_ok-child.ensures.ok c.loop-number.invariant.rest;
      done = done-step R c.args.children.now i x c.loop-number.schema c.child.new.schema c.loop-number-test.true c.index-children-number.is c.in_ok-child.ensures.ok c.loop-number.invariant.done;
      few = few-step R i i x c.loop-number.schema c.child.new.schema c.in_ok-child.ensures.ok c.loop-number.invariant.few;
    }
