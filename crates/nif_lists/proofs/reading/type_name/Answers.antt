use Rattle.std.proofs.Common.{◌≡◌, ◌∙◌, ap, arith}
use Rattle.std.specs.Option.{unwrap_or}
use Rattle.nif_region.specs.Contents.{find}
use Rattle.nif_lists.specs.Passing.{behind_first, behind_step}
use Rattle.nif_lists.proofs.NameLaws.{inside, name_in}
use Rattle.nif_lists.proofs.reading.type_name.Goals as goal

pub returns : goal.returns
returns c =
    let first = c.walk-walk.result.ahead in
    let place : c.loop.counter ≡ unwrap_or c.args.places.now.types 0 = omega arith in
    let passed : c.loop-2.counter ≡ c.args.entry = omega arith in
    let row : c.loop.walk.ahead ≡ behind_first (unwrap_or c.args.places.now.types 0) (behind_step first) =
    c.loop.invariant ∙ ap (λ w. behind_first c.loop.counter w.ahead) c.next-group.ensures.new ∙ ap (λ k. behind_first k (behind_step first)) place in
    let string : c.loop-2.walk.ahead ≡ inside (unwrap_or c.args.places.now.types 0) c.args.entry first =
    c.loop-2.invariant ∙ ap (λ w. behind_first c.loop-2.counter w.ahead) c.next-row.ensures.new
    ∙ ap (λ k. behind_first k (behind_step c.loop.walk.ahead)) passed ∙ ap (λ a. behind_first c.args.entry (behind_step a)) row in
    let last : c.next-length.new.self.ahead ≡ behind_step (behind_step (inside (unwrap_or c.args.places.now.types 0) c.args.entry first)) =
    ap (λ w. w.ahead) c.next-length.ensures.new ∙ ap (λ w. behind_step w.ahead) c.next-string.ensures.new ∙ ap (λ a. behind_step (behind_step a)) string in
    name_in c.args.places.now c.args.entry (find c.args.store.now.trees c.args.header.run.key) c.read_run.result first c.next-length.new.self.ahead c.walk-walk.ensures.ahead last c.read_run.ensures
