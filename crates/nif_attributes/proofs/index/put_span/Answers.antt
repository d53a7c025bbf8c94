use Rattle.std.proofs.Common.{ℕ, Vec, Global}
use Rattle.nif_attributes.proofs.Finding.{put-insert_entry}
use Rattle.nif_attributes.proofs.index.put_span.Goals as goal
use Rattle.nif_attributes.proofs.index.put_span.Goals.{in-Ok-insert, in-Err}

pub returns : goal.returns
returns c =
    elim c.match-insert.branch [
      | in-Ok-insert w ↦
          rw w.result-is
          (put-insert_entry (λ (key : Vec ℕ Global). key.items) c.args.spans.now.entries c.in-Ok.token c.args.span c.insert.new.self.entries c.args.token.now
          c.in-Ok.ensures.items w.in-Ok-insert.ensures.entries)
      | in-Err w ↦ rw w.result-is tt
    ]
