use Rattle.std.proofs.Common.{arith}
use Rattle.nif_tool.specs.declared.report.Fault.TheVariants as fault
use Rattle.nif_tool.proofs.Loading.{files_opened, input_opened, loaded, load_failed, failure_can, failure_is, failed_read}
use Rattle.nif_tool.proofs.files.load.Goals as goal

pub returns-in-Ok-decode_file : goal.returns-in-Ok-decode_file
returns-in-Ok-decode_file g c =
    let desk = g.S.Shelf.desk in
    let opened = c.in-Ok.ensures in
    let still = c.in-Ok-decode_file.ensures.still in
    let opens = g.met.S.Shelf.still_opens _ _ still in
    let reads = g.met.S.Source.still_counts _ _ still in
    let writes = g.met.S.Shelf.still_writes _ _ still in
    record {
      loads = loaded c.args.schema.now c.args.name.now (desk c.args.shelf.now) (g.S.Source.left c.open_input.new.self) (g.S.Source.left c.decode_file.new.source) c.in-Ok-decode_file.graph opened.there c.in-Ok-decode_file.ensures.file;
      answers = tt;
      faults = tt;
      files = files_opened (desk c.args.shelf.now) (desk c.open_input.new.self) (desk c.decode_file.new.source) c.args.name.now opened.ok (g.met.S.Shelf.still_desk _ _ still);
      causes = record {
        opens_later = omega (arith, opened.cause.later, opens);
        reads_later = omega (arith, opened.reads, reads);
        writes_later = omega (arith, opened.writes, writes);
        opening = λ e. absurd (cc);
        reading = λ e. absurd (cc);
        writing = λ e. absurd (cc);
      };
      input = λ e. absurd (cc);
      refused = λ e. absurd (cc);
    }

pub returns-in-Err-decode_file : goal.returns-in-Err-decode_file
returns-in-Err-decode_file g c =
    let desk = g.S.Shelf.desk in
    let opened = c.in-Ok.ensures in
    let still = c.in-Err-decode_file.ensures.still in
    let opens = g.met.S.Shelf.still_opens _ _ still in
    let reads = g.met.S.Source.still_counts _ _ still in
    let writes = g.met.S.Shelf.still_writes _ _ still in
    let r = c.in-Err-decode_file.fault in
    let f = c.failure.result in
    record {
      loads = load_failed g.S.Source.left g.S.Source.read_faults c.args.schema.now c.args.name.now (desk c.args.shelf.now) c.open_input.new.self c.decode_file.new.source r f
          opened.there c.failure.ensures c.in-Err-decode_file.ensures.file;
      answers = failure_can r f c.failure.ensures;
      faults = (
        λ e. failure_is r f fault.Usage c.failure.ensures e,
        λ e. failure_is r f fault.WriteFault c.failure.ensures e,
        λ e. failure_is r f fault.PrintFault c.failure.ensures e,
      );
      files = files_opened (desk c.args.shelf.now) (desk c.open_input.new.self) (desk c.decode_file.new.source) c.args.name.now opened.ok (g.met.S.Shelf.still_desk _ _ still);
      causes = record {
        opens_later = omega (arith, opened.cause.later, opens);
        reads_later = omega (arith, opened.reads, reads);
        writes_later = omega (arith, opened.writes, writes);
        opening = λ e. absurd (failure_is r f fault.OpenFault c.failure.ensures (cc));
        reading = λ e. let rose = failed_read g.S.Source.left g.S.Source.read_faults c.args.schema.now c.open_input.new.self c.decode_file.new.source r f c.failure.ensures c.in-Err-decode_file.ensures.file (cc) in omega (arith, opened.reads, rose);
        writing = λ e. absurd (failure_is r f fault.WriteFault c.failure.ensures (cc));
      };
      input = λ e. input_opened (desk c.args.shelf.now) (desk c.open_input.new.self) (desk c.decode_file.new.source) c.args.name.now opened.ok (g.met.S.Shelf.still_desk _ _ still);
      refused = λ e. absurd (failure_is r f fault.OpenFault c.failure.ensures (cc));
    }
