use Rattle.std.proofs.Common.{◌∙◌, refl, inr, arith}
use Rattle.wp_tables.proofs.RecordsLeft.{no_longer}
use Rattle.wp_tables.proofs.records.Records.of.Goals as goal

pub returns-clause-reading : goal.returns-clause-reading
returns-clause-reading c =
    let made = c.from_reader-reader.ensures in
    let headers = c.has_headers.ensures in
    let flexible = c.flexible.ensures in
    record {
      ready = inr (inr (rw (flexible, headers) at made.has_headers, made.headers));
      trim = rw (flexible, headers) at made.trim ∙ c.new.ensures.trim;
      config = rw (flexible, headers) at made.config ∙ c.new.ensures.config;
      flexible = rw flexible at made.flexible;
      between = rw made.state refl;
      known = rw made.source refl;
      few = rw made.source (omega (arith, no_longer c.args.text.now));
    }
