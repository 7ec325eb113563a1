use Rattle.wp_cert.proofs.TextSame.{told_once}
use Rattle.wp_cert.proofs.text.reading.read_certificate.Goals as goal

pub returns-in-Ok-clause-reads_back : goal.returns-in-Ok-clause-reads_back
returns-in-Ok-clause-reads_back c wave capacity tree also =
    told_once c.args.layout.now c.args.text.now.items c.in-Ok.certificate.wave wave c.in-Ok.certificate.capacity capacity c.in-Ok.certificate.tree
    tree c.in-Ok.ensures.told also
