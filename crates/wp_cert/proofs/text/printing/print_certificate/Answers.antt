use Rattle.wp_cert.specs.TextData.{terms_written, wave_places}
use Rattle.wp_cert.proofs.TextPlain.{printed, read_again}
use Rattle.wp_cert.proofs.TextTold.{told_again}
use Rattle.wp_cert.proofs.text.printing.print_certificate.Goals as goal

pub returns-clause-text : goal.returns-clause-text
returns-clause-text c =
    printed _ c.args.wave.now c.args.capacity c.args.tree.now _ c.in_ok-value.ensures.value c.in_ok-to_vec.ensures.text

pub returns-clause-told : goal.returns-clause-told
returns-clause-told c =
    let wave = c.args.wave.now in
    let tree = c.args.tree.now in
    let made = c.in_ok-value.ensures in
    let read = read_again _ (wave_places wave) wave.cart (terms_written wave.layout tree.cuts) c.args.capacity tree.nodes _ made.value
    c.in_ok-to_vec.ensures.reads_back in
    told_again wave c.args.capacity tree _ made.valid made.slots c.requires.some c.requires.most c.requires.duals made.nodes made.cuts
    c.in_ok-to_vec.ensures.utf8 read
