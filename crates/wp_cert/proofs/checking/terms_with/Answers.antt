use Rattle.wp_cert.proofs.Checked.{plain_are}
use Rattle.wp_cert.proofs.checking.terms_with.Goals as goal

pub returns-in-None-clause-right : goal.returns-in-None-clause-right
returns-in-None-clause-right c =
    (plain_are c.args.wave.now c.args.capacity.most c.args.given.now c.args.table.now _ c.in-None.is c.requires.value c.of.ensures).right

pub returns-in-None-clause-terms : goal.returns-in-None-clause-terms
returns-in-None-clause-terms c =
    (plain_are c.args.wave.now c.args.capacity.most c.args.given.now c.args.table.now _ c.in-None.is c.requires.value c.of.ensures).are
