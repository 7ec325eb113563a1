use Rattle.wp_fast.proofs.needed.ways_through.Goals as goal

pub returns-in-Some-clause-value : goal.returns-in-Some-clause-value
returns-in-Some-clause-value c =
    (c.args.aisles.now.kept_for c.in-Some.kept c.in-Some.is).unmarked c.args.aisle c.requires c.if-not-kept-aisle.true _
