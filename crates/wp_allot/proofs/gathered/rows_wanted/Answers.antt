use Rattle.std.proofs.Common.{◌≡◌, ◌+◌, ◌<◌, length, sym, take, arith}
use Rattle.wp_model.proofs.Elements.{All-at}
use Rattle.wp_allot.proofs.GatheredWants.{border_first}
use Rattle.wp_allot.proofs.WantedPlaces.{no_places, places-le, places_more}
use Rattle.wp_allot.specs.Wants.{wanted_places}
use Rattle.wp_allot.specs.declared.want.Want.{Want}
use Rattle.wp_allot.proofs.gathered.rows_wanted.Goals as goal

pub loop-start-init : goal.loop-start-init
loop-start-init c = record {
  rows = sym (no_places c.args.stock.now.rows c.args.wants.now);
  border = border_first c.args.wants.now;
  within = omega arith;
}

pub places-requires : goal.places-requires
places-requires c =
    let of = c.wants_at-of.ensures in
    omega (
      arith,
      of.article,
      All-at (λ (want : Want). want.article < length c.args.stock.now.articles) c.args.wants.now c.loop-start.start of.first
          c.requires.within of.there,
    )

-- the rows of one article more
more : (c : goal.After-from-rows) → c.loop-start.rows + c.from-rows.result ≡ wanted_places c.args.stock.now.rows
    (take c.wants_at-of.result.end c.args.wants.now)
more c = omega (
  arith,
  c.loop-start.invariant.rows,
  c.from-rows.ensures,
  c.places.ensures,
  places_more c.args.stock.now.rows c.args.wants.now c.loop-start.start c.wants_at-of.result c.requires.gathered.turn c.wants_at-of.ensures,
)

pub overflow_add-rows : goal.overflow_add-rows
overflow_add-rows c =
    omega (arith, more c, places-le c.args.stock.now.rows (take c.wants_at-of.result.end c.args.wants.now), c.requires.read.most)

pub loop-start-preserved : goal.loop-start-preserved
loop-start-preserved c = record { rows = more c; border = c.wants_at-of.ensures.border; within = c.wants_at-of.ensures.within }

pub returns-clause-few : goal.returns-clause-few
returns-clause-few c =
    omega (arith, c.loop-start.invariant.rows, places-le c.args.stock.now.rows (take c.loop-start.start c.args.wants.now), c.requires.read.most)
