use Rattle.std.proofs.Common.{◌≡◌, ◌∙◌, subst, ◌+◌, ◌<◌, length, slice_index, slice_index_or, arith, length-set}
use Rattle.std.proofs.lemmas.List.{get_or_default}
use Rattle.std.proofs.lemmas.Option.{slice_get-get_or}
use Rattle.wp_model.specs.declared.location.Side.TheVariants.{L}
use Rattle.wp_model.specs.declared.row.Row.{Row}
use Rattle.wp_book.proofs.FreeCounts.{CountsFirst, all_counted, countable, counts_next}
use Rattle.wp_book.proofs.FreeUnits.{most_counted}
use Rattle.wp_book.proofs.rows.count_free.Goals as goal

abbrev none : Row
none = record { location = record { aisle = 0; slot = 0; side = L }; article = 0; on_hand = 0; free = 0; held = 0 }

pub overflow_add-index_mut : goal.overflow_add-index_mut
overflow_add-index_mut c =
    let rows = c.args.rows.now in
    let i = c.loop-row.row-index in
    let free = c.loop-row.free.items in
    let r = slice_index_or rows i none in
    let there = slice_get-get_or rows i none c.loop-row-test.true in
    let is = countable rows c.args.articles c.requires.rows c.requires.known i r there in
    let count : c.index_mut.result.now ≡ slice_index free r.article =
    c.index_mut.ensures.value ∙ get_or_default free r.article c.index_mut.result.now 0 (omega (arith, is.article, c.loop-row.invariant.long)) in
    omega (
      arith,
      count,
      c.loop-row.invariant.counts r.article,
      most_counted i rows r.article c.args.articles (λ k r there. countable rows c.args.articles c.requires.rows c.requires.known k r there),
      is.fits,
      c.from.ensures,
      c.requires.few,
      c.loop-row-test.true,
    )

pub loop-row-preserved : goal.loop-row-preserved
loop-row-preserved c =
    let rows = c.args.rows.now in
    let i = c.loop-row.row-index in
    let free = c.loop-row.free.items in
    let r = slice_index_or rows i none in
    let n = c.index_mut.result.now + c.from.result in
    let there = slice_get-get_or rows i none c.loop-row-test.true in
    let is = countable rows c.args.articles c.requires.rows c.requires.known i r there in
    let within : r.article < length free = omega (arith, is.article, c.loop-row.invariant.long) in
    let count : c.index_mut.result.now ≡ slice_index free r.article =
    c.index_mut.ensures.value ∙ get_or_default free r.article c.index_mut.result.now 0 within in
    record {
      long = length-set free r.article n ∙ c.loop-row.invariant.long;
      counts = counts_next rows i free r n c.loop-row.invariant.counts there within (omega (arith, count, c.from.ensures));
    }

pub returns : goal.returns
returns c =
    let rows = c.args.rows.now in
    let all : c.loop-row.row-index ≡ length rows = omega arith in
    all_counted rows c.args.articles c.loop-row.free.items c.requires.few c.requires.rows c.requires.known c.loop-row.invariant.long
    (subst (λ n. CountsFirst rows n c.loop-row.free.items) all c.loop-row.invariant.counts)
