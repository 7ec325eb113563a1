use Rattle.std.proofs.Common.{◌∙◌, sym, ap, subst, get_or, List, Option, None, ℕ, slice_get, arith}
use Rattle.std.proofs.lemmas.Option.{get_or_from_slice_get, slice_get-get_or, slice_get_within}
use Rattle.wp_floor.specs.Takers.{IsPutAt}
use Rattle.wp_floor.proofs.OrderNames.{put_more}
use Rattle.wp_floor.proofs.OrderNumbers.{named_at, number_within}
use Rattle.wp_floor.proofs.floor.put_takers.Goals as goal

pub put_taker-requires : goal.put_taker-requires
put_taker-requires c =
    let place = c.loop-number.number-index in
    let numbers = c.as_slice-number-items.result.now in
    let there = ap (λ (ns : List (Option ℕ)). slice_get ns place) (sym c.as_slice-number-items.ensures.value)
    ∙ slice_get-get_or numbers place None c.loop-number-test.true in
    let at = named_at c.requires.0 c.args.wave.now.orders _ place (get_or numbers place None) c.requires.1.numbered there in
    number_within c.requires.0 at.name (get_or numbers place None) _ at.is (c.loop-number.invariant.0 ∙ c.requires.1.count)

pub loop-number-preserved : goal.loop-number-preserved
loop-number-preserved c = (
  omega (arith, c.put_taker.auto.takers, c.loop-number.invariant.0),
  λ opening have.
      let place = c.loop-number.number-index in
      let numbers = c.as_slice-number-items.result.now in
      let orders = c.args.wave.now.orders in
      let there = ap (λ (ns : List (Option ℕ)). slice_get ns place) (sym c.as_slice-number-items.ensures.value)
      ∙ slice_get-get_or numbers place None c.loop-number-test.true in
      let at = named_at opening orders _ place (get_or numbers place None) have.numbered there in
      put_more opening orders place at.name c.args.taker.now c.args.takers.now c.loop-number.takers c.put_taker.new.takers have.read have.count
      (slice_get_within orders place at.name at.there) (sym (get_or_from_slice_get orders place at.name at.name at.there))
      (subst (λ (number : Option ℕ). IsPutAt number c.args.taker.now c.loop-number.takers c.put_taker.new.takers) (sym at.is) c.put_taker.ensures)
      (c.loop-number.invariant.1 opening have),
)
