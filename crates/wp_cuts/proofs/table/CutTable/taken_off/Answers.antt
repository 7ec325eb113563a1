use Rattle.std.proofs.Common.{◌≡◌, ◌<◌, ◌≤◌, ℕ, List, [], arith, ap, inl, inr, length, subst, sym, ◌∙◌, ⊎_elim}
use Rattle.std.specs.Prelude.{slice_index, slice_index_or}
use Rattle.std.proofs.lemmas.Bool.{cases_lt}
use Rattle.std.proofs.lemmas.List.{get_or_default}
use Rattle.wp_cuts.specs.Cuts.{CutParts}
use Rattle.wp_cuts.specs.Tables.{AreInverses, IsInverse}
use Rattle.wp_cuts.proofs.TableRows.{off_met}
use Rattle.wp_cuts.proofs.TakenOff.{off_end, off_more}
use Rattle.wp_cuts.proofs.table.CutTable.taken_off.Goals as goal

pub off_parts-total-requires-clause-inverse : goal.off_parts-total-requires-clause-inverse
off_parts-total-requires-clause-inverse c =
    let cuts = c.args.self.now in
    let as_many = ap (λ (xs : List CutParts). length xs) c.self.view_is in
    let low : c.loop-at.at < length cuts = omega (arith, c.loop-at-test.true, c.min-at-end.ensures, c.len.ensures, as_many) in
    let inverses = subst (λ (xs : List CutParts). AreInverses xs c.self.inside.inverses.items) c.self.view_is c.self.invariant.1 in
    let read : c.index.result.now ≡ slice_index c.self.inside.inverses.items c.loop-at.at
    = c.index.ensures ∙ get_or_default c.self.inside.inverses.items c.loop-at.at c.index.result.now 0 (omega (arith, low, inverses.whole)) in
    let small = (inverses.each c.loop-at.at (record { divisor = 0; orders = []; parts = [] }) low).small in
    omega (arith, read, small)

pub loop-at-preserved : goal.loop-at-preserved
loop-at-preserved c =
    let cuts = c.args.self.now in
    let as_many = ap (λ (xs : List CutParts). length xs) c.self.view_is in
    let low : c.loop-at.at < length cuts = omega (arith, c.loop-at-test.true, c.min-at-end.ensures, c.len.ensures, as_many) in
    let within : c.loop-at.at < length c.args.prices.now = omega (arith, c.loop-at-test.true, c.min-at-end.ensures) in
    let inverses = subst (λ (xs : List CutParts). AreInverses xs c.self.inside.inverses.items) c.self.view_is c.self.invariant.1 in
    let first = slice_index_or cuts c.loop-at.at (record { divisor = 0; orders = []; parts = [] }) in
    let read : c.index.result.now ≡ slice_index c.self.inside.inverses.items c.loop-at.at
    = c.index.ensures ∙ get_or_default c.self.inside.inverses.items c.loop-at.at c.index.result.now 0 (omega (arith, low, inverses.whole)) in
    let met = off_met cuts c.args.batch c.parts_of-parts.result c.self.inside.inverses.items c.loop-at.at first
    (slice_index c.args.prices.now c.loop-at.at) c.off_parts-total.result c.parts_of-parts.ensures inverses low
    (λ divisor of_it. c.off_parts-total.ensures.is divisor (subst (λ (n : ℕ). IsInverse divisor n) (sym read) of_it)) in
    record {
      so_far = omega (
        arith,
        c.loop-at.invariant.so_far,
        off_more cuts c.args.prices.now c.args.batch c.loop-at.at first low within,
        met,
      );
      small = omega (arith, c.loop-at.invariant.small, c.off_parts-total.ensures.small);
    }

pub returns-clause-is : goal.returns-clause-is
returns-clause-is c =
    let cuts = c.args.self.now in
    let as_many = ap (λ (xs : List CutParts). length xs) c.self.view_is in
    let none = off_end cuts c.args.prices.now c.args.batch c.loop-at.at (⊎_elim
    (λ (low : c.loop-at.at < length cuts). inr (omega (arith, low, c.loop-at-test.false, c.min-at-end.ensures, c.len.ensures, as_many)))
    (λ (high : length cuts ≤ c.loop-at.at). inl high)
    (cases_lt c.loop-at.at (length cuts))) in
    omega (arith, c.loop-at.invariant.so_far, none)
