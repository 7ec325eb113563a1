use Rattle.std.proofs.Common.{◌≡◌, ◌∙◌, sym, ap, ◌+◌, ℕ, List, Option, drop, get_or, None, Some, bytes_eq, slice_get, if◌then◌else◌, true, false}
use Rattle.std.proofs.lemmas.Option.{get_or_from_slice_get, slice_get-get_or, slice_get_within}
use Rattle.wp_model.proofs.Places.{drop_at}
use Rattle.wp_model.specs.Step.{place_from}
use Rattle.wp_floor.proofs.OrderNumbers.{claims_at, claims_other, named_at}
use Rattle.wp_floor.proofs.held.place_of.Goals as goal

pub returns-then-eq : goal.returns-then-eq
returns-then-eq c =
    let place = c.loop-place.place in
    let kept = c.args.wave.now in
    let number = get_or c.as_slice-numbers.result.now place None in
    let there = ap (λ (ns : List (Option ℕ)). slice_get ns place) (sym c.as_slice-numbers.ensures.value)
    ∙ slice_get-get_or c.as_slice-numbers.result.now place None c.loop-place-test.true in
    let at = named_at c.requires.0 kept.orders _ place number c.requires.1.numbered there in
    let same : bytes_eq at.name c.args.claim.now.order ≡ true =
    claims_at c.requires.0 kept c.args.claim.now place number at c.requires.1 (sym c.eq.ensures ∙ c.if-eq.true) in
    sym (ap (λ names. place_from place names c.args.claim.now.order)
    (drop_at kept.orders place at.name (slice_get_within kept.orders place at.name at.there)
    (sym (get_or_from_slice_get kept.orders place at.name at.name at.there)))
    ∙ ap (λ b. if b then Some place else place_from (place + 1) (drop (place + 1) kept.orders) c.args.claim.now.order) same)
    ∙ c.loop-place.invariant

pub loop-place-preserved : goal.loop-place-preserved
loop-place-preserved c =
    let place = c.loop-place.place in
    let kept = c.args.wave.now in
    let number = get_or c.as_slice-numbers.result.now place None in
    let there = ap (λ (ns : List (Option ℕ)). slice_get ns place) (sym c.as_slice-numbers.ensures.value)
    ∙ slice_get-get_or c.as_slice-numbers.result.now place None c.loop-place-test.true in
    let at = named_at c.requires.0 kept.orders _ place number c.requires.1.numbered there in
    let differs : bytes_eq at.name c.args.claim.now.order ≡ false =
    claims_other c.requires.0 kept c.args.claim.now place number at c.requires.1 (sym c.eq.ensures ∙ c.if-eq.false) in
    sym (ap (λ names. place_from place names c.args.claim.now.order)
    (drop_at kept.orders place at.name (slice_get_within kept.orders place at.name at.there)
    (sym (get_or_from_slice_get kept.orders place at.name at.name at.there)))
    ∙ ap (λ b. if b then Some place else place_from (place + 1) (drop (place + 1) kept.orders) c.args.claim.now.order) differs)
    ∙ c.loop-place.invariant
