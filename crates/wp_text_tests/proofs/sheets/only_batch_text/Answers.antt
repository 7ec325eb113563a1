use Rattle.std.proofs.Common.{◌≡◌, ℕ, List, Contains, slice_index_or, subst, arith, ⊎_elim}
use Rattle.std.proofs.lemmas.List.Elements.{Contains-get_or}
use Rattle.wp_pairs.proofs.Members.{contains_none}
use Rattle.wp_text_tests.proofs.sheets.only_batch_text.Goals as goal

-- the batch has the order 0 alone, and the wave has one order
pub print_batch-requires-clause-places : goal.print_batch-requires-clause-places
print_batch-requires-clause-places c = λ k d within.
    let p = slice_index_or c.with.result k d in
    ⊎_elim (λ (none : Contains c.empty.result p). absurd (contains_none p (subst (λ (xs : List ℕ). Contains xs p) c.empty.ensures none)))
    (λ (e : p ≡ 0). omega (arith, e, c.requires.orders)) ((c.with.ensures.orders p).0 (Contains-get_or c.with.result k d within))
