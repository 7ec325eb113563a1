-- The first article of which there isn't enough.
use Rattle.std.proofs.Common.{◌≡◌, ℕ, ◌<◌, inl, inr, List, length, Option, Some, None, slice_get, subst, arith}
use Rattle.std.proofs.lemmas.Bool.{cases_eq}
use Rattle.wp_model.specs.declared.row.Row.{Row}
use Rattle.wp_allot.proofs.WantSums.{wanted-some}
use Rattle.wp_allot.specs.Cover.{IsFirstAmong}
use Rattle.wp_allot.specs.Wants.{IsEnough, IsShort, wanted_of}
use Rattle.wp_allot.specs.declared.want.Short.{Short}
use Rattle.wp_allot.specs.declared.want.Want.{Want}

enough_of : (rows : List Row) (wants : List Want) (except : Option ℕ) (article : ℕ)
    → ((k : ℕ) (w : Want) → k < length wants → slice_get wants k ≡ Some w → w.article ≡ article → IsEnough rows wants except w.article)
    → IsEnough rows wants except article
enough_of rows wants except article each = elim (cases_eq (wanted_of wants article) 0) [
  | inl none ↦ omega (arith, none)
  | inr some ↦
      let found = wanted-some wants article some in
      subst (λ a. IsEnough rows wants except a) found.same (each found.place found.want found.within found.there found.same)
]

-- among all wants
pub short_from_all : (rows : List Row) (wants : List Want) (except : Option ℕ) (first : Option Short) → IsFirstAmong rows wants except (length wants) first
    → IsShort rows wants except first
short_from_all rows wants except None each = λ article. enough_of rows wants except article (λ k w within there same. each k w within there)
short_from_all rows wants except (Some short) less = record {
  wanted = less.0.wanted;
  free = less.0.free;
  less = less.0.less;
  first = λ article before. enough_of rows wants except article (λ k w within there same. less.1 k w within there (omega (arith, same)));
}
