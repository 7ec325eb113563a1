-- Whether there is enough of one article.
use Rattle.std.specs.Prelude.{◌≡◌, ℕ, ◌<◌, List, Option, Some, None, slice_get}
use Rattle.wp_model.specs.Demand.{free_units}
use Rattle.wp_model.specs.declared.row.Row.{Row}
use Rattle.wp_allot.specs.Wants.{IsEnough, wanted_of}
use Rattle.wp_allot.specs.declared.want.Short.{Short}
use Rattle.wp_allot.specs.declared.want.Want.{Want}

-- less is free than is wanted of an article, and these are its numbers
pub record IsLess (rows : List Row) (wants : List Want) (except : Option ℕ) (short : Short) : Type 0 where
  pub wanted : short.wanted ≡ wanted_of wants short.article
  pub free : short.free ≡ free_units rows short.article except
  pub less : short.free < short.wanted

-- none where there is enough of the article, and its numbers where there isn't
abbrev pub IsShortage : List Row → List Want → Option ℕ → ℕ → Option Short → Type 0
IsShortage rows wants except article None = IsEnough rows wants except article
IsShortage rows wants except article (Some short) = (short.article ≡ article) × IsLess rows wants except short

-- of the articles of the first wants, the first of which there isn't enough
abbrev pub IsFirstAmong : List Row → List Want → Option ℕ → ℕ → Option Short → Type 0
IsFirstAmong rows wants except count None
    = (k : ℕ) (w : Want) → k < count → slice_get wants k ≡ Some w → IsEnough rows wants except w.article
IsFirstAmong rows wants except count (Some short) =
    IsLess rows wants except short × ((k : ℕ) (w : Want) → k < count → slice_get wants k ≡ Some w → w.article
    < short.article
    → IsEnough rows wants except w.article)
