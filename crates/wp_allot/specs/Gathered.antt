-- The wants of one article among gathered ones.
use Rattle.std.specs.Prelude.{◌≡◌, ℕ, ◌<◌, ◌≤◌, List, length, take, Some, slice_get}
use Rattle.wp_allot.specs.Wants.{wanted_of}
use Rattle.wp_allot.specs.declared.gathered.ArticleWants.{ArticleWants}
use Rattle.wp_allot.specs.declared.want.Want.{Want}

-- the wants before a place are of earlier articles than those from it on
abbrev pub IsBorder : List Want → ℕ → Type 0
IsBorder wants place = (i j : ℕ) (v w : Want) → i < place → place ≤ j → slice_get wants i ≡ Some v
    → slice_get wants j ≡ Some w → v.article < w.article

-- all wants of an article stand from a start to an end, and these are its units
pub record AreOfArticle (wants : List Want) (start : ℕ) (of : ArticleWants) : Type 0 where
  pub first : Want
  pub there : slice_get wants start ≡ Some first
  pub article : of.article ≡ first.article
  pub units : of.units ≡ wanted_of wants of.article
  pub after : start < of.end
  pub within : of.end ≤ length wants
  pub own : (k : ℕ) (w : Want) → start ≤ k → k < of.end → slice_get wants k ≡ Some w → w.article ≡ of.article
  pub none : wanted_of (take start wants) of.article ≡ 0
  pub all : wanted_of (take of.end wants) of.article ≡ wanted_of wants of.article
  pub border : IsBorder wants of.end
