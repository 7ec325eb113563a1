-- Stock that is held for a wave, and room for it.
use Rattle.std.specs.Prelude.{◌≡◌, ℕ, None, Some, List}
use Rattle.wp_allot.specs.Wants.{HasOverlaps, IsAllotted, IsShort}
use Rattle.wp_allot.specs.declared.want.Short.{Short}
use Rattle.wp_allot.specs.declared.want.Want.{Want}
use Rattle.wp_book.specs.Room.{Content}
use Rattle.wp_model.specs.Book.{Book}
use Rattle.wp_model.specs.Opening.{Opening, article_name}
use Rattle.wp_model.specs.declared.reply.Reply.{Reply}
use Rattle.wp_model.specs.declared.reply.Reply.TheVariants as reply

-- the refusal of a wave that wants more of an article than is free
abbrev pub short_reply : Opening → Short → Reply
short_reply opening short = reply.Short (article_name opening short.article) short.wanted short.free

-- stock was held for wants, and its list was made
pub record IsHeld (number : ℕ) (wants : List Want) (old new : Book) (room sheet : Content) : Type 0 where
  pub enough : IsShort old.rows wants None None
  pub allotted : IsAllotted number wants None old new
  pub listed : HasOverlaps old.rows wants None room sheet

-- stock was not held, since there isn't enough of an article
pub record IsRefusedShort (opening : Opening) (wants : List Want) (old new : Book) (answer : Reply) : Type 0 where
  pub same : new ≡ old
  pub short : Short
  pub first : IsShort old.rows wants None (Some short)
  pub names : answer ≡ short_reply opening short
