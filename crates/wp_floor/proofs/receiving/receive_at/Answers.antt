use Rattle.std.proofs.Common.{◌≡◌, ◌∙◌, sym, ap, subst, ℕ, List, Some, Bool, true, false, not, bytes_eq, slice_get, arith}
use Rattle.std.proofs.lemmas.Slice.Eq.{bytes_eq-Decides}
use Rattle.wp_model.proofs.NameEq.{name_eq_is}
use Rattle.wp_model.specs.declared.reply.Reply.TheVariants as reply
use Rattle.wp_model.specs.declared.row.Row.{Row}
use Rattle.wp_floor.specs.ReceivedUnits.{HasReceivedAt}
use Rattle.wp_floor.proofs.ReceivedUnits.{has_received, other_article, owner_is, too_many}
use Rattle.wp_floor.proofs.receiving.receive_at.Goals as goal

flipped : (b c : Bool) → not b ≡ c → b ≡ not c
flipped true c e = sym (ap not (sym e))
flipped false c e = sym (ap not (sym e))

row_same : (rows : List Row) (row : ℕ) (now r : Row) → slice_get rows row ≡ Some now → slice_get rows row ≡ Some r → now ≡ r
row_same rows row now r at there = let one : Some now ≡ Some r = sym at ∙ there in cc

pub returns-then-ne : goal.returns-then-ne
returns-then-ne c r there =
    let opening = c.args.opening.now in
    let owner = c.article-owner.result in
    let named = owner_is opening c.stock.result.now c.args.book.now.rows c.args.row c.row-now.result r owner c.stock.ensures.stock c.row-now.ensures there
    c.article-owner.ensures in
    let differs : bytes_eq owner c.args.article.now ≡ false = sym (name_eq_is owner c.args.article.now) ∙ flipped _ true (sym c.ne.ensures ∙ c.if-ne.true) in
    other_article opening c.args.book.now c.args.article.now owner c.args.quantity c.args.row r named differs

pub returns-then-from-gt-MOST_ON_HAND : goal.returns-then-from-gt-MOST_ON_HAND
returns-then-from-gt-MOST_ON_HAND c r there =
    let opening = c.args.opening.now in
    let owner = c.article-owner.result in
    let named = owner_is opening c.stock.result.now c.args.book.now.rows c.args.row c.row-now.result r owner c.stock.ensures.stock c.row-now.ensures there
    c.article-owner.ensures in
    let is : bytes_eq owner c.args.article.now ≡ true = sym (name_eq_is owner c.args.article.now) ∙ flipped _ false (sym c.ne.ensures ∙ c.if-ne.false) in
    let same : owner ≡ c.args.article.now = (bytes_eq-Decides owner c.args.article.now).0 is in
    let row : c.row-now.result ≡ r = row_same c.args.book.now.rows c.args.row c.row-now.result r c.row-now.ensures there in
    subst (λ (q : Row). HasReceivedAt opening c.args.article.now c.args.quantity c.args.row r c.args.book.now c.args.book.now (reply.TooMany q.on_hand))
    (sym row)
    (too_many opening c.args.book.now c.args.article.now c.args.quantity c.args.row r (named ∙ ap Some same)
    (omega (arith, c.if-from-gt-MOST_ON_HAND.true, c.from.ensures, c.from-2.ensures, ap (λ (q : Row). q.on_hand) row)))

pub returns : goal.returns
returns c r there =
    let opening = c.args.opening.now in
    let owner = c.article-owner.result in
    let named = owner_is opening c.stock.result.now c.args.book.now.rows c.args.row c.row-now.result r owner c.stock.ensures.stock c.row-now.ensures there
    c.article-owner.ensures in
    let is : bytes_eq owner c.args.article.now ≡ true = sym (name_eq_is owner c.args.article.now) ∙ flipped _ false (sym c.ne.ensures ∙ c.if-ne.false) in
    let same : owner ≡ c.args.article.now = (bytes_eq-Decides owner c.args.article.now).0 is in
    let row : c.row-now.result ≡ r = row_same c.args.book.now.rows c.args.row c.row-now.result r c.row-now.ensures there in
    has_received opening c.args.book.now c.receive.new.self c.args.article.now c.args.quantity c.args.row r (named ∙ ap Some same)
    (omega (arith, c.if-from-gt-MOST_ON_HAND.false, c.from.ensures, c.from-2.ensures, ap (λ (q : Row). q.on_hand) row)) c.receive.ensures
