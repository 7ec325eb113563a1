-- Orders with one more line.
use Rattle.std.proofs.Common.{◌≡◌, refl, ℕ, suc, ◌+◌, ◌<◌, Bool, true, false, List, [], ◌∷◌, ◌++◌, length, arith, length-append, lit≤}
use Rattle.std.specs.Prelude.{if◌then◌else◌, ◌||◌}
use Rattle.std.specs.List.{AllByRecursion}
use Rattle.std.specs.Str.{bytes_eq}
use Rattle.std.proofs.lemmas.List.Elements.{All-nil, All-push}
use Rattle.wp_model.specs.Opening.{IsLine, IsOrder, Order, is_known_order, lines_of}
use Rattle.wp_model.specs.Limits.{most_lines}
use Rattle.wp_model.specs.TableLines.{add_order_line}
use Rattle.wp_model.specs.declared.line.OrderLine.{OrderLine}

added_if : (b : Bool) (articles : List (List ℕ)) (order : Order) (orders : List Order) (line : OrderLine) → IsLine articles line.line
    → AllByRecursion (IsOrder articles) (order ∷ orders)
    → length (if b then order.lines else lines_of orders line.order) < most_lines
    → AllByRecursion (IsOrder articles) (if b then orders else add_order_line orders line)
    → AllByRecursion (IsOrder articles) (if b then record order { lines = order.lines ++ line.line ∷ [] } ∷ orders else order ∷ add_order_line orders line)
added_if true articles order orders line is all room rest = (
  record {
    some = omega (arith, length-append order.lines (line.line ∷ []));
    most = omega (arith, length-append order.lines (line.line ∷ []));
    lines = All-push (IsLine articles) order.lines line.line all.0.lines is;
  },
  all.1,
)
added_if false articles order orders line is all room rest = (all.0, rest)

rest_if : (b : Bool) (articles : List (List ℕ)) (orders more : List Order) → AllByRecursion (IsOrder articles) orders
    → (b ≡ false → AllByRecursion (IsOrder articles) more) → AllByRecursion (IsOrder articles) (if b then orders else more)
rest_if true articles orders more all rest = all
rest_if false articles orders more all rest = rest refl

-- a line that finds room leaves orders
pub added_orders : (articles : List (List ℕ)) (orders : List Order) (line : OrderLine) → IsLine articles line.line → AllByRecursion (IsOrder articles) orders
    → length (lines_of orders line.order) < most_lines → AllByRecursion (IsOrder articles) (add_order_line orders line)
added_orders articles [] line is all room =
    (record { some = omega arith; most = lit≤ tt; lines = All-push (IsLine articles) [] line.line (All-nil (IsLine articles)) is }, tt)
added_orders articles (order ∷ orders) line is all room =
    added_if (bytes_eq order.name line.order) articles order orders line is all room
    (rest_if (bytes_eq order.name line.order) articles orders (add_order_line orders line) all.1
    (λ other. added_orders articles orders line is all.1 (rw other at room)))

length_if : (b : Bool) (known : Bool) (orders : List Order) (order next : Order) (line : OrderLine)
    → length (add_order_line orders line) ≡ length orders + (if known then 0 else 1)
    → length (if b then next ∷ orders else order ∷ add_order_line orders line) ≡ suc (length orders) + (if b || known then 0 else 1)
length_if true known orders order next line e = omega arith
length_if false true orders order next line e = omega (arith, e)
length_if false false orders order next line e = omega (arith, e)

-- a new order makes one more
pub added_length : (orders : List Order) (line : OrderLine) → length (add_order_line orders line) ≡ length orders +
    (if is_known_order orders line.order then 0 else 1)
added_length [] line = refl
added_length (order ∷ orders) line =
    length_if (bytes_eq order.name line.order) (is_known_order orders line.order) orders order (record order { lines = order.lines ++ line.line ∷ [] }) line
    (added_length orders line)
