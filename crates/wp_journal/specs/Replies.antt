-- The reply that words write. What isn't tested here is tested where the line is compared.
use Rattle.std.specs.Prelude.{ℕ, Bool, List, [], ◌∷◌, codes, Option, Some, None, option_map, if◌then◌else◌}
use Rattle.std.specs.Option.{option_and_then}
use Rattle.std.specs.Str.{bytes_eq}
use Rattle.wp_model.specs.Location.{location_of}
use Rattle.wp_model.specs.Name.{name_in}
use Rattle.wp_model.specs.declared.reply.Reply.{Reply}
use Rattle.wp_model.specs.declared.reply.Reply.TheVariants as reply
use Rattle.wp_model.specs.declared.reply.WaveState.{WaveState}
use Rattle.wp_model.specs.declared.reply.WaveState.TheVariants as wave
use Rattle.wp_journal.specs.Numbers.{small_of, whole_of}
use Rattle.wp_journal.specs.Splits.{Word}

-- the reply of one word
abbrev pub plain_reply : Word → Option Reply
plain_reply word =
    if bytes_eq word (codes "submitted") then Some reply.Submitted
    else if bytes_eq word (codes "allotted") then Some reply.Allotted
    else if bytes_eq word (codes "released") then Some reply.Released
    else if bytes_eq word (codes "cancelled") then Some reply.Cancelled
    else if bytes_eq word (codes "picked") then Some reply.Picked
    else if bytes_eq word (codes "received") then Some reply.Received
    else None

-- the refusal of one word
abbrev pub plain_refusal : Word → Option Reply
plain_refusal why =
    if bytes_eq why (codes "no-orders") then Some reply.NoOrders
    else if bytes_eq why (codes "known-wave") then Some reply.KnownWave
    else if bytes_eq why (codes "unknown-wave") then Some reply.UnknownWave
    else if bytes_eq why (codes "picking") then Some reply.Picking
    else if bytes_eq why (codes "no-row") then Some reply.NoRow
    else None

-- the state of a wave that a word names
abbrev pub state_of : Word → Option WaveState
state_of word =
    if bytes_eq word (codes "submitted") then Some wave.Submitted
    else if bytes_eq word (codes "allotted") then Some wave.Allotted
    else if bytes_eq word (codes "released") then Some wave.Released
    else if bytes_eq word (codes "cancelled") then Some wave.Cancelled
    else if bytes_eq word (codes "done") then Some wave.Done
    else None

-- the refusal that tells a name
abbrev pub name_refusal : Word → List ℕ → Option Reply
name_refusal why name =
    if bytes_eq why (codes "unknown-order") then Some (reply.UnknownOrder name)
    else if bytes_eq why (codes "order-twice") then Some (reply.OrderTwice name)
    else if bytes_eq why (codes "other-article") then Some (reply.OtherArticle name)
    else None

-- a refusal of two words: what the second tells depends on the first
abbrev pub told_refusal : Word → Word → Option Reply
told_refusal why told =
    if bytes_eq why (codes "wrong-state") then option_map reply.WrongState (state_of told)
    else if bytes_eq why (codes "not-held") then option_map reply.NotHeld (location_of told)
    else if bytes_eq why (codes "wave-full") then option_map reply.WaveFull (small_of told)
    else if bytes_eq why (codes "too-much") then option_map reply.TooMuch (small_of told)
    else if bytes_eq why (codes "too-many") then option_map reply.TooMany (small_of told)
    else option_and_then (name_refusal why) (name_in told)

-- Lost: an article, and the units of it
abbrev pub loss_in : Word → Word → Option Reply
loss_in article units = option_and_then (λ a. option_map (reply.Lost a) (small_of units)) (name_in article)

-- OrderTaken: an order, and the wave that has it
abbrev pub taken_in : Word → Word → Option Reply
taken_in order w = option_and_then (λ o. option_map (reply.OrderTaken o) (name_in w)) (name_in order)

-- OverCart: an order, and its units
abbrev pub over_cart_in : Word → Word → Option Reply
over_cart_in order units = option_and_then (λ o. option_map (reply.OverCart o) (small_of units)) (name_in order)

-- a refusal that tells an order and one word more: what that is depends on the refusal
abbrev pub order_refusal : Word → Word → Word → Option Reply
order_refusal why order told = if bytes_eq why (codes "over-cart") then over_cart_in order told else taken_in order told

-- Short: an article, and the units of it that are wanted and free
abbrev pub short_in : Word → Word → Word → Option Reply
short_in article wanted free =
    option_and_then (λ a. option_and_then (λ w. option_map (reply.Short a w) (whole_of free)) (whole_of wanted))
    (name_in article)

-- the word of a refusal
abbrev pub is_refusal : Word → Bool
is_refusal word = bytes_eq word (codes "refused")

-- the reply that words write
abbrev pub reply_in : List Word → Option Reply
reply_in [] = None
reply_in (word ∷ []) = plain_reply word
reply_in (word ∷ told ∷ []) = if is_refusal word then plain_refusal told else option_map reply.Refilled (small_of told)
reply_in (word ∷ a ∷ b ∷ []) = if is_refusal word then told_refusal a b else loss_in a b
reply_in (word ∷ why ∷ order ∷ told ∷ []) = order_refusal why order told
reply_in (word ∷ why ∷ article ∷ wanted ∷ free ∷ []) = short_in article wanted free
reply_in (a ∷ b ∷ c ∷ d ∷ e ∷ f ∷ rest) = None
