-- Receive keeps a state sound.
use Rattle.std.proofs.Common.{◌≡◌, ℕ, ◌+◌, ◌≤◌, List, slice_get, Some, not, nat_lt, bytes_eq, refl, sym, ◌∙◌, subst}
use Rattle.std.proofs.lemmas.Bool.{cond_both, ltb-false}
use Rattle.std.proofs.lemmas.Option.{same_Some}
use Rattle.std.specs.Option.{option_map_or}
use Rattle.wp_model.proofs.Found.{option_map_or-both, row_found}
use Rattle.wp_model.proofs.Holds.{HoldsAs-same, alike_changed}
use Rattle.wp_model.proofs.Elements.{if_some_then}
use Rattle.wp_model.proofs.Rows.{at_place-article}
use Rattle.wp_model.proofs.Stock.{receive_keeps_stock}
use Rattle.wp_model.proofs.Waves.{still_sound, stock_of}
use Rattle.wp_model.specs.Change.{at_place, receive, receive_units}
use Rattle.wp_model.specs.Opening.{Opening, article_name}
use Rattle.wp_model.specs.Limits.{most_on_hand}
use Rattle.wp_model.specs.Sound.{IsSound, IsSoundWave}
use Rattle.wp_model.specs.State.{State}
use Rattle.wp_model.specs.Step.{Stepped, receive_at, refuse, row_from}
use Rattle.wp_model.specs.declared.location.Location.{Location}
use Rattle.wp_model.specs.declared.reply.Reply.TheVariants as reply
use Rattle.wp_model.specs.declared.row.Row.{Row}

received_keeps_sound : (opening : Opening) (state : State) (row units : ℕ) (r : Row) → IsSound opening state → slice_get state.rows row ≡ Some r
    → r.on_hand + units ≤ most_on_hand → IsSound opening (receive row units state)
received_keeps_sound opening state row units r sound there room =
    let after = receive row units state in
    let stock = receive_keeps_stock row units state (λ other is. subst (λ (r : Row). r.on_hand + units ≤ most_on_hand)
    (same_Some r other (sym there ∙ is)) room) (stock_of opening state sound) in
    let alike = alike_changed (at_place row (receive_units units)) state.rows (λ k r. at_place-article row k (receive_units units) r refl) in
    record {
      rows = stock.rows;
      held = stock.held;
      nowhere_else = stock.nowhere_else;
      waves = λ n. if_some_then (slice_get state.waves n) (IsSoundWave opening state n) (IsSoundWave opening after n)
          (λ v was. still_sound opening state after n v v refl was
          (HoldsAs-same v.state opening state after n v v refl alike (λ order k. refl) was.holds) was.picked) (sound.waves n);
      names = sound.names;
      once = sound.once;
    }

receive_at_keeps_sound : (opening : Opening) (state : State) (article : List ℕ) (quantity number : ℕ) (r : Row) → IsSound opening state
    → slice_get state.rows number ≡ Some r
    → IsSound opening (receive_at opening state article quantity number r).state
receive_at_keeps_sound opening state article quantity number r sound there =
    cond_both (not (bytes_eq (article_name opening r.article) article)) (refuse state (reply.OtherArticle (article_name opening r.article))) _
    (λ (stepped : Stepped). IsSound opening stepped.state) (λ other. sound)
    (λ same. cond_both (nat_lt most_on_hand (r.on_hand + quantity)) (refuse state (reply.TooMany r.on_hand))
    (record { reply = reply.Received; state = receive number quantity state })
    (λ (stepped : Stepped). IsSound opening stepped.state) (λ many. sound)
    (λ room. received_keeps_sound opening state number quantity r sound there (ltb-false _ _ room)))

-- a receipt keeps a state sound
pub receive_keeps_sound : (opening : Opening) (state : State) (location : Location) (article : List ℕ) (quantity : ℕ) → IsSound opening state
    → IsSound opening (option_map_or (λ found. receive_at opening state article quantity found.0 found.1) (row_from 0 state.rows location)
    (refuse state reply.NoRow)).state
receive_keeps_sound opening state location article quantity sound =
    option_map_or-both (λ (stepped : Stepped). IsSound opening stepped.state) (λ (found : ℕ × Row). receive_at opening state article quantity found.0 found.1)
    (row_from 0 state.rows location) (refuse state reply.NoRow)
    (λ found is. receive_at_keeps_sound opening state article quantity found.0 found.1 sound (row_found state.rows location found is))
    (λ none. sound)
