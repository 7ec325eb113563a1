-- A wave gets its stock exactly where free stock covers it, and then each of its orders holds just what its lines want.
use Rattle.std.proofs.Common.{◌≡◌, ◌∙◌, refl, sym, ap, subst, ℕ, List, length, slice_get, Some, None, inl, inr, take, arith}
use Rattle.std.proofs.lemmas.Option.{MatchOption-at_some}
use Rattle.wp_model.proofs.Allotment.{holds_demand, nothing_held}
use Rattle.wp_model.proofs.Demand.{covered_from_none, demand_at-some, short_article_is}
use Rattle.wp_model.proofs.Found.{option_map_or-both, wave_found}
use Rattle.wp_model.proofs.FoundWaves.{at_found, next_is_found}
use Rattle.wp_model.proofs.Held.{orders_in-at}
use Rattle.wp_model.proofs.Sound.{entries_keep_sound, opening_is_sound}
use Rattle.wp_model.proofs.Waves.{stock_of, wave_at}
use Rattle.wp_model.specs.Change.{hold}
use Rattle.wp_model.specs.Demand.{IsFirstShort, demand_at, free_units, short_article, wave_demand}
use Rattle.wp_model.specs.History.{History, state_at}
use Rattle.wp_model.specs.Opening.{IsOpening, Opening}
use Rattle.wp_model.specs.Served.{GivesStock, GoesWhereItCovers, GotNothing, StockGoesWhereItCovers}
use Rattle.wp_model.specs.Sound.{EachStateIsSound, HoldsAs, HoldsItsDemand, IsSound}
use Rattle.wp_model.specs.State.{State, Wave, opening_state}
use Rattle.wp_model.specs.Step.{Stepped, allot, hold_for, refuse, refuse_short, release, wave_from}
use Rattle.wp_model.specs.declared.reply.Reply.{Reply}
use Rattle.wp_model.specs.declared.reply.Reply.TheVariants as reply
use Rattle.wp_model.specs.declared.reply.WaveState.{WaveState}
use Rattle.wp_model.specs.declared.reply.WaveState.TheVariants as wave

-- a submitted wave that is covered, and for which stock is held
held_as_wanted : (opening : Opening) (state : State) (number : ℕ) (w : Wave) → IsOpening opening → IsSound opening state
    → slice_get state.waves number ≡ Some w → w.state ≡ wave.Submitted → short_article opening state.rows w.orders None ≡ None
    → HoldsItsDemand opening (hold (demand_at opening w.orders) None number (length w.orders) state) number w
held_as_wanted opening state number w is sound there submitted covered place article =
    let was = wave_at opening state number w sound there in
    let none = nothing_held state number (length w.orders) (stock_of opening state sound) (orders_in-at state number w there)
    (subst (λ s. HoldsAs s opening state number w) submitted was.holds) in
    holds_demand (demand_at opening w.orders) number (length w.orders) state place article none
    (covered_from_none opening state.rows w.orders None is covered article) (demand_at-some opening w.orders article place)

-- a wave with a short article
got_nothing : (opening : Opening) (state : State) (w : Wave) (article : ℕ) → short_article opening state.rows w.orders None ≡ Some article
    → GotNothing opening state w (refuse_short opening state w article)
got_nothing opening state w article short =
    let is : IsFirstShort (wave_demand opening w.orders) (λ a. free_units state.rows a None) 0 (length opening.stock.articles) article
    = MatchOption-at_some _ _ article short (short_article_is opening state.rows w.orders None) in
    record {
      article = article;
      listed = is.within;
      short = is.short;
      first = λ before earlier. is.before before (omega arith) earlier;
      reply = refl;
      stays = refl;
    }

-- stock is held for a submitted wave where it covers it
holding_gives : (opening : Opening) (state : State) (name : List ℕ) (number : ℕ) (w : Wave) (done : Reply) (next : WaveState) → IsOpening opening
    → IsSound opening state → wave_from 0 state.waves name ≡ Some (number, w) → w.state ≡ wave.Submitted
    → ((article : ℕ) → (refuse_short opening state w article).reply ≡ done → ⊥)
    → GivesStock opening state name number w done next (hold_for opening state next done number w)
holding_gives opening state name number w done next is sound found submitted never =
    let there = wave_found state.waves name (number, w) found in
    option_map_or-both (GivesStock opening state name number w done next) (refuse_short opening state w) (short_article opening state.rows w.orders None) _
    (λ article short. record {
      submitted = λ e. inr (got_nothing opening state w article short);
      served = λ said. absurd (never article said);
    })
    (λ none. record {
      submitted = λ e. inl (covered_from_none opening state.rows w.orders None is none, refl);
      served = λ said. record {
        is_next = next_is_found state name number w (record w { state = next }) found refl;
        holds = held_as_wanted opening state number w is sound there submitted none;
      };
    })

-- a wave in another state gets none
gives_none : (opening : Opening) (state : State) (name : List ℕ) (number : ℕ) (w : Wave) (done : Reply) (next s : WaveState) → w.state ≡ s
    → (s ≡ wave.Submitted → ⊥) → (reply.WrongState s ≡ done → ⊥)
    → GivesStock opening state name number w done next (refuse state (reply.WrongState s))
gives_none opening state name number w done next s e other never =
    record { submitted = λ is. absurd (other (sym e ∙ is)); served = λ said. absurd (never said) }

allot_gives : (opening : Opening) (state : State) (name : List ℕ) (number : ℕ) (w : Wave) (s : WaveState) → IsOpening opening → IsSound opening state
    → wave_from 0 state.waves name ≡ Some (number, w) → w.state ≡ s
    → GivesStock opening state name number w reply.Allotted wave.Allotted (allot opening state number w s)
allot_gives opening state name number w wave.Submitted is sound found e =
    holding_gives opening state name number w reply.Allotted wave.Allotted is sound found e (λ article said. absurd (cc said))
allot_gives opening state name number w other is sound found e =
    gives_none opening state name number w _ _ other e (λ is. absurd (cc is)) (λ said. absurd (cc said))

release_gives : (opening : Opening) (state : State) (name : List ℕ) (number : ℕ) (w : Wave) (s : WaveState) → IsOpening opening → IsSound opening state
    → wave_from 0 state.waves name ≡ Some (number, w) → w.state ≡ s
    → GivesStock opening state name number w reply.Released wave.Released (release opening state number w s)
release_gives opening state name number w wave.Submitted is sound found e =
    holding_gives opening state name number w reply.Released wave.Released is sound found e (λ article said. absurd (cc said))
release_gives opening state name number w wave.Allotted is sound found e = record {
  submitted = λ is. absurd (cc (sym e ∙ is));
  served = λ said. record {
    is_next = next_is_found state name number w (record w { state = wave.Released }) found refl;
    holds = let was = wave_at opening state number w sound (wave_found state.waves name (number, w) found) in
        subst (λ s. HoldsAs s opening state number w) e was.holds;
  };
}
release_gives opening state name number w other is sound found e =
    gives_none opening state name number w _ _ other e (λ is. absurd (cc is)) (λ said. absurd (cc said))

-- an allotted wave is released
allotted_goes_out : (opening : Opening) (state : State) (number : ℕ) (w : Wave) → w.state ≡ wave.Allotted
    → (release opening state number w w.state).reply ≡ reply.Released
allotted_goes_out opening state number w e = ap (λ s. (release opening state number w s).reply) e

-- in a sound state, for the wave of a name
pub goes_where_it_covers : (opening : Opening) (state : State) (name : List ℕ) (number : ℕ) (w : Wave) → IsOpening opening → IsSound opening state
    → wave_from 0 state.waves name ≡ Some (number, w) → GoesWhereItCovers opening state name number w
goes_where_it_covers opening state name number w is sound found =
    let allots = at_found state name (λ n v. allot opening state n v v.state) number w found in
    let releases = at_found state name (λ n v. release opening state n v v.state) number w found in
    record {
      allot = subst (GivesStock opening state name number w reply.Allotted wave.Allotted) (sym allots)
          (allot_gives opening state name number w w.state is sound found refl);
      release = subst (GivesStock opening state name number w reply.Released wave.Released) (sym releases)
          (release_gives opening state name number w w.state is sound found refl);
      goes_out = λ e. ap (λ (s : Stepped). s.reply) releases ∙ allotted_goes_out opening state number w e;
    }

-- each state of a history is sound
pub each_state_is_sound : (history : History) → IsOpening history.opening → EachStateIsSound history
each_state_is_sound history is entries =
    entries_keep_sound history.opening (opening_state history.opening) (take entries history.entries) is (opening_is_sound history.opening is)

-- in each state of a history, for each wave
pub stock_goes_where_it_covers : (history : History) → IsOpening history.opening → StockGoesWhereItCovers history
stock_goes_where_it_covers history is entries name number w =
    goes_where_it_covers history.opening (state_at history entries) name number w is (each_state_is_sound history is entries)
