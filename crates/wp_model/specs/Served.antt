-- What a wave gets when it asks for stock.
use Rattle.std.specs.Prelude.{◌≡◌, ◌⊎◌, ℕ, ◌<◌, ◌≤◌, List, Some, None, length}
use Rattle.wp_model.specs.Demand.{IsCovered, free_units, wave_demand}
use Rattle.wp_model.specs.History.{History, state_at}
use Rattle.wp_model.specs.Opening.{Opening, article_name}
use Rattle.wp_model.specs.Sound.{HoldsItsDemand}
use Rattle.wp_model.specs.State.{State, Wave}
use Rattle.wp_model.specs.Step.{Stepped, step, wave_from}
use Rattle.wp_model.specs.declared.command.Command.TheVariants as command
use Rattle.wp_model.specs.declared.reply.Reply.{Reply}
use Rattle.wp_model.specs.declared.reply.Reply.TheVariants as reply
use Rattle.wp_model.specs.declared.reply.WaveState.{WaveState}
use Rattle.wp_model.specs.declared.reply.WaveState.TheVariants as wave

-- a wave got its stock: it is in the next state, and each of its orders holds just what its lines want
pub record GotStock (opening : Opening) (after : State) (name : List ℕ) (number : ℕ) (w : Wave)
    (next : WaveState) : Type 0 where
  pub is_next : wave_from 0 after.waves name ≡ Some (number, record w { state = next })
  pub holds : HoldsItsDemand opening after number w

-- it got nothing, and nothing changed: this is the first article, in the order of the stock file, of which its orders
-- want more than is free, and the reply names it, with what they want of it and what is free
pub record GotNothing (opening : Opening) (state : State) (w : Wave) (stepped : Stepped) : Type 0 where
  pub article : ℕ
  pub listed : article < length opening.stock.articles
  pub short : free_units state.rows article None < wave_demand opening w.orders article
  pub first : (before : ℕ) → before < article → wave_demand opening w.orders before ≤ free_units state.rows before None
  pub reply : stepped.reply ≡ reply.Short (article_name opening article) (wave_demand opening w.orders article)
      (free_units state.rows article None)
  pub stays : stepped.state ≡ state

-- What a step comes to that is to give a wave its stock, with this reply and this next state where it does. To a
-- submitted wave it does where free stock covers the orders, and else the wave gets nothing. Wherever it does, the wave
-- has its stock.
pub record GivesStock (opening : Opening) (state : State) (name : List ℕ) (number : ℕ) (w : Wave) (done : Reply)
    (next : WaveState) (stepped : Stepped)
    : Type 0 where
  pub submitted : w.state ≡ wave.Submitted
      → (IsCovered opening state.rows w.orders None × (stepped.reply ≡ done)) ⊎ GotNothing opening state w stepped
  pub served : stepped.reply ≡ done → GotStock opening stepped.state name number w next

-- stock goes where it covers, in a state, for the wave of a name: by its allotment and by its release; and an allotted
-- wave is released
pub record GoesWhereItCovers (opening : Opening) (state : State) (name : List ℕ) (number : ℕ) (w : Wave) : Type 0 where
  pub allot : GivesStock opening state name number w reply.Allotted wave.Allotted
      (step opening state (command.Allot name))
  pub release : GivesStock opening state name number w reply.Released wave.Released
      (step opening state (command.Release name))
  pub goes_out : w.state ≡ wave.Allotted → (step opening state (command.Release name)).reply ≡ reply.Released

-- so it does in each state of a history, for each wave
abbrev pub StockGoesWhereItCovers : History → Type 0
StockGoesWhereItCovers history = (entries : ℕ) (name : List ℕ) (number : ℕ) (w : Wave)
    → wave_from 0 (state_at history entries).waves name ≡ Some (number, w)
    → GoesWhereItCovers history.opening (state_at history entries) name number w
