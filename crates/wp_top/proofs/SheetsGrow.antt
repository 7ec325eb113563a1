-- The sheets of waves, one after the other.
use Rattle.std.proofs.Common.{◌≡◌, ◌∙◌, refl, sym, ap, subst, ℕ, ◌+◌, List, [], ◌∷◌, ◌++◌, Some, append_assoc, slice_get, take}
use Rattle.std.proofs.lemmas.List.{append-nil}
use Rattle.wp_machine.specs.declared.outcome.WaveHolds.{WaveHolds}
use Rattle.wp_model.specs.History.{History}
use Rattle.wp_outside.specs.Sections.{GrowsBy}
use Rattle.wp_planner.specs.Terms.{Terms}
use Rattle.wp_planner.specs.declared.planner.WavePlan.{WavePlan}
use Rattle.wp_top.proofs.MadeDays.{plans_more}
use Rattle.wp_top.proofs.Waves.{one_wave_more}
use Rattle.wp_top.proofs.Writing.{take_more}
use Rattle.wp_planner.specs.Sent.{Sent, plans_of, sent_waves}
use Rattle.wp_top.specs.Planned.{IsSentSheet}
use Rattle.wp_top.specs.Sheets.{AreSheets, IsSheetOf}

-- the sheets of waves and that of one more
sheets_more : (history : History) (terms : Terms) (waves : List WaveHolds) (plans : List WavePlan) (released : WaveHolds) (plan : WavePlan)
    (sheets sheet : List ℕ) → AreSheets history terms waves plans sheets → IsSheetOf history terms released plan sheet
    → AreSheets history terms (waves ++ released ∷ []) (plans ++ plan ∷ []) (sheets ++ sheet)
sheets_more history terms [] [] released plan sheets sheet are is =
    (sheet, [], is, refl, ap (λ before. before ++ sheet) are ∙ sym (append-nil sheet))
sheets_more history terms (wave ∷ waves) (first_plan ∷ plans) released plan sheets sheet (first, others, one, rest, parts) is = (
  first,
  others ++ sheet,
  one,
  sheets_more history terms waves plans released plan others sheet rest is,
  ap (λ text. text ++ sheet) parts ∙ append_assoc first others sheet,
)
sheets_more history terms [] (first_plan ∷ plans) released plan sheets sheet are is = absurd are
sheets_more history terms (wave ∷ waves) [] released plan sheets sheet are is = absurd are

-- a text that grew by sheets grows by one more
grown_more : (history : History) (terms : Terms) (waves : List WaveHolds) (plans : List WavePlan) (released : WaveHolds) (plan : WavePlan)
    (old mid new : List ℕ) → GrowsBy (AreSheets history terms waves plans) old mid → GrowsBy (IsSheetOf history terms released plan) mid new
    → GrowsBy (AreSheets history terms (waves ++ released ∷ []) (plans ++ plan ∷ [])) old new
grown_more history terms waves plans released plan old mid new (sheets, are, grew) (sheet, is, grows) = (
  sheets ++ sheet,
  sheets_more history terms waves plans released plan sheets sheet are is,
  grows ∙ (ap (λ text. text ++ sheet) grew ∙ append_assoc old sheets sheet),
)

-- at first it has grown by none
pub grown_by_none : (history : History) (terms : Terms) (text : List ℕ) → GrowsBy (AreSheets history terms [] []) text text
grown_by_none history terms text = ([], refl, sym (append-nil text))

-- the plan of one that has it
one_plan : (one : Sent) (plan : WavePlan) → one.plan ≡ Some plan → plans_of (one ∷ []) ≡ plan ∷ []
one_plan one plan is = rw is refl

-- a text that grew by the sheets of the first waves grows by that of the next
pub grown_next : (history : History) (terms : Terms) (sent : List Sent) (i : ℕ) (one : Sent) (old mid new : List ℕ)
    → slice_get sent i ≡ Some one → GrowsBy (AreSheets history terms (sent_waves (take i sent)) (plans_of (take i sent))) old mid
    → GrowsBy (IsSentSheet history terms one) mid new
    → GrowsBy (AreSheets history terms (sent_waves (take (i + 1) sent)) (plans_of (take (i + 1) sent))) old new
grown_next history terms sent i one old mid new at so_far (sheet, (plan, there, is), grows) =
    let waves : sent_waves (take (i + 1) sent) ≡ sent_waves (take i sent) ++ one.wave ∷ [] =
    ap sent_waves (take_more sent i one at) ∙ one_wave_more (take i sent) one in
    let plans : plans_of (take (i + 1) sent) ≡ plans_of (take i sent) ++ plan ∷ [] =
    plans_more sent i one at ∙ ap (λ (more : List WavePlan). plans_of (take i sent) ++ more) (one_plan one plan there) in
    subst (λ (ws : List WaveHolds). GrowsBy (AreSheets history terms ws (plans_of (take (i + 1) sent))) old new) (sym waves)
    (subst (λ (ps : List WavePlan). GrowsBy (AreSheets history terms (sent_waves (take i sent) ++ one.wave ∷ []) ps) old new) (sym plans)
    (grown_more history terms (sent_waves (take i sent)) (plans_of (take i sent)) one.wave plan old mid new so_far (sheet, is, grows)))
