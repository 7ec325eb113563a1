use Rattle.std.proofs.Common.{◌≡◌, ◌-◌, ◌∙◌, Err, IfErr, IfOk, List, ℕ, Ok, Result, ap, map, subst, sym, take}
use Rattle.serde_json.specs.View.{view}
use Rattle.wp_layout.specs.LayoutFile.{spacings_ranged, spacings_read, wholes_read}
use Rattle.wp_layout.specs.declared.fault.LayoutFault.{LayoutFault}
use Rattle.wp_model.specs.Outcomes.{and_then}
use Rattle.wp_layout.proofs.Ranged.{spacings_by}
use Rattle.wp_layout.proofs.spacings.read_spacings.Goals as goal
use Rattle.wp_layout.proofs.spacings.read_spacings.Goals.{After-spacings_in}

-- what is read is what the values say
read : (c : After-spacings_in) → and_then (wholes_read (map view c.deref.result.now)) (spacings_ranged c.args.aisles)
    ≡ spacings_read (view c.args.value.now) c.args.aisles
read c =
    ap (λ vs. and_then (wholes_read (map view vs)) (spacings_ranged c.args.aisles)) c.deref.ensures.value
    ∙ sym (spacings_by (view c.args.value.now) c.args.aisles c.in-Some.values.now.items (sym c.in-Some.ensures))

pub returns-in-Some-clause-ok : goal.returns-in-Some-clause-ok
returns-in-Some-clause-ok c =
    subst (λ (r : Result (List ℕ) LayoutFault). IfOk c.spacings_in.result (λ spacings. r ≡ Ok (take (c.args.aisles - 1) spacings)))
    (read (goal.at.returns-in-Some-clause-ok c).After-spacings_in) c.spacings_in.ensures.ok

pub returns-in-Some-clause-refusal : goal.returns-in-Some-clause-refusal
returns-in-Some-clause-refusal c =
    subst (λ (r : Result (List ℕ) LayoutFault). IfErr c.spacings_in.result (λ fault. r ≡ Err fault))
    (read (goal.at.returns-in-Some-clause-refusal c).After-spacings_in) c.spacings_in.ensures.refusal
