use Rattle.std.proofs.Common.{◌∙◌, ◌++◌, ◌∷◌, [], ℕ, List, ap, false, get_or, sym}
use Rattle.wp_model.specs.declared.point.Point.{Point}
use Rattle.wp_rules.specs.Rules.{far, from_home, home, through}
use Rattle.wp_rules.proofs.Adding.{after_two, list_none, list_one, list_two, through_none, through_one, through_two}
use Rattle.wp_rules.proofs.rule.+add_through.Goals as goal

pub returns-in-empty-clause-value : goal.returns-in-empty-clause-value
returns-in-empty-clause-value t c =
    let layout = c.args.layout.now in
    let picks = c.args.picks.now.points in
    let stops = c.args.stops.now in
    through_none layout picks stops
    ∙ ap (λ (aisles : List ℕ). stops ++ through layout picks false aisles) (sym (list_none c.args.aisles.now c.in-empty.len_below))

pub returns-in-len1-clause-value : goal.returns-in-len1-clause-value
returns-in-len1-clause-value t c =
    let layout = c.args.layout.now in
    let picks = c.args.picks.now.points in
    let stops = c.args.stops.now in
    let aisles = c.args.aisles.now in
    let aisle = get_or aisles 0 0 in
    c.add_from_home.ensures ∙ ap (λ depth. stops ++ from_home layout aisle depth) c.deepest.ensures.value
    ∙ ap (λ (more : List Point). stops ++ more) (sym (through_one layout picks aisle))
    ∙ ap (λ (all : List ℕ). stops ++ through layout picks false all) (sym (list_one aisles c.in-len1.len_at_least c.in-len1.len_below))

pub returns-in-len2-up-clause-value : goal.returns-in-len2-up-clause-value
returns-in-len2-up-clause-value t c =
    let layout = c.args.layout.now in
    let picks = c.args.picks.now.points in
    let stops = c.args.stops.now in
    let aisles = c.args.aisles.now in
    let aisle = get_or aisles 0 0 in
    let next = get_or aisles 1 0 in
    c.add_through.ensures.value ∙ ap (λ (all : List Point). all ++ through layout picks false (after_two aisles)) (c.add_down.ensures.value
    ∙ ap (λ (all : List Point). all ++ far layout next ∷ home layout next ∷ []) c.add_up.ensures.value)
    ∙ through_two layout picks stops aisle next (after_two aisles)
    ∙ ap (λ (all : List ℕ). stops ++ through layout picks false all) (sym (list_two aisles c.in-len2-up.len_at_least))
