use Rattle.std.proofs.Common.{◌∙◌, ◌++◌, ℕ, List, ap, arith, get_or, inr, refl, subst, sym}
use Rattle.wp_model.specs.declared.point.Point.{Point}
use Rattle.wp_graph.specs.Members.{Among}
use Rattle.wp_graph.proofs.Members.{among_at}
use Rattle.wp_rules.specs.Rules.{around, around_gaps, from_home, last_of}
use Rattle.wp_rules.proofs.Adding.{after_two, around_more, around_none, around_one, list_none, list_one, list_two}
use Rattle.wp_rules.proofs.RuleTours.{last_among}
use Rattle.wp_rules.proofs.rule.add_around_gaps.Goals as goal

pub add_around-requires-clause-first : goal.add_around-requires-clause-first
add_around-requires-clause-first c =
    let aisles = c.args.aisles.now in
    let among = among_at aisles 0 (get_or aisles 0 0) 0 (omega (arith, c.in-len2-up.len_at_least)) refl in
    omega (arith, (c.requires.aisles (get_or aisles 0 0) among).1, c.requires.valid.aisles.1)

pub add_around-requires-clause-last : goal.add_around-requires-clause-last
add_around-requires-clause-last c =
    let aisles = c.args.aisles.now in
    let last = last_of (get_or aisles 1 0) (after_two aisles) in
    let among = subst (λ (all : List ℕ). Among all last) (sym (list_two aisles c.in-len2-up.len_at_least))
    (inr (last_among (get_or aisles 1 0) (after_two aisles))) in
    omega (arith, c.last_of.ensures, (c.requires.aisles last among).1, c.requires.valid.aisles.1)

pub returns-in-empty-clause-value : goal.returns-in-empty-clause-value
returns-in-empty-clause-value c =
    let layout = c.args.layout.now in
    let picks = c.args.picks.now.points in
    let stops = c.args.stops.now in
    around_none layout picks stops
    ∙ ap (λ (aisles : List ℕ). stops ++ around_gaps layout picks aisles) (sym (list_none c.args.aisles.now c.in-empty.len_below))

pub returns-in-len1-clause-value : goal.returns-in-len1-clause-value
returns-in-len1-clause-value c =
    let layout = c.args.layout.now in
    let picks = c.args.picks.now.points in
    let stops = c.args.stops.now in
    let aisles = c.args.aisles.now in
    let aisle = get_or aisles 0 0 in
    c.add_from_home.ensures ∙ ap (λ depth. stops ++ from_home layout aisle depth) c.deepest.ensures.value
    ∙ ap (λ (more : List Point). stops ++ more) (sym (around_one layout picks aisle))
    ∙ ap (λ (all : List ℕ). stops ++ around_gaps layout picks all) (sym (list_one aisles c.in-len1.len_at_least c.in-len1.len_below))

pub returns-in-len2-up-clause-value : goal.returns-in-len2-up-clause-value
returns-in-len2-up-clause-value c =
    let layout = c.args.layout.now in
    let picks = c.args.picks.now.points in
    let stops = c.args.stops.now in
    let aisles = c.args.aisles.now in
    let first = get_or aisles 0 0 in
    let next = get_or aisles 1 0 in
    c.add_around.ensures.value ∙ ap (λ last. stops ++ around layout picks first last) c.last_of.ensures
    ∙ ap (λ (more : List Point). stops ++ more) (sym (around_more layout picks first next (after_two aisles)))
    ∙ ap (λ (all : List ℕ). stops ++ around_gaps layout picks all) (sym (list_two aisles c.in-len2-up.len_at_least))
