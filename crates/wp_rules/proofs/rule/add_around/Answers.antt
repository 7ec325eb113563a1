use Rattle.std.proofs.Common.{◌∙◌, ◌++◌, ◌∷◌, ◌+◌, ◌-◌, [], List, ap, reverse}
use Rattle.std.specs.List.{flat_map, range_with_len}
use Rattle.wp_model.specs.declared.point.Point.{Point}
use Rattle.wp_rules.specs.Rules.{far, far_part, home, home_part}
use Rattle.wp_rules.proofs.Adding.{around_is}
use Rattle.wp_rules.proofs.rule.add_around.Goals as goal

pub returns-clause-value : goal.returns-clause-value
returns-clause-value c =
    let layout = c.args.layout.now in
    let picks = c.args.picks.now.points in
    let first = c.args.first in
    let last = c.args.last in
    let far_parts = flat_map (far_part layout picks) (range_with_len (first + 1) (last - first - 1)) in
    let home_parts = flat_map (home_part layout picks) (reverse (range_with_len (first + 1) (last - first - 1))) in
    c.add_home_parts.ensures.value ∙ ap (λ (stops : List Point). stops ++ home_parts) (c.add_down.ensures.value
    ∙ ap (λ (stops : List Point). stops ++ far layout last ∷ home layout last ∷ []) (c.add_far_parts.ensures.value
    ∙ ap (λ (stops : List Point). stops ++ far_parts) c.add_up.ensures.value)) ∙ around_is layout picks first last c.args.stops.now
