use Rattle.std.proofs.Common.{◌≡◌, ◌∙◌, length, arith}
use Rattle.wp_grouping.proofs.Keeping.{as_many, begun_kept, found_place, joined_kept, kept_place, place_within}
use Rattle.wp_grouping.proofs.gathering.put.Goals as goal

pub index_mut-requires : goal.index_mut-requires
index_mut-requires c =
    let waves = c.args.waves.now.items in
    let places = c.args.places.now.items in
    let gathered = c.requires.kept.0 in
    let are = c.requires.kept.1 in
    let found = found_place gathered waves places c.args.key c.index.result.now c.in-Some.place are c.requires.small c.index.ensures c.in-Some.is in
    omega (arith, as_many gathered waves places are, place_within c.args.key gathered c.in-Some.place found)

pub returns-in_ok-push-in-Some-clause-joined : goal.returns-in_ok-push-in-Some-clause-joined
returns-in_ok-push-in-Some-clause-joined c = λ gathered are.
    let waves = c.args.waves.now.items in
    let places = c.args.places.now.items in
    let found = found_place gathered waves places c.args.key c.index.result.now c.in-Some.place are c.requires.small c.index.ensures c.in-Some.is in
    joined_kept gathered waves places c.args.key c.in-Some.place c.args.one.now c.index_mut.result.now c.push.new.self are found
    c.index_mut.ensures.value c.in_ok-push-in-Some.ensures.items

pub returns-in_ok-begin-in-None-clause-joined : goal.returns-in_ok-begin-in-None-clause-joined
returns-in_ok-begin-in-None-clause-joined c = λ gathered are.
    let waves = c.args.waves.now.items in
    let places = c.args.places.now.items in
    let none = kept_place gathered waves places c.args.key c.index.result.now are c.requires.small c.index.ensures ∙ c.in-None.is in
    let long : c.len.result ≡ length waves = omega (arith, c.len.ensures) in
    begun_kept gathered waves c.begin.new.waves.items places c.args.key c.len.result c.args.one.now are none c.requires.small long
    c.in_ok-begin-in-None.ensures
