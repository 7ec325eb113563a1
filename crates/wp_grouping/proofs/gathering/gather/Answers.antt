use Rattle.std.proofs.Common.{◌≡◌, ◌∙◌, ◌+◌, ◌++◌, ◌∷◌, [], sym, ap₂, subst, List, length, take, add-one, arith}
use Rattle.std.proofs.Math.Seq.{take-suc}
use Rattle.std.proofs.lemmas.List.{length-take}
use Rattle.std.specs.Prelude.{slice_index}
use Rattle.wp_grouping.proofs.Joining.{all_joined_more}
use Rattle.wp_grouping.specs.Gathering.{AreKept, Gathered, all_joined}
use Rattle.wp_waves.proofs.KeptWaves.{take_one}
use Rattle.wp_grouping.proofs.gathering.gather.Goals as goal

pub loop-number-preserved : goal.loop-number-preserved
loop-number-preserved c =
    let served = c.args.served.now in
    let keys = c.args.keys.now in
    let i = c.loop-number.number in
    let one = c.index-served-number.result in
    let key = slice_index keys i in
    let more = take_one served i one (omega arith) c.index-served-number.is in
    let more_keys : take (i + 1) keys ≡ take i keys ++ key ∷ [] = rw add-one (take-suc keys i 0 (omega (arith, c.requires.count))) in
    let long : length (take i keys) ≡ length (take i served) = omega (arith, length-take i keys, length-take i served, c.requires.count) in
    let step = ap₂ (all_joined []) more more_keys ∙ all_joined_more [] (take i served) (take i keys) one key long in
    record {
      count = c.in_ok-put.ensures.count ∙ c.loop-number.invariant.count;
      kept = subst (λ (g : List Gathered). AreKept g c.put.new.waves.items c.put.new.places.items) (sym step)
          (c.in_ok-put.ensures.joined (all_joined [] (take i served) (take i keys)) c.loop-number.invariant.kept);
    }
