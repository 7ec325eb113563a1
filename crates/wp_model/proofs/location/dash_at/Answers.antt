use Rattle.std.proofs.Common.{length, sym, arith}
use Rattle.std.proofs.lemmas.List.Sums.{position_or_len_is}
use Rattle.std.proofs.lemmas.Grind.{common_steps}
use Rattle.wp_model.specs.Location.{is_dash}
use Rattle.wp_model.proofs.location.dash_at.Goals as goal

pub returns-then-byte-eq45 : goal.returns-then-byte-eq45
returns-then-byte-eq45 c =
    sym (position_or_len_is is_dash c.args.text.now c.loop-at.at 0 (omega arith) c.loop-at.invariant (λ _. grind (arith, common_steps)))

pub returns : goal.returns
returns c =
    sym (position_or_len_is is_dash c.args.text.now (length c.args.text.now) 0 (omega arith) (λ k h. c.loop-at.invariant k (omega arith))
    (λ h. absurd (omega arith)))
