use Rattle.std.proofs.Common.{◌+◌, ◌∙◌, ℕ, Some, ap, arith}
use Rattle.std.specs.Option.{unwrap_or}
use Rattle.wp_fast.proofs.WayNumbers.{back_numbers, front_numbers, inside_numbers, no_way, odd_numbers, three_numbers}
use Rattle.wp_fast.proofs.lengths.before_way.Goals as goal

pub returns : goal.returns
returns c =
    let w = c.args.ways.now in
    let a = c.args.after.now in
    let back = unwrap_or w.back no_way in
    let front = unwrap_or w.front no_way in
    let gap = unwrap_or w.gap no_way in
    let short = c.requires.after in
    let double = c.requires.ways.short.double in
    let odd : ℕ = w.pass + a.uu1 in
    let joined : ℕ = w.double + a.ee1 in
    record {
      uu1 = rw c.requires.ways.needed
          (ap (λ (t : ℕ). Some t) (rw
          (c.min-3.ensures, c.min-2.ensures, c.min-inside.ensures, c.min.ensures, c.unwrap_or-back.ensures, c.unwrap_or-front.ensures, c.unwrap_or-gap.ensures)
          (odd_numbers back front gap w.double a.uu1 (w.pass + a.ee1)))
          ∙ three_numbers (w.pass + a.ee1) (w.double + a.uu1) a.uu1 a.uu1 a.uu1 w.back w.front w.gap
          (omega (arith, short.uu1, double)) short.uu1 short.uu1 short.uu1);
      e01 = rw c.requires.ways.needed
          (ap (λ (t : ℕ). Some t) (rw
          (c.min-7.ensures, c.min-6.ensures, c.min-5.ensures, c.min-4.ensures, c.unwrap_or-back.ensures, c.unwrap_or-front.ensures, c.unwrap_or-gap.ensures)
          (back_numbers back front gap a.e01 a.ee2 odd joined))
          ∙ three_numbers odd joined a.e01 a.ee2 a.ee2 w.back w.front w.gap (omega (arith, short.ee1, double)) short.e01 short.ee2 short.ee2);
      ze1 = rw c.requires.ways.needed
          (ap (λ (t : ℕ). Some t) (rw
          (c.min-11.ensures, c.min-10.ensures, c.min-9.ensures, c.min-8.ensures, c.unwrap_or-back.ensures, c.unwrap_or-front.ensures, c.unwrap_or-gap.ensures)
          (front_numbers back front gap a.ze1 a.ee2 odd joined))
          ∙ three_numbers odd joined a.ee2 a.ze1 a.ee2 w.back w.front w.gap (omega (arith, short.ee1, double)) short.ee2 short.ze1 short.ee2);
      ee1 = rw c.requires.ways.needed
          (ap (λ (t : ℕ). Some t) (rw (
            c.min-13.ensures,
            c.min-12.ensures,
            c.min-inside.ensures,
            c.min.ensures,
            c.unwrap_or-back.ensures,
            c.unwrap_or-front.ensures,
            c.unwrap_or-gap.ensures,
          )
          (inside_numbers back front gap a.ee1 odd joined))
          ∙ three_numbers odd joined a.ee1 a.ee1 a.ee1 w.back w.front w.gap (omega (arith, short.ee1, double)) short.ee1 short.ee1 short.ee1);
      ee2 = rw c.requires.ways.needed
          (ap (λ (t : ℕ). Some t) (rw (
            c.min-15.ensures,
            c.min-14.ensures,
            c.min-inside.ensures,
            c.min.ensures,
            c.unwrap_or-back.ensures,
            c.unwrap_or-front.ensures,
            c.unwrap_or-gap.ensures,
          )
          (inside_numbers back front gap a.ee2 odd joined))
          ∙ three_numbers odd joined a.ee2 a.ee2 a.ee2 w.back w.front w.gap (omega (arith, short.ee1, double)) short.ee2 short.ee2 short.ee2);
    }
