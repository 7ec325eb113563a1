use Rattle.std.proofs.Common.{ℕ, ◌≡◌, arith, subst, sym, ⊎_elim}
use Rattle.std.proofs.lemmas.Bool.{cases_eq}
use Rattle.wp_pairs.specs.Permitted.{AreDecided}
use Rattle.wp_pairs.proofs.pairs.Pairs.undecided.Goals as goal

pub loop-first-preserved : goal.loop-first-preserved
loop-first-preserved c = λ left right low order known.
    ⊎_elim
    (λ (e : left ≡ c.loop-first.first). subst (λ (l : ℕ). AreDecided c.args.self.now.pairs l right) (sym e)
    (c.in_default.ensures.none right (omega (arith, e)) known))
    (λ ne. c.loop-first.invariant left right (omega (arith, ne)) order known)
    (cases_eq left c.loop-first.first)
