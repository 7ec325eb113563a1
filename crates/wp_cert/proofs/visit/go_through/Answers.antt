use Rattle.std.proofs.Common.{arith, refl, subst}
use Rattle.wp_lengths.specs.Waves.{WavePicks}
use Rattle.wp_cert.specs.Levels.{AreLevels}
use Rattle.std.specs.Prelude.{Ok, Err}
use Rattle.std.proofs.lemmas.Result.{err_from_is_err_and}
use Rattle.wp_cert.proofs.Testing.{visited_all}
use Rattle.wp_cert.proofs.visit.go_through.Goals as goal

pub visit_all-requires : goal.visit_all-requires
visit_all-requires c = record {
  fits = record {
    is = c.requires;
    levels = subst (λ (w : WavePicks). AreLevels w c.none.result) c.wave.ensures c.none.ensures;
    known = c.none-2.ensures c.args.tested.now.terms.now.wave;
    within = omega arith;
    plain = c.is_plain.ensures;
  };
}

pub returns-in_err-visit_all-clause-err : goal.returns-in_err-visit_all-clause-err
returns-in_err-visit_all-clause-err c =
    let p = err_from_is_err_and c.from_residual.result c.from_residual.ensures.1 in
    rw (p.1, p.2) (visited_all c.args.visit.now c.args.tested.now
    (record { tested = c.args.tested.now; levels = c.none.result; known = c.none-2.result; next = 0; is_plain = c.is_plain.result }) c.visit_all.new.visitor
    (Err c.in_err-visit_all.field-0.0) c.requires c.in_err-visit_all.ensures.course refl refl)

pub returns-clause-ok : goal.returns-clause-ok
returns-clause-ok c =
    visited_all c.args.visit.now c.args.tested.now
    (record { tested = c.args.tested.now; levels = c.none.result; known = c.none-2.result; next = 0; is_plain = c.is_plain.result }) c.visit_all.new.visitor (Ok tt) c.requires
    c.in_ok-visit_all.ensures.course refl refl
