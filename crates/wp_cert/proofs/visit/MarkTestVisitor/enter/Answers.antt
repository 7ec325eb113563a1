use Rattle.std.proofs.Common.{Bool, ◌+◌, arith, ap, refl, ◌∙◌}
use Rattle.std.specs.Prelude.{Some}
use Rattle.wp_cert.proofs.Entering.{entered_there, missing_there, past_there, too_much_there, unsound_there}
use Rattle.wp_cert.proofs.visit.MarkTestVisitor.enter.Goals as goal

pub returns-in_default-clause-enters : goal.returns-in_default-clause-enters
returns-in_default-clause-enters c = record {
  same = refl;
  says = too_much_there c.args.visit.now c.args.self.now.tested c.requires.fits.is c.args.place.now c.requires.at c.args.self.now.next c.args.self.now.next
      (c.in_default.ensures.too_much c.args.self.now.tested.own.now c.owed-owed.ensures);
}

pub returns-then-next-len-clause-enters : goal.returns-then-next-len-clause-enters
returns-then-next-len-clause-enters c =
    let within = c.in-Some.ensures.paid c.args.self.now.tested.own.now c.owed-owed.ensures in record {
      same = refl;
      says = missing_there c.args.visit.now c.args.self.now.tested c.requires.fits.is c.args.place.now c.requires.at c.args.self.now.next
          c.args.self.now.next within (omega (arith, c.if-next-len.true, c.len.ensures));
    }

pub returns-then-at-clause-fits : goal.returns-then-at-clause-fits
returns-then-at-clause-fits c = record {
  is = c.requires.fits.is;
  levels = c.in-Some.ensures.levels;
  known = c.keep.ensures c.args.self.now.tested.terms.now.wave c.requires.fits.known c.in-Some.ensures.known;
  within = omega (arith, c.requires.fits.within, c.if-next-len.false, c.len.ensures);
  plain = c.requires.fits.plain;
}

pub returns-then-at-clause-enters : goal.returns-then-at-clause-enters
returns-then-at-clause-enters c =
    let within = c.in-Some.ensures.paid c.args.self.now.tested.own.now c.owed-owed.ensures in record {
      same = refl;
      says = entered_there c.args.visit.now c.args.self.now.tested c.requires.fits.is c.args.place.now c.requires.at c.args.self.now.next within
          (c.at.ensures ∙ ap (λ (b : Bool). Some b) c.if-at.true);
    }

pub returns-then-stands_for_more-clause-enters : goal.returns-then-stands_for_more-clause-enters
returns-then-stands_for_more-clause-enters c = record {
  same = refl;
  says = past_there c.args.visit.now c.args.self.now.tested c.requires.fits.is c.args.place.now c.requires.at c.args.self.now.next
      (c.at.ensures ∙ ap (λ (b : Bool). Some b) c.if-at.false) (c.stands_for_more.ensures.yes c.if-stands_for_more.true c.args.visit.now.pairing c.args.self.now.tested.own.now c.owed_with_reach-reached.ensures);
}

pub returns-else-stands_for_more-clause-enters : goal.returns-else-stands_for_more-clause-enters
returns-else-stands_for_more-clause-enters c =
    let within = c.in-Some.ensures.paid c.args.self.now.tested.own.now c.owed-owed.ensures in record {
      same = refl;
      says = unsound_there c.args.visit.now c.args.self.now.tested c.requires.fits.is c.args.place.now c.requires.at c.args.self.now.next
          (c.args.self.now.next + 1) (c.at.ensures ∙ ap (λ (b : Bool). Some b) c.if-at.false) within
          (c.stands_for_more.ensures.no c.if-stands_for_more.false c.args.visit.now.pairing c.args.self.now.tested.own.now c.owed_with_reach-reached.ensures);
    }
