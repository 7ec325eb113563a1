use Rattle.std.proofs.Common.{rules, ◌≡◌, ◌∙◌, ℕ, suc, ◌+◌, ◌-◌, ◌++◌, [], ◌∷◌, List, drop, map, sym, subst, vec_len, arith, Some, length, ap, ◌≤◌, length-take}
use Rattle.std.proofs.Common.{length-drop}
use Rattle.std.specs.Prelude.{option_map}
use Rattle.wp_store.specs.Records.{records_of, records_up_to, first_record, most_records, stored_bytes}
use Rattle.wp_store.specs.Spans.{body_at, LieWithin}
use Rattle.wp_store.specs.declared.bodies.BodySpan.{BodySpan}
use Rattle.wp_store.proofs.Reading.{span, read_first, read_more, read_all, read_most, stored_more_bytes, within_more, says_there}
use Rattle.wp_store.proofs.bodies.read_spans.Goals as goal
use Rattle.wp_store.proofs.bodies.read_spans.Goals.{else-spans-test, then-spans-test+in_default}

pub spans-init : goal.spans-init
spans-init c =
    let bytes = c.args.bytes.now in
    let none : c.new-spans.result.items ≡ [] = c.new-spans.ensures.items in
    let len : vec_len c.new-spans.result ≡ 0 = c.new-spans.ensures.len in record {
      read = rw (none, len) (read_first bytes);
      stored = rw none (search rules);
      inside = rw none (search rules);
      within = omega arith;
      bound = omega arith;
      most = omega arith;
    }

pub spans-preserved : goal.spans-preserved
spans-preserved c =
    let bytes = c.args.bytes.now in
    let spans = c.spans.spans.items in
    let end = c.spans.end in
    let n = c.in-Some.length in
    let i = c.spans.invariant in
    let left = most_records - vec_len c.push.new.self in
    let says : option_map (λ first. length first.body) (first_record (drop end bytes))
    ≡ Some n = says_there bytes end _ c.first_length.ensures.length ∙ c.in-Some.is in
    let fits : n + 5 ≤ length bytes - end = omega (arith, c.in-Some.ensures.within, length-take (length bytes - end) (drop end bytes), length-drop end bytes) in
    let most : n ≤ 8192 = c.in-Some.ensures.most in
    let items : c.push.new.self.items ≡ spans ++ span end n ∷ [] = c.in_ok-push.ensures.items in
    let len : vec_len c.push.new.self ≡ vec_len c.spans.spans + 1 = c.in_ok-push.ensures.len in
    let test = c.spans-test.true in
    let counted = c.len.ensures in
    let one : most_records - vec_len c.spans.spans ≡ suc left = omega arith in record {
      read =
          subst (λ (is : List BodySpan). map (body_at bytes) is ++ records_up_to left (drop (end + 5 + n) bytes) ≡ records_of bytes) (sym items)
          (read_more bytes spans end i.within n left says
          (subst (λ (k : ℕ). map (body_at bytes) spans ++ records_up_to k (drop end bytes) ≡ records_of bytes) one i.read));
      stored = subst (λ (is : List BodySpan). end + 5 + n ≡ stored_bytes (map (body_at bytes) is)) (sym items)
          (stored_more_bytes bytes spans end i.within n left says i.stored);
      inside = subst (λ (is : List BodySpan). LieWithin bytes is) (sym items) (within_more bytes spans (span end n) i.inside (omega (arith, fits, i.within)));
      within = omega (arith, fits, i.within);
      bound = omega (arith, i.bound, most, len);
      most = omega arith;
    }

pub returns-clause-bodies : goal.returns-clause-bodies
returns-clause-bodies c =
    let bytes = c.args.bytes.now in
    let i = c.spans.invariant in
    elim c.spans-test.branch [
      | else-spans-test w ↦ let test = w.spans-test.false in let counted
          = c.len.ensures in read_most bytes c.spans.spans.items c.spans.end i.within _ (omega arith) i.read
      | then-spans-test+in_default w ↦ read_all bytes c.spans.spans.items c.spans.end i.within _ i.read
          (says_there bytes c.spans.end _ w.first_length.ensures.length ∙ w.in_default.is)
    ]

pub returns-clause-end : goal.returns-clause-end
returns-clause-end c = c.spans.invariant.stored ∙ ap stored_bytes (returns-clause-bodies c)
