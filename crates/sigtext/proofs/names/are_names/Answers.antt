use Rattle.std.proofs.Common.{eqb, length, List, ℕ, sym, ap, ◌∙◌, arith, rules, tests}
use Rattle.std.specs.List.{slice_split}
use Rattle.std.proofs.lemmas.Bool.{false≢true, not-false}
use Rattle.std.proofs.lemmas.Iterator.Consumers.{YieldsList-turn, YieldsList-end}
use Rattle.std.proofs.lemmas.Iterator.Splits.{YieldsList-from_slice_split}
use Rattle.std.proofs.lemmas.List.{length_push}
use Rattle.sigtext.specs.Bytes.{same_bytes}
use Rattle.sigtext.proofs.NamePieces.{not_below, goes_on, falls, is_none, all_came, signed_names}
use Rattle.sigtext.proofs.names.are_names.Goals as goal
use Rattle.sigtext.proofs.names.are_names.Goals.{then-ge-via-then-ge, then-ge-via-else-ge+then-not-is_header_name}

pub returns-then-ge : goal.returns-then-ge
returns-then-ge c =
    let turn = YieldsList-turn (YieldsList-from_slice_split _ (λ b. eqb b 59) c.args.text.now (search rules) (search rules) (search rules) (λ x r q k. search (rules, tests))) c.loop-name.yielded _ c.loop-name.yielded_by _ c.next.new.self c.in-Some.name c.in-Some.is c.next.ensures.steps in
    let before = c.loop-name.before.now in
    let name = c.in-Some.name.now in (
      λ t. absurd (false≢true t),
      λ s.
          let left = c.loop-name.invariant.same.1 ((signed_names c.args.text.now).1 s) in
          elim c.then-ge.branch [
            | then-ge-via-then-ge w ↦ absurd (falls _ _ before name c.loop-name.has_host turn (sym w.if-ge.true ∙ not_below before name c.ge.result c.ge.ensures) left)
            | then-ge-via-else-ge+then-not-is_header_name w ↦ absurd (is_none _ _ before name c.loop-name.has_host turn (λ form. false≢true (sym w.if-not-is_header_name.true ∙ w.is_header_name.ensures.1 form)) left)
          ],
    )

pub loop-name-preserved : goal.loop-name-preserved
loop-name-preserved c =
    let turn = YieldsList-turn (YieldsList-from_slice_split _ (λ b. eqb b 59) c.args.text.now (search rules) (search rules) (search rules) (λ x r q k. search (rules, tests))) c.loop-name.yielded _ c.loop-name.yielded_by _ c.next.new.self c.in-Some.name c.in-Some.is c.next.ensures.steps in
    let before = c.loop-name.before.now in
    let name = c.in-Some.name.now in
    let up = not-false _ (sym (sym c.if-ge.false ∙ not_below before name c.ge.result c.ge.ensures)) in
    let is_host = c.eq-has_host.ensures ∙ ap (λ (text : List ℕ). same_bytes name text) c.as_slice.ensures in
    record {
      can = search rules;
      finite = tt;
      same =
          goes_on (slice_split (λ b. eqb b 59) c.args.text.now) (length c.loop-name.yielded) _ before name c.loop-name.has_host c.eq-has_host.result turn (length_push c.loop-name.yielded c.in-Some.name)
          (c.is_header_name.ensures.0 c.if-not-is_header_name.false) up is_host c.loop-name.invariant.same;
    }

pub returns : goal.returns
returns c =
    let end = YieldsList-end (YieldsList-from_slice_split _ (λ b. eqb b 59) c.args.text.now (search rules) (search rules) (search rules) (λ x r q k. search (rules, tests))) c.loop-name.yielded _ c.loop-name.yielded_by _ c.next.new.self c.in-None.is c.next.ensures.steps in
    let came = all_came (slice_split (λ b. eqb b 59) c.args.text.now) (length c.loop-name.yielded) c.loop-name.before.now c.loop-name.has_host (omega (arith, end.1)) c.loop-name.invariant.same in
    let signed = signed_names c.args.text.now in
    (λ t. signed.0 (came.0 t), λ s. came.1 (signed.1 s))
