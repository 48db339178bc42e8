use Rattle.std.proofs.Common.{sym, ◌∙◌, arith}
use Rattle.percent_encoding.specs.Percent.{percent_decode}
use Rattle.sigtext.specs.Readable.{is_signing_name, is_other_amz_name}
use Rattle.links.proofs.AmzNames.{signing_is_no_other, other_begins, no_other_begins}
use Rattle.links.proofs.PairLoops.{any_more, any_here}
use Rattle.links.proofs.six.amz_names.Goals as goal

pub loop-raw-preserved-then-is_signing : goal.loop-raw-preserved-then-is_signing
loop-raw-preserved-then-is_signing c =
    let signing = sym c.is_signing.ensures ∙ c.if-is_signing.true in
    record {
      can = tt;
      finite = tt;
      signing = λ params spelled. any_here is_signing_name params _ _ _ c.in-Some.raw c.in-Some.ensures.steps signing (c.loop-raw.invariant.signing params spelled);
      other = λ params spelled. any_more is_other_amz_name params _ _ _ c.in-Some.raw c.in-Some.ensures.steps (signing_is_no_other (percent_decode c.in-Some.raw.name.now) signing) (c.loop-raw.invariant.other params spelled);
    }

pub loop-raw-preserved-then-has_prefix : goal.loop-raw-preserved-then-has_prefix
loop-raw-preserved-then-has_prefix c =
    let unsigned = sym c.is_signing.ensures ∙ c.if-is_signing.false in
    let other = other_begins (percent_decode c.in-Some.raw.name.now) unsigned (sym c.has_prefix.ensures ∙ c.if-has_prefix.true) in
    record {
      can = tt;
      finite = tt;
      signing = λ params spelled. any_more is_signing_name params _ _ _ c.in-Some.raw c.in-Some.ensures.steps unsigned (c.loop-raw.invariant.signing params spelled);
      other = λ params spelled. any_here is_other_amz_name params _ _ _ c.in-Some.raw c.in-Some.ensures.steps other (c.loop-raw.invariant.other params spelled);
    }

pub loop-raw-preserved : goal.loop-raw-preserved
loop-raw-preserved c =
    let unsigned = sym c.is_signing.ensures ∙ c.if-is_signing.false in
    let no_other = no_other_begins (percent_decode c.in-Some.raw.name.now) (sym c.has_prefix.ensures ∙ c.if-has_prefix.false) in
    record {
      can = tt;
      finite = tt;
      signing = λ params spelled. any_more is_signing_name params _ _ _ c.in-Some.raw c.in-Some.ensures.steps unsigned (c.loop-raw.invariant.signing params spelled);
      other = λ params spelled. any_more is_other_amz_name params _ _ _ c.in-Some.raw c.in-Some.ensures.steps no_other (c.loop-raw.invariant.other params spelled);
    }

pub loop-raw-init : goal.loop-raw-init
loop-raw-init c = grind arith

pub returns-clause-other : goal.returns-clause-other
returns-clause-other c = grind arith

pub returns-clause-signing : goal.returns-clause-signing
returns-clause-signing c = grind arith
