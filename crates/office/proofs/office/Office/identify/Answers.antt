use Rattle.std.proofs.Common.{refl, subst, List, ℕ, arith}
use Rattle.boxes.specs.Rows.{key_of}
use Rattle.links.specs.Admits.{IsSignedBy}
use Rattle.office.proofs.Deciding.{HasKey, key_unknown, key_revoked}
use Rattle.office.proofs.Judged.{asked_none, asked_some, mismatched}
use Rattle.office.proofs.KeeperCalls.{looks_answered, looks_failed}
use Rattle.office.proofs.office.Office.identify.Goals as goal

pub returns-in-Ok-None-clause-identifies : goal.returns-in-Ok-None-clause-identifies
returns-in-Ok-None-clause-identifies g c s r p kept is other now =
    key_unknown s r now p is.well_formed (asked_none s c.key_id.result.now p.key_id c.in-Ok-None.field-0 (c.in-Ok-None.ensures.value s kept.means kept.sound kept.is_honest) c.in-Ok-None.field-0-is (c.key_id.ensures r p is))

pub returns-then-key-clause-identifies : goal.returns-then-key-clause-identifies
returns-then-key-clause-identifies g c s r p kept is other now =
    let there = asked_some s c.key_id.result.now p.key_id c.in-Ok-Some.field-0 c.in-Ok-Some.key (c.in-Ok-Some.ensures.value s kept.means kept.sound kept.is_honest) c.in-Ok-Some.field-0-is (c.key_id.ensures r p is) in
    key_revoked s r now p (key_of c.in-Ok-Some.key) is.well_formed there c.if-key.true

pub returns-in-Ok-clause-identifies : goal.returns-in-Ok-clause-identifies
returns-in-Ok-clause-identifies g c s r p kept is =
    let there = asked_some s c.key_id.result.now p.key_id c.in-Ok-Some.field-0 c.in-Ok-Some.key (c.in-Ok-Some.ensures.value s kept.means kept.sound kept.is_honest) c.in-Ok-Some.field-0-is (c.key_id.ensures r p is) in
    let right = c.in-Ok.ensures r p is in (
      key_of c.in-Ok-Some.key,
      record {
        well_formed = is.well_formed;
        there = there;
        unrevoked = c.if-key.false;
        signed = subst (λ (t : List ℕ). IsSignedBy t r p) c.deref.ensures.value right;
      },
      refl,
    )

pub returns-in-Ok-Some-clause-identifies : goal.returns-in-Ok-Some-clause-identifies
returns-in-Ok-Some-clause-identifies g c s r p kept is other now =
    let there = asked_some s c.key_id.result.now p.key_id c.in-Ok-Some.field-0 c.in-Ok-Some.key (c.in-Ok-Some.ensures.value s kept.means kept.sound kept.is_honest) c.in-Ok-Some.field-0-is (c.key_id.ensures r p is) in
    let key : HasKey s p (key_of c.in-Ok-Some.key) = record { there = there; unrevoked = c.if-key.false } in
    let fails = c.in-Err-check_signature.ensures r p is in
    mismatched s r now p (key_of c.in-Ok-Some.key) c.deref.result.now c.in-Err-check_signature.refusal is.well_formed key c.deref.ensures.value fails.0 fails.1

pub returns-clause-identifies : goal.returns-clause-identifies
returns-clause-identifies g c = grind arith

pub returns-in-Ok-None-clause-looks : goal.returns-in-Ok-None-clause-looks
returns-in-Ok-None-clause-looks g c = looks_answered c.in-Ok-None.ensures.rest c.key.ensures.staged

pub returns-then-key-clause-looks : goal.returns-then-key-clause-looks
returns-then-key-clause-looks g c = looks_answered c.in-Ok-Some.ensures.rest c.key.ensures.staged

pub returns-in-Ok-clause-looks : goal.returns-in-Ok-clause-looks
returns-in-Ok-clause-looks g c = looks_answered c.in-Ok-Some.ensures.rest c.key.ensures.staged

pub returns-in-Ok-Some-clause-looks : goal.returns-in-Ok-Some-clause-looks
returns-in-Ok-Some-clause-looks g c = looks_answered c.in-Ok-Some.ensures.rest c.key.ensures.staged

pub returns-clause-looks : goal.returns-clause-looks
returns-clause-looks g c = looks_failed c.in-Err.ensures.rest c.key.ensures.staged refl
