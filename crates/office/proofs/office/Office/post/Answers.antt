use Rattle.std.proofs.Common.{◌∙◌, Err, codes, sym, subst, rules, inl, refl}
use Rattle.sigtext.specs.declared.refusal.Refusal.TheVariants as rule
use Rattle.links.specs.WellFormed.{HasValue}
use Rattle.links.proofs.Texts.{texts_differ, texts_equal}
use Rattle.office.specs.Crashes.{Endures}
use Rattle.office.proofs.Foreseen.{done_plain}
use Rattle.office.proofs.Endurance.{more_asked, refused_asked, refused_same}
use Rattle.office.proofs.Obeyed.{asked_by, elsewhere, no_line, not_given, not_obeyed, obeyed}
use Rattle.office.proofs.Holding.{holds_less}
use Rattle.office.proofs.KeeperCalls.{quiet_still}
use Rattle.office.proofs.Replied.{replies_refused}
use Rattle.office.proofs.office.Office.post.Goals as goal

pub returns-in_default-clause-replies : goal.returns-in_default-clause-replies
returns-in_default-clause-replies g c now = replies_refused rule.TryAgain (Err rule.TryAgain) quiet_still (λ _. refl) (λ s r kept right other. absurd (other refl))

pub returns-then-ne-clause-replies : goal.returns-then-ne-clause-replies
returns-then-ne-clause-replies g c now =
    replies_refused rule.CommandMalformed (Err rule.CommandMalformed) quiet_still (λ _. refl)
    (λ s r kept right other.
    let (p, is, is_post, reached) = right in
    elsewhere (g.K.Keeper.means c.args.self.now.keeper) s r now p reached is_post
    (λ at. texts_differ c.as_slice.result.now c.as_slice-2.result.now (search rules) (c.as_slice.ensures.value ∙ c.in-Ok.ensures r p is ∙ at ∙ sym c.as_slice-2.ensures)))

pub returns-in-Ok-None-clause-replies : goal.returns-in-Ok-None-clause-replies
returns-in-Ok-None-clause-replies g c now =
    replies_refused rule.CommandMalformed (Err rule.CommandMalformed) quiet_still (λ _. refl)
    (λ s r kept right other.
    let (p, is, is_post, reached) = right in
    not_given (g.K.Keeper.means c.args.self.now.keeper) s r now p reached is_post (rw c.in-Ok-None.field-0-is at (c.in-Ok-None.ensures.found r p is)))

pub returns-in-Err-clause-replies : goal.returns-in-Err-clause-replies
returns-in-Err-clause-replies g c now = replies_refused rule.TryAgain (Err rule.TryAgain) quiet_still (λ _. refl) (λ s r kept right other. absurd (other refl))

pub returns-in-Ok-desk-clause-replies : goal.returns-in-Ok-desk-clause-replies
returns-in-Ok-desk-clause-replies g c now = record {
  replied = λ s r kept right.
      let (p, is, is_post, reached) = right in
      let at = sym (c.in-Ok.ensures r p is) ∙ sym c.as_slice.ensures.value ∙ texts_equal c.as_slice.result.now c.as_slice-2.result.now (search rules) ∙ c.as_slice-2.ensures in
      let given = subst (HasValue p.params (codes "desk")) (sym c.deref.ensures.value) (rw c.in-Ok-Some.field-0-is at (c.in-Ok-Some.ensures.found r p is)) in
      let done = c.in-Ok-desk.ensures.obeys s kept in
      obeyed (Endures g.K.Keeper c.args.self.now.keeper c.desk.new.self.keeper s) s r now p reached is_post c.deref.result.now at given done.0 done.1 done.2 done.3 done.4;
  same = λ s means. tt;
  plain = done_plain;
  crash = λ s r kept right. tt;
  rest = holds_less (λ is. absurd is) c.in-Ok-desk.ensures.rest;
}

pub returns-in-Err-Malformed-clause-replies : goal.returns-in-Err-Malformed-clause-replies
returns-in-Err-Malformed-clause-replies g c now = record {
  replied = λ s r kept right other.
      let (p, is, is_post, reached) = right in
      let at = sym (c.in-Ok.ensures r p is) ∙ sym c.as_slice.ensures.value ∙ texts_equal c.as_slice.result.now c.as_slice-2.result.now (search rules) ∙ c.as_slice-2.ensures in
      let given = subst (HasValue p.params (codes "desk")) (sym c.deref.ensures.value) (rw c.in-Ok-Some.field-0-is at (c.in-Ok-Some.ensures.found r p is)) in
      no_line (Endures g.K.Keeper c.args.self.now.keeper c.desk.new.self.keeper s) s r now p reached is_post c.deref.result.now at given (rw c.in-Err-Malformed.field-0-is at (c.in-Err-Malformed.ensures.obeys s kept));
  same = c.in-Err-Malformed.ensures.same;
  plain = tt;
  crash = λ s r kept right. refused_same rule.CommandMalformed (rw c.in-Err-Malformed.field-0-is at (c.in-Err-Malformed.ensures.crash s kept));
  rest = holds_less (λ (is : ⊥). absurd is) (rw c.in-Err-Malformed.field-0-is at c.in-Err-Malformed.ensures.rest);
}

pub returns-in-Err-NotPossible-clause-replies : goal.returns-in-Err-NotPossible-clause-replies
returns-in-Err-NotPossible-clause-replies g c now = record {
  replied = λ s r kept right other.
      let (p, is, is_post, reached) = right in
      let at = sym (c.in-Ok.ensures r p is) ∙ sym c.as_slice.ensures.value ∙ texts_equal c.as_slice.result.now c.as_slice-2.result.now (search rules) ∙ c.as_slice-2.ensures in
      let given = subst (HasValue p.params (codes "desk")) (sym c.deref.ensures.value) (rw c.in-Ok-Some.field-0-is at (c.in-Ok-Some.ensures.found r p is)) in
      not_obeyed (Endures g.K.Keeper c.args.self.now.keeper c.desk.new.self.keeper s) s r now p reached is_post c.deref.result.now at given (rw c.in-Err-NotPossible.field-0-is at (c.in-Err-NotPossible.ensures.obeys s kept));
  same = c.in-Err-NotPossible.ensures.same;
  plain = tt;
  crash = λ s r kept right. refused_same rule.CommandNotPossible (rw c.in-Err-NotPossible.field-0-is at (c.in-Err-NotPossible.ensures.crash s kept));
  rest = holds_less (λ (is : ⊥). absurd is) (rw c.in-Err-NotPossible.field-0-is at c.in-Err-NotPossible.ensures.rest);
}

pub returns-clause-replies : goal.returns-clause-replies
returns-clause-replies g c now = record {
  replied = λ s r kept right other. absurd (other refl);
  same = c.in-Err-Kept.ensures.same;
  plain = tt;
  crash = λ s r kept right.
      let (p, is, is_post, reached) = right in
      let at = sym (c.in-Ok.ensures r p is) ∙ sym c.as_slice.ensures.value ∙ texts_equal c.as_slice.result.now c.as_slice-2.result.now (search rules) ∙ c.as_slice-2.ensures in
      let given = subst (HasValue p.params (codes "desk")) (sym c.deref.ensures.value) (rw c.in-Ok-Some.field-0-is at (c.in-Ok-Some.ensures.found r p is)) in
      refused_asked
      (more_asked (asked_by (Endures g.K.Keeper c.args.self.now.keeper c.desk.new.self.keeper s) s r now p reached is_post c.deref.result.now at given) (rw c.in-Err-Kept.field-0-is at (c.in-Err-Kept.ensures.crash s kept)));
  rest = holds_less (λ _. refl) c.in-Err-Kept.ensures.rest;
}

pub returns-in_default-clause-unstaged : goal.returns-in_default-clause-unstaged
returns-in_default-clause-unstaged g c = λ none. inl none

pub returns-then-ne-clause-unstaged : goal.returns-then-ne-clause-unstaged
returns-then-ne-clause-unstaged g c = λ none. inl none

pub returns-in-Ok-None-clause-unstaged : goal.returns-in-Ok-None-clause-unstaged
returns-in-Ok-None-clause-unstaged g c = λ none. inl none

pub returns-in-Err-clause-unstaged : goal.returns-in-Err-clause-unstaged
returns-in-Err-clause-unstaged g c = λ none. inl none

pub returns-in-Ok-desk-clause-unstaged : goal.returns-in-Ok-desk-clause-unstaged
returns-in-Ok-desk-clause-unstaged g c = c.desk.ensures.unstaged

pub returns-in-Err-Malformed-clause-unstaged : goal.returns-in-Err-Malformed-clause-unstaged
returns-in-Err-Malformed-clause-unstaged g c = c.desk.ensures.unstaged

pub returns-in-Err-NotPossible-clause-unstaged : goal.returns-in-Err-NotPossible-clause-unstaged
returns-in-Err-NotPossible-clause-unstaged g c = c.desk.ensures.unstaged

pub returns-clause-unstaged : goal.returns-clause-unstaged
returns-clause-unstaged g c = c.desk.ensures.unstaged
