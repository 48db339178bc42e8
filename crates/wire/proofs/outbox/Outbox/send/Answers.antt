use Rattle.std.proofs.Common.{[], refl, ◌≡◌, ◌++◌, ◌∙◌, ◌+◌, ◌-◌, ℕ, List, Option, Some, None, append_assoc, take, drop, length, length-drop, sym, ap, subst, arith, take-append-drop}
use Rattle.std.proofs.lemmas.List.{drop-drop, take_all}
use Rattle.std.specs.Io.KnownBytes.{Appends, Keeps, append_known}
use Rattle.std.specs.Option.{is_some}
use Rattle.std.proofs.KnownBytes.{Appends-kept, Appends-nil, Keeps-refl, append_known-kept}
use Rattle.std.proofs.lemmas.Bool.{false≢true}
use Rattle.std.proofs.lemmas.Grind.{common_steps}
use Rattle.wire.specs.Outgoing.{waits_out}
use Rattle.wire.specs.declared.outbox.Sending.TheVariants.{Sent, Waits, Failed}
use Rattle.wire.proofs.ReadAhead.{not_empty}
use Rattle.wire.proofs.outbox.Outbox.send.Goals as goal

-- of the bytes from s on, the first n are taken and the others wait
first_taken : (xs seen : List ℕ) (s n : ℕ) → seen ≡ drop s xs → drop s xs ≡ take n seen ++ drop (s + n) xs
first_taken xs seen s n is =
    sym (ap (λ (t : List ℕ). take n t ++ drop (s + n) xs) is ∙ ap (λ (t : List ℕ). take n (drop s xs) ++ t) (sym (drop-drop n s xs)) ∙ take-append-drop n (drop s xs))

-- all bytes from s on
all_behind : (xs ys : List ℕ) (s : ℕ) → xs ≡ ys → take (length xs - s) (drop s xs) ≡ drop s ys
all_behind xs ys s is = take_all (length xs - s) (drop s xs) (omega (arith, length-drop s xs)) ∙ ap (drop s) is

-- bytes that the writer took are not counted as accepted twice
none_twice : (old new : Option (List ℕ)) (waits bytes rest : List ℕ) → waits ≡ bytes ++ rest → Appends old new bytes
    → Keeps (append_known old waits) (append_known new rest)
none_twice None new waits bytes rest is held = tt
none_twice (Some xs) None waits bytes rest is held = absurd held
none_twice (Some xs) (Some ys) waits bytes rest is held =
    ap (λ (t : List ℕ). t ++ rest) held ∙ append_assoc xs bytes rest ∙ ap (λ (t : List ℕ). xs ++ t) (sym is)

failed_sent : Failed ≡ Sent → ⊥
failed_sent e = cc

waits_sent : Waits ≡ Sent → ⊥
waits_sent e = cc

waits_failed : Waits ≡ Failed → ⊥
waits_failed e = cc

same_out : (a b : Option (List ℕ)) (old new : List ℕ) → b ≡ a → new ≡ old → Keeps (append_known a old) (append_known b new)
same_out a b old new e w =
    subst (λ (t : Option (List ℕ)). Keeps (append_known a old) t) (sym (ap (λ (t : Option (List ℕ)). append_known t new) e ∙ ap (append_known a) w)) (Keeps-refl (append_known a old))

pub returns-then-is_some-clause-sent : goal.returns-then-is_some-clause-sent
returns-then-is_some-clause-sent g c = (λ e. absurd (failed_sent e), λ h. absurd (false≢true (sym h.1 ∙ sym c.if-is_some.ensures)))

pub returns-then-is_some-clause-failed : goal.returns-then-is_some-clause-failed
returns-then-is_some-clause-failed g c = (λ _. sym c.if-is_some.ensures, λ _. refl)

pub returns-then-is_some-clause-takes : goal.returns-then-is_some-clause-takes
returns-then-is_some-clause-takes g c = ([], refl, Appends-nil _)

pub returns-then-is_some-clause-contents : goal.returns-then-is_some-clause-contents
returns-then-is_some-clause-contents g c = Keeps-refl _

pub returns-then-is_some-clause-kept : goal.returns-then-is_some-clause-kept
returns-then-is_some-clause-kept g c = λ failed. failed

pub returns-then-is_empty : goal.returns-then-is_empty
returns-then-is_empty g c =
    let contents = g.S.Write.contents in
    let old = c.args.self.now in
    let new = c.settle.new.self in
    let none = sym c.if-is_some.ensures in
    let settled = c.settle.ensures in
    record {
      sent = (λ e. (settled.waiting ∙ settled.sent.0 e, ap is_some settled.fault ∙ none), λ h. settled.sent.1 (sym settled.waiting ∙ h.0));
      failed = (λ e. absurd (settled.hale e), λ some. absurd (false≢true (sym (ap is_some settled.fault ∙ none) ∙ some)));
      takes = ([], sym settled.waiting, subst (λ (s : g.row.S.Denot). Appends (contents old.inner) (contents s) []) (sym settled.inner) (Appends-nil _));
      contents = same_out (contents old.inner) (contents new.inner) (waits_out old) (waits_out new) (ap contents settled.inner) settled.waiting;
      kept = λ some. absurd (false≢true (sym none ∙ some));
    }

pub returns-in-Ok-None : goal.returns-in-Ok-None
returns-in-Ok-None g c =
    let old = c.args.self.now in
    let contents = g.S.Write.contents old.inner in
    let new = g.S.Write.contents c.offer.new.writer in
    let none = sym c.if-is_some.ensures in
    let kept = rw c.in-Ok-None.field-0-is at c.in-Ok-None.ensures.none in
    let seen = all_behind c.deref.result.now old.bytes.items old.start c.deref.ensures.value in
    record {
      sent = (λ e. absurd (waits_sent e), λ h. absurd (not_empty _ _ c.if-is_empty.ensures seen h.0));
      failed = (λ e. absurd (waits_failed e), λ some. absurd (false≢true (sym none ∙ some)));
      takes = ([], refl, Appends-kept contents contents new [] (Appends-nil contents) kept);
      contents = append_known-kept contents new (waits_out old) kept;
      kept = λ failed. failed;
    }

pub returns-in-Err : goal.returns-in-Err
returns-in-Err g c =
    let old = c.args.self.now in
    let contents = g.S.Write.contents old.inner in
    let new = g.S.Write.contents c.offer.new.writer in
    let kept = c.in-Err.ensures.err in
    record {
      sent = (λ e. absurd (failed_sent e), λ h. absurd (false≢true (sym h.1)));
      failed = (λ _. refl, λ _. refl);
      takes = ([], refl, Appends-kept contents contents new [] (Appends-nil contents) kept);
      contents = append_known-kept contents new (waits_out old) kept;
      kept = λ _. refl;
    }

pub returns-in-Ok-Some-clause-sent : goal.returns-in-Ok-Some-clause-sent
returns-in-Ok-Some-clause-sent g c =
    let settled = c.settle-in-Ok-Some.ensures in
    (λ e. (settled.waiting ∙ settled.sent.0 e, ap is_some settled.fault ∙ sym c.if-is_some.ensures), λ h. settled.sent.1 (sym settled.waiting ∙ h.0))

pub returns-in-Ok-Some-clause-failed : goal.returns-in-Ok-Some-clause-failed
returns-in-Ok-Some-clause-failed g c =
    let settled = c.settle-in-Ok-Some.ensures in
    (λ e. absurd (settled.hale e), λ some. absurd (false≢true (sym (ap is_some settled.fault ∙ sym c.if-is_some.ensures) ∙ some)))

pub returns-in-Ok-Some-clause-kept : goal.returns-in-Ok-Some-clause-kept
returns-in-Ok-Some-clause-kept g c = λ some. absurd (false≢true (c.if-is_some.ensures ∙ some))

pub returns-in-Ok-Some-clause-takes : goal.returns-in-Ok-Some-clause-takes
returns-in-Ok-Some-clause-takes g c =
    let self = c.args.self.now in
    let n = c.in-Ok-Some.n in
    let seen = take (length c.deref.result.now - self.start) (drop self.start c.deref.result.now) in
    let first : drop self.start self.bytes.items ≡ take n seen ++ drop (self.start + n) self.bytes.items =
    first_taken self.bytes.items seen self.start n (all_behind c.deref.result.now self.bytes.items self.start c.deref.ensures.value) in
    let took = rw c.in-Ok-Some.field-0-is at c.in-Ok-Some.ensures.taken in (
      take n seen,
      first ∙ ap (λ (t : List ℕ). take n seen ++ t) (sym c.settle-in-Ok-Some.ensures.waiting),
      subst (λ (s : g.row.S.Denot). Appends (g.S.Write.contents self.inner) (g.S.Write.contents s) (take n seen)) (sym c.settle-in-Ok-Some.ensures.inner) took.1,
    )

pub returns-in-Ok-Some-clause-contents : goal.returns-in-Ok-Some-clause-contents
returns-in-Ok-Some-clause-contents g c =
    let (bytes, waits, held) = returns-in-Ok-Some-clause-takes g c in none_twice _ _ _ bytes _ waits held

pub invariant_of-self-in-Err : goal.invariant_of-self-in-Err
invariant_of-self-in-Err g c = grind arith

pub invariant_of-self-in-Ok-None : goal.invariant_of-self-in-Ok-None
invariant_of-self-in-Ok-None g c = grind arith

pub invariant_of-self-in-Ok-Some : goal.invariant_of-self-in-Ok-Some
invariant_of-self-in-Ok-Some g c = grind (arith, common_steps)

pub invariant_of-self-then-is_empty : goal.invariant_of-self-then-is_empty
invariant_of-self-then-is_empty g c = grind arith

pub overflow_add-self : goal.overflow_add-self
overflow_add-self g c = grind arith
