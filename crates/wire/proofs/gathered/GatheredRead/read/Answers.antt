use Rattle.std.proofs.Common.{◌≡◌, ◌≢◌, ◌<◌, ◌∙◌, ℕ, [], take, refl, sym, ap, subst, inl, arith, Some}
use Rattle.std.specs.Io.KnownBytes.{Keeps, Consumes, prepend_known}
use Rattle.std.specs.Prelude.{IsOk, IsSome}
use Rattle.std.proofs.KnownBytes.{Keeps-refl}
use Rattle.std.proofs.lemmas.Bool.{false≢true}
use Rattle.std.proofs.lemmas.List.{length-take-le}
use Rattle.std.specs.Option.{is_some}
use Rattle.wire.specs.Gathering.{ahead_in, cut_by, error_of}
use Rattle.wire.proofs.ReadAhead.{cut_fails, not_empty, empty, none_failed, no_error, gave, kept_ahead, reads_behind}
use Rattle.wire.proofs.gathered.GatheredRead.read.Goals as goal

none_given : (n : ℕ) → n ≡ 0 → 0 < n → ⊥
none_given n zero some = omega arith

-- the reader is cut off by this error
cut_here : (g : _) (c : goal.In-Some g) → cut_by c.args.self.now.health ≡ Some c.in-Some.error
cut_here g c = sym c.cut.ensures ∙ c.in-Some.is

by_cut : (g : _) (c : goal.In-Some g) → error_of c.args.self.now.health ≡ Some c.in-Some.error
by_cut g c = cut_fails _ _ (cut_here g c)

pub returns-in-Some : goal.returns-in-Some
returns-in-Some g c = record {
  bound = tt;
  bytes = Keeps-refl _;
  cut = λ _. refl;
  first = λ whole _. absurd (whole (subst IsSome (sym (cut_here g c)) refl));
  then = λ _ _. refl;
  failed = λ _. refl;
  uncut = λ cut. cut;
  kept = inl (subst IsSome (sym (by_cut g c)) refl);
  waits = λ _. refl;
  hale = λ _. refl;
  same = λ _. by_cut g c;
}

pub returns-then-not-is_empty : goal.returns-then-not-is_empty
returns-then-not-is_empty g c =
    let remaining = g.S.Read.remaining in
    let old = c.args.self.now in
    let new = c.give.new.self in
    let bound = c.give.ensures.bound in
    let some : ahead_in old ≢ [] = not_empty c.ahead.result.now (ahead_in old) c.if-not-is_empty.ensures c.ahead.ensures in
    record {
      bound = (bound, sym (length-take-le c.give.result c.give.new.buf bound));
      bytes = (
        subst (λ (s : g.row.S.Denot). Consumes (prepend_known (ahead_in old) (remaining old.inner)) (prepend_known (ahead_in new) (remaining s)) (take c.give.result c.give.new.buf))
            (sym c.give.ensures.inner) (gave (remaining old.inner) (ahead_in old) (ahead_in new) _ c.give.ensures.given),
        λ zero room. absurd (none_given c.give.result zero (c.give.ensures.some some room)),
      );
      cut = λ cut. absurd (none_failed c.cut.result (ap is_some c.in_default.is) (subst IsSome (sym c.cut.ensures) cut));
      first = λ _ _. refl;
      then = λ none _. absurd (some none);
      failed = λ _. c.give.ensures.health;
      uncut = λ cut. subst (λ h. IsSome (cut_by h)) c.give.ensures.health cut;
      kept = tt;
      waits = tt;
      hale = λ _. c.give.ensures.health;
      same = tt;
    }

pub returns-in-Some-error : goal.returns-in-Some-error
returns-in-Some-error g c =
    let none = empty c.ahead.result.now (ahead_in c.args.self.now) c.if-not-is_empty.ensures c.ahead.ensures in
    let fails : error_of c.args.self.now.health ≡ Some c.in-Some-error.error = sym c.error.ensures ∙ c.in-Some-error.is in
    record {
      bound = tt;
      bytes = Keeps-refl _;
      cut = λ cut. absurd (none_failed c.cut.result (ap is_some c.in_default.is) (subst IsSome (sym c.cut.ensures) cut));
      first = λ _ some. absurd (some none);
      then = λ _ _. refl;
      failed = λ _. refl;
      uncut = λ cut. cut;
      kept = inl (subst IsSome (sym fails) refl);
      waits = λ _. refl;
      hale = λ _. refl;
      same = λ _. fails;
    }

pub returns-in-Err : goal.returns-in-Err
returns-in-Err g c =
    let remaining = g.S.Read.remaining in
    let old = c.args.self.now in
    let new = c.keep.new.self in
    let none = empty c.ahead.result.now (ahead_in old) c.if-not-is_empty.ensures c.ahead.ensures in
    let read = subst (λ (s : g.row.S.Denot). Keeps (remaining old.inner) (remaining s)) (sym c.keep.ensures.inner) c.in-Err.ensures.bytes in
    record {
      bound = tt;
      bytes = kept_ahead (remaining old.inner) (remaining new.inner) (ahead_in old) (ahead_in new) c.keep.ensures.ahead read;
      cut = λ cut. absurd (none_failed c.cut.result (ap is_some c.in_default.is) (subst IsSome (sym c.cut.ensures) cut));
      first = λ _ some. absurd (some none);
      then = λ _ _. refl;
      failed = c.keep.ensures.first;
      uncut = c.keep.ensures.uncut;
      kept = c.keep.ensures.kept;
      waits = c.keep.ensures.waits;
      hale = λ ok. absurd (false≢true ok);
      same = c.keep.ensures.told (none_failed (error_of old.health) (ap is_some (sym c.error.ensures ∙ c.in_default-error.is)));
    }

pub returns-in_default-read : goal.returns-in_default-read
returns-in_default-read g c =
    let remaining = g.S.Read.remaining in
    let old = c.args.self.now in
    let none = empty c.ahead.result.now (ahead_in old) c.if-not-is_empty.ensures c.ahead.ensures in
    let is = c.in_default-read.is in
    record {
      bound = c.read-read.ensures.bound;
      bytes = reads_behind (remaining old.inner) (remaining c.read-read.new.self) (ahead_in old) c.read-read.result c.read-read.new.buf none c.read-read.ensures.bytes;
      cut = λ cut. absurd (none_failed c.cut.result (ap is_some c.in_default.is) (subst IsSome (sym c.cut.ensures) cut));
      first = λ _ _. subst IsOk (sym is) refl;
      then = λ _ failed. absurd (none_failed (error_of old.health) (ap is_some (sym c.error.ensures ∙ c.in_default-error.is)) failed);
      failed = λ _. refl;
      uncut = λ cut. cut;
      kept = no_error _ _ _ is;
      waits = no_error _ _ _ is;
      hale = λ _. refl;
      same = no_error _ _ _ is;
    }
