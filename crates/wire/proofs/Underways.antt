-- Messages whose bodies have not come whole.
use Rattle.std.proofs.Common.{◌≡◌, ◌∙◌, ◌-◌, ◌≤◌, ℕ, List, Option, Some, ap, refl, subst, sym, length}
use Rattle.std.specs.Option.{ForSome}
use Rattle.std.specs.Io.KnownBytes.{Keeps, prepend_known}
use Rattle.wire.specs.Feeds.{given_before, stood_at}
use Rattle.wire.specs.Underways.{IsKept, IsUnderway, head_of}
use Rattle.wire.specs.declared.feed.Place.TheVariants as place
use Rattle.wire.specs.declared.standing.Standing.{Standing}
use Rattle.wire.specs.declared.underway.Underway.{Underway}
use Rattle.wire.proofs.Backlogs.{prepend-kept}

-- what holds for some value holds for the one that is there
pub some_of : {X : Type 0} (P : X → Type 0) (o : Option X) (x : X) → o ≡ Some x → ForSome o P → P x
some_of P o x is all = (subst (λ o. ForSome o P) is all) x refl

-- bytes that were kept are kept behind others
pub kept_behind : (a b : List ℕ) (r s : Option (List ℕ)) → Keeps r s → Keeps (prepend_known a (prepend_known b r)) (prepend_known a (prepend_known b s))
kept_behind a b r s k = prepend-kept (prepend_known b r) (prepend_known b s) a (prepend-kept r s b k)

-- the same message is under way in a feed that stands there, too
pub still_underway : (u : Option Underway) (old new : Standing) → stood_at new ≡ stood_at old → given_before new ≡ given_before old
    → ForSome u (λ x. IsUnderway x old) → ForSome u (λ x. IsUnderway x new)
still_underway u old new here given h x is =
    let b = h x is in
    record {
      whole = b.whole;
      fits = subst (λ (l : List ℕ). length l ≤ x.size) (sym given) b.fits;
      stands = here ∙ b.stands ∙ ap (λ (l : List ℕ). place.Body (x.size - length l)) (sym given);
      holds = λ k at. subst (λ (l : List ℕ). IsKept (head_of x) l k) (sym given) (b.holds k at);
    }
