-- How many bytes may still be read, while bytes are read.
use Rattle.std.proofs.Common.{◌≡◌, ◌-◌, ℕ, List, [], ◌++◌, length, Option, None, Some, Result, Err, arith, subst, length-append}
use Rattle.std.specs.Prelude.{IfErr, option_map}
use Rattle.std.specs.Io.KnownBytes.{Consumes, Keeps}
use Rattle.std.proofs.KnownBytes.{Consumes-kept, Consumes-nil, Consumes-trans, Keeps-refl}
use Rattle.wire.specs.Feeds.{TakesAllIn, reader_of}
use Rattle.wire.specs.Waiting.{Spends, TakesAll}
use Rattle.wire.specs.declared.feed.Feed.{Feed}
use Rattle.wire.specs.declared.fault.WireFault.{WireFault}
use Rattle.wire.specs.declared.fault.WireFault.TheVariants as fault
use Rattle.wire.proofs.Skipping.{HasSpent}

-- no byte came
pub spends_none : (most : Option ℕ) (known known' : Option (List ℕ)) → Keeps known known' → Spends most most known known'
spends_none None known known' kept = tt
spends_none (Some m) known known' kept = ([], Consumes-kept known known known' [] (Consumes-nil known) kept, omega arith)

pub spends_same : (most : Option ℕ) (known : Option (List ℕ)) → Spends most most known known
spends_same most known = spends_none most known known (Keeps-refl known)

-- n bytes came
pub spends_some : (most : Option ℕ) (n : ℕ) (known known' : Option (List ℕ)) (came : List ℕ) → length came ≡ n → Consumes known known' came → Spends most (option_map (λ m. m - n) most) known known'
spends_some None n known known' came long consumed = tt
spends_some (Some m) n known known' came long consumed = (came, consumed, omega (arith, long))

-- bytes came, and then more
pub spends_on : (a b c : Option ℕ) (x y z : Option (List ℕ)) → Spends a b x y → Spends b c y z → Spends a c x z
spends_on None None None x y z first second = tt
spends_on None None (Some n) x y z first second = absurd second
spends_on None (Some l) c x y z first second = absurd first
spends_on (Some m) None c x y z first second = absurd first
spends_on (Some m) (Some l) None x y z first second = absurd second
spends_on (Some m) (Some l) (Some n) x y z first second =
    let most = first.2 in
    let more = second.2 in
    (first.0 ++ second.0, Consumes-trans x y z first.0 second.0 first.1 second.1, omega (arith, most, more, length-append first.0 second.0))

-- no more may be read, so all came that might
pub takes_all : (a b : Option ℕ) (x y : Option (List ℕ)) → b ≡ Some 0 → Spends a b x y → TakesAll a x y
takes_all None None x y none spends = absurd cc
takes_all None (Some n) x y none spends = absurd spends
takes_all (Some m) None x y none spends = absurd spends
takes_all (Some m) (Some n) x y none spends =
    let most = spends.2 in
    let zero : n ≡ 0 = cc in
    (spends.0, spends.1, omega (arith, most, zero))

-- some came, and then all others
pub takes_rest : (a b : Option ℕ) (x y z : Option (List ℕ)) → Spends a b x y → TakesAll b y z → TakesAll a x z
takes_rest None None x y z spends all = absurd all
takes_rest None (Some n) x y z spends all = absurd spends
takes_rest (Some m) None x y z spends all = absurd spends
takes_rest (Some m) (Some n) x y z spends all =
    let most = spends.2 in
    let more = all.2 in
    (spends.0 ++ all.0, Consumes-trans x y z spends.0 all.0 spends.1 all.1, omega (arith, most, more, length-append spends.0 all.0))

-- what a call told that was put off
pub waits_none : {T : Type 0} (most : Option ℕ) (result : Result T WireFault) (f : WireFault) → result ≡ Err f → IfErr result (λ e. e ≡ fault.Waits → most ≡ Some 0) → f ≡ fault.Waits → most ≡ Some 0
waits_none {T} most result f is waits = subst (λ (r : Result T WireFault). IfErr r (λ e. e ≡ fault.Waits → most ≡ Some 0)) is waits

-- ---- the same for feeds

module _ {R : Type 0} (remaining : R → Option (List ℕ)) where
  pub spent_none : (feed : Feed R) → HasSpent remaining feed feed
  spent_none feed = spends_same feed.backlog.most (remaining (reader_of feed).inner)

  pub spent_on : (first here next : Feed R) → HasSpent remaining first here → HasSpent remaining here next → HasSpent remaining first next
  spent_on first here next =
      spends_on first.backlog.most here.backlog.most next.backlog.most (remaining (reader_of first).inner) (remaining (reader_of here).inner) (remaining (reader_of next).inner)

  pub spent_all : (first here : Feed R) → HasSpent remaining first here → here.backlog.most ≡ Some 0 → TakesAllIn remaining first here
  spent_all first here spent none =
      takes_all first.backlog.most here.backlog.most (remaining (reader_of first).inner) (remaining (reader_of here).inner) none spent

  pub spent_then : (first here next : Feed R) → HasSpent remaining first here → TakesAllIn remaining here next → TakesAllIn remaining first next
  spent_then first here next =
      takes_rest first.backlog.most here.backlog.most (remaining (reader_of first).inner) (remaining (reader_of here).inner) (remaining (reader_of next).inner)
