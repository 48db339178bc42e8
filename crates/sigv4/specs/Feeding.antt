-- The two laws of a sink, for the hashers: a hasher that is fed nothing may stay as it is, and feeding one text and then
-- another feeds the joined text.
use Rattle.std.specs.Prelude.{ℕ, List, [], ◌++◌}
use Rattle.std.proofs.Common.{sym, subst, append_assoc}
use Rattle.std.proofs.lemmas.List.{append-nil}
use Rattle.sigv4.specs.Hashers.{ShaHolds, HmacHolds}
use Rattle.sigv4.specs.declared.hash.Sha.{Sha}
use Rattle.sigv4.specs.declared.hash.Hmac.{Hmac}

-- feeding these bytes turns the first hasher into the second
abbrev pub ShaFeeds : Sha → List ℕ → Sha → Type 0
ShaFeeds s bytes t = (m : List ℕ) → ShaHolds s m → ShaHolds t (m ++ bytes)

abbrev pub HmacFeeds : Hmac → List ℕ → Hmac → Type 0
HmacFeeds s bytes t = (k m : List ℕ) → HmacHolds s k m → HmacHolds t k (m ++ bytes)

pub sha_fed_nothing : (s : Sha) → ShaFeeds s [] s
sha_fed_nothing s m h = subst (ShaHolds s) (sym (append-nil m)) h

pub sha_fed_both : (s t u : Sha) (a b : List ℕ) → ShaFeeds s a t → ShaFeeds t b u → ShaFeeds s (a ++ b) u
sha_fed_both s t u a b p q m h = subst (ShaHolds u) (append_assoc m a b) (q (m ++ a) (p m h))

pub hmac_fed_nothing : (s : Hmac) → HmacFeeds s [] s
hmac_fed_nothing s k m h = subst (HmacHolds s k) (sym (append-nil m)) h

pub hmac_fed_both : (s t u : Hmac) (a b : List ℕ) → HmacFeeds s a t → HmacFeeds t b u → HmacFeeds s (a ++ b) u
hmac_fed_both s t u a b p q k m h = subst (HmacHolds u k) (append_assoc m a b) (q k (m ++ a) (p k m h))
