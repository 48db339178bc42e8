-- The pieces of a body that were noted.
use Rattle.std.proofs.Common.{◌≡◌, ℕ, List, [], ◌∷◌, ◌++◌, ap, ◌∙◌}
use Rattle.std.specs.List.{flat_map}
use Rattle.std.proofs.lemmas.Grind.{flat_map-append}
use Rattle.std.proofs.lemmas.List.{append-nil}
use Rattle.http_server.specs.declared.log.Log.{Log}
use Rattle.wire.specs.Feeds.{pieces_in}
use Rattle.wire.specs.Waiting.{taken}
use Rattle.wire.specs.declared.backlog.Backlog.{Backlog}

pub none_noted : (log : Log Backlog ℕ) → log.items ≡ [] → pieces_in log ≡ []
none_noted log none = ap (flat_map (λ (piece : Backlog × ℕ). taken piece.0 piece.1)) none

pub one_more : (old new : Log Backlog ℕ) (b : Backlog) (n : ℕ) → new.items ≡ old.items ++ (b, n) ∷ [] → pieces_in new ≡ pieces_in old ++ taken b n
one_more old new b n is =
    ap (flat_map (λ (piece : Backlog × ℕ). taken piece.0 piece.1)) is
    ∙ flat_map-append (λ (piece : Backlog × ℕ). taken piece.0 piece.1) old.items ((b, n) ∷ [])
    ∙ ap (λ (l : List ℕ). pieces_in old ++ l) (append-nil (taken b n))
