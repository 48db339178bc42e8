use Rattle.std.proofs.Common.{◌≡◌, ◌∙◌, ap, subst, pos, List, ℕ, [], Some}
use Rattle.boxes.specs.FirstState.{first_state}
use Rattle.office.specs.Replays.{Replays}
use Rattle.office.proofs.ReplayLemmas.{bytes_replayed}
use Rattle.office.proofs.replaying.replay_bytes.Goals as goal

pub returns : goal.returns
returns c =
    let s = first_state (pos 0) 0 c.args.id.now c.args.secret.now in
    let empty : c.new-writer.result.inner.items ≡ [] = ap (λ v. v.items) c.new-writer.ensures.inner ∙ c.new.ensures.items in
    let known : c.new-reader.result.inner.now ≡ c.args.bytes.now = ap (λ r. r.now) c.new-reader.ensures.inner in
    let session = subst (λ (bytes : List ℕ). Replays (Some bytes) (Some c.replay.new.reader.inner.now) (Some c.new-writer.result.inner.items) (Some c.replay.new.writer.inner.items) s c.args.moment c.in_ok-end.end) known (c.in_ok-end.ensures.session) in
    bytes_replayed c.args.bytes.now (Some c.replay.new.reader.inner.now) c.new-writer.result.inner.items c.replay.new.writer.inner.items s c.args.moment c.in_ok-end.end empty session
