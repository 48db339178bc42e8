use Rattle.std.proofs.Common.{◌≡◌, ◌≤◌, ◌-◌, length, take, vec_len}
use Rattle.std.specs.Io.KnownBytes.{Keeps, prepend_known}
use Rattle.wire.specs.Heads.{HasNoHeadEnd}
use Rattle.wire.specs.Waiting.{IsFree, Spends, waiting}
use Rattle.wire.proofs.backlog.Backlog.read_head.Given as goal

-- the bytes that were read wait after those that waited
abbrev pub invariant-reads : goal.invariant-reads
invariant-reads g l = record {
  kept : Keeps (prepend_known (waiting l.fn.self) (g.R.Read.remaining l.fn.reader.inner)) (prepend_known (waiting l.self) (g.R.Read.remaining l.reader.inner));
  count : l.reader.faults ≡ l.fn.reader.faults;
  room : vec_len l.self.bytes ≡ 73728;
  small : l.searched ≤ 8192;
  none : HasNoHeadEnd (take l.searched (waiting l.self));
  free : IsFree l.fn.self → IsFree l.self;
  spends : Spends l.fn.self.most l.self.most (g.R.Read.remaining l.fn.reader.inner) (g.R.Read.remaining l.reader.inner);
}

abbrev pub decreases-reads : goal.decreases-reads
decreases-reads g l = 8192 - length (waiting l.self)
