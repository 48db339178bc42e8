-- What was taken from a backlog.
use Rattle.std.specs.Prelude.{ℕ, Result, Ok, Err}
use Rattle.wire.specs.declared.fault.WireFault.{WireFault}
use Rattle.wire.specs.declared.backlog.Backlog.{Backlog}
use Rattle.wire.specs.declared.feed.Piece.{Piece}
use Rattle.wire.specs.declared.feed.Piece.TheVariants as piece
use Rattle.wire.specs.Waiting.{taken}
use Rattle.wire.specs.Feeding.{Part, Bytes, Done, Lacking}

abbrev pub taken_from : Backlog → Result (Piece ℕ) WireFault → Result Part WireFault
taken_from b (Ok (piece.Bytes size)) = Ok (Bytes (taken b size))
taken_from b (Ok piece.Done) = Ok Done
taken_from b (Ok (piece.Refused r)) = Ok (Lacking r)
taken_from b (Err e) = Err e

abbrev pub piece_size : Result (Piece ℕ) WireFault → ℕ
piece_size (Ok (piece.Bytes size)) = size
piece_size _ = 0
