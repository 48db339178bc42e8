use Rattle.std.proofs.Common.{◌≡◌, ◌++◌, ◌≤◌, length, take, vec_capacity}
use Rattle.percent_encoding.specs.Iter.{encoded_text}
use Rattle.sigtext.proofs.encode.uri_encode.Given as goal

abbrev pub invariant-loop-piece : goal.invariant-loop-piece
invariant-loop-piece l = record {
  text : l.out.items ++ encoded_text l.piece-iterator ≡ l.fn.out.items ++ encoded_text l.initial.piece-iterator;
  front : take l.start l.out.items ≡ l.fn.out.items;
  long : l.start ≤ length l.out.items;
  room : vec_capacity l.fn.out ≤ vec_capacity l.out;
}
