-- What holds unconditionally holds for a success and for an error.
use Rattle.std.proofs.Common.{Result, Ok, Err, OnOk, OnErr}

pub at_error : {X E P : Type 0} (r : Result X E) → P → OnErr r P
at_error (Ok x) p = tt
at_error (Err e) p = p

pub at_answer : {X E P : Type 0} (r : Result X E) → P → OnOk r P
at_answer (Ok x) p = p
at_answer (Err e) p = tt
