-- An answer says what was told.
use Rattle.std.proofs.Common.{Result, Ok, Err, OnOk, OnErr}

pub on_ok_more : {T E A B : Type 0} (r : Result T E) → OnOk r A → (A → B) → OnOk r B
on_ok_more (Ok x) a more = more a
on_ok_more (Err e) a more = tt

pub on_err_more : {T E A B : Type 0} (r : Result T E) → OnErr r A → (A → B) → OnErr r B
on_err_more (Ok x) a more = tt
on_err_more (Err e) a more = more a
