-- The mark in `days` for the weekday.
use Rattle.std.proofs.Common.{◌≡◌, ◌∙◌, ◌<◌, ℕ, Bool, true, false, List, length, get_or, Some, sym, ap, rules}
use Rattle.std.specs.Prelude.{slice_get, IsTrue, ◌↔◌}
use Rattle.std.proofs.lemmas.Option.{slice_get-get_or}
use Rattle.boxes.specs.Opening.{local_weekday}
use Rattle.boxes.proofs.opening.is_marked.Goals as goal

some_is : (x y : Bool) → Some x ≡ Some y → x ≡ y
some_is x y e = cc

at_day : (days : List Bool) (w day : ℕ) → w ≡ day → w < length days → IsTrue (get_or days w false) ↔ (slice_get days day ≡ Some true)
at_day days w day e low =
    let at = ap (λ i. slice_get days i) (sym e) ∙ slice_get-get_or days w false low in
    (λ t. at ∙ ap (λ (b : Bool). Some b) t, λ is. some_is _ _ (sym at ∙ is))

pub returns : goal.returns
returns c =
    let day = local_weekday c.args.east c.args.now in
    let is : c.weekday_there.result ≡ day = search rules in
    let low : c.weekday_there.result < length c.args.row.now.days = search rules in
    at_day c.args.row.now.days c.weekday_there.result day is low
