use Rattle.std.proofs.Common.{◌≡◌, ◌<◌, ◌∙◌, Bool, List, None, true, false, length, sym, ap, arith}
use Rattle.std.specs.Prelude.{not}
use Rattle.std.proofs.lemmas.Bool.{eqb-true}
use Rattle.std.proofs.lemmas.List.{get_or_default, nil_from_length}
use Rattle.wire.proofs.Ends.{none_of}
use Rattle.sockets.proofs.Slotted.{if_there}
use Rattle.sockets.proofs.sockets.may_turn_in.Goals as goal

pub returns-then-is_none-clause-is_open : goal.returns-then-is_none-clause-is_open
returns-then-is_none-clause-is_open g c is =
    let within : c.args.index < length c.args.slots.now = omega (arith, c.if-index-slots.false) in (
      within,
      c.in-Some.seat,
      get_or_default c.args.slots.now c.args.index None c.index-slots-index.result within ∙ (sym c.index-slots-index.is ∙ c.in-Some.is),
      sym c.end.ensures ∙ none_of c.end.result (c.is_none.ensures ∙ ap not c.if-is_none.true),
    )

pub returns-then-is_none-clause-settled : goal.returns-then-is_none-clause-settled
returns-then-is_none-clause-settled g c is =
    let within : c.args.index < length c.args.slots.now = omega (arith, c.if-index-slots.false) in
    let at = get_or_default c.args.slots.now c.args.index None c.index-slots-index.result within ∙ (sym c.index-slots-index.is ∙ c.in-Some.is) in
    if_there _ c.in-Some.seat _ at (c.may_turn.ensures is)
