use Rattle.std.proofs.Common.{sym}
use Rattle.sigtext.proofs.Targets.{behind_escape, behind_byte, no_spelling}
use Rattle.sigtext.proofs.target.spelling_len.Goals as goal

pub returns-then-begins_escape-clause-some : goal.returns-then-begins_escape-clause-some
returns-then-begins_escape-clause-some c = behind_escape c.args.barred.now c.args.text.now (sym c.if-begins_escape.ensures)

pub returns-then-may_stand-clause-some : goal.returns-then-may_stand-clause-some
returns-then-may_stand-clause-some c =
    behind_byte c.args.barred.now c.args.text.now c.requires (sym c.if-begins_escape.ensures) (sym c.if-may_stand.ensures)

pub returns-else-may_stand-clause-none : goal.returns-else-may_stand-clause-none
returns-else-may_stand-clause-none c =
    no_spelling c.args.barred.now c.args.text.now c.requires (sym c.if-begins_escape.ensures) (sym c.if-may_stand.ensures)
