use Rattle.std.proofs.Common.{Ok, ap, refl, ◌∙◌}
use Rattle.wire.specs.Feeding.{Opened, Barred, Ended, CutShort}
use Rattle.wire.specs.Feeds.{left}
use Rattle.wire.specs.Waiting.{waiting}
use Rattle.wire.specs.declared.feed.Opening.{Opening}
use Rattle.wire.specs.declared.feed.Step.{Step}
use Rattle.wire.specs.declared.feed.Step.TheVariants as step
use Rattle.wire.specs.declared.joining.Came.{Came}
use Rattle.wire.proofs.Beginnings.{found_by, parts_by, counts_by, counts_failed}
use Rattle.wire.proofs.BrokenOff.{awaited_by, broken_by}
use Rattle.wire.proofs.Spending.{waits_none}
use Rattle.wire.proofs.joining.read_opening.Goals as goal

pub returns-in-Ok-Head-clause-same : goal.returns-in-Ok-Head-clause-same
returns-in-Ok-Head-clause-same g c = c.next.ensures.same

pub returns-in-Ok-Head-clause-brings : goal.returns-in-Ok-Head-clause-brings
returns-in-Ok-Head-clause-brings g c =
    let remaining = g.R.Read.remaining in
    let old = c.args.feed.now in
    let new = c.next.new.self in
    let is = c.in-Ok-Head.is ∙ ap Ok c.in-Ok-Head.field-0-is in
    let f = found_by old.place new.place (left remaining old) (remaining new.reader.now.inner) (waiting new.backlog) _ (step.Head c.in-Ok-Head.opening) (Opened c.in-Ok-Head.opening.text.now c.in-Ok-Head.opening.has_length c.in-Ok-Head.opening.length) is refl c.requires c.next.ensures.step in
    (f.0, record { opens = f.1.0; front = f.1.1 }, parts_by c.next.new.fields _ c.in-Ok-Head.opening is c.next.ensures.parts)

pub returns-in-Ok-Head-clause-fault : goal.returns-in-Ok-Head-clause-fault
returns-in-Ok-Head-clause-fault g c = tt

pub returns-in-Ok-Head-clause-count : goal.returns-in-Ok-Head-clause-count
returns-in-Ok-Head-clause-count g c = counts_by _ _ _ _ (c.in-Ok-Head.is ∙ ap Ok c.in-Ok-Head.field-0-is) c.next.ensures.count

pub returns-in-Ok-Refused-clause-same : goal.returns-in-Ok-Refused-clause-same
returns-in-Ok-Refused-clause-same g c = c.next.ensures.same

pub returns-in-Ok-Refused-clause-brings : goal.returns-in-Ok-Refused-clause-brings
returns-in-Ok-Refused-clause-brings g c =
    let remaining = g.R.Read.remaining in
    let old = c.args.feed.now in
    let new = c.next.new.self in
    let is = c.in-Ok-Refused.is ∙ ap Ok c.in-Ok-Refused.field-0-is in
    let f = found_by old.place new.place (left remaining old) (remaining new.reader.now.inner) (waiting new.backlog) _ (step.Refused c.in-Ok-Refused.refusal) (Barred c.in-Ok-Refused.refusal) is refl c.requires c.next.ensures.step in
    (f.0, f.1.0, f.1.1, f.1.2)

pub returns-in-Ok-Refused-clause-fault : goal.returns-in-Ok-Refused-clause-fault
returns-in-Ok-Refused-clause-fault g c = tt

pub returns-in-Ok-Refused-clause-count : goal.returns-in-Ok-Refused-clause-count
returns-in-Ok-Refused-clause-count g c = counts_by _ _ _ _ (c.in-Ok-Refused.is ∙ ap Ok c.in-Ok-Refused.field-0-is) c.next.ensures.count

pub returns-in-Ok-End-clause-same : goal.returns-in-Ok-End-clause-same
returns-in-Ok-End-clause-same g c = c.next.ensures.same

pub returns-in-Ok-End-clause-brings : goal.returns-in-Ok-End-clause-brings
returns-in-Ok-End-clause-brings g c =
    let remaining = g.R.Read.remaining in
    let old = c.args.feed.now in
    let new = c.next.new.self in
    let is = c.in-Ok-End.is ∙ ap Ok c.in-Ok-End.field-0-is in
    let f = found_by old.place new.place (left remaining old) (remaining new.reader.now.inner) (waiting new.backlog) _ step.End Ended is refl c.requires c.next.ensures.step in
    (f.0, f.1.1, f.1.2)

pub returns-in-Ok-End-clause-fault : goal.returns-in-Ok-End-clause-fault
returns-in-Ok-End-clause-fault g c = tt

pub returns-in-Ok-End-clause-count : goal.returns-in-Ok-End-clause-count
returns-in-Ok-End-clause-count g c = counts_by _ _ _ _ (c.in-Ok-End.is ∙ ap Ok c.in-Ok-End.field-0-is) c.next.ensures.count

pub returns-in-Ok-Truncated-clause-same : goal.returns-in-Ok-Truncated-clause-same
returns-in-Ok-Truncated-clause-same g c = c.next.ensures.same

pub returns-in-Ok-Truncated-clause-brings : goal.returns-in-Ok-Truncated-clause-brings
returns-in-Ok-Truncated-clause-brings g c =
    let remaining = g.R.Read.remaining in
    let old = c.args.feed.now in
    let new = c.next.new.self in
    let is = c.in-Ok-Truncated.is ∙ ap Ok c.in-Ok-Truncated.field-0-is in
    let f = found_by old.place new.place (left remaining old) (remaining new.reader.now.inner) (waiting new.backlog) _ step.Truncated CutShort is refl c.requires c.next.ensures.step in
    (f.0, f.1.0, f.1.1)

pub returns-in-Ok-Truncated-clause-fault : goal.returns-in-Ok-Truncated-clause-fault
returns-in-Ok-Truncated-clause-fault g c = tt

pub returns-in-Ok-Truncated-clause-count : goal.returns-in-Ok-Truncated-clause-count
returns-in-Ok-Truncated-clause-count g c = counts_by _ _ _ _ (c.in-Ok-Truncated.is ∙ ap Ok c.in-Ok-Truncated.field-0-is) c.next.ensures.count

pub returns-in-Err-clause-same : goal.returns-in-Err-clause-same
returns-in-Err-clause-same g c = c.next.ensures.same

pub returns-in-Err-clause-brings : goal.returns-in-Err-clause-brings
returns-in-Err-clause-brings g c = tt

pub returns-in-Err-clause-fault : goal.returns-in-Err-clause-fault
returns-in-Err-clause-fault g c =
    let remaining = g.R.Read.remaining in
    let old = c.args.feed.now in
    let new = c.next.new.self in
    broken_by old.place new.place _ (left remaining old) (remaining new.reader.now.inner) (waiting new.backlog) _ c.in-Err.is c.requires c.next.ensures.step

pub returns-in-Err-clause-count : goal.returns-in-Err-clause-count
returns-in-Err-clause-count g c = counts_failed (Step Opening) Came _ _ _ _ c.in-Err.is c.next.ensures.count

pub returns-in-Err-clause-waits : goal.returns-in-Err-clause-waits
returns-in-Err-clause-waits g c put_off =
    let remaining = g.R.Read.remaining in
    let old = c.args.feed.now in
    let new = c.next.new.self in
    awaited_by old.place new.place c.in-Err.fault (left remaining old) (remaining new.reader.now.inner) (waiting new.backlog) c.next.result c.in-Err.is put_off c.requires c.next.ensures.step

pub returns-in-Err-clause-spends : goal.returns-in-Err-clause-spends
returns-in-Err-clause-spends g c = (c.next.ensures.spends.0, waits_none c.next.new.self.backlog.most c.next.result c.in-Err.fault c.in-Err.is c.next.ensures.spends.1)

pub returns-in-Ok-Head-clause-spends : goal.returns-in-Ok-Head-clause-spends
returns-in-Ok-Head-clause-spends g c = (c.next.ensures.spends.0, tt)

pub returns-in-Ok-Refused-clause-spends : goal.returns-in-Ok-Refused-clause-spends
returns-in-Ok-Refused-clause-spends g c = (c.next.ensures.spends.0, tt)

pub returns-in-Ok-End-clause-spends : goal.returns-in-Ok-End-clause-spends
returns-in-Ok-End-clause-spends g c = (c.next.ensures.spends.0, tt)

pub returns-in-Ok-Truncated-clause-spends : goal.returns-in-Ok-Truncated-clause-spends
returns-in-Ok-Truncated-clause-spends g c = (c.next.ensures.spends.0, tt)
