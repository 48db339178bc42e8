use Rattle.std.proofs.Common.{[], false, inl, refl, true}
use Rattle.wire.specs.Feeds.{left, place_of, reader_of}
use Rattle.wire.specs.declared.fault.WireFault.TheVariants as fault
use Rattle.wire.specs.declared.joining.Came.TheVariants as came
use Rattle.wire.specs.Feeding.{a_head}
use Rattle.office.proofs.SessionSteps.{brought_by, broke_off_by, ended_step, truncated_step, read_failed_step, closed_step, gave_up_reading_step, leaves_still}
use Rattle.wire.proofs.Spending.{spent_all}
use Rattle.office.proofs.BodyWaits.{stands_by}
use Rattle.office.proofs.KeeperCalls.{quiet_still}
use Rattle.office.proofs.StepWaits.{all_after}
use Rattle.office.proofs.office.Office.step.Goals as goal

pub returns-in-Ok-Head-clause-steps : goal.returns-in-Ok-Head-clause-steps
returns-in-Ok-Head-clause-steps g c s kept =
    let b = brought_by c.read_opening.new.fields (left g.R.Read.remaining c.args.feed.now) (left g.R.Read.remaining c.read_opening.new.feed) (g.R.Read.remaining (reader_of c.read_opening.new.feed).inner)
    (place_of c.read_opening.new.feed) c.in-Ok-Head.field-0 (came.Head c.in-Ok-Head.opening) c.in-Ok-Head.field-0-is c.in-Ok-Head.ensures.brings in
    c.serve_head.ensures.steps s (place_of c.args.feed.now) (left g.R.Read.remaining c.args.feed.now) kept b.1

pub returns-in-Ok-Refused-clause-steps : goal.returns-in-Ok-Refused-clause-steps
returns-in-Ok-Refused-clause-steps g c s kept = λ output output' e closed.
    let b = brought_by c.read_opening.new.fields (left g.R.Read.remaining c.args.feed.now) (left g.R.Read.remaining c.read_opening.new.feed) (g.R.Read.remaining (reader_of c.read_opening.new.feed).inner)
    (place_of c.read_opening.new.feed) c.in-Ok-Refused.field-0 (came.Refused c.in-Ok-Refused.refusal) c.in-Ok-Refused.field-0-is c.in-Ok-Refused.ensures.brings in
    closed_step g.C.Clock.now_gives (place_of c.args.feed.now) (left g.R.Read.remaining c.args.feed.now) (left g.R.Read.remaining c.read_opening.new.feed)
    (g.R.Read.remaining (reader_of c.read_opening.new.feed).inner) output output'
    c.args.clock.now g.K.Keeper c.args.self.now.keeper c.args.self.now.keeper s c.in-Ok-Refused.refusal e (leaves_still g.K.Keeper c.args.self.now.keeper s false (record { means = kept.means; sound = kept.sound })) b.3 closed

pub returns-in-Ok-End-clause-steps : goal.returns-in-Ok-End-clause-steps
returns-in-Ok-End-clause-steps g c s kept = λ output.
    let b = brought_by c.read_opening.new.fields (left g.R.Read.remaining c.args.feed.now) (left g.R.Read.remaining c.read_opening.new.feed) (g.R.Read.remaining (reader_of c.read_opening.new.feed).inner)
    (place_of c.read_opening.new.feed) c.in-Ok-End.field-0 came.End c.in-Ok-End.field-0-is c.in-Ok-End.ensures.brings in
    ended_step g.C.Clock.now_gives (place_of c.args.feed.now) (left g.R.Read.remaining c.args.feed.now) (left g.R.Read.remaining c.read_opening.new.feed)
    (g.R.Read.remaining (reader_of c.read_opening.new.feed).inner) output
    c.args.clock.now g.K.Keeper c.args.self.now.keeper c.args.self.now.keeper s (leaves_still g.K.Keeper c.args.self.now.keeper s false (record { means = kept.means; sound = kept.sound })) b.1 b.2

pub returns-in-Ok-Truncated-clause-steps : goal.returns-in-Ok-Truncated-clause-steps
returns-in-Ok-Truncated-clause-steps g c s kept = λ output.
    let b = brought_by c.read_opening.new.fields (left g.R.Read.remaining c.args.feed.now) (left g.R.Read.remaining c.read_opening.new.feed) (g.R.Read.remaining (reader_of c.read_opening.new.feed).inner)
    (place_of c.read_opening.new.feed) c.in-Ok-Truncated.field-0 came.Truncated c.in-Ok-Truncated.field-0-is c.in-Ok-Truncated.ensures.brings in
    truncated_step g.C.Clock.now_gives (place_of c.args.feed.now) (left g.R.Read.remaining c.args.feed.now) (left g.R.Read.remaining c.read_opening.new.feed)
    (g.R.Read.remaining (reader_of c.read_opening.new.feed).inner) output
    c.args.clock.now g.K.Keeper c.args.self.now.keeper c.args.self.now.keeper s (leaves_still g.K.Keeper c.args.self.now.keeper s false (record { means = kept.means; sound = kept.sound })) b.1 b.2

pub returns-in-Err-Read-clause-steps : goal.returns-in-Err-Read-clause-steps
returns-in-Err-Read-clause-steps g c s kept = λ output.
    let b = broke_off_by (place_of c.args.feed.now) (left g.R.Read.remaining c.args.feed.now) (left g.R.Read.remaining c.read_opening.new.feed) (g.R.Read.remaining (reader_of c.read_opening.new.feed).inner) (place_of c.read_opening.new.feed) c.in-Err-Read.field-0 fault.Read c.in-Err-Read.field-0-is c.in-Err-Read.ensures.fault in
    read_failed_step g.C.Clock.now_gives (place_of c.args.feed.now) (left g.R.Read.remaining c.args.feed.now) (left g.R.Read.remaining c.read_opening.new.feed)
    (g.R.Read.remaining (reader_of c.read_opening.new.feed).inner) output
    c.args.clock.now g.K.Keeper c.args.self.now.keeper c.args.self.now.keeper s b.0 (leaves_still g.K.Keeper c.args.self.now.keeper s false (record { means = kept.means; sound = kept.sound })) b.1 (a_head b.2)

pub returns-in-Err-Memory-clause-steps : goal.returns-in-Err-Memory-clause-steps
returns-in-Err-Memory-clause-steps g c s kept = λ output output' e closed.
    let b = broke_off_by (place_of c.args.feed.now) (left g.R.Read.remaining c.args.feed.now) (left g.R.Read.remaining c.read_opening.new.feed) (g.R.Read.remaining (reader_of c.read_opening.new.feed).inner) (place_of c.read_opening.new.feed) c.in-Err-Memory.field-0 fault.Memory c.in-Err-Memory.field-0-is c.in-Err-Memory.ensures.fault in
    gave_up_reading_step g.C.Clock.now_gives (place_of c.args.feed.now) (left g.R.Read.remaining c.args.feed.now) (left g.R.Read.remaining c.read_opening.new.feed)
    (g.R.Read.remaining (reader_of c.read_opening.new.feed).inner) output output'
    c.args.clock.now g.K.Keeper c.args.self.now.keeper c.args.self.now.keeper s e [] (leaves_still g.K.Keeper c.args.self.now.keeper s true (record { means = kept.means; sound = kept.sound })) b.1 (inl (b.0, refl)) closed

pub serve_head-requires-clause-short : goal.serve_head-requires-clause-short
serve_head-requires-clause-short g c =
    (brought_by c.read_opening.new.fields (left g.R.Read.remaining c.args.feed.now) (left g.R.Read.remaining c.read_opening.new.feed) (g.R.Read.remaining (reader_of c.read_opening.new.feed).inner)
    (place_of c.read_opening.new.feed) c.in-Ok-Head.field-0 (came.Head c.in-Ok-Head.opening) c.in-Ok-Head.field-0-is c.in-Ok-Head.ensures.brings).1.opens.is_front.short

pub returns-in-Err-Waits-clause-steps : goal.returns-in-Err-Waits-clause-steps
returns-in-Err-Waits-clause-steps g c s kept =
    let b = broke_off_by (place_of c.args.feed.now) (left g.R.Read.remaining c.args.feed.now) (left g.R.Read.remaining c.read_opening.new.feed) (g.R.Read.remaining (reader_of c.read_opening.new.feed).inner) (place_of c.read_opening.new.feed)
    c.in-Err-Waits.field-0 fault.Waits c.in-Err-Waits.field-0-is c.in-Err-Waits.ensures.fault in
    ((b.0, c.read_opening.ensures.given, b.1), stands_by quiet_still kept)

pub returns-in-Ok-Head-clause-stands : goal.returns-in-Ok-Head-clause-stands
returns-in-Ok-Head-clause-stands g c =
    let b = brought_by c.read_opening.new.fields (left g.R.Read.remaining c.args.feed.now) (left g.R.Read.remaining c.read_opening.new.feed) (g.R.Read.remaining (reader_of c.read_opening.new.feed).inner)
    (place_of c.read_opening.new.feed) c.in-Ok-Head.field-0 (came.Head c.in-Ok-Head.opening) c.in-Ok-Head.field-0-is c.in-Ok-Head.ensures.brings in
    c.serve_head.ensures.stands b.1.opens

pub returns-in-Err-Waits-clause-stands : goal.returns-in-Err-Waits-clause-stands
returns-in-Err-Waits-clause-stands g c =
    let b = broke_off_by (place_of c.args.feed.now) (left g.R.Read.remaining c.args.feed.now) (left g.R.Read.remaining c.read_opening.new.feed) (g.R.Read.remaining (reader_of c.read_opening.new.feed).inner) (place_of c.read_opening.new.feed)
    c.in-Err-Waits.field-0 fault.Waits c.in-Err-Waits.field-0-is c.in-Err-Waits.ensures.fault in
    let none = c.read_opening.ensures.given in
    (b.0, none, c.in-Err-Waits.ensures.waits c.in-Err-Waits.field-0-is)

pub returns-in-Ok-Head-clause-all : goal.returns-in-Ok-Head-clause-all
returns-in-Ok-Head-clause-all g c =
    all_after g.R.Read.remaining c.args.feed.now c.read_opening.new.feed c.serve_head.new.feed c.serve_head.result c.in-Ok-Head.ensures.spends.0 c.serve_head.ensures.all

pub returns-in-Err-Waits-clause-all : goal.returns-in-Err-Waits-clause-all
returns-in-Err-Waits-clause-all g c =
    let spends = c.in-Err-Waits.ensures.spends in
    spent_all g.R.Read.remaining c.args.feed.now c.read_opening.new.feed spends.0 (spends.1 c.in-Err-Waits.field-0-is)
