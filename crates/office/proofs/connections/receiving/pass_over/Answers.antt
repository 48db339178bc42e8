use Rattle.wire.proofs.Spending.{spent_all}
use Rattle.office.proofs.connections.receiving.pass_over.Goals as goal

pub returns-in-Err-Waits-clause-all : goal.returns-in-Err-Waits-clause-all
returns-in-Err-Waits-clause-all g c = λ _.
    let spends = c.in-Err-Waits.ensures.spends in
    spent_all g.R.Read.remaining c.args.feed.now c.skip_body.new.feed spends.0 (spends.1 c.in-Err-Waits.field-0-is)
