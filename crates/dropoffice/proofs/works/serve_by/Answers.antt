use Rattle.std.proofs.Common.{arith}
use Rattle.sqlite.specs.WalFiles.{image_at}
use Rattle.dropoffice.proofs.Less.{run_more}
use Rattle.dropoffice.proofs.works.serve_by.Goals as goal

pub returns-in-Some-clause-ran : goal.returns-in-Some-clause-ran
returns-in-Some-clause-ran g c named ours clean =
    run_more _ _ _ _ (λ s after asked it. record { address = c.args.service.address; limits = c.args.service.limits; named = named; serves = it }) (λ idle. idle)
    (image_at g.S.Start) c.args.start c.work_over.result.left (c.work_over.ensures.ran ours clean)

pub returns-in-None-clause-ran : goal.returns-in-None-clause-ran
returns-in-None-clause-ran g c named ours clean =
    run_more _ _ _ _ (λ s after asked it. record { address = c.args.service.address; limits = c.args.service.limits; named = named; serves = it }) (λ idle. idle)
    (image_at g.S.Start) c.args.start c.work_over-in-None.result.left (c.work_over-in-None.ensures.ran ours clean)

pub returns-in-None-clause-opened : goal.returns-in-None-clause-opened
returns-in-None-clause-opened g c = grind arith

pub returns-in-Some-clause-opened : goal.returns-in-Some-clause-opened
returns-in-Some-clause-opened g c = grind arith

pub work_over-requires-in-None-text-file : goal.work_over-requires-in-None-text-file
work_over-requires-in-None-text-file g c = grind arith

pub work_over-requires-text-file : goal.work_over-requires-text-file
work_over-requires-text-file g c = grind arith
