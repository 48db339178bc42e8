use Rattle.std.proofs.Common.{arith}
use Rattle.std.specs.Prelude.{IsOk}
use Rattle.sqlite.specs.WalFiles.{image_at}
use Rattle.commands.specs.Listing.{IsListOf, Writes}
use Rattle.commands.specs.Saying.{HandsBack}
use Rattle.dropoffice.specs.Performing.{Lists}
use Rattle.dropoffice.proofs.Less.{run_more}
use Rattle.dropoffice.proofs.works.do_list.Goals as goal

pub returns-clause-ran : goal.returns-clause-ran
returns-clause-ran g c ours clean =
    let gain = c.work_over.result.gain in
    let idle = HandsBack (IsOk gain.result) c.args.out gain.out in
    run_more (Writes g.W.Write.contents (IsListOf c.in-Some.stock) (IsOk gain.result) c.args.out gain.out)
    (Lists c.args.words.now g.W.Write.contents (IsOk gain.result) c.args.out gain.out)
    idle idle (λ s after asked it. record { stock = c.in-Some.stock; named = c.in-Some.ensures; writes = it }) (λ it. it) (image_at g.S.Start) c.args.start c.work_over.result.left (c.work_over.ensures.ran ours clean)

pub returns-clause-opened : goal.returns-clause-opened
returns-clause-opened g c = grind arith

pub returns-in_default-clause-opened : goal.returns-in_default-clause-opened
returns-in_default-clause-opened g c = grind arith

pub returns-in_default-clause-ran : goal.returns-in_default-clause-ran
returns-in_default-clause-ran g c = grind arith
