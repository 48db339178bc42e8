use Rattle.std.proofs.Common.{arith}
use Rattle.std.specs.Prelude.{IsOk, option_map}
use Rattle.sqlite.specs.WalFiles.{image_at}
use Rattle.commands.specs.Obeying.{TellsLine}
use Rattle.commands.specs.Saying.{HandsBack}
use Rattle.dropoffice.specs.Performing.{Commands}
use Rattle.dropoffice.proofs.Less.{run_more}
use Rattle.dropoffice.proofs.works.do_desk.Goals as goal

pub returns-clause-ran : goal.returns-clause-ran
returns-clause-ran g c ours clean =
    let gain = c.work_over.result.gain in
    let command = option_map (λ line. line.items) c.in-Ok.command in
    let idle = HandsBack (IsOk gain.result) c.args.out gain.out in
    run_more (TellsLine g.W.Write.contents command (IsOk gain.result) c.args.out gain.out)
    (Commands (g.R.Read.remaining c.args.input) c.args.words.now g.W.Write.contents (IsOk gain.result) c.args.out gain.out)
    idle idle (λ s after asked it. record { command = command; is_command = c.in-Ok.ensures; tells = it }) (λ it. it) (image_at g.S.Start) c.args.start c.work_over.result.left (c.work_over.ensures.ran ours clean)

pub returns-in-Err-clause-opened : goal.returns-in-Err-clause-opened
returns-in-Err-clause-opened g c = grind arith

pub returns-in-Err-clause-ran : goal.returns-in-Err-clause-ran
returns-in-Err-clause-ran g c = grind arith

pub returns-in-Err-read_command-clause-opened : goal.returns-in-Err-read_command-clause-opened
returns-in-Err-read_command-clause-opened g c = grind arith

pub returns-in-Err-read_command-clause-ran : goal.returns-in-Err-read_command-clause-ran
returns-in-Err-read_command-clause-ran g c = grind arith

pub work_over-requires-text-file : goal.work_over-requires-text-file
work_over-requires-text-file g c = grind arith
