use Rattle.std.proofs.Common.{⊎_elim, List, length, rules, subst, arith}
use Rattle.std.specs.Borrow.{Bor}
use Rattle.std.specs.Prelude.{◌≢◌, IsOk, ℕ}
use Rattle.sqlite.specs.WalFiles.{image_at}
use Rattle.sigv4.specs.Dates.{WritesMoment}
use Rattle.commands.specs.Replaying.{ReplaysAll}
use Rattle.commands.specs.Saying.{HandsBack}
use Rattle.dropoffice.specs.Leaving.{IsClosed}
use Rattle.dropoffice.specs.Performing.{Answers, IsMemoryFile}
use Rattle.dropoffice.specs.declared.files.Purpose.TheVariants as purpose
use Rattle.dropoffice.proofs.Less.{run_more}
use Rattle.dropoffice.proofs.works.do_replay.Goals as goal

pub returns-clause-ran : goal.returns-clause-ran
returns-clause-ran g c ours clean =
    let gain = c.work_over.result.gain in
    let idle = HandsBack (IsOk gain.result) c.args.out gain.out in
    let is_file : IsMemoryFile c.args.words.now.file.now → ⊥ = search rules in (
      (λ memory. absurd (is_file memory)),
      λ other. run_more (ReplaysAll g.W.Write.contents (length c.as_slice-streams.result.now) c.in-Some.moment (IsOk gain.result) c.args.out gain.out)
          (Answers c.args.words.now g.W.Write.contents (IsOk gain.result) c.args.out gain.out)
          idle idle
          (λ s after asked it. record {
            moment = c.in-Some.moment;
            is_moment = subst (λ (text : List ℕ). WritesMoment text c.in-Some.moment) c.as_bytes.ensures.value c.in-Some.ensures.some;
            replays = subst (λ (streams : List (Bor (List ℕ))). ReplaysAll g.W.Write.contents (length streams) c.in-Some.moment (IsOk gain.result) c.args.out gain.out s after asked) c.as_slice-streams.ensures.value it;
          })
          (λ it. it) (image_at g.S.Start) c.args.start c.work_over.result.left (c.work_over.ensures.ran ours clean),
    )

pub returns-clause-opened : goal.returns-clause-opened
returns-clause-opened g c done other closed =
    let gain = c.work_over.result.gain in
    ⊎_elim (λ (idle : HandsBack (IsOk gain.result) c.args.out gain.out). absurd (idle.0 done))
    (λ (close : IsOk c.work_over.result.closed → purpose.Change ≢ purpose.Look → IsClosed c.work_over.result.left). close closed (λ same. (let is = same in cc))) c.work_over.ensures.closed

pub returns-clause-memory : goal.returns-clause-memory
returns-clause-memory g c = grind arith

pub returns-in_default-clause-memory : goal.returns-in_default-clause-memory
returns-in_default-clause-memory g c = grind arith

pub returns-in_default-clause-opened : goal.returns-in_default-clause-opened
returns-in_default-clause-opened g c = grind arith

pub returns-in_default-clause-ran : goal.returns-in_default-clause-ran
returns-in_default-clause-ran g c = grind arith

pub returns-then-starts_with-clause-memory : goal.returns-then-starts_with-clause-memory
returns-then-starts_with-clause-memory g c = grind arith

pub returns-then-starts_with-clause-opened : goal.returns-then-starts_with-clause-opened
returns-then-starts_with-clause-opened g c = grind arith

pub returns-then-starts_with-clause-ran : goal.returns-then-starts_with-clause-ran
returns-then-starts_with-clause-ran g c = grind arith

pub work_over-requires-text-file : goal.work_over-requires-text-file
work_over-requires-text-file g c = grind arith
