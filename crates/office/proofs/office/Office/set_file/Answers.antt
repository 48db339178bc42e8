use Rattle.std.proofs.Common.{inl, inr, Err, Ok, refl, arith}
use Rattle.boxes.specs.declared.change.Change.TheVariants as change
use Rattle.office.specs.Crashes.{changed}
use Rattle.office.proofs.Holding.{holds_less}
use Rattle.office.proofs.KeeperCalls.{changed_holds}
use Rattle.office.proofs.office.Office.set_file.Goals as goal

pub returns-in-Ok-clause-sets : goal.returns-in-Ok-clause-sets
returns-in-Ok-clause-sets g c s after bytes kept staged set = record {
  means = record {
    meant = c.in-Ok.ensures.made s after kept.means kept.sound (bytes, staged, set);
    lasts = changed (c.in-Ok.ensures.durable s after kept.means kept.sound (bytes, staged, set) kept.is_honest);
  };
  sound = c.law_of_changes.ensures s after (change.SetFile c.args.file) kept.sound (bytes, tt, set);
}

pub returns-in-Err-clause-crash : goal.returns-in-Err-clause-crash
returns-in-Err-clause-crash g c s after bytes kept staged set = c.in-Err.ensures.crash s after kept.means kept.sound (bytes, staged, set) kept.is_honest

pub returns-in-Ok-clause-unstaged : goal.returns-in-Ok-clause-unstaged
returns-in-Ok-clause-unstaged g c = inl (c.in-Ok.ensures.emptied tt)

pub returns-in-Err-clause-unstaged : goal.returns-in-Err-clause-unstaged
returns-in-Err-clause-unstaged g c = inr c.in-Err.ensures.count.err

pub returns-in-Ok-clause-rest : goal.returns-in-Ok-clause-rest
returns-in-Ok-clause-rest g c = holds_less (λ is. absurd is) (changed_holds (Ok tt) c.in-Ok.ensures.honest c.in-Ok.ensures.opened c.in-Ok.ensures.count c.in-Ok.ensures.group)

pub returns-in-Err-clause-rest : goal.returns-in-Err-clause-rest
returns-in-Err-clause-rest g c = holds_less (λ _. refl) (changed_holds {T = Unit {0}} (Err _) c.in-Err.ensures.honest c.in-Err.ensures.opened c.in-Err.ensures.count c.in-Err.ensures.group)

pub returns-in-Err-clause-same : goal.returns-in-Err-clause-same
returns-in-Err-clause-same g c = c.in-Err.ensures.same

pub returns-in-Err-clause-sets : goal.returns-in-Err-clause-sets
returns-in-Err-clause-sets g c = grind arith

pub returns-in-Ok-clause-crash : goal.returns-in-Ok-clause-crash
returns-in-Ok-clause-crash g c = grind arith
