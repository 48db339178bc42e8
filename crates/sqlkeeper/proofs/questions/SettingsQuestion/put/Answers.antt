use Rattle.std.proofs.Common.{◌≡◌, w16, to_z, of_z, arith, rules, ◌∙◌}
use Rattle.sqlite.specs.State.{HasCleanDisk}
use Rattle.sqltables.specs.Inside.{seen}
use Rattle.sqltables.specs.Schema.{v2, second_version}
use Rattle.sqltables.specs.Tables.{tables_of}
use Rattle.sqltables.proofs.Onward.{begun_then, failed, succeeded}
use Rattle.sqlkeeper.proofs.questions.SettingsQuestion.put.Goals as goal

pub returns-clause-found : goal.returns-clause-found
returns-clause-found g c s pends sound inside clean =
    let before : HasCleanDisk (seen g.T.Ledger.view c.east.new.tx) = omega (arith, clean, c.allowance.ensures.rest.survives.clean) in
    let run = c.in_ok-east.ensures.rest.running before inside in
    let same_east : to_z w16 (of_z w16 c.in_ok-east.east) ≡ c.in_ok-east.east = search rules in
    record {
      offset = same_east ∙ c.in_ok-east.ensures.found v2 (tables_of s) second_version pends inside before;
      allowance = c.in_ok-allowance.ensures.found (tables_of s) (c.in_ok-east.ensures.still v2 (tables_of s) second_version pends) run.0 clean;
    }

pub returns-clause-still : goal.returns-clause-still
returns-clause-still g c s pends = c.in_ok-allowance.ensures.still (tables_of s) (c.in_ok-east.ensures.still v2 (tables_of s) second_version pends)

pub returns-in_err-allowance-clause-rest : goal.returns-in_err-allowance-clause-rest
returns-in_err-allowance-clause-rest g c = failed c.from_residual-in_err-allowance.result (begun_then c.in_ok-east.ensures.rest c.allowance.ensures.rest) c.from_residual-in_err-allowance.ensures.0

pub returns-clause-rest : goal.returns-clause-rest
returns-clause-rest g c = succeeded _ (begun_then c.in_ok-east.ensures.rest c.in_ok-allowance.ensures.rest)
