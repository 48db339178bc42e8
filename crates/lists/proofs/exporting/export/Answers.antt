use Rattle.std.proofs.Common.{[], ◌++◌, refl, subst, arith}
use Rattle.std.proofs.lemmas.Result.{err_from_is_err_and}
use Rattle.std.specs.FinMap.{entries}
use Rattle.sigtext.specs.Counts.{CountsErrors}
use Rattle.wire.proofs.Written.{sends_both}
use Rattle.lists.specs.Lists.{line}
use Rattle.lists.proofs.AnsweredLists.{lines_none, none_table, sends_err, sends_nothing}
use Rattle.lists.specs.Exports.{export_head, files_in, IsSum, named_box}
use Rattle.lists.specs.Faults.{by_files}
use Rattle.lists.proofs.SentFiles.{adds_nothing}
use Rattle.lists.proofs.exporting.export.Goals as goal

pub returns-in_err-send_head-clause-exports : goal.returns-in_err-send_head-clause-exports
returns-in_err-send_head-clause-exports g c =
    let told = err_from_is_err_and c.from_residual.result c.from_residual.ensures.1 in
    λ s means sound honest. rw told.1 (record {
      first = [];
      are_first = record { rest = entries (files_in (named_box c.args.in_box) s); cut = refl; whole = tt };
      puts = [];
      are_puts = tt;
      put = adds_nothing _;
      table = line export_head;
      is_table = none_table _ _;
      files = sends_err c.in_err-send_head.field-0.0 told.0 c.in_err-send_head.ensures.sent;
      sum_lines = [];
      are_sums = lines_none IsSum;
      sums = sends_nothing _;
    })

pub returns-clause-exports : goal.returns-clause-exports
returns-clause-exports g c = λ s means sound honest.
    let told = c.export_files.ensures.sent s (means, sound, honest) in
    record {
      first = told.first;
      are_first = told.are_first;
      puts = told.sends.puts;
      are_puts = told.sends.are_puts;
      put = told.sends.put;
      table = line export_head ++ told.sends.rows;
      is_table = record { lines = told.sends.rows; are = told.sends.are_rows; is = refl };
      files = sends_both (line export_head) told.sends.rows _ _ _ tt _ c.in_ok-send_head.ensures.sent told.sends.files;
      sum_lines = told.sends.sum_lines;
      are_sums = told.sends.are_sums;
      sums = told.sends.sums;
    }

pub returns-clause-files_count : goal.returns-clause-files_count
returns-clause-files_count g c = subst (λ n. CountsErrors n c.export_files.new.files.faults (by_files c.export_files.result)) c.in_ok-send_head.ensures.files_count.ok c.export_files.ensures.files_count

pub returns-clause-sums_count : goal.returns-clause-sums_count
returns-clause-sums_count g c = c.export_files.ensures.sums_count

pub returns-clause-stays : goal.returns-clause-stays
returns-clause-stays g c = grind arith

pub returns-in_err-send_head-clause-files_count : goal.returns-in_err-send_head-clause-files_count
returns-in_err-send_head-clause-files_count g c = grind arith

pub returns-in_err-send_head-clause-sums_count : goal.returns-in_err-send_head-clause-sums_count
returns-in_err-send_head-clause-sums_count g c = grind arith
