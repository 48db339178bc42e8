use Rattle.std.proofs.Common.{◌≡◌, ◌∙◌, ◌+◌, ◌++◌, ◌-◌, ◌≤◌, ℕ, pos, [], get_or, to_z, of_z, w64, length, rules, arith, refl, subst}
use Rattle.std.specs.Prelude.{Contains, MatchBool}
use Rattle.boxes.specs.State.{place_cmp}
use Rattle.boxes.proofs.Lookups.{place_total}
use Rattle.boxes.proofs.FileTotals.{place_same}
use Rattle.sqltables.specs.Inside.{seen}
use Rattle.sqlite.specs.State.{HasCleanDisk}
use Rattle.sqltables.specs.Schema.{Version}
use Rattle.sqlaudit.specs.declared.lines.FileLine.{FileLine}
use Rattle.sqlaudit.specs.Lines.{IsFileLine}
use Rattle.sqlaudit.specs.Opened.{HasBytes, LacksBytes}
use Rattle.sqlaudit.specs.Sorting.{AreFiled, AreUnfiled, IsFiled, spot_of}
use Rattle.sqlaudit.proofs.Entries.{start}
use Rattle.sqlaudit.proofs.FileEntries.{no_sums}
use Rattle.sqlaudit.proofs.LongTexts.{files_between, file_shown}
use Rattle.sqlaudit.proofs.PortionRows.{ReadsOn, GoesFrom, none_read, portioned_goes}
use Rattle.sqlaudit.proofs.WalkedFiles.{OpensWhole, opens_files, seen_then, unfiled_portion, lacking_portion, walked_on, all_walked}
use Rattle.sqltables.proofs.Onward.{and_then, failed, same_itself, same_then, succeeded}
use Rattle.sqlaudit.proofs.walking.test_files.Given as given
use Rattle.sqlaudit.proofs.walking.test_files.Goals.{In_ok-lines}
use Rattle.sqlaudit.proofs.walking.test_files.Goals as goal

module _ (g : given.Over) (c : In_ok-lines g) where
  -- the files of this portion were read
  reads_on : ReadsOn IsFileLine files_between (seen g.T.Ledger.view c.loop-at.tx) (seen g.T.Ledger.view c.list_between.new.tx) (get_or c.args.numbers.now c.loop-at.at (pos 0)) (get_or c.args.numbers.now (c.loop-at.at + c.min.result - 1) (pos 0)) c.in_ok-lines.lines.items
  reads_on =
      let numbers = c.args.numbers.now in
      let at = c.loop-at.at in
      let end = at + c.min.result in
      let first : to_z w64 (of_z w64 (get_or numbers at (pos 0))) ≡ get_or numbers at (pos 0) = search rules in
      let last : to_z w64 (of_z w64 (get_or numbers (end - 1) (pos 0))) ≡ get_or numbers (end - 1) (pos 0) = search rules in
      record {
        read = rw (first, last) at c.in_ok-lines.ensures.read;
        running = c.in_ok-lines.ensures.rest.running;
        uncommitted = c.list_between.ensures.rest.uncommitted;
        survives = c.list_between.ensures.rest.survives;
      }

  -- the portion ends within the rowids
  ends_within : c.loop-at.at + c.min.result ≤ length c.args.numbers.now
  ends_within = search rules

pub loop-at-init : goal.loop-at-init
loop-at-init g c =
    let entry = seen g.T.Ledger.view c.args.tx.now in (
      same_itself,
      record {
        done = [];
        portioned = none_read IsFileLine files_between entry c.args.numbers.now;
        filed = λ rs h. rw (c.new-files.ensures.empty, c.new-sums.ensures.empty) (start place_cmp place_total place_same spot_of (λ (n : ℕ). n) (IsFiled rs), no_sums rs);
        bytes = λ v opens clean file there. absurd (omega (arith, there.1));
      },
    )

pub returns-then-not-branch-clause-read : goal.returns-then-not-branch-clause-read
returns-then-not-branch-clause-read g c rs held are v ours schema whole running clean =
    let entry = seen g.T.Ledger.view c.args.tx.now in
    let mid = seen g.T.Ledger.view c.loop-at.tx in
    let now = seen g.T.Ledger.view c.list_between.new.tx in
    let numbers = c.args.numbers.now in
    let at = c.loop-at.at in
    let end = at + c.min.result in
    let more = c.in_ok-lines.lines.items in
    let lines = (goal.at.returns-then-not-branch-clause-read g c).In_ok-lines in
    let next = reads_on g lines in
    let within = ends_within g lines in
    let w = c.loop-at.invariant.1 in
    let unfiled = subst (λ b. MatchBool b (AreFiled rs (w.done ++ c.deref.result.now) c.add_lines.new.files c.add_lines.new.sums) (AreUnfiled rs (w.done ++ c.deref.result.now))) c.if-not-branch.true
    (c.in_ok-add_lines.ensures rs w.done held (w.filed rs held)) in
    unfiled_portion entry mid now c.args.receipts.now numbers at end c.loop-at.files c.loop-at.sums w more next within rs v (record { version = ours; schema = schema; whole = whole; running = running }) clean
    (subst (λ ls. AreUnfiled rs (w.done ++ ls)) c.deref.ensures.value unfiled)

pub returns-then-not-branch-clause-same : goal.returns-then-not-branch-clause-same
returns-then-not-branch-clause-same g c v ours schema whole running clean =
    let entry = seen g.T.Ledger.view c.args.tx.now in
    let mid = seen g.T.Ledger.view c.loop-at.tx in
    let now = seen g.T.Ledger.view c.list_between.new.tx in
    let numbers = c.args.numbers.now in
    let at = c.loop-at.at in
    let end = at + c.min.result in
    let more = c.in_ok-lines.lines.items in
    let lines = (goal.at.returns-then-not-branch-clause-same g c).In_ok-lines in
    let next = reads_on g lines in
    let within = ends_within g lines in
    (seen_then entry mid now c.args.receipts.now numbers at end c.loop-at.files c.loop-at.sums c.loop-at.invariant.1 more next within v (record { version = ours; schema = schema; whole = whole; running = running }) clean).same

pub returns-then-not-branch-2-clause-read : goal.returns-then-not-branch-2-clause-read
returns-then-not-branch-2-clause-read g c rs held are v ours schema whole running clean =
    let entry = seen g.T.Ledger.view c.args.tx.now in
    let mid = seen g.T.Ledger.view c.loop-at.tx in
    let now = seen g.T.Ledger.view c.list_between.new.tx in
    let then = seen g.T.Ledger.view c.have_bytes.new.tx in
    let given = c.args.receipts.now in
    let numbers = c.args.numbers.now in
    let at = c.loop-at.at in
    let end = at + c.min.result in
    let more = c.in_ok-lines.lines.items in
    let lines = (goal.at.returns-then-not-branch-2-clause-read g c).In_ok-lines in
    let next = reads_on g lines in
    let within = ends_within g lines in
    let goes : GoesFrom now then = record {
      uncommitted = c.have_bytes.ensures.rest.uncommitted;
      survives = c.have_bytes.ensures.rest.survives;
      running = c.in_ok-have_bytes.ensures.rest.running;
      same = λ v ours schema running clean. c.in_ok-have_bytes.ensures.same v ours schema running clean;
    } in
    let read = λ (v : Version) (opens : OpensWhole v now) (clean : HasCleanDisk then).
    subst (λ ls. MatchBool c.in_ok-have_bytes.field-0 ((file : FileLine) → Contains ls file → HasBytes (now.now.trees 9) given file) ((file : FileLine) × Contains ls file × LacksBytes (now.now.trees 9) given file))
    c.deref-in-loop-at.ensures.value (c.in_ok-have_bytes.ensures.read v opens.version opens.schema opens.whole opens.running clean) in
    lacking_portion entry mid now given numbers at end c.loop-at.files c.loop-at.sums c.loop-at.invariant.1 more next within then goes c.in_ok-have_bytes.field-0 read c.if-not-branch-2.true rs v
    (record { version = ours; schema = schema; whole = whole; running = running }) clean

pub returns-then-not-branch-2-clause-same : goal.returns-then-not-branch-2-clause-same
returns-then-not-branch-2-clause-same g c v ours schema whole running clean =
    let entry = seen g.T.Ledger.view c.args.tx.now in
    let mid = seen g.T.Ledger.view c.loop-at.tx in
    let now = seen g.T.Ledger.view c.list_between.new.tx in
    let then = seen g.T.Ledger.view c.have_bytes.new.tx in
    let given = c.args.receipts.now in
    let numbers = c.args.numbers.now in
    let at = c.loop-at.at in
    let end = at + c.min.result in
    let more = c.in_ok-lines.lines.items in
    let lines = (goal.at.returns-then-not-branch-2-clause-same g c).In_ok-lines in
    let next = reads_on g lines in
    let within = ends_within g lines in
    let goes : GoesFrom now then = record {
      uncommitted = c.have_bytes.ensures.rest.uncommitted;
      survives = c.have_bytes.ensures.rest.survives;
      running = c.in_ok-have_bytes.ensures.rest.running;
      same = λ v ours schema running clean. c.in_ok-have_bytes.ensures.same v ours schema running clean;
    } in
    let early : HasCleanDisk now = omega (arith, clean, goes.survives.clean) in
    let s = seen_then entry mid now given numbers at end c.loop-at.files c.loop-at.sums c.loop-at.invariant.1 more next within v (record { version = ours; schema = schema; whole = whole; running = running }) early in
    goes.same v ours s.schema s.running clean ∙ s.same

pub loop-at-preserved : goal.loop-at-preserved
loop-at-preserved g c =
    let entry = seen g.T.Ledger.view c.args.tx.now in
    let mid = seen g.T.Ledger.view c.loop-at.tx in
    let now = seen g.T.Ledger.view c.list_between.new.tx in
    let then = seen g.T.Ledger.view c.have_bytes.new.tx in
    let given = c.args.receipts.now in
    let numbers = c.args.numbers.now in
    let at = c.loop-at.at in
    let end = at + c.min.result in
    let more = c.in_ok-lines.lines.items in
    let lines = (goal.at.loop-at-preserved g c).In_ok-lines in
    let next = reads_on g lines in
    let within = ends_within g lines in
    let goes : GoesFrom now then = record {
      uncommitted = c.have_bytes.ensures.rest.uncommitted;
      survives = c.have_bytes.ensures.rest.survives;
      running = c.in_ok-have_bytes.ensures.rest.running;
      same = λ v ours schema running clean. c.in_ok-have_bytes.ensures.same v ours schema running clean;
    } in
    let read = λ (v : Version) (opens : OpensWhole v now) (clean : HasCleanDisk then).
    subst (λ ls. MatchBool c.in_ok-have_bytes.field-0 ((file : FileLine) → Contains ls file → HasBytes (now.now.trees 9) given file) ((file : FileLine) × Contains ls file × LacksBytes (now.now.trees 9) given file))
    c.deref-in-loop-at.ensures.value (c.in_ok-have_bytes.ensures.read v opens.version opens.schema opens.whole opens.running clean) in
    let w = c.loop-at.invariant.1 in (
      same_then (same_then c.loop-at.invariant.0 c.list_between.ensures.rest.same_reference) c.have_bytes.ensures.rest.same_reference,
      walked_on entry mid now given numbers at end c.loop-at.files c.loop-at.sums w more next within then goes c.in_ok-have_bytes.field-0 read c.if-not-branch-2.false c.add_lines.new.files c.add_lines.new.sums
          (λ rs held. subst (λ ls. AreFiled rs (w.done ++ ls) c.add_lines.new.files c.add_lines.new.sums) c.deref.ensures.value
          (subst (λ b. MatchBool b (AreFiled rs (w.done ++ c.deref.result.now) c.add_lines.new.files c.add_lines.new.sums) (AreUnfiled rs (w.done ++ c.deref.result.now))) c.if-not-branch.false
          (c.in_ok-add_lines.ensures rs w.done held (w.filed rs held)))),
    )

pub returns-clause-read : goal.returns-clause-read
returns-clause-read g c rs held are v ours schema whole running clean =
    all_walked (seen g.T.Ledger.view c.args.tx.now) (seen g.T.Ledger.view c.loop-at.tx) c.args.receipts.now c.args.numbers.now c.loop-at.at (record { files = c.loop-at.files; sums = c.loop-at.sums }) c.loop-at.invariant.1 c.loop-at-test.false
    rs held are v (record { version = ours; schema = schema; whole = whole; running = running }) clean

pub returns-clause-same : goal.returns-clause-same
returns-clause-same g c v ours schema whole running clean =
    c.loop-at.invariant.1.portioned.same v 6 [] file_shown (opens_files v (seen g.T.Ledger.view c.args.tx.now) (record { version = ours; schema = schema; whole = whole; running = running })) clean

pub returns-in_err-lines-clause-rest : goal.returns-in_err-lines-clause-rest
returns-in_err-lines-clause-rest g c =
    let walked = portioned_goes c.loop-at.invariant.0 c.loop-at.invariant.1.portioned c.loop-at.at in
    and_then (λ running. running) (λ running. (running.0, running.0)) walked (failed c.from_residual.result c.list_between.ensures.rest c.from_residual.ensures.0)

pub returns-in_err-add_lines-clause-rest : goal.returns-in_err-add_lines-clause-rest
returns-in_err-add_lines-clause-rest g c =
    let walked = portioned_goes c.loop-at.invariant.0 c.loop-at.invariant.1.portioned c.loop-at.at in
    let read = and_then (λ running. running) (λ running. (running.0, running.0)) walked c.in_ok-lines.ensures.rest in
    failed c.from_residual-in_err-add_lines.result read c.from_residual-in_err-add_lines.ensures.0

pub returns-then-not-branch-clause-rest : goal.returns-then-not-branch-clause-rest
returns-then-not-branch-clause-rest g c =
    let walked = portioned_goes c.loop-at.invariant.0 c.loop-at.invariant.1.portioned c.loop-at.at in
    let read = and_then (λ running. running) (λ running. (running.0, running.0)) walked c.in_ok-lines.ensures.rest in
    succeeded _ read

pub returns-in_err-have_bytes-clause-rest : goal.returns-in_err-have_bytes-clause-rest
returns-in_err-have_bytes-clause-rest g c =
    let walked = portioned_goes c.loop-at.invariant.0 c.loop-at.invariant.1.portioned c.loop-at.at in
    let read = and_then (λ running. running) (λ running. (running.0, running.0)) walked c.in_ok-lines.ensures.rest in
    and_then (λ running. running) (λ running. (running, running)) read (failed c.from_residual-in_err-have_bytes.result c.have_bytes.ensures.rest c.from_residual-in_err-have_bytes.ensures.0)

pub returns-then-not-branch-2-clause-rest : goal.returns-then-not-branch-2-clause-rest
returns-then-not-branch-2-clause-rest g c =
    let walked = portioned_goes c.loop-at.invariant.0 c.loop-at.invariant.1.portioned c.loop-at.at in
    let read = and_then (λ running. running) (λ running. (running.0, running.0)) walked c.in_ok-lines.ensures.rest in
    and_then (λ running. running) (λ running. (running, running)) read (succeeded _ c.in_ok-have_bytes.ensures.rest)

pub returns-clause-rest : goal.returns-clause-rest
returns-clause-rest g c = portioned_goes c.loop-at.invariant.0 c.loop-at.invariant.1.portioned _

pub bounds-numbers-at : goal.bounds-numbers-at
bounds-numbers-at g c = grind arith

pub bounds-numbers-end : goal.bounds-numbers-end
bounds-numbers-end g c = grind arith

pub offset_bounds-numbers-at : goal.offset_bounds-numbers-at
offset_bounds-numbers-at g c = grind arith

pub offset_bounds-numbers-end : goal.offset_bounds-numbers-end
offset_bounds-numbers-end g c = grind arith

pub overflow_add-end : goal.overflow_add-end
overflow_add-end g c = grind arith

pub overflow_sub-end : goal.overflow_sub-end
overflow_sub-end g c = grind arith
