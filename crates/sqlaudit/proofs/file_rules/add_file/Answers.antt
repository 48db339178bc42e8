use Rattle.std.proofs.Common.{◌≡◌, ◌∙◌, ◌+◌, ap, Some, rules}
use Rattle.sigtext.specs.Bytes.{bytes_cmp}
use Rattle.boxes.proofs.Lookups.{bytes_total}
use Rattle.boxes.proofs.MapLemmas.{sets_of}
use Rattle.sqlaudit.specs.Sorting.{capped, text_of}
use Rattle.sqlaudit.proofs.file_rules.add_file.Goals as goal

pub returns : goal.returns
returns c =
    let used : c.saturating_add.result ≡ capped (c.held_by-old.result.used + c.args.size) = search rules in
    let count : c.saturating_add-2.result ≡ capped (c.held_by-old.result.count + 1) = search rules in
    record {
      totals = record { used = c.saturating_add.result; count = c.saturating_add-2.result };
      sets = sets_of bytes_cmp text_of bytes_total c.args.sums.now c.insert.new.self c.args.in_box.now (Some (record { used = c.saturating_add.result; count = c.saturating_add-2.result })) c.in_ok-insert.ensures.updates;
      used = used ∙ ap (λ n. capped (n + c.args.size)) c.held_by-old.ensures.used;
      count = count ∙ ap (λ n. capped (n + 1)) c.held_by-old.ensures.count;
    }
