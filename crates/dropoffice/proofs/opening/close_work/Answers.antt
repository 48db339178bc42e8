use Rattle.std.proofs.Common.{arith, inl, refl}
use Rattle.sqlite.specs.Files.{file_state}
use Rattle.dropoffice.proofs.Crashing.{left_of}
use Rattle.dropoffice.proofs.Ended.{rows_kept}
use Rattle.dropoffice.proofs.opening.close_work.Goals as goal

pub returns-in-Ok : goal.returns-in-Ok
returns-in-Ok g c =
    let trees = (file_state c.args.conn).committed.trees in
    record {
      closed = λ done. tt;
      clean = λ clean. (c.in-Ok.ensures.copied clean).was_clean;
      leaves = λ clean s keeps.
          let it = c.in-Ok.ensures.copied clean in
          record { trees = trees; alone = it.seen; keep = rows_kept (file_state c.args.conn) s it.was_clean it.was_open keeps };
      crash = λ clean s keeps whole image left.
          let it = c.in-Ok.ensures.copied clean in
          (s, record { trees = trees; alone = it.left image left; keep = rows_kept (file_state c.args.conn) s it.was_clean it.was_open keeps }, inl refl);
    }

pub returns-in-Err : goal.returns-in-Err
returns-in-Err g c =
    let now = file_state c.args.conn in
    record {
      closed = λ done. absurd (let same = done in cc);
      clean = λ clean. omega (arith, c.in-Err.ensures.err.0.quiet.clean, clean);
      leaves = λ clean s keeps. tt;
      crash = λ clean s keeps whole trees left.
          let quiet = c.in-Err.ensures.err.0.quiet in
          left_of now s (omega (arith, quiet.clean, clean)) whole trees (quiet.outcomes trees left);
    }
