use Rattle.std.proofs.Common.{sym, arith}
use Rattle.shelf.proofs.Followed.{fits_count, fits_used, place, stored, totals_after}
use Rattle.shelf.proofs.cache.Cache.totals_with.Goals as goal

pub returns : goal.returns
returns c s after bytes sound set h =
    let file = c.args.file.now in
    totals_after s after file bytes sound set c.set.result (c.set.ensures s (place s after file bytes sound set) (stored s after file bytes sound set) (c.in_ok-held.ensures s h) (sym set.file.size) (c.in_ok-stood.ensures s h)
    (fits_used s after file bytes sound set) (fits_count s after file bytes sound set))

pub returns-in_err-held : goal.returns-in_err-held
returns-in_err-held c = grind arith

pub returns-in_err-stood : goal.returns-in_err-stood
returns-in_err-stood c = grind arith
