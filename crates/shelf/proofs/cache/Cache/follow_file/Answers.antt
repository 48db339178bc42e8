use Rattle.std.proofs.Common.{◌≡◌, ◌+◌, rules}
use Rattle.std.specs.Prelude.{IfSome}
use Rattle.shelf.proofs.Followed.{followed_file}
use Rattle.shelf.proofs.cache.Cache.follow_file.Goals as goal

pub returns : goal.returns
returns c s after bytes sound set h =
    let next : IfSome c.checked_add-self.result (λ n. n ≡ c.args.file.now.number + 1) = search (rules) in
    followed_file s after c.args.file.now bytes sound set c.args.self.now c.set_totals.new.boxes c.totals_with-totals.result c.checked_add-self.result (c.totals_with-totals.ensures s after bytes sound set h) next c.set_totals.ensures h
