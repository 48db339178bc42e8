use Rattle.shelf.proofs.cached_keeper.CachedKeeper.new.Goals as goal

pub returns-clause-means : goal.returns-clause-means
returns-clause-means g c s = (λ m. m.0, λ m. (m, λ honest sound. c.new.ensures s))
