-- The ordered maps of the code, and the finite maps that they mean.
pub use Rattle.boxes.proofs.MapLemmas.{not_found, some_of, key_test, apart, found-tied, sets_of, means-set, means-gone, means-same, means-empty, is_none_is}
