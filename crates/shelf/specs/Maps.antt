-- What the ordered maps of the code mean, in terms of look-ups.
pub use Rattle.boxes.specs.Maps.{found, MapMeans, Sets}
