use Rattle.std.proofs.Common.{◌≡◌, map}
use Rattle.links.proofs.desk.settings.read_texts.Given as goal

abbrev pub invariant-loop-text : goal.invariant-loop-text
invariant-loop-text l = record {
  can : (goal.iterator-loop-text).can_next l.text-iterator;
  finite : (goal.iterator-loop-text).is_finite l.text-iterator;
  so_far : map (λ t. t.items) l.texts.items ≡ map (λ t. t.now) l.yielded;
}
