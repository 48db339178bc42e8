use Rattle.std.proofs.Common.{◌≡◌, ◌++◌, ◌∷◌, [], drop, map}
use Rattle.sigtext.specs.CanonicalQuery.{param_text}
use Rattle.sigtext.proofs.JoinedTexts.{joined_behind}
use Rattle.links.specs.Drafts.{target_text}
use Rattle.links.proofs.WrittenBytes.{HaveBytes}
use Rattle.links.specs.Orders.{param_of}
use Rattle.links.proofs.writing.draft_text.Given as goal

abbrev pub invariant-loop-param : goal.invariant-loop-param
invariant-loop-param l = record {
  text : target_text l.path (map param_of l.params)
      ≡ l.text.items ++ joined_behind (l.separator ∷ []) 38 (map param_text (map param_of (drop l.param-index l.params)));
  bytes : HaveBytes l.params l.param-index;
}
