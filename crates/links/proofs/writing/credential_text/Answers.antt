use Rattle.std.proofs.Common.{append_assoc, append-nil, ◌∙◌}
use Rattle.std.proofs.lemmas.Result.{IfOk-weaker}
use Rattle.std.proofs.lemmas.List.Elements.{same_from_all_zip}
use Rattle.links.proofs.writing.credential_text.Goals as goal

pub returns : goal.returns
returns c = IfOk-weaker c.concat.result _ _ (λ t zip. same_from_all_zip _ _ _ zip (λ x y same. same) ∙ simp (append_assoc, append-nil)) c.concat.ensures.ok
