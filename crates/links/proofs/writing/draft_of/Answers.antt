use Rattle.std.proofs.Common.{List, map, length, ap, subst, ◌≡◌, ◌∙◌, arith}
use Rattle.std.proofs.lemmas.List.{length-map}
use Rattle.std.proofs.lemmas.Result.{IfOk-weaker}
use Rattle.sigtext.specs.Target.{Param}
use Rattle.sigv4.specs.Scopes.{scope_of}
use Rattle.links.specs.Drafts.{DraftValues, draft_params, values_for, IsDraft}
use Rattle.links.specs.Orders.{param_of}
use Rattle.links.specs.declared.orders.OrderParam.{OrderParam}
use Rattle.links.proofs.writing.draft_of.Goals as goal

-- the values as they were written are those of the key, the scope and the order
pub returns : goal.returns
returns c =
    let five : DraftValues = values_for c.args.scope.now.key_id.now (scope_of c.args.scope.now) c.args.date.now c.args.order.now.expires c.args.names.now in
    let own : DraftValues = record { credential = c.deref.result.now; date = c.args.date.now; expires = c.as_bytes.result.now; names = c.args.names.now } in
    let credential = c.deref.ensures.value ∙ c.in_ok-credential.ensures in
    let expires = c.as_bytes.ensures.value ∙ c.format.ensures.text in
    let same : own ≡ five = λ i. record { credential = credential i; date = c.args.date.now; expires = expires i; names = c.args.names.now } in
    let params : map param_of c.deref-2.result.now ≡ draft_params five (map param_of c.args.order.now.params.now) =
    ap (λ (ps : List OrderParam). map param_of ps) c.deref-2.ensures.value ∙ c.in_ok-params.ensures ∙ ap (λ (v : DraftValues). draft_params v (map param_of c.args.order.now.params.now)) same in
    IfOk-weaker c.draft_text.result _ _ (λ t is. subst (λ (ps : List Param). IsDraft c.args.order.now.path.now ps t.items) params is) c.draft_text.ensures

pub draft_text-requires : goal.draft_text-requires
draft_text-requires c = omega (arith, ap length c.deref-2.ensures.value, length-map c.in_ok-params.params.items param_of, ap length c.in_ok-params.ensures)
