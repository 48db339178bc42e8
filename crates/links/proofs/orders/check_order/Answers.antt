use Rattle.std.proofs.Common.{not, refl, ap, ◌∙◌, arith}
use Rattle.std.proofs.lemmas.Bool.{false≢true}
use Rattle.links.specs.Orders.{terms_of}
use Rattle.links.proofs.Faults.{all_sound, expires_first, headers_first, host_first, key_first, method_first, params_first, path_first, region_first, served, unserved}
use Rattle.links.proofs.orders.check_order.Goals as goal
use Rattle.links.proofs.orders.check_order.Goals.{then-order-eq0-via-then-order-eq0, then-order-eq0-via-else-order-eq0+then-order-gt-MOST_SECONDS}

pub returns-then-is_none-clause-err : goal.returns-then-is_none-clause-err
returns-then-is_none-clause-err c = method_first (terms_of c.args.order.now c.args.key.now c.args.host.now c.args.region.now) (unserved c.read.result c.args.order.now.method.now c.read.ensures.none (c.is_none.ensures ∙ ap not c.if-is_none.true))

pub returns-then-not-begins_with_slash-clause-err : goal.returns-then-not-begins_with_slash-clause-err
returns-then-not-begins_with_slash-clause-err c =
    path_first (terms_of c.args.order.now c.args.key.now c.args.host.now c.args.region.now)
    (served c.read.result c.args.order.now.method.now c.read.ensures.some (c.is_none.ensures ∙ ap not c.if-is_none.false))
    (λ is. false≢true (c.if-not-begins_with_slash.ensures.1 is))

pub returns-then-not-are_own_params-clause-err : goal.returns-then-not-are_own_params-clause-err
returns-then-not-are_own_params-clause-err c =
    params_first (terms_of c.args.order.now c.args.key.now c.args.host.now c.args.region.now)
    (served c.read.result c.args.order.now.method.now c.read.ensures.some (c.is_none.ensures ∙ ap not c.if-is_none.false)) (c.if-not-begins_with_slash.ensures.0 refl)
    (λ is. false≢true (c.if-not-are_own_params.ensures.1 is))

pub returns-then-not-are_own_headers-clause-err : goal.returns-then-not-are_own_headers-clause-err
returns-then-not-are_own_headers-clause-err c =
    headers_first (terms_of c.args.order.now c.args.key.now c.args.host.now c.args.region.now)
    (served c.read.result c.args.order.now.method.now c.read.ensures.some (c.is_none.ensures ∙ ap not c.if-is_none.false)) (c.if-not-begins_with_slash.ensures.0 refl) (c.if-not-are_own_params.ensures.0 refl)
    (λ is. false≢true (c.if-not-are_own_headers.ensures.1 is))

pub returns-then-not-is_host-clause-err : goal.returns-then-not-is_host-clause-err
returns-then-not-is_host-clause-err c =
    host_first (terms_of c.args.order.now c.args.key.now c.args.host.now c.args.region.now)
    (served c.read.result c.args.order.now.method.now c.read.ensures.some (c.is_none.ensures ∙ ap not c.if-is_none.false)) (c.if-not-begins_with_slash.ensures.0 refl) (c.if-not-are_own_params.ensures.0 refl) (c.if-not-are_own_headers.ensures.0 refl)
    (λ is. false≢true (c.if-not-is_host.ensures.1 is))

pub returns-then-not-is_region-clause-err : goal.returns-then-not-is_region-clause-err
returns-then-not-is_region-clause-err c =
    region_first (terms_of c.args.order.now c.args.key.now c.args.host.now c.args.region.now)
    (served c.read.result c.args.order.now.method.now c.read.ensures.some (c.is_none.ensures ∙ ap not c.if-is_none.false)) (c.if-not-begins_with_slash.ensures.0 refl) (c.if-not-are_own_params.ensures.0 refl) (c.if-not-are_own_headers.ensures.0 refl) (c.if-not-is_host.ensures.0 refl)
    (λ is. false≢true (c.if-not-is_region.ensures.1 is))

pub returns-then-not-is_key-clause-err : goal.returns-then-not-is_key-clause-err
returns-then-not-is_key-clause-err c =
    key_first (terms_of c.args.order.now c.args.key.now c.args.host.now c.args.region.now)
    (served c.read.result c.args.order.now.method.now c.read.ensures.some (c.is_none.ensures ∙ ap not c.if-is_none.false)) (c.if-not-begins_with_slash.ensures.0 refl) (c.if-not-are_own_params.ensures.0 refl) (c.if-not-are_own_headers.ensures.0 refl) (c.if-not-is_host.ensures.0 refl) (c.if-not-is_region.ensures.0 refl)
    (λ is. false≢true (c.if-not-is_key.ensures.1 is))

pub returns-then-order-eq0-clause-err : goal.returns-then-order-eq0-clause-err
returns-then-order-eq0-clause-err c =
    expires_first (terms_of c.args.order.now c.args.key.now c.args.host.now c.args.region.now)
    (served c.read.result c.args.order.now.method.now c.read.ensures.some (c.is_none.ensures ∙ ap not c.if-is_none.false)) (c.if-not-begins_with_slash.ensures.0 refl) (c.if-not-are_own_params.ensures.0 refl) (c.if-not-are_own_headers.ensures.0 refl) (c.if-not-is_host.ensures.0 refl) (c.if-not-is_region.ensures.0 refl) (c.if-not-is_key.ensures.0 refl)
    (λ is. elim c.then-order-eq0.branch [
      | then-order-eq0-via-then-order-eq0 w ↦ omega (arith, is.0, w.if-order-eq0.true)
      | then-order-eq0-via-else-order-eq0+then-order-gt-MOST_SECONDS w ↦ omega (arith, is.1, w.if-order-gt-MOST_SECONDS.true)
    ])

pub returns-clause-ok : goal.returns-clause-ok
returns-clause-ok c =
    all_sound (terms_of c.args.order.now c.args.key.now c.args.host.now c.args.region.now)
    (served c.read.result c.args.order.now.method.now c.read.ensures.some (c.is_none.ensures ∙ ap not c.if-is_none.false)) (c.if-not-begins_with_slash.ensures.0 refl) (c.if-not-are_own_params.ensures.0 refl) (c.if-not-are_own_headers.ensures.0 refl) (c.if-not-is_host.ensures.0 refl) (c.if-not-is_region.ensures.0 refl) (c.if-not-is_key.ensures.0 refl)
    (omega (arith, c.if-order-eq0.false), c.if-order-gt-MOST_SECONDS.false)
