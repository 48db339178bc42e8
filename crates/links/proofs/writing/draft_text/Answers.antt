use Rattle.std.proofs.Common.{◌≡◌, ℕ, ◌+◌, ◌<◌, List, [], ◌∷◌, ◌++◌, length, get_or, drop, map, sym, ap, ◌∙◌, arith}
use Rattle.std.proofs.lemmas.List.{at_drop_more, at_drop_all, append-nil, length-map}
use Rattle.sigtext.specs.CanonicalQuery.{param_text}
use Rattle.sigtext.specs.UriEncode.{uri_encoded}
use Rattle.sigtext.specs.declared.encode.Slash.TheVariants.{Kept}
use Rattle.sigtext.proofs.JoinedTexts.{joined_behind, joined_behind-nil, joined_behind-cons, joined_behind-some, pieces_written}
use Rattle.links.specs.declared.orders.OrderParam.{OrderParam}
use Rattle.links.specs.Orders.{param_of}
use Rattle.links.proofs.WrittenBytes.{are_bytes, bytes_more, all_bytes}
use Rattle.links.proofs.writing.draft_text.Goals as goal

abbrev texts : List OrderParam → List (List ℕ)
texts params = map param_text (map param_of params)

-- the rest of the text, from a parameter on
at_param : (front : List ℕ) (params : List OrderParam) (i : ℕ) (d : OrderParam) → i < length params
    → joined_behind front 38 (texts (drop i params)) ≡ front ++ (param_text (param_of (get_or params i d)) ++ joined_behind (38 ∷ []) 38 (texts (drop (i + 1) params)))
at_param front params i d within =
    at_drop_more (λ (rest : List OrderParam). joined_behind front 38 (texts rest)) params i d within
    ∙ joined_behind-cons front 38 (param_text (param_of (get_or params i d))) (texts (drop (i + 1) params))

pub loop-param-init : goal.loop-param-init
loop-param-init c =
    let params = c.args.params.now in
    let some : 0 < length (texts params) = omega (arith, c.requires, length-map (map param_of params) param_text, length-map params param_of) in
    let path : c.uri_encode.new.out.items ≡ uri_encoded Kept c.args.path.now = c.in_ok-uri_encode.ensures.ok ∙ ap (λ (t : List ℕ). t ++ uri_encoded Kept c.args.path.now) c.new-text.ensures.items in
    record {
      text = ap (λ (t : List ℕ). uri_encoded Kept c.args.path.now ++ t) (sym (joined_behind-some 63 38 (texts params) some))
          ∙ ap (λ (t : List ℕ). t ++ joined_behind (63 ∷ []) 38 (texts params)) (sym path);
      bytes = λ k d before. absurd (omega (arith, before));
    }

pub loop-param-preserved : goal.loop-param-preserved
loop-param-preserved c =
    let step = at_param (c.loop-param.separator ∷ []) c.args.params.now c.loop-param.param-index _ c.loop-param-test.true in
    record {
      text = pieces_written _ _ _ _ _ _ _ (c.loop-param.invariant.text ∙ ap (λ (t : List ℕ). c.loop-param.text.items ++ t) step) c.in_ok-push.ensures.items c.in_ok-append_param.ensures.written;
      bytes = bytes_more c.args.params.now c.loop-param.param-index _ c.loop-param.invariant.bytes c.loop-param-test.true c.append_param.ensures.bytes;
    }

pub returns : goal.returns
returns c =
    let none = at_drop_all (λ (rest : List OrderParam). joined_behind (c.loop-param.separator ∷ []) 38 (texts rest)) c.args.params.now c.loop-param.param-index c.loop-param-test.false
    ∙ joined_behind-nil (c.loop-param.separator ∷ []) 38 in
    record {
      path_bytes = are_bytes c.args.path.now c.type_inv.path;
      param_bytes = all_bytes c.args.params.now c.loop-param.param-index c.loop-param.invariant.bytes c.loop-param-test.false;
      written = sym (c.loop-param.invariant.text ∙ ap (λ (t : List ℕ). c.loop-param.text.items ++ t) none ∙ append-nil c.loop-param.text.items);
    }
