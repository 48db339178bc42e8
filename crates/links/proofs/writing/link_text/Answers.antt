use Rattle.std.proofs.Common.{List, ℕ, map, take, refl, sym, ap, subst, ◌≡◌, ◌∙◌, arith}
use Rattle.std.proofs.lemmas.Result.{IfOk-weaker}
use Rattle.std.proofs.lemmas.Simd.{map-map}
use Rattle.sigtext.specs.Fields.{header_of}
use Rattle.sigtext.specs.SignedHeaders.{Header, signed_headers}
use Rattle.sigtext.specs.Rules.{AllHold}
use Rattle.sigtext.specs.SignedNames.{AreSignedNames}
use Rattle.sigtext.specs.SignedValues.{ValueRule}
use Rattle.sigtext.specs.Signing.{AreOf}
use Rattle.sigv4.specs.Signature.{CredentialScope}
use Rattle.sigtext.specs.declared.field.Field.{Field}
use Rattle.links.specs.Drafts.{DraftValues, draft_params, values_for}
use Rattle.links.specs.Orders.{Terms, terms_of}
use Rattle.links.specs.declared.orders.LinkFault.TheVariants as fault
use Rattle.links.proofs.OwnHeaders.{names_signed}
use Rattle.links.proofs.OrderedHeaders.{own_values}
use Rattle.links.proofs.SixWritten.{draft_once}
use Rattle.links.proofs.WrittenLinks.{AreTexts, drafted, draft_is, link_from}
use Rattle.links.proofs.writing.link_text.Goals as goal

-- the values of the signing parameters, the day of whose scope is that of the date
abbrev five_for : Terms → List ℕ → List ℕ → DraftValues
five_for t date names = values_for t.key_id (record { date = take 8 date; region = t.region }) date t.expires names

pub read_parts-requires-clause-target : goal.read_parts-requires-clause-target
read_parts-requires-clause-target c =
    let t : Terms = terms_of c.args.order.now c.args.key.now c.args.host.now c.args.region.now in
    let five = five_for t c.text-date.result c.deref-2.result.now in
    let draft = c.in_ok-draft.ensures in
    (t.path, draft_params five t.params, draft_is t five c.requires draft.path_bytes draft.param_bytes c.deref-3.result.now (c.deref-3.ensures.value ∙ draft.written), draft_once five t.params (c.requires fault.Params))

pub read_parts-requires-clause-names : goal.read_parts-requires-clause-names
read_parts-requires-clause-names c =
    let t : Terms = terms_of c.args.order.now c.args.key.now c.args.host.now c.args.region.now in
    let signed = names_signed t c.requires c.in_ok-fields.fields.items c.in_ok-fields.ensures.moved c.in_ok-fields.ensures.sorted in
    let text : c.deref-5.result.now ≡ signed_headers (map header_of c.in_ok-fields.fields.items) =
    c.deref-5.ensures.value ∙ c.in_ok-names.ensures ∙ ap (λ (fs : List Field). signed_headers (map header_of fs)) c.deref.ensures.value in
    let same = c.deref-4.ensures.value in
    subst (λ (fs : List Field). AreSignedNames c.deref-5.result.now (map (λ f. f.name.now) fs)) (sym same)
    (subst (λ (x : List ℕ). AreSignedNames x (map (λ f. f.name.now) c.in_ok-fields.fields.items)) (sym text) signed)

pub read_parts-requires-clause-values : goal.read_parts-requires-clause-values
read_parts-requires-clause-values c =
    let t : Terms = terms_of c.args.order.now c.args.key.now c.args.host.now c.args.region.now in
    let fields = c.in_ok-fields.fields.items in
    let values = own_values t c.requires (map header_of fields) c.in_ok-fields.ensures.moved in
    let named = subst (λ (ns : List (List ℕ)). AllHold (ValueRule (map header_of fields) ns) (map header_of fields)) (map-map (λ (h : Header). h.name) header_of fields) values in
    subst (λ (fs : List Field). AllHold (ValueRule (map header_of fs) (map (λ f. f.name.now) fs)) (map header_of fs)) (sym c.deref-4.ensures.value) named

pub returns : goal.returns
returns c =
    let t : Terms = terms_of c.args.order.now c.args.key.now c.args.host.now c.args.region.now in
    let scope : CredentialScope = record { date = take 8 c.text-date.result; region = c.args.region.now } in
    let five = five_for t c.text-date.result c.deref-2.result.now in
    let fields = c.in_ok-fields.fields.items in
    let hs = map header_of fields in
    let draft = c.in_ok-draft.ensures in
    let target = draft_is t five c.requires draft.path_bytes draft.param_bytes c.deref-3.result.now (c.deref-3.ensures.value ∙ draft.written) in
    let are = subst (λ (hs : List Header). AreOf c.in_ok-parts.parts (drafted t five hs)) (ap (λ (fs : List Field). map header_of fs) c.deref-4.ensures.value) (c.in_ok-parts.ensures t.path (draft_params five t.params) target) in
    let names : c.deref-2.result.now ≡ signed_headers hs = c.deref-2.ensures.value ∙ c.in_ok-names.ensures ∙ ap (λ (fs : List Field). signed_headers (map header_of fs)) c.deref.ensures.value in
    let signed = names_signed t c.requires fields c.in_ok-fields.ensures.moved c.in_ok-fields.ensures.sorted in
    let texts : AreTexts t five scope hs = record {
      credential = refl;
      day = refl;
      region = refl;
      date = c.text-date.ensures;
      expires = refl;
      names = subst (λ (ns : List (List ℕ)). AreSignedNames c.deref-2.result.now ns) (sym (map-map (λ (h : Header). h.name) header_of fields)) (subst (λ (x : List ℕ). AreSignedNames x (map (λ f. f.name.now) fields)) (sym names) signed);
      headers = c.in_ok-fields.ensures.moved;
    } in
    let (request, only, same) = c.signature-digits.ensures (drafted t five hs) are in
    IfOk-weaker c.final_text.result _ _ (λ out wrote.
    let (query, query_is, is) = wrote (draft_params five t.params) are.params in
    link_from t five scope hs c.signature-digits.result out.items request query c.requires texts draft.path_bytes draft.param_bytes only same query_is is) c.final_text.ensures

pub slice_bounds-final_text-end : goal.slice_bounds-final_text-end
slice_bounds-final_text-end c = grind arith
