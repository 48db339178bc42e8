use Rattle.std.proofs.Common.{◌≡◌, [], map, get_or, length, Some, sym, ap, ◌∙◌, rules, arith}
use Rattle.std.proofs.lemmas.Bool.{false≢true}
use Rattle.std.proofs.lemmas.Option.{same_Some}
use Rattle.std.proofs.lemmas.List.{length-map}
use Rattle.csv.specs.Records.{fields_of, field_at}
use Rattle.csv.proofs.RecordFacts.{field-there}
use Rattle.links.proofs.Texts.{not_false, not_true, texts_differ, texts_equal}
use Rattle.lists.proofs.RecordFields.{at_place, one_more, same_places}
use Rattle.lists.proofs.records.is_record.Goals as goal

pub returns-in_default : goal.returns-in_default
returns-in_default c = absurd (field-there (fields_of c.args.row.now) c.fields.i (omega (arith, c.len.ensures, c.if-len-fields.false, c.fields-test.true)) (sym c.in_default.ensures.value))

pub returns-then-ne : goal.returns-then-ne
returns-then-ne c = (λ t. absurd (false≢true t), λ is. absurd (differ is))
  where
    differ : fields_of c.args.row.now ≡ map (λ f. f.now) c.args.fields.now → ⊥
    differ is =
        let here = at_place (λ f. f.now) c.args.fields.now c.fields.i (record { ref_ptr = (0, 0); now = [] }) c.fields-test.true in
        let same = same_Some c.in-Some.field.now _ (c.in-Some.ensures.value ∙ ap (λ fs. field_at fs c.fields.i) is ∙ here) in
        texts_differ _ _ (not_true _ (sym c.if-ne.true ∙ c.ne.ensures)) same

pub fields-preserved : goal.fields-preserved
fields-preserved c =
    let same : c.in-Some.field.now ≡ (get_or c.args.fields.now c.fields.i (record { ref_ptr = (0, 0); now = [] })).now = texts_equal _ _ (not_false _ (sym c.if-ne.false ∙ c.ne.ensures)) in
    one_more _ _ c.fields.i c.fields.invariant (sym c.in-Some.ensures.value ∙ ap Some same ∙ sym (at_place (λ f. f.now) c.args.fields.now c.fields.i _ c.fields-test.true))

pub returns : goal.returns
returns c =
    let long : length (fields_of c.args.row.now) ≡ length (map (λ f. f.now) c.args.fields.now) = sym c.len.ensures ∙ c.if-len-fields.false ∙ sym (length-map c.args.fields.now (λ f. f.now)) in
    let all = same_places (fields_of c.args.row.now) (map (λ f. f.now) c.args.fields.now) long (λ k less. c.fields.invariant k (omega (arith, less, length-map c.args.fields.now (λ f. f.now), c.fields-test.false))) in
    (λ t. all, λ t. search rules)

pub returns-then-len-fields : goal.returns-then-len-fields
returns-then-len-fields c = (λ t. absurd (false≢true t), λ is. absurd (c.if-len-fields.true (c.len.ensures ∙ ap length is ∙ length-map c.args.fields.now (λ f. f.now))))
