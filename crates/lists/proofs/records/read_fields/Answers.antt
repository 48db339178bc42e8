use Rattle.std.proofs.Common.{◌≡◌, ◌<◌, ℕ, map, length, slice_set, sym, ◌∙◌, arith}
use Rattle.std.proofs.lemmas.List.{length-map, length-set}
use Rattle.csv.specs.Records.{fields_of, field_at}
use Rattle.csv.proofs.RecordFacts.{field-there}
use Rattle.lists.proofs.RecordFields.{at_set, before_set, one_more, same_places}
use Rattle.lists.proofs.records.read_fields.Goals as goal

pub returns-in_default-clause-found : goal.returns-in_default-clause-found
returns-in_default-clause-found c = absurd (field-there (fields_of c.args.row.now) c.fields.i (omega (arith, c.fields.invariant.long, c.fields-test.true)) (sym c.in_default.ensures.value))

pub fields-preserved : goal.fields-preserved
fields-preserved c =
    let before : (k : ℕ) → k < c.fields.i → field_at (map (λ t. t.now) (slice_set c.fields.texts c.fields.i c.in-Some.field)) k ≡ field_at (fields_of c.args.row.now) k
    = λ k less. before_set (λ t. t.now) c.fields.texts c.fields.i k c.in-Some.field less ∙ c.fields.invariant.so_far k less in
    let less : c.fields.i < length c.fields.texts = omega (arith, c.fields-test.true, c.len.ensures, c.if-len-texts.false, c.fields.invariant.long) in
    record {
      long = length-set c.fields.texts c.fields.i c.in-Some.field ∙ c.fields.invariant.long;
      so_far = one_more _ _ c.fields.i before (at_set (λ t. t.now) c.fields.texts c.fields.i c.in-Some.field less ∙ c.in-Some.ensures.value);
    }

pub returns-clause-are : goal.returns-clause-are
returns-clause-are c t =
    let long : length (map (λ t. t.now) c.fields.texts) ≡ length (fields_of c.args.row.now) = length-map c.fields.texts (λ t. t.now) ∙ c.fields.invariant.long in
    same_places (map (λ t. t.now) c.fields.texts) (fields_of c.args.row.now) long (λ k less. c.fields.invariant.so_far k (omega (arith, less, c.fields.invariant.long, c.fields-test.false)))
