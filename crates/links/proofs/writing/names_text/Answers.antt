use Rattle.std.proofs.Common.{◌≡◌, ℕ, ◌+◌, ◌<◌, List, [], ◌∷◌, ◌++◌, length, get_or, drop, map, sym, ap, ◌∙◌}
use Rattle.std.proofs.lemmas.List.{at_drop_more, at_drop_all, append-nil}
use Rattle.sigtext.specs.Fields.{header_of}
use Rattle.sigtext.specs.declared.field.Field.{Field}
use Rattle.sigtext.proofs.JoinedTexts.{joined_behind, joined_behind-nil, joined_behind-cons, joined_behind-nothing, pieces_written}
use Rattle.links.proofs.writing.names_text.Goals as goal

abbrev names : List Field → List (List ℕ)
names fields = map (λ s. s.name) (map header_of fields)

-- the rest of the text, from a field on
at_field : (front : List ℕ) (fields : List Field) (i : ℕ) (d : Field) → i < length fields
    → joined_behind front 59 (names (drop i fields)) ≡ front ++ ((get_or fields i d).name.now ++ joined_behind (59 ∷ []) 59 (names (drop (i + 1) fields)))
at_field front fields i d within =
    at_drop_more (λ (rest : List Field). joined_behind front 59 (names rest)) fields i d within
    ∙ joined_behind-cons front 59 (get_or fields i d).name.now (names (drop (i + 1) fields))

pub loop-field-init : goal.loop-field-init
loop-field-init c =
    joined_behind-nothing 59 (names c.args.fields.now)
    ∙ ap (λ (t : List ℕ). t ++ joined_behind [] 59 (names c.args.fields.now)) (sym c.new-text.ensures.items)

pub loop-field-preserved : goal.loop-field-preserved
loop-field-preserved c =
    let step = at_field c.loop-field.separator.now c.args.fields.now c.loop-field.field-index _ c.loop-field-test.true in
    pieces_written _ _ _ _ _ _ _ (c.loop-field.invariant ∙ ap (λ (t : List ℕ). c.loop-field.text.items ++ t) step) c.in_ok-extend_from_slice.ensures.items c.in_ok-extend_from_slice-2.ensures.items

pub returns : goal.returns
returns c =
    let none = at_drop_all (λ (rest : List Field). joined_behind c.loop-field.separator.now 59 (names rest)) c.args.fields.now c.loop-field.field-index c.loop-field-test.false
    ∙ joined_behind-nil c.loop-field.separator.now 59 in
    sym (c.loop-field.invariant ∙ ap (λ (t : List ℕ). c.loop-field.text.items ++ t) none ∙ append-nil c.loop-field.text.items)
