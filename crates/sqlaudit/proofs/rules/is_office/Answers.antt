use Rattle.std.proofs.Common.{◌≡◌, ◌∙◌, sym, refl, subst}
use Rattle.std.proofs.lemmas.Bool.{false≢true}
use Rattle.sqlaudit.specs.Outlines.{IsOfficeEntry}
use Rattle.sqlaudit.proofs.OfficeEntries.{first_there, none_there, offset_of, same_offset}
use Rattle.sqlaudit.proofs.rules.is_office.Goals as goal

pub returns-in_default : goal.returns-in_default
returns-in_default c = (
  λ t. absurd (false≢true t),
  λ o. absurd (none_there c.args.lines.now (sym c.in_default.ensures.value ∙ refl) o.0 o.1),
)

pub returns-then-not-is_offset : goal.returns-then-not-is_offset
returns-then-not-is_offset c = (
  λ t. absurd (false≢true t),
  λ o.
      let there = first_there c.args.lines.now c.in-Some.first.now (sym c.in-Some.ensures.value) in
      sym c.if-not-is_offset.true ∙ c.is_offset.ensures.1 (offset_of c.args.lines.now c.in-Some.first.now o.0 there o.1 o.2),
)

pub returns : goal.returns
returns c =
    let there = first_there c.args.lines.now c.in-Some.first.now (sym c.in-Some.ensures.value) in (
      λ t. (
        c.in-Some.first.now.east,
        record {
          each = λ l h. (tt, c.in-Some.first.now.east, c.are_office_lines.ensures.0 t l h, refl);
          all = λ one v e. (c.in-Some.first.now, there, subst (IsOfficeEntry c.in-Some.first.now one) (let same : c.in-Some.first.now.east ≡ v = cc in same) (c.are_office_lines.ensures.0 t c.in-Some.first.now there));
        },
        c.is_offset.ensures.0 c.if-not-is_offset.false,
      ),
      λ o. c.are_office_lines.ensures.1 (λ l h. same_offset c.args.lines.now c.in-Some.first.now o.0 there o.1 l h),
    )
