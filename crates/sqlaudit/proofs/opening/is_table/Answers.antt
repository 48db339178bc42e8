use Rattle.std.proofs.Common.{◌≡◌, Some, slice_get, length, refl, sym, ◌∙◌}
use Rattle.std.proofs.lemmas.Bool.{eqb-true, eq-eqb, false≢true}
use Rattle.std.proofs.lemmas.Option.{slice_get_read, slice_get_within}
use Rattle.sqlaudit.proofs.Extents.{table_at}
use Rattle.sqlaudit.proofs.SameTexts.{tells_text}
use Rattle.sqlaudit.proofs.opening.is_table.Goals as goal

pub returns-then-eq : goal.returns-then-eq
returns-then-eq c =
    let read = c.in-Some.ensures.lookup in
    let there : slice_get c.args.tables.now c.args.at ≡ Some c.in-Some.table.now = slice_get_read c.args.tables.now (length c.args.tables.now) c.args.at c.in-Some.table.now refl read.3.0 read.1 in
    let same = (tells_text c.as_slice.result.now c.as_bytes.result.now).0 (sym c.eq.ensures ∙ c.if-eq.true) in
    let name : c.in-Some.table.now.name ≡ c.args.name.now = sym c.as_slice.ensures ∙ same ∙ c.as_bytes.ensures.value in
    let count : c.len.result ≡ length c.in-Some.table.now.columns = c.len.ensures in (
      λ e. record { table = c.in-Some.table.now; there = there; name_is = name; columns_are = sym count ∙ eqb-true c.len.result c.args.columns e },
      λ is. eq-eqb c.len.result c.args.columns (count ∙ (table_at c.args.tables.now c.args.at c.args.name.now c.args.columns c.in-Some.table.now there is).1),
    )

pub returns-else-eq : goal.returns-else-eq
returns-else-eq c =
    let read = c.in-Some.ensures.lookup in
    let there : slice_get c.args.tables.now c.args.at ≡ Some c.in-Some.table.now = slice_get_read c.args.tables.now (length c.args.tables.now) c.args.at c.in-Some.table.now refl read.3.0 read.1 in (
      λ e. absurd (false≢true (sym c.if-eq.false ∙ e)),
      λ is.
          let name = (table_at c.args.tables.now c.args.at c.args.name.now c.args.columns c.in-Some.table.now there is).0 in
          c.eq.ensures ∙ (tells_text c.as_slice.result.now c.as_bytes.result.now).1 (c.as_slice.ensures ∙ name ∙ sym c.as_bytes.ensures.value),
    )

pub returns-in_default : goal.returns-in_default
returns-in_default c = (
  λ e. absurd (false≢true e),
  λ is. c.in_default.ensures.lookup.2 (slice_get_within c.args.tables.now c.args.at is.table is.there),
)
